-- Where the item at a place stands.
use Rattle.std.proofs.Common.{◌≡◌, ℕ, zero, suc, ◌+◌, ◌-◌, ◌<◌, ◌≤◌, nat_le, true, false, List, [], ◌∷◌, length, take, get_or, subst, ap, ◌∙◌, inl, inr, arith}
use Rattle.std.specs.List.Sorted.{IsPartitionedBy, IsPartitionPoint}
use Rattle.std.proofs.lemmas.Bool.{cases_order}
use Rattle.std.proofs.lemmas.List.{take_all}
use Rattle.std.proofs.lemmas.Bool.Decides.{nat_tests}
use Rattle.chunked_list.specs.Chunks.{items_in, joined, starts, IsInside, place_of}
use Rattle.chunked_list.specs.declared.chunk.Chunk.{Chunk}
use Rattle.chunked_list.proofs.Numbers.{length-starts, start_is, front-rises, front-suc}

upto_holds : (n m : ℕ) → n ≤ m → nat_le n m ≡ true
upto_holds n m h = grind (arith, nat_tests)

holds_upto : (n m : ℕ) → nat_le n m ≡ true → n ≤ m
holds_upto n m h = grind (arith, nat_tests)

fails_above : (n m : ℕ) → nat_le n m ≡ false → m < n
fails_above n m h = grind (arith, nat_tests)

module _ {T : Type 0} (cs : List (Chunk T)) (fs : List ℕ) (place : ℕ) (right : fs ≡ starts 0 cs) where
  as_many : length fs ≡ length cs
  as_many = ap length right ∙ length-starts 0 cs

  pub some_first : place < length (joined cs) → 0 < length fs
  some_first inside = omega (arith, as_many, some_chunk cs inside)
    where
      some_chunk : (ds : List (Chunk T)) → place < length (joined ds) → 0 < length ds
      some_chunk [] within = absurd (omega (arith, within))
      some_chunk (c ∷ ds) within = omega arith

  pub first_is : (i d : ℕ) → i < length cs → get_or fs i d ≡ length (joined (take i cs))
  first_is i d inside = ap (λ l. get_or l i d) right ∙ start_is cs i d inside

  pub parted : IsPartitionedBy (λ f. nat_le f place) fs
  parted i j d le lt holds =
      upto_holds _ place (omega (
        arith,
        holds_upto _ place holds,
        first_is j d (omega (arith, lt, as_many)),
        first_is i d (omega (arith, le, lt, as_many)),
        front-rises cs i j le,
      ))

  first_before : (ds : List (Chunk T)) (p : ℕ) → place < length (joined ds) →
      IsPartitionPoint (λ f. nat_le f place ≡ true) (λ f. nat_le f place ≡ false) (starts 0 ds) p → 1 ≤ p
  first_before [] p inside point = absurd (omega (arith, inside))
  first_before (c ∷ ds) zero inside point = absurd (omega (arith, fails_above 0 place (point.1 0 0 (omega arith) (omega arith))))
  first_before (c ∷ ds) (suc p) inside point = omega arith

  pub some_before : (p : ℕ) → place < length (joined cs) → IsPartitionPoint (λ f. nat_le f place ≡ true) (λ f. nat_le f place ≡ false) fs p → 1 ≤ p
  some_before p inside point =
      first_before cs p inside
      (subst (λ l. IsPartitionPoint (λ f. nat_le f place ≡ true) (λ f. nat_le f place ≡ false) l p) right point)

  module _ (p d : ℕ) (inside : place < length (joined cs)) (upto : p ≤ length fs)
      (point : IsPartitionPoint (λ f. nat_le f place ≡ true) (λ f. nat_le f place ≡ false) fs p) where
    pub before_place : get_or fs (p - 1) d ≤ place
    before_place = holds_upto _ place (point.0 (p - 1) d (omega arith) (omega (arith, some_before p inside point)))

    before_next : (q : ℕ) → p ≡ suc q → place < length (joined (take (suc q) cs))
    before_next q e = elim (cases_order p (length cs)) [
      | inl all ↦ omega (arith, inside, ap (λ l. length (joined l)) (take_all (suc q) cs (omega (arith, e, all))))
      | inr apart ↦ elim apart [
        | inl lt ↦ omega (
          arith,
          fails_above _ place (point.1 p d (omega arith) (omega (arith, lt, as_many))),
          first_is p d lt,
          ap (λ n. length (joined (take n cs))) e,
        )
        | inr gt ↦ absurd (omega (arith, gt, upto, as_many))
      ]
    ]

    within : (q : ℕ) → p ≡ suc q → (e : Chunk T) → place < length (joined (take q cs)) + length (items_in (get_or cs q e))
    within q e x = omega (arith, before_next q e, front-suc cs q x (omega (arith, upto, e, as_many)))

    pub here : (p - 1) < length cs
    here = omega (arith, some_before p inside point, upto, as_many)

    pub in_chunk : IsInside cs (record { chunk = p - 1; at = place - get_or fs (p - 1) d })
    in_chunk = record {
      chunk = here;
      at = λ e. omega (arith, within (p - 1) (omega (arith, some_before p inside point)) e, first_is (p - 1) d here, before_place);
    }

    pub at_place : place_of cs (record { chunk = p - 1; at = place - get_or fs (p - 1) d }) ≡ place
    at_place = omega (arith, first_is (p - 1) d here, before_place)
