-- Where a list in chunks is parted.
use Rattle.std.proofs.Common.{◌≡◌, ℕ, ◌+◌, ◌-◌, ◌<◌, ◌≤◌, Bool, true, false, List, [], ◌∷◌, length, take, get_or, Some, None, slice_get, refl, ap, sym, ◌∙◌, inl, inr, arith}
use Rattle.std.specs.List.Sorted.{IsPartitionedBy, IsPartitionPoint}
use Rattle.std.proofs.lemmas.Bool.{cases_Bool, cases_order, true≢false}
use Rattle.std.proofs.lemmas.List.{take_all}
use Rattle.chunked_list.specs.Chunks.{items_in, joined, begins, first_passes, AreFilled}
use Rattle.chunked_list.specs.declared.chunk.Chunk.{Chunk}
use Rattle.chunked_list.proofs.Edits.{get_in_chunk}
use Rattle.chunked_list.proofs.Numbers.{front-next, front-upto, front-rises}
use Rattle.chunked_list.proofs.Splits.{filled-at}

-- a list is parted where the item before passes and the one behind doesn't
pub point_from_edges : {X : Type 0} (p : X → Bool) (xs : List X) (r : ℕ) → r ≤ length xs →
    ((d : X) → 0 < r → p (get_or xs (r - 1) d) ≡ true) → ((d : X) → r < length xs → p (get_or xs r d) ≡ false) →
    IsPartitionedBy p xs → IsPartitionPoint (λ x. p x ≡ true) (λ x. p x ≡ false) xs r
point_from_edges p xs r upto front back parted = (
  λ k d from below. parted k (r - 1) d (omega arith) (omega arith) (front d (omega arith)),
  λ k d from below. elim (cases_Bool (p (get_or xs k d))) [
    | inl passes ↦ absurd (true≢false (sym (parted r k d from below passes) ∙ back d (omega arith)))
    | inr fails ↦ fails
  ],
)

first_is : {T : Type 0} (p : T → Bool) (xs : List T) (d : T) → 0 < length xs → first_passes p xs ≡ p (get_or xs 0 d)
first_is p [] d some = absurd (omega (arith, some))
first_is p (x ∷ xs) d some = refl

pub first_got : {T : Type 0} (p : T → Bool) (xs : List T) (x : T) → Some x ≡ slice_get xs 0 → p x ≡ first_passes p xs
first_got p [] x got = absurd (nothing got)
  where
    nothing : Some x ≡ None → ⊥
    nothing h = cc
first_got p (y ∷ ys) x got = ap p (same got)
  where
    same : Some x ≡ Some y → x ≡ y
    same h = cc

head : {T : Type 0} (xs : List T) → 0 < length xs → T
head [] some = absurd (omega (arith, some))
head (x ∷ xs) some = x

module _ {T : Type 0} (p : T → Bool) (cs : List (Chunk T)) (filled : AreFilled cs) (parted : IsPartitionedBy p (joined cs)) where
  get_first : (i : ℕ) (c : Chunk T) (d : T) → i < length cs → get_or (joined cs) (length (joined (take i cs))) d ≡ get_or (items_in (get_or cs i c)) 0 d
  get_first i c d inside =
      ap (λ n. get_or (joined cs) n d) (omega arith) ∙ get_in_chunk cs i 0 c d inside (filled-at cs filled i c inside).some

  begins_is : (i : ℕ) (c : Chunk T) (d : T) → i < length cs → begins p (get_or cs i c) ≡ p (get_or (joined cs) (length (joined (take i cs))) d)
  begins_is i c d inside =
      first_is p (items_in (get_or cs i c)) d (filled-at cs filled i c inside).some ∙ ap p (sym (get_first i c d inside))

  first_inside : (i : ℕ) (c : Chunk T) → i < length cs → length (joined (take i cs)) < length (joined cs)
  first_inside i c inside = omega (arith, front-next cs i c inside, front-upto cs (i + 1), (filled-at cs filled i c inside).some)

  pub parted_begins : IsPartitionedBy (begins p) cs
  parted_begins i j c le lt holds =
      let d : T = head (items_in (get_or cs j c)) (filled-at cs filled j c lt).some in
      let inside : i < length cs = omega (arith, le, lt) in
      begins_is i c d inside
      ∙ parted (length (joined (take i cs))) (length (joined (take j cs))) d (front-rises cs i j le) (first_inside j c lt) (sym (begins_is j c d lt) ∙ holds)

  pub parted_inside : (i : ℕ) (c : Chunk T) → i < length cs → IsPartitionedBy p (items_in (get_or cs i c))
  parted_inside i c inside k j d le lt holds =
      ap p (sym (get_in_chunk cs i k c d inside (omega (arith, le, lt))))
      ∙ parted (length (joined (take i cs)) + k) (length (joined (take i cs)) + j) d (omega (arith, le)) (omega (arith, lt, front-next cs i c inside, front-upto cs (i + 1)))
      (ap p (get_in_chunk cs i j c d inside lt) ∙ holds)

  module _ (begun : ℕ) (upto : begun ≤ length cs) (point : IsPartitionPoint (λ c. begins p c ≡ true) (λ c. begins p c ≡ false) cs begun) where
    pub none_begun : begun ≡ 0 → IsPartitionPoint (λ x. p x ≡ true) (λ x. p x ≡ false) (joined cs) 0
    none_begun none = point_from_edges p (joined cs) 0 (omega arith) (λ d some. absurd (omega (arith, some))) (λ d some. first d some) parted
      where
        some_chunk : (ds : List (Chunk T)) → 0 < length (joined ds) → (Chunk T) × (0 < length ds)
        some_chunk [] some = absurd (omega (arith, some))
        some_chunk (c ∷ ds) some = (c, omega arith)

        first : (d : T) → 0 < length (joined cs) → p (get_or (joined cs) 0 d) ≡ false
        first d some =
            let c = some_chunk cs some in
            sym (begins_is 0 c.0 d c.1) ∙ point.1 0 c.0 (omega (arith, none)) c.1

    module _ (last q : ℕ) (c : Chunk T) (last_is : last + 1 ≡ begun) (within : q ≤ length (items_in (get_or cs last c)))
        (inner : IsPartitionPoint (λ x. p x ≡ true) (λ x. p x ≡ false) (items_in (get_or cs last c)) q) where
      here : last < length cs
      here = omega (arith, last_is, upto)

      some_pass : 0 < q
      some_pass = elim (cases_order q 0) [
        | inl none ↦ absurd (true≢false
            (sym (point.0 last c (omega arith) (omega (arith, last_is)))
            ∙ (first_is p (items_in (get_or cs last c)) d some ∙ inner.1 0 d (omega (arith, none)) some)))
        | inr apart ↦ omega (arith, apart)
      ]
        where
          some : 0 < length (items_in (get_or cs last c))
          some = (filled-at cs filled last c here).some

          d : T
          d = head (items_in (get_or cs last c)) some

      pub point_bound : length (joined (take last cs)) + q ≤ length (joined cs)
      point_bound = omega (arith, within, front-next cs last c here, front-upto cs (last + 1))

      front_edge : (d : T) → p (get_or (joined cs) (length (joined (take last cs)) + q - 1) d) ≡ true
      front_edge d =
          ap (λ n. p (get_or (joined cs) n d)) (omega (arith, some_pass))
          ∙ (ap p (get_in_chunk cs last (q - 1) c d here (omega (arith, some_pass, within))) ∙ inner.0 (q - 1) d (omega arith) (omega (arith, some_pass)))

      next_chunk : q ≡ length (items_in (get_or cs last c)) → length (joined (take last cs)) + q < length (joined cs) → begun < length cs
      next_chunk all more = elim (cases_order begun (length cs)) [
        | inl end ↦ absurd (omega (
          arith,
          all,
          more,
          front-next cs last c here,
          ap (λ n. length (joined (take n cs))) last_is,
          ap (λ l. length (joined l)) (take_all begun cs (omega (arith, end))),
        ))
        | inr apart ↦ omega (arith, apart, upto)
      ]

      back_edge : (d : T) → length (joined (take last cs)) + q < length (joined cs) → p (get_or (joined cs) (length (joined (take last cs)) + q) d) ≡ false
      back_edge d more = elim (cases_order q (length (items_in (get_or cs last c)))) [
        | inl all ↦
            ap (λ n. p (get_or (joined cs) n d)) (omega (arith, all, front-next cs last c here, ap (λ n. length (joined (take n cs))) last_is))
            ∙ (sym (begins_is begun c d (next_chunk all more)) ∙ point.1 begun c (omega arith) (next_chunk all more))
        | inr apart ↦ ap p (get_in_chunk cs last q c d here (omega (arith, apart, within))) ∙ inner.1 q d (omega arith) (omega (arith, apart, within))
      ]

      pub some_begun : IsPartitionPoint (λ x. p x ≡ true) (λ x. p x ≡ false) (joined cs) (length (joined (take last cs)) + q)
      some_begun = point_from_edges p (joined cs) (length (joined (take last cs)) + q) point_bound (λ d some. front_edge d) back_edge parted
