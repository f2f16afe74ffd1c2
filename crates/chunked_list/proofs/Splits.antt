-- A chunk cut in two.
use Rattle.std.proofs.Common.{◌≡◌, ℕ, zero, suc, ◌+◌, ◌<◌, ◌≤◌, nat_lt, true, false, List, [], ◌∷◌, ◌++◌, length, take, drop, get_or, set, refl, ap, sym, subst, ◌∙◌, inl, inr, append_assoc, length-append, length-take, length-drop, arith}
use Rattle.std.specs.List.{insert}
use Rattle.std.proofs.lemmas.Bool.{cases_Bool}
use Rattle.std.proofs.lemmas.Bool.Decides.{nat_tests}
use Rattle.std.proofs.Math.Seq.{take-append_seam, take-append-add, get_or-append_seam}
use Rattle.std.proofs.lemmas.List.{take-append-drop, get_or-append-add}
use Rattle.chunked_list.specs.Chunks.{items_in, joined, starts, AreFilled, IsFilled, IsInside, HasRoom, IsSplit, place_of, halved}
use Rattle.chunked_list.specs.declared.chunk.Chunk.{Chunk}
use Rattle.chunked_list.proofs.Edits.{joined-append, joined-parts}

module _ {T : Type 0} where
  pub split_is : (cs : List (Chunk T)) (i : ℕ) (low high : Chunk T) → i < length cs →
      insert (set cs i low) (i + 1) high ≡ take i cs ++ low ∷ high ∷ drop (i + 1) cs
  split_is cs i low high inside =
      ap (λ n. insert (set cs i low) n high) (next i)
      ∙ (go cs i low high inside ∙ ap (λ n. take i cs ++ low ∷ high ∷ drop n cs) (sym (next i)))
    where
      next : (i : ℕ) → i + 1 ≡ suc i
      next i = omega arith

      go : (cs : List (Chunk T)) (i : ℕ) (low high : Chunk T) → i < length cs →
          insert (set cs i low) (suc i) high ≡ take i cs ++ low ∷ high ∷ drop (suc i) cs
      go [] i low high inside = absurd (omega (arith, inside))
      go (c ∷ cs) zero low high inside = refl
      go (c ∷ cs) (suc i) low high inside = ap (λ l. c ∷ l) (go cs i low high (omega arith))

  starts-around : (n : ℕ) (cs : List (Chunk T)) (i : ℕ) (low high d : Chunk T) (m : ℕ) → i < length cs →
      length (items_in low) + length (items_in high) ≡ length (items_in (get_or cs i d)) →
      starts n (take i cs ++ low ∷ high ∷ drop (suc i) cs) ≡ insert (starts n cs) (suc i) (get_or (starts n cs) i m + length (items_in low))
  starts-around n [] i low high d m inside both = absurd (omega (arith, inside))
  starts-around n (c ∷ cs) zero low high d m inside both =
      ap (λ k. n ∷ (n + length (items_in low)) ∷ starts k cs) (omega (arith, both))
  starts-around n (c ∷ cs) (suc i) low high d m inside both =
      ap (λ l. n ∷ l) (starts-around (n + length (items_in c)) cs i low high d m (omega arith) both)

  filled-around : (cs : List (Chunk T)) (i : ℕ) (low high : Chunk T) → i < length cs → AreFilled cs → IsFilled low → IsFilled high →
      AreFilled (take i cs ++ low ∷ high ∷ drop (suc i) cs)
  filled-around [] i low high inside h l k = absurd (omega (arith, inside))
  filled-around (c ∷ cs) zero low high inside h l k = (l, (k, h.1))
  filled-around (c ∷ cs) (suc i) low high inside h l k = (h.0, filled-around cs i low high (omega arith) h.1 l k)

  pub filled-at : (cs : List (Chunk T)) → AreFilled cs → (i : ℕ) (d : Chunk T) → i < length cs → IsFilled (get_or cs i d)
  filled-at [] h i d inside = absurd (omega (arith, inside))
  filled-at (c ∷ cs) h zero d inside = h.0
  filled-at (c ∷ cs) h (suc i) d inside = filled-at cs h.1 i d (omega arith)

  module _ (old new : List (Chunk T)) (i : ℕ) (d : Chunk T) (inside : i < length old) (filled : AreFilled old)
      (full : 32 ≤ length (items_in (get_or old i d))) (split : IsSplit old i new) where
    next_is : i + 1 ≡ suc i
    next_is = omega arith

    long : length (items_in (get_or old i d)) ≡ 32
    long = omega (arith, full, (filled-at old filled i d inside).few)

    low_long : length (items_in split.low) ≡ 16
    low_long = omega (arith, long, ap length (split.low_is d), length-take 16 (items_in (get_or old i d)))

    high_long : length (items_in split.high) ≡ 16
    high_long = omega (arith, long, ap length (split.high_is d), length-drop 16 (items_in (get_or old i d)))

    shape : new ≡ take i old ++ split.low ∷ split.high ∷ drop (suc i) old
    shape = split.new_is ∙ ap (λ n. take i old ++ split.low ∷ split.high ∷ drop n old) next_is

    pub filled-split : AreFilled new
    filled-split =
        subst AreFilled (sym shape)
        (filled-around old i split.low split.high inside filled (record { some = omega (arith, low_long); few = omega (arith, low_long) }) (record { some = omega (arith, high_long); few = omega (arith, high_long) }))

    pub starts-split : (first m : ℕ) → first ≡ get_or (starts 0 old) i m → starts 0 new ≡ insert (starts 0 old) (i + 1) (first + 16)
    starts-split first m is =
        ap (starts 0) shape
        ∙ (starts-around 0 old i split.low split.high d m inside (omega (arith, low_long, high_long, long))
        ∙ (ap (λ k. insert (starts 0 old) k (get_or (starts 0 old) i m + length (items_in split.low))) (sym next_is)
        ∙ ap (λ k. insert (starts 0 old) (i + 1) k) (omega (arith, is, low_long))))

    pub joined-split : joined new ≡ joined old
    joined-split =
        ap joined shape
        ∙ (joined-append (take i old) (split.low ∷ split.high ∷ drop (suc i) old)
        ∙ (ap (λ l. joined (take i old) ++ l) whole ∙ sym (joined-parts old i d inside)))
      where
        whole : items_in split.low ++ (items_in split.high ++ joined (drop (suc i) old)) ≡ items_in (get_or old i d) ++ joined (drop (suc i) old)
        whole =
            sym (append_assoc (items_in split.low) (items_in split.high) (joined (drop (suc i) old)))
            ∙ ap (λ l. l ++ joined (drop (suc i) old))
            (ap (λ l. l ++ items_in split.high) (split.low_is d)
            ∙ (ap (λ l. take 16 (items_in (get_or old i d)) ++ l) (split.high_is d) ∙ take-append-drop 16 (items_in (get_or old i d))))

    front_long : length (take i old) ≡ i
    front_long = omega (arith, inside, length-take i old)

    get-low : (e : Chunk T) → get_or new i e ≡ split.low
    get-low e =
        ap (λ l. get_or l i e) shape
        ∙ (ap (λ n. get_or (take i old ++ split.low ∷ split.high ∷ drop (suc i) old) n e) (sym front_long)
        ∙ get_or-append_seam (take i old) split.low (split.high ∷ drop (suc i) old) e)

    get-high : (e : Chunk T) → get_or new (i + 1) e ≡ split.high
    get-high e =
        ap (λ l. get_or l (i + 1) e) shape
        ∙ (ap (λ n. get_or (take i old ++ split.low ∷ split.high ∷ drop (suc i) old) (n + 1) e) (sym front_long)
        ∙ get_or-append-add (take i old) (split.low ∷ split.high ∷ drop (suc i) old) 1 e)

    take-low : take i new ≡ take i old
    take-low =
        ap (take i) shape
        ∙ (ap (λ n. take n (take i old ++ split.low ∷ split.high ∷ drop (suc i) old)) (sym front_long)
        ∙ take-append_seam (take i old) (split.low ∷ split.high ∷ drop (suc i) old))

    take-high : take (i + 1) new ≡ take i old ++ split.low ∷ []
    take-high =
        ap (take (i + 1)) shape
        ∙ (ap (λ n. take (n + 1) (take i old ++ split.low ∷ split.high ∷ drop (suc i) old)) (sym front_long)
        ∙ take-append-add (take i old) (split.low ∷ split.high ∷ drop (suc i) old) 1)

    new_long : length new ≡ i + 2 + length (drop (suc i) old)
    new_long = omega (arith, front_long, ap length shape, length-append (take i old) (split.low ∷ split.high ∷ drop (suc i) old))

    front-high : length (joined (take (i + 1) new)) ≡ length (joined (take i old)) + 16
    front-high =
        ap (λ l. length (joined l)) take-high
        ∙ (ap length (joined-append (take i old) (split.low ∷ []))
        ∙ omega (arith, low_long, length-append (joined (take i old)) (items_in split.low ++ []), length-append (items_in split.low) []))

    pub room-split : (at : ℕ) → HasRoom new (halved (record { chunk = i; at = at })).chunk
    room-split at e = elim (cases_Bool (nat_lt at 16)) [
      | inl low ↦ rw (low, get-low e) (omega (arith, low_long))
      | inr high ↦ rw (high, get-high e) (omega (arith, high_long))
    ]

    pub place-split : (at : ℕ) → place_of new (halved (record { chunk = i; at = at })) ≡ place_of old (record { chunk = i; at = at })
    place-split at = elim (cases_Bool (nat_lt at 16)) [
      | inl low ↦ rw low (ap (λ l. length (joined l) + at) take-low)
      | inr high ↦ rw high (omega (arith, front-high, not_low at high))
    ]
      where
        not_low : (at : ℕ) → nat_lt at 16 ≡ false → 16 ≤ at
        not_low at h = grind (arith, nat_tests)

    pub inside-split : (at : ℕ) → at < length (items_in (get_or old i d)) → IsInside new (halved (record { chunk = i; at = at }))
    inside-split at within = elim (cases_Bool (nat_lt at 16)) [
      | inl low ↦ rw low (record { chunk = omega (arith, new_long); at = λ e. rw (get-low e) (omega (arith, low_long, is_low at low)) })
      | inr high ↦ rw high (record { chunk = omega (arith, new_long); at = λ e. rw (get-high e) (omega (arith, high_long, long, within, not_low at high)) })
    ]
      where
        is_low : (at : ℕ) → nat_lt at 16 ≡ true → at < 16
        is_low at h = grind (arith, nat_tests)

        not_low : (at : ℕ) → nat_lt at 16 ≡ false → 16 ≤ at
        not_low at h = grind (arith, nat_tests)
