-- Things in an order: the place of a key among them, and what an edit there leaves.
use Rattle.std.proofs.Common.{◌≡◌, ℕ, suc, zero, ◌<◌, ◌≤◌, ◌+◌, Bool, true, false, ◌||◌, ◌&&◌, not, ◌⊎◌, cond, List, [], ◌∷◌, ◌++◌, map, length, get_or, set, Option, Some, None, is_some, slice_get, refl, sym, ap, subst, ◌∙◌, inl, inr, arith}
use Rattle.std.specs.List.{AllByRecursion, prefix_len, find, filter, insert, remove, list_any}
use Rattle.std.specs.List.Sorted.{IsPartitionedBy, IsPartitionPoint}
use Rattle.std.proofs.lemmas.Bool.{cases_Bool, cases_order, or_parts, or_right, and_right, false≢true, true≢false, false_from_ne_true}
use Rattle.std.proofs.lemmas.List.Elements.{All-from_recursion}
use Rattle.std.proofs.lemmas.List.Sums.{prefix_len_is}
use Rattle.timer_queue.specs.Order.{IsRising}
use Rattle.timer_queue.proofs.Orders.{IsOrder}

one_more : (n : ℕ) → 1 + n ≡ suc n
one_more n = omega arith

pub place_is : {X : Type 0} (p : X → Bool) (xs : List X) (i : ℕ) → i ≤ length xs →
    IsPartitionPoint (λ x. p x ≡ true) (λ x. p x ≡ false) xs i → i ≡ prefix_len p xs
place_is p [] i upto point = omega arith
place_is p (x ∷ xs) i upto point =
    sym (prefix_len_is p (x ∷ xs) i x upto (λ k below. point.0 k x (omega arith) below) (λ inside. point.1 i x (omega arith) inside))

module _ {K : Type 0} (below same : K → K → Bool) (order : IsOrder below same) where
  -- ---- keys

  pub below_is_other : (a b : K) → below a b ≡ true → same a b ≡ false
  below_is_other a b h = false_from_ne_true (same a b)
      (λ s. false≢true (sym (order.irreflexive a) ∙ subst (λ c. below a c ≡ true) (sym (order.same_is a b s)) h))

  pub above_is_other : (a b : K) → below b a ≡ true → same a b ≡ false
  above_is_other a b h = false_from_ne_true (same a b)
      (λ s. false≢true (sym (order.irreflexive a) ∙ subst (λ c. below c a ≡ true) (sym (order.same_is a b s)) h))

  pub never_both : (a b : K) → below a b ≡ true → below b a ≡ false
  never_both a b h = false_from_ne_true (below b a) (λ k. false≢true (sym (order.irreflexive a) ∙ order.transitive a b a h k))

  module _ {X : Type 0} (key : X → K) where
    abbrev pub AllAbove : K → List X → Type 0
    AllAbove k xs = AllByRecursion (λ x. below k (key x) ≡ true) xs

    abbrev pub is_under : K → X → Bool
    is_under k x = below (key x) k

    abbrev pub is_over : K → X → Bool
    is_over k x = below k (key x)

    abbrev pub is_at : K → X → Bool
    is_at k x = same (key x) k

    abbrev pub place : K → List X → ℕ
    place k xs = prefix_len (is_under k) xs

    -- what is above one is above all below it
    pub above_lower : (a b : K) (xs : List X) → below a b ≡ true → AllAbove b xs → AllAbove a xs
    above_lower a b [] lower h = tt
    above_lower a b (x ∷ xs) lower h = (order.transitive a b (key x) lower h.0, above_lower a b xs lower h.1)

    -- ---- the place, as a search finds it

    rising_pairs : (xs : List X) → IsRising below key xs → (i j : ℕ) (d : X) → i < j → j < length xs →
        below (key (get_or xs i d)) (key (get_or xs j d)) ≡ true
    rising_pairs [] rises i j d lt inside = absurd (omega (arith, inside))
    rising_pairs (x ∷ xs) rises i zero d lt inside = absurd (omega (arith, lt))
    rising_pairs (x ∷ xs) rises zero (suc j) d lt inside =
        All-from_recursion (λ y. below (key x) (key y) ≡ true) xs rises.0 j d (omega arith)
    rising_pairs (x ∷ xs) rises (suc i) (suc j) d lt inside = rising_pairs xs rises.1 i j d (omega arith) (omega arith)

    pub partitioned : (k : K) (xs : List X) → IsRising below key xs → IsPartitionedBy (is_under k) xs
    partitioned k xs rises i j d upto inside under = elim (cases_order i j) [
      | inl e ↦ subst (λ n. is_under k (get_or xs n d) ≡ true) (sym e) under
      | inr apart ↦ elim apart [
        | inl lt ↦ order.transitive _ _ k (rising_pairs xs rises i j d lt inside) under
        | inr gt ↦ absurd (omega (arith, gt, upto))
      ]
    ]

    -- ---- what is above a key

    pub find-above : (k : K) (xs : List X) → AllAbove k xs → find (is_at k) xs ≡ None
    find-above k [] h = refl
    find-above k (x ∷ xs) h = rw (above_is_other (key x) k h.0) (find-above k xs h.1)

    pub any-above : (k : K) (xs : List X) → AllAbove k xs → list_any (is_at k) xs ≡ false
    any-above k [] h = refl
    any-above k (x ∷ xs) h = rw (above_is_other (key x) k h.0) (any-above k xs h.1)

    pub taken_out-above : (k : K) (xs : List X) → AllAbove k xs → filter (λ x. not (is_at k x)) xs ≡ xs
    taken_out-above k [] h = refl
    taken_out-above k (x ∷ xs) h = rw (above_is_other (key x) k h.0) (ap (λ l. x ∷ l) (taken_out-above k xs h.1))

    pub under-above : (k : K) (xs : List X) → AllAbove k xs → filter (is_under k) xs ≡ []
    under-above k [] h = refl
    under-above k (x ∷ xs) h = rw (never_both k (key x) h.0) (under-above k xs h.1)

    pub over-above : (k : K) (xs : List X) → AllAbove k xs → filter (is_over k) xs ≡ xs
    over-above k [] h = refl
    over-above k (x ∷ xs) h = rw h.0 (ap (λ l. x ∷ l) (over-above k xs h.1))

    abbrev pub replaced : K → X → List X → List X
    replaced k new xs = map (λ x. cond (is_at k x) new x) xs

    pub replaced-above : (k : K) (new : X) (xs : List X) → AllAbove k xs → replaced k new xs ≡ xs
    replaced-above k new [] h = refl
    replaced-above k new (x ∷ xs) h = rw (above_is_other (key x) k h.0) (ap (λ l. x ∷ l) (replaced-above k new xs h.1))

    -- ---- the first that isn't below

    pub above_when_same : (k : K) (x : X) (xs : List X) → is_at k x ≡ true → AllAbove (key x) xs → AllAbove k xs
    above_when_same k x xs same h = subst (λ a. AllAbove a xs) (order.same_is (key x) k same) h

    pub above_when_not_below : (k : K) (x : X) (xs : List X) → is_under k x ≡ false → AllAbove (key x) xs → AllAbove k xs
    above_when_not_below k x xs over h = elim (cases_Bool (is_at k x)) [
      | inl same ↦ above_when_same k x xs same h
      | inr other ↦ above_lower k (key x) xs (order.connected (key x) k other over) h
    ]

    -- ---- what the place of a key finds

    abbrev pub stands : K → List X → Bool
    stands k xs = list_any (is_at k) xs

    -- a thing that was found, where it is at a key
    abbrev pub found : K → Option X → Option X
    found k None = None
    found k (Some x) = cond (is_at k x) (Some x) None

    pub find-place : (k : K) (xs : List X) → IsRising below key xs → find (is_at k) xs ≡ found k (slice_get xs (place k xs))
    find-place k [] rises = refl
    find-place k (x ∷ xs) rises = elim (cases_Bool (is_under k x)) [
      | inl under ↦ rw (under, below_is_other (key x) k under, one_more (place k xs)) (find-place k xs rises.1)
      | inr over ↦ elim (cases_Bool (is_at k x)) [
        | inl same ↦ rw (over, same) refl
        | inr other ↦ rw (over, other) (find-above k xs (above_when_not_below k x xs over rises.0))
      ]
    ]

    found-above : (k : K) (xs : List X) (i : ℕ) → AllAbove k xs → is_some (found k (slice_get xs i)) ≡ false
    found-above k [] i h = refl
    found-above k (x ∷ xs) zero h = rw (above_is_other (key x) k h.0) refl
    found-above k (x ∷ xs) (suc i) h = found-above k xs i h.1

    -- what is at a key stands at its place
    pub place-found : (k : K) (xs : List X) (i : ℕ) → IsRising below key xs → is_some (found k (slice_get xs i)) ≡ true →
        (i ≡ place k xs) × (i < length xs)
    place-found k [] i rises at = absurd (false≢true at)
    place-found k (x ∷ xs) zero rises at = elim (cases_Bool (is_at k x)) [
      | inl same ↦
          let over : is_under k x ≡ false = ap (λ j. below j k) (order.same_is (key x) k same) ∙ order.irreflexive k in
          (sym (rw over refl), omega arith)
      | inr other ↦ absurd (true≢false (sym at ∙ rw other refl))
    ]
    place-found k (x ∷ xs) (suc i) rises at = elim (cases_Bool (is_under k x)) [
      | inl under ↦
          let later = place-found k xs i rises.1 at in
          (ap suc later.0 ∙ sym (rw (under, one_more (place k xs)) refl), omega (arith, later.1))
      | inr over ↦ absurd (true≢false (sym at ∙ found-above k xs i (above_when_not_below k x xs over rises.0)))
    ]

    stands_later : (k : K) (x : X) (xs : List X) → is_under k x ≡ true → stands k (x ∷ xs) ≡ true → stands k xs ≡ true
    stands_later k x xs under there = rw (below_is_other (key x) k under) at there

    -- where the first that isn't below a key isn't at it, nothing is
    first_is_there : (k : K) (x : X) (xs : List X) → IsRising below key (x ∷ xs) → is_under k x ≡ false →
        stands k (x ∷ xs) ≡ true → is_at k x ≡ true
    first_is_there k x xs rises over there = elim (cases_Bool (is_at k x)) [
      | inl same ↦ same
      | inr other ↦
          let none : stands k xs ≡ false = any-above k xs (above_when_not_below k x xs over rises.0) in
          absurd (true≢false (sym there ∙ rw (other, none) refl))
    ]

    pub place-inside : (k : K) (xs : List X) → IsRising below key xs → stands k xs ≡ true → place k xs < length xs
    place-inside k [] rises there = absurd (false≢true there)
    place-inside k (x ∷ xs) rises there = elim (cases_Bool (is_under k x)) [
      | inl under ↦ rw under (omega (arith, place-inside k xs rises.1 (stands_later k x xs under there)))
      | inr over ↦ rw over (omega arith)
    ]

    -- ---- what an edit at the place leaves

    -- one more thing, put in at the place of its key
    abbrev pub put_in : X → List X → List X
    put_in new [] = new ∷ []
    put_in new (x ∷ xs) = cond (is_under (key new) x) (x ∷ put_in new xs) (new ∷ x ∷ xs)

    abbrev pub taken_out : K → List X → List X
    taken_out k xs = filter (λ x. not (is_at k x)) xs

    pub insert-place : (new : X) (xs : List X) → insert xs (place (key new) xs) new ≡ put_in new xs
    insert-place new [] = refl
    insert-place new (x ∷ xs) = elim (cases_Bool (is_under (key new) x)) [
      | inl under ↦ rw (under, one_more (place (key new) xs)) (ap (λ l. x ∷ l) (insert-place new xs))
      | inr over ↦ rw over refl
    ]

    pub remove-place : (k : K) (xs : List X) → IsRising below key xs → stands k xs ≡ true → remove xs (place k xs) ≡ taken_out k xs
    remove-place k [] rises there = absurd (false≢true there)
    remove-place k (x ∷ xs) rises there = elim (cases_Bool (is_under k x)) [
      | inl under ↦ rw (under, below_is_other (key x) k under, one_more (place k xs))
          (ap (λ l. x ∷ l) (remove-place k xs rises.1 (stands_later k x xs under there)))
      | inr over ↦
          let same : is_at k x ≡ true = first_is_there k x xs rises over there in
          rw (over, same) (sym (taken_out-above k xs (above_when_same k x xs same rises.0)))
    ]

    pub set-place : (k : K) (new : X) (xs : List X) → IsRising below key xs → stands k xs ≡ true → set xs (place k xs) new ≡ replaced k new xs
    set-place k new [] rises there = absurd (false≢true there)
    set-place k new (x ∷ xs) rises there = elim (cases_Bool (is_under k x)) [
      | inl under ↦ rw (under, below_is_other (key x) k under, one_more (place k xs))
          (ap (λ l. x ∷ l) (set-place k new xs rises.1 (stands_later k x xs under there)))
      | inr over ↦
          let same : is_at k x ≡ true = first_is_there k x xs rises over there in
          rw (over, same) (ap (λ l. new ∷ l) (sym (replaced-above k new xs (above_when_same k x xs same rises.0))))
    ]

    -- put in at its place, it stands between what is below it and what is above it
    pub put_in-between : (new : X) (xs : List X) → IsRising below key xs → stands (key new) xs ≡ false →
        put_in new xs ≡ filter (is_under (key new)) xs ++ new ∷ filter (is_over (key new)) xs
    put_in-between new [] rises absent = refl
    put_in-between new (x ∷ xs) rises absent =
        let parts = or_parts (is_at (key new) x) (stands (key new) xs) absent in
        elim (cases_Bool (is_under (key new) x)) [
          | inl under ↦ rw (under, never_both (key x) (key new) under) (ap (λ l. x ∷ l) (put_in-between new xs rises.1 parts.1))
          | inr over ↦
              let above : AllAbove (key new) xs = above_when_not_below (key new) x xs over rises.0 in
              let first : is_over (key new) x ≡ true = order.connected (key x) (key new) parts.0 over in
              rw (over, first, under-above (key new) xs above, over-above (key new) xs above) refl
        ]

    -- ---- the order afterwards

    AllAbove-cond : (k : K) (b : Bool) (x : X) (xs : List X) → below k (key x) ≡ true → AllAbove k xs → AllAbove k (cond b (x ∷ xs) xs)
    AllAbove-cond k true x xs h j = (h, j)
    AllAbove-cond k false x xs h j = j

    pub AllAbove-filter : (p : X → Bool) (k : K) (xs : List X) → AllAbove k xs → AllAbove k (filter p xs)
    AllAbove-filter p k [] h = tt
    AllAbove-filter p k (x ∷ xs) h = AllAbove-cond k (p x) x (filter p xs) h.0 (AllAbove-filter p k xs h.1)

    IsRising-cond : (b : Bool) (x : X) (xs : List X) → AllAbove (key x) xs → IsRising below key xs → IsRising below key (cond b (x ∷ xs) xs)
    IsRising-cond true x xs h j = (h, j)
    IsRising-cond false x xs h j = j

    pub IsRising-filter : (p : X → Bool) (xs : List X) → IsRising below key xs → IsRising below key (filter p xs)
    IsRising-filter p [] h = tt
    IsRising-filter p (x ∷ xs) h = IsRising-cond (p x) x (filter p xs) (AllAbove-filter p (key x) xs h.0) (IsRising-filter p xs h.1)

    AllAbove-put_in : (k : K) (new : X) (xs : List X) → below k (key new) ≡ true → AllAbove k xs → AllAbove k (put_in new xs)
    AllAbove-put_in k new [] h j = (h, tt)
    AllAbove-put_in k new (x ∷ xs) h j = elim (cases_Bool (is_under (key new) x)) [
      | inl under ↦ rw under (j.0, AllAbove-put_in k new xs h j.1)
      | inr over ↦ rw over (h, j)
    ]

    pub IsRising-put_in : (new : X) (xs : List X) → IsRising below key xs → stands (key new) xs ≡ false → IsRising below key (put_in new xs)
    IsRising-put_in new [] rises absent = (tt, tt)
    IsRising-put_in new (x ∷ xs) rises absent =
        let parts = or_parts (is_at (key new) x) (stands (key new) xs) absent in
        elim (cases_Bool (is_under (key new) x)) [
          | inl under ↦ rw under (AllAbove-put_in (key x) new xs under rises.0, IsRising-put_in new xs rises.1 parts.1)
          | inr over ↦
              let first : below (key new) (key x) ≡ true = order.connected (key x) (key new) parts.0 over in
              rw over ((first, above_lower (key new) (key x) xs first rises.0), rises)
        ]

    above_of_map : (k : K) (xs : List X) → AllAbove k xs → AllByRecursion (λ j. below k j ≡ true) (map key xs)
    above_of_map k [] h = tt
    above_of_map k (x ∷ xs) h = (h.0, above_of_map k xs h.1)

    pub IsRising-map : (xs : List X) → IsRising below key xs → IsRising below (λ k. k) (map key xs)
    IsRising-map [] h = tt
    IsRising-map (x ∷ xs) h = (above_of_map (key x) xs h.0, IsRising-map xs h.1)

    above_from_map : (k : K) (xs : List X) → AllByRecursion (λ j. below k j ≡ true) (map key xs) → AllAbove k xs
    above_from_map k [] h = tt
    above_from_map k (x ∷ xs) h = (h.0, above_from_map k xs h.1)

    pub IsRising-from_map : (xs : List X) → IsRising below (λ k. k) (map key xs) → IsRising below key xs
    IsRising-from_map [] h = tt
    IsRising-from_map (x ∷ xs) h = (above_from_map (key x) xs h.0, IsRising-from_map xs h.1)

    -- ---- keys afterwards

    pub map-taken_out : (k : K) (xs : List X) → map key (taken_out k xs) ≡ filter (λ j. not (same j k)) (map key xs)
    map-taken_out k [] = refl
    map-taken_out k (x ∷ xs) = elim (cases_Bool (is_at k x)) [
      | inl here ↦ rw here (map-taken_out k xs)
      | inr gone ↦ rw gone (ap (λ l. key x ∷ l) (map-taken_out k xs))
    ]

    pub map-replaced : (k : K) (new : X) (xs : List X) → key new ≡ k → map key (replaced k new xs) ≡ map key xs
    map-replaced k new [] e = refl
    map-replaced k new (x ∷ xs) e = elim (cases_Bool (is_at k x)) [
      | inl same ↦ rw same (ap (λ j. j ∷ map key (replaced k new xs)) (e ∙ sym (order.same_is (key x) k same))
          ∙ ap (λ l. key x ∷ l) (map-replaced k new xs e))
      | inr other ↦ rw other (ap (λ l. key x ∷ l) (map-replaced k new xs e))
    ]

    pub any-map : (k : K) (xs : List X) → list_any (λ j. same j k) (map key xs) ≡ stands k xs
    any-map k [] = refl
    any-map k (x ∷ xs) = ap (λ b. is_at k x || b) (any-map k xs)

    pub any-find : (k : K) (xs : List X) → is_some (find (is_at k) xs) ≡ stands k xs
    any-find k [] = refl
    any-find k (x ∷ xs) = elim (cases_Bool (is_at k x)) [
      | inl same ↦ rw same refl
      | inr other ↦ rw other (any-find k xs)
    ]

    -- ---- what is found afterwards

    pub find-put_in : (k : K) (new : X) (xs : List X) → stands (key new) xs ≡ false →
        find (is_at k) (put_in new xs) ≡ cond (is_at k new) (Some new) (find (is_at k) xs)
    find-put_in k new [] absent = refl
    find-put_in k new (x ∷ xs) absent =
        let parts = or_parts (is_at (key new) x) (stands (key new) xs) absent in
        elim (cases_Bool (is_under (key new) x)) [
          | inl under ↦ elim (cases_Bool (is_at k x)) [
            | inl here ↦ rw (under, here) (sym (rw (not_there k new x parts.0 here) refl))
            | inr other ↦ rw (under, other) (find-put_in k new xs parts.1)
          ]
          | inr over ↦ rw over refl
        ]
      where
        not_there : (k : K) (new x : X) → is_at (key new) x ≡ false → is_at k x ≡ true → is_at k new ≡ false
        not_there k new x other here = false_from_ne_true (is_at k new)
            (λ s. true≢false (sym (order.same_itself (key x))
            ∙ (ap (λ j. same (key x) j) (order.same_is (key x) k here ∙ sym (order.same_is (key new) k s)) ∙ other)))

    pub find-taken_out : (k : K) (xs : List X) → find (is_at k) (taken_out k xs) ≡ None
    find-taken_out k [] = refl
    find-taken_out k (x ∷ xs) = elim (cases_Bool (is_at k x)) [
      | inl here ↦ rw here (find-taken_out k xs)
      | inr gone ↦ rw (gone, gone) (find-taken_out k xs)
    ]

    at_one_alone : (j k : K) (x : X) → same j k ≡ false → is_at j x ≡ true → is_at k x ≡ false
    at_one_alone j k x other here = ap (λ i. same i k) (order.same_is (key x) j here) ∙ other

    pub find-taken_out_other : (j k : K) (xs : List X) → same j k ≡ false → find (is_at k) (taken_out j xs) ≡ find (is_at k) xs
    find-taken_out_other j k [] other = refl
    find-taken_out_other j k (x ∷ xs) other = elim (cases_Bool (is_at j x)) [
      | inl here ↦ rw (here, at_one_alone j k x other here) (find-taken_out_other j k xs other)
      | inr gone ↦ rw gone (ap (λ o. cond (is_at k x) (Some x) o) (find-taken_out_other j k xs other))
    ]

    pub find-replaced : (k : K) (new : X) (xs : List X) → is_at k new ≡ true → stands k xs ≡ true → find (is_at k) (replaced k new xs) ≡ Some new
    find-replaced k new [] at there = absurd (false≢true there)
    find-replaced k new (x ∷ xs) at there = elim (cases_Bool (is_at k x)) [
      | inl here ↦ rw (here, at) refl
      | inr gone ↦ rw (gone, gone) (find-replaced k new xs at (rw gone at there))
    ]

    pub find-replaced_other : (j k : K) (new : X) (xs : List X) → same j k ≡ false → is_at j new ≡ true →
        find (is_at k) (replaced j new xs) ≡ find (is_at k) xs
    find-replaced_other j k new [] other at = refl
    find-replaced_other j k new (x ∷ xs) other at = elim (cases_Bool (is_at j x)) [
      | inl here ↦ rw (here, at_one_alone j k x other here, at_one_alone j k new other at) (find-replaced_other j k new xs other at)
      | inr gone ↦ rw gone (ap (λ o. cond (is_at k x) (Some x) o) (find-replaced_other j k new xs other at))
    ]

    -- ---- tests and lengths afterwards

    pub any-put_in : (p : X → Bool) (new : X) (xs : List X) → list_any p (put_in new xs) ≡ (p new || list_any p xs)
    any-put_in p new [] = refl
    any-put_in p new (x ∷ xs) = elim (cases_Bool (is_under (key new) x)) [
      | inl under ↦ rw under (ap (λ b. p x || b) (any-put_in p new xs) ∙ swapped (p x) (p new) (list_any p xs))
      | inr over ↦ rw over refl
    ]
      where
        swapped : (a b c : Bool) → (a || (b || c)) ≡ (b || (a || c))
        swapped true true c = refl
        swapped true false c = refl
        swapped false true c = refl
        swapped false false c = refl

    pub length-put_in : (new : X) (xs : List X) → length (put_in new xs) ≡ suc (length xs)
    length-put_in new [] = refl
    length-put_in new (x ∷ xs) = elim (cases_Bool (is_under (key new) x)) [
      | inl under ↦ rw under (ap suc (length-put_in new xs))
      | inr over ↦ rw over refl
    ]

    pub length-taken_out : (k : K) (xs : List X) → IsRising below key xs → stands k xs ≡ true → length xs ≡ suc (length (taken_out k xs))
    length-taken_out k [] rises there = absurd (false≢true there)
    length-taken_out k (x ∷ xs) rises there = elim (cases_Bool (is_at k x)) [
      | inl here ↦ rw (here, taken_out-above k xs (above_when_same k x xs here rises.0)) refl
      | inr gone ↦ rw gone (ap suc (length-taken_out k xs rises.1 (rw gone at there)))
    ]

  -- ---- lists of keys

  -- an id that is there comes in no second time
  pub between-there : (k : K) (ks : List K) → IsRising below (λ j. j) ks → list_any (λ j. same j k) ks ≡ true →
      filter (λ j. below j k) ks ++ k ∷ filter (λ j. below k j) ks ≡ ks
  between-there k [] rises there = absurd (false≢true there)
  between-there k (j ∷ js) rises there = elim (cases_Bool (below j k)) [
    | inl under ↦ rw (under, never_both j k under)
        (ap (λ l. j ∷ l) (between-there k js rises.1 (rw (below_is_other j k under) at there)))
    | inr over ↦ elim (cases_Bool (same j k)) [
      | inl here ↦
          let e : j ≡ k = order.same_is j k here in
          let above : AllAbove (λ i. i) k js = above_when_same (λ i. i) k j js here rises.0 in
          let first : below k j ≡ false = ap (below k) e ∙ order.irreflexive k in
          rw (over, first, under-above (λ i. i) k js above, over-above (λ i. i) k js above) (ap (λ i. i ∷ js) (sym e))
      | inr other ↦
          let none = any-above (λ i. i) k js (above_when_not_below (λ i. i) k j js over rises.0) in
          absurd (true≢false (sym there ∙ rw (other, none) refl))
    ]
  ]

  abbrev pub has : K → List K → Bool
  has k ks = list_any (λ j. same j k) ks

  abbrev AllHigher : K → List K → Type 0
  AllHigher k ks = AllAbove (λ j. j) k ks

  pub has_first : (x : K) (xs : List K) → has x (x ∷ xs) ≡ true
  has_first x xs = rw (order.same_itself x) refl

  -- what a filter leaves has what had it and passes
  pub has-filter : (q : K → Bool) (k : K) (ks : List K) → has k (filter q ks) ≡ (has k ks && q k)
  has-filter q k [] = refl
  has-filter q k (j ∷ js) = elim (cases_Bool (same j k)) [
    | inl here ↦
        let e : q j ≡ q k = ap q (order.same_is j k here) in
        elim (cases_Bool (q j)) [
          | inl passes ↦ rw (passes, here) (sym (sym e ∙ passes))
          | inr fails ↦ rw (fails, here) (has-filter q k js ∙ (and_right (has k js) (q k) (sym e ∙ fails) ∙ sym (sym e ∙ fails)))
        ]
    | inr gone ↦ elim (cases_Bool (q j)) [
      | inl passes ↦ rw (passes, gone) (has-filter q k js)
      | inr fails ↦ rw (fails, gone) (has-filter q k js)
    ]
  ]

  -- two tests that agree on what a list has keep the same of it
  pub filter-members : (p q : K → Bool) (ks : List K) → ((k : K) → has k ks ≡ true → p k ≡ q k) → filter p ks ≡ filter q ks
  filter-members p q [] e = refl
  filter-members p q (j ∷ js) e =
      let rest = filter-members p q js (λ k h. e k (or_right (same j k) (has k js) h)) in
      ap (λ b. cond b (j ∷ filter p js) (filter p js)) (e j (has_first j js)) ∙ ap (λ l. cond (q j) (j ∷ l) l) rest

  pub filter-all : (p : K → Bool) (ks : List K) → ((k : K) → has k ks ≡ true → p k ≡ true) → filter p ks ≡ ks
  filter-all p ks e = filter-members p (λ k. true) ks e ∙ kept ks
    where
      kept : (js : List K) → filter (λ k. true) js ≡ js
      kept [] = refl
      kept (j ∷ js) = ap (λ l. j ∷ l) (kept js)

  higher_member : (k j : K) (ks : List K) → AllHigher k ks → has j ks ≡ true → below k j ≡ true
  higher_member k j [] h there = absurd (false≢true there)
  higher_member k j (i ∷ is) h there = elim (cases_Bool (same i j)) [
    | inl here ↦ subst (λ m. below k m ≡ true) (order.same_is i j here) h.0
    | inr gone ↦ higher_member k j is h.1 (rw gone at there)
  ]

  first_or_higher : (x y : K) (ys : List K) → AllHigher y ys → has x (y ∷ ys) ≡ true → (y ≡ x) ⊎ (below y x ≡ true)
  first_or_higher x y ys h there = elim (cases_Bool (same y x)) [
    | inl here ↦ inl (order.same_is y x here)
    | inr gone ↦ inr (higher_member y x ys h (rw gone at there))
  ]

  firsts : (x y : K) (xs ys : List K) → AllHigher x xs → AllHigher y ys → has x (y ∷ ys) ≡ true → has y (x ∷ xs) ≡ true → x ≡ y
  firsts x y xs ys hx hy x_there y_there = elim (first_or_higher x y ys hy x_there) [
    | inl e ↦ sym e
    | inr lower ↦ elim (first_or_higher y x xs hx y_there) [
      | inl e ↦ e
      | inr higher ↦ absurd (true≢false (sym higher ∙ never_both y x lower))
    ]
  ]

  rests : (x y k : K) (xs ys : List K) → AllHigher x xs → AllHigher y ys → x ≡ y → has k (x ∷ xs) ≡ has k (y ∷ ys) → has k xs ≡ has k ys
  rests x y k xs ys hx hy e h = elim (cases_Bool (same x k)) [
    | inl here ↦
        let k_is : x ≡ k = order.same_is x k here in
        let none_x : has k xs ≡ false = any-above (λ j. j) k xs (subst (λ j. AllHigher j xs) k_is hx) in
        let none_y : has k ys ≡ false = any-above (λ j. j) k ys (subst (λ j. AllHigher j ys) (sym e ∙ k_is) hy) in
        none_x ∙ sym none_y
    | inr gone ↦
        let other : same y k ≡ false = ap (λ j. same j k) (sym e) ∙ gone in
        sym (rw gone refl) ∙ (h ∙ rw other refl)
  ]

  -- lists in order with the same things are one
  pub rising_is_one : (xs ys : List K) → IsRising below (λ k. k) xs → IsRising below (λ k. k) ys →
      ((k : K) → has k xs ≡ has k ys) → xs ≡ ys
  rising_is_one [] [] rx ry e = refl
  rising_is_one [] (y ∷ ys) rx ry e = absurd (false≢true (e y ∙ has_first y ys))
  rising_is_one (x ∷ xs) [] rx ry e = absurd (true≢false (sym (has_first x xs) ∙ e x))
  rising_is_one (x ∷ xs) (y ∷ ys) rx ry e =
      let first : x ≡ y = firsts x y xs ys rx.0 ry.0 (sym (e x) ∙ has_first x xs) (e y ∙ has_first y ys) in
      let rest = rising_is_one xs ys rx.1 ry.1 (λ k. rests x y k xs ys rx.0 ry.0 first (e k)) in
      ap (λ k. k ∷ xs) first ∙ ap (λ l. y ∷ l) rest

  -- the keys of things, where one more is put in
  pub map-put_in : {X : Type 0} (key : X → K) (new : X) (xs : List X) → map key (put_in key new xs) ≡ put_in (λ k. k) (key new) (map key xs)
  map-put_in key new [] = refl
  map-put_in key new (x ∷ xs) = elim (cases_Bool (is_under key (key new) x)) [
    | inl under ↦ rw under (ap (λ l. key x ∷ l) (map-put_in key new xs))
    | inr over ↦ rw over refl
  ]
