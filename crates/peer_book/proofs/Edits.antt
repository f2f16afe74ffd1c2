-- What a thing put in, taken out or replaced leaves of an order, a filter and a count.
use Rattle.std.proofs.Common.{◌≡◌, suc, ◌≤◌, ◌+◌, Bool, true, false, ◌||◌, cond, List, [], ◌∷◌, map, length, Some, None, is_some, refl, sym, ap, ◌∙◌, inl, inr, arith}
use Rattle.std.specs.List.{AllByRecursion, find, filter, count_by}
use Rattle.std.proofs.lemmas.Bool.{cases_Bool, false≢true, true≢false, false_from_ne_true}
use Rattle.std.proofs.lemmas.List.Sums.{sum_by-cons}
use Rattle.net_base.specs.Address.{address_below, same_address}
use Rattle.net_base.specs.declared.address.Addr.{Addr}
use Rattle.peer_book.specs.Order.{IsRising, put_in, taken_out}
use Rattle.net_base.proofs.AddressOrder.{address_connected, address_transitive, below-same, never_both, other_address-turn}
use Rattle.peer_book.proofs.Places.{is_at, stands, replaced, taken_out-above, replaced-above, above_when_same}
use Rattle.peer_book.proofs.Rising.{AllAbove, above_lower, is_under}

or_true : (b : Bool) → b || true ≡ true
or_true true = refl
or_true false = refl

-- what is above one that isn't below another is above that other too
above_between : (a b c : Addr) → address_below b a ≡ false → address_below b c ≡ true → address_below a c ≡ true
above_between a b c over under = elim (cases_Bool (same_address b a)) [
  | inl same ↦ sym (below-same b a c same) ∙ under
  | inr other ↦ address_transitive a b c (address_connected b a other over) under
]

module _ {X : Type 0} (key : X → Addr) where
  -- ---- a filter

  AllAbove-cond : (a : Addr) (b : Bool) (x : X) (xs : List X) → address_below a (key x) ≡ true → AllAbove key a xs → AllAbove key a (cond b (x ∷ xs) xs)
  AllAbove-cond a true x xs h k = (h, k)
  AllAbove-cond a false x xs h k = k

  pub AllAbove-filter : (p : X → Bool) (a : Addr) (xs : List X) → AllAbove key a xs → AllAbove key a (filter p xs)
  AllAbove-filter p a [] h = tt
  AllAbove-filter p a (x ∷ xs) h = AllAbove-cond a (p x) x (filter p xs) h.0 (AllAbove-filter p a xs h.1)

  IsRising-cond : (b : Bool) (x : X) (xs : List X) → AllAbove key (key x) xs → IsRising key xs → IsRising key (cond b (x ∷ xs) xs)
  IsRising-cond true x xs h k = (h, k)
  IsRising-cond false x xs h k = k

  pub IsRising-filter : (p : X → Bool) (xs : List X) → IsRising key xs → IsRising key (filter p xs)
  IsRising-filter p [] h = tt
  IsRising-filter p (x ∷ xs) h = IsRising-cond (p x) x (filter p xs) (AllAbove-filter p (key x) xs h.0) (IsRising-filter p xs h.1)

  above_of_map : (a : Addr) (xs : List X) → AllAbove key a xs → AllAbove (λ b. b) a (map key xs)
  above_of_map a [] h = tt
  above_of_map a (x ∷ xs) h = (h.0, above_of_map a xs h.1)

  pub IsRising-map : (xs : List X) → IsRising key xs → IsRising (λ a. a) (map key xs)
  IsRising-map [] h = tt
  IsRising-map (x ∷ xs) h = (above_of_map (key x) xs h.0, IsRising-map xs h.1)

  -- ---- one thing put in

  pub AllAbove-put_in : (a : Addr) (new : X) (xs : List X) → address_below a (key new) ≡ true → AllAbove key a xs → AllAbove key a (put_in key new xs)
  AllAbove-put_in a new [] h k = (h, tt)
  AllAbove-put_in a new (x ∷ xs) h k = elim (cases_Bool (is_under key (key new) x)) [
    | inl under ↦ rw under (k.0, AllAbove-put_in a new xs h k.1)
    | inr over ↦ rw over (h, k)
  ]

  pub IsRising-put_in : (new : X) (xs : List X) → IsRising key xs → stands key (key new) xs ≡ false → IsRising key (put_in key new xs)
  IsRising-put_in new [] rises absent = (tt, tt)
  IsRising-put_in new (x ∷ xs) rises absent = elim (cases_Bool (is_at key (key new) x)) [
    | inl same ↦ absurd (true≢false (rw same at absent))
    | inr other ↦ elim (cases_Bool (is_under key (key new) x)) [
      | inl under ↦ rw under (AllAbove-put_in (key x) new xs under rises.0, IsRising-put_in new xs rises.1 (rw other at absent))
      | inr over ↦
          let below = address_connected (key x) (key new) other over in
          rw over ((below, above_lower key (key new) (key x) xs below rises.0), rises)
    ]
  ]

  pub length-put_in : (new : X) (xs : List X) → length (put_in key new xs) ≡ suc (length xs)
  length-put_in new [] = refl
  length-put_in new (x ∷ xs) = elim (cases_Bool (is_under key (key new) x)) [
    | inl under ↦ rw under (ap suc (length-put_in new xs))
    | inr over ↦ rw over refl
  ]

  pub count_by-put_in : (p : X → Bool) (new : X) (xs : List X) → count_by p (put_in key new xs) ≡ count_by p xs + cond (p new) 1 0
  count_by-put_in p new [] = sum_by-cons (λ x. cond (p x) 1 0) new [] ∙ omega arith
  count_by-put_in p new (x ∷ xs) = elim (cases_Bool (is_under key (key new) x)) [
    | inl under ↦ rw under (sum_by-cons (λ x. cond (p x) 1 0) x (put_in key new xs)
        ∙ omega (arith, count_by-put_in p new xs, sum_by-cons (λ x. cond (p x) 1 0) x xs))
    | inr over ↦ rw over (sum_by-cons (λ x. cond (p x) 1 0) new (x ∷ xs) ∙ omega arith)
  ]

  -- what an address isn't above is put in before
  put_in-first : (new : X) (xs : List X) → AllByRecursion (λ x. is_under key (key new) x ≡ false) xs → put_in key new xs ≡ new ∷ xs
  put_in-first new [] h = refl
  put_in-first new (x ∷ xs) h = rw h.0 refl

  not_under : (a : Addr) (x : X) (xs : List X) → is_under key a x ≡ false → AllAbove key (key x) xs → AllByRecursion (λ y. is_under key a y ≡ false) xs
  not_under a x [] over h = tt
  not_under a x (y ∷ ys) over h = (
    false_from_ne_true (is_under key a y) (λ k. false≢true (sym over ∙ address_transitive (key x) (key y) a h.0 k)),
    not_under a x ys over h.1,
  )

  over-cond : (a : Addr) (b : Bool) (x : X) (xs : List X) → is_under key a x ≡ false → AllByRecursion (λ y. is_under key a y ≡ false) xs →
      AllByRecursion (λ y. is_under key a y ≡ false) (cond b (x ∷ xs) xs)
  over-cond a true x xs h k = (h, k)
  over-cond a false x xs h k = k

  over-filter : (p : X → Bool) (a : Addr) (xs : List X) → AllByRecursion (λ y. is_under key a y ≡ false) xs →
      AllByRecursion (λ y. is_under key a y ≡ false) (filter p xs)
  over-filter p a [] h = tt
  over-filter p a (x ∷ xs) h = over-cond a (p x) x (filter p xs) h.0 (over-filter p a xs h.1)

  pub filter-put_in : (p : X → Bool) (new : X) (xs : List X) → IsRising key xs →
      filter p (put_in key new xs) ≡ cond (p new) (put_in key new (filter p xs)) (filter p xs)
  filter-put_in p new [] rises = refl
  filter-put_in p new (x ∷ xs) rises = elim (cases_Bool (is_under key (key new) x)) [
    | inl under ↦ elim (cases_Bool (p x)) [
      | inl kept ↦ rw (under, kept) (ap (λ l. x ∷ l) (filter-put_in p new xs rises.1) ∙ after_first (p new) x (filter p xs) under)
      | inr gone ↦ rw (under, gone) (filter-put_in p new xs rises.1)
    ]
    | inr over ↦ rw over (ap (λ l. cond (p new) l (filter p (x ∷ xs)))
        (sym (put_in-first new (filter p (x ∷ xs)) (over-filter p (key new) (x ∷ xs) (over, not_under (key new) x xs over rises.0)))))
  ]
    where
      after_first : (b : Bool) (x : X) (ys : List X) → is_under key (key new) x ≡ true →
          x ∷ cond b (put_in key new ys) ys ≡ cond b (put_in key new (x ∷ ys)) (x ∷ ys)
      after_first true x ys under = rw under refl
      after_first false x ys under = refl

  pub stands-put_in : (addr : Addr) (new : X) (xs : List X) → stands key addr (put_in key new xs) ≡ (is_at key addr new || stands key addr xs)
  stands-put_in addr new [] = first (is_at key addr new)
    where
      first : (b : Bool) → is_some (cond b (Some new) None) ≡ (b || false)
      first true = refl
      first false = refl
  stands-put_in addr new (x ∷ xs) = elim (cases_Bool (is_under key (key new) x)) [
    | inl under ↦ elim (cases_Bool (is_at key addr x)) [
      | inl same ↦ rw (under, same) (sym (or_true (is_at key addr new)))
      | inr other ↦ rw (under, other) (stands-put_in addr new xs)
    ]
    | inr over ↦ elim (cases_Bool (is_at key addr new)) [ inl same ↦ rw (over, same) refl | inr other ↦ rw (over, other) refl ]
  ]

  -- of two things of different addresses it doesn't matter which is put in first
  two_first : (a b : X) (xs : List X) → same_address (key a) (key b) ≡ false →
      cond (is_under key (key a) b) (b ∷ a ∷ xs) (a ∷ b ∷ xs) ≡ cond (is_under key (key b) a) (a ∷ b ∷ xs) (b ∷ a ∷ xs)
  two_first a b xs other = elim (cases_Bool (is_under key (key a) b)) [
    | inl under ↦ rw (under, never_both (key b) (key a) under) refl
    | inr over ↦ rw (over, address_connected (key b) (key a) (other_address-turn (key a) (key b) other) over) refl
  ]

  pub put_in-turn : (a b : X) (xs : List X) → same_address (key a) (key b) ≡ false → put_in key a (put_in key b xs) ≡ put_in key b (put_in key a xs)
  put_in-turn a b [] other = two_first a b [] other
  put_in-turn a b (x ∷ xs) other = elim (cases_Bool (is_under key (key b) x)) [
    | inl under_b ↦ elim (cases_Bool (is_under key (key a) x)) [
      | inl under_a ↦ rw (under_b, under_a, under_b) (ap (λ l. x ∷ l) (put_in-turn a b xs other))
      | inr over_a ↦ rw (under_b, over_a, above_between (key a) (key x) (key b) over_a under_b, under_b) refl
    ]
    | inr over_b ↦ elim (cases_Bool (is_under key (key a) x)) [
      | inl under_a ↦ rw (over_b, above_between (key b) (key x) (key a) over_b under_a, under_a, over_b) refl
      | inr over_a ↦ rw (over_b, over_a, over_b) (two_first a b (x ∷ xs) other)
    ]
  ]

  -- ---- one thing taken out

  pub find-taken_out : (addr : Addr) (xs : List X) → find (is_at key addr) (taken_out key addr xs) ≡ None
  find-taken_out addr [] = refl
  find-taken_out addr (x ∷ xs) = elim (cases_Bool (is_at key addr x)) [
    | inl same ↦ rw same (find-taken_out addr xs)
    | inr other ↦ rw (other, other) (find-taken_out addr xs)
  ]

  pub filter-taken_out : (p : X → Bool) (addr : Addr) (xs : List X) → filter p (taken_out key addr xs) ≡ taken_out key addr (filter p xs)
  filter-taken_out p addr [] = refl
  filter-taken_out p addr (x ∷ xs) = elim (cases_Bool (is_at key addr x)) [
    | inl same ↦ elim (cases_Bool (p x)) [
      | inl kept ↦ rw (same, kept, same) (filter-taken_out p addr xs)
      | inr gone ↦ rw (same, gone) (filter-taken_out p addr xs)
    ]
    | inr other ↦ elim (cases_Bool (p x)) [
      | inl kept ↦ rw (other, kept, other) (ap (λ l. x ∷ l) (filter-taken_out p addr xs))
      | inr gone ↦ rw (other, gone) (filter-taken_out p addr xs)
    ]
  ]

  pub map-taken_out : (addr : Addr) (xs : List X) → map key (taken_out key addr xs) ≡ taken_out (λ a. a) addr (map key xs)
  map-taken_out addr [] = refl
  map-taken_out addr (x ∷ xs) = elim (cases_Bool (is_at key addr x)) [
    | inl same ↦ rw same (map-taken_out addr xs)
    | inr other ↦ rw other (ap (λ l. key x ∷ l) (map-taken_out addr xs))
  ]

  pub map-put_in : (new : X) (xs : List X) → map key (put_in key new xs) ≡ put_in (λ a. a) (key new) (map key xs)
  map-put_in new [] = refl
  map-put_in new (x ∷ xs) = elim (cases_Bool (is_under key (key new) x)) [
    | inl under ↦ rw under (ap (λ l. key x ∷ l) (map-put_in new xs))
    | inr over ↦ rw over refl
  ]

  is_found : (x old : X) → Some x ≡ Some old → x ≡ old
  is_found x old e = cc

  -- the one at an address, and then the rest
  found_here : (addr : Addr) (x old : X) (xs : List X) → find (is_at key addr) (x ∷ xs) ≡ Some old → is_at key addr x ≡ true → x ≡ old
  found_here addr x old xs found same = is_found x old (rw same at found)

  found_later : (addr : Addr) (x old : X) (xs : List X) → find (is_at key addr) (x ∷ xs) ≡ Some old → is_at key addr x ≡ false →
      find (is_at key addr) xs ≡ Some old
  found_later addr x old xs found other = rw other at found

  -- without the one at the address, what a filter that it fails keeps is the same
  pub filter-without : (p : X → Bool) (addr : Addr) (old : X) (xs : List X) → IsRising key xs → find (is_at key addr) xs ≡ Some old →
      p old ≡ false → filter p (taken_out key addr xs) ≡ filter p xs
  filter-without p addr old [] rises found fails = refl
  filter-without p addr old (x ∷ xs) rises found fails = elim (cases_Bool (is_at key addr x)) [
    | inl same ↦
        let gone : p x ≡ false = ap p (found_here addr x old xs found same) ∙ fails in
        rw (same, gone) (ap (filter p) (taken_out-above key addr xs (above_when_same key addr x xs same rises.0)))
    | inr other ↦ rw other (ap (λ l. cond (p x) (x ∷ l) l) (filter-without p addr old xs rises.1 (found_later addr x old xs found other) fails))
  ]

  pub stands-filter : (p : X → Bool) (addr : Addr) (old : X) (xs : List X) → find (is_at key addr) xs ≡ Some old → p old ≡ true →
      stands (λ a. a) addr (map key (filter p xs)) ≡ true
  stands-filter p addr old [] found passes = cc
  stands-filter p addr old (x ∷ xs) found passes = elim (cases_Bool (is_at key addr x)) [
    | inl same ↦
        let kept : p x ≡ true = ap p (found_here addr x old xs found same) ∙ passes in
        rw (kept, same) refl
    | inr other ↦
        let later = stands-filter p addr old xs (found_later addr x old xs found other) passes in
        elim (cases_Bool (p x)) [ inl kept ↦ rw (kept, other) later | inr gone ↦ rw gone later ]
  ]

  pub count_by-taken_out : (p : X → Bool) (addr : Addr) (old : X) (xs : List X) → IsRising key xs → find (is_at key addr) xs ≡ Some old →
      count_by p xs ≡ count_by p (taken_out key addr xs) + cond (p old) 1 0
  count_by-taken_out p addr old [] rises found = cc
  count_by-taken_out p addr old (x ∷ xs) rises found = elim (cases_Bool (is_at key addr x)) [
    | inl same ↦
        let rest = taken_out-above key addr xs (above_when_same key addr x xs same rises.0) in
        rw (same, rest) (sum_by-cons (λ x. cond (p x) 1 0) x xs
        ∙ (ap (λ v. cond (p v) 1 0 + count_by p xs) (found_here addr x old xs found same) ∙ omega arith))
    | inr other ↦
        let later = count_by-taken_out p addr old xs rises.1 (found_later addr x old xs found other) in
        rw other (sum_by-cons (λ x. cond (p x) 1 0) x xs
        ∙ omega (arith, later, sum_by-cons (λ x. cond (p x) 1 0) x (taken_out key addr xs)))
  ]

  pub length-taken_out : (addr : Addr) (old : X) (xs : List X) → IsRising key xs → find (is_at key addr) xs ≡ Some old →
      length xs ≡ suc (length (taken_out key addr xs))
  length-taken_out addr old [] rises found = cc
  length-taken_out addr old (x ∷ xs) rises found = elim (cases_Bool (is_at key addr x)) [
    | inl same ↦ rw (same, taken_out-above key addr xs (above_when_same key addr x xs same rises.0)) refl
    | inr other ↦ rw other (ap suc (length-taken_out addr old xs rises.1 (found_later addr x old xs found other)))
  ]

  -- ---- one thing replaced by another of its address

  pub filter-replaced : (p : X → Bool) (addr : Addr) (old new : X) (xs : List X) → IsRising key xs → find (is_at key addr) xs ≡ Some old →
      key new ≡ key old → p new ≡ p old → map key (filter p (replaced key addr new xs)) ≡ map key (filter p xs)
  filter-replaced p addr old new [] rises found e f = refl
  filter-replaced p addr old new (x ∷ xs) rises found e f = elim (cases_Bool (is_at key addr x)) [
    | inl same ↦
        let here = found_here addr x old xs found same in
        let rest = replaced-above key addr new xs (above_when_same key addr x xs same rises.0) in
        rw (same, rest) (one_kept (p new) (p x) new x (filter p xs) (f ∙ ap p (sym here)) (e ∙ ap key (sym here)))
    | inr other ↦ rw other (both_kept (p x) x _ _ (filter-replaced p addr old new xs rises.1 (found_later addr x old xs found other) e f))
  ]
    where
      one_kept : (b c : Bool) (y z : X) (ys : List X) → b ≡ c → key y ≡ key z → map key (cond b (y ∷ ys) ys) ≡ map key (cond c (z ∷ ys) ys)
      one_kept b true y z ys g h = rw g (ap (λ k. k ∷ map key ys) h)
      one_kept b false y z ys g h = rw g refl

      both_kept : (b : Bool) (y : X) (ys zs : List X) → map key ys ≡ map key zs → map key (cond b (y ∷ ys) ys) ≡ map key (cond b (y ∷ zs) zs)
      both_kept true y ys zs h = ap (λ l. key y ∷ l) h
      both_kept false y ys zs h = h

pub filter-within : {X : Type 0} (p : X → Bool) (xs : List X) → length (filter p xs) ≤ length xs
filter-within p [] = omega arith
filter-within p (x ∷ xs) = kept (p x) (filter-within p xs)
  where
    kept : (b : Bool) → length (filter p xs) ≤ length xs → length (cond b (x ∷ filter p xs) (filter p xs)) ≤ suc (length xs)
    kept true h = omega (arith, h)
    kept false h = omega (arith, h)
