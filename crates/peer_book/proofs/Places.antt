-- What the place of an address finds, and what an edit there leaves.
use Rattle.std.proofs.Common.{◌≡◌, ℕ, suc, ◌<◌, ◌+◌, Bool, true, false, cond, List, [], ◌∷◌, map, length, set, None, is_some, slice_get, refl, sym, ap, ◌∙◌, inl, inr, arith}
use Rattle.std.specs.List.{prefix_len, find, insert, remove}
use Rattle.std.proofs.lemmas.Bool.{cases_Bool, false≢true, true≢false}
use Rattle.net_base.specs.Address.{address_below, same_address}
use Rattle.net_base.specs.declared.address.Addr.{Addr}
use Rattle.peer_book.specs.Order.{IsRising, put_in, taken_out, found_at}
use Rattle.net_base.proofs.AddressOrder.{address_connected, address_turned, never_both, other_when_below, below-same}
use Rattle.peer_book.proofs.Rising.{AllAbove, above_lower, is_under}

pub one_more : (n : ℕ) → 1 + n ≡ suc n
one_more n = omega arith

module _ {X : Type 0} (key : X → Addr) where
  abbrev pub is_at : Addr → X → Bool
  is_at addr x = same_address (key x) addr

  -- something stands at the address
  abbrev pub stands : Addr → List X → Bool
  stands addr xs = is_some (find (is_at addr) xs)

  abbrev pub place : Addr → List X → ℕ
  place addr xs = prefix_len (is_under key addr) xs

  -- ---- nothing above an address stands at it

  above_is_other : (addr : Addr) (x : X) → address_below addr (key x) ≡ true → is_at addr x ≡ false
  above_is_other addr x h = address_turned (key x) addr h

  pub find-above : (addr : Addr) (xs : List X) → AllAbove key addr xs → find (is_at addr) xs ≡ None
  find-above addr [] h = refl
  find-above addr (x ∷ xs) h = rw (above_is_other addr x h.0) (find-above addr xs h.1)

  pub taken_out-above : (addr : Addr) (xs : List X) → AllAbove key addr xs → taken_out key addr xs ≡ xs
  taken_out-above addr [] h = refl
  taken_out-above addr (x ∷ xs) h = rw (above_is_other addr x h.0) (ap (λ l. x ∷ l) (taken_out-above addr xs h.1))

  abbrev pub replaced : Addr → X → List X → List X
  replaced addr new xs = map (λ x. cond (is_at addr x) new x) xs

  pub replaced-above : (addr : Addr) (new : X) (xs : List X) → AllAbove key addr xs → replaced addr new xs ≡ xs
  replaced-above addr new [] h = refl
  replaced-above addr new (x ∷ xs) h = rw (above_is_other addr x h.0) (ap (λ l. x ∷ l) (replaced-above addr new xs h.1))

  pub put_in-above : (new : X) (xs : List X) → AllAbove key (key new) xs → put_in key new xs ≡ new ∷ xs
  put_in-above new [] h = refl
  put_in-above new (x ∷ xs) h = rw (never_both (key new) (key x) h.0) refl

  -- ---- the first that isn't below

  pub above_when_same : (addr : Addr) (x : X) (xs : List X) → is_at addr x ≡ true → AllAbove key (key x) xs → AllAbove key addr xs
  above_when_same addr x [] same h = tt
  above_when_same addr x (y ∷ ys) same h =
      (sym (below-same (key x) addr (key y) same) ∙ h.0, above_when_same addr x ys same h.1)

  pub above_when_not_below : (addr : Addr) (x : X) (xs : List X) → is_under key addr x ≡ false → AllAbove key (key x) xs → AllAbove key addr xs
  above_when_not_below addr x xs under h = elim (cases_Bool (is_at addr x)) [
    | inl same ↦ above_when_same addr x xs same h
    | inr other ↦ above_lower key addr (key x) xs (address_connected (key x) addr other under) h
  ]

  -- ---- what the place of an address finds

  pub find-place : (addr : Addr) (xs : List X) → IsRising key xs → find (is_at addr) xs ≡ found_at key addr (slice_get xs (place addr xs))
  find-place addr [] rises = refl
  find-place addr (x ∷ xs) rises = elim (cases_Bool (is_under key addr x)) [
    | inl under ↦ rw (under, other_when_below (key x) addr under, one_more (place addr xs)) (find-place addr xs rises.1)
    | inr over ↦ elim (cases_Bool (is_at addr x)) [
      | inl same ↦ rw (over, same) refl
      | inr other ↦ rw (over, other) (find-above addr xs (above_when_not_below addr x xs over rises.0))
    ]
  ]

  -- ---- what an edit at the place leaves

  pub insert-place : (new : X) (xs : List X) → insert xs (place (key new) xs) new ≡ put_in key new xs
  insert-place new [] = refl
  insert-place new (x ∷ xs) = elim (cases_Bool (is_under key (key new) x)) [
    | inl under ↦ rw (under, one_more (place (key new) xs)) (ap (λ l. x ∷ l) (insert-place new xs))
    | inr over ↦ rw over refl
  ]

  -- where the first that isn't below an address isn't at it, nothing is
  first_is_there : (addr : Addr) (x : X) (xs : List X) → IsRising key (x ∷ xs) → is_under key addr x ≡ false →
      stands addr (x ∷ xs) ≡ true → is_at addr x ≡ true
  first_is_there addr x xs rises over there = elim (cases_Bool (is_at addr x)) [
    | inl same ↦ same
    | inr other ↦
        let none : find (is_at addr) xs ≡ None = find-above addr xs (above_when_not_below addr x xs over rises.0) in
        absurd (true≢false (sym there ∙ rw (other, none) refl))
  ]

  stands_later : (addr : Addr) (x : X) (xs : List X) → is_under key addr x ≡ true → stands addr (x ∷ xs) ≡ true → stands addr xs ≡ true
  stands_later addr x xs under there = rw (other_when_below (key x) addr under) at there

  pub place-inside : (addr : Addr) (xs : List X) → IsRising key xs → stands addr xs ≡ true → place addr xs < length xs
  place-inside addr [] rises there = absurd (false≢true there)
  place-inside addr (x ∷ xs) rises there = elim (cases_Bool (is_under key addr x)) [
    | inl under ↦ rw under (omega (arith, place-inside addr xs rises.1 (stands_later addr x xs under there)))
    | inr over ↦ rw over (omega arith)
  ]

  pub remove-place : (addr : Addr) (xs : List X) → IsRising key xs → stands addr xs ≡ true →
      remove xs (place addr xs) ≡ taken_out key addr xs
  remove-place addr [] rises there = absurd (false≢true there)
  remove-place addr (x ∷ xs) rises there = elim (cases_Bool (is_under key addr x)) [
    | inl under ↦ rw (under, other_when_below (key x) addr under, one_more (place addr xs))
        (ap (λ l. x ∷ l) (remove-place addr xs rises.1 (stands_later addr x xs under there)))
    | inr over ↦
        let same : is_at addr x ≡ true = first_is_there addr x xs rises over there in
        rw (over, same) (sym (taken_out-above addr xs (above_when_same addr x xs same rises.0)))
  ]

  pub set-place : (addr : Addr) (new : X) (xs : List X) → IsRising key xs → stands addr xs ≡ true →
      set xs (place addr xs) new ≡ replaced addr new xs
  set-place addr new [] rises there = absurd (false≢true there)
  set-place addr new (x ∷ xs) rises there = elim (cases_Bool (is_under key addr x)) [
    | inl under ↦ rw (under, other_when_below (key x) addr under, one_more (place addr xs))
        (ap (λ l. x ∷ l) (set-place addr new xs rises.1 (stands_later addr x xs under there)))
    | inr over ↦
        let same : is_at addr x ≡ true = first_is_there addr x xs rises over there in
        rw (over, same) (ap (λ l. new ∷ l) (sym (replaced-above addr new xs (above_when_same addr x xs same rises.0))))
  ]

  -- the same in two steps
  pub replaced-two_steps : (new : X) (xs : List X) → IsRising key xs → stands (key new) xs ≡ true →
      replaced (key new) new xs ≡ put_in key new (taken_out key (key new) xs)
  replaced-two_steps new [] rises there = absurd (false≢true there)
  replaced-two_steps new (x ∷ xs) rises there = elim (cases_Bool (is_under key (key new) x)) [
    | inl under ↦ rw (other_when_below (key x) (key new) under, under)
        (ap (λ l. x ∷ l) (replaced-two_steps new xs rises.1 (stands_later (key new) x xs under there)))
    | inr over ↦
        let same : is_at (key new) x ≡ true = first_is_there (key new) x xs rises over there in
        let above : AllAbove key (key new) xs = above_when_same (key new) x xs same rises.0 in
        rw same (ap (λ l. new ∷ l) (replaced-above (key new) new xs above)
        ∙ sym (ap (put_in key new) (taken_out-above (key new) xs above) ∙ put_in-above new xs above))
  ]
