-- Distinct addresses, and peers with them.
use Rattle.std.proofs.Common.{◌≡◌, ℕ, suc, zero, ◌<◌, Bool, false, List, [], ◌∷◌, ◌++◌, map, length, get_or, refl, ap, inl, inr, arith}
use Rattle.std.specs.List.{AllByRecursion, IsDistinct, filter}
use Rattle.std.specs.List.Sorted.{IsPermutation}
use Rattle.std.proofs.lemmas.Bool.{cases_Bool}
use Rattle.std.proofs.lemmas.List.Sorted.{IsPermutation-map}
use Rattle.net_base.specs.Address.{same_address}
use Rattle.net_base.specs.declared.address.Addr.{Addr}
use Rattle.net_base.specs.declared.event.Group.{Group}
use Rattle.net_base.specs.declared.peer.Peer.{Peer}
use Rattle.peer_book.specs.Book.{addresses_of}
use Rattle.peer_book.specs.Order.{IsRising}
use Rattle.peer_book.proofs.BookFacts.{IsDistinct-rising}
use Rattle.pick_policy.proofs.Distinct.{IsDistinct-permutation}
use Rattle.root_groups.specs.Cleaned.{members_of}

pub map-twice : {X Y Z : Type 0} (f : Y → Z) (g : X → Y) (xs : List X) → map f (map g xs) ≡ map (λ x. f (g x)) xs
map-twice f g [] = refl
map-twice f g (x ∷ xs) = ap (λ l. f (g x) ∷ l) (map-twice f g xs)

-- ---- after a filter

apart-filter : {X : Type 0} (key : X → Addr) (test : X → Bool) (a : Addr) (xs : List X) → AllByRecursion (λ b. same_address a b ≡ false) (map key xs) →
    AllByRecursion (λ b. same_address a b ≡ false) (map key (filter test xs))
apart-filter key test a [] h = tt
apart-filter key test a (x ∷ xs) h = elim (cases_Bool (test x)) [
  | inl kept ↦ rw kept (h.0, apart-filter key test a xs h.1)
  | inr gone ↦ rw gone (apart-filter key test a xs h.1)
]

pub IsDistinct-filter : {X : Type 0} (key : X → Addr) (test : X → Bool) (xs : List X) → IsDistinct same_address (map key xs) →
    IsDistinct same_address (map key (filter test xs))
unfolding IsDistinct
IsDistinct-filter key test [] h = tt
IsDistinct-filter key test (x ∷ xs) h = elim (cases_Bool (test x)) [
  | inl kept ↦ rw kept (apart-filter key test (key x) xs h.0, IsDistinct-filter key test xs h.1)
  | inr gone ↦ rw gone (IsDistinct-filter key test xs h.1)
]

-- ---- in each group

all_front : (P : Addr → Type 0) (xs ys : List Addr) → AllByRecursion P (xs ++ ys) → AllByRecursion P xs
all_front P [] ys h = tt
all_front P (x ∷ xs) ys h = (h.0, all_front P xs ys h.1)

distinct_front : (xs ys : List Addr) → IsDistinct same_address (xs ++ ys) → IsDistinct same_address xs
unfolding IsDistinct
distinct_front [] ys h = tt
distinct_front (x ∷ xs) ys h = (all_front (λ b. same_address x b ≡ false) xs ys h.0, distinct_front xs ys h.1)

distinct_back : (xs ys : List Addr) → IsDistinct same_address (xs ++ ys) → IsDistinct same_address ys
unfolding IsDistinct
distinct_back [] ys h = h
distinct_back (x ∷ xs) ys h = distinct_back xs ys h.1

pub distinct_members : (groups : List Group) (i : ℕ) (d : Group) → i < length groups → IsDistinct same_address (members_of groups) →
    IsDistinct same_address (get_or groups i d).members
distinct_members [] i d inside h = absurd (omega (arith, inside))
distinct_members (g ∷ groups) zero d inside h = distinct_front g.members (members_of groups) h
distinct_members (g ∷ groups) (suc i) d inside h = distinct_members groups i d (omega arith) (distinct_back g.members (members_of groups) h)

-- ---- in the book

pub distinct_book : (book : List Peer) → IsRising (λ p. p.addr) book → IsDistinct same_address (addresses_of book)
distinct_book book rises = IsDistinct-rising (λ (p : Peer). p.addr) book rises

-- ---- in another order

pub apart-permuted : (peers others : List Peer) → IsDistinct same_address (addresses_of peers) → IsPermutation peers others →
    IsDistinct same_address (addresses_of others)
apart-permuted peers others apart moved =
    IsDistinct-permutation (addresses_of peers) (addresses_of others) (IsPermutation-map (λ (p : Peer). p.addr) peers others moved) apart

-- those of a book that pass a test, in any order
pub filter_apart : (test : Peer → Bool) (book others : List Peer) → IsRising (λ p. p.addr) book → IsPermutation (filter test book) others →
    IsDistinct same_address (addresses_of others)
filter_apart test book others rises =
    apart-permuted (filter test book) others (IsDistinct-filter (λ (p : Peer). p.addr) test book (distinct_book book rises))

-- ---- nothing

pub nothing : {X : Type 0} (xs : List X) → length xs ≡ 0 → xs ≡ []
nothing [] h = refl
nothing (x ∷ xs) h = absurd (omega (arith, h))
