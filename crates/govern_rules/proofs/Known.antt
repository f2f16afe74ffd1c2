-- Peers that stand together in the book, and links that do.
use Rattle.std.proofs.Common.{◌≡◌, ℕ, zero, suc, ◌≤◌, Bool, true, false, not, List, [], ◌∷◌, length, take, drop, slice_get, Option, Some, None, is_some, refl, sym, ap, subst, ◌∙◌, inl, inr, arith}
use Rattle.std.specs.List.{AllByRecursion}
use Rattle.std.specs.Option.{option_to_list}
use Rattle.std.proofs.lemmas.Bool.{cases_Bool, false≢true, true≢false}
use Rattle.net_base.specs.Address.{same_address}
use Rattle.net_base.specs.declared.address.Addr.{Addr}
use Rattle.net_base.specs.declared.peer.Peer.{Peer}
use Rattle.net_base.proofs.AddressOrder.{same_address-is}
use Rattle.peer_book.specs.Book.{peer_at}
use Rattle.peer_book.specs.Order.{IsRising, found_at}
use Rattle.govern_rules.specs.SortedLinks.{AreNotBelow, IsInOrder, links_of}
use Rattle.govern_rules.specs.Walks.{AreKnown, IsRunFrom, has_other_address_at}
use Rattle.govern_rules.specs.declared.link.Link.{Link}
use Rattle.govern_rules.proofs.Apart.{distinct_book}
use Rattle.govern_rules.proofs.ByAddress.{none_behind}
use Rattle.govern_rules.proofs.Rows.{at_own}

-- ---- peers

all-drop : {X : Type 0} (P : X → Type 0) (n : ℕ) (xs : List X) → AllByRecursion P xs → AllByRecursion P (drop n xs)
all-drop P zero xs h = h
all-drop P (suc n) [] h = tt
all-drop P (suc n) (x ∷ xs) h = all-drop P n xs h.1

all-take : {X : Type 0} (P : X → Type 0) (n : ℕ) (xs : List X) → AllByRecursion P xs → AllByRecursion P (take n xs)
all-take P zero xs h = tt
all-take P (suc n) [] h = tt
all-take P (suc n) (x ∷ xs) h = (h.0, all-take P n xs h.1)

-- what stands together in the book is known
pub run-known : (book run : List Peer) (place : ℕ) → IsRising (λ p. p.addr) book → IsRunFrom place book run → AreKnown run book
run-known book run place rises front =
    let known : Peer → Type 0 = λ p. peer_at p.addr book ≡ Some p in
    subst (AllByRecursion known) (sym front)
    (all-take known (length run) (drop place book) (all-drop known place book (at_own book (distinct_book book rises))))

-- a known peer is found at its address
pub first-found : (addr : Addr) (run book : List Peer) → AreKnown run book → is_some (found_at (λ p. p.addr) addr (slice_get run 0)) ≡ true →
    found_at (λ p. p.addr) addr (slice_get run 0) ≡ peer_at addr book
first-found addr [] book known there = absurd (false≢true there)
first-found addr (p ∷ run) book known there = elim (cases_Bool (same_address p.addr addr)) [
  | inl same ↦ rw same (sym known.0 ∙ ap (λ a. peer_at a book) (same_address-is p.addr addr same))
  | inr other ↦ absurd (false≢true (rw other at there))
]

-- where the first has an address, it is the one with it
pub first-alone : (addr : Addr) (run : List Peer) → is_some (found_at (λ p. p.addr) addr (slice_get run 0)) ≡ true →
    take 1 run ≡ option_to_list (found_at (λ p. p.addr) addr (slice_get run 0))
first-alone addr [] there = absurd (false≢true there)
first-alone addr (p ∷ run) there = elim (cases_Bool (same_address p.addr addr)) [
  | inl same ↦ rw same refl
  | inr other ↦ absurd (false≢true (rw other at there))
]

pub some-first : (addr : Addr) (run : List Peer) → is_some (found_at (λ p. p.addr) addr (slice_get run 0)) ≡ true → 1 ≤ length run
some-first addr [] there = absurd (false≢true there)
some-first addr (p ∷ run) there = omega arith

pub none-listed : (o : Option Peer) → is_some o ≡ false → [] ≡ option_to_list o
none-listed None h = refl
none-listed (Some p) h = absurd (true≢false h)

-- ---- links

is-other : (b : Bool) → not b ≡ true → b ≡ false
is-other true h = absurd (false≢true h)
is-other false h = refl

-- where the first of those from a place on has another address, none of them has it
pub none_from : (addr : Addr) (run links : List Link) → IsInOrder links → AreNotBelow addr links → run ≡ take (length run) links →
    has_other_address_at addr (slice_get run 0) ≡ true → links_of addr links ≡ []
none_from addr [] links ordered above front other = absurd (false≢true other)
none_from addr (l ∷ run) [] ordered above front other = absurd cc
none_from addr (l ∷ run) (k ∷ links) ordered above front other =
    let first : l ≡ k = cc in
    none_behind addr k links ordered above.0 (ap (λ x. same_address x.addr addr) (sym first) ∙ is-other (same_address l.addr addr) other)
