-- Whom an event provides: only addresses that it names come into the book.
use Rattle.std.proofs.Common.{ℕ, zero, suc, ◌≡◌, true, false, ◌||◌, List, [], ◌∷◌, ◌++◌, take, arith}
use Rattle.laws.proofs.Words.{false≢true, list_any-append}
use Rattle.laws.specs.Words.{same_address, Addr, Group, is_listed, first_places, cleaned_after, members_of, publics_of, Machine, comes_ordinary}
use Rattle.laws.specs.AtMoves.{is_known}
use Rattle.laws.proofs.Lawful.{comes-machine}
use Rattle.laws.proofs.PeersApart.{same_turned}
use Rattle.laws.proofs.Rises.{entered-known}

-- ---- what is kept of what is named

first_places-listed : (a : Addr) (before addrs : List Addr) → is_listed a (first_places before addrs) ≡ true → is_listed a addrs ≡ true
unfolding first_places
first_places-listed a before [] h = h
first_places-listed a before (x ∷ addrs) h = grind (arith, h, first_places-listed a before addrs, first_places-listed a (before ++ x ∷ []) addrs)

pub cleaned-listed : (a : Addr) (before : List Addr) (groups : List Group) → is_listed a (members_of (cleaned_after before groups)) ≡ true → is_listed a (members_of groups) ≡ true
unfolding cleaned_after
cleaned-listed a before [] h = h
cleaned-listed a before (g ∷ groups) h =
    let kept : List Addr = first_places before g.members in
    let later : List Addr = members_of (cleaned_after (before ++ kept) groups) in
    let named = list_any-append (same_address a) g.members (members_of groups) in
    let rest = list_any-append (same_address a) kept later in
    grind (arith, h, first_places-listed a before g.members, cleaned-listed a (before ++ kept) groups, named, rest)

take-listed : (a : Addr) (n : ℕ) (addrs : List Addr) → is_listed a (take n addrs) ≡ true → is_listed a addrs ≡ true
take-listed a zero addrs h = absurd (false≢true h)
take-listed a (suc n) [] h = h
take-listed a (suc n) (x ∷ addrs) h = grind (arith, h, take-listed a n addrs)

pub publics-listed : (a own : Addr) (most : ℕ) (addrs : List Addr) → is_listed a (publics_of own most addrs) ≡ true → is_listed a addrs ≡ true
publics-listed a own most addrs listed = first_places-listed a (own ∷ []) addrs (take-listed a most (first_places (own ∷ []) addrs) listed)

-- ---- who is known afterwards

pub comes-known : (a b : Addr) (m : Machine) → is_known b (comes_ordinary a m).machine ≡ true → (is_known b m || same_address b a) ≡ true
comes-known a b m h = grind (arith, h, comes-machine false a m, entered-known false a b m, same_turned b a)
