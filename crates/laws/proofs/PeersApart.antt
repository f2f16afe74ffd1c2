-- What holds of the book of peers, through each change of it: they keep apart, and within its room.
use Rattle.std.proofs.Common.{◌≡◌, Bool, false, nat_le, List, [], ◌∷◌, length, filter, Some, is_some, if◌then◌else◌, refl, sym, subst, arith, ◌+◌, ◌≤◌, leb-false}
use Rattle.laws.proofs.Words.{length-map, filter-within}
use Rattle.laws.specs.Words.{AllByRecursion, same_address, Addr, Peer, has_address, with_peer, with_new, entered, most_peers, Machine}
use Rattle.peer_book.specs.Book.{peer_at}
use Rattle.laws.specs.Steady.{ArePeersApart, IsFormed}
use Rattle.laws.proofs.Addresses.{same_address-self, same_address-true}
use Rattle.laws.proofs.Cases.{by_bool}
use Rattle.laws.proofs.Each.{weaker-both}
use Rattle.laws.proofs.Lists.{filter-all}

pub same_turned : (a b : Addr) → same_address a b ≡ false → same_address b a ≡ false
same_turned a b h = grind (arith, h, same_address-true b a, same_address-self b)

-- of one address, and of all others
pub by_address : (P : Addr → Type 0) (a : Addr) → P a → ((b : Addr) → same_address b a ≡ false → P b) → (b : Addr) → P b
by_address P a own others b = by_bool (same_address b a) (λ c. P b) (λ is. subst P (sym (same_address-true b a is)) own) (λ other. others b other)

-- a peer in place of the one with its address
replaced-addr : (new p : Peer) → (if has_address new.addr p then new else p).addr ≡ p.addr
replaced-addr new p = grind (arith, same_address-true p.addr new.addr)

pub with_peer-others : (new : Peer) (addr : Addr) (ps : List Peer) → AllByRecursion (λ q. same_address q.addr addr ≡ false) ps →
    AllByRecursion (λ q. same_address q.addr addr ≡ false) (with_peer new ps)
with_peer-others new addr [] h = tt
with_peer-others new addr (p ∷ ps) h = (rw (replaced-addr new p) h.0, with_peer-others new addr ps h.1)

pub with_peer-apart : (new : Peer) (ps : List Peer) → ArePeersApart ps → ArePeersApart (with_peer new ps)
with_peer-apart new [] h = tt
with_peer-apart new (p ∷ ps) h = (
  subst (λ a. AllByRecursion (λ q. same_address q.addr a ≡ false) (with_peer new ps)) (sym (replaced-addr new p)) (with_peer-others new p.addr ps h.0),
  with_peer-apart new ps h.1,
)

-- a new one at its place
pub put_in-others : (new : Peer) (addr : Addr) (ps : List Peer) → same_address new.addr addr ≡ false →
    AllByRecursion (λ q. same_address q.addr addr ≡ false) ps → AllByRecursion (λ q. same_address q.addr addr ≡ false) (with_new new ps)
put_in-others new addr [] n h = (n, tt)
put_in-others new addr (p ∷ ps) n h = grind (arith, n, h.0, h.1, put_in-others new addr ps n h.1)

pub with_new-apart : (new : Peer) (ps : List Peer) → AllByRecursion (λ q. same_address q.addr new.addr ≡ false) ps → ArePeersApart ps → ArePeersApart (with_new new ps)
with_new-apart new [] n h = (tt, tt)
with_new-apart new (p ∷ ps) n h = search (arith, put_in-others, same_turned, with_new-apart new ps n.1 h.1)

-- where none is found, all are others
pub none_found : (addr : Addr) (ps : List Peer) → is_some (peer_at addr ps) ≡ false → AllByRecursion (λ q. same_address q.addr addr ≡ false) ps
none_found addr [] h = tt
none_found addr (p ∷ ps) h = grind (arith, h, none_found addr ps)

-- one comes where none has its address and there is room, or the book stays as it was
pub entered-cases : (new : Peer) (ps : List Peer) (P : List Peer → Type 0) → P ps →
    (is_some (peer_at new.addr ps) ≡ false → nat_le most_peers (length ps) ≡ false → P (with_new new ps)) → P (entered new ps)
entered-cases new ps P same comes = grind (arith, same, comes)

-- one goes
pub filter-apart : (q : Peer → Bool) (ps : List Peer) → ArePeersApart ps → ArePeersApart (filter q ps)
filter-apart q [] h = tt
filter-apart q (p ∷ ps) h = grind (arith, filter-all (λ x. same_address x.addr p.addr ≡ false) q ps h.0, filter-apart q ps h.1)

-- each is found under its address
pub all-found : (ps : List Peer) → ArePeersApart ps → AllByRecursion (λ p. peer_at p.addr ps ≡ Some p) ps
all-found [] h = tt
all-found (p ∷ ps) h = (rw (same_address-self p.addr) refl, weaker-both ps (λ q other found. rw (same_turned q.addr p.addr other) found) h.0 (all-found ps h.1))

pub record IsBook (own : Addr) (peers : List Peer) : Type 0 where
  pub apart : ArePeersApart peers
  pub others : AllByRecursion (λ p. same_address p.addr own ≡ false) peers
  pub room : length peers ≤ most_peers

pub book_of : (m : Machine) → IsFormed m → IsBook m.settings.own m.peers
book_of m h = record { apart = h.peers; others = h.other_peers; room = h.room }

-- whoever is in the book has not the own address
pub found-other : (own a : Addr) (ps : List Peer) (p : Peer) → AllByRecursion (λ q. same_address q.addr own ≡ false) ps → peer_at a ps ≡ Some p →
    same_address a own ≡ false
found-other own a [] p h found = absurd cc
found-other own a (q ∷ ps) p h found = grind (arith, found, h.0, same_address-true q.addr a, found-other own a ps p h.1)

-- a peer in place of the one with its address
pub with_peer-book : (own : Addr) (new : Peer) (ps : List Peer) → IsBook own ps → IsBook own (with_peer new ps)
with_peer-book own new ps h = search (arith, length-map, with_peer-apart, with_peer-others)

-- a new one
with_new-longer : (new : Peer) (ps : List Peer) → length (with_new new ps) ≡ length ps + 1
with_new-longer new [] = refl
with_new-longer new (p ∷ ps) = grind (arith, with_new-longer new ps)

pub entered-book : (own : Addr) (new : Peer) (ps : List Peer) → same_address new.addr own ≡ false → IsBook own ps → IsBook own (entered new ps)
entered-book own new ps other h = entered-cases new ps (IsBook own) h (λ none room. record {
  apart = with_new-apart new ps (none_found new.addr ps none) h.apart;
  others = put_in-others new own ps other h.others;
  room = let below = leb-false most_peers (length ps) room in let longer = with_new-longer new ps in omega (arith, below, longer);
})

-- some go
pub filter-book : (own : Addr) (q : Peer → Bool) (ps : List Peer) → IsBook own ps → IsBook own (filter q ps)
filter-book own q ps h = search (arith, filter-within, filter-apart, filter-all)
