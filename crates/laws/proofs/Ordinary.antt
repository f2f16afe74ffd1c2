-- Local peers are ordinary ones, through each change of the book.
use Rattle.std.proofs.Common.{◌≡◌, Bool, true, false, List, [], ◌∷◌, Option, Some, None, refl, sym, ◌∙◌, subst, arith}
use Rattle.laws.specs.Words.{Addr, Peer, without_peer, new_peer, entered, is_listed, members_of, Machine, for_each, peer_at, turns_at, peer_is_ordinary}
use Rattle.peer_book.specs.Book.{peer_at as peer_in, with_peer as with_peer_in}
use Rattle.laws.specs.Laws.{is_local, LocalsAreOrdinary}
use Rattle.laws.proofs.Addresses.{same_address-true}
use Rattle.laws.proofs.Ties.{found-addr, peer_elsewhere, peer_here, put_in-elsewhere, put_in-here, none_there, taken-elsewhere, taken-here}
use Rattle.laws.proofs.PeersApart.{entered-cases}
use Rattle.laws.proofs.Cases.{by_option}

-- ---- one peer

-- the peer of an address, if there is one, is an ordinary one
abbrev IsOrdinaryIn : List Peer → Addr → Type 0
IsOrdinaryIn peers addr = (p : Peer) → peer_in addr peers ≡ Some p → p.big ≡ false

-- a peer that is put in place of another is ordinary where that was
with_peer-ordinary : (new p : Peer) (ps : List Peer) → peer_in new.addr ps ≡ Some p → (p.big ≡ false → new.big ≡ false) → (b : Addr) →
    IsOrdinaryIn ps b → IsOrdinaryIn (with_peer_in new ps) b
with_peer-ordinary new p ps found keeps b h q is =
    grind (arith, is, found, keeps, h p, h q, same_address-true b new.addr, peer_here new p ps found, peer_elsewhere new b ps)

-- a change that makes no big ledger peer, at the address of a peer
turned-ordinary : (a : Addr) (change : Peer → Peer) (m : Machine) → ((p : Peer) → (change p).addr ≡ p.addr) →
    ((p : Peer) → p.big ≡ false → (change p).big ≡ false) → (o : Option Peer) → peer_at a m ≡ o → (b : Addr) →
    IsOrdinaryIn m.peers b → IsOrdinaryIn (turns_at o change m).machine.peers b
turned-ordinary a change m same keeps None is b h = h
turned-ordinary a change m same keeps (Some p) is b h = search (arith, with_peer-ordinary, found-addr)

-- ---- all local peers

pub turned-classes : (a : Addr) (change : Peer → Peer) (m : Machine) → ((p : Peer) → (change p).addr ≡ p.addr) →
    ((p : Peer) → p.big ≡ false → (change p).big ≡ false) → (p : Peer) → peer_at a m ≡ Some p →
    LocalsAreOrdinary m → LocalsAreOrdinary (turns_at (Some p) change m).machine
turned-classes a change m same keeps p is h b q found local = search (arith, turned-ordinary)

-- An ordinary peer comes, or a big ledger peer that is not local.
pub comes-classes : (big : Bool) (addr : Addr) (m : Machine) → (is_local m.groups addr ≡ true → big ≡ false) →
    LocalsAreOrdinary m → LocalsAreOrdinary (record m { peers = entered (new_peer big addr) m.peers })
comes-classes big addr m class h = entered-cases (new_peer big addr) m.peers (λ ps. LocalsAreOrdinary (record m { peers = ps })) h
    (λ absent room b q is local.
    let here = put_in-here (new_peer big addr) m.peers (none_there (peer_in addr m.peers) absent) in
    grind (arith, is, local, class, h b q, same_address-true b addr, here, put_in-elsewhere (new_peer big addr) b m.peers))

pub taken-classes : (addr : Addr) (m : Machine) → LocalsAreOrdinary m → LocalsAreOrdinary (record m { peers = without_peer addr m.peers })
taken-classes addr m h b q is local = grind (arith, is, local, h b q, same_address-true b addr, taken-here addr m.peers, taken-elsewhere addr b m.peers)

-- ---- the groups are set

-- a peer that is made ordinary
made-ordinary : (a : Addr) (m : Machine) → IsOrdinaryIn (peer_is_ordinary a m).machine.peers a
made-ordinary a m q = by_option (peer_at a m) (λ o. peer_in a (turns_at o (λ p. record p { big = false }) m).machine.peers ≡ Some q → q.big ≡ false)
    (λ is found. absurd (let never : None ≡ Some q = sym is ∙ found in cc))
    (λ p is found. grind (arith, found, is, found-addr a m.peers p is, peer_here (record p { big = false }) p m.peers))

all-stay : (addrs : List Addr) (m : Machine) (b : Addr) → IsOrdinaryIn m.peers b → IsOrdinaryIn (for_each peer_is_ordinary addrs m).machine.peers b
unfolding for_each
all-stay [] m b h = h
all-stay (a ∷ addrs) m b h =
    all-stay addrs (peer_is_ordinary a m).machine b (turned-ordinary a (λ p. record p { big = false }) m (λ p. refl) (λ p is. refl) (peer_at a m) refl b h)

all-made : (addrs : List Addr) (m : Machine) (b : Addr) → is_listed b addrs ≡ true → IsOrdinaryIn (for_each peer_is_ordinary addrs m).machine.peers b
unfolding for_each
all-made [] m b listed q found = absurd cc
all-made (a ∷ addrs) m b listed q found =
    let n : Machine = (peer_is_ordinary a m).machine in
    grind (arith, listed, found, same_address-true b a, made-ordinary a m q, made-ordinary a m, all-stay addrs n b, all-made addrs n b)

made-groups : (addrs : List Addr) (m : Machine) → (for_each peer_is_ordinary addrs m).machine.groups ≡ m.groups
unfolding for_each
made-groups [] m = refl
made-groups (a ∷ addrs) m = grind (arith, made-groups addrs (peer_is_ordinary a m).machine)

-- once each member was made an ordinary peer, local peers are ordinary
pub members-classes : (m : Machine) → LocalsAreOrdinary (for_each peer_is_ordinary (members_of m.groups) m).machine
members-classes m b q found local = search (arith, all-made, made-groups)
