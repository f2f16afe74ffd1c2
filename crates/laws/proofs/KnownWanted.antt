-- No more addresses come into the book than are wanted.
use Rattle.std.proofs.Common.{◌+◌, ◌-◌, ◌≤◌, ◌<◌, ◌≡◌, Bool, false, List, [], ◌∷◌, ◌++◌, length, Option, Some, None, sym, ap, ◌∙◌, subst, arith}
use Rattle.laws.proofs.Words.{length-take, count_by-put_in}
use Rattle.laws.specs.Words.{AllByRecursion, Addr, Peer, known_of, new_peer, entered, Share, Peers, Machine, Effect, Happened, shared, as_move, for_each, peer_comes, shares_address, takes_addresses}
use Rattle.peer_book.specs.Book.{peer_at as peer_in}
use Rattle.laws.specs.AtMoves.{known_wanted, IsWantedNew, WithinTargets}
use Rattle.laws.proofs.Lawful.{comes-machine, comes-providing, Within}
use Rattle.laws.proofs.Lists.{all-appended}
use Rattle.laws.proofs.Spending.{one-most}
use Rattle.laws.proofs.Ties.{put_in-here}
use Rattle.laws.proofs.Cases.{some_same}
use Rattle.laws.proofs.PeersApart.{entered-cases}

-- a part that is one move
pub move-within : (happened : Happened) (before : Machine) (effect : Effect) → effect.moves ≡ [] → WithinTargets happened before effect.machine →
    AllByRecursion Within (as_move happened before effect).moves
move-within happened before effect none within = search arith

-- ---- an address comes into the book

abbrev came : Bool → Addr → Machine → Machine
came big addr m = record m { peers = entered (new_peer big addr) m.peers }

-- at most one more is known of its class
entered-known : (big : Bool) (addr : Addr) (ps : List Peer) → known_of big (entered (new_peer big addr) ps) ≤ known_of big ps + 1
entered-known big addr ps = search (arith, count_by-put_in, one-most)

-- whoever was not there and is found is of its class
entered-class : (big : Bool) (addr : Addr) (ps : List Peer) (p : Peer) → peer_in addr ps ≡ None → peer_in addr (entered (new_peer big addr) ps) ≡ Some p →
    p.big ≡ big
entered-class big addr ps p none = entered-cases (new_peer big addr) ps (λ qs. peer_in addr qs ≡ Some p → p.big ≡ big)
    (λ same. let never : None ≡ Some p = sym none ∙ same in absurd cc)
    (λ absent room here. ap (λ q. q.big) (some_same p (new_peer big addr) (sym here ∙ put_in-here (new_peer big addr) ps none)))

came-within : (big : Bool) (addr : Addr) (m : Machine) → known_of big m.peers < known_wanted big m → IsWantedNew addr m (came big addr m)
came-within big addr m fewer none p found = search (arith, entered-class, entered-known)

pub comes-wanted : (big : Bool) (addr : Addr) (m : Machine) → known_of big m.peers < known_wanted big m → IsWantedNew addr m (peer_comes big addr m).machine
comes-wanted big addr m fewer = subst (IsWantedNew addr m) (sym (comes-machine big addr m)) (came-within big addr m fewer)

-- ---- addresses that a peer told

pub shares-within : (addrs : List Addr) (m : Machine) → length addrs ≤ known_wanted false m - known_of false m.peers →
    AllByRecursion Within (for_each shares_address addrs m).moves
unfolding for_each
shares-within [] m h = tt
shares-within (a ∷ addrs) m h =
    let n : Machine = (shares_address a m).machine in
    all-appended Within (shares_address a m).moves (for_each shares_address addrs n).moves
    (move-within (shared a) m (peer_comes false a m) (comes-providing false a m).moves (comes-wanted false a m (omega (arith, h))))
    (shares-within addrs n (subst (λ o. length addrs ≤ known_wanted false o - known_of false o.peers) (sym (comes-machine false a m))
    (let most = entered-known false a m.peers in omega (arith, h, most))))

pub takes-within : (o : Option Share) (m : Machine) → AllByRecursion Within (takes_addresses o m).moves
takes-within (Some (Peers told)) m = search (arith, length-take, shares-within)
takes-within other m = tt
