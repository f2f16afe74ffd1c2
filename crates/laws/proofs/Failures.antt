-- Whose peer fails: that of a connection which goes and is missed.
use Rattle.std.proofs.Common.{◌≡◌, refl, arith}
use Rattle.laws.specs.Words.{option_map, CloseCause, Overwritten, Addr, Facts, Peer, without_entry, lost, ending, vanishes, Machine, Entry, peer_at, peer_changes}
use Rattle.laws.specs.AtMoves.{is_missed, is_failure, failed_where, FailsWhere}
use Rattle.laws.proofs.Ties.{found-addr, peer_here}

-- at the address of a peer that changes is what it turned into
pub changed-found : (a : Addr) (change : Peer → Peer) (m : Machine) → ((p : Peer) → (change p).addr ≡ p.addr) →
    peer_at a (peer_changes a change m).machine ≡ option_map change (peer_at a m)
changed-found a change m same = grind (arith, found-addr, peer_here)

lost-failed : (f : Facts) (m : Machine) → peer_at f.addr (lost f m).machine ≡ failed_where (is_missed f) m.now m.settings.backoff (peer_at f.addr m)
lost-failed f m = grind (arith, changed-found)

pub ending-failed : (cause : CloseCause) (e : Entry) (m : Machine) → FailsWhere (is_failure cause e.facts) e m (ending cause e m).machine
ending-failed Overwritten e m = refl
ending-failed other e m = lost-failed e.facts (without_entry e.facts.cid.0 m)

pub vanishes-failed : (e : Entry) (m : Machine) → FailsWhere (is_missed e.facts) e m (vanishes e m).machine
vanishes-failed e m = lost-failed e.facts (without_entry e.facts.cid.0 m)
