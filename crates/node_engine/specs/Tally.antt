-- How many peers and connections there are.
use Rattle.std.specs.Prelude.{Bool, true, false, ◌&&◌, not, count_by}
use Rattle.net_base.specs.declared.peer.Peer.{Peer}
use Rattle.net_base.specs.declared.peer.Temp.{Temp}
use Rattle.net_base.specs.declared.peer.Temp.TheVariants.{Cold, Warm, Hot}
use Rattle.machine.specs.Machine.{Machine, counted_in}
use Rattle.node_engine.specs.declared.tally.Tally.{Tally}

-- this node uses a connection with the peer
abbrev pub is_established_at : Temp → Bool
is_established_at Cold = false
is_established_at Warm = true
is_established_at Hot = true

abbrev pub is_active_at : Temp → Bool
is_active_at Cold = false
is_active_at Warm = false
is_active_at Hot = true

abbrev pub is_ordinary : Peer → Bool
is_ordinary peer = not peer.big

-- every peer in the book is known
abbrev pub tally_of : Machine → Tally
tally_of m = record {
  known = count_by is_ordinary m.peers;
  established = count_by (λ p. is_ordinary p && is_established_at p.temp) m.peers;
  active = count_by (λ p. is_ordinary p && is_active_at p.temp) m.peers;
  counted = counted_in m;
  big_known = count_by (λ p. p.big) m.peers;
  big_established = count_by (λ p. p.big && is_established_at p.temp) m.peers;
  big_active = count_by (λ p. p.big && is_active_at p.temp) m.peers;
}
