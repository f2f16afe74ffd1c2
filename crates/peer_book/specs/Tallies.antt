-- The counts that are kept.
use Rattle.std.specs.Prelude.{ℕ, ◌+◌, ◌≤◌, Bool, true, false, List, if◌then◌else◌}
use Rattle.net_base.specs.declared.peer.Peer.{Peer}
use Rattle.net_base.specs.declared.peer.Temp.{Temp}
use Rattle.peer_book.specs.Book.{is_established, is_active, known_of, established_of, active_of}
use Rattle.peer_book.specs.declared.tally.Counts.{Counts}
use Rattle.peer_book.specs.declared.tally.Tally.{Tally}

abbrev pub counts_of : Bool → List Peer → Counts
counts_of big peers = record {
  known = known_of big peers;
  established = established_of big peers;
  active = active_of big peers;
}

abbrev pub tally_of : List Peer → Tally
tally_of peers = record { ordinary = counts_of false peers; big = counts_of true peers }

-- one more peer of a temperature
abbrev pub one_more : Temp → Counts → Counts
one_more temp counts = record {
  known = counts.known + 1;
  established = counts.established + (if is_established temp then 1 else 0);
  active = counts.active + (if is_active temp then 1 else 0);
}

abbrev pub tallied_by : Bool → Temp → Tally → Tally
tallied_by true temp tally = record tally { big = one_more temp tally.big }
tallied_by false temp tally = record tally { ordinary = one_more temp tally.ordinary }

abbrev pub tallied : Peer → Tally → Tally
tallied peer = tallied_by peer.big peer.temp

abbrev pub known_in : Bool → Tally → ℕ
known_in true tally = tally.big.known
known_in false tally = tally.ordinary.known

-- so many more cold peers of a class
abbrev pub more_cold : Bool → ℕ → Tally → Tally
more_cold true count tally = record tally { big = record tally.big { known = tally.big.known + count } }
more_cold false count tally = record tally { ordinary = record tally.ordinary { known = tally.ordinary.known + count } }

-- no more than the peers there may be
abbrev pub AreWithin : ℕ → Counts → Type 0
AreWithin most counts = (counts.known ≤ most) × (counts.established ≤ most) × (counts.active ≤ most)

abbrev pub IsTallyWithin : ℕ → Tally → Type 0
IsTallyWithin most tally = AreWithin most tally.ordinary × AreWithin most tally.big
