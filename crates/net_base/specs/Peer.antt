-- Back-off, and what a failure does to a peer.
use Rattle.std.specs.Prelude.{ℕ, ◌+◌, ◌*◌, ◌-◌, ◌^◌, min}
use Rattle.net_base.specs.declared.peer.Peer.{Peer}
use Rattle.net_base.specs.declared.peer.Temp.TheVariants.{Cold}

-- the base, doubled with each further failure, five times at most
abbrev pub backoff_of : ℕ → ℕ → ℕ
backoff_of base failures = base * 2 ^ (min (failures - 1) 5)

-- one failure more, where 65,535 are as many as are counted
abbrev pub more_failures : ℕ → ℕ
more_failures failures = min (failures + 1) 65535

-- a peer that fails is cold, and left alone for the back-off
abbrev pub failed_peer : ℕ → ℕ → Peer → Peer
failed_peer now base peer = record peer {
  temp = Cold;
  failures = more_failures peer.failures;
  not_before = now + backoff_of base (more_failures peer.failures);
}
