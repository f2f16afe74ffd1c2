-- The ranges of what a node keeps to with its clients, and of what happens to them.
use Rattle.std.specs.Prelude.{IsTrue}
use Rattle.net_base.specs.Bounds.{within, is_interval}
use Rattle.net_base.specs.Limits.{IsBounded, IsPiece}
use Rattle.local_clients.specs.declared.rules.ClientRules.{ClientRules}
use Rattle.local_clients.specs.declared.event.ClientEvent.{ClientEvent}
use Rattle.local_clients.specs.declared.event.ClientEvent.TheVariants.{Now, Joined, Bytes, Gone}

abbrev pub AreInRange : ClientRules → Type 0
AreInRange rules = IsTrue (within 1 10000 rules.limit) × IsTrue (is_interval rules.wait)

-- a moment is at most 2^48, and a piece has 1 to 65,536 bytes
abbrev pub CanHappen : ClientEvent → Type 0
CanHappen (Now moment) = IsBounded moment
CanHappen Joined = Unit {0}
CanHappen (Bytes id bytes) = IsPiece bytes
CanHappen (Gone id) = Unit {0}
