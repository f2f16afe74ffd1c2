-- Which events there can be.
use Rattle.std.specs.Prelude.{◌≡◌, ℕ, ◌≤◌, ◌^◌, List, length, All, None, IsTrue}
use Rattle.net_base.specs.Bounds.{is_interval, targets_fault, big_targets_fault}
use Rattle.net_base.specs.declared.event.Event.{Event}
use Rattle.net_base.specs.declared.event.Event.TheVariants.{Now, Govern, Accepted, Dialed, Bytes, Closed, Aims, Locals, Roots, BigAims, Bigs}
use Rattle.net_base.specs.declared.event.Group.{Group}
use Rattle.net_base.specs.declared.event.RootAnswer.{RootAnswer}
use Rattle.net_base.specs.declared.event.RootAnswer.TheVariants.{Found, Failed}

-- a moment, the id of a connection or the number of a question
abbrev pub IsBounded : ℕ → Type 0
IsBounded n = n ≤ 2 ^ 48

-- one read of a socket
abbrev pub IsPiece : List ℕ → Type 0
IsPiece bytes = (1 ≤ length bytes) × (length bytes ≤ 65536)

abbrev pub HasValencies : Group → Type 0
HasValencies group = (group.hot ≤ 10000) × (group.warm ≤ 10000)

abbrev pub ServesAnInterval : RootAnswer → Type 0
ServesAnInterval (Found ttl addresses) = IsTrue (is_interval ttl)
ServesAnInterval Failed = Unit {0}

abbrev pub IsWithinLimits : Event → Type 0
IsWithinLimits (Now t) = IsBounded t
IsWithinLimits (Govern word) = Unit {0}
IsWithinLimits (Accepted addr) = Unit {0}
IsWithinLimits (Dialed cid open_now) = IsBounded cid.0
IsWithinLimits (Bytes cid bytes) = IsBounded cid.0 × IsPiece bytes
IsWithinLimits (Closed cid) = IsBounded cid.0
IsWithinLimits (Aims targets) = targets_fault targets ≡ None
IsWithinLimits (Locals groups) = All HasValencies groups
IsWithinLimits (Roots job answer) = IsBounded job.0 × ServesAnInterval answer
IsWithinLimits (BigAims targets) = big_targets_fault targets ≡ None
IsWithinLimits (Bigs addresses) = Unit {0}
