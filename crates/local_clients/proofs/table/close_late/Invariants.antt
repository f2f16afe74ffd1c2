use Rattle.std.proofs.Common.{◌≡◌, ◌++◌, length, map, not}
use Rattle.std.specs.Prelude.{filter}
use Rattle.local_clients.specs.Clients.{is_due, waited_too_long}
use Rattle.local_clients.specs.Kept.{RiseInTime}
use Rattle.local_clients.proofs.table.close_late.Given as goal

abbrev pub invariant-loop-id : goal.invariant-loop-id
invariant-loop-id l = record {
  rise : RiseInTime l.greeting.entries;
  closed : l.actions ++ map waited_too_long (filter (is_due l.now) l.greeting.entries) ≡ l.fn.actions ++ map waited_too_long (filter (is_due l.now) l.fn.greeting.entries);
  left : filter (λ entry. not (is_due l.now entry)) l.greeting.entries ≡ filter (λ entry. not (is_due l.now entry)) l.fn.greeting.entries;
}

abbrev pub decreases-loop-id : goal.decreases-loop-id
decreases-loop-id l = length l.greeting.entries
