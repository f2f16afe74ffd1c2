use Rattle.std.proofs.Common.{◌≡◌, []}
use Rattle.shared_table.specs.Views.{seen_of}
use Rattle.shared_table.specs.declared.view.View.TheVariants.{Waits}
use Rattle.shared_table.proofs.place.Place.take.Given as goal

abbrev pub invariant-loop : goal.invariant-loop
invariant-loop g l =
    (goal.iterator-loop g).can_next l.iterator' × (goal.iterator-loop g).is_finite l.iterator'
    × (l.seat.table_id ≡ l.fn.self.id)
    × (l.seat.me ≡ (Waits l.fn.self.settings (seen_of l.fn.badge.views), []))
