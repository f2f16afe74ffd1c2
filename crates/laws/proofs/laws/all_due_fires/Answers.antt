use Rattle.laws.proofs.Events.{clock_shows-sound}
use Rattle.laws.proofs.Firing.{fire_all-none_due}
use Rattle.laws.proofs.laws.all_due_fires.Goals as goal

pub returns-clause-none_due : goal.returns-clause-none_due
returns-clause-none_due c = fire_all-none_due

pub returns-clause-clock : goal.returns-clause-clock
returns-clause-clock c t m h = (clock_shows-sound t m h).sound.deadlines
