use Rattle.laws.specs.Words.{start_of, after_all}
use Rattle.laws.proofs.Ids.{step-few}
use Rattle.laws.proofs.PartEvents.{event-lawful}
use Rattle.laws.proofs.WholeRuns.{after_all-steady}
use Rattle.laws.proofs.laws.laws_of_events.Goals as goal

pub returns-clause-lawful : goal.returns-clause-lawful
returns-clause-lawful c = event-lawful

pub returns-clause-few : goal.returns-clause-few
returns-clause-few c m event h = step-few m event h.formed

pub returns-clause-runs : goal.returns-clause-runs
returns-clause-runs c settings events event h = event-lawful (after_all (start_of settings) events) event (after_all-steady settings events h).steady
