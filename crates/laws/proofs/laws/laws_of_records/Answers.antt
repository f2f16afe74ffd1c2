use Rattle.laws.specs.Words.{start_of, after_all}
use Rattle.laws.proofs.PeerLaws.{steady-lawful}
use Rattle.laws.proofs.WholeEvents.{step-steady}
use Rattle.laws.proofs.WholeRuns.{start-steady, after_all-steady}
use Rattle.laws.proofs.laws.laws_of_records.Goals as goal

pub returns-clause-start : goal.returns-clause-start
returns-clause-start c = start-steady

pub returns-clause-kept : goal.returns-clause-kept
returns-clause-kept c m event h = (step-steady m event h).steady

pub returns-clause-settings : goal.returns-clause-settings
returns-clause-settings c m event h = (step-steady m event h).settings

pub returns-clause-lawful : goal.returns-clause-lawful
returns-clause-lawful c = steady-lawful

pub returns-clause-runs : goal.returns-clause-runs
returns-clause-runs c settings events h = steady-lawful (after_all (start_of settings) events) (after_all-steady settings events h).steady

pub returns-clause-settings_of_runs : goal.returns-clause-settings_of_runs
returns-clause-settings_of_runs c settings events h = (after_all-steady settings events h).settings
