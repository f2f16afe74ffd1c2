use Rattle.command_run.proofs.CommandLemmas.{run-none, run-usage, run-replay, run-check, run-pair, run-clients, run-drill}
use Rattle.command_run.proofs.running.run.Goals as goal

pub returns-clause-usage : goal.returns-clause-usage
returns-clause-usage g c = (
  run-none _ _ c.answer-status.result _ c.answer-status.ensures.runs,
  run-usage _ _ c.answer-status.result _ c.answer-status.ensures.runs,
)

pub returns-clause-unwritten : goal.returns-clause-unwritten
returns-clause-unwritten g c = λ is. c.answer-status.ensures.out (run-none _ _ c.answer-status.result _ c.answer-status.ensures.runs is)

pub returns-clause-replay : goal.returns-clause-replay
returns-clause-replay g c = run-replay _ _ c.answer-status.result _ c.answer-status.ensures.runs

pub returns-clause-check : goal.returns-clause-check
returns-clause-check g c = run-check _ _ c.answer-status.result _ c.answer-status.ensures.runs

pub returns-clause-pair : goal.returns-clause-pair
returns-clause-pair g c = run-pair _ _ c.answer-status.result _ c.answer-status.ensures.runs

pub returns-clause-clients : goal.returns-clause-clients
returns-clause-clients g c = run-clients _ _ c.answer-status.result _ c.answer-status.ensures.runs

pub returns-clause-drill : goal.returns-clause-drill
returns-clause-drill g c = run-drill _ _ c.answer-status.result _ c.answer-status.ensures.runs

pub returns-clause-ends : goal.returns-clause-ends
returns-clause-ends g c = record {
  alike = c.both_ends_agree.ensures.alike;
  pipes = c.both_ends_agree.ensures.pipes;
  in_turn = c.both_ends_agree.ensures.meetings_in_turn;
  meetings = c.both_ends_agree.ensures.meetings;
  crossings = c.both_ends_agree.ensures.crossings;
}
