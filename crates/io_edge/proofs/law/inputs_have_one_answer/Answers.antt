use Rattle.io_edge.proofs.InputLemmas.{answer_of, one_answer}
use Rattle.io_edge.proofs.law.inputs_have_one_answer.Goals as goal

pub returns-clause-some : goal.returns-clause-some
returns-clause-some c = answer_of

pub returns-clause-one : goal.returns-clause-one
returns-clause-one c = one_answer
