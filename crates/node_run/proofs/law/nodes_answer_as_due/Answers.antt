use Rattle.node_run.proofs.NodeLaws.{node_answered, node_complete, node_cause}
use Rattle.node_run.proofs.law.nodes_answer_as_due.Goals as goal

pub returns-clause-answered : goal.returns-clause-answered
returns-clause-answered c = λ asked before after status due run is. node_answered asked before after status run due is

pub returns-clause-complete : goal.returns-clause-complete
returns-clause-complete c = λ asked before after status due run is. node_complete asked before after status run due is

pub returns-clause-causes : goal.returns-clause-causes
returns-clause-causes c = λ asked before after status run. node_cause asked before after status run
