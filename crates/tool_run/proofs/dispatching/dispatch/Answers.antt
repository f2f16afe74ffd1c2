use Rattle.tool_run.proofs.dispatching.dispatch.Goals as goal

pub returns-clause-ends : goal.returns-clause-ends
returns-clause-ends g c = record { status = c.answer.result; comes = c.answer.ensures.comes; coded = c.code.ensures }
