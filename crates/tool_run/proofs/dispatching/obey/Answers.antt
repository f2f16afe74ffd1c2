use Rattle.std.proofs.Common.{sym, ◌∙◌, subst}
use Rattle.node_run.specs.Files.{IsOfWordsOrFiles}
use Rattle.tool_status.specs.declared.status.Status.{Status}
use Rattle.tool_run.proofs.Requests.{done_of, as_command, reads_none, output_is_used, as_node, unasked, unwritten}
use Rattle.tool_run.proofs.dispatching.obey.Goals as goal

pub returns-in-Some-clause-comes : goal.returns-in-Some-clause-comes
returns-in-Some-clause-comes g c =
    let is = sym c.of_words.ensures.command ∙ c.in-Some.is in
    as_command _ _ c.run.result _ _ c.in-Some.field-0 is
    (done_of _ _ c.run.result _ c.run.ensures.replay c.run.ensures.check c.run.ensures.pair c.run.ensures.clients c.run.ensures.drill c.in-Some.field-0 is) c.run.ensures.told

pub returns-in-Some-clause-source : goal.returns-in-Some-clause-source
returns-in-Some-clause-source g c = λ leaves. c.run.ensures.unread (reads_none _ _ c.in-Some.field-0 (sym c.of_words.ensures.command ∙ c.in-Some.is) leaves)

pub returns-in-Some-clause-out : goal.returns-in-Some-clause-out
returns-in-Some-clause-out g c = λ leaves. absurd (output_is_used _ _ c.in-Some.field-0 (sym c.of_words.ensures.command ∙ c.in-Some.is) leaves)

pub returns-in-None-clause-comes : goal.returns-in-None-clause-comes
returns-in-None-clause-comes g c =
    as_node _ _ c.run_node.result _ _ (sym c.of_words.ensures.command ∙ c.in-None.is) c.run_node.ensures.runs c.run_node.ensures.agrees c.run_node.ensures.usage.1 c.run_node.ensures.usage_told

pub returns-in-None-clause-shelf : goal.returns-in-None-clause-shelf
returns-in-None-clause-shelf g c = λ leaves.
    c.run_node.ensures.usage_shelf (c.run_node.ensures.usage.1 (unasked _ _ (sym c.of_words.ensures.command ∙ c.in-None.is) leaves))

pub returns-in-None-clause-world : goal.returns-in-None-clause-world
returns-in-None-clause-world g c = λ leaves.
    c.run_node.ensures.untouched_world
    (subst (λ (s : Status). IsOfWordsOrFiles s) (sym (c.run_node.ensures.usage.1 (unasked _ _ (sym c.of_words.ensures.command ∙ c.in-None.is) leaves))) tt)

pub returns-in-None-clause-out : goal.returns-in-None-clause-out
returns-in-None-clause-out g c = λ leaves.
    c.run_node.ensures.untouched_out
    (subst (λ (s : Status). IsOfWordsOrFiles s) (sym (c.run_node.ensures.usage.1 (unwritten _ _ (sym c.of_words.ensures.command ∙ c.in-None.is) leaves))) tt)
