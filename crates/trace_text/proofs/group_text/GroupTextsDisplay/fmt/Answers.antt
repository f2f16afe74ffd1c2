use Rattle.std.proofs.Common.{ℕ, List, ◌++◌, rules, take, ◌∙◌, ap}
use Rattle.std.specs.List.{flat_map}
use Rattle.std.proofs.Output.{has_written_of_eq, has_written_append}
use Rattle.std.proofs.lemmas.List.{take_all}
use Rattle.net_base.specs.declared.event.Group.{Group}
use Rattle.trace_text.specs.EventTexts.{group_words, spaced}
use Rattle.trace_text.proofs.SpacedWords.{items_more, spaced-flat_map}
use Rattle.trace_text.proofs.group_text.GroupTextsDisplay.fmt.Goals as goal

abbrev group_text : Group → List ℕ
group_text group = spaced (group_words group)

pub loop-group-preserved : goal.loop-group-preserved
loop-group-preserved g c = λ plain.
    let groups = c.args.self.now.0.now in
    let group = c.group-item.result in
    has_written_of_eq _ _ _ _ _
    (ap (λ (group : Group). flat_map group_text (take c.loop-group.group-index groups) ++ group_text group) c.group-item.is
    ∙ items_more group_text groups c.loop-group.group-index group c.loop-group-test.true)
    (has_written_append _ _ _ _ _ _ (c.loop-group.invariant plain) (search rules))

pub returns-clause-writes : goal.returns-clause-writes
returns-clause-writes g c = λ plain ok.
    let groups = c.args.self.now.0.now in
    has_written_of_eq _ _ _ _ _
    (ap (flat_map group_text) (take_all c.loop-group.group-index groups c.loop-group-test.false) ∙ spaced-flat_map group_words groups)
    (c.loop-group.invariant plain)
