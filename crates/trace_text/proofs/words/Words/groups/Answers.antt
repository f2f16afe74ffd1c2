use Rattle.std.proofs.Common.{rules, sym, ap, ◌∙◌, ◌≡◌, []}
use Rattle.trace_text.proofs.GroupLists.{ahead, group_shorter, groups-end, groups-more, groups-handed_on}
use Rattle.std.proofs.lemmas.Bool.{true≢false}
use Rattle.trace_text.specs.Events.{all_groups}
use Rattle.trace_text.specs.Words.{Unread}
use Rattle.trace_text.proofs.words.Words.groups.Goals as goal

pub returns-in_err-group : goal.returns-in_err-group
returns-in_err-group c =
    let on : ¬ (c.loop-alloc.self.words ≡ []) = (λ none. true≢false (sym (c.is_empty.ensures.1 (ap (λ (u : Unread). u.words) c.self.view_is ∙ none)) ∙ c.loop-alloc-test.true)) in
    let e = groups-handed_on c.args.version c.loop-alloc.self c.group.new.self c.in_err-group.field-0.0 c.loop-alloc.groups on c.in_err-group.ensures in
    search (rules, e, c.loop-alloc.invariant)

pub loop-alloc-smaller : goal.loop-alloc-smaller
loop-alloc-smaller c = group_shorter c.args.version c.loop-alloc.self c.group.new.self c.in_ok-group.field-0 c.in_ok-group.ensures

pub loop-alloc-preserved : goal.loop-alloc-preserved
loop-alloc-preserved c =
    let on : ¬ (c.loop-alloc.self.words ≡ []) = (λ none. true≢false (sym (c.is_empty.ensures.1 (ap (λ (u : Unread). u.words) c.self.view_is ∙ none)) ∙ c.loop-alloc-test.true)) in
    c.loop-alloc.invariant ∙ groups-more c.args.version c.loop-alloc.self c.group.new.self c.in_ok-group.field-0 c.loop-alloc.groups on c.in_ok-group.ensures
    ∙ ap (λ xs. ahead xs (all_groups c.args.version c.group.new.self)) (sym c.in_ok-push.ensures.ok)

pub returns : goal.returns
returns c =
    let over : c.loop-alloc.self.words ≡ [] = sym (ap (λ (u : Unread). u.words) c.self.view_is) ∙ c.is_empty.ensures.0 c.loop-alloc-test.false in
    sym (c.loop-alloc.invariant ∙ groups-end c.args.version c.loop-alloc.self c.loop-alloc.groups over)
