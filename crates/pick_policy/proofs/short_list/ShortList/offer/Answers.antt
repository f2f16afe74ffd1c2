use Rattle.std.proofs.Common.{◌≡◌, ◌-◌, true, length, get_or, sym, ap, subst, ◌∙◌}
use Rattle.std.proofs.lemmas.Result.{on_ok_weaker}
use Rattle.pick_policy.specs.Kept.{with_one}
use Rattle.pick_policy.specs.Ordered.{scored_below}
use Rattle.pick_policy.specs.declared.scored.Scored.{Scored}
use Rattle.pick_policy.proofs.OneMore.{least_by-one_more, least_by-above}
use Rattle.pick_policy.proofs.ScoreOrder.{scored_strict, scored_connect}
use Rattle.pick_policy.proofs.short_list.ShortList.offer.Goals as goal

pub returns-then-is_full_below : goal.returns-then-is_full_below
returns-then-is_full_below c = λ k came apart has.
    let s : Scored = c.args.scored in
    let full = c.is_full_below.ensures c.if-is_full_below.true in (
      has.0,
      has.1 ∙ sym (least_by-above scored_strict (λ t. t.addr) scored_connect k came s apart
          (ap length (sym has.1) ∙ (full.0 ∙ has.0))
          (subst (λ l. scored_below (get_or l (length l - 1) s) s ≡ true) has.1 full.1)),
    )

pub returns : goal.returns
returns c = λ k came apart has.
    let s : Scored = c.args.scored in
    on_ok_weaker c.insert.result
    (λ put. (
      c.insert.ensures.most ∙ has.0,
      put
          ∙ (ap (λ n. with_one n s c.args.self.now.least.items) has.0
          ∙ (ap (with_one k s) has.1
          ∙ sym (least_by-one_more scored_strict (λ t. t.addr) scored_connect k came s apart))),
    ))
    c.insert.ensures.least
