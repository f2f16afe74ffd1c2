use Rattle.std.proofs.Common.{◌≡◌, [], ◌∷◌, length, sym, ap, subst, ◌∙◌, arith, rules}
use Rattle.std.proofs.lemmas.List.{nil_from_length}
use Rattle.node_engine.specs.Rules.{orders_by, AreFirst}
use Rattle.node_engine.proofs.PeerChanges.{orders_seen}
use Rattle.node_engine.proofs.RuleSteps.{passed-none, passed-more, first-gives, none-gives}
use Rattle.node_engine.proofs.node_state.NodeState.first_orders.Goals as goal

pub loop-rule-init : goal.loop-rule-init
loop-rule-init g c = record { passed = passed-none (orders_by c.args.word) c.args.rules.now c.args.self.now c.requires; few = omega arith }

pub loop-rule-preserved : goal.loop-rule-preserved
loop-rule-preserved g c =
    let front : c.loop-rule.rest.now ≡ c.in-Some.rule.now ∷ c.in-Some.after.now = search rules in
    let empty : length c.as_slice.result.now ≡ 0 = search rules in
    let none : c.in_ok-orders.orders ≡ [] = sym c.as_slice.ensures ∙ nil_from_length _ empty in
    let seen = c.in_ok-orders.ensures ∙ orders_seen c.in-Some.rule.now c.args.word c.view-view.result _ _ _ _ c.self.view_is c.view-view.ensures in
    record {
      passed = passed-more (orders_by c.args.word) c.args.rules.now c.loop-rule.rest.now c.in-Some.after.now c.in-Some.rule.now c.args.self.now front
          (sym seen ∙ none) c.loop-rule.invariant.passed;
      few = omega (arith, ap length front, c.loop-rule.invariant.few);
    }

pub returns-then-not-is_empty-clause-found : goal.returns-then-not-is_empty-clause-found
returns-then-not-is_empty-clause-found g c =
    let front : c.loop-rule.rest.now ≡ c.in-Some.rule.now ∷ c.in-Some.after.now = search rules in
    let seen = c.in_ok-orders.ensures ∙ orders_seen c.in-Some.rule.now c.args.word c.view-view.result _ _ _ _ c.self.view_is c.view-view.ensures in
    first-gives (orders_by c.args.word) c.args.rules.now c.loop-rule.rest.now c.in-Some.after.now c.in-Some.rule.now c.in_ok-orders.orders c.args.self.now front seen
    c.loop-rule.invariant.passed

pub returns-then-not-is_empty-clause-fewer : goal.returns-then-not-is_empty-clause-fewer
returns-then-not-is_empty-clause-fewer g c = λ some.
    let front : c.loop-rule.rest.now ≡ c.in-Some.rule.now ∷ c.in-Some.after.now = search rules in
    omega (arith, ap length front, c.loop-rule.invariant.few)

pub returns-clause-found : goal.returns-clause-found
returns-clause-found g c =
    let empty : length c.loop-rule.rest.now ≡ 0 = search rules in
    let over : c.loop-rule.rest.now ≡ [] = nil_from_length _ empty in
    subst (λ orders. AreFirst (orders_by c.args.word) c.args.rules.now orders c.loop-rule.rest.now c.args.self.now) (sym c.new.ensures)
    (none-gives (orders_by c.args.word) c.args.rules.now c.loop-rule.rest.now c.args.self.now over c.loop-rule.invariant.passed)
