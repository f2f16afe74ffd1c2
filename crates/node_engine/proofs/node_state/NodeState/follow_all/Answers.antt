use Rattle.std.proofs.Common.{◌≡◌, [], List, length, map, ap, subst, rules}
use Rattle.std.proofs.lemmas.List.{nil_from_length}
use Rattle.govern_rules.specs.declared.order.Order.{Order}
use Rattle.machine.specs.Effect.{for_each}
use Rattle.machine.specs.Govern.{carries_out}
use Rattle.node_engine.specs.Rules.{orders_by}
use Rattle.node_engine.specs.State.{Does}
use Rattle.node_engine.proofs.Going.{going-on, going-all}
use Rattle.node_engine.proofs.RuleSteps.{after-may}
use Rattle.node_engine.proofs.node_state.NodeState.follow_all.Goals as goal

pub loop-rest-preserved : goal.loop-rest-preserved
loop-rest-preserved g c =
    let first = c.in_ok-orders.ensures.found in
    let done =
    subst (λ (l : List Order). Does (for_each carries_out l c.loop-rest.self) c.loop-rest.actions c.carry_out_all.new.self c.carry_out_all.new.actions)
    c.as_slice.ensures c.in_ok-carry_out_all.ensures in
    record {
      so_far = going-on _ _ _ _ _ _ _ _ _ _ _ first.same c.loop-rest.invariant.so_far done;
      may = after-may _ _ _ _ _ _ _ _ first done;
    }

pub returns : goal.returns
returns g c =
    let empty : length c.loop-rest.rest.now ≡ 0 = search rules in
    let over : map (orders_by c.args.word) c.loop-rest.rest.now ≡ [] = ap (map (orders_by c.args.word)) (nil_from_length _ empty) in
    going-all _ _ _ _ _ _ _ over c.loop-rest.invariant.so_far
