use Rattle.std.proofs.Common.{arith}
use Rattle.std.proofs.lemmas.List.{drop_more, drop_all}
use Rattle.node_engine.proofs.Going.{going-more, going-all, may-first, may-more}
use Rattle.node_engine.proofs.node_state.NodeState.carry_out_all.Goals as goal

pub carry_out-requires : goal.carry_out-requires
carry_out-requires c =
    may-first _ _ _ _ (drop_more c.args.orders.now c.loop-order.order-index _ c.loop-order-test.true) c.loop-order.invariant.may

pub loop-order-preserved : goal.loop-order-preserved
loop-order-preserved c =
    let next = drop_more c.args.orders.now c.loop-order.order-index _ c.loop-order-test.true in
    record {
      so_far = going-more _ _ _ _ _ _ _ _ _ _ _ next c.loop-order.invariant.so_far c.in_ok-carry_out.ensures;
      may = may-more _ _ _ _ _ _ _ next c.loop-order.invariant.may c.in_ok-carry_out.ensures;
    }

pub returns : goal.returns
returns c =
    going-all _ _ _ _ _ _ _ (drop_all c.loop-order.order-index c.args.orders.now (omega (arith, c.loop-order-test.false))) c.loop-order.invariant.so_far
