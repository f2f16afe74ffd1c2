use Rattle.std.proofs.Common.{arith}
use Rattle.machine.specs.Stream.{handles}
use Rattle.mux_segment.specs.Lent.{lent}
use Rattle.node_engine.proofs.Going.{going-none, going-more, going-all}
use Rattle.node_engine.proofs.FirstItems.{drop-at, none-found, handled-known, going-absent}
use Rattle.std.proofs.lemmas.List.{drop_all}
use Rattle.node_engine.proofs.node_state.NodeState.handle_from.Goals as goal

pub loop-place-init : goal.loop-place-init
loop-place-init c = going-none (handles c.args.cid) _ _ _

pub loop-place-preserved : goal.loop-place-preserved
loop-place-preserved c =
    going-more (handles c.args.cid) _ _ _ (lent c.at.result) _ _ _ _ _ _ (drop-at c.args.items.now c.loop-place.place (lent c.at.result) c.at.ensures) c.loop-place.invariant
    (handled-known c.args.cid (lent c.at.result) c.in-Some.facts _ _ _ _ c.in-Some.ensures.id c.in-Some.ensures.known c.in_ok-handle_in_phase.ensures)

pub returns-in_default : goal.returns-in_default
returns-in_default c =
    going-absent c.args.cid _ _ _ _ _ _ (none-found _ c.in_default.ensures.entry) c.loop-place.invariant

pub returns : goal.returns
returns c = going-all (handles c.args.cid) _ _ _ _ _ _ (drop_all c.loop-place.place c.args.items.now (omega (arith, c.loop-place-test.false, c.len-place-end.ensures))) c.loop-place.invariant
