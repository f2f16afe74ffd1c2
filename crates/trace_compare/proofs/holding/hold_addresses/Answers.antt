use Rattle.std.proofs.Common.{All, subst, take_all, arith}
use Rattle.std.proofs.lemmas.List.Elements.{All-more}
use Rattle.trace_text.specs.EventTexts.{IsKnownIn}
use Rattle.trace_compare.proofs.holding.hold_addresses.Goals as goal

pub loop-address-preserved : goal.loop-address-preserved
loop-address-preserved c =
    All-more (IsKnownIn 2) c.args.addresses.now c.loop-address.address-index _ c.loop-address-test.true c.loop-address.invariant c.hold_address.ensures

pub returns : goal.returns
returns c = subst (All (IsKnownIn 2)) (take_all c.loop-address.address-index c.args.addresses.now (omega arith)) c.loop-address.invariant
