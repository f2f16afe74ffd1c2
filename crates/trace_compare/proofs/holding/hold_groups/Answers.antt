use Rattle.std.proofs.Common.{List, All, subst, take_all, arith}
use Rattle.std.proofs.lemmas.List.Elements.{All-more}
use Rattle.net_base.specs.declared.address.Addr.{Addr}
use Rattle.net_base.specs.declared.event.Group.{Group}
use Rattle.trace_text.specs.EventTexts.{AreKnownIn}
use Rattle.trace_compare.proofs.holding.hold_groups.Goals as goal

pub loop-group-preserved : goal.loop-group-preserved
loop-group-preserved c =
    let P : Group → Type 0 = λ group. AreKnownIn 2 group.members in
    All-more P c.args.groups.now c.loop-group.group-index c.group-item.result c.loop-group-test.true c.loop-group.invariant
    (subst P c.group-item.is (subst (λ (members : List Addr). AreKnownIn 2 members) c.as_slice.ensures c.hold_addresses.ensures))

pub returns : goal.returns
returns c =
    subst (All (λ (group : Group). AreKnownIn 2 group.members)) (take_all c.loop-group.group-index c.args.groups.now (omega arith)) c.loop-group.invariant
