use Rattle.std.proofs.Common.{◌≡◌, ◌∷◌, length, get_or, ap, ◌∙◌, arith}
use Rattle.net_base.specs.declared.event.Group.{Group}
use Rattle.clean_groups.specs.Cleaned.{first_places}
use Rattle.clean_groups.specs.Places.{addresses_in}
use Rattle.clean_groups.proofs.Placing.{HasCleaned-more, HasCleaned-all}
use Rattle.clean_groups.proofs.groups.clean.Goals as goal

pub loop-group-preserved : goal.loop-group-preserved
loop-group-preserved c =
    let group = c.group-item.result in
    let i = c.loop-group.group-index in
    let there : group ≡ get_or c.args.groups.now i group = c.group-item.is ∙ ap (λ l. get_or l i group) c.as_slice-group-items.ensures in
    let made : record group { members = c.in_ok-members.members } ≡ record (get_or c.args.groups.now i group) { members = c.in_ok-members.members } =
    ap (λ (g : Group). record g { members = c.in_ok-members.members }) there in
    HasCleaned-more c.args.own c.args.groups.now c.loop-group.list c.push.new.self c.loop-group.places c.keep_first.new.places i
    group (record group { members = c.in_ok-members.members }) c.in_ok-members.members _
    c.loop-group.invariant (omega (arith, ap length c.as_slice-group-items.ensures))
    (ap length c.as_slice-place.ensures)
    (c.in_ok-members.ensures.kept ∙ ap (first_places (c.args.own ∷ addresses_in c.loop-group.places)) (c.as_slice.ensures ∙ ap (λ (g : Group). g.members) there))
    c.in_ok-members.ensures.placed made c.in_ok-push.ensures.ok

pub returns : goal.returns
returns c =
    HasCleaned-all c.args.own c.args.groups.now c.loop-group.list c.loop-group.places c.loop-group.group-index
    c.loop-group.invariant (omega (arith, ap length c.as_slice-group-items.ensures))
