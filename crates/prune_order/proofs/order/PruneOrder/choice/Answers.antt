use Rattle.std.proofs.Common.{◌≡◌, List, Some, length, slice_get, refl, ap, subst, ◌∙◌}
use Rattle.std.proofs.lemmas.Option.{slice_get_read}
use Rattle.accept_gate.specs.Prune.{choice_of}
use Rattle.prune_order.specs.Order.{Order, candidates}
use Rattle.prune_order.specs.declared.leaf.Leaf.{Leaf}
use Rattle.prune_order.proofs.Choices.{last-goes, none-goes}
use Rattle.prune_order.proofs.order.PruneOrder.choice.Goals as goal

pub returns-in_err-place : goal.returns-in_err-place
returns-in_err-place c =
    c.from_residual.ensures
    ∙ (none-goes c.self.inside.leaves.items c.self.inside.ranks c.self.invariant.over c.self.invariant.words (c.in_err-place.ensures.none refl)
    ∙ ap (λ (o : Order). choice_of (candidates o.rows)) c.self.view_is)

pub returns : goal.returns
returns c =
    let seen : List Leaf = c.deref.result.now in
    let leaf : Leaf = c.in_ok-leaf.leaf.now in
    let lookup = c.in_ok-leaf.ensures.lookup in
    let here : slice_get seen c.in_ok-place.place ≡ Some leaf = slice_get_read seen (length seen) c.in_ok-place.place leaf refl lookup.3.0 lookup.1 in
    last-goes c.self.inside.leaves.items c.self.inside.ranks c.self.invariant.over c.in_ok-place.place c.in_ok-leaf.leaf.now c.self.invariant.rise c.in_ok-place.ensures.last
    c.self.invariant.fit (subst (λ ls. slice_get ls c.in_ok-place.place ≡ Some leaf) c.deref.ensures.value here)
    ∙ ap (λ (o : Order). choice_of (candidates o.rows)) c.self.view_is
