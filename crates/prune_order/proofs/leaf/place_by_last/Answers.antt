use Rattle.std.proofs.Common.{◌≡◌, Bool, cond, List, Option, Some, None, true, is_some, length, slice_get, refl, sym, ap, ◌∙◌}
use Rattle.std.proofs.lemmas.Option.{slice_get_read}
use Rattle.timer_queue.specs.Timers.{cid_below, same_cid}
use Rattle.timer_queue.proofs.Orders.{cid_order}
use Rattle.timer_queue.proofs.Rising.{found, place-found}
use Rattle.prune_order.specs.declared.leaf.Leaf.{Leaf}
use Rattle.prune_order.proofs.leaf.place_by_last.Goals as goal

pub returns-then-eq : goal.returns-then-eq
returns-then-eq c =
    let leaves : List Leaf = c.args.leaves.now in
    let leaf : Leaf = c.in_ok-leaf.leaf.now in
    let lookup = c.in_ok-leaf.ensures.lookup in
    let here : slice_get leaves c.in_ok-place.place ≡ Some leaf = slice_get_read leaves (length leaves) c.in_ok-place.place leaf refl lookup.3.0 lookup.1 in
    place-found cid_below same_cid cid_order (λ l. l.cid) c.args.cid leaves c.in_ok-place.place c.requires
    (ap (λ (o : Option Leaf). is_some (found cid_below same_cid cid_order (λ l. l.cid) c.args.cid o)) here
    ∙ ap (λ (b : Bool). is_some (cond b (Some leaf) None)) (sym c.eq.ensures ∙ c.if-eq.true))
