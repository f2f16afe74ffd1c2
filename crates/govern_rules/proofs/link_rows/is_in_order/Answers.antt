use Rattle.std.proofs.Common.{◌≡◌, ◌∷◌, false, sym, subst, rules}
use Rattle.govern_rules.specs.SortedLinks.{IsInOrder, is_above_next}
use Rattle.govern_rules.proofs.ByAddress.{in_order-front}
use Rattle.govern_rules.proofs.link_rows.is_in_order.Goals as goal

pub loop-link-preserved : goal.loop-link-preserved
loop-link-preserved c = λ h.
    let front : c.loop-link.rest.now ≡ c.in-Some.link.now ∷ c.in-Some.after.now = search rules in
    let upto : is_above_next c.in-Some.link.now c.in-Some.after.now ≡ false = search rules in
    c.loop-link.invariant (subst IsInOrder (sym front) (in_order-front c.in-Some.link.now c.in-Some.after.now upto h))
