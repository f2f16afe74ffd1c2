use Rattle.std.proofs.Common.{ap, sym, ◌∙◌, map}
use Rattle.std.specs.Ordering.{is_lt}
use Rattle.pick_policy.specs.contracts.scored.ScoredOrd.TheImpl.{ghosts}
use Rattle.pick_policy.proofs.ScoreOrder.{below_is}
use Rattle.pick_policy.proofs.Sorting.{least_by-sorted}
use Rattle.pick_policy.proofs.scored.in_order.Goals as goal

pub returns : goal.returns
returns c =
    let sorted = least_by-sorted (λ x y. is_lt (ghosts.cmp x y)) below_is c.args.scored.now _ c.sort_unstable.ensures.permutation c.sort_unstable.ensures.sorted c.requires in
    c.from_vec.ensures ∙ (c.in_ok-addresses.ensures ∙ ap (map (λ s. s.addr)) (sym sorted))
