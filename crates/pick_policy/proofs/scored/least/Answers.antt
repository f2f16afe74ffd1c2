use Rattle.std.proofs.Common.{◌≡◌, List, ◌∷◌, map, length, IfOk, slice_index_or, sym, ap, ◌∙◌, subst, arith}
use Rattle.std.specs.List.Sorted.{IsSplitAround, IsSplitAroundBy, IsPermutation}
use Rattle.std.proofs.lemmas.List.Sorted.{IsPermutation-map}
use Rattle.net_base.specs.declared.address.Addr.{Addr}
use Rattle.pick_policy.specs.Least.{least_by}
use Rattle.pick_policy.specs.Ordered.{scored_below}
use Rattle.pick_policy.specs.contracts.scored.ScoredOrd.TheImpl.{ghosts}
use Rattle.pick_policy.specs.declared.scored.Scored.{Scored}
use Rattle.pick_policy.proofs.Distinct.{IsDistinct-permutation}
use Rattle.pick_policy.proofs.PickFacts.{AreApart}
use Rattle.pick_policy.proofs.ScoreOrder.{below_is, scored_strict, scored_connect}
use Rattle.pick_policy.proofs.Selecting.{apart-front, least_by-enough, least_by-selected}
use Rattle.pick_policy.proofs.scored.least.Goals as goal

abbrev address_of : Scored → Addr
address_of s = s.addr

split : (front back : List Scored) (middle : Scored) → IsSplitAround ghosts.cmp front middle back → IsSplitAroundBy scored_below front middle back
split front back middle both = (
  λ n d inside. sym (below_is middle (slice_index_or front n d)) ∙ both.0 n d inside,
  λ n d inside. sym (below_is (slice_index_or back n d) middle) ∙ both.1 n d inside,
)

still_apart : (xs ys : List Scored) → IsPermutation xs ys → AreApart address_of xs → AreApart address_of ys
still_apart xs ys moved = IsDistinct-permutation (map address_of xs) (map address_of ys) (IsPermutation-map address_of xs ys moved)

pub in_order-requires : goal.in_order-requires
in_order-requires c =
    let parts = c.select_nth_unstable-front.result in
    apart-front address_of scored_strict scored_connect parts.0.now (parts.1.now ∷ parts.2.now)
    (still_apart c.args.scored.now _ c.select_nth_unstable-front.ensures.permutation c.requires)

pub returns-then-k-scored : goal.returns-then-k-scored
returns-then-k-scored c =
    let parts = c.select_nth_unstable-front.result in
    let cands : List Scored = c.args.scored.now in
    let selected : least_by scored_below (length parts.0.now) cands ≡ least_by scored_below (length parts.0.now) parts.0.now =
    least_by-selected address_of scored_strict scored_connect cands parts.0.now parts.2.now parts.1.now c.requires
    (still_apart cands _ c.select_nth_unstable-front.ensures.permutation c.requires)
    c.select_nth_unstable-front.ensures.permutation
    (split parts.0.now parts.2.now parts.1.now c.select_nth_unstable-front.ensures.partitioned) in
    subst (λ l. IfOk c.in_order.result (λ picks. picks ≡ map address_of l))
    (sym selected ∙ ap (λ n. least_by scored_below n cands) c.select_nth_unstable-front.ensures.front_len) c.in_order.ensures

pub returns : goal.returns
returns c =
    let cands : List Scored = c.args.scored.now in
    let whole : least_by scored_below c.args.k cands ≡ least_by scored_below (length cands) cands =
    least_by-enough address_of scored_strict scored_connect c.args.k cands c.requires (omega (arith, c.if-k-scored.false)) in
    subst (λ l. IfOk c.in_order-2.result (λ picks. picks ≡ map address_of l)) (sym whole) c.in_order-2.ensures
