use Rattle.std.proofs.Common.{◌≡◌, length, get_or, true, ap, sym, ◌∙◌, [], ◌∷◌, arith}
use Rattle.std.proofs.lemmas.List.{get_or_default}
use Rattle.chunked_list.proofs.Points.{point_from_edges}
use Rattle.chunked_list.proofs.point.point_of.Goals as goal

pub returns-then-pred-clause-partitioned : goal.returns-then-pred-clause-partitioned
returns-then-pred-clause-partitioned g c =
    λ p by parted.
    let xs = c.args.items.now in
    let last = c.in-Some.last in
    let called = (g.met.P.FnMut.1.post_iff _ _ _).0 c.pred.ensures in
    let passes : p c.index-items-last.result ≡ true = sym (by.at (_ ∷ []) _ _ called.1).0 ∙ c.if-pred.true in
    point_from_edges p xs (length xs) (omega arith)
    (λ d some. ap (λ n. p (get_or xs n d)) (omega arith) ∙ (ap p (get_or_default xs last d c.index-items-last.result (omega arith) ∙ sym c.index-items-last.is) ∙ passes))
    (λ d more. absurd (omega (arith, more)))
    parted
