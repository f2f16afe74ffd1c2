use Rattle.std.proofs.Common.{◌≡◌, ◌+◌, ◌<◌, ◌-◌, true, false, [], ◌∷◌, length, get_or, sym, ap, ◌∙◌, arith}
use Rattle.std.proofs.lemmas.List.{get_or_default}
use Rattle.chunked_list.proofs.Points.{point_from_edges}
use Rattle.chunked_list.proofs.Runs.{run_at, run_within}
use Rattle.chunked_list.proofs.list.ChunkedList.partition_point_near.Goals as goal

pub returns-in-len1-up-clause-partitioned : goal.returns-in-len1-up-clause-partitioned
returns-in-len1-up-clause-partitioned g c =
    λ p by parted.
    let xs = c.args.self.now in
    let run = c.run_from-run.result.now in
    let front = c.run_from-run.ensures.front in
    let called = (g.met.P.FnMut.1.post_iff _ _ _).0 c.pred.ensures in
    let next : p c.next-item.result ≡ false = sym (by.at (_ ∷ []) _ _ called.1).0 ∙ c.if-not-pred.true in
    let some : 0 < length run = omega (arith, c.in-len1-up.len_at_least) in
    let at_front : c.saturating_sub.result + 0 ≡ 0 = omega (arith, c.saturating_sub.ensures, c.if-near-eq0.true) in
    point_from_edges p xs 0 (omega arith) (λ d none. absurd (omega (arith, none)))
    (λ d more. ap (λ n. p (get_or xs n d)) (sym at_front)
    ∙ (ap p (run_at xs run c.saturating_sub.result 0 d front some ∙ (get_or_default run 0 d c.next-item.result some ∙ sym c.next-item.is)) ∙ next))
    parted

pub returns-in-len2-up-clause-partitioned : goal.returns-in-len2-up-clause-partitioned
returns-in-len2-up-clause-partitioned g c =
    λ p by parted.
    let xs = c.args.self.now in
    let near = c.args.near in
    let run = c.run_from-run.result.now in
    let front = c.run_from-run.ensures.front in
    let called = (g.met.P.FnMut.1.post_iff _ _ _).0 c.pred-2.ensures in
    let called_next = (g.met.P.FnMut.1.post_iff _ _ _).0 c.pred-then-pred.ensures in
    let last : p c.last-item.result ≡ true = sym (by.at (_ ∷ []) _ _ called.1).0 ∙ c.if-pred.true in
    let next : p c.next-item-2.result ≡ false = sym (by.at (_ ∷ []) _ _ called_next.1).0 ∙ c.if-not-pred-2.true in
    let before = c.saturating_sub.result in
    let two : 1 < length run = omega (arith, c.in-len2-up.len_at_least) in
    let at_last : before + 0 ≡ near - 1 = omega (arith, c.saturating_sub.ensures) in
    let at_next : before + 1 ≡ near = omega (arith, c.saturating_sub.ensures, c.if-near-eq0.false) in
    point_from_edges p xs near (omega (arith, run_within xs run before 1 front two, at_next))
    (λ d some. ap (λ n. p (get_or xs n d)) (sym at_last)
    ∙ (ap p (run_at xs run before 0 d front (omega (arith, two)) ∙ (get_or_default run 0 d c.last-item.result (omega (arith, two)) ∙ sym c.last-item.is)) ∙ last))
    (λ d more. ap (λ n. p (get_or xs n d)) (sym at_next)
    ∙ (ap p (run_at xs run before 1 d front two ∙ (get_or_default run 1 d c.next-item-2.result two ∙ sym c.next-item-2.is)) ∙ next))
    parted
