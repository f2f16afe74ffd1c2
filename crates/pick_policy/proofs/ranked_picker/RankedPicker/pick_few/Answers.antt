use Rattle.std.proofs.Common.{◌≡◌, IfOk, List, map, sym, ap, ◌∙◌, subst, arith}
use Rattle.std.specs.List.{IsDistinct}
use Rattle.net_base.specs.Address.{same_address}
use Rattle.pick_policy.specs.declared.rated.Rated.{Rated}
use Rattle.pick_policy.specs.Ordered.{ranked_under}
use Rattle.pick_policy.proofs.Picking.{addresses-ranked, least-ranked}
use Rattle.pick_policy.proofs.ShortLists.{has_least_more, has_least_all}
use Rattle.pick_policy.proofs.ranked_picker.RankedPicker.pick_few.Goals as goal

pub loop-candidate-preserved : goal.loop-candidate-preserved
loop-candidate-preserved g c =
    let cands : List Rated = c.args.cands.now in
    has_least_more (ranked_under c.args.word) cands c.loop-candidate.candidate-index c.args.k _ c.scored.result c.loop-candidate.list c.offer.new.self
    (subst (IsDistinct same_address) (sym (addresses-ranked c.args.word cands)) c.requires.distinct)
    c.loop-candidate-test.true c.scored.ensures c.in_ok-offer.ensures c.loop-candidate.invariant

pub returns : goal.returns
returns g c =
    let cands : List Rated = c.args.cands.now in
    let all = has_least_all (ranked_under c.args.word) cands c.loop-candidate.candidate-index c.args.k c.loop-candidate.list (omega (arith, c.loop-candidate-test.false)) c.loop-candidate.invariant in
    subst (λ l. IfOk c.addresses.result (λ picks. picks ≡ l)) (ap (map (λ s. s.addr)) all ∙ least-ranked c.args.k c.args.word cands) c.addresses.ensures
