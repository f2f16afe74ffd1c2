use Rattle.std.proofs.Common.{◌≡◌, IfOk, List, map, sym, ap, ◌∙◌, subst, arith}
use Rattle.std.specs.List.{IsDistinct}
use Rattle.net_base.specs.Address.{same_address}
use Rattle.net_base.specs.declared.address.Addr.{Addr}
use Rattle.pick_policy.specs.Ordered.{scored_under}
use Rattle.pick_policy.proofs.Picking.{addresses-scored, least-scored}
use Rattle.pick_policy.proofs.ShortLists.{has_least_more, has_least_all}
use Rattle.pick_policy.proofs.picker.Picker.pick_few.Goals as goal

pub loop-addr-preserved : goal.loop-addr-preserved
loop-addr-preserved g c =
    let cands : List Addr = c.args.cands.now in
    has_least_more (scored_under c.args.word) cands c.loop-addr.addr-index c.args.k _ c.scored.result c.loop-addr.list c.offer.new.self
    (subst (IsDistinct same_address) (sym (addresses-scored c.args.word cands)) c.requires.distinct)
    c.loop-addr-test.true c.scored.ensures c.in_ok-offer.ensures c.loop-addr.invariant

pub returns : goal.returns
returns g c =
    let cands : List Addr = c.args.cands.now in
    let all = has_least_all (scored_under c.args.word) cands c.loop-addr.addr-index c.args.k c.loop-addr.list (omega (arith, c.loop-addr-test.false)) c.loop-addr.invariant in
    subst (λ l. IfOk c.addresses.result (λ picks. picks ≡ l)) (ap (map (λ s. s.addr)) all ∙ least-scored c.args.k c.args.word cands) c.addresses.ensures
