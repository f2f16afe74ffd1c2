use Rattle.std.proofs.Common.{◌≡◌, suc, ◌+◌, ◌-◌, length, arith, inl, inr}
use Rattle.std.proofs.lemmas.Result.{err_from_is_err_and}
use Rattle.warm_messages.specs.Reading.{address_at, addresses_at}
use Rattle.warm_messages.proofs.Elements.{behind_none, one_read, end_read, none_read, too_many}
use Rattle.warm_messages.proofs.Returned.{gives_some, gives_none, missing_is}
use Rattle.warm_messages.proofs.Firsts.{first_read}
use Rattle.warm_messages.proofs.share.split_addresses.Goals as goal

pub returns-in-Some-clause-reading : goal.returns-in-Some-clause-reading
returns-in-Some-clause-reading c =
    let most = length c.args.bytes.now in
    end_read address_at c.in_ok-length.length c.loop-count.count (most - c.loop-count.count) c.loop-count.rest.now c.in-Some.behind.now
    c.loop-count.peers _ c.in-Some.ensures c.loop-count.invariant.0

pub returns-in_err-addr-clause-reading : goal.returns-in_err-addr-clause-reading
returns-in_err-addr-clause-reading c =
    let most = length c.args.bytes.now in
    let left : most - c.loop-count.count ≡ suc (most - (c.loop-count.count + 1)) = omega arith in
    let p = err_from_is_err_and c.from_residual-in_err-addr.result c.from_residual-in_err-addr.ensures.1 in
    let none = gives_none _ _ _ c.in_err-addr.ensures.ok_part c.split_address.ensures in
    let failed = none_read address_at c.in_ok-length.length c.loop-count.count (most - c.loop-count.count) (most - (c.loop-count.count + 1)) c.loop-count.rest.now
    c.loop-count.peers _ left c.in_default.ensures none c.loop-count.invariant.0 in
    let missed = missing_is _ _ c.in_err-addr.ensures.value in
    rw (p.1, p.2, missed) failed

pub loop-count-preserved : goal.loop-count-preserved
loop-count-preserved c =
    let most = length c.args.bytes.now in
    let left : most - c.loop-count.count ≡ suc (most - (c.loop-count.count + 1)) = omega arith in
    let some = gives_some _ _ _ _ c.in_ok-addr.ensures.ok_part c.split_address.ensures in (
      rw c.in_ok-push.ensures.ok (one_read address_at c.in_ok-length.length c.loop-count.count (most - c.loop-count.count) (most - (c.loop-count.count + 1)) c.loop-count.rest.now
          c.in_ok-addr.after.now c.in_ok-addr.addr c.loop-count.peers _ left c.in_default.ensures some c.loop-count.invariant.0),
      inr (first_read c.args.bytes.now c.loop-count.rest.now (c.in_ok-addr.addr, c.in_ok-addr.after.now) c.loop-count.invariant.1 some),
    )

pub returns-in_err-behind-clause-reading : goal.returns-in_err-behind-clause-reading
returns-in_err-behind-clause-reading c =
    let most = length c.args.bytes.now in
    let turns : most - c.loop-count.count ≡ 0 = omega arith in
    let same : c.loop-count.count ≡ most = omega arith in
    let p = err_from_is_err_and c.from_residual-in_err-behind.result c.from_residual-in_err-behind.ensures.1 in
    let none = gives_none _ _ _ c.in_err-behind.ensures.ok_part c.end-2.ensures in
    let failed = too_many address_at c.in_ok-length.length c.loop-count.count (most - c.loop-count.count) c.loop-count.rest.now c.loop-count.peers _ turns (rw same none) c.loop-count.invariant.0 in
    let missed = missing_is _ _ c.in_err-behind.ensures.value in
    rw (p.1, p.2, missed) failed

pub returns-clause-reading : goal.returns-clause-reading
returns-clause-reading c =
    let most = length c.args.bytes.now in
    let same : c.loop-count.count ≡ most = omega arith in
    let some = gives_some _ _ _ _ c.in_ok-behind.ensures.ok_part c.end-2.ensures in
    end_read address_at c.in_ok-length.length c.loop-count.count (most - c.loop-count.count) c.loop-count.rest.now c.in_ok-behind.behind.now
    c.loop-count.peers _ (rw same some) c.loop-count.invariant.0

pub returns-in_err-push-clause-reading : goal.returns-in_err-push-clause-reading
returns-in_err-push-clause-reading c =
    let p = err_from_is_err_and c.from_residual-in_err-push.result c.from_residual-in_err-push.ensures.1 in
    rw (p.1, p.2) tt

pub returns-in_err-push-clause-memory : goal.returns-in_err-push-clause-memory
returns-in_err-push-clause-memory c wanting =
    let some = gives_some _ _ _ _ c.in_ok-addr.ensures.ok_part c.split_address.ensures in
    first_read c.args.bytes.now c.loop-count.rest.now (c.in_ok-addr.addr, c.in_ok-addr.after.now) c.loop-count.invariant.1 some

pub loop-count-init : goal.loop-count-init
unfolding addresses_at
loop-count-init c =
    let opened = gives_some _ _ _ _ c.in_ok-length.ensures.ok_part c.open_array.ensures in
    let whole : length c.args.bytes.now - 0 ≡ length c.args.bytes.now = omega arith in
    (rw (c.new-peers.ensures, whole, opened) (behind_none _), inl (c.in_ok-length.length, opened))
