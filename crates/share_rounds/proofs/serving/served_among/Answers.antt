use Rattle.std.proofs.Common.{◌≡◌, ◌≤◌, length, not, subst, sym, arith}
use Rattle.net_base.specs.Address.{same_address}
use Rattle.net_base.specs.declared.address.Addr.{Addr}
use Rattle.net_base.specs.declared.address.Ip.TheVariants.{V4}
use Rattle.share_rounds.specs.Rounds.{IsServedFor, told_among}
use Rattle.share_rounds.proofs.Among.{told_of_tellable}
use Rattle.share_rounds.proofs.Steps.{address_looked_at, most_kept, all_addresses_kept}
use Rattle.share_rounds.proofs.serving.served_among.Goals as goal

pub loop-addr-preserved : goal.loop-addr-preserved
loop-addr-preserved c =
    let any : Addr = record { ip = V4 0; port = 0 } in
    let test = λ (addr : Addr). not (same_address addr c.args.asker) in
    let kept = rw c.is_same-may.ensures at c.in_ok-keep_where.ensures in
    let room = rw c.as_slice.ensures at c.if-as_slice-most.false in
    let next = address_looked_at test c.min-most.result c.args.tellable.now c.loop-addr.addr-index any c.loop-addr.told c.keep_where.new.list _ c.loop-addr-test.true room kept c.loop-addr.invariant.1 in
    (next.fits, next.whole)

pub returns-then-as_slice-most-clause-served : goal.returns-then-as_slice-most-clause-served
returns-then-as_slice-most-clause-served c =
    let full = rw c.as_slice.ensures at c.if-as_slice-most.true in
    let told : c.loop-addr.told ≡ told_among c.args.asker c.args.n c.args.tellable.now = most_kept c.min-most.result c.loop-addr.told _ _ full c.loop-addr.invariant.1 in
    subst (IsServedFor c.args.asker c.args.n c.args.tellable.now) (sym told) (told_of_tellable c.args.asker c.args.n c.args.tellable.now)

pub returns-clause-served : goal.returns-clause-served
returns-clause-served c =
    let test = λ (addr : Addr). not (same_address addr c.args.asker) in
    let past : length c.args.tellable.now ≤ c.loop-addr.addr-index = omega (arith, c.loop-addr-test.false) in
    let told : c.loop-addr.told ≡ told_among c.args.asker c.args.n c.args.tellable.now =
    all_addresses_kept test c.min-most.result c.args.tellable.now c.loop-addr.addr-index c.loop-addr.told _ past c.loop-addr.invariant.1 in
    subst (IsServedFor c.args.asker c.args.n c.args.tellable.now) (sym told) (told_of_tellable c.args.asker c.args.n c.args.tellable.now)
