use Rattle.std.proofs.Common.{[]}
use Rattle.net_base.specs.declared.address.Addr.{Addr}
use Rattle.net_base.specs.declared.address.Ip.TheVariants.{V4}
use Rattle.share_rounds.specs.Rounds.{is_new, taken_after}
use Rattle.share_rounds.proofs.Steps.{none_kept, told_looked_at, most_kept, all_kept}
use Rattle.share_rounds.proofs.taking.fresh.Goals as goal

pub loop-addr-init : goal.loop-addr-init
loop-addr-init c =
    let none = none_kept c.room_for-room.result (taken_after [] (is_new c.args.own c.args.version c.args.book.now) c.args.answer.now) in
    rw c.new-taken.ensures (none.fits, none.whole)

pub loop-addr-preserved : goal.loop-addr-preserved
loop-addr-preserved c =
    let any : Addr = record { ip = V4 0; port = 0 } in
    let told = c.as_slice-addr-items.ensures in
    let taken = c.as_slice-in-loop-addr.ensures in
    let may = rw (told, taken) at c.is_new_beside-may.ensures in
    let kept = rw (told, may) at c.in_ok-keep_where.ensures in
    let within = rw told at c.loop-addr-test.true in
    let room = rw c.as_slice.ensures at c.if-as_slice-room.false in
    let next = told_looked_at (is_new c.args.own c.args.version c.args.book.now) c.room_for-room.result c.args.answer.now c.loop-addr.addr-index any
    c.loop-addr.taken c.keep_where.new.list _ within room kept c.loop-addr.invariant.1 in
    (next.fits, next.whole)

pub returns-then-as_slice-room : goal.returns-then-as_slice-room
returns-then-as_slice-room c =
    let full = rw c.as_slice.ensures at c.if-as_slice-room.true in
    rw (← c.room_for-room.ensures) (most_kept c.room_for-room.result c.loop-addr.taken _ _ full c.loop-addr.invariant.1)

pub returns : goal.returns
returns c =
    let past = rw c.as_slice-addr-items.ensures at c.loop-addr-test.false in
    rw (← c.room_for-room.ensures)
    (all_kept (is_new c.args.own c.args.version c.args.book.now) c.room_for-room.result c.args.answer.now c.loop-addr.addr-index c.loop-addr.taken _ past c.loop-addr.invariant.1)
