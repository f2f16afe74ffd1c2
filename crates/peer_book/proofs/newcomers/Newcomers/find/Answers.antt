use Rattle.std.proofs.Common.{◌<◌, ◌≤◌, length, ap, subst, drop, get_or, suc, add-one, drop-cons, arith}
use Rattle.std.proofs.Math.ListN.{drop_of_length-le}
use Rattle.net_base.specs.declared.address.Addr.{Addr}
use Rattle.net_base.specs.declared.address.Ip.TheVariants.{V4}
use Rattle.peer_book.specs.Newcomers.{room_for}
use Rattle.peer_book.proofs.ComingIn.{Coming, CameIn, coming-next, coming-end, coming-full}
use Rattle.peer_book.proofs.newcomers.Newcomers.find.Goals as goal
use Rattle.peer_book.proofs.newcomers.Newcomers.find.Goals.{Left-loop-addr, else-loop-addr-test, then-loop-addr-test+then-as_slice-room}

abbrev any : Addr
any = record { ip = V4 0; port = 0 }

pub loop-addr-preserved : goal.loop-addr-preserved
loop-addr-preserved c =
    let peers = c.args.kept.now.peers in
    let addrs = c.args.addrs.now in
    let i = c.loop-addr.addr-index in
    let next = drop-cons addrs i any c.loop-addr-test.true in
    let so_far = subst (λ rest. Coming c.args.most c.args.big addrs rest peers c.loop-addr.given c.loop-addr.sorted.keys) next c.loop-addr.invariant in
    let room : length c.loop-addr.given < room_for c.args.most c.args.big peers = omega (arith, ap length c.as_slice.ensures, c.if-as_slice-room.false, c.room_for-room.ensures) in
    rw add-one (coming-next c.args.most c.args.big addrs (get_or addrs i any) (drop (suc i) addrs) peers c.loop-addr.given c.loop-addr.sorted.keys _ _
    so_far room c.in_ok-take_in.ensures.given c.in_ok-take_in.ensures.sorted)

came_in : (c : Left-loop-addr) → CameIn c.args.most c.args.big c.args.addrs.now c.args.kept.now.peers c.loop-addr.given c.loop-addr.sorted.keys
came_in c =
    let peers = c.args.kept.now.peers in
    let addrs = c.args.addrs.now in
    let limited = c.requires.limited in
    elim c.loop-addr-test.branch [
      | else-loop-addr-test w ↦
          let past = drop_of_length-le addrs (omega arith) in
          coming-end c.args.most c.args.big addrs peers c.loop-addr.given c.loop-addr.sorted.keys limited
          (subst (λ rest. Coming c.args.most c.args.big addrs rest peers c.loop-addr.given c.loop-addr.sorted.keys) past c.loop-addr.invariant)
      | then-loop-addr-test+then-as_slice-room w ↦
          let full : room_for c.args.most c.args.big peers ≤ length c.loop-addr.given = omega (arith, ap length w.as_slice.ensures, c.room_for-room.ensures) in
          coming-full c.args.most c.args.big addrs (drop c.loop-addr.addr-index addrs) peers c.loop-addr.given c.loop-addr.sorted.keys limited full c.loop-addr.invariant
    ]

pub returns-clause-given : goal.returns-clause-given
returns-clause-given c = (came_in c).given_is

pub returns-clause-entered : goal.returns-clause-entered
returns-clause-entered c = (came_in c).entered

pub returns-clause-new : goal.returns-clause-new
returns-clause-new c = (came_in c).new
