use Rattle.std.proofs.Common.{drop, get_or, suc, subst, add-one, drop-cons}
use Rattle.net_base.specs.declared.address.Addr.{Addr}
use Rattle.net_base.specs.declared.address.Ip.TheVariants.{V4}
use Rattle.peer_book.proofs.Gathered.{Gathering, gathering-next}
use Rattle.peer_book.proofs.leaving.gathered.Goals as goal

abbrev any : Addr
any = record { ip = V4 0; port = 0 }

pub loop-addr-preserved : goal.loop-addr-preserved
loop-addr-preserved c =
    let addrs = c.args.addrs.now in
    let i = c.loop-addr.addr-index in
    let so_far = subst (λ rest. Gathering addrs rest c.loop-addr.sorted.keys) (drop-cons addrs i any c.loop-addr-test.true) c.loop-addr.invariant in
    rw add-one (gathering-next addrs (get_or addrs i any) (drop (suc i) addrs) c.loop-addr.sorted.keys _ so_far c.in_ok-note.ensures.keys)
