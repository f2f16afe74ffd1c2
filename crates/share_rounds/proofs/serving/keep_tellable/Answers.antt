use Rattle.std.proofs.Common.{false}
use Rattle.net_base.specs.declared.address.Ip.TheVariants.{V4}
use Rattle.net_base.specs.declared.peer.Peer.{Peer}
use Rattle.net_base.specs.declared.peer.Temp.TheVariants.{Cold}
use Rattle.share_rounds.specs.Rounds.{is_advertised, most_tellable}
use Rattle.share_rounds.proofs.Steps.{peer_looked_at}
use Rattle.share_rounds.proofs.serving.keep_tellable.Goals as goal

pub loop-peer-preserved : goal.loop-peer-preserved
loop-peer-preserved c =
    let any : Peer = record { addr = record { ip = V4 0; port = 0 }; big = false; temp = Cold; failures = 0; not_before = 0; share_next = 0 } in
    let test = is_advertised c.args.groups.now c.args.roots.now.publics in
    let kept = rw c.is_advertised-may.ensures at c.in_ok-keep_where.ensures in
    let room = rw c.as_slice.ensures at c.if-as_slice-ge-MOST_TELLABLE.false in
    let next = peer_looked_at test most_tellable c.args.peers.now c.loop-peer.peer-index any c.loop-peer.kept c.keep_where.new.list _ c.loop-peer-test.true room kept c.loop-peer.invariant.1 in
    (next.fits, next.whole)
