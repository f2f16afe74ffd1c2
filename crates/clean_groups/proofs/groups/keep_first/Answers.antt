use Rattle.std.proofs.Common.{arith}
use Rattle.clean_groups.proofs.Placing.{HasKept-more, HasKept-all}
use Rattle.clean_groups.proofs.groups.keep_first.Goals as goal

pub loop-addr-preserved : goal.loop-addr-preserved
loop-addr-preserved c =
    HasKept-more c.args.own c.args.place c.args.places.now c.args.members.now c.loop-addr.kept c.keep.new.kept c.loop-addr.places c.keep.new.places
    c.loop-addr.addr-index _ c.loop-addr.invariant c.loop-addr-test.true c.in_ok-keep.ensures.kept c.in_ok-keep.ensures.placed

pub returns-clause-kept : goal.returns-clause-kept
returns-clause-kept c =
    HasKept-all c.args.own c.args.place c.args.places.now c.args.members.now c.loop-addr.kept c.loop-addr.places c.loop-addr.addr-index
    c.loop-addr.invariant (omega arith)
