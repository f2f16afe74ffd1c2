use Rattle.std.proofs.Common.{arith}
use Rattle.shared_table.proofs.TearLemmas.{agree-none, agree-more, agree-all, seen_within, torn_here}
use Rattle.shared_table.proofs.tear.first_torn.Goals as goal

pub loop-entry-init : goal.loop-entry-init
loop-entry-init c = agree-none c.args.outs.now c.args.ins.now

pub compared-requires : goal.compared-requires
compared-requires c =
    seen_within c.args.history.now c.loop-entry.entry-index _ c.args.outs.now c.args.ins.now c.loop-entry.seen c.loop-entry-test.true
    c.requires.outs c.requires.ins c.loop-entry.invariant

pub returns-in-Some-clause-some : goal.returns-in-Some-clause-some
returns-in-Some-clause-some c =
    torn_here c.args.history.now c.loop-entry.entry-index _ c.args.outs.now c.args.ins.now c.loop-entry.seen c.in-Some.torn c.loop-entry-test.true
    c.loop-entry.invariant c.in-Some.ensures.torn

pub loop-entry-preserved : goal.loop-entry-preserved
loop-entry-preserved c =
    agree-more c.args.history.now c.loop-entry.entry-index _ c.args.outs.now c.args.ins.now c.loop-entry.seen c.compared.new.seen c.loop-entry-test.true
    c.loop-entry.invariant c.in_default.ensures.same c.in_default.ensures.seen

pub returns-clause-none : goal.returns-clause-none
returns-clause-none c =
    agree-all c.args.history.now c.loop-entry.entry-index c.args.outs.now c.args.ins.now c.loop-entry.seen (omega arith)
    c.requires.outs c.requires.ins c.loop-entry.invariant
