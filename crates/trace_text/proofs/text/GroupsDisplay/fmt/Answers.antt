use Rattle.std.proofs.Common.{rules, ◌-◌, length, take, drop}
use Rattle.std.proofs.Output.{has_written_of_eq, has_written_append}
use Rattle.trace_text.proofs.Ips.{joined_more}
use Rattle.trace_text.proofs.text.GroupsDisplay.fmt.Goals as goal

pub loop-group-preserved : goal.loop-group-preserved
loop-group-preserved g c = λ plain.
    let groups = c.args.self.now.0.now in
    has_written_of_eq _ _ _ _ _
    (joined_more _ (take (length groups - 1) (drop 1 groups)) c.loop-group.group-index c.loop-group-test.true)
    (has_written_append _ _ _ _ _ _ (c.loop-group.invariant plain) (search rules))
