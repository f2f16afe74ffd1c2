use Rattle.pair_net.proofs.Reached.{reached_step, reached_alike}
use Rattle.pair_net.proofs.pair.Pair.advance.Goals as goal

pub invariant_of-self : goal.invariant_of-self
invariant_of-self c = reached_step c.self.inside.ends c.step.new.self c.args.step c.self.invariant c.in-Ok.ensures.pair-is

pub returns-in-Ok-clause-alike : goal.returns-in-Ok-clause-alike
returns-in-Ok-clause-alike c =
    reached_alike c.step.new.self
    (reached_step c.self.inside.ends c.step.new.self c.args.step c.self.invariant c.in-Ok.ensures.pair-is)
