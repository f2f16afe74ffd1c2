use Rattle.std.proofs.Common.{rules, None}
use Rattle.warm_messages.specs.First.{first_number_of}
use Rattle.warm_messages.proofs.Answered.{first_answered}
use Rattle.warm_messages.proofs.first.first_number.Goals as goal

pub returns-then-ne-clause-spelled : goal.returns-then-ne-clause-spelled
unfolding first_number_of
returns-then-ne-clause-spelled c = first_answered None c.args.bytes.now (search rules)
