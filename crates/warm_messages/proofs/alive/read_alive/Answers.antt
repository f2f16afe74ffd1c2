use Rattle.std.proofs.Common.{rules}
use Rattle.warm_messages.specs.Reading.{alive_of}
use Rattle.warm_messages.proofs.Answered.{alive_answered}
use Rattle.warm_messages.proofs.alive.read_alive.Goals as goal

pub returns-in_err-numbers-clause-spelled : goal.returns-in_err-numbers-clause-spelled
unfolding alive_of
returns-in_err-numbers-clause-spelled c = alive_answered c.from_residual.result c.args.bytes.now (search rules)

pub returns-clause-spelled : goal.returns-clause-spelled
unfolding alive_of
returns-clause-spelled c = alive_answered c.alive_of.result c.args.bytes.now (search rules)
