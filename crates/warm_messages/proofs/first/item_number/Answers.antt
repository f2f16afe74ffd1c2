use Rattle.std.proofs.Common.{rules, Some}
use Rattle.warm_messages.specs.First.{item_number_of}
use Rattle.warm_messages.proofs.Answered.{item_answered}
use Rattle.warm_messages.proofs.first.item_number.Goals as goal

pub returns-in_err-rest-clause-spelled : goal.returns-in_err-rest-clause-spelled
unfolding item_number_of
returns-in_err-rest-clause-spelled c = item_answered c.from_residual.result c.args.item.now (search rules)

pub returns-in_err-number-clause-spelled : goal.returns-in_err-number-clause-spelled
unfolding item_number_of
returns-in_err-number-clause-spelled c = item_answered c.from_residual-in_err-number.result c.args.item.now (search rules)

pub returns-clause-spelled : goal.returns-clause-spelled
unfolding item_number_of
returns-clause-spelled c = item_answered (Some c.in_ok-number.number) c.args.item.now (search rules)
