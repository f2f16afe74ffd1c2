use Rattle.std.proofs.Common.{rules, Some, None}
use Rattle.warm_messages.specs.declared.share.Share.TheVariants.{Peers}
use Rattle.warm_messages.specs.Reading.{share_of}
use Rattle.warm_messages.proofs.Answered.{share_answered}
use Rattle.warm_messages.proofs.share.read_share.Goals as goal

pub returns-in-Some-clause-spelled : goal.returns-in-Some-clause-spelled
unfolding share_of
returns-in-Some-clause-spelled c = share_answered c.share_of_numbers.result c.args.bytes.now (search rules)

pub returns-in-Ok-clause-spelled : goal.returns-in-Ok-clause-spelled
unfolding share_of
returns-in-Ok-clause-spelled c = share_answered (Some (Peers c.in-Ok.peers)) c.args.bytes.now (search rules)

pub returns-in-Err-NoMessage-clause-spelled : goal.returns-in-Err-NoMessage-clause-spelled
unfolding share_of
returns-in-Err-NoMessage-clause-spelled c = share_answered None c.args.bytes.now (search rules)
