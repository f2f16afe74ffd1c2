use Rattle.share_rounds.proofs.Rules.{taken_within_target, taken_within_book, taken_are_new, taken_once}
use Rattle.share_rounds.proofs.law.taken_addresses_are_new.Goals as goal

pub returns : goal.returns
returns c = record { within_target = taken_within_target; within_book = taken_within_book; each = taken_are_new; distinct = taken_once }
