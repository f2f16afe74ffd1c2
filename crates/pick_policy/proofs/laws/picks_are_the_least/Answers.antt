use Rattle.pick_policy.proofs.Picking.{picked_are_least, ranked_are_least}
use Rattle.pick_policy.proofs.laws.picks_are_the_least.Goals as goal

pub returns-clause-by_score : goal.returns-clause-by_score
returns-clause-by_score c = picked_are_least

pub returns-clause-by_rate : goal.returns-clause-by_rate
returns-clause-by_rate c = ranked_are_least
