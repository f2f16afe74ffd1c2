use Rattle.timer_queue.proofs.Firsts.{least-is, least-one}
use Rattle.timer_queue.proofs.laws.the_least_is_before_the_others.Goals as goal

pub returns-clause-found : goal.returns-clause-found
returns-clause-found c = least-is

pub returns-clause-one : goal.returns-clause-one
returns-clause-one c = least-one
