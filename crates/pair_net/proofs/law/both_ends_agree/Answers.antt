use Rattle.pair_net.proofs.Runs.{ends_agree_alike, meetings_agree, crossings_agree}
use Rattle.pair_net.proofs.InTurn.{pipes_empty, meetings_agree_in_turn, crossings_agree_in_turn}
use Rattle.pair_net.proofs.law.both_ends_agree.Goals as goal

pub returns-clause-alike : goal.returns-clause-alike
returns-clause-alike c = ends_agree_alike

pub returns-clause-pipes : goal.returns-clause-pipes
returns-clause-pipes c = pipes_empty

pub returns-clause-meetings_in_turn : goal.returns-clause-meetings_in_turn
returns-clause-meetings_in_turn c = meetings_agree_in_turn

pub returns-clause-meetings : goal.returns-clause-meetings
returns-clause-meetings c = meetings_agree

pub returns-clause-crossings : goal.returns-clause-crossings
returns-clause-crossings c = crossings_agree

pub returns-clause-crossings_in_turn : goal.returns-clause-crossings_in_turn
returns-clause-crossings_in_turn c = crossings_agree_in_turn
