use Rattle.std.proofs.Common.{refl, rules}
use Rattle.socket_flow.proofs.Losing.{kept, and_then, at_rest_then}
use Rattle.socket_flow.proofs.Passing.{nobody_has_turn, turn_after}
use Rattle.socket_flow.proofs.flow.SocketFlow.ask_of_peers.Goals as goal

pub returns-in-Some-2-clause-loses : goal.returns-in-Some-2-clause-loses
returns-in-Some-2-clause-loses c = at_rest_then _ _ _ c.in_ok-ask.ensures.loses refl refl refl refl refl refl

pub returns-clause-loses : goal.returns-clause-loses
returns-clause-loses c = at_rest_then _ _ _ (and_then _ _ _ c.in_ok-ask.ensures.loses (kept _ _ c.ask_of_turns.ensures.keeps)) refl refl refl refl refl refl

pub returns-in-Some-clause-turns : goal.returns-in-Some-clause-turns
returns-in-Some-clause-turns c = nobody_has_turn _ _ _ refl c.in-Some.ensures.turn

pub returns-in-Some-2-clause-turns : goal.returns-in-Some-2-clause-turns
returns-in-Some-2-clause-turns c = nobody_has_turn _ _ _ c.ask_to_accept.ensures.turns (search rules)

pub returns-clause-turns : goal.returns-clause-turns
returns-clause-turns c = turn_after _ _ _ _ c.ask_to_accept.ensures.turns c.ask_of_turns.ensures.turns
