use Rattle.std.proofs.Common.{subst, refl, ap, ◌∙◌}
use Rattle.socket_flow.specs.Acting.{LeavesAt}
use Rattle.socket_flow.proofs.Losing.{same, kept, and_then, asks_of, silent_unread, silent_where, room_where, first_or_next}
use Rattle.socket_flow.proofs.Passing.{nobody_has_turn, turn_after, unread_turn, early_quiet, late_quiet, after_all}
use Rattle.socket_flow.proofs.flow.SocketFlow.ask.Goals as goal

pub returns-in-Some-next_event-clause-gives : goal.returns-in-Some-next_event-clause-gives
returns-in-Some-next_event-clause-gives c =
    let left = c.turn_away.new.self in (
      left,
      subst (λ caller. LeavesAt c.args.self.now.table left.table caller) c.ask_of_sockets.ensures.caller
          (subst (λ table. LeavesAt table left.table c.ask_of_sockets.new.self.caller) c.ask_of_sockets.ensures.table c.in_ok-turn_away.ensures.leaves.0),
      first_or_next _ _ _ c.in-Some-next_event.ensures.told,
    )

pub returns-in-Some-next_event-clause-made : goal.returns-in-Some-next_event-clause-made
returns-in-Some-next_event-clause-made c = record {
  left = c.turn_away.new.self;
  loses = and_then _ _ _ (kept _ _ c.ask_of_sockets.ensures.keeps) c.in_ok-turn_away.ensures.loses;
  asks = c.in-Some-next_event.ensures.told;
  room = tt;
  order = c.in_default.ensures.none;
  quiet = tt;
}

pub returns-in-Some-next_event-clause-turns : goal.returns-in-Some-next_event-clause-turns
returns-in-Some-next_event-clause-turns c = nobody_has_turn _ _ _ (c.next_event.ensures.turns ∙ (c.turn_away.ensures.turns ∙ c.ask_of_sockets.ensures.turns)) refl

pub returns-in-Some-clause-made : goal.returns-in-Some-clause-made
returns-in-Some-clause-made c = record {
  left = c.ask_of_sockets.new.self;
  loses = kept _ _ c.ask_of_sockets.ensures.keeps;
  asks = asks_of _ _ _ (same _) c.in-Some.ensures.readable (silent_unread _ c.ask_of_sockets.new.self c.in-Some.ensures.unread);
  room = room_where _ c.ask_of_sockets.new.self c.in-Some.ensures.accepts;
  order = c.in-Some.ensures.order;
  quiet = early_quiet _ c.ask_of_sockets.new.self c.in-Some.ensures.early;
}

pub returns-in-Some-clause-turns : goal.returns-in-Some-clause-turns
returns-in-Some-clause-turns c = nobody_has_turn _ _ _ c.ask_of_sockets.ensures.turns (unread_turn c.ask_of_sockets.new.self.table _ c.in-Some.ensures.unread)

pub returns-clause-made : goal.returns-clause-made
returns-clause-made c =
    let before = and_then _ _ _ (kept _ _ c.ask_of_sockets.ensures.keeps) c.in_ok-turn_away.ensures.loses in record {
      left = c.ask_of_peers.new.self;
      loses = and_then _ _ _ (and_then _ _ _ before (kept _ _ c.in_default-next_event.ensures.none)) c.in_ok-ask_of_peers.ensures.loses;
      asks = asks_of _ _ _ (same _) c.in_ok-ask_of_peers.ensures.readable (silent_where _ c.ask_of_peers.new.self (c.in_ok-ask_of_peers.ensures.events ∙ c.in_default-next_event.ensures.quiet.events));
      room = c.in_ok-ask_of_peers.ensures.room;
      order = after_all _ _ c.in_default.ensures.none;
      quiet = late_quiet _ c.ask_of_peers.new.self (record {
        events = c.in_ok-ask_of_peers.ensures.events ∙ c.in_default-next_event.ensures.quiet.events;
        callers = ap (λ callers. callers.items) c.ask_of_peers.ensures.callers ∙ c.in_default-next_event.ensures.quiet.callers;
      });
    }

pub returns-clause-turns : goal.returns-clause-turns
returns-clause-turns c =
    turn_after _ _ _ _ (c.next_event.ensures.turns ∙ (c.turn_away.ensures.turns ∙ c.ask_of_sockets.ensures.turns)) c.in_ok-ask_of_peers.ensures.turns
