use Rattle.std.proofs.Common.{◌<◌, Ok, arith, rules, subst}
use Rattle.line_run.specs.Meaning.{IsInterpreted}
use Rattle.local_clients.specs.Clients.{ClientsState}
use Rattle.local_clients.specs.Replay.{event_means}
use Rattle.local_clients.proofs.Happening.{event_done}
use Rattle.local_clients.proofs.replay.ClientsReplay.happen.Goals as goal

pub returns : goal.returns
returns c =
    let old = c.self.inside.clients in
    let few : old.taken < 1000000 = omega (arith, c.taken.ensures.taken, c.if-taken-ge-EVENTS_MOST.false) in
    subst (λ (s : ClientsState). IsInterpreted (event_means s c.args.line.now c.args.event) c.take.new.self c.args.pieces.now c.tell_line.new.pieces (Ok tt)) c.self.view_is
    (event_done old c.take.new.self c.args.line.now c.args.event c.as_slice.result.now c.args.pieces.now c.tell_line.new.pieces few
    c.in_ok-actions.ensures.clients (search (rules, c.in_ok-actions.ensures.actions)) c.in_ok-tell_line.ensures.said)
