use Rattle.std.proofs.Common.{◌≡◌, subst, sym}
use Rattle.machine.specs.Deadlines.{deadlines_of}
use Rattle.net_base.specs.Shared.{nothing_undecoded}
use Rattle.timer_queue.specs.Rows.{timers_of}
use Rattle.timer_queue.specs.Timers.{HaveSame}
use Rattle.timer_queue.specs.declared.moments.Moments.{Moments}
use Rattle.connections.proofs.Retimed.{moments_by, moments_are}
use Rattle.connections.proofs.timed.moments_of.Goals as goal

pub returns : goal.returns
returns c =
    let f = c.args.facts.now in
    let owed = c.by_protocol-chain_sync.result in
    let made : Moments = record {
      handshake = c.handshake_end.result;
      grace = c.grace_end.result;
      time_wait = c.time_wait_end.result;
      reply2 = c.reply_end.result;
      reply8 = c.reply_end-2.result;
      reply10 = c.reply_end-3.result;
    } in
    let is : made ≡ moments_by f.phase f.grace owed.0 owed.1 owed.2 = λ i. record {
      handshake = c.handshake_end.ensures i;
      grace = c.grace_end.ensures i;
      time_wait = c.time_wait_end.ensures i;
      reply2 = c.reply_end.ensures i;
      reply8 = c.reply_end-2.ensures i;
      reply10 = c.reply_end-3.ensures i;
    } in
    subst (λ (m : Moments). HaveSame (timers_of f.cid m)
    (deadlines_of (record { facts = f; undecoded = nothing_undecoded; owed = c.args.replies.now }))) (sym is)
    (moments_are f.cid f.phase f.grace owed.0 owed.1 owed.2 c.args.replies.now c.by_protocol-chain_sync.ensures)
