use Rattle.std.proofs.Common.{◌≡◌, set, IfSome, sym, subst}
use Rattle.mux_segment.specs.Stream.{nothing_fed}
use Rattle.connections.specs.Steps.{unread_if}
use Rattle.connections.specs.Talks.{TurnsAt, with_cutter}
use Rattle.connections.proofs.TalkFeeds.{changed_at, talk_there}
use Rattle.connections.proofs.TalkTurns.{stays_at}
use Rattle.connections.proofs.talk.unread_at.Goals as goal

pub returns-then-closed : goal.returns-then-closed
returns-then-closed c =
    subst (λ b. TurnsAt c.args.place (unread_if b) c.args.talks.now c.change.new.self) (sym c.if-closed.true)
    (changed_at (with_cutter nothing_fed) _ c.args.talks.now c.change.new.self c.args.place c.requires (λ old new d. d) c.change.ensures)

pub returns-else-closed : goal.returns-else-closed
returns-else-closed c =
    let there = talk_there c.args.talks.now c.args.place c.requires in
    subst (λ b. TurnsAt c.args.place (unread_if b) c.args.talks.now c.args.talks.now) (sym c.if-closed.false)
    (subst (λ o. IfSome o (λ t. c.args.talks.now ≡ set c.args.talks.now c.args.place t)) (sym there.1) (stays_at c.args.talks.now c.args.place there.0 there.1))
