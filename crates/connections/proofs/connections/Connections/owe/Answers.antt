use Rattle.std.proofs.Common.{◌+◌, ◌<◌, length, refl, subst}
use Rattle.machine.specs.Replies.{with_reply}
use Rattle.connections.specs.Standing.{Standing, Turns, owes}
use Rattle.connections.specs.Kept.{table_of, standing}
use Rattle.connections.specs.Talks.{TurnsAt, standing_of, with_owed}
use Rattle.connections.proofs.LinkedTurns.{linked_but, linked_if}
use Rattle.connections.proofs.Stepping.{any_in, talk_inside, talk_turns}
use Rattle.connections.proofs.TalkFeeds.{changed_at}
use Rattle.connections.proofs.TalkTurns.{Any, IsTurn}
use Rattle.connections.proofs.TimedTurns.{stands_in, turned_but}
use Rattle.connections.proofs.connections.Connections.owe.Goals.{After-change}
use Rattle.connections.proofs.connections.Connections.owe.Goals as goal

inside : (c : After-change) → c.place_of-place.result < length c.self.inside.kept.talks
inside c =
    talk_inside Any c.args.cid.0 c.place_of-place.result c.self.inside.kept
    (any_in c.args.cid.0 c.self.inside.kept c.self.invariant.0 (stands_in c.args.cid _ _ c.self.view_is c.requires.stands)) c.place_of-place.ensures

changed : (c : After-change) → TurnsAt c.place_of-place.result (with_owed (with_reply (record {
  protocol = c.args.protocol;
  until = c.args.now + c.self.inside.kept.settings.reply;
  asked = c.args.asked;
}))) c.self.inside.kept.talks c.change.new.self
changed c = changed_at (with_owed (with_reply (record { protocol = c.args.protocol; until = c.args.now + c.self.inside.kept.settings.reply; asked = c.args.asked })))
    _ c.self.inside.kept.talks c.change.new.self c.place_of-place.result (inside c) (λ old new d. d) c.change.ensures

turns : (c : After-change) → IsTurn c.args.cid.0 (owes c.args.protocol c.args.asked (c.args.now + c.self.inside.kept.settings.reply)) (standing c.self.inside.kept)
    (table_of c.self.inside.kept.settings c.self.inside.kept.roster) c.change.new.self
turns c =
    let it = any_in c.args.cid.0 c.self.inside.kept c.self.invariant.0 (stands_in c.args.cid _ _ c.self.view_is c.requires.stands) in
    talk_turns c.args.cid.0 c.place_of-place.result (owes c.args.protocol c.args.asked (c.args.now + c.self.inside.kept.settings.reply)) (with_owed (with_reply (record { protocol = c.args.protocol; until = c.args.now + c.self.inside.kept.settings.reply; asked = c.args.asked }))) c.self.inside.kept c.change.new.self c.self.invariant.0 it
    c.place_of-place.ensures (changed c) refl it.at.belongs

pub change-requires-clause-inside : goal.change-requires-clause-inside
change-requires-clause-inside c =
    talk_inside Any c.args.cid.0 c.place_of-place.result c.self.inside.kept
    (any_in c.args.cid.0 c.self.inside.kept c.self.invariant.0 (stands_in c.args.cid _ _ c.self.view_is c.requires.stands)) c.place_of-place.ensures

pub follow-requires-clause-whole : goal.follow-requires-clause-whole
follow-requires-clause-whole c = record {
  settings_sound = c.self.invariant.0.settings_sound;
  roster_kept = c.self.invariant.0.roster_kept;
  talks_are = (turns (goal.at.follow-requires-clause-whole c).After-change).stands.talks_are;
  ordered = c.self.invariant.0.ordered;
}

pub follow-requires-clause-timed : goal.follow-requires-clause-timed
follow-requires-clause-timed c = turned_but c.args.cid (owes c.args.protocol c.args.asked (c.args.now + c.self.inside.kept.settings.reply)) _ _ _ c.self.invariant.1.0
    (stands_in c.args.cid _ _ c.self.view_is c.requires.stands) (λ e. refl) (turns (goal.at.follow-requires-clause-timed c).After-change).turns

pub follow-requires-clause-linked : goal.follow-requires-clause-linked
follow-requires-clause-linked c = linked_but c.args.cid (owes c.args.protocol c.args.asked (c.args.now + c.self.inside.kept.settings.reply)) _ _ _ _ c.self.invariant.1.0 c.self.invariant.1.1
    (stands_in c.args.cid _ _ c.self.view_is c.requires.stands) (λ e. refl) (turns (goal.at.follow-requires-clause-linked c).After-change).turns

pub sight-seen-requires-clause-stands : goal.sight-seen-requires-clause-stands
sight-seen-requires-clause-stands c = stands_in c.args.cid _ _ c.self.view_is c.requires.stands

pub follow-requires-clause-stays : goal.follow-requires-clause-stays
follow-requires-clause-stays c = linked_if c.args.cid (owes c.args.protocol c.args.asked (c.args.now + c.self.inside.kept.settings.reply)) c.sight-seen.result _ _ _ _ c.self.invariant.1.0 c.self.invariant.1.1
    (stands_in c.args.cid _ _ c.self.view_is c.requires.stands) (λ e. refl) c.sight-seen.ensures (turns (goal.at.follow-requires-clause-stays c).After-change).turns

pub returns : goal.returns
returns c =
    let new : Standing = standing_of (table_of c.self.inside.kept.settings c.self.inside.kept.roster) c.change.new.self in
    subst (λ (s : Standing). Turns c.args.cid.0 (owes c.args.protocol c.args.asked (c.args.now + s.settings.reply)) s new) c.self.view_is
    (turns (goal.at.returns c).After-change).turns

pub invariant_of-self : goal.invariant_of-self
invariant_of-self c = (
  record {
    settings_sound = c.self.invariant.0.settings_sound;
    roster_kept = c.self.invariant.0.roster_kept;
    talks_are = (turns (goal.at.invariant_of-self c).After-change).stands.talks_are;
    ordered = c.self.invariant.0.ordered;
  },
  (c.follow.ensures.timed, c.follow.ensures.linked),
)
