use Rattle.std.proofs.Common.{◌<◌, length, refl}
use Rattle.machine.specs.Replies.{paid, without_reply}
use Rattle.connections.specs.Kept.{table_of, standing}
use Rattle.connections.specs.Talks.{TurnsAt, with_owed}
use Rattle.connections.proofs.LinkedTurns.{linked_but, linked_if}
use Rattle.connections.proofs.Stepping.{said, any_in, talk_inside, talk_turns}
use Rattle.connections.proofs.TalkFeeds.{changed_at}
use Rattle.connections.proofs.TalkTurns.{Any, IsTurn}
use Rattle.connections.proofs.TimedTurns.{stands_in, turned_but}
use Rattle.connections.proofs.connections.Connections.pay.Goals.{After-change}
use Rattle.connections.proofs.connections.Connections.pay.Goals as goal

inside : (c : After-change) → c.place_of-place.result < length c.self.inside.kept.talks
inside c =
    talk_inside Any c.args.cid.0 c.place_of-place.result c.self.inside.kept
    (any_in c.args.cid.0 c.self.inside.kept c.self.invariant.0 (stands_in c.args.cid _ _ c.self.view_is c.requires)) c.place_of-place.ensures

changed : (c : After-change) → TurnsAt c.place_of-place.result (with_owed (without_reply c.args.protocol)) c.self.inside.kept.talks c.change.new.self
changed c = changed_at (with_owed (without_reply c.args.protocol)) _ c.self.inside.kept.talks c.change.new.self c.place_of-place.result (inside c)
    (λ old new d. d) c.change.ensures

turns : (c : After-change) → IsTurn c.args.cid.0 (paid c.args.protocol) (standing c.self.inside.kept)
    (table_of c.self.inside.kept.settings c.self.inside.kept.roster) c.change.new.self
turns c =
    let it = any_in c.args.cid.0 c.self.inside.kept c.self.invariant.0 (stands_in c.args.cid _ _ c.self.view_is c.requires) in
    talk_turns c.args.cid.0 c.place_of-place.result (paid c.args.protocol) (with_owed (without_reply c.args.protocol)) c.self.inside.kept c.change.new.self c.self.invariant.0 it
    c.place_of-place.ensures (changed c) refl it.at.belongs

pub change-requires-clause-inside : goal.change-requires-clause-inside
change-requires-clause-inside c =
    talk_inside Any c.args.cid.0 c.place_of-place.result c.self.inside.kept
    (any_in c.args.cid.0 c.self.inside.kept c.self.invariant.0 (stands_in c.args.cid _ _ c.self.view_is c.requires)) c.place_of-place.ensures

pub follow-requires-clause-whole : goal.follow-requires-clause-whole
follow-requires-clause-whole c = record {
  settings_sound = c.self.invariant.0.settings_sound;
  roster_kept = c.self.invariant.0.roster_kept;
  talks_are = (turns (goal.at.follow-requires-clause-whole c).After-change).stands.talks_are;
  ordered = c.self.invariant.0.ordered;
}

pub follow-requires-clause-timed : goal.follow-requires-clause-timed
follow-requires-clause-timed c = turned_but c.args.cid (paid c.args.protocol) _ _ _ c.self.invariant.1.0
    (stands_in c.args.cid _ _ c.self.view_is c.requires) (λ e. refl) (turns (goal.at.follow-requires-clause-timed c).After-change).turns

pub follow-requires-clause-linked : goal.follow-requires-clause-linked
follow-requires-clause-linked c = linked_but c.args.cid (paid c.args.protocol) _ _ _ _ c.self.invariant.1.0 c.self.invariant.1.1
    (stands_in c.args.cid _ _ c.self.view_is c.requires) (λ e. refl) (turns (goal.at.follow-requires-clause-linked c).After-change).turns

pub sight-seen-requires-clause-stands : goal.sight-seen-requires-clause-stands
sight-seen-requires-clause-stands c = stands_in c.args.cid _ _ c.self.view_is c.requires

pub follow-requires-clause-stays : goal.follow-requires-clause-stays
follow-requires-clause-stays c = linked_if c.args.cid (paid c.args.protocol) c.sight-seen.result _ _ _ _ c.self.invariant.1.0 c.self.invariant.1.1
    (stands_in c.args.cid _ _ c.self.view_is c.requires) (λ e. refl) c.sight-seen.ensures (turns (goal.at.follow-requires-clause-stays c).After-change).turns

pub returns : goal.returns
returns c = said c.args.cid.0 (paid c.args.protocol) _ _ _ c.self.view_is (turns (goal.at.returns c).After-change).turns

pub invariant_of-self : goal.invariant_of-self
invariant_of-self c = (
  record {
    settings_sound = c.self.invariant.0.settings_sound;
    roster_kept = c.self.invariant.0.roster_kept;
    talks_are = (turns (goal.at.invariant_of-self c).After-change).stands.talks_are;
    ordered = c.self.invariant.0.ordered;
  },
  (c.follow.ensures.timed, c.follow.ensures.linked),
)
