use Rattle.std.proofs.Common.{IsSomeAnd, slice_get, sym, ap, subst, ◌∙◌}
use Rattle.std.proofs.lemmas.Option.{same_Some}
use Rattle.conn_table.specs.Conditions.{CanStep, after_step}
use Rattle.conn_table.specs.Rosters.{facts_kept}
use Rattle.connections.specs.Kept.{table_of, standing}
use Rattle.connections.specs.Ordered.{IsOrdered}
use Rattle.connections.specs.Standing.{Turns}
use Rattle.connections.specs.Steps.{stepped, unread_if}
use Rattle.connections.specs.Talks.{entry_of, standing_of}
use Rattle.connections.proofs.Follows.{HasStepped, enrolled, had, linked_there, relinked, retimed}
use Rattle.connections.proofs.OrderTurns.{moved_there, still_inside, stands_in_order, ordered_turn}
use Rattle.connections.proofs.Reading.{named}
use Rattle.connections.proofs.Stepping.{asked, said, FoundIn, found_in, placed_in, talk_inside, was_there, step_turns, still_placed, keeps_id}
use Rattle.connections.proofs.TalkFeeds.{replies_stay, still_inside as talk_still_inside}
use Rattle.connections.proofs.TalkTurns.{IsTurn}
use Rattle.connections.proofs.TimedTurns.{moved_but}
use Rattle.connections.proofs.connections.Connections.turn.Goals.{After-place_of-place, After-unread_at, After-at, After-rerank}
use Rattle.connections.proofs.connections.Connections.turn.Goals as goal

one : (c : After-place_of-place) → FoundIn (CanStep c.args.step) c.args.cid.0 c.self.inside.kept
one c = found_in (CanStep c.args.step) c.args.cid.0 c.self.inside.kept c.self.invariant.0
    (asked (λ e. CanStep c.args.step e.facts) c.args.cid.0 _ _ c.self.view_is c.requires)

turns : (c : After-unread_at) → IsTurn c.args.cid.0 (stepped c.args.step) (standing c.self.inside.kept)
    (table_of c.self.inside.kept.settings c.turn_at-was.new.self) c.unread_at.new.talks
turns c =
    let it = found_in (CanStep c.args.step) c.args.cid.0 c.self.inside.kept c.self.invariant.0
    (asked (λ e. CanStep c.args.step e.facts) c.args.cid.0 _ _ c.self.view_is c.requires) in
    step_turns c.args.step c.args.cid.0 c.place_of-place.result c.self.inside.kept c.turn_at-was.new.self c.unread_at.new.talks c.turn_at-was.result
    c.closes.result c.self.invariant.0 it c.place_of-place.ensures
    (was_there (CanStep c.args.step) c.args.cid.0 c.place_of-place.result c.self.inside.kept c.turn_at-was.result c.self.invariant.0 it c.place_of-place.ensures
    c.turn_at-was.ensures.was)
    c.turn_at-was.ensures.facts c.turn_at-was.ensures.given c.closes.ensures c.unread_at.ensures

ordered : (c : After-rerank) → IsOrdered (facts_kept c.turn_at-was.new.self) c.turn_at-was.new.self.given c.rerank.new.order
ordered c =
    let it = found_in (CanStep c.args.step) c.args.cid.0 c.self.inside.kept c.self.invariant.0
    (asked (λ e. CanStep c.args.step e.facts) c.args.cid.0 _ _ c.self.view_is c.requires) in
    ordered_turn c.args.step c.args.cid.0 c.place_of-place.result c.self.inside.kept c.turn_at-was.new.self c.rerank.new.order c.turn_at-was.result
    c.at-is.result.now c.self.invariant.0 it
    (was_there (CanStep c.args.step) c.args.cid.0 c.place_of-place.result c.self.inside.kept c.turn_at-was.result c.self.invariant.0 it c.place_of-place.ensures
    c.turn_at-was.ensures.was)
    c.turn_at-was.ensures.was c.turn_at-was.ensures.facts c.turn_at-was.ensures.given c.at-is.ensures c.rerank.ensures.rows c.rerank.ensures.last

-- the connection, before and after
has_stepped : (c : After-at) → Turns c.args.cid.0 (stepped c.args.step) (standing c.self.inside.kept)
    (standing_of (table_of c.self.inside.kept.settings c.turn_at-was.new.self) c.unread_at.new.talks) → HasStepped c.args.step c.args.cid (standing c.self.inside.kept)
    (standing_of (table_of c.self.inside.kept.settings c.turn_at-was.new.self) c.unread_at.new.talks) c.turn_at-was.result c.at-is.result.now
    c.at.result.now.replies
has_stepped c turns_so =
    let it = found_in (CanStep c.args.step) c.args.cid.0 c.self.inside.kept c.self.invariant.0
    (asked (λ e. CanStep c.args.step e.facts) c.args.cid.0 _ _ c.self.view_is c.requires) in
    record {
      before = entry_of it.facts it.talk;
      found = it.at.entry_there;
      was_is = was_there (CanStep c.args.step) c.args.cid.0 c.place_of-place.result c.self.inside.kept c.turn_at-was.result c.self.invariant.0 it
          c.place_of-place.ensures c.turn_at-was.ensures.was;
      owed_are = replies_stay c.closes.result c.self.inside.kept.talks c.unread_at.new.talks c.place_of-place.result it.talk c.at.result.now
          (ap (slice_get c.self.inside.kept.talks) c.place_of-place.ensures ∙ it.at.talk_there) c.unread_at.ensures c.at.ensures;
      moved = same_Some c.at-is.result.now (after_step c.args.step c.turn_at-was.result) (sym c.at-is.ensures
          ∙ moved_there c.args.step c.place_of-place.result c.turn_at-was.result c.self.inside.kept.roster c.turn_at-was.new.self c.turn_at-was.ensures.was
          c.turn_at-was.ensures.facts);
      turns = turns_so;
    }

pub at-is-requires : goal.at-is-requires
at-is-requires c =
    still_inside c.args.step c.place_of-place.result c.turn_at-was.result c.self.inside.kept.roster c.turn_at-was.new.self c.turn_at-was.ensures.was
    c.turn_at-was.ensures.facts

pub at-requires : goal.at-requires
at-requires c =
    talk_still_inside (unread_if c.closes.result) c.self.inside.kept.talks c.unread_at.new.talks c.place_of-place.result
    (talk_inside (CanStep c.args.step) c.args.cid.0 c.place_of-place.result c.self.inside.kept (one (goal.at.at-requires c).After-place_of-place)
    c.place_of-place.ensures) c.unread_at.ensures

pub rerank-requires : goal.rerank-requires
rerank-requires c =
    let it = one (goal.at.rerank-requires c).After-place_of-place in
    stands_in_order (CanStep c.args.step) c.args.cid.0 c.self.inside.kept c.turn_at-was.result c.self.invariant.0 it
    (was_there (CanStep c.args.step) c.args.cid.0 c.place_of-place.result c.self.inside.kept c.turn_at-was.result c.self.invariant.0 it c.place_of-place.ensures
    c.turn_at-was.ensures.was)

pub turn_at-was-requires-clause-can : goal.turn_at-was-requires-clause-can
turn_at-was-requires-clause-can c =
    let it = one (goal.at.turn_at-was-requires-clause-can c).After-place_of-place in
    subst (λ o. IsSomeAnd o (CanStep c.args.step))
    (sym (placed_in (CanStep c.args.step) c.args.cid.0 c.place_of-place.result c.self.inside.kept c.self.invariant.0 it c.place_of-place.ensures)) it.holds

pub unread_at-requires : goal.unread_at-requires
unread_at-requires c =
    talk_inside (CanStep c.args.step) c.args.cid.0 c.place_of-place.result c.self.inside.kept (one (goal.at.unread_at-requires c).After-place_of-place)
    c.place_of-place.ensures

pub retime_by-requires-clause-enrolled : goal.retime_by-requires-clause-enrolled
retime_by-requires-clause-enrolled c =
    enrolled _ _ _ _ _ _ _ (has_stepped (goal.at.retime_by-requires-clause-enrolled c).After-at (turns (goal.at.retime_by-requires-clause-enrolled c).After-unread_at).turns) _ c.self.invariant.1.0

pub retime_by-requires-clause-orderly : goal.retime_by-requires-clause-orderly
retime_by-requires-clause-orderly c = c.self.invariant.1.0.orderly

pub retime_by-requires-clause-moved : goal.retime_by-requires-clause-moved
retime_by-requires-clause-moved c = (has_stepped (goal.at.retime_by-requires-clause-moved c).After-at (turns (goal.at.retime_by-requires-clause-moved c).After-unread_at).turns).moved

pub retime_by-requires-clause-timed : goal.retime_by-requires-clause-timed
retime_by-requires-clause-timed c =
    had _ _ _ _ _ _ _ (has_stepped (goal.at.retime_by-requires-clause-timed c).After-at (turns (goal.at.retime_by-requires-clause-timed c).After-unread_at).turns) _ c.self.invariant.1.0

pub relink-requires : goal.relink-requires
relink-requires c =
    linked_there _ _ _ _ _ _ _ (has_stepped (goal.at.relink-requires c).After-at (turns (goal.at.relink-requires c).After-unread_at).turns) _ _ c.self.invariant.1.0 c.self.invariant.1.1

pub returns-clause-turns : goal.returns-clause-turns
returns-clause-turns c = said c.args.cid.0 (stepped c.args.step) _ _ _ c.self.view_is (turns (goal.at.returns-clause-turns c).After-unread_at).turns

pub returns-clause-name : goal.returns-clause-name
returns-clause-name c =
    named c.args.cid c.place_of-place.result
    record {
      settings = c.self.inside.kept.settings;
      roster = c.turn_at-was.new.self;
      talks = c.unread_at.new.talks;
      order = c.rerank.new.order;
    }
    c.at-is.result.now c.name_of.result
    record {
      settings_sound = c.self.invariant.0.settings_sound;
      roster_kept = c.turn_at-was.ensures.kept;
      talks_are = (turns (goal.at.returns-clause-name c).After-unread_at).stands.talks_are;
      ordered = ordered (goal.at.returns-clause-name c).After-rerank;
    }
    (moved_but c.args.cid _ (stepped c.args.step) _ _ _ _ c.self.invariant.1.0 c.self.view_is
    c.requires (λ e. keeps_id c.args.step e.facts) (turns (goal.at.returns-clause-name c).After-unread_at).turns).stands
    (still_placed c.args.step c.args.cid.0 c.place_of-place.result c.turn_at-was.result.cid.0 c.self.inside.kept c.turn_at-was.new.self
    c.place_of-place.ensures c.turn_at-was.ensures.facts)
    c.at-is.ensures c.name_of.ensures

pub invariant_of-self : goal.invariant_of-self
invariant_of-self c =
    let h = has_stepped (goal.at.invariant_of-self c).After-at (turns (goal.at.invariant_of-self c).After-unread_at).turns in (
      record {
        settings_sound = c.self.invariant.0.settings_sound;
        roster_kept = c.turn_at-was.ensures.kept;
        talks_are = (turns (goal.at.invariant_of-self c).After-unread_at).stands.talks_are;
        ordered = ordered (goal.at.invariant_of-self c).After-rerank;
      },
      (
        retimed _ _ _ _ _ _ _ h _ _ c.self.invariant.1.0 c.retime_by.ensures.enrolled c.retime_by.ensures.timers c.retime_by.ensures.orderly,
        relinked _ _ _ _ _ _ _ h _ _ _ c.self.invariant.1.0 c.self.invariant.1.1 c.relink.ensures,
      ),
    )
