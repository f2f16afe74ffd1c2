use Rattle.std.proofs.Common.{IfSome, slice_get, refl, sym, ap, subst, ◌∙◌}
use Rattle.std.proofs.lemmas.Option.{get_or_from_slice_get}
use Rattle.std.proofs.lemmas.Result.{IfOk-weaker, on_ok_weaker, on_err_weaker}
use Rattle.mux_segment.specs.Protocols.{node_limits}
use Rattle.mux_segment.specs.Stream.{nothing_fed, fed_by}
use Rattle.connections.specs.Kept.{table_of, standing}
use Rattle.connections.specs.Standing.{entry_with, fed_entry, fed_of, unread}
use Rattle.connections.specs.Talks.{GoesOn, IsFed, TurnsAt, with_cutter, fed_talk}
use Rattle.connections.proofs.LinkedTurns.{linked_same}
use Rattle.connections.proofs.Stepping.{looked_at, said, any_in, talk_inside, talk_turns}
use Rattle.connections.proofs.TalkFeeds.{IsFedAt, fed_at, fed_entry-talk, fed_of-talk, in_either}
use Rattle.connections.proofs.TalkTurns.{Any, talk_at, IsTurn}
use Rattle.connections.proofs.TimedTurns.{stands_in, turned_same}
use Rattle.connections.proofs.connections.Connections.feed.Goals.{After-change}
use Rattle.connections.proofs.connections.Connections.feed.Goals as goal

pub change-requires-clause-inside : goal.change-requires-clause-inside
change-requires-clause-inside c =
    talk_inside Any c.args.cid.0 c.place_of-place.result c.self.inside.kept
    (any_in c.args.cid.0 c.self.inside.kept c.self.invariant.0 (stands_in c.args.cid _ _ c.self.view_is c.requires)) c.place_of-place.ensures

pub change-requires-clause-may : goal.change-requires-clause-may
change-requires-clause-may c = λ d.
    let it = any_in c.args.cid.0 c.self.inside.kept c.self.invariant.0 (stands_in c.args.cid _ _ c.self.view_is c.requires) in
    subst GoesOn
    (sym (get_or_from_slice_get c.self.inside.kept.talks c.place_of-place.result it.talk d
    (ap (slice_get c.self.inside.kept.talks) c.place_of-place.ensures ∙ it.at.talk_there))) it.at.belongs

given : (c : After-change) → IsFedAt c.args.bytes.now c.change.result c.self.inside.kept.talks c.change.new.self c.place_of-place.result
given c =
    fed_at c.args.bytes.now c.change.result c.self.inside.kept.talks c.change.new.self c.place_of-place.result
    (talk_inside Any c.args.cid.0 c.place_of-place.result c.self.inside.kept
    (any_in c.args.cid.0 c.self.inside.kept c.self.invariant.0 (stands_in c.args.cid _ _ c.self.view_is c.requires)) c.place_of-place.ensures)
    c.change.ensures

fed : (c : After-change) → TurnsAt c.place_of-place.result (fed_talk c.args.bytes.now) c.self.inside.kept.talks c.change.new.self →
    IsTurn c.args.cid.0 (fed_entry c.args.bytes.now) (standing c.self.inside.kept) (table_of c.self.inside.kept.settings c.self.inside.kept.roster)
    c.change.new.self
fed c h =
    let it = any_in c.args.cid.0 c.self.inside.kept c.self.invariant.0 (stands_in c.args.cid _ _ c.self.view_is c.requires) in
    talk_turns c.args.cid.0 c.place_of-place.result (fed_entry c.args.bytes.now) (fed_talk c.args.bytes.now) c.self.inside.kept c.change.new.self
    c.self.invariant.0 it c.place_of-place.ensures h (fed_entry-talk c.args.bytes.now it.facts it.talk it.at.belongs) refl

-- where memory is refused, the connection is still there
emptied : (c : After-change) → TurnsAt c.place_of-place.result (with_cutter nothing_fed) c.self.inside.kept.talks c.change.new.self →
    IsTurn c.args.cid.0 unread (standing c.self.inside.kept) (table_of c.self.inside.kept.settings c.self.inside.kept.roster) c.change.new.self
emptied c h =
    let it = any_in c.args.cid.0 c.self.inside.kept c.self.invariant.0 (stands_in c.args.cid _ _ c.self.view_is c.requires) in
    talk_turns c.args.cid.0 c.place_of-place.result unread (with_cutter nothing_fed) c.self.inside.kept c.change.new.self
    c.self.invariant.0 it c.place_of-place.ensures h refl refl

pub invariant_of-self : goal.invariant_of-self
invariant_of-self c =
    let d : After-change = (goal.at.invariant_of-self c).After-change in
    let there = stands_in c.args.cid _ _ c.self.view_is c.requires in
    in_either _ _ _ d.change.result (given d).ok (given d).err
    (λ h. (
      record {
        settings_sound = c.self.invariant.0.settings_sound;
        roster_kept = looked_at c.self.inside.kept.roster c.args.cid c.place_of-place.result c.place_of-place.ensures c.self.invariant.0.roster_kept;
        talks_are = (fed d h).stands.talks_are;
        ordered = c.self.invariant.0.ordered;
      },
      (
        turned_same c.args.cid (fed_entry c.args.bytes.now) _ _ _ c.self.invariant.1.0 there (λ e. refl) (λ e. refl) (fed d h).turns,
        linked_same c.args.cid (fed_entry c.args.bytes.now) _ _ _ _ c.self.invariant.1.0 c.self.invariant.1.1 there (λ e. refl) (fed d h).turns,
      ),
    ))
    (λ h. (
      record {
        settings_sound = c.self.invariant.0.settings_sound;
        roster_kept = looked_at c.self.inside.kept.roster c.args.cid c.place_of-place.result c.place_of-place.ensures c.self.invariant.0.roster_kept;
        talks_are = (emptied d h).stands.talks_are;
        ordered = c.self.invariant.0.ordered;
      },
      (
        turned_same c.args.cid unread _ _ _ c.self.invariant.1.0 there (λ e. refl) (λ e. refl) (emptied d h).turns,
        linked_same c.args.cid unread _ _ _ _ c.self.invariant.1.0 c.self.invariant.1.1 there (λ e. refl) (emptied d h).turns,
      ),
    ))

pub returns-clause-turns : goal.returns-clause-turns
returns-clause-turns c =
    let d : After-change = (goal.at.returns-clause-turns c).After-change in
    on_ok_weaker d.change.result (λ h. said c.args.cid.0 (fed_entry c.args.bytes.now) _ _ _ c.self.view_is (fed d h).turns) (given d).ok

pub returns-clause-err : goal.returns-clause-err
returns-clause-err c =
    let d : After-change = (goal.at.returns-clause-err c).After-change in
    on_err_weaker d.change.result (λ h. said c.args.cid.0 unread _ _ _ c.self.view_is (emptied d h).turns) (given d).err

pub returns-clause-gives : goal.returns-clause-gives
returns-clause-gives c =
    let d : After-change = (goal.at.returns-clause-gives c).After-change in
    let it = any_in d.args.cid.0 d.self.inside.kept d.self.invariant.0 (stands_in d.args.cid _ _ d.self.view_is d.requires) in
    IfOk-weaker d.change.result _ _ (λ given h.
    subst (λ s. IfSome (entry_with d.args.cid.0 s) (λ e. IsFed (fed_of d.args.bytes.now e) given)) d.self.view_is
    (subst (λ o. IfSome o (λ e. IsFed (fed_of d.args.bytes.now e) given)) (sym it.at.entry_there)
    (subst (λ x. IsFed x given) (fed_of-talk d.args.bytes.now it.facts it.talk it.at.belongs)
    (talk_at (λ t. IsFed (fed_by node_limits t.cutter d.args.bytes.now) given) _ _ _ _ it.facts it.talk d.place_of-place.ensures it.at h))))
    (given d).gives
