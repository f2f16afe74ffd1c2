use Rattle.std.proofs.Common.{◌≡◌, ap, sym, ◌∙◌}
use Rattle.std.proofs.lemmas.Option.{slice_get_within}
use Rattle.conn_table.specs.Rosters.{facts_kept}
use Rattle.conn_table.specs.declared.placed.Placed.{Placed}
use Rattle.net_base.specs.declared.connection.Facts.{Facts}
use Rattle.prune_order.specs.Order.{Order}
use Rattle.connections.specs.Kept.{table_of, standing}
use Rattle.connections.specs.Standing.{gone}
use Rattle.connections.specs.Talks.{entry_of}
use Rattle.connections.proofs.LinkedTurns.{goes_from, gone_linked}
use Rattle.connections.proofs.OrderTurns.{stands_still, ordered_gone}
use Rattle.connections.proofs.Stepping.{FoundIn, any_in, placed_in, talk_inside, was_there, own_in, goes}
use Rattle.connections.proofs.TalkTurns.{Any, IsGoing}
use Rattle.connections.proofs.TimedTurns.{stands_in, gone_timed}
use Rattle.connections.proofs.connections.Connections.remove.Goals.{After-place_of-place, After-remove}
use Rattle.connections.proofs.connections.Connections.remove.Goals as goal

one : (c : After-place_of-place) → FoundIn Any c.args.cid.0 c.self.inside.kept
one c = any_in c.args.cid.0 c.self.inside.kept c.self.invariant.0 (stands_in c.args.cid _ _ c.self.view_is c.requires)

-- the connection, and what was told of it
told : (c : After-remove) → (it : FoundIn Any c.args.cid.0 c.self.inside.kept) × (c.remove_at.result ≡ it.facts)
told c =
    let it = any_in c.args.cid.0 c.self.inside.kept c.self.invariant.0 (stands_in c.args.cid _ _ c.self.view_is c.requires) in (
      it,
      was_there Any c.args.cid.0 c.place_of-place.result c.self.inside.kept c.remove_at.result c.self.invariant.0 it c.place_of-place.ensures c.remove_at.ensures.was,
    )

went : (c : After-remove) → IsGoing c.args.cid.0 (standing c.self.inside.kept) (table_of c.self.inside.kept.settings c.remove_at.new.self) c.remove.new.self
went c =
    goes c.args.cid.0 c.place_of-place.result c.self.inside.kept c.remove_at.new.self c.remove.new.self c.remove_at.result c.self.invariant.0 (told c).0
    c.place_of-place.ensures (told c).1 c.remove_at.ensures.facts c.remove_at.ensures.given c.remove.ensures.items

pub remove_at-requires-clause-there : goal.remove_at-requires-clause-there
remove_at-requires-clause-there c =
    let it = any_in c.args.cid.0 c.self.inside.kept c.self.invariant.0 (stands_in c.args.cid _ _ c.self.view_is c.requires) in
    slice_get_within (facts_kept c.self.inside.kept.roster) c.place_of-place.result it.facts
    (placed_in Any c.args.cid.0 c.place_of-place.result c.self.inside.kept c.self.invariant.0 it c.place_of-place.ensures)

pub remove-requires : goal.remove-requires
remove-requires c =
    talk_inside Any c.args.cid.0 c.place_of-place.result c.self.inside.kept
    (any_in c.args.cid.0 c.self.inside.kept c.self.invariant.0 (stands_in c.args.cid _ _ c.self.view_is c.requires)) c.place_of-place.ensures

pub leave-requires : goal.leave-requires
leave-requires c =
    let it = told (goal.at.leave-requires c).After-remove in
    let placed : Placed = record { addr = c.remove_at.result.addr; cid = c.args.cid } in
    goes_from placed (standing c.self.inside.kept) c.self.inside.timers c.self.inside.links (entry_of it.0.facts it.0.talk) c.self.invariant.1.0
    c.self.invariant.1.1 it.0.at.entry_there (ap (λ (f : Facts). f.addr) (sym it.1))

pub leave-requires-3 : goal.leave-requires-3
leave-requires-3 c =
    stands_still c.args.cid c.self.inside.kept c.self.invariant.0
    (any_in c.args.cid.0 c.self.inside.kept c.self.invariant.0 (stands_in c.args.cid _ _ c.self.view_is c.requires))

pub invariant_of-self : goal.invariant_of-self
invariant_of-self c =
    let it = told (goal.at.invariant_of-self c).After-remove in
    let gone_so = went (goal.at.invariant_of-self c).After-remove in
    let placed : Placed = record { addr = c.remove_at.result.addr; cid = c.args.cid } in (
      record {
        settings_sound = c.self.invariant.0.settings_sound;
        roster_kept = c.remove_at.ensures.kept;
        talks_are = gone_so.stands.talks_are;
        ordered = ordered_gone c.args.cid c.remove_at.result.cid.0 c.self.inside.kept c.remove_at.new.self c.leave-3.new.self c.self.invariant.0
            (own_in Any c.args.cid.0 c.self.inside.kept c.remove_at.result it.0 it.1) c.remove_at.ensures.facts c.remove_at.ensures.given
            (ap (λ (o : Order). o.rows) c.leave-3.ensures) (ap (λ (o : Order). o.last) c.leave-3.ensures);
      },
      (
        gone_timed c.args.cid _ _ _ _ c.self.invariant.1.0 gone_so.goes c.leave-2.ensures.gone c.leave-2.ensures.orderly,
        gone_linked placed (standing c.self.inside.kept) _ c.self.inside.timers c.self.inside.links c.leave.new.self (entry_of it.0.facts it.0.talk)
            c.self.invariant.1.0 c.self.invariant.1.1 it.0.at.entry_there (ap (λ (f : Facts). f.addr) (sym it.1)) gone_so.goes c.leave.ensures,
      ),
    )

pub returns : goal.returns
returns c = (went (goal.at.returns c).After-remove).goes ∙ ap (gone c.args.cid.0) c.self.view_is
