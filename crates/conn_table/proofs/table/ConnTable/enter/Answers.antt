use Rattle.std.proofs.Common.{◌≡◌, ◌+◌, false, List, sym, subst, ap, ◌∙◌, arith}
use Rattle.net_base.specs.declared.connection.Facts.{Facts}
use Rattle.conn_state.specs.State.{facts_of}
use Rattle.conn_table.specs.Index.{IsRising, index_of, put_in, taken_out, stands, placed_of}
use Rattle.conn_table.specs.Rosters.{facts_kept}
use Rattle.conn_table.specs.declared.placed.Placed.{Placed}
use Rattle.conn_table.proofs.IndexFacts.{index_rises, index_of-push, next-absent, put_in-stands}
use Rattle.conn_table.proofs.PlacedOrder.{same_placed-itself}
use Rattle.conn_table.proofs.PlacedPlaces.{IsRising-put_in, taken_out-put_in}
use Rattle.conn_table.proofs.table.ConnTable.enter.Goals as goal
use Rattle.conn_table.proofs.table.ConnTable.enter.Goals.{After-insert}

rises : (c : After-insert) → IsRising c.self.inside.index
rises c =
    subst IsRising (sym c.self.invariant.indexed)
    (index_rises 0 c.self.inside.roster.given (facts_kept c.self.inside.roster) c.self.invariant.is_kept.ids_rise)

-- it is the place of the connection that comes
place : (c : After-insert) → c.placed-placed.result ≡ placed_of (facts_of c.args.state)
place c = c.placed-placed.ensures ∙ ap placed_of c.as_facts.ensures.value

next : (c : After-insert) → (facts_of c.args.state).cid.0 ≡ c.self.inside.roster.given + 1
next c = c.requires.next ∙ sym (ap (λ t. t.given + 1) c.self.view_is)

absent : (c : After-insert) → stands c.placed-placed.result c.self.inside.index ≡ false
absent c =
    let roster = c.self.inside.roster in
    ap (stands c.placed-placed.result) c.self.invariant.indexed
    ∙ next-absent c.placed-placed.result 0 roster.given (facts_kept roster) c.self.invariant.is_kept.ids_rise
    (omega (arith, ap (λ p. p.cid.0) (place c), next c))

pub insert-requires : goal.insert-requires
insert-requires c =
    subst IsRising (sym c.self.invariant.indexed)
    (index_rises 0 c.self.inside.roster.given (facts_kept c.self.inside.roster) c.self.invariant.is_kept.ids_rise)

pub remove-requires-clause-rising : goal.remove-requires-clause-rising
remove-requires-clause-rising c =
    let before = (goal.at.remove-requires-clause-rising c).After-insert in
    subst IsRising (sym c.in_ok-insert.ensures.ok) (IsRising-put_in c.placed-placed.result c.self.inside.index (rises before) (absent before))

pub remove-requires-clause-there : goal.remove-requires-clause-there
remove-requires-clause-there c =
    ap (stands c.placed-placed.result) c.in_ok-insert.ensures.ok ∙ put_in-stands c.placed-placed.result c.self.inside.index

pub invariant_of-self-in-Err : goal.invariant_of-self-in-Err
invariant_of-self-in-Err c = record {
  settings_sound = c.self.invariant.settings_sound;
  is_kept = c.enter.ensures.kept;
  indexed =
      let before = (goal.at.invariant_of-self-in-Err c).After-insert in
      let p : Placed = c.placed-placed.result in
      c.remove.ensures ∙ (ap (taken_out p) c.in_ok-insert.ensures.ok ∙ (taken_out-put_in p c.self.inside.index (same_placed-itself p) (absent before)
      ∙ (c.self.invariant.indexed ∙ ap index_of (sym c.in-Err.ensures.err))));
}

pub invariant_of-self-in-Ok : goal.invariant_of-self-in-Ok
invariant_of-self-in-Ok c = record {
  settings_sound = c.self.invariant.settings_sound;
  is_kept = c.enter.ensures.kept;
  indexed =
      let before = (goal.at.invariant_of-self-in-Ok c).After-insert in
      let roster = c.self.inside.roster in
      let fs : List Facts = facts_kept roster in
      let f : Facts = facts_of c.args.state in
      c.in_ok-insert.ensures.ok ∙ (ap (λ p. put_in p c.self.inside.index) (place before) ∙ (ap (put_in (placed_of f)) c.self.invariant.indexed
      ∙ (sym (index_of-push 0 roster.given fs f c.self.invariant.is_kept.ids_rise (next before)) ∙ ap index_of (sym c.in-Ok.ensures.ok))));
}
