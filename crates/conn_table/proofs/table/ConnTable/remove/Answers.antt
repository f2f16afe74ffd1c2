use Rattle.std.proofs.Common.{List, sym, subst, ap, ◌∙◌}
use Rattle.net_base.specs.declared.connection.Facts.{Facts}
use Rattle.conn_table.specs.Index.{IsRising, index_of, taken_out, stands, placed_of}
use Rattle.conn_table.specs.Rosters.{facts_kept}
use Rattle.conn_table.proofs.IndexFacts.{index_rises, index_stands, index_of-without}
use Rattle.conn_table.proofs.table.ConnTable.remove.Goals as goal

pub remove-requires-clause-rising : goal.remove-requires-clause-rising
remove-requires-clause-rising c =
    subst IsRising (sym c.self.invariant.indexed)
    (index_rises 0 c.self.inside.roster.given (facts_kept c.self.inside.roster) c.self.invariant.is_kept.ids_rise)

pub remove-requires-clause-there : goal.remove-requires-clause-there
remove-requires-clause-there c =
    let was : Facts = c.remove-facts.result in
    ap (λ p. stands p c.self.inside.index) c.placed.ensures
    ∙ (ap (stands (placed_of was)) c.self.invariant.indexed
    ∙ index_stands c.args.cid.0 (facts_kept c.self.inside.roster) was c.remove-facts.ensures.was)

pub invariant_of-self : goal.invariant_of-self
invariant_of-self c = record {
  settings_sound = c.self.invariant.settings_sound;
  is_kept = c.remove-facts.ensures.kept;
  indexed =
      let roster = c.self.inside.roster in
      let fs : List Facts = facts_kept roster in
      let was : Facts = c.remove-facts.result in
      c.remove.ensures ∙ (ap (λ p. taken_out p c.self.inside.index) c.placed.ensures ∙ (ap (taken_out (placed_of was)) c.self.invariant.indexed
      ∙ (sym (index_of-without c.args.cid.0 0 roster.given fs was c.self.invariant.is_kept.ids_rise c.remove-facts.ensures.was)
      ∙ ap index_of (sym c.remove-facts.ensures.facts))));
}
