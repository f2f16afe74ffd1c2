use Rattle.std.proofs.Common.{List, sym, ap, ◌∙◌}
use Rattle.net_base.specs.declared.connection.Facts.{Facts}
use Rattle.conn_table.specs.Conditions.{after_step}
use Rattle.conn_table.specs.Index.{index_of}
use Rattle.conn_table.specs.Rosters.{facts_kept}
use Rattle.conn_table.proofs.IndexFacts.{index_of-moved}
use Rattle.conn_table.proofs.StateFacts.{step_keeps}
use Rattle.conn_table.proofs.table.ConnTable.turn.Goals as goal

pub invariant_of-self : goal.invariant_of-self
invariant_of-self c = record {
  settings_sound = c.self.invariant.settings_sound;
  is_kept = c.turn.ensures.kept;
  indexed =
      let fs : List Facts = facts_kept c.self.inside.roster in
      c.self.invariant.indexed
      ∙ (sym (index_of-moved c.args.cid.0 (after_step c.args.step) fs (step_keeps c.args.step)) ∙ ap index_of (sym c.turn.ensures.facts));
}
