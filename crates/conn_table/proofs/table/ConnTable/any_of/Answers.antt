use Rattle.std.proofs.Common.{◌≡◌, ◌∙◌, List, Option, Some, None, is_some, refl, ap, sym, subst}
use Rattle.std.specs.Option.{option_map}
use Rattle.net_base.specs.declared.connection.Facts.{Facts}
use Rattle.conn_table.specs.Answers.{any_at}
use Rattle.conn_table.specs.Index.{IsRising, placed_of, last_at}
use Rattle.conn_table.specs.Finds.{newest}
use Rattle.conn_table.specs.Rosters.{facts_kept}
use Rattle.conn_table.proofs.IndexFacts.{index_rises, last_at-index}
use Rattle.conn_table.proofs.Lives.{any_at-newest}
use Rattle.conn_table.proofs.table.ConnTable.any_of.Goals as goal

some_placed : (found : Option Facts) → is_some (option_map placed_of found) ≡ is_some found
some_placed None = refl
some_placed (Some f) = refl

pub last_at-requires : goal.last_at-requires
last_at-requires c =
    subst IsRising (sym c.self.invariant.indexed)
    (index_rises 0 c.self.inside.roster.given (facts_kept c.self.inside.roster) c.self.invariant.is_kept.ids_rise)

pub returns : goal.returns
returns c =
    let fs : List Facts = facts_kept c.self.inside.roster in
    c.is_some.ensures
    ∙ (ap is_some (c.last_at.ensures ∙ (ap (last_at c.args.addr) c.self.invariant.indexed
    ∙ last_at-index c.args.addr 0 c.self.inside.roster.given fs c.self.invariant.is_kept.ids_rise))
    ∙ (some_placed (newest c.args.addr fs) ∙ (sym (any_at-newest c.args.addr fs) ∙ ap (λ t. any_at c.args.addr t.facts) c.self.view_is)))
