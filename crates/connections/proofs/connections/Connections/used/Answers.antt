use Rattle.std.proofs.Common.{◌≡◌, ◌&&◌, IfSome, Some, ap, sym, subst, ◌∙◌}
use Rattle.std.specs.Option.{option_map}
use Rattle.conn_state.specs.Use.{is_live_at}
use Rattle.conn_table.specs.Finds.{newest}
use Rattle.conn_table.specs.Index.{placed_of}
use Rattle.conn_table.specs.Rosters.{facts_kept}
use Rattle.conn_table.specs.Table.{IdsRise}
use Rattle.connections.specs.Kept.{standing}
use Rattle.machine.specs.Govern.{is_used_at}
use Rattle.connections.specs.Standing.{facts_in, entry_with, used_entry, if_used}
use Rattle.connections.proofs.TalkFinds.{entry_by_id, used_at-live}
use Rattle.connections.proofs.LastLinks.{last-newest}
use Rattle.connections.proofs.TalkPairs.{facts_paired, find_paired}
use Rattle.connections.proofs.connections.Connections.used.Goals as goal

pub returns-clause-value : goal.returns-clause-value
returns-clause-value c =
    c.if_used.ensures
    ∙ (ap if_used c.live_in.ensures.value
    ∙ (sym (used_at-live c.args.addr (facts_kept c.self.inside.kept.roster) c.self.invariant.0.roster_kept.last_lives)
    ∙ (sym (find_paired (λ f. is_live_at c.args.addr f && f.local) (facts_kept c.self.inside.kept.roster) c.self.inside.kept.talks c.self.invariant.0.talks_are)
    ∙ ap (λ s. option_map (λ e. e.facts) (used_entry c.args.addr s)) c.self.view_is)))

pub returns-clause-by_id : goal.returns-clause-by_id
returns-clause-by_id c = subst (λ s. IfSome (used_entry c.args.addr s) (λ e. entry_with e.facts.cid.0 s ≡ Some e)) c.self.view_is
    (entry_by_id (is_used_at c.args.addr) 0 _ (facts_kept c.self.inside.kept.roster) c.self.inside.kept.talks
    c.self.invariant.0.roster_kept.ids_rise c.self.invariant.0.talks_are)

pub live_in-requires-clause-last : goal.live_in-requires-clause-last
live_in-requires-clause-last c =
    let kept = c.self.inside.kept in
    let paired : facts_in (standing kept) ≡ facts_kept kept.roster = facts_paired (facts_kept kept.roster) kept.talks c.self.invariant.0.talks_are in
    λ ordered.
    last-newest c.args.addr c.self.inside.links (standing kept) kept.roster.given ordered c.self.invariant.1.1
    (subst (IdsRise 0 kept.roster.given) (sym paired) c.self.invariant.0.roster_kept.ids_rise)
    ∙ ap (λ fs. option_map placed_of (newest c.args.addr fs)) paired
