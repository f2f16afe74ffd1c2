use Rattle.std.proofs.Common.{ap, sym, ◌∙◌}
use Rattle.std.specs.List.{filter_map}
use Rattle.accept_gate.specs.Prune.{choice_of}
use Rattle.conn_table.specs.Rosters.{facts_kept}
use Rattle.connections.specs.Standing.{facts_in}
use Rattle.connections.proofs.OrderTurns.{candidates_kept}
use Rattle.connections.proofs.Stepping.{facts_are}
use Rattle.machine.specs.Connections.{candidate_of}
use Rattle.prune_order.specs.Order.{candidates}
use Rattle.connections.proofs.connections.Connections.prune_choice.Goals as goal

pub returns : goal.returns
returns c =
    let kept = c.self.inside.kept in
    c.choice.ensures
    ∙ (ap (λ rs. choice_of (candidates rs)) c.self.invariant.0.ordered.rows
    ∙ (ap choice_of (candidates_kept (facts_kept kept.roster))
    ∙ (ap (λ fs. choice_of (filter_map candidate_of fs)) (sym (facts_are kept c.self.invariant.0))
    ∙ ap (λ s. choice_of (filter_map candidate_of (facts_in s))) c.self.view_is)))
