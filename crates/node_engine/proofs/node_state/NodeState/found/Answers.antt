use Rattle.std.proofs.Common.{ap, ◌∙◌}
use Rattle.std.specs.Option.{option_map}
use Rattle.std.proofs.lemmas.Option.{IfSome_then}
use Rattle.machine.specs.Machine.{entry_at}
use Rattle.node_engine.proofs.Doings.{found_known}
use Rattle.node_engine.proofs.node_state.NodeState.found.Goals as goal

pub returns-clause-id : goal.returns-clause-id
returns-clause-id c = IfSome_then c.copied.result
    (found_known c.args.cid c.args.self.now c.copied.result (c.copied.ensures ∙ (c.facts.ensures ∙ ap (λ m. option_map (λ e. e.facts) (entry_at c.args.cid.0 m)) c.self.view_is)))
    (λ f both. both.0)

pub returns-clause-known : goal.returns-clause-known
returns-clause-known c = IfSome_then c.copied.result
    (found_known c.args.cid c.args.self.now c.copied.result (c.copied.ensures ∙ (c.facts.ensures ∙ ap (λ m. option_map (λ e. e.facts) (entry_at c.args.cid.0 m)) c.self.view_is)))
    (λ f both. both.1)
