use Rattle.std.proofs.Common.{ap, sym, ◌∙◌}
use Rattle.std.specs.Option.{option_map}
use Rattle.std.proofs.lemmas.Option.{IfSome_then}
use Rattle.machine.specs.Machine.{entry_at}
use Rattle.connections.specs.Standing.{entry_with}
use Rattle.node_engine.specs.State.{machine_of}
use Rattle.node_engine.proofs.Doings.{found_known}
use Rattle.node_engine.proofs.node_state.NodeState.look_up.Goals as goal

pub returns-clause-id : goal.returns-clause-id
returns-clause-id c = IfSome_then c.look_up.result
    (found_known c.args.cid c.args.self.now c.look_up.result (c.look_up.ensures.found ∙ ap (λ m. option_map (λ e. e.facts) (entry_at c.args.cid.0 m)) c.self.view_is))
    (λ f both. both.0)

pub returns-clause-known : goal.returns-clause-known
returns-clause-known c = IfSome_then c.look_up.result
    (found_known c.args.cid (machine_of c.self.inside.moment c.self.inside.peers c.look_up.new.self) c.look_up.result
    (c.look_up.ensures.found ∙ ap (λ s. option_map (λ e. e.facts) (entry_with c.args.cid.0 s)) (sym c.look_up.ensures.same)))
    (λ f both. both.1)
