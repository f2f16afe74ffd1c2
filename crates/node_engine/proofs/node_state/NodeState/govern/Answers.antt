use Rattle.std.proofs.Common.{ℕ}
use Rattle.machine.specs.Effect.{then_do, for_each}
use Rattle.machine.specs.Govern.{asks_roots, ordinary_rules, big_rules, rules}
use Rattle.node_engine.proofs.DoesLemmas.{on_ok}
use Rattle.node_engine.proofs.Doings.{does_then}
use Rattle.node_engine.proofs.RuleSteps.{ordinary-may, big-may}
use Rattle.laws.proofs.OrderNeeds.{govern-may}
use Rattle.node_engine.proofs.node_state.NodeState.govern.Goals as goal

pub follow_all-requires : goal.follow_all-requires
follow_all-requires g c =
    ordinary-may c.args.word c.args.self.now _ _ _ (govern-may c.args.word c.args.self.now c.requires.ordered c.requires.within c.requires.few_ids)
    c.in_ok-ask_roots.ensures

pub follow_all-requires-2 : goal.follow_all-requires-2
follow_all-requires-2 g c =
    big-may c.args.word c.args.self.now _ _ _ _ _ (govern-may c.args.word c.args.self.now c.requires.ordered c.requires.within c.requires.few_ids)
    c.in_ok-ask_roots.ensures c.in_ok-follow_all.ensures

pub returns : goal.returns
returns g c =
    let word : ℕ = c.args.word in
    on_ok _ _ c.follow_all-2.result
    (λ done. does_then (asks_roots c.args.self.now) (λ m. then_do (for_each rules (ordinary_rules word) m) (for_each rules (big_rules word))) _ _ _ _ _
    c.in_ok-ask_roots.ensures (does_then _ (for_each rules (big_rules word)) _ _ _ _ _ c.in_ok-follow_all.ensures done))
    c.follow_all-2.ensures
