use Rattle.std.proofs.Common.{[], ◌∷◌}
use Rattle.std.proofs.lemmas.List.Elements.{All-append, All-cons, All-nil}
use Rattle.net_base.specs.Limits.{IsWithinLimits}
use Rattle.node_world.proofs.waiting.Waiting.push.Goals as goal

pub invariant_of-self-2 : goal.invariant_of-self-2
invariant_of-self-2 c =
    rw c.in_ok-push_back.ensures.items (All-append IsWithinLimits c.self.inside.events.items (c.args.event ∷ []) c.self.invariant
    (All-cons IsWithinLimits c.args.event [] c.requires (All-nil IsWithinLimits)))
