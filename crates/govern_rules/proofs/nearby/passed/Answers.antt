use Rattle.std.proofs.Common.{◌≡◌, ◌∷◌, subst, rules}
use Rattle.govern_rules.specs.Walks.{AreKnown}
use Rattle.govern_rules.proofs.nearby.passed.Goals as goal

pub loop-peer-preserved : goal.loop-peer-preserved
loop-peer-preserved c = λ book known.
    let front : c.loop-peer.rest.now ≡ c.in-Some.peer.now ∷ c.in-Some.after.now = search rules in
    (subst (λ run. AreKnown run book) front (c.loop-peer.invariant book known)).1
