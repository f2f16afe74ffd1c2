use Rattle.std.proofs.Common.{◌≡◌, ℕ, ◌≤◌, List, length, get_or, ap, arith, ◌∙◌}
use Rattle.least_tree.specs.Numbers.{none, least_of}
use Rattle.least_tree.proofs.Roots.{root_is}
use Rattle.least_tree.proofs.tree.LeastTree.least.Goals as goal

pub returns-in-Some : goal.returns-in-Some
returns-in-Some c =
    let nodes : List ℕ = c.self.inside.nodes.items in
    let here : c.in-Some.least.now ≡ get_or nodes 1 0 =
    c.in-Some.ensures.lookup.3.1 0 ∙ ap (λ l. get_or l 1 0) c.as_slice-nodes.ensures.value in
    let fits : c.in-Some.least.now ≤ none = omega arith in
    here
    ∙ (root_is c.self.inside.size nodes c.self.invariant.even c.self.invariant.tree (omega (arith, c.in-Some.ensures.lookup.3.0, ap length c.as_slice-nodes.ensures.value, c.self.invariant.even)) (omega (arith, fits, here))
    ∙ ap least_of c.self.view_is)
