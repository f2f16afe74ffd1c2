use Rattle.std.proofs.Common.{◌≡◌, ℕ, ◌-◌, ◌<◌, ◌≤◌, List, drop, subst, sym, ap, arith, ◌∙◌}
use Rattle.least_tree.specs.Nodes.{at, IsLastLeaf}
use Rattle.least_tree.specs.Numbers.{none, least_of, IsLastLeast}
use Rattle.least_tree.proofs.Lasts.{last_in}
use Rattle.least_tree.proofs.Roots.{root_when_some, some_nodes}
use Rattle.least_tree.proofs.Sums.{least-bound}
use Rattle.least_tree.proofs.tree.LeastTree.last_least.Goals.{After-deref}
use Rattle.least_tree.proofs.tree.LeastTree.last_least.Goals as goal

-- the root has the least number, which is one
abbrev row : After-deref → List ℕ
row c = drop c.self.inside.size c.self.inside.nodes.items

number : (c : After-deref) → (c.least-least.result ≡ least_of (row c)) × (least_of (row c) < none)
number c =
    let is : c.least-least.result ≡ least_of (row c) = c.least-least.ensures ∙ ap least_of (sym c.self.view_is) in
    (is, omega (arith, is, c.if-least.false, least-bound (row c)))

root : (c : After-deref) → (1 ≤ c.self.inside.size) × (at c.self.inside.nodes.items 1 ≡ least_of (row c))
root c =
    let some = some_nodes c.self.inside.size c.self.inside.nodes.items c.self.invariant.even c.self.invariant.tree (number c).1 in
    (some, root_when_some c.self.inside.size c.self.inside.nodes.items c.self.invariant.even c.self.invariant.tree some (number c).1)

pub last_with-requires-clause-least : goal.last_with-requires-clause-least
last_with-requires-clause-least c = (number c).0 ∙ (sym (root c).1 ∙ ap (λ l. at l 1) (sym c.deref.ensures.value))

pub returns-clause-last : goal.returns-clause-last
returns-clause-last c =
    let size : ℕ = c.self.inside.size in
    let leaf : ℕ = c.last_with.result in
    let power = c.self.invariant.power (root c.before).0 in
    let last = subst (λ l. IsLastLeaf size l leaf) c.deref.ensures.value (subst (λ n. IsLastLeaf n c.deref.result.now leaf) (sym power) c.last_with.ensures) in
    subst (λ l. IsLastLeast l (leaf - size)) c.self.view_is
    (last_in size leaf c.self.inside.nodes.items c.self.invariant.even last (root c.before).1 (number c.before).1)
