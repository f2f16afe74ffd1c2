use Rattle.std.proofs.Common.{◌≡◌, ◌≢◌, suc, ◌+◌, ◌-◌, ◌*◌, ◌<◌, length, refl, subst, sym, arith, rules, ◌∙◌}
use Rattle.least_tree.specs.Nodes.{at, doubled}
use Rattle.least_tree.proofs.Lasts.{Has, at_root, at_leaf, inside_right, to_left, to_right}
use Rattle.least_tree.proofs.node.last_with.Goals.{then-nodes-right, else-nodes-right}
use Rattle.least_tree.proofs.node.last_with.Goals as goal

pub loop-left-init : goal.loop-left-init
loop-left-init c = at_root (doubled c.args.levels 1) c.args.nodes.now c.args.levels refl

pub overflow_mul-right : goal.overflow_mul-right
overflow_mul-right c =
    let next : c.loop-left.left ≡ suc (c.loop-left.left - 1) = omega (arith, c.loop-left-test.true) in
    let inside = inside_right (doubled c.args.levels 1) c.args.nodes.now c.requires.size c.requires.tree (c.loop-left.left - 1) c.loop-left.node
    (subst (λ h. Has (doubled c.args.levels 1) c.args.nodes.now h c.loop-left.node) next c.loop-left.invariant) in
    search (rules, inside)

pub overflow_add-right : goal.overflow_add-right
overflow_add-right c =
    let next : c.loop-left.left ≡ suc (c.loop-left.left - 1) = omega (arith, c.loop-left-test.true) in
    let inside = inside_right (doubled c.args.levels 1) c.args.nodes.now c.requires.size c.requires.tree (c.loop-left.left - 1) c.loop-left.node
    (subst (λ h. Has (doubled c.args.levels 1) c.args.nodes.now h c.loop-left.node) next c.loop-left.invariant) in
    search (rules, inside)

pub offset_bounds-nodes-right : goal.offset_bounds-nodes-right
offset_bounds-nodes-right c =
    let next : c.loop-left.left ≡ suc (c.loop-left.left - 1) = omega (arith, c.loop-left-test.true) in
    let inside = inside_right (doubled c.args.levels 1) c.args.nodes.now c.requires.size c.requires.tree (c.loop-left.left - 1) c.loop-left.node
    (subst (λ h. Has (doubled c.args.levels 1) c.args.nodes.now h c.loop-left.node) next c.loop-left.invariant) in
    search (rules, inside)

pub bounds-nodes-right : goal.bounds-nodes-right
bounds-nodes-right c =
    let next : c.loop-left.left ≡ suc (c.loop-left.left - 1) = omega (arith, c.loop-left-test.true) in
    inside_right (doubled c.args.levels 1) c.args.nodes.now c.requires.size c.requires.tree (c.loop-left.left - 1) c.loop-left.node
    (subst (λ h. Has (doubled c.args.levels 1) c.args.nodes.now h c.loop-left.node) next c.loop-left.invariant)

pub loop-left-preserved : goal.loop-left-preserved
loop-left-preserved c =
    let size = doubled c.args.levels 1 in
    let nodes = c.args.nodes.now in
    let next : c.loop-left.left ≡ suc (c.loop-left.left - 1) = omega (arith, c.loop-left-test.true) in
    let has = subst (λ h. Has size nodes h c.loop-left.node) next c.loop-left.invariant in
    elim c.if-nodes-right.branch [
      | then-nodes-right w ↦ subst (Has size nodes (c.loop-left.left - 1)) (sym w.node-is)
          (to_right size nodes c.requires.size c.requires.tree (c.loop-left.left - 1) c.loop-left.node has (w.if-nodes-right.true ∙ c.requires.least))
      | else-nodes-right w ↦ subst (Has size nodes (c.loop-left.left - 1)) (sym w.node-is)
          (to_left size nodes c.requires.size c.requires.tree (c.loop-left.left - 1) c.loop-left.node has (λ e. w.if-nodes-right.false (e ∙ sym c.requires.least)))
    ]

pub returns : goal.returns
returns c =
    let size = doubled c.args.levels 1 in
    let none : c.loop-left.left ≡ 0 = omega (arith, c.loop-left-test.false) in
    at_leaf size c.args.nodes.now c.loop-left.node (subst (λ h. Has size c.args.nodes.now h c.loop-left.node) none c.loop-left.invariant)
