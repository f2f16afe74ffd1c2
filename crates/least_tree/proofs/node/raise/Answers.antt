use Rattle.std.proofs.Common.{◌≡◌, ◌/◌, drop, length, refl, subst, sym, ap, arith, ◌∙◌}
use Rattle.std.proofs.lemmas.List.{length-set, drop-set-lt}
use Rattle.least_tree.specs.Nodes.{made, AreOthers, IsTree}
use Rattle.least_tree.proofs.Raising.{stepped, stayed, all_above}
use Rattle.least_tree.proofs.node.raise.Goals as goal

pub loop-node-init : goal.loop-node-init
loop-node-init c = record {
  as_long = refl;
  within = c.requires.inside;
  leaves = refl;
  others = c.requires.others;
}

pub returns-then-not-renew-clause-tree : goal.returns-then-not-renew-clause-tree
returns-then-not-renew-clause-tree c =
    let nodes = c.loop-node.nodes in
    let same : c.renew.new.nodes ≡ nodes = c.renew.ensures.same c.if-not-renew.true in
    subst IsTree (sym same)
    (stayed nodes c.loop-node.node (omega (arith, c.loop-node-test.true)) c.loop-node.invariant.within c.loop-node.invariant.others
    (sym c.renew.ensures.nodes ∙ same))

pub loop-node-preserved : goal.loop-node-preserved
loop-node-preserved c =
    let nodes = c.loop-node.nodes in
    let k = c.loop-node.node in
    let long = ap length c.renew.ensures.nodes ∙ length-set nodes k (made nodes k) in
    record {
      as_long = long ∙ c.loop-node.invariant.as_long;
      within = omega (arith, long, c.loop-node.invariant.within, c.loop-node-test.true);
      leaves = ap (λ l. drop (length c.args.nodes.now / 2) l) c.renew.ensures.nodes
          ∙ (drop-set-lt (length c.args.nodes.now / 2) nodes k (made nodes k) (omega (arith, c.loop-node.invariant.within, c.loop-node.invariant.as_long))
          ∙ c.loop-node.invariant.leaves);
      others = subst (AreOthers (k / 2)) (sym c.renew.ensures.nodes)
          (stepped nodes k (omega (arith, c.loop-node-test.true)) c.loop-node.invariant.within c.loop-node.invariant.others);
    }

pub returns-clause-tree : goal.returns-clause-tree
returns-clause-tree c =
    let nodes = c.loop-node.nodes in
    let top : c.loop-node.node ≡ 0 = omega (arith, c.loop-node-test.false) in
    all_above nodes (subst (λ n. AreOthers n nodes) top c.loop-node.invariant.others)
