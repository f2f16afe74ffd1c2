use Rattle.std.proofs.Common.{◌≡◌, suc, ◌-◌, ◌/◌, drop, length, refl, subst, sym, ap, arith, ◌∙◌}
use Rattle.std.proofs.lemmas.List.{length-set, drop-set-lt}
use Rattle.least_tree.specs.Nodes.{made}
use Rattle.least_tree.proofs.Raising.{AreFrom, one_lower}
use Rattle.least_tree.proofs.node.build.Goals as goal

pub loop-node-init : goal.loop-node-init
loop-node-init c = record {
  as_long = refl;
  within = omega arith;
  leaves = refl;
  done = λ k low pos inside. absurd (omega (arith, low, inside));
}

pub loop-node-preserved : goal.loop-node-preserved
loop-node-preserved c =
    let nodes = c.loop-node.nodes in
    let k = c.loop-node.node - 1 in
    let next : suc k ≡ c.loop-node.node = omega (arith, c.loop-node-test.true) in
    let long = ap length c.renew.ensures.nodes ∙ length-set nodes k (made nodes k) in
    record {
      as_long = long ∙ c.loop-node.invariant.as_long;
      within = omega (arith, long, c.loop-node.invariant.within);
      leaves = ap (λ l. drop (length c.args.nodes.now / 2) l) c.renew.ensures.nodes
          ∙ (drop-set-lt (length c.args.nodes.now / 2) nodes k (made nodes k) (omega (arith, next, c.loop-node.invariant.within, c.loop-node.invariant.as_long))
          ∙ c.loop-node.invariant.leaves);
      done = subst (AreFrom k) (sym c.renew.ensures.nodes)
          (one_lower nodes k (omega (arith, c.loop-node-test.true)) (omega (arith, c.loop-node-test.true, c.loop-node.invariant.within))
          (subst (λ n. AreFrom n nodes) (sym next) c.loop-node.invariant.done));
    }

pub returns-clause-tree : goal.returns-clause-tree
returns-clause-tree c k low inside = c.loop-node.invariant.done k (omega (arith, c.loop-node-test.false, low)) low inside
