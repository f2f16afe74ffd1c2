use Rattle.std.proofs.Common.{◌≡◌, suc, ◌+◌, ap, arith}
use Rattle.least_tree.specs.Nodes.{doubled}
use Rattle.least_tree.proofs.Lasts.{doubled-twice}
use Rattle.least_tree.proofs.tree.size_for.Goals as goal

pub loop-size-preserved : goal.loop-size-preserved
loop-size-preserved c =
    let levels = c.loop-size.levels in
    let next : levels + 1 ≡ suc levels = omega arith in
    let same = ap (λ h. doubled h 1) next in
    record {
      power = omega (arith, c.loop-size.invariant.power, same, doubled-twice levels 1);
      bound = omega (arith, c.loop-size-test.true);
      few = omega (arith, c.loop-size.invariant.few);
    }
