use Rattle.std.proofs.Common.{arith, refl}
use Rattle.std.proofs.Math.Seq.{drop-length}
use Rattle.accept_gate.specs.Prune.{first_to_go}
use Rattle.accept_gate.proofs.Choices.{first_to_go-from}
use Rattle.accept_gate.proofs.prune.first_to_go.Goals as goal

pub loop-place-init : goal.loop-place-init
unfolding first_to_go
loop-place-init c = record {
  within = omega arith;
  so_far = rw (drop-length c.args.candidates.now) refl;
}

pub loop-place-preserved : goal.loop-place-preserved
loop-place-preserved c = record {
  within = omega arith;
  so_far = first_to_go-from c.args.candidates.now _ c.loop-place.place _ _ _ (omega arith) (omega arith) c.first_of.ensures c.loop-place.invariant.so_far;
}
