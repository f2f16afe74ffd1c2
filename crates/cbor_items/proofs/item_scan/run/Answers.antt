use Rattle.std.proofs.Common.{refl}
use Rattle.cbor_items.specs.Level.{skip_open}
use Rattle.cbor_items.specs.Steps.{levels_of}
use Rattle.cbor_items.proofs.Resumes.{goes_nowhere, goes_then}
use Rattle.cbor_items.proofs.item_scan.run.Goals as goal

pub loop-levels-init : goal.loop-levels-init
loop-levels-init c = goes_nowhere _ _ c.args.bytes.now (λ b. refl)

pub loop-levels-preserved : goal.loop-levels-preserved
loop-levels-preserved c =
    goes_then (skip_open (levels_of c.args.levels.now)) (skip_open (levels_of c.loop-levels.levels)) (skip_open (levels_of c.step.new.levels))
    c.args.bytes.now c.loop-levels.rest.now c.in-Ok.after.now c.loop-levels.invariant c.in-Ok.ensures.step
