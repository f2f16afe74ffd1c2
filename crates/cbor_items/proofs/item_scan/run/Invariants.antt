use Rattle.std.proofs.Common.{◌+◌, ◌*◌, length}
use Rattle.cbor_items.specs.Level.{skip_open}
use Rattle.cbor_items.specs.Steps.{Goes, levels_of}
use Rattle.cbor_items.proofs.item_scan.run.Given as goal

abbrev pub invariant-loop-levels : goal.invariant-loop-levels
invariant-loop-levels l = Goes (skip_open (levels_of l.fn.levels)) l.bytes (skip_open (levels_of l.levels)) l.rest

abbrev pub decreases-loop-levels : goal.decreases-loop-levels
decreases-loop-levels l = 2 * length l.rest + length l.levels.around.items
