use Rattle.std.proofs.Common.{map, take}
use Rattle.pick_policy.specs.Kept.{HasLeast}
use Rattle.pick_policy.specs.Ordered.{ranked_under}
use Rattle.pick_policy.proofs.ranked_picker.RankedPicker.pick_few.Given as goal

abbrev pub invariant-loop-candidate : goal.invariant-loop-candidate
invariant-loop-candidate g l = HasLeast l.k (map (ranked_under l.word) (take l.candidate-index l.cands)) l.list
