use Rattle.std.proofs.Common.{◌≡◌, map, take}
use Rattle.pick_policy.specs.Ordered.{ranked_under}
use Rattle.pick_policy.proofs.ranked_picker.RankedPicker.scores.Given as goal

abbrev pub invariant-loop-rated : goal.invariant-loop-rated
invariant-loop-rated g l = l.scored.items ≡ map (ranked_under l.word) (take l.rated-index l.cands)
