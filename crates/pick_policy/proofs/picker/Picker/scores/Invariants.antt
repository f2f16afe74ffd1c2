use Rattle.std.proofs.Common.{◌≡◌, map, take}
use Rattle.pick_policy.specs.Ordered.{scored_under}
use Rattle.pick_policy.proofs.picker.Picker.scores.Given as goal

abbrev pub invariant-loop-addr : goal.invariant-loop-addr
invariant-loop-addr g l = l.scored.items ≡ map (scored_under l.word) (take l.addr-index l.cands)
