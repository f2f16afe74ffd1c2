use Rattle.std.proofs.Common.{map, take}
use Rattle.pick_policy.specs.Kept.{HasLeast}
use Rattle.pick_policy.specs.Ordered.{scored_under}
use Rattle.pick_policy.proofs.picker.Picker.pick_few.Given as goal

abbrev pub invariant-loop-addr : goal.invariant-loop-addr
invariant-loop-addr g l = HasLeast l.k (map (scored_under l.word) (take l.addr-index l.cands)) l.list
