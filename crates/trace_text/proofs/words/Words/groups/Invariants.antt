use Rattle.std.proofs.Common.{◌≡◌, length}
use Rattle.trace_text.specs.Events.{all_groups}
use Rattle.trace_text.proofs.GroupLists.{ahead}
use Rattle.trace_text.proofs.words.Words.groups.Given as goal

abbrev pub invariant-loop-alloc : goal.invariant-loop-alloc
invariant-loop-alloc l = all_groups l.fn.version l.fn.self ≡ ahead l.groups (all_groups l.version l.self)

abbrev pub decreases-loop-alloc : goal.decreases-loop-alloc
decreases-loop-alloc l = length l.self.words
