use Rattle.std.proofs.Common.{◌≡◌, take}
use Rattle.root_groups.specs.Cleaned.{members_of}
use Rattle.peers.proofs.entering.members_of.Given as goal

abbrev pub invariant-loop-group : goal.invariant-loop-group
invariant-loop-group l = l.members.items ≡ members_of (take l.group-index l.groups)
