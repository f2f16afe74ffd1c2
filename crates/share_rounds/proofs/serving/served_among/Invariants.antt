use Rattle.std.proofs.Common.{◌≡◌, ◌≤◌, ◌-◌, ◌++◌, not, length, take, drop}
use Rattle.std.specs.List.{filter}
use Rattle.net_base.specs.Address.{same_address}
use Rattle.share_rounds.specs.Rounds.{told_among}
use Rattle.share_rounds.proofs.serving.served_among.Given as goal

abbrev pub invariant-loop-addr : goal.invariant-loop-addr
invariant-loop-addr l = (length l.told ≤ l.most)
    × (told_among l.asker l.n l.tellable
    ≡ l.told ++ take (l.most - length l.told) (filter (λ addr. not (same_address addr l.asker)) (drop l.addr-index l.tellable)))
