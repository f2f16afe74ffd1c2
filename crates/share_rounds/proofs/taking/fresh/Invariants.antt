use Rattle.std.proofs.Common.{◌≡◌, ◌≤◌, ◌-◌, [], ◌++◌, length, take, drop}
use Rattle.share_rounds.specs.Rounds.{is_new, taken_after}
use Rattle.share_rounds.proofs.taking.fresh.Given as goal

abbrev pub invariant-loop-addr : goal.invariant-loop-addr
invariant-loop-addr l = (length l.taken ≤ l.room)
    × (take l.room (taken_after [] (is_new l.own l.version l.book) l.answer)
    ≡ l.taken ++ take (l.room - length l.taken) (taken_after l.taken (is_new l.own l.version l.book) (drop l.addr-index l.answer)))
