-- What an operator sets, and what the providers of peers say.
use Rattle.std.specs.Prelude.{Bool, true, false, ◌&&◌, not, nat_lt, List, [], if◌then◌else◌, is_some}
use Rattle.churn_clock.specs.Windows.{effective_big_of}
use Rattle.net_base.specs.Address.{same_address}
use Rattle.net_base.specs.declared.address.Addr.{Addr}
use Rattle.net_base.specs.declared.event.Group.{Group}
use Rattle.net_base.specs.declared.event.Job.{Job}
use Rattle.net_base.specs.declared.event.RootAnswer.{RootAnswer}
use Rattle.net_base.specs.declared.event.RootAnswer.TheVariants.{Found, Failed}
use Rattle.net_base.specs.declared.targets.BigTargets.{BigTargets}
use Rattle.net_base.specs.declared.targets.Targets.{Targets}
use Rattle.peer_book.specs.Book.{known_of}
use Rattle.root_groups.specs.Cleaned.{cleaned, members_of, group_of}
use Rattle.root_groups.specs.RootAsk.{awaits, publics_of, found, failed}
use Rattle.machine.specs.Machine.{Machine}
use Rattle.machine.specs.Effect.{Effect, shared, tells, nothing_more, then_do, as_move, for_each}
use Rattle.machine.specs.Peers.{peer_at, peer_comes, peer_is_ordinary}

-- ---- targets

abbrev pub targets_are : Targets → Machine → Effect
targets_are targets m = tells [] (record m { targets = targets })

abbrev pub big_targets_are : BigTargets → Machine → Effect
big_targets_are targets m = tells [] (record m { big_targets = targets })

-- ---- local root peers

-- an ordinary peer comes into the book
abbrev pub comes_ordinary : Addr → Machine → Effect
comes_ordinary addr m = peer_comes false addr m

-- The groups are set. Each member is an ordinary peer of the book.
abbrev pub locals_are : List Group → Machine → Effect
locals_are groups m =
    let kept = cleaned m.settings.own groups in
    then_do (for_each peer_is_ordinary (members_of kept) (record m { groups = kept }))
    (for_each comes_ordinary (members_of kept))

-- ---- big ledger peers

-- neither the own address, nor in the book, nor a member of a group, and fewer big ledger peers are known than wanted
abbrev pub is_wanted_big : Addr → Machine → Bool
is_wanted_big addr m =
    not (same_address addr m.settings.own)
    && not (is_some (peer_at addr m))
    && not (is_some (group_of addr m.groups))
    && nat_lt (known_of true m.peers) (effective_big_of m.big_targets m.now).known

-- It is a move also where the book is full and takes nothing.
abbrev pub comes_big : Addr → Machine → Effect
comes_big addr m =
    if is_wanted_big addr m then as_move (shared addr) m (peer_comes true addr m) else nothing_more m

abbrev pub bigs_are : List Addr → Machine → Effect
bigs_are addrs m = for_each comes_big addrs m

-- ---- public root peers

abbrev pub roots_say : RootAnswer → Machine → Effect
roots_say (Found ttl addrs) m =
    let publics = publics_of m.settings.own m.targets.root addrs in
    for_each comes_ordinary publics (record m { roots = found m.now ttl publics m.roots })
roots_say Failed m = tells [] (record m { roots = failed m.now m.settings.backoff m.roots })

-- An answer counts only where its question is pending.
abbrev pub roots_answer : Job → RootAnswer → Machine → Effect
roots_answer job answer m = if awaits job.0 m.roots then roots_say answer m else nothing_more m
