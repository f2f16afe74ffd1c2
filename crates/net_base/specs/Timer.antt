-- The order in which deadlines fire.
use Rattle.std.specs.Prelude.{ℕ, Bool, ◌&&◌, ◌||◌, ◌==◌, nat_lt}
use Rattle.net_base.specs.declared.timer.Kind.{Kind}
use Rattle.net_base.specs.declared.timer.Kind.TheVariants.{Handshake, Grace, TimeWait, Reply2, Reply8, Reply10}
use Rattle.net_base.specs.declared.timer.Deadline.{Deadline}

abbrev pub kind_place : Kind → ℕ
kind_place Handshake = 0
kind_place Grace = 1
kind_place TimeWait = 2
kind_place Reply2 = 3
kind_place Reply8 = 4
kind_place Reply10 = 5

-- by the moment, then the id, then the kind
abbrev pub deadline_before : Deadline → Deadline → Bool
deadline_before a b = nat_lt a.at b.at || (a.at == b.at && (nat_lt a.cid.0 b.cid.0
    || (a.cid.0 == b.cid.0 && nat_lt (kind_place a.kind) (kind_place b.kind))))
