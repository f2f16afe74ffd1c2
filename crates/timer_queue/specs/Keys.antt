-- A row by its first timer, as one number.
use Rattle.std.specs.Prelude.{ℕ, List, map, min, Option, Some, None}
use Rattle.net_base.specs.declared.connection.Cid.{Cid}
use Rattle.least_tree.specs.Keys.{key}
use Rattle.least_tree.specs.Numbers.{none}
use Rattle.timer_queue.specs.declared.moments.Moments.{Moments}
use Rattle.timer_queue.specs.declared.rows.Row.{Row}

abbrev pub earlier_moment : Option ℕ → Option ℕ → Option ℕ
earlier_moment None other = other
earlier_moment (Some at) None = Some at
earlier_moment (Some at) (Some other) = Some (min at other)

abbrev pub first_moment : Moments → Option ℕ
first_moment m =
    earlier_moment m.handshake (earlier_moment m.grace (earlier_moment m.time_wait
    (earlier_moment m.reply2 (earlier_moment m.reply8 m.reply10))))

-- the moment and the id of its first timer
abbrev pub key_at : Cid → Option ℕ → ℕ
key_at cid None = none
key_at cid (Some at) = key at cid.0

abbrev pub key_in : Row → ℕ
key_in row = key_at row.cid (first_moment row.moments)

abbrev pub keys_in : List Row → List ℕ
keys_in rows = map key_in rows
