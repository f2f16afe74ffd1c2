-- What stands for a queue, and what is always true of it.
use Rattle.std.specs.Prelude.{◌≡◌, ℕ, ◌-◌, ◌^◌, ◌<◌, ◌≤◌, false, List, [], ◌∷◌, ◌++◌, filter, map, length, replicate, Option, IfSome}
use Rattle.std.specs.List.{AllByRecursion}
use Rattle.std.specs.Vec.{vec_capacity}
use Rattle.least_tree.specs.Numbers.{none}
use Rattle.net_base.specs.declared.timer.Deadline.{Deadline}
use Rattle.timer_queue.specs.Keys.{first_moment, keys_in}
use Rattle.timer_queue.specs.Order.{IsRising}
use Rattle.timer_queue.specs.Queue.{Queue}
use Rattle.timer_queue.specs.Rows.{no_moments, timers_of}
use Rattle.timer_queue.specs.Timers.{cid_below, put_in}
use Rattle.timer_queue.specs.declared.kept.Kept.{Kept}
use Rattle.timer_queue.specs.declared.rows.Row.{Row}

abbrev pub AreRising : List Row → Type 0
AreRising rows = IsRising cid_below (λ r. r.cid) rows

-- the timers of a row
abbrev pub timers_in : Row → List Deadline
timers_in row = timers_of row.cid row.moments

abbrev pub all_timers : List Row → List Deadline
all_timers [] = []
all_timers (r ∷ rs) = timers_in r ++ all_timers rs

-- the same timers in the order in which they fire, each once
abbrev pub in_order : List Deadline → List Deadline
in_order [] = []
in_order (d ∷ ds) = put_in d (in_order ds)

-- the rows of those that have not left
abbrev pub those_in : List Row → List Row
those_in rows = filter (λ r. r.enrolled) rows

abbrev pub queue_of : Kept → Queue
queue_of kept = record { enrolled = map (λ r. r.cid) (those_in kept.rows.items); timers = in_order (all_timers kept.rows.items) }

-- whoever has left has no timers
abbrev pub IsIdle : Row → Type 0
IsIdle row = row.enrolled ≡ false → row.moments ≡ no_moments

abbrev pub AreIdle : List Row → Type 0
AreIdle rows = AllByRecursion IsIdle rows

abbrev pub IsWord : Option ℕ → Type 0
IsWord at = IfSome at (λ n. n < 2 ^ 64)

-- id and moments are words
pub record IsOfWords (row : Row) : Type 0 where
  pub id : row.cid.0 < 2 ^ 64
  pub first : IsWord (first_moment row.moments)

abbrev pub AreOfWords : List Row → Type 0
AreOfWords rows = AllByRecursion IsOfWords rows

-- their keys, and room for more
abbrev pub IsOver : List Row → List ℕ → Type 0
IsOver rows keys = keys ≡ keys_in rows ++ replicate (length keys - length rows) none

pub record IsKept (kept : Kept) : Type 0 where
  pub rise : AreRising kept.rows.items
  pub idle : AreIdle kept.rows.items
  pub words : AreOfWords kept.rows.items
  pub fit : length kept.rows.items ≤ length kept.keys
  pub memory : length kept.keys ≤ vec_capacity kept.rows
  pub keys : IsOver kept.rows.items kept.keys
