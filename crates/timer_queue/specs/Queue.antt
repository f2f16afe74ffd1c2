-- The queue: the connections that are enrolled, and their timers.
use Rattle.std.specs.Prelude.{◌≡◌, ℕ, Bool, true, not, List, [], ◌∷◌, ◌++◌, filter, Option, Some, None}
use Rattle.std.specs.List.{list_any}
use Rattle.net_base.specs.declared.connection.Cid.{Cid}
use Rattle.net_base.specs.declared.timer.Deadline.{Deadline}
use Rattle.net_base.specs.declared.timer.Kind.{Kind}
use Rattle.timer_queue.specs.Order.{IsRising}
use Rattle.timer_queue.specs.Timers.{same_cid, cid_below, has_timer, IsInOrder, least, due_at, without_kind, without_cid, put_in}

pub record Queue : Type 0 where
  -- rising
  pub enrolled : List Cid
  -- in the order in which they fire
  pub timers : List Deadline

abbrev pub is_enrolled : Cid → Queue → Bool
is_enrolled cid queue = list_any (λ c. same_cid c cid) queue.enrolled

-- what holds of every queue
pub record IsOrderly (queue : Queue) : Type 0 where
  pub ids_rise : IsRising cid_below (λ c. c) queue.enrolled
  pub in_order : IsInOrder queue.timers
  -- at most one moment of an id and a kind
  pub one_each : (a b : Deadline) → has_timer a queue.timers ≡ true → has_timer b queue.timers ≡ true →
      a.cid ≡ b.cid → a.kind ≡ b.kind → a ≡ b
  pub of_enrolled : (d : Deadline) → has_timer d queue.timers ≡ true → is_enrolled d.cid queue ≡ true

abbrev pub empty_queue : Queue
empty_queue = record { enrolled = []; timers = [] }

-- the ids below one, it, and the ids above it
abbrev pub with_id : Cid → List Cid → List Cid
with_id cid ids = filter (λ c. cid_below c cid) ids ++ cid ∷ filter (λ c. cid_below cid c) ids

abbrev pub with_enrolled : Cid → Queue → Queue
with_enrolled cid queue = record queue { enrolled = with_id cid queue.enrolled }

abbrev pub without_timer : Cid → Kind → Queue → Queue
without_timer cid kind queue = record queue { timers = without_kind cid kind queue.timers }

abbrev pub with_new_timer : Deadline → Queue → Queue
with_new_timer d queue = record queue { timers = put_in d queue.timers }

-- in place of the one of its id and kind
abbrev pub with_timer : Deadline → Queue → Queue
with_timer d queue = with_new_timer d (without_timer d.cid d.kind queue)

abbrev pub without_id : Cid → Queue → Queue
without_id cid queue = record queue { enrolled = filter (λ c. not (same_cid c cid)) queue.enrolled }

-- the id and all its timers are gone
abbrev pub without_connection : Cid → Queue → Queue
without_connection cid queue = without_id cid (record queue { timers = without_cid cid queue.timers })

-- ---- what fires

abbrev pub least_due : ℕ → Queue → Option Deadline
least_due now queue = least (due_at now queue.timers)

abbrev pub without_fired : Option Deadline → Queue → Queue
without_fired None queue = queue
without_fired (Some d) queue = without_timer d.cid d.kind queue

-- a timer as its moment, id and kind
abbrev pub told : Option Deadline → Option (ℕ × Cid × Kind)
told None = None
told (Some d) = Some (d.at, d.cid, d.kind)
