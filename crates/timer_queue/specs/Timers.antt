-- Lists of timers. A timer is a deadline: a moment, of an id and a kind.
use Rattle.std.specs.Prelude.{◌≡◌, ℕ, Bool, true, false, ◌&&◌, ◌==◌, not, nat_lt, nat_le, List, [], ◌∷◌, ◌++◌, filter, Option, Some, None, if◌then◌else◌}
use Rattle.std.specs.List.{list_any}
use Rattle.net_base.specs.Timer.{kind_place, deadline_before}
use Rattle.net_base.specs.declared.connection.Cid.{Cid}
use Rattle.net_base.specs.declared.timer.Deadline.{Deadline}
use Rattle.net_base.specs.declared.timer.Kind.{Kind}
use Rattle.timer_queue.specs.Order.{IsRising}

abbrev pub timer : Cid → Kind → ℕ → Deadline
timer cid kind at = record { at = at; cid = cid; kind = kind }

abbrev pub same_cid : Cid → Cid → Bool
same_cid a b = a.0 == b.0

abbrev pub cid_below : Cid → Cid → Bool
cid_below a b = nat_lt a.0 b.0

abbrev pub same_kind : Kind → Kind → Bool
same_kind a b = kind_place a == kind_place b

abbrev pub same_timer : Deadline → Deadline → Bool
same_timer a b = a.at == b.at && (same_cid a.cid b.cid && same_kind a.kind b.kind)

-- ---- what a list has

abbrev pub has_timer : Deadline → List Deadline → Bool
has_timer d timers = list_any (λ e. same_timer e d) timers

-- two lists of the same timers, in whatever order
abbrev pub HaveSame : List Deadline → List Deadline → Type 0
HaveSame xs ys = (d : Deadline) → has_timer d xs ≡ has_timer d ys

-- in the order in which they fire, none twice
abbrev pub IsInOrder : List Deadline → Type 0
IsInOrder = IsRising deadline_before (λ d. d)

-- ---- which comes first

-- the one of two that fires first
abbrev pub earlier : Deadline → Option Deadline → Deadline
earlier d None = d
earlier d (Some e) = if deadline_before e d then e else d

-- the timer that no other one is before, whatever the order of the list
abbrev pub least : List Deadline → Option Deadline
least [] = None
least (d ∷ ds) = Some (earlier d (least ds))

-- a timer of a list that no other one is before
pub record IsLeast (timers : List Deadline) (d : Deadline) : Type 0 where
  pub among : has_timer d timers ≡ true
  pub first : (e : Deadline) → has_timer e timers ≡ true → deadline_before e d ≡ false

-- a timer, where it is at most a moment
abbrev pub where_due : ℕ → Option Deadline → Option Deadline
where_due now None = None
where_due now (Some d) = if nat_le d.at now then Some d else None

-- the timers that are at most a moment
abbrev pub due_at : ℕ → List Deadline → List Deadline
due_at now timers = filter (λ d. nat_le d.at now) timers

-- ---- changes

abbrev pub is_of : Cid → Deadline → Bool
is_of cid d = same_cid d.cid cid

abbrev pub is_timer_of : Cid → Kind → Deadline → Bool
is_timer_of cid kind d = same_cid d.cid cid && same_kind d.kind kind

abbrev pub without_kind : Cid → Kind → List Deadline → List Deadline
without_kind cid kind timers = filter (λ d. not (is_timer_of cid kind d)) timers

abbrev pub without_cid : Cid → List Deadline → List Deadline
without_cid cid timers = filter (λ d. not (is_of cid d)) timers

-- one more timer: those that fire before it, it, and those that fire behind it
abbrev pub put_in : Deadline → List Deadline → List Deadline
put_in new timers = filter (λ d. deadline_before d new) timers ++ new ∷ filter (λ d. deadline_before new d) timers
