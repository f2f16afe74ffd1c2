-- The moments of one connection's timers, and the rows of them, one for each connection.
use Rattle.std.specs.Prelude.{◌≡◌, ℕ, Bool, true, false, ◌==◌, List, [], ◌∷◌, find, map, Option, Some, None, if◌then◌else◌}
use Rattle.std.specs.List.{cons_option, prefix_len}
use Rattle.net_base.specs.declared.connection.Cid.{Cid}
use Rattle.net_base.specs.declared.timer.Deadline.{Deadline}
use Rattle.net_base.specs.declared.timer.Kind.{Kind}
use Rattle.net_base.specs.declared.timer.Kind.TheVariants.{Handshake, Grace, TimeWait, Reply2, Reply8, Reply10}
use Rattle.timer_queue.specs.Timers.{timer, same_cid, cid_below, has_timer, is_timer_of}
use Rattle.timer_queue.specs.declared.moments.Moments.{Moments}
use Rattle.timer_queue.specs.declared.rows.Row.{Row}

abbrev pub moment : Kind → Moments → Option ℕ
moment Handshake m = m.handshake
moment Grace m = m.grace
moment TimeWait m = m.time_wait
moment Reply2 m = m.reply2
moment Reply8 m = m.reply8
moment Reply10 m = m.reply10

abbrev pub with_moment : Kind → Option ℕ → Moments → Moments
with_moment Handshake at m = record m { handshake = at }
with_moment Grace at m = record m { grace = at }
with_moment TimeWait at m = record m { time_wait = at }
with_moment Reply2 at m = record m { reply2 = at }
with_moment Reply8 at m = record m { reply8 = at }
with_moment Reply10 at m = record m { reply10 = at }

-- the timer of an id and a kind, where it has a moment
abbrev pub timer_at : Cid → Kind → Option ℕ → Option Deadline
timer_at cid kind None = None
timer_at cid kind (Some at) = Some (timer cid kind at)

-- the timers of an id, by its moments
abbrev pub timers_of : Cid → Moments → List Deadline
timers_of cid m =
    cons_option (timer_at cid Handshake m.handshake) (cons_option (timer_at cid Grace m.grace)
    (cons_option (timer_at cid TimeWait m.time_wait) (cons_option (timer_at cid Reply2 m.reply2)
    (cons_option (timer_at cid Reply8 m.reply8) (cons_option (timer_at cid Reply10 m.reply10) [])))))

abbrev pub no_moments : Moments
no_moments = record { handshake = None; grace = None; time_wait = None; reply2 = None; reply8 = None; reply10 = None }

abbrev pub empty_row : Cid → Row
empty_row cid = record { cid = cid; enrolled = true; moments = no_moments }

-- of a connection that has left
abbrev pub gone_row : Cid → Row
gone_row cid = record { cid = cid; enrolled = false; moments = no_moments }

abbrev pub with_at : Kind → Option ℕ → Row → Row
with_at kind at row = record row { moments = with_moment kind at row.moments }

-- ---- rows

abbrev pub row_at : Cid → List Row → Option Row
row_at cid rows = find (λ r. same_cid r.cid cid) rows

-- the moment of the timer of an id and a kind
abbrev pub moment_of : Kind → Option Row → Option ℕ
moment_of kind None = None
moment_of kind (Some row) = moment kind row.moments

abbrev pub moment_at : Cid → Kind → List Row → Option ℕ
moment_at cid kind rows = moment_of kind (row_at cid rows)

-- whether a moment is the one that is set
abbrev pub is_set_at : ℕ → Option ℕ → Bool
is_set_at at None = false
is_set_at at (Some other) = other == at

-- a row that was found, where it is that of an id
abbrev pub found_at : Cid → Option Row → Option Row
found_at cid None = None
found_at cid (Some row) = if same_cid row.cid cid then Some row else None

-- how many rows are below an id
abbrev pub place_at : Cid → List Row → ℕ
place_at cid rows = prefix_len (λ r. cid_below r.cid cid) rows

-- ---- what a line has of a connection

-- of a kind it has the one moment that is told, or none
abbrev pub IsMomentOf : Cid → Kind → Option ℕ → List Deadline → Type 0
IsMomentOf cid kind at line = (d : Deadline) → is_timer_of cid kind d ≡ true → has_timer d line ≡ is_set_at d.at at

abbrev pub AreMomentsOf : Cid → Moments → List Deadline → Type 0
AreMomentsOf cid moments line = (kind : Kind) → IsMomentOf cid kind (moment kind moments) line

-- ---- rows after a change

abbrev pub with_new_row : Row → List Row → List Row
with_new_row new [] = new ∷ []
with_new_row new (row ∷ rows) = if cid_below row.cid new.cid then row ∷ with_new_row new rows else new ∷ row ∷ rows

-- a row in place of the one of its id
abbrev pub with_row : Row → List Row → List Row
with_row new rows = map (λ r. if same_cid r.cid new.cid then new else r) rows
