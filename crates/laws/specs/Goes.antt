-- Who goes without this node's doing: whose other side has closed, and whose dial has failed. And who stays for its time-wait.
use Rattle.std.specs.Prelude.{ℕ, ◌≡◌, Bool, false, true, not, ◌&&◌, ◌||◌, ◌==◌, [], ◌∷◌, Option, Some, None}
use Rattle.laws.specs.Words.{Kind, is_dialing, is_live, Terminated, Effect, Machine, Entry, entry_at}
use Rattle.laws.specs.Words.kind
use Rattle.laws.specs.Acts.{Act, fires_one, ends_dial, is_closed}
use Rattle.laws.specs.CarriedOut.{WhereLive}
use Rattle.laws.specs.InActions.{names_in}

-- The connection is gone, and that it has ended is told, once.
pub record IsGone (cid : ℕ) (effect : Effect) : Type 0 where
  pub gone : entry_at cid effect.machine ≡ None
  pub told : names_in cid effect.actions ≡ Terminated ∷ []

abbrev pub WhereDialing : Option Entry → Type 0 → Type 0
WhereDialing None law = Unit {0}
WhereDialing (Some e) law = is_dialing e.facts ≡ true → law

-- A live connection that the other side closes is gone, whoever used it, and so is a dial that fails.
abbrev pub GoesWhere : Act → Machine → Effect → Type 0
GoesWhere (is_closed cid) before effect = WhereLive (entry_at cid.0 before) (λ e. IsGone cid.0 effect)
GoesWhere (ends_dial cid opened) before effect = opened ≡ false → WhereDialing (entry_at cid.0 before) (IsGone cid.0 effect)
GoesWhere other before effect = Unit {0}

-- ---- who waits its time

abbrev pub is_waiting_entry : Option Entry → Bool
is_waiting_entry None = false
is_waiting_entry (Some e) = not (is_live e.facts)

abbrev pub is_waiting_at : ℕ → Machine → Bool
is_waiting_at cid m = is_waiting_entry (entry_at cid m)

abbrev pub is_time_wait : Kind → Bool
is_time_wait kind.TimeWait = true
is_time_wait other = false

abbrev pub ends_time_wait : Act → ℕ → Bool
ends_time_wait (fires_one d) cid = is_time_wait d.kind && d.cid.0 == cid
ends_time_wait other cid = false

-- A connection that this node has closed stays until its time-wait is over.
abbrev pub Lingers : Act → Machine → Machine → Type 0
Lingers act before after = (cid : ℕ) → is_waiting_at cid before ≡ true → (is_waiting_at cid after || ends_time_wait act cid) ≡ true
