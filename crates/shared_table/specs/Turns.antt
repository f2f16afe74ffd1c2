-- The rule of the place where a shared value lies: whose turn it is, and that what each seat has seen begins the history.
use Rattle.std.specs.Prelude.{ℕ, ◌≡◌, ◌≢◌, ◌⊎◌, List, [], ◌∷◌, Option, Some, None}
use mathlib.Core.Option.{some, none}
use Rattle.atomic_table.specs.Table.{State, Me, Step}
use Rattle.net_base.specs.declared.settings.Settings.{Settings}
use Rattle.atomic_table.specs.declared.shared.Seat.{Seat}
use Rattle.shared_table.specs.Views.{Begins, TableName, seen_in, found_in}
use Rattle.shared_table.specs.declared.entry.Entry.{Entry}
use Rattle.shared_table.specs.declared.view.View.{View}
use Rattle.shared_table.specs.declared.view.View.TheVariants.{Whole, Waits, Holds, Both, Gone}

-- ---- the views of all seats

-- there are two seats, and neither has its turn
pub record BothWait (key : Settings) (history : List Entry) (views : List View) : Type 0 where
  pub one : List Entry
  pub other : List Entry
  pub are : views ≡ Waits key one ∷ Waits key other ∷ []
  pub one_begins : Begins one history
  pub other_begins : Begins other history

-- one of two seats has its turn, and found the history
pub record OneHolds (key : Settings) (history : List Entry) (views : List View) : Type 0 where
  pub holder : List Entry
  pub waiter : List Entry
  pub are : (views ≡ Holds key holder history ∷ Waits key waiter ∷ []) ⊎ (views ≡ Waits key waiter ∷ Holds key holder history ∷ [])
  pub holder_begins : Begins holder history
  pub waiter_begins : Begins waiter history

-- the two seats are one again
pub record AreJoined (key : Settings) (history : List Entry) (views : List View) : Type 0 where
  pub one : List Entry
  pub other : List Entry
  pub are : (views ≡ Both key one other ∷ Gone ∷ []) ⊎ (views ≡ Gone ∷ Both key one other ∷ [])
  pub one_begins : Begins one history
  pub other_begins : Begins other history

-- it is nobody's turn
abbrev pub NoneHolds : Settings → List Entry → List View → Type 0
NoneHolds key history views = (views ≡ Whole key ∷ []) ⊎ (BothWait key history views ⊎ AreJoined key history views)

-- a seat after its turn, and what it has seen then
abbrev pub seen_after : View → List Entry → View
seen_after (Whole key) seen = Waits key seen
seen_after (Waits key old) seen = Waits key seen
seen_after (Holds key old found) seen = Waits key seen
seen_after (Both key one other) seen = Waits key seen
seen_after Gone seen = Gone

-- ---- the place

module _ {T : Type 0} (history_of : T → List Entry) (settings_of : T → Settings) where
  -- the value lies there, and it is nobody's turn
  pub record IsHome (key : Settings) (s : State (Option T) View) : Type 0 where
    pub value : T
    pub word : s.words ≡ 0 ∷ []
    pub home : s.homes ≡ some (Some value) ∷ []
    pub settings : settings_of value ≡ key
    pub views : NoneHolds key (history_of value) s.views

  -- somebody has it
  pub record IsOut (key : Settings) (s : State (Option T) View) : Type 0 where
    pub history : List Entry
    pub word : s.words ≡ 1 ∷ []
    pub home : s.homes ≡ none ∷ []
    pub views : OneHolds key history s.views

  abbrev pub Stands : Settings → State (Option T) View → Type 0
  Stands key s = IsHome key s ⊎ IsOut key s

  -- ---- what a step tells its seat

  -- the seat has the value, which has these settings and begins with what the seat had seen
  pub record HasTurn (before : View) (after : Me (Option T) View) : Type 0 where
    pub value : T
    pub key : Settings
    pub seen : List Entry
    pub was : before ≡ Waits key seen
    pub now : after ≡ (Holds key seen (history_of value), (0, Some value) ∷ [])
    pub settings : settings_of value ≡ key
    pub begins : Begins seen (history_of value)

  -- The number 0 says that it was nobody's turn. Otherwise the seat has to ask again.
  abbrev pub AsksForTurn : Step (Option T) → Me (Option T) View → ℕ → Me (Option T) View → Type 0
  AsksForTurn step before found after = (found ≡ 0 → HasTurn before.0 after) × (found ≢ 0 → after ≡ before)

  -- what is known of a value that is given back
  abbrev pub history_at : List (ℕ × Option T) → List Entry
  history_at [] = []
  history_at ((slot, None) ∷ held) = []
  history_at ((slot, Some value) ∷ held) = history_of value

  -- it has seen all calls
  abbrev pub EndsTurn : Step (Option T) → Me (Option T) View → ℕ → Me (Option T) View → Type 0
  EndsTurn step before stored after = after ≡ (seen_after before.0 (history_at before.1), [])

-- it has seen no more than before
abbrev pub LeavesTurn : {T : Type 0} → Step (Option T) → Me (Option T) View → ℕ → Me (Option T) View → Type 0
LeavesTurn step before stored after = after ≡ (seen_after before.0 (seen_in before.0), [])

-- somebody at this table has its turn, and the value is out
abbrev pub HasTaken : {T : Type 0} → TableName → Seat (Option T) View → Type 0
HasTaken name seat = (seat.table_id ≡ name.id) × (seat.me ≡ (Holds name.settings (seen_in seat.me.0) (found_in seat.me.0), (0, None) ∷ []))

-- ---- two seats of one, and one of two

abbrev pub new_seat : View → View
new_seat (Whole key) = Waits key []
new_seat (Waits key seen) = Waits key []
new_seat (Holds key seen found) = Waits key []
new_seat (Both key one other) = Waits key []
new_seat Gone = Gone

abbrev pub joined : View → View → View
joined (Whole key) w = Both key [] (seen_in w)
joined (Waits key seen) w = Both key seen (seen_in w)
joined (Holds key seen found) w = Both key seen (seen_in w)
joined (Both key one other) w = Both key one (seen_in w)
joined Gone w = Gone
