-- What the steps of a scan that goes on return.
use Rattle.std.specs.Prelude.{◌≡◌, ℕ, Bool, false, ◌==◌, List, ◌∷◌, ◌++◌, reverse, Result, Ok, Err, OnOk}
use Rattle.cbor_items.specs.declared.stop.Stop.{Stop}
use Rattle.cbor_items.specs.declared.stop.Stop.TheVariants as stop
use Rattle.cbor_items.specs.declared.scan.Scan.{Scan}
use Rattle.cbor_items.specs.declared.scan.Scan.TheVariants as scan
use Rattle.cbor_items.specs.declared.level.Level.{Level}
use Rattle.cbor_items.specs.declared.level.Level.TheVariants.{Items, Value, ToBreak}
use Rattle.cbor_items.specs.declared.stack.Levels.{Levels}
use Rattle.cbor_items.specs.declared.halt.Halt.{Halt}
use Rattle.cbor_items.specs.declared.halt.Halt.TheVariants.{Stopped, NoMemory}
use Rattle.cbor_items.specs.Scan.{Skip}
use Rattle.cbor_items.specs.Level.{skip_level}

-- nothing is to come on the level any more
abbrev pub is_done : Level → Bool
is_done (Items count) = count == 0
is_done Value = false
is_done (ToBreak thing) = false

-- the innermost first
abbrev pub levels_of : Levels → List Level
levels_of levels = levels.here ∷ reverse levels.around.items

-- A front of the bytes is passed over; whatever follows, one skip from before it is another one from behind it.
pub record Goes (skip : Skip) (bytes : List ℕ) (after : Skip) (rest : List ℕ) : Type 0 where
  pub front : List ℕ
  pub joined : bytes ≡ front ++ rest
  pub same : (more : List ℕ) → skip (bytes ++ more) ≡ after (rest ++ more)

-- what begins an item opens a level
abbrev pub Opens : Skip → Skip → List ℕ → Level → List ℕ → Type 0
Opens skip item bytes level rest = Goes skip bytes (skip_level item level) rest

-- what a beginning of an item returned, seen by `view`: the level that it opens and the bytes behind it, or why it is none
abbrev pub BeginsAs : {X : Type 0} → (X → Level × List ℕ) → Skip → Skip → List ℕ → Result X Stop → Type 0
BeginsAs view skip item bytes (Ok x) = Opens skip item bytes (view x).0 (view x).1
BeginsAs view skip item bytes (Err stop) = skip bytes ≡ Err stop

-- the skip does not come to an end in the bytes, for this reason. Nothing is said where memory ran out
abbrev pub IsHalted : Skip → List ℕ → Halt → Type 0
IsHalted skip bytes (Stopped stop) = skip bytes ≡ Err stop
IsHalted skip bytes NoMemory = Unit {0}

-- what a step returned, seen by `view`: the bytes from which `after` goes on, or why there are none
abbrev pub StepsTo : {X : Type 0} → (X → List ℕ) → Skip → List ℕ → Skip → Result X Halt → Type 0
StepsTo view skip bytes after (Ok x) = Goes skip bytes after (view x)
StepsTo view skip bytes after (Err halt) = IsHalted skip bytes halt

-- no level is open any more, or the skip is halted
abbrev pub HasEnded : {X : Type 0} → Skip → List ℕ → Result X Halt → Type 0
HasEnded skip bytes (Ok done) = skip bytes ≡ Ok bytes
HasEnded skip bytes (Err halt) = IsHalted skip bytes halt

-- What the scan answers by how it ended, with so many bytes passed over. Want of memory is answered exactly where memory ran out.
abbrev pub AnswersBy : {X E : Type 0} → ℕ → Result X Halt → Result Scan E → Type 0
AnswersBy passed (Ok done) result = result ≡ Ok (scan.Whole passed)
AnswersBy passed (Err (Stopped stop.More)) result = result ≡ Ok scan.More
AnswersBy passed (Err (Stopped stop.Bad)) result = result ≡ Ok scan.Bad
AnswersBy passed (Err (Stopped stop.Deep)) result = result ≡ Ok scan.Deep
AnswersBy passed (Err NoMemory) result = OnOk result ⊥
