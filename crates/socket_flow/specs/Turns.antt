-- Keys that wait for their turn, each once, the first to come first.
use Rattle.std.specs.Prelude.{◌≡◌, ◌≢◌, ◌⊎◌, ℕ, Bool, false, ◌==◌, List, [], ◌∷◌, ◌++◌, if◌then◌else◌}
use Rattle.std.specs.List.{list_any}

abbrev pub has_turn : List ℕ → ℕ → Bool
has_turn queue key = list_any (λ other. key == other) queue

-- a key has a turn behind the others, where it has none yet
abbrev pub queued : List ℕ → ℕ → List ℕ
queued queue key = if has_turn queue key then queue else queue ++ key ∷ []

-- no key stands twice
abbrev pub IsOnce : List ℕ → Type 0
IsOnce [] = Unit {0}
IsOnce (key ∷ keys) = (has_turn keys key ≡ false) × IsOnce keys

-- ---- turns are fair

-- what may happen to a queue: a key is ready for a turn, or the first has its turn
pub data Happening : Type 0 where
  Ready : (key : ℕ) → Happening
  Turn : Happening

-- who has a turn, one after another
abbrev pub turns : List Happening → List ℕ → List ℕ
turns [] queue = []
turns (Ready key ∷ rest) queue = turns rest (queued queue key)
turns (Turn ∷ rest) [] = turns rest []
turns (Turn ∷ rest) (key ∷ queue) = key ∷ turns rest queue

-- the one comes in a list, and before it the other doesn't
abbrev pub Precedes : ℕ → ℕ → List ℕ → Type 0
Precedes one other [] = ⊥
Precedes one other (key ∷ keys) = (key ≡ one) ⊎ ((key ≢ other) × Precedes one other keys)

-- the other doesn't come in a list before the one does
abbrev pub WaitsFor : ℕ → ℕ → List ℕ → Type 0
WaitsFor one other [] = Unit {0}
WaitsFor one other (key ∷ keys) = (key ≡ one) ⊎ ((key ≢ other) × WaitsFor one other keys)

-- Whoever stands in the queue ahead of another has its turn first, whatever happens.
abbrev pub AreFair : Type 0
AreFair = (one other : ℕ) (queue : List ℕ) (happens : List Happening) → Precedes one other queue → WaitsFor one other (turns happens queue)

-- So between two turns of one key each other that was ready at the first has its turn: who has had its turn is
-- ready again behind all of them.
abbrev pub AreRound : Type 0
AreRound = (key one : ℕ) (queue : List ℕ) (happens : List Happening) → Precedes one key queue → WaitsFor one key (turns happens (queued queue key))
