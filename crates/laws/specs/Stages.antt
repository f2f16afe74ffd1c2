-- How far a connection has come, and that it ends once.
use Rattle.std.specs.Prelude.{ℕ, ◌≡◌, ◌≤◌, Bool, ◌==◌, nat_lt, if◌then◌else◌, List, [], ◌∷◌, Option, Some, None}
use Rattle.laws.specs.Words.{flat_map, CloseCause, Unused, Pruned, Overwritten, Refused, Query, Fault, Phase, Dialing, Greeting, Negotiated, Closing, Move, Machine, Entry, entry_at}
use Rattle.laws.specs.InActions.{End, ends_in}

abbrev pub stage_of_phase : Phase → ℕ
stage_of_phase Dialing = 1
stage_of_phase (Greeting until) = 2
stage_of_phase Negotiated = 3
stage_of_phase (Closing until) = 4

-- an id that was not given out is at 0, and one whose connection is gone at 5
abbrev pub stage_of : Option Entry → Bool → ℕ
stage_of None is_given = if is_given then 5 else 0
stage_of (Some e) is_given = stage_of_phase e.facts.phase

abbrev pub stage_at : ℕ → Machine → ℕ
stage_at cid m = stage_of (entry_at cid m) (nat_lt cid m.next_id)

abbrev pub causes_by : ℕ → End → List CloseCause
causes_by cid end = if end.cid == cid then end.cause ∷ [] else []

-- why this node ended a connection in those moves
abbrev pub causes_in : ℕ → List Move → List CloseCause
causes_in cid moves = flat_map (causes_by cid) (ends_in moves)

-- a cause for which a connection is ended whose handshake is done
abbrev pub IsLateCause : CloseCause → Type 0
IsLateCause Unused = Unit {0}
IsLateCause Pruned = Unit {0}
IsLateCause Overwritten = ⊥
IsLateCause Refused = ⊥
IsLateCause Query = ⊥
IsLateCause (Fault kind) = Unit {0}

-- one that is ended is gone, and only one that nobody uses may stay for its time-wait
abbrev pub stage_ended : CloseCause → ℕ
stage_ended Unused = 4
stage_ended other = 5

-- A connection is ended once at most, from an open stage.
abbrev pub IsOneEnd : List CloseCause → ℕ → ℕ → Type 0
IsOneEnd [] before after = Unit {0}
IsOneEnd (cause ∷ []) before after = (before ≤ 3) × (stage_ended cause ≤ after) × (before ≡ 3 → IsLateCause cause)
IsOneEnd (cause ∷ other ∷ causes) before after = ⊥
