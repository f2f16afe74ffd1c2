-- When the public root peers are asked for.
use Rattle.std.specs.Prelude.{ℕ, ◌+◌, ◌≡◌, Bool, true, false, ◌&&◌, nat_le, nat_lt, List, [], ◌∷◌, length, if◌then◌else◌, Some, is_none}
use Rattle.laws.specs.Words.{flat_map, RootState, Action, AskRoots, Effect, Machine}
use Rattle.laws.specs.Acts.{Act, asks_for_roots}

-- fewer public roots are known than wanted, no answer is awaited, and the moment before which none is asked for has come
abbrev pub are_roots_wanted : Machine → Bool
are_roots_wanted m = nat_lt (length m.roots.publics) m.targets.root && is_none m.roots.pending && nat_le m.roots.next_moment m.now

abbrev pub asked_by : Action → List ℕ
asked_by (AskRoots job) = job.0 ∷ []
asked_by other = []

-- the questions for public roots, by their numbers
abbrev pub asked_in : List Action → List ℕ
asked_in actions = flat_map asked_by actions

-- They are asked for exactly where they are wanted, at the beginning of a round and never else.
abbrev pub AsksRight : Act → Machine → Effect → Type 0
AsksRight asks_for_roots before effect = asked_in effect.actions ≡ (if are_roots_wanted before then before.roots.next_job ∷ [] else [])
AsksRight other before effect = asked_in effect.actions ≡ []

-- an answer is awaited then, under the next number
abbrev pub roots_asked : Bool → RootState → RootState
roots_asked true roots = record roots { pending = Some roots.next_job; next_job = roots.next_job + 1 }
roots_asked false roots = roots
