-- Words that are too few or too many for any command.
use Rattle.std.proofs.Common.{◌≡◌, ℕ, ◌≤◌, ◌<◌, List, [], ◌∷◌, length, None, refl, arith}
use Rattle.command_run.specs.Command.{command_of}

pub two_are_none : (words : List (List ℕ)) → 2 ≤ length words → length words < 3 → None ≡ command_of words
two_are_none [] least most = absurd (omega (arith, least))
two_are_none (one ∷ []) least most = absurd (omega (arith, least))
two_are_none (one ∷ two ∷ []) least most = refl
two_are_none (one ∷ two ∷ three ∷ words) least most = absurd (omega (arith, most))

pub five_are_none : (words : List (List ℕ)) → 5 ≤ length words → None ≡ command_of words
five_are_none [] least = absurd (omega (arith, least))
five_are_none (one ∷ []) least = absurd (omega (arith, least))
five_are_none (one ∷ two ∷ []) least = absurd (omega (arith, least))
five_are_none (one ∷ two ∷ three ∷ []) least = absurd (omega (arith, least))
five_are_none (one ∷ two ∷ three ∷ four ∷ []) least = absurd (omega (arith, least))
five_are_none (one ∷ two ∷ three ∷ four ∷ five ∷ words) least = refl
