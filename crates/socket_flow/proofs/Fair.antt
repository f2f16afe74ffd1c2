-- Turns are fair.
use Rattle.std.proofs.Common.{ℕ, true, false, List, [], ◌∷◌, ◌++◌, if◌then◌else◌, inl, inr}
use Rattle.socket_flow.specs.Turns.{has_turn, queued, Ready, Turn, Precedes, AreFair, AreRound}

precedes-append : (one other : ℕ) (queue more : List ℕ) → Precedes one other queue → Precedes one other (queue ++ more)
precedes-append one other [] more p = absurd p
precedes-append one other (key ∷ queue) more (inl is) = inl is
precedes-append one other (key ∷ queue) more (inr rest) = inr (rest.0, precedes-append one other queue more rest.1)

pub precedes-queued : (one other : ℕ) (queue : List ℕ) (key : ℕ) → Precedes one other queue → Precedes one other (queued queue key)
precedes-queued one other queue key p =
    elim (has_turn queue key) as (λ b. Precedes one other (if b then queue else queue ++ key ∷ [])) [
      | true ↦ p
      | false ↦ precedes-append one other queue (key ∷ []) p
    ]

pub fair : AreFair
fair one other queue [] p = tt
fair one other queue (Ready key ∷ rest) p = fair one other (queued queue key) rest (precedes-queued one other queue key p)
fair one other [] (Turn ∷ rest) p = absurd p
fair one other (key ∷ queue) (Turn ∷ rest) (inl is) = inl is
fair one other (key ∷ queue) (Turn ∷ rest) (inr p) = inr (p.0, fair one other queue rest p.1)

pub round : AreRound
round key one queue happens p = fair one key (queued queue key) happens (precedes-queued one key queue key p)
