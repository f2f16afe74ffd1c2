-- A pair that some steps lead to.
use Rattle.std.proofs.Common.{◌≡◌, List, [], ◌∷◌, ◌++◌, refl, sym, ap, subst, ◌∙◌}
use Rattle.pair_net.specs.Law.{IsReached, AgreesAlike}
use Rattle.pair_net.specs.Pair.{PairState, fresh_pair}
use Rattle.pair_net.specs.Steps.{stepped, pair_after}
use Rattle.pair_net.specs.declared.pair_step.PairStep.{PairStep}
use Rattle.pair_net.proofs.Runs.{ends_agree_alike}

-- one step more
one_more : (steps : List PairStep) (step : PairStep) (p : PairState) → pair_after (steps ++ step ∷ []) p ≡ (stepped step (pair_after steps p)).pair
one_more [] step p = refl
one_more (first ∷ steps) step p = one_more steps step (stepped first p).pair

pub reached_step : (p q : PairState) (step : PairStep) → IsReached p → q ≡ (stepped step p).pair → IsReached q
reached_step p q step reached is = record {
  left = reached.left;
  right = reached.right;
  steps = reached.steps ++ step ∷ [];
  left_offers = reached.left_offers;
  right_offers = reached.right_offers;
  leads =
      is ∙ ap (λ (x : PairState). (stepped step x).pair) reached.leads
      ∙ sym (one_more reached.steps step (fresh_pair reached.left reached.right));
}

pub reached_alike : (p : PairState) → IsReached p → AgreesAlike p
reached_alike p reached =
    subst AgreesAlike (sym reached.leads)
    (ends_agree_alike reached.left reached.right reached.steps reached.left_offers reached.right_offers)
