-- The orders by score and address are strict, and tell any two addresses apart.
use Rattle.std.proofs.Common.{◌≡◌, ℕ, false, ◌&&◌, ◌==◌, sym, ap, ◌∙◌, rules}
use Rattle.std.specs.Cmp.{tied_itself}
use Rattle.std.specs.Ordering.{is_lt, is_eq}
use Rattle.std.proofs.lemmas.Bool.{and_right}
use Rattle.net_base.specs.Address.{same_address}
use Rattle.net_base.proofs.AddressOrder.{less, greater_back}
use Rattle.pick_policy.specs.Ordered.{scored_below, scored_under, ranked_under}
use Rattle.pick_policy.specs.Scores.{scores_below, rates_below}
use Rattle.pick_policy.specs.contracts.scored.ScoredOrd.TheImpl.{ghosts}
use Rattle.pick_policy.specs.contracts.scored.ScoredOrd.TheImpl.Laws.{total-law}
use Rattle.pick_policy.specs.declared.scored.Scored.{Scored}
use Rattle.pick_policy.proofs.LeastLemmas.{IsStrict}
use Rattle.pick_policy.proofs.Distinct.{Connects}

-- what the derived comparison of scored candidates answers
pub below_is : (s t : Scored) → is_lt (ghosts.cmp s t) ≡ scored_below s t
below_is s t = search rules

same_is : (s t : Scored) → is_eq (ghosts.cmp s t) ≡ ((s.score == t.score) && same_address s.addr t.addr)
same_is s t = search rules

pub scored_strict : IsStrict scored_below
scored_strict = record {
  irreflexive = λ s. sym (below_is s s) ∙ ap is_lt (tied_itself total-law s);
  transitive = λ s t u h k.
      sym (below_is s u) ∙ ap is_lt (total-law.trans s t u (less _ (below_is s t ∙ h)) (less _ (below_is t u ∙ k)));
}

pub scored_connect : Connects (λ s. s.addr) scored_below
scored_connect = λ s t h k.
    let other : is_eq (ghosts.cmp s t) ≡ false =
    same_is s t ∙ and_right (s.score == t.score) (same_address s.addr t.addr) h in
    sym (below_is t s) ∙ (ap is_lt (total-law.antisymm t s) ∙ greater_back (ghosts.cmp s t) other (below_is s t ∙ k))

-- ---- and so are those of candidates, by their scores

pub scores_strict : (word : ℕ) → IsStrict (scores_below word)
scores_strict word = record {
  irreflexive = λ a. scored_strict.irreflexive (scored_under word a);
  transitive = λ a b c. scored_strict.transitive (scored_under word a) (scored_under word b) (scored_under word c);
}

pub scores_connect : (word : ℕ) → Connects (λ a. a) (scores_below word)
scores_connect word = λ a b. scored_connect (scored_under word a) (scored_under word b)

pub rates_strict : (word : ℕ) → IsStrict (rates_below word)
rates_strict word = record {
  irreflexive = λ r. scored_strict.irreflexive (ranked_under word r);
  transitive = λ r s t. scored_strict.transitive (ranked_under word r) (ranked_under word s) (ranked_under word t);
}

pub rates_connect : (word : ℕ) → Connects (λ r. r.addr) (rates_below word)
rates_connect word = λ r s. scored_connect (ranked_under word r) (ranked_under word s)
