-- The picks of the scored candidates are those of the candidates.
use Rattle.std.proofs.Common.{◌≡◌, ℕ, List, [], ◌∷◌, map, refl, ap, ◌∙◌, sym, subst}
use Rattle.std.specs.List.{IsDistinct}
use Rattle.net_base.specs.Address.{same_address}
use Rattle.net_base.specs.declared.address.Addr.{Addr}
use Rattle.pick_policy.specs.Least.{least_by, AreLeast}
use Rattle.pick_policy.specs.Ordered.{scored_below, scored_under, ranked_under}
use Rattle.pick_policy.specs.Picks.{picked, ranked}
use Rattle.pick_policy.specs.Scores.{scores_below, rates_below}
use Rattle.pick_policy.specs.declared.rated.Rated.{Rated}
use Rattle.pick_policy.specs.declared.scored.Scored.{Scored}
use Rattle.pick_policy.proofs.Distinct.{AreComparable-from_distinct}
use Rattle.pick_policy.proofs.LeastLaws.{are_least}
use Rattle.pick_policy.proofs.ScoreOrder.{scores_strict, rates_strict, scores_connect, rates_connect}
use Rattle.pick_policy.proofs.Sorting.{least_by-map}

abbrev addresses : List Scored → List Addr
addresses = map (λ s. s.addr)

pub addresses-scored : (word : ℕ) (cands : List Addr) → addresses (map (scored_under word) cands) ≡ cands
addresses-scored word [] = refl
addresses-scored word (a ∷ cands) = ap (λ l. a ∷ l) (addresses-scored word cands)

pub addresses-ranked : (word : ℕ) (cands : List Rated) → addresses (map (ranked_under word) cands) ≡ map (λ r. r.addr) cands
addresses-ranked word [] = refl
addresses-ranked word (r ∷ cands) = ap (λ l. r.addr ∷ l) (addresses-ranked word cands)

pub least-scored : (k word : ℕ) (cands : List Addr) →
    addresses (least_by scored_below k (map (scored_under word) cands)) ≡ picked cands k word
least-scored k word cands =
    ap addresses (least_by-map (scored_under word) scored_below k cands) ∙ addresses-scored word (picked cands k word)

pub least-ranked : (k word : ℕ) (cands : List Rated) →
    addresses (least_by scored_below k (map (ranked_under word) cands)) ≡ ranked cands k word
least-ranked k word cands =
    ap addresses (least_by-map (ranked_under word) scored_below k cands)
    ∙ addresses-ranked word (least_by (rates_below word) k cands)

pub map-same : (cands : List Addr) → map (λ a. a) cands ≡ cands
map-same [] = refl
map-same (a ∷ cands) = ap (λ l. a ∷ l) (map-same cands)

pub picked_are_least : (cands : List Addr) (k word : ℕ) → IsDistinct same_address cands →
    AreLeast (scores_below word) k cands (picked cands k word)
picked_are_least cands k word distinct = are_least (scores_strict word) k cands
    (AreComparable-from_distinct (λ a. a) (scores_below word) (scores_connect word) cands
    (subst (IsDistinct same_address) (sym (map-same cands)) distinct))

pub ranked_are_least : (cands : List Rated) (k word : ℕ) → IsDistinct same_address (map (λ r. r.addr) cands) →
    AreLeast (rates_below word) k cands (least_by (rates_below word) k cands)
ranked_are_least cands k word distinct = are_least (rates_strict word) k cands
    (AreComparable-from_distinct (λ r. r.addr) (rates_below word) (rates_connect word) cands distinct)
