-- A short list while the candidates come.
use Rattle.std.proofs.Common.{◌≡◌, ℕ, ◌<◌, ◌≤◌, ◌+◌, List, [], ◌∷◌, ◌++◌, map, take, drop, length, get_or, sym, ap, ◌∙◌, subst}
use Rattle.std.proofs.lemmas.List.{take-append-drop, take-map, take_all, map_more}
use Rattle.pick_policy.specs.Kept.{HasLeast, AreWithOther}
use Rattle.pick_policy.specs.Least.{least_by}
use Rattle.pick_policy.specs.Ordered.{scored_below}
use Rattle.pick_policy.specs.declared.scored.Scored.{Scored}
use Rattle.pick_policy.specs.declared.short_list.ShortList.{ShortList}
use Rattle.pick_policy.proofs.PickFacts.{AreApart}
use Rattle.pick_policy.proofs.ScoreOrder.{scored_strict, scored_connect}
use Rattle.pick_policy.proofs.Selecting.{apart-front}

abbrev AreOther : List Scored → Type 0
AreOther = AreApart (λ s. s.addr)

other-take : (n : ℕ) (xs : List Scored) → AreOther xs → AreOther (take n xs)
other-take n xs other = apart-front (λ s. s.addr) scored_strict scored_connect (take n xs) (drop n xs) (subst AreOther (sym (take-append-drop n xs)) other)

module _ {X : Type 0} (scored : X → Scored) (cands : List X) where
  pub has_least_more : (i k : ℕ) (d : X) (s : Scored) (before after : ShortList) → AreOther (map scored cands) → i < length cands → s ≡ scored (get_or cands i d) →
      ((n : ℕ) (came : List Scored) → AreWithOther s came → HasLeast n came before → HasLeast n (came ++ s ∷ []) after) →
      HasLeast k (map scored (take i cands)) before → HasLeast k (map scored (take (i + 1) cands)) after
  has_least_more i k d s before after other inside is offered has =
      let more : map scored (take (i + 1) cands) ≡ map scored (take i cands) ++ s ∷ [] =
      map_more scored cands i d inside ∙ ap (λ t. map scored (take i cands) ++ t ∷ []) (sym is) in
      let apart : AreOther (map scored (take (i + 1) cands)) = subst AreOther (take-map scored (i + 1) cands) (other-take (i + 1) (map scored cands) other) in
      subst (λ l. HasLeast k l after) (sym more) (offered k (map scored (take i cands)) (subst AreOther more apart) has)

  pub has_least_all : (i k : ℕ) (list : ShortList) → length cands ≤ i → HasLeast k (map scored (take i cands)) list →
      list.least.items ≡ least_by scored_below k (map scored cands)
  has_least_all i k list end has = has.1 ∙ ap (λ l. least_by scored_below k (map scored l)) (take_all i cands end)
