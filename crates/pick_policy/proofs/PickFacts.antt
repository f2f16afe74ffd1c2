-- What laws need of picks: at most so many, each a candidate, and distinct where the candidates are.
use Rattle.std.proofs.Common.{◌≡◌, ℕ, suc, zero, ◌≤◌, Bool, true, false, cond, List, [], ◌∷◌, map, length, ◌∙◌, sym, subst, inl, inr, ◌⊎◌}
use Rattle.std.specs.List.{IsDistinct, AllByRecursion, Contains, filter, best_of}
use Rattle.std.proofs.lemmas.Bool.{false≢true}
use Rattle.std.proofs.lemmas.List.{length-map}
use Rattle.net_base.specs.Address.{same_address}
use Rattle.net_base.specs.declared.address.Addr.{Addr}
use Rattle.pick_policy.specs.Least.{least_by}
use Rattle.pick_policy.specs.Picks.{picked, ranked}
use Rattle.pick_policy.specs.Scores.{scores_below, rates_below}
use Rattle.pick_policy.specs.declared.rated.Rated.{Rated}
use Rattle.net_base.proofs.AddressOrder.{other_address-turn}
use Rattle.pick_policy.proofs.LeastLaws.{least_by-within, length-least_by}
use Rattle.pick_policy.proofs.LeastLemmas.{IsStrict, best_is_in}
use Rattle.pick_policy.proofs.Members.{Has, Has-from_Contains, Contains-from_Has, Has-from_filter, All-at_Has, All-from_Has}
use Rattle.pick_policy.proofs.Picking.{map-same}
use Rattle.pick_policy.proofs.ScoreOrder.{scores_strict, rates_strict}

-- ---- at most so many

pub length-picked : (cands : List Addr) (k word : ℕ) → length (picked cands k word) ≤ k
length-picked cands k word = length-least_by (scores_below word) k cands

pub length-ranked : (cands : List Rated) (k word : ℕ) → length (ranked cands k word) ≤ k
length-ranked cands k word =
    subst (λ n. n ≤ k) (sym (length-map (least_by (rates_below word) k cands) (λ r. r.addr))) (length-least_by (rates_below word) k cands)

-- ---- each a candidate

pub All-picked : (P : Addr → Type 0) (cands : List Addr) (k word : ℕ) → AllByRecursion P cands → AllByRecursion P (picked cands k word)
All-picked P cands k word all =
    All-from_Has P (picked cands k word) (λ a h. All-at_Has P cands a all (least_by-within (scores_below word) k cands a h))

All-map : {X Y : Type 0} (f : X → Y) (P : Y → Type 0) (xs : List X) → AllByRecursion (λ x. P (f x)) xs → AllByRecursion P (map f xs)
All-map f P [] h = tt
All-map f P (x ∷ xs) h = (h.0, All-map f P xs h.1)

pub All-ranked : (P : Addr → Type 0) (cands : List Rated) (k word : ℕ) → AllByRecursion (λ r. P r.addr) cands →
    AllByRecursion P (ranked cands k word)
All-ranked P cands k word all = All-map (λ r. r.addr) P (least_by (rates_below word) k cands)
    (All-from_Has (λ r. P r.addr) _ (λ r h. All-at_Has (λ s. P s.addr) cands r all (least_by-within (rates_below word) k cands r h)))

pub Contains-picked : (cands : List Addr) (k word : ℕ) (a : Addr) → Contains (picked cands k word) a → Contains cands a
Contains-picked cands k word a h =
    Contains-from_Has cands a (least_by-within (scores_below word) k cands a (Has-from_Contains (picked cands k word) a h))

-- ---- distinct

module _ {X : Type 0} (key : X → Addr) where
  abbrev pub AreApart : List X → Type 0
  AreApart xs = IsDistinct same_address (map key xs)

  abbrev pub Differs : X → X → Type 0
  Differs x y = same_address (key x) (key y) ≡ false

  apart_from_all : (x : X) (xs : List X) → AllByRecursion (λ a. same_address (key x) a ≡ false) (map key xs) → AllByRecursion (Differs x) xs
  apart_from_all x [] h = tt
  apart_from_all x (y ∷ ys) h = (h.0, apart_from_all x ys h.1)

  all_from_apart : (x : X) (xs : List X) → AllByRecursion (Differs x) xs → AllByRecursion (λ a. same_address (key x) a ≡ false) (map key xs)
  all_from_apart x [] h = tt
  all_from_apart x (y ∷ ys) h = (h.0, all_from_apart x ys h.1)

  -- of distinct things two are one thing or have other addresses
  pub one_or_other : (xs : List X) → AreApart xs → (x y : X) → Has xs x → Has xs y → (x ≡ y) ⊎ Differs x y
  unfolding IsDistinct
  one_or_other [] apart x y h k = absurd h
  one_or_other (z ∷ zs) apart x y (inl e) (inl f) = inl (sym e ∙ f)
  one_or_other (z ∷ zs) apart x y (inl e) (inr k) =
      inr (subst (λ v. Differs v y) e (All-at_Has (Differs z) zs y (apart_from_all z zs apart.0) k))
  one_or_other (z ∷ zs) apart x y (inr h) (inl f) =
      inr (other_address-turn (key y) (key x) (subst (λ v. Differs v x) f (All-at_Has (Differs z) zs x (apart_from_all z zs apart.0) h)))
  one_or_other (z ∷ zs) apart x y (inr h) (inr k) = one_or_other zs apart.1 x y h k

  module _ {below : X → X → Bool} (strict : IsStrict below) where
    differs_when_above : (xs : List X) → AreApart xs → (x y : X) → Has xs x → Has xs y → below x y ≡ true → Differs x y
    differs_when_above xs apart x y h k above = elim (one_or_other xs apart x y h k) [
      | inl e ↦ absurd (false≢true (sym (strict.irreflexive x) ∙ subst (λ v. below x v ≡ true) (sym e) above))
      | inr d ↦ d
    ]

    apart-filter : (p : X → Bool) (xs : List X) → AreApart xs → AreApart (filter p xs)
    unfolding IsDistinct
    apart-filter p [] apart = tt
    apart-filter p (x ∷ xs) apart = kept (p x)
        (all_from_apart x (filter p xs) (All-from_Has (Differs x) (filter p xs)
        (λ y h. All-at_Has (Differs x) xs y (apart_from_all x xs apart.0) (Has-from_filter p xs y h).0)))
        (apart-filter p xs apart.1)
      where
        kept : (b : Bool) → AllByRecursion (λ a. same_address (key x) a ≡ false) (map key (filter p xs)) → AreApart (filter p xs) →
            AreApart (cond b (x ∷ filter p xs) (filter p xs))
        kept true h rest = (h, rest)
        kept false h rest = rest

    pub apart-least_by : (k : ℕ) (xs : List X) → AreApart xs → AreApart (least_by below k xs)
    unfolding least_by IsDistinct
    apart-least_by zero xs apart = tt
    apart-least_by (suc k) [] apart = tt
    apart-least_by (suc k) (z ∷ zs) apart =
        let b : X = best_of below z zs in
        let later : List X = filter (below b) (z ∷ zs) in (
          all_from_apart b (least_by below k later) (All-from_Has (Differs b) (least_by below k later) (λ y h.
              let kept = Has-from_filter (below b) (z ∷ zs) y (least_by-within below k later y h) in
              differs_when_above (z ∷ zs) apart b y (best_is_in below z zs) kept.0 kept.1)),
          apart-least_by k later (apart-filter (below b) (z ∷ zs) apart),
        )

pub IsDistinct-picked : (cands : List Addr) (k word : ℕ) → IsDistinct same_address cands → IsDistinct same_address (picked cands k word)
IsDistinct-picked cands k word distinct =
    subst (IsDistinct same_address) (map-same (picked cands k word))
    (apart-least_by (λ a. a) (scores_strict word) k cands (subst (IsDistinct same_address) (sym (map-same cands)) distinct))

pub IsDistinct-ranked : (cands : List Rated) (k word : ℕ) → IsDistinct same_address (map (λ r. r.addr) cands) →
    IsDistinct same_address (ranked cands k word)
IsDistinct-ranked cands k word distinct = apart-least_by (λ r. r.addr) (rates_strict word) k cands distinct
