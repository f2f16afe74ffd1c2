-- Picks are of the candidates, and no address is picked twice.
use Rattle.std.proofs.Common.{ℕ, suc, ◌≡◌, Bool, true, false, cond, List, [], ◌∷◌, map, filter, Some, refl, arith}
use Rattle.laws.specs.Words.{AllByRecursion, best_of, address_below, same_address, Addr, Peer, least_by, pair_below, score_of, ranked_score_of, scores_below, rates_below, Rated, rated_of, picks_of, addresses_of}
use Rattle.peer_book.specs.Book.{peer_at}
use Rattle.laws.specs.Steady.{ArePeersApart, AreApart}
use Rattle.laws.proofs.Addresses.{same_address-true}
use Rattle.laws.proofs.Each.{weaker, weaker-both}
use Rattle.laws.proofs.Lists.{filter-all, all-map, filter-passing}
use Rattle.laws.proofs.PeersApart.{all-found}

-- ---- the least of several things

-- each is below all that follow
pub RisesBy : {X : Type 0} → (X → X → Bool) → List X → Type 0
RisesBy below [] = Unit {0}
RisesBy below (x ∷ xs) = AllByRecursion (λ y. below x y ≡ true) xs × RisesBy below xs

best-all : {X : Type 0} (P : X → Type 0) (below : X → X → Bool) (a : X) (xs : List X) → P a → AllByRecursion P xs → P (best_of below a xs)
best-all P below a [] h all = h
best-all P below a (x ∷ xs) h all = best-all P below (cond (below x a) x a) xs (grind (arith, h, all.0)) all.1

pub least-all : {X : Type 0} (P : X → Type 0) (below : X → X → Bool) (k : ℕ) (xs : List X) → AllByRecursion P xs → AllByRecursion P (least_by below k xs)
unfolding least_by
least-all P below (suc k) (x ∷ xs) h = (
  best-all P below x xs h.0 h.1,
  least-all P below k (filter (below (best_of below x xs)) (x ∷ xs)) (filter-all P (below (best_of below x xs)) (x ∷ xs) h),
)
least-all P below k xs h = tt

pub least-rises : {X : Type 0} (below : X → X → Bool) (k : ℕ) (xs : List X) → RisesBy below (least_by below k xs)
unfolding least_by RisesBy
least-rises below (suc k) (x ∷ xs) =
    let best = best_of below x xs in (
      least-all (λ y. below best y ≡ true) below k (filter (below best) (x ∷ xs)) (filter-passing (below best) (x ∷ xs)),
      least-rises below k (filter (below best) (x ∷ xs)),
    )
least-rises below k xs = tt

-- ---- no address is below itself

address_below-self : (a : Addr) → address_below a a ≡ false
address_below-self a = grind arith

pair_below-self : (n : ℕ) (a : Addr) → pair_below n a n a ≡ false
pair_below-self n a = grind (arith, address_below-self a)

-- ---- picks of ordinary peers

scores-apart : (word : ℕ) (addrs : List Addr) → RisesBy (scores_below word) addrs → AreApart addrs
unfolding RisesBy
scores-apart word [] h = tt
scores-apart word (a ∷ addrs) h =
    (weaker addrs (λ b below. grind (arith, below, same_address-true b a, pair_below-self (score_of word a) a)) h.0, scores-apart word addrs h.1)

-- ---- picks of big ledger peers

-- the rated peer that is found under its address
record FoundAs (peers : List Peer) (r : Rated) : Type 0 where
  peer : Peer
  found : peer_at r.addr peers ≡ Some peer
  is : r ≡ rated_of peer

all_rated : (ps : List Peer) → ArePeersApart ps → AllByRecursion (FoundAs ps) (map rated_of ps)
all_rated ps h = all-map (FoundAs ps) rated_of ps (weaker ps (λ p found. record { peer = p; found = found; is = refl }) (all-found ps h))

rates-apart : (word : ℕ) (peers : List Peer) (rs : List Rated) → RisesBy (rates_below word) rs → AllByRecursion (FoundAs peers) rs →
    AreApart (map (λ r. r.addr) rs)
unfolding RisesBy
rates-apart word peers [] h f = tt
rates-apart word peers (r ∷ rs) h f = (
  all-map (λ b. same_address b r.addr ≡ false) (λ s. s.addr) rs (weaker-both rs (λ s below found.
      grind (arith, below, f.0.found, f.0.is, found.found, found.is, same_address-true s.addr r.addr, pair_below-self (ranked_score_of word r.failures r.addr) r.addr)) h.0 f.1),
  rates-apart word peers rs h.1 f.1,
)

-- ---- both

pub picks-apart : (big : Bool) (word number : ℕ) (candidates : List Peer) → ArePeersApart candidates → AreApart (picks_of big word number candidates)
picks-apart false word number candidates h =
    scores-apart word (least_by (scores_below word) number (addresses_of candidates)) (least-rises (scores_below word) number (addresses_of candidates))
picks-apart true word number candidates h =
    let rs : List Rated = map rated_of candidates in
    rates-apart word candidates (least_by (rates_below word) number rs) (least-rises (rates_below word) number rs)
    (least-all (FoundAs candidates) (rates_below word) number rs (all_rated candidates h))

pub picks-all : (P : Addr → Type 0) (big : Bool) (word number : ℕ) (candidates : List Peer) → AllByRecursion (λ p. P p.addr) candidates →
    AllByRecursion P (picks_of big word number candidates)
picks-all P false word number candidates h = search (arith, least-all, all-map)
picks-all P true word number candidates h = search (arith, all-map, least-all)
