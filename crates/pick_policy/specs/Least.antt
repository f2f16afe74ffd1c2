-- The least of several things by an order.
use Rattle.std.specs.Prelude.{ℕ, zero, suc, ◌<◌, ◌≡◌, ◌↔◌, min, Bool, true, List, [], ◌∷◌, length, count_by, filter}
use Rattle.std.specs.List.{best_of, Contains, AllPairs}

-- The least of the things, then the least of those above it, and so on, at most so many.
unfoldable pub least_by : {X : Type 0} → (X → X → Bool) → ℕ → List X → List X
least_by below zero xs = []
least_by below (suc k) [] = []
least_by below (suc k) (x ∷ xs) =
    best_of below x xs ∷ least_by below k (filter (below (best_of below x xs)) (x ∷ xs))

-- What that comes to: the things that fewer than k are below, and they rise.
pub record AreLeast {X : Type 0} (below : X → X → Bool) (k : ℕ) (xs picks : List X) : Type 0 where
  pub members : (x : X) → Contains picks x ↔ (Contains xs x × (count_by (λ y. below y x) xs < k))
  pub rising : AllPairs (λ x y. below x y ≡ true) picks
  pub number : length picks ≡ min k (length xs)
