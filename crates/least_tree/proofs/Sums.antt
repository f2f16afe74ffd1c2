-- The least of two lists of numbers, and of one with room behind it.
use Rattle.std.proofs.Common.{◌≡◌, ℕ, zero, suc, ◌≤◌, min, List, [], ◌∷◌, ◌++◌, replicate, refl, ap, arith}
use Rattle.least_tree.specs.Numbers.{none, least_of}

pub least-bound : (ns : List ℕ) → least_of ns ≤ none
least-bound [] = omega arith
least-bound (n ∷ ns) = omega (arith, least-bound ns)

pub least-with_room : (ns : List ℕ) (m : ℕ) → least_of (ns ++ replicate m none) ≡ least_of ns
least-with_room [] zero = refl
least-with_room [] (suc m) = omega (arith, least-with_room [] m)
least-with_room (n ∷ ns) m = ap (min n) (least-with_room ns m)
