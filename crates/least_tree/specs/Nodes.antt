-- Trees in which each inner node has the lesser of its two children. The root is 1, the children of k are 2 * k and 2 * k + 1,
-- and the second half of the nodes are the leaves.
use Rattle.std.specs.Prelude.{◌≡◌, ◌≢◌, ℕ, zero, suc, ◌+◌, ◌*◌, ◌<◌, ◌≤◌, List, length, slice_index_or, min}

abbrev pub at : List ℕ → ℕ → ℕ
at nodes k = slice_index_or nodes k 0

-- the lesser of a node's two children
abbrev pub made : List ℕ → ℕ → ℕ
made nodes k = min (at nodes (2 * k)) (at nodes (2 * k + 1))

abbrev pub IsNode : List ℕ → ℕ → Type 0
IsNode nodes k = at nodes k ≡ made nodes k

abbrev pub IsTree : List ℕ → Type 0
IsTree nodes = (k : ℕ) → 1 ≤ k → 2 * k + 1 < length nodes → IsNode nodes k

-- but for one node
abbrev pub AreOthers : ℕ → List ℕ → Type 0
AreOthers one nodes = (k : ℕ) → 1 ≤ k → 2 * k + 1 < length nodes → k ≢ one → IsNode nodes k

-- a number that is doubled so often
abbrev pub doubled : ℕ → ℕ → ℕ
doubled zero k = k
doubled (suc h) k = doubled h (2 * k)

-- a leaf, of so many, that has the number of the root, and is the last one
pub record IsLastLeaf (size : ℕ) (nodes : List ℕ) (leaf : ℕ) : Type 0 where
  pub from : size ≤ leaf
  pub inside : leaf < 2 * size
  pub least : at nodes leaf ≡ at nodes 1
  pub behind : (k : ℕ) → leaf < k → k < 2 * size → at nodes 1 < at nodes k

-- a tree over so many numbers, which are as many as 1 is when it is doubled so often, or none
pub record IsRow (levels size : ℕ) (nodes : List ℕ) : Type 0 where
  pub power : 1 ≤ size → size ≡ doubled levels 1
  pub even : length nodes ≡ 2 * size
  pub tree : IsTree nodes
