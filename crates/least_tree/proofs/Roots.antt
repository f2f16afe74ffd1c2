-- The root of a tree is the least of the leaves.
use Rattle.std.proofs.Common.{◌≡◌, ℕ, zero, suc, ◌+◌, ◌-◌, ◌*◌, ◌/◌, ◌<◌, ◌≤◌, min, List, [], ◌∷◌, length, drop, get_or, refl, ap, inl, inr, arith}
use Rattle.std.proofs.lemmas.Bool.{cases_lt, cases_order}
use Rattle.std.proofs.lemmas.List.{get_or-drop, length-drop}
use Rattle.least_tree.specs.Nodes.{at, made, IsTree}
use Rattle.least_tree.specs.Numbers.{none, least_of}

min_over : (m a b : ℕ) → m ≤ a → m ≤ b → m ≤ min a b
min_over m a b h k = omega (arith, h, k)

-- ---- of a list

pub least-upto : (ns : List ℕ) (i : ℕ) → i < length ns → least_of ns ≤ get_or ns i 0
least-upto [] i h = absurd (omega (arith, h))
least-upto (n ∷ ns) zero h = omega arith
least-upto (n ∷ ns) (suc i) h = omega (arith, least-upto ns i (omega (arith, h)))

over_least : (m : ℕ) (ns : List ℕ) → m ≤ none → ((i : ℕ) → i < length ns → m ≤ get_or ns i 0) → m ≤ least_of ns
over_least m [] some each = some
over_least m (n ∷ ns) some each =
    min_over m n (least_of ns) (each 0 (omega arith)) (over_least m ns some (λ i h. each (suc i) (omega (arith, h))))

-- where there is a number
over_some : (m : ℕ) (ns : List ℕ) → least_of ns < none → ((i : ℕ) → i < length ns → m ≤ get_or ns i 0) → m ≤ least_of ns
over_some m [] some each = absurd (omega (arith, some))
over_some m (n ∷ ns) some each = elim (cases_lt (least_of ns) none) [
  | inl more ↦ min_over m n (least_of ns) (each 0 (omega arith)) (over_some m ns more (λ i h. each (suc i) (omega (arith, h))))
  | inr none_left ↦ let first = each 0 (omega arith) in omega (arith, first, some, none_left)
]

-- ---- of a tree

module _ (size : ℕ) (nodes : List ℕ) (even : length nodes ≡ 2 * size) (tree : IsTree nodes) where
  -- the root is no more than any node
  under_root : (fuel j : ℕ) → j ≤ fuel → 1 ≤ j → j < 2 * size → at nodes 1 ≤ at nodes j
  under_root zero j enough some inside = absurd (omega (arith, enough, some))
  under_root (suc fuel) j enough some inside = elim (cases_order j 1) [
    | inl e ↦ let same = ap (at nodes) e in omega (arith, same)
    | inr apart ↦ elim apart [
      | inl lt ↦ absurd (omega (arith, lt, some))
      | inr gt ↦
          let up : at nodes 1 ≤ at nodes (j / 2) = under_root fuel (j / 2) (omega (arith, enough, gt)) (omega (arith, gt)) (omega (arith, inside)) in
          let is : at nodes (j / 2) ≡ made nodes (j / 2) = tree (j / 2) (omega (arith, gt)) (omega (arith, inside, even)) in
          elim (cases_order j (2 * (j / 2))) [
            | inl e ↦ let same = ap (at nodes) e in omega (arith, up, is, same)
            | inr odd ↦ elim odd [
              | inl lt ↦ absurd (omega (arith, lt))
              | inr gt2 ↦
                  let e : j ≡ 2 * (j / 2) + 1 = omega (arith, gt2) in
                  let same = ap (at nodes) e in omega (arith, up, is, same)
            ]
          ]
    ]
  ]

  -- each node is at least the least leaf
  over_node : (fuel k : ℕ) → 2 * size ≤ k + fuel → 1 ≤ k → k < 2 * size → least_of (drop size nodes) ≤ at nodes k
  over_node zero k enough some inside = absurd (omega (arith, enough, inside))
  over_node (suc fuel) k enough some inside = elim (cases_lt k size) [
    | inl inner ↦
        let left = over_node fuel (2 * k) (omega (arith, enough, some)) (omega (arith, some)) (omega (arith, inner)) in
        let right = over_node fuel (2 * k + 1) (omega (arith, enough, some)) (omega (arith, some)) (omega (arith, inner)) in
        let is : at nodes k ≡ made nodes k = tree k some (omega (arith, inner, even)) in
        let both = min_over _ _ _ left right in
        omega (arith, is, both)
    | inr leaf ↦
        let there = get_or-drop size nodes (k - size) 0 in
        let same : size + (k - size) ≡ k = omega (arith, leaf) in
        let here = ap (at nodes) same in
        let upto = least-upto (drop size nodes) (k - size) (omega (arith, length-drop size nodes, even, inside, leaf)) in
        omega (arith, there, here, upto)
  ]

  pub root_is : 1 ≤ size → at nodes 1 ≤ none → at nodes 1 ≡ least_of (drop size nodes)
  root_is some upto =
      let low = over_node (2 * size) 1 (omega arith) (omega arith) (omega (arith, some)) in
      let high = over_least (at nodes 1) (drop size nodes) upto (λ i h.
      let inside : i < size = omega (arith, h, length-drop size nodes, even) in
      let there = get_or-drop size nodes i 0 in
      let under = under_root (size + i) (size + i) (omega arith) (omega (arith, some)) (omega (arith, inside)) in
      omega (arith, there, under)) in
      omega (arith, low, high)

  pub root_when_some : 1 ≤ size → least_of (drop size nodes) < none → at nodes 1 ≡ least_of (drop size nodes)
  root_when_some some number =
      let low = over_node (2 * size) 1 (omega arith) (omega arith) (omega (arith, some)) in
      let high = over_some (at nodes 1) (drop size nodes) number (λ i h.
      let inside : i < size = omega (arith, h, length-drop size nodes, even) in
      let there = get_or-drop size nodes i 0 in
      let under = under_root (size + i) (size + i) (omega arith) (omega (arith, some)) (omega (arith, inside)) in
      omega (arith, there, under)) in
      omega (arith, low, high)

  -- no numbers, no least one
  pub some_nodes : least_of (drop size nodes) < none → 1 ≤ size
  some_nodes number = elim (cases_lt 0 size) [
    | inl some ↦ omega (arith, some)
    | inr empty ↦ absurd (omega (arith, ap least_of (empty_row (drop size nodes) (omega (arith, length-drop size nodes, even, empty))), number))
  ]
    where
      empty_row : (ns : List ℕ) → length ns ≡ 0 → ns ≡ []
      empty_row [] e = refl
      empty_row (n ∷ ns) e = absurd (omega (arith, e))
