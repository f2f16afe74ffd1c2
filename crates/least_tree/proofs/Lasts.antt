-- The last leaf that has the number of the root.
use Rattle.std.proofs.Common.{◌≡◌, ◌≢◌, ℕ, zero, suc, ◌+◌, ◌-◌, ◌*◌, ◌<◌, ◌≤◌, min, List, length, drop, get_or, refl, ap, inl, inr, arith}
use Rattle.std.proofs.lemmas.Bool.{cases_lt}
use Rattle.std.proofs.lemmas.List.{get_or-drop, length-drop}
use Rattle.least_tree.specs.Nodes.{at, doubled, made, IsLastLeaf, IsTree}
use Rattle.least_tree.specs.Numbers.{none, least_of, IsLastLeast}

pub doubled-twice : (h k : ℕ) → doubled h (2 * k) ≡ 2 * doubled h k
doubled-twice zero k = refl
doubled-twice (suc h) k = doubled-twice h (2 * k)

doubled-upto : (h k : ℕ) → k ≤ doubled h k
doubled-upto zero k = omega arith
doubled-upto (suc h) k = omega (arith, doubled-upto h (2 * k))

doubled-rise : (h j k : ℕ) → j ≤ k → doubled h j ≤ doubled h k
doubled-rise zero j k upto = upto
doubled-rise (suc h) j k upto = doubled-rise h (2 * j) (2 * k) (omega (arith, upto))

-- so many levels above the leaves stands a node that has the number of the root, and no leaf behind those under it does
pub record Has (size : ℕ) (nodes : List ℕ) (h node : ℕ) : Type 0 where
  pub some : 1 ≤ node
  pub from : size ≤ doubled h node
  pub inside : doubled h (node + 1) ≤ 2 * size
  pub least : at nodes node ≡ at nodes 1
  pub behind : (k : ℕ) → doubled h (node + 1) ≤ k → k < 2 * size → at nodes 1 < at nodes k

module _ (size : ℕ) (nodes : List ℕ) (even : length nodes ≡ 2 * size) (tree : IsTree nodes) where
  -- a node is no more than any leaf under it
  under : (h k leaf : ℕ) → 1 ≤ k → doubled h k ≤ leaf → leaf < doubled h (k + 1) → leaf < 2 * size → at nodes k ≤ at nodes leaf
  under zero k leaf some low high inside =
      let same : leaf ≡ k = omega (arith, low, high) in
      omega (arith, ap (at nodes) same)
  under (suc h) k leaf some low high inside = elim (cases_lt leaf (doubled h (2 * k + 1))) [
    | inl left ↦
        let upto = under h (2 * k) leaf (omega (arith, some)) low left inside in
        let is : at nodes k ≡ made nodes k = tree k some (omega (arith, doubled-upto h (2 * k), low, inside, even)) in
        omega (arith, is, upto)
    | inr right ↦
        let end : doubled h (2 * (k + 1)) ≡ doubled h (2 * k + 1 + 1) = ap (doubled h) (omega arith) in
        let upto = under h (2 * k + 1) leaf (omega arith) right (omega (arith, high, end)) inside in
        let is : at nodes k ≡ made nodes k = tree k some (omega (arith, doubled-upto h (2 * k + 1), right, inside, even)) in
        omega (arith, is, upto)
  ]

  inner : (h node : ℕ) → Has size nodes (suc h) node → at nodes node ≡ made nodes node
  inner h node has = tree node has.some (omega (arith, doubled-upto h (2 * (node + 1)), has.inside, even))

  pub inside_right : (h node : ℕ) → Has size nodes (suc h) node → 2 * node + 1 < length nodes
  inside_right h node has = omega (arith, doubled-upto h (2 * (node + 1)), has.inside, even)

  pub to_right : (h node : ℕ) → Has size nodes (suc h) node → at nodes (2 * node + 1) ≡ at nodes 1 → Has size nodes h (2 * node + 1)
  to_right h node has is =
      let end : doubled h (2 * (node + 1)) ≡ doubled h (2 * node + 1 + 1) = ap (doubled h) (omega arith) in
      record {
        some = omega arith;
        from = omega (arith, has.from, doubled-rise h (2 * node) (2 * node + 1) (omega arith));
        inside = omega (arith, has.inside, end);
        least = is;
        behind = λ k low. has.behind k (omega (arith, low, end));
      }

  pub to_left : (h node : ℕ) → Has size nodes (suc h) node → at nodes (2 * node + 1) ≢ at nodes 1 → Has size nodes h (2 * node)
  to_left h node has other =
      let end : doubled h (2 * (node + 1)) ≡ doubled h (2 * node + 1 + 1) = ap (doubled h) (omega arith) in
      let is = inner h node has in
      let above : at nodes 1 < at nodes (2 * node + 1) = more (at nodes 1) (at nodes (2 * node + 1)) (omega (arith, is, has.least)) other in
      record {
        some = omega (arith, has.some);
        from = has.from;
        inside = omega (arith, has.inside, doubled-rise h (2 * node + 1) (2 * (node + 1)) (omega arith));
        least = omega (arith, is, has.least, above);
        behind = λ k low inside. elim (cases_lt k (doubled h (2 * (node + 1)))) [
          | inl right ↦ omega (arith, above, under h (2 * node + 1) k (omega arith) low (omega (arith, right, end)) inside)
          | inr beyond ↦ has.behind k beyond inside
        ];
      }
    where
      more : (a b : ℕ) → a ≤ b → b ≢ a → a < b
      more a b upto other = elim (cases_lt a b) [
        | inl lt ↦ lt
        | inr not ↦ absurd (other (omega (arith, upto, not)))
      ]

pub at_root : (size : ℕ) (nodes : List ℕ) (levels : ℕ) → size ≡ doubled levels 1 → Has size nodes levels 1
at_root size nodes levels power =
    let twice : doubled levels 2 ≡ 2 * doubled levels 1 = doubled-twice levels 1 in
    record {
      some = omega arith;
      from = omega (arith, power);
      inside = omega (arith, power, twice);
      least = refl;
      behind = λ k low inside. absurd (omega (arith, low, inside, power, twice));
    }

pub at_leaf : (size : ℕ) (nodes : List ℕ) (node : ℕ) → Has size nodes 0 node → IsLastLeaf size nodes node
at_leaf size nodes node has = record {
  from = has.from;
  inside = omega (arith, has.inside);
  least = has.least;
  behind = λ k low. has.behind k (omega (arith, low));
}

-- ---- in the row

pub last_in : (size leaf : ℕ) (nodes : List ℕ) → length nodes ≡ 2 * size → IsLastLeaf size nodes leaf → at nodes 1 ≡ least_of (drop size nodes) →
    least_of (drop size nodes) < none → IsLastLeast (drop size nodes) (leaf - size)
last_in size leaf nodes even last root some =
    let there = get_or-drop size nodes (leaf - size) 0 in
    let same : size + (leaf - size) ≡ leaf = omega (arith, last.from) in
    let here = ap (at nodes) same in
    record {
      inside = omega (arith, length-drop size nodes, even, last.inside, last.from);
      least = omega (arith, there, here, last.least, root);
      some = some;
      behind = λ i after inside.
          let more = last.behind (size + i) (omega (arith, after, last.from)) (omega (arith, inside, length-drop size nodes, even)) in
          omega (arith, get_or-drop size nodes i 0, more, root);
    }
