-- The nodes of a tree, after a change of one of them.
use Rattle.std.proofs.Common.{◌≡◌, ◌≢◌, ℕ, suc, ◌+◌, ◌*◌, ◌/◌, ◌<◌, ◌≤◌, min, List, length, set, sym, ap, subst, ◌∙◌, inl, inr, arith}
use Rattle.std.proofs.lemmas.Bool.{cases_order}
use Rattle.std.proofs.lemmas.List.{get_or-set_same, get_or-set_other, length-set}
use Rattle.least_tree.specs.Nodes.{at, made, IsNode, AreOthers, IsTree}

renewed : (nodes : List ℕ) (k : ℕ) → 1 ≤ k → 2 * k + 1 < length nodes → IsNode (set nodes k (made nodes k)) k
renewed nodes k some h =
    let w : ℕ = made nodes k in
    let left = get_or-set_other nodes k (2 * k) w 0 (λ e. omega (arith, e, some)) in
    let right = get_or-set_other nodes k (2 * k + 1) w 0 (λ e. omega (arith, e, some)) in
    get_or-set_same nodes k w 0 (omega (arith, h)) ∙ (ap (λ x. min x (at nodes (2 * k + 1))) (sym left) ∙ ap (min (at (set nodes k w) (2 * k))) (sym right))

still : (nodes : List ℕ) (k j : ℕ) (w : ℕ) → j ≢ k → 2 * j ≢ k → 2 * j + 1 ≢ k → IsNode nodes j → IsNode (set nodes k w) j
still nodes k j w other left right is =
    get_or-set_other nodes k j w 0 other
    ∙ (is ∙ (ap (λ x. min x (at nodes (2 * j + 1))) (sym (get_or-set_other nodes k (2 * j) w 0 left))
    ∙ ap (min (at (set nodes k w) (2 * j))) (sym (get_or-set_other nodes k (2 * j + 1) w 0 right))))

-- after a step up the tree, all but the one above
pub stepped : (nodes : List ℕ) (k : ℕ) → 1 ≤ k → 2 * k + 1 < length nodes → AreOthers k nodes →
    AreOthers (k / 2) (set nodes k (made nodes k))
stepped nodes k some h others j low inside not_above = elim (cases_order j k) [
  | inl e ↦ subst (λ n. IsNode (set nodes k (made nodes k)) n) (sym e) (renewed nodes k some h)
  | inr apart ↦
      let other : j ≢ k = λ e. elim apart [
        | inl lt ↦ omega (arith, e, lt)
        | inr gt ↦ omega (arith, e, gt)
      ] in
      still nodes k j (made nodes k) other (λ e. not_above (omega (arith, e))) (λ e. not_above (omega (arith, e)))
      (others j low (omega (arith, inside, length-set nodes k (made nodes k))) other)
]

-- where the node stays, the tree is in order
pub stayed : (nodes : List ℕ) (k : ℕ) → 1 ≤ k → 2 * k + 1 < length nodes → AreOthers k nodes → set nodes k (made nodes k) ≡ nodes → IsTree nodes
stayed nodes k some h others same j low inside = elim (cases_order j k) [
  | inl e ↦ subst (λ n. IsNode nodes n) (sym e) (subst (λ l. IsNode l k) same (renewed nodes k some h))
  | inr apart ↦ others j low inside (λ e. elim apart [
    | inl lt ↦ omega (arith, e, lt)
    | inr gt ↦ omega (arith, e, gt)
  ])
]

pub all_above : (nodes : List ℕ) → AreOthers 0 nodes → IsTree nodes
all_above nodes others j low inside = others j low inside (λ e. omega (arith, e, low))

-- from a number on, all are in order
abbrev pub AreFrom : ℕ → List ℕ → Type 0
AreFrom from nodes = (k : ℕ) → from ≤ k → 1 ≤ k → 2 * k + 1 < length nodes → IsNode nodes k

pub one_lower : (nodes : List ℕ) (k : ℕ) → 1 ≤ k → 2 * k + 1 < length nodes → AreFrom (suc k) nodes → AreFrom k (set nodes k (made nodes k))
one_lower nodes k some h from j low pos inside = elim (cases_order j k) [
  | inl e ↦ subst (λ n. IsNode (set nodes k (made nodes k)) n) (sym e) (renewed nodes k some h)
  | inr apart ↦
      let above : k < j = elim apart [
        | inl lt ↦ absurd (omega (arith, lt, low))
        | inr gt ↦ gt
      ] in
      still nodes k j (made nodes k) (λ e. omega (arith, e, above)) (λ e. omega (arith, e, above)) (λ e. omega (arith, e, above))
      (from j (omega (arith, above)) pos (omega (arith, inside, length-set nodes k (made nodes k))))
]
