-- Things in address order, by the place of an address among them.
use Rattle.std.proofs.Common.{◌≡◌, ℕ, suc, zero, ◌<◌, ◌≤◌, Bool, true, false, List, [], ◌∷◌, length, get_or, sym, subst, inl, inr, arith}
use Rattle.std.specs.List.{AllByRecursion, prefix_len}
use Rattle.std.specs.List.Sorted.{IsPartitionedBy, IsPartitionPoint}
use Rattle.std.proofs.lemmas.Bool.{cases_order}
use Rattle.std.proofs.lemmas.List.Elements.{All-from_recursion}
use Rattle.std.proofs.lemmas.List.Sums.{prefix_len_is}
use Rattle.net_base.specs.Address.{address_below}
use Rattle.net_base.specs.declared.address.Addr.{Addr}
use Rattle.peer_book.specs.Order.{IsRising}
use Rattle.net_base.proofs.AddressOrder.{address_transitive}

module _ {X : Type 0} (key : X → Addr) where
  abbrev pub AllAbove : Addr → List X → Type 0
  AllAbove addr xs = AllByRecursion (λ x. address_below addr (key x) ≡ true) xs

  -- what is above one is above all below it
  pub above_lower : (a b : Addr) (xs : List X) → address_below a b ≡ true → AllAbove b xs → AllAbove a xs
  above_lower a b [] lower h = tt
  above_lower a b (x ∷ xs) lower h = (address_transitive a b (key x) lower h.0, above_lower a b xs lower h.1)

  pub rising_pairs : (xs : List X) → IsRising key xs → (i j : ℕ) (d : X) → i < j → j < length xs →
      address_below (key (get_or xs i d)) (key (get_or xs j d)) ≡ true
  rising_pairs [] rises i j d lt inside = absurd (omega (arith, inside))
  rising_pairs (x ∷ xs) rises i zero d lt inside = absurd (omega (arith, lt))
  rising_pairs (x ∷ xs) rises zero (suc j) d lt inside =
      All-from_recursion (λ y. address_below (key x) (key y) ≡ true) xs rises.0 j d (omega arith)
  rising_pairs (x ∷ xs) rises (suc i) (suc j) d lt inside = rising_pairs xs rises.1 i j d (omega arith) (omega arith)

  abbrev pub is_under : Addr → X → Bool
  is_under addr x = address_below (key x) addr

  pub partitioned : (addr : Addr) (xs : List X) → IsRising key xs → IsPartitionedBy (is_under addr) xs
  partitioned addr xs rises i j d upto inside under = elim (cases_order i j) [
    | inl e ↦ subst (λ n. is_under addr (get_or xs n d) ≡ true) (sym e) under
    | inr apart ↦ elim apart [
      | inl lt ↦ address_transitive _ _ addr (rising_pairs xs rises i j d lt inside) under
      | inr gt ↦ absurd (omega (arith, gt, upto))
    ]
  ]

pub place_is : {X : Type 0} (p : X → Bool) (xs : List X) (i : ℕ) → i ≤ length xs →
    IsPartitionPoint (λ x. p x ≡ true) (λ x. p x ≡ false) xs i → i ≡ prefix_len p xs
place_is p [] i upto point = omega arith
place_is p (x ∷ xs) i upto point =
    sym (prefix_len_is p (x ∷ xs) i x upto (λ k below. point.0 k x (omega arith) below) (λ inside. point.1 i x (omega arith) inside))
