-- Which addresses are listed.
use Rattle.std.proofs.Common.{◌≡◌, Bool, true, false, ◌||◌, cond, List, [], ◌∷◌, ◌++◌, refl, sym, ap, ◌∙◌, subst}
use Rattle.std.specs.Cmp.{IsEquivalence}
use Rattle.std.specs.List.{list_any}
use Rattle.std.specs.Ordering.{is_eq, ordering_reverse}
use Rattle.std.specs.declared.cmp.Ordering.{Ordering}
use Rattle.std.specs.declared.cmp.Ordering.TheVariants.{Less, Equal, Greater}
use Rattle.std.proofs.lemmas.Cmp.{eq_by_cmp_equiv}
use Rattle.net_base.specs.Address.{same_address}
use Rattle.net_base.specs.contracts.address.AddrOrd.TheImpl.{ghosts}
use Rattle.net_base.specs.contracts.address.AddrOrd.TheImpl.Laws.{total-law}
use Rattle.net_base.specs.declared.address.Addr.{Addr}
use Rattle.net_base.proofs.AddressOrder.{same_is}
use Rattle.root_groups.specs.Cleaned.{is_listed}

turned : (r : Ordering) → is_eq (ordering_reverse r) ≡ is_eq r
turned Less = refl
turned Equal = refl
turned Greater = refl

pub same_address-turn : (a b : Addr) → same_address a b ≡ same_address b a
same_address-turn a b =
    sym (same_is a b) ∙ (ap is_eq (total-law.antisymm a b) ∙ (turned (ghosts.cmp b a) ∙ same_is b a))

pub same_address_equiv : IsEquivalence same_address
same_address_equiv = subst IsEquivalence (λ i a b. same_is a b i) (eq_by_cmp_equiv total-law)

-- what a sorted set holds
pub listed-set : (a : Addr) (keys : List Addr) → list_any (λ k. is_eq (ghosts.cmp a k)) keys ≡ is_listed a keys
listed-set a [] = refl
listed-set a (k ∷ keys) = ap (λ b. b || list_any (λ k. is_eq (ghosts.cmp a k)) keys) (same_is a k) ∙ ap (λ b. same_address a k || b) (listed-set a keys)

or_none : (b : Bool) → (b || false) ≡ cond b true false
or_none true = refl
or_none false = refl

step : (b c d : Bool) → b || cond c true d ≡ cond c true (b || d)
step true true d = refl
step true false d = refl
step false c d = refl

pub listed-push : (a k : Addr) (xs : List Addr) → is_listed a (xs ++ k ∷ []) ≡ cond (same_address a k) true (is_listed a xs)
listed-push a k [] = or_none (same_address a k)
listed-push a k (x ∷ xs) = ap (λ b. same_address a x || b) (listed-push a k xs) ∙ step (same_address a x) (same_address a k) (is_listed a xs)

-- the same list and set, after one more
pub listed-more : (k : Addr) (list keys more : List Addr) → ((a : Addr) → is_listed a keys ≡ is_listed a list) →
    ((a : Addr) → list_any (λ x. is_eq (ghosts.cmp a x)) more ≡ cond (is_eq (ghosts.cmp k a)) true (list_any (λ x. is_eq (ghosts.cmp a x)) keys)) →
    (a : Addr) → is_listed a more ≡ is_listed a (list ++ k ∷ [])
listed-more k list keys more same added a =
    sym (listed-set a more)
    ∙ (added a
    ∙ (ap (λ b. cond b true (list_any (λ x. is_eq (ghosts.cmp a x)) keys)) (same_is k a ∙ same_address-turn k a)
    ∙ (ap (cond (same_address a k) true) (listed-set a keys ∙ same a) ∙ sym (listed-push a k list))))
