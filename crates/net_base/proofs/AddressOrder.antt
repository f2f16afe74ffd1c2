-- The order of addresses is strict, and tells any two of them apart.
use Rattle.std.proofs.Common.{◌≡◌, ℕ, true, false, ◌==◌, refl, sym, ap, ◌∙◌, arith, rules}
use Rattle.std.specs.declared.cmp.Ordering.{Ordering}
use Rattle.std.specs.declared.cmp.Ordering.TheVariants.{Less, Equal, Greater}
use Rattle.std.specs.Ordering.{is_lt, is_eq, ordering_reverse}
use Rattle.std.specs.Cmp.{tied_itself}
use Rattle.std.proofs.lemmas.Bool.{false≢true, true≢false, false_from_ne_true, and_parts}
use Rattle.std.proofs.lemmas.Bool.Decides.{nat_tests}
use Rattle.net_base.specs.Address.{same_ip, same_address, address_below}
use Rattle.net_base.specs.declared.address.Ip.{Ip}
use Rattle.net_base.specs.declared.address.Ip.TheVariants.{V4, V6}
use Rattle.net_base.specs.declared.address.Addr.{Addr}
use Rattle.net_base.specs.contracts.address.AddrOrd.TheImpl.{ghosts}
use Rattle.net_base.specs.contracts.address.AddrOrd.TheImpl.Laws.{total-law}

pub below_is : (a b : Addr) → is_lt (ghosts.cmp a b) ≡ address_below a b
below_is a b = search rules

pub same_is : (a b : Addr) → is_eq (ghosts.cmp a b) ≡ same_address a b
same_is a b = search rules

pub less : (r : Ordering) → is_lt r ≡ true → r ≡ Less
less Less h = refl
less Equal h = absurd (false≢true h)
less Greater h = absurd (false≢true h)

pub greater_back : (r : Ordering) → is_eq r ≡ false → is_lt r ≡ false → is_lt (ordering_reverse r) ≡ true
greater_back Less h k = absurd (true≢false k)
greater_back Equal h k = absurd (true≢false h)
greater_back Greater h k = refl

pub address_irreflexive : (a : Addr) → address_below a a ≡ false
address_irreflexive a = sym (below_is a a) ∙ ap is_lt (tied_itself total-law a)

pub address_transitive : (a b c : Addr) → address_below a b ≡ true → address_below b c ≡ true → address_below a c ≡ true
address_transitive a b c h k =
    sym (below_is a c) ∙ ap is_lt (total-law.trans a b c (less _ (below_is a b ∙ h)) (less _ (below_is b c ∙ k)))

pub address_connected : (a b : Addr) → same_address a b ≡ false → address_below a b ≡ false → address_below b a ≡ true
address_connected a b h k =
    sym (below_is b a) ∙ (ap is_lt (total-law.antisymm b a) ∙ greater_back (ghosts.cmp a b) (same_is a b ∙ h) (below_is a b ∙ k))

pub same_address-itself : (a : Addr) → same_address a a ≡ true
same_address-itself a = sym (same_is a a) ∙ ap is_eq (tied_itself total-law a)

pub other_when_below : (a b : Addr) → address_below a b ≡ true → same_address a b ≡ false
other_when_below a b h = other (ghosts.cmp a b) (same_is a b) (less _ (below_is a b ∙ h))
  where
    other : (r : Ordering) → is_eq r ≡ same_address a b → r ≡ Less → same_address a b ≡ false
    other r e l = sym e ∙ ap is_eq l

equal : (r : Ordering) → is_eq r ≡ true → r ≡ Equal
equal Less h = absurd (false≢true h)
equal Equal h = refl
equal Greater h = absurd (false≢true h)

-- what is the same stands below the same
pub below-same : (a b c : Addr) → same_address a b ≡ true → address_below a c ≡ address_below b c
below-same a b c h =
    sym (below_is a c) ∙ (ap is_lt (total-law.congr a b c (equal _ (same_is a b ∙ h))) ∙ below_is b c)

-- what is above is another
pub address_turned : (a b : Addr) → address_below b a ≡ true → same_address a b ≡ false
address_turned a b h = other (ghosts.cmp a b) (same_is a b) (total-law.antisymm a b ∙ ap ordering_reverse (less _ (below_is b a ∙ h)))
  where
    other : (r : Ordering) → is_eq r ≡ same_address a b → r ≡ Greater → same_address a b ≡ false
    other r e l = sym e ∙ ap is_eq l

pub never_both : (a b : Addr) → address_below a b ≡ true → address_below b a ≡ false
never_both a b h = false_from_ne_true (address_below b a)
    (λ k. false≢true (sym (address_irreflexive a) ∙ address_transitive a b a h k))

pub same_number : (m n : ℕ) → (m == n) ≡ true → m ≡ n
same_number m n h = grind (arith, nat_tests)

same_ip-is : (a b : Ip) → same_ip a b ≡ true → a ≡ b
same_ip-is (V4 m) (V4 n) h = ap V4 (same_number m n h)
same_ip-is (V4 m) (V6 n) h = absurd (false≢true h)
same_ip-is (V6 m) (V4 n) h = absurd (false≢true h)
same_ip-is (V6 m) (V6 n) h = ap V6 (same_number m n h)

pub same_address-is : (a b : Addr) → same_address a b ≡ true → a ≡ b
same_address-is a b h =
    let parts = and_parts (same_ip a.ip b.ip) (a.port == b.port) h in
    λ i. record { ip = same_ip-is a.ip b.ip parts.0 i; port = same_number a.port b.port parts.1 i }

pub other_address-turn : (a b : Addr) → same_address a b ≡ false → same_address b a ≡ false
other_address-turn a b h = false_from_ne_true (same_address b a)
    (λ k. false≢true (sym h ∙ (ap (λ x. same_address x b) (sym (same_address-is b a k)) ∙ same_address-itself b)))
