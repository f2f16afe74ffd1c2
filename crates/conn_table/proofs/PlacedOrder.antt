-- The order of address and then id is strict, and tells any two apart.
use Rattle.std.proofs.Common.{◌≡◌, true, false, ◌==◌, sym, ap, ◌∙◌, rules}
use Rattle.std.specs.declared.cmp.Ordering.{Ordering}
use Rattle.std.specs.declared.cmp.Ordering.TheVariants.{Less, Greater}
use Rattle.std.specs.Ordering.{is_lt, is_eq, ordering_reverse}
use Rattle.std.specs.Cmp.{tied_itself}
use Rattle.std.proofs.lemmas.Bool.{false≢true, false_from_ne_true, and_parts}
use Rattle.net_base.specs.Address.{same_address}
use Rattle.conn_table.specs.Index.{placed_below, same_placed}
use Rattle.conn_table.specs.declared.placed.Placed.{Placed}
use Rattle.conn_table.specs.contracts.placed.PlacedOrd.TheImpl.{ghosts}
use Rattle.conn_table.specs.contracts.placed.PlacedOrd.TheImpl.Laws.{total-law}
use Rattle.net_base.proofs.AddressOrder.{less, greater_back, same_number, same_address-is}

below_is : (a b : Placed) → is_lt (ghosts.cmp a b) ≡ placed_below a b
below_is a b = search rules

same_is : (a b : Placed) → is_eq (ghosts.cmp a b) ≡ same_placed a b
same_is a b = search rules

pub placed_irreflexive : (a : Placed) → placed_below a a ≡ false
placed_irreflexive a = sym (below_is a a) ∙ ap is_lt (tied_itself total-law a)

pub placed_transitive : (a b c : Placed) → placed_below a b ≡ true → placed_below b c ≡ true → placed_below a c ≡ true
placed_transitive a b c h k =
    sym (below_is a c) ∙ ap is_lt (total-law.trans a b c (less _ (below_is a b ∙ h)) (less _ (below_is b c ∙ k)))

pub placed_connected : (a b : Placed) → same_placed a b ≡ false → placed_below a b ≡ false → placed_below b a ≡ true
placed_connected a b h k =
    sym (below_is b a) ∙ (ap is_lt (total-law.antisymm b a) ∙ greater_back (ghosts.cmp a b) (same_is a b ∙ h) (below_is a b ∙ k))

pub same_placed-itself : (a : Placed) → same_placed a a ≡ true
same_placed-itself a = sym (same_is a a) ∙ ap is_eq (tied_itself total-law a)

pub other_when_below : (a b : Placed) → placed_below a b ≡ true → same_placed a b ≡ false
other_when_below a b h = other (ghosts.cmp a b) (same_is a b) (less _ (below_is a b ∙ h))
  where
    other : (r : Ordering) → is_eq r ≡ same_placed a b → r ≡ Less → same_placed a b ≡ false
    other r e l = sym e ∙ ap is_eq l

pub other_when_above : (a b : Placed) → placed_below b a ≡ true → same_placed a b ≡ false
other_when_above a b h = other (ghosts.cmp a b) (same_is a b) (total-law.antisymm a b ∙ ap ordering_reverse (less _ (below_is b a ∙ h)))
  where
    other : (r : Ordering) → is_eq r ≡ same_placed a b → r ≡ Greater → same_placed a b ≡ false
    other r e l = sym e ∙ ap is_eq l

pub never_both : (a b : Placed) → placed_below a b ≡ true → placed_below b a ≡ false
never_both a b h = false_from_ne_true (placed_below b a)
    (λ k. false≢true (sym (placed_irreflexive a) ∙ placed_transitive a b a h k))

pub same_placed-is : (a b : Placed) → same_placed a b ≡ true → a ≡ b
same_placed-is a b h =
    let parts = and_parts (same_address a.addr b.addr) (a.cid.0 == b.cid.0) h in
    λ i. record { addr = same_address-is a.addr b.addr parts.0 i; cid = record { 0 = same_number a.cid.0 b.cid.0 parts.1 i } }
