-- What a sorted set of addresses holds, and what one more makes of it.
use Rattle.std.proofs.Common.{◌≡◌, Bool, true, false, ◌||◌, cond, List, [], ◌∷◌, is_some, Some, find, refl, sym, ap, ◌∙◌, inl, inr}
use Rattle.std.specs.BTreeSet.{insert_key}
use Rattle.std.specs.List.{list_any}
use Rattle.std.specs.Ordering.{is_eq, is_lt, match_ordering}
use Rattle.std.specs.declared.cmp.Ordering.{Ordering}
use Rattle.std.specs.declared.cmp.Ordering.TheVariants.{Less, Equal, Greater}
use Rattle.std.proofs.lemmas.Bool.{cases_Bool, true≢false}
use Rattle.net_base.specs.Address.{same_address, address_below}
use Rattle.net_base.specs.contracts.address.AddrOrd.TheImpl.{ghosts}
use Rattle.net_base.specs.declared.address.Addr.{Addr}
use Rattle.net_base.proofs.AddressOrder.{below_is, same_is, never_both, address_connected, other_address-turn, same_address-is}
use Rattle.peer_book.specs.Addresses.{has_address, with_address}

same_address-turn : (a b : Addr) → same_address a b ≡ same_address b a
same_address-turn a b = elim (cases_Bool (same_address a b)) [
  | inl same ↦ ap (λ x. same_address x b) (same_address-is a b same) ∙ ap (same_address b) (sym (same_address-is a b same))
  | inr other ↦ other ∙ sym (other_address-turn a b other)
]

found_first : (b : Bool) (k : Addr) (keys : List Addr) (addr : Addr) → is_some (cond b (Some k) (find (λ x. same_address x addr) keys)) ≡ (b || has_address addr keys)
found_first true k keys addr = refl
found_first false k keys addr = refl

pub held-is : (addr : Addr) (keys : List Addr) → list_any (λ k. is_eq (ghosts.cmp addr k)) keys ≡ has_address addr keys
held-is addr [] = refl
held-is addr (k ∷ keys) =
    ap (λ b. b || list_any (λ x. is_eq (ghosts.cmp addr x)) keys) (same_is addr k ∙ same_address-turn addr k)
    ∙ (ap (λ b. same_address k addr || b) (held-is addr keys) ∙ sym (found_first (same_address k addr) k keys addr))

-- what isn't in a list is neither its first nor in the rest
pub apart : (addr k : Addr) (keys : List Addr) → has_address addr (k ∷ keys) ≡ false → (same_address k addr ≡ false) × (has_address addr keys ≡ false)
apart addr k keys absent = elim (cases_Bool (same_address k addr)) [
  | inl same ↦ absurd (true≢false (rw same at absent))
  | inr other ↦ (other, rw other at absent)
]

-- an address that isn't there goes to its place
pub noted-is : (addr : Addr) (keys : List Addr) → has_address addr keys ≡ false → insert_key ghosts.cmp keys addr ≡ with_address addr keys
noted-is addr [] absent = refl
noted-is addr (k ∷ keys) absent =
    let parts = apart addr k keys absent in
    by (ghosts.cmp addr k) (same_is addr k ∙ (same_address-turn addr k ∙ parts.0)) (below_is addr k) (noted-is addr keys parts.1)
  where
    by : (r : Ordering) → is_eq r ≡ false → is_lt r ≡ address_below addr k → insert_key ghosts.cmp keys addr ≡ with_address addr keys →
        match_ordering r (addr ∷ k ∷ keys) (k ∷ keys) (k ∷ insert_key ghosts.cmp keys addr) ≡ with_address addr (k ∷ keys)
    by Less other under later = rw (never_both addr k (sym under)) refl
    by Equal other under later = absurd (true≢false other)
    by Greater other over later =
        let other_one = other_address-turn k addr (apart addr k keys absent).0 in
        rw (address_connected addr k other_one (sym over)) (ap (λ l. k ∷ l) later)
