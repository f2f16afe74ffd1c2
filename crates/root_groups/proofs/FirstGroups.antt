-- Cleaning leaves each address in the first group that has it.
use Rattle.std.proofs.Common.{◌≡◌, ℕ, ◌+◌, true, false, ◌||◌, cond, List, [], ◌∷◌, ◌++◌, map, refl, sym, ap, ◌∙◌, inl, inr}
use Rattle.std.specs.List.{position_from}
use Rattle.std.proofs.lemmas.Bool.{cases_Bool, false≢true, false_from_ne_true}
use Rattle.std.proofs.lemmas.Iterator.Adapters.{position_from-zero}
use Rattle.net_base.specs.Address.{same_address}
use Rattle.net_base.specs.declared.address.Addr.{Addr}
use Rattle.net_base.specs.declared.event.Group.{Group}
use Rattle.root_groups.specs.Cleaned.{is_listed, first_places, cleaned_after, cleaned, group_of, without_members}
use Rattle.root_groups.proofs.Listed.{same_address_equiv, listed-push}

listed_same : (a b : Addr) → same_address a b ≡ true → (xs : List Addr) → is_listed a xs ≡ is_listed b xs
listed_same a b same [] = refl
listed_same a b same (x ∷ xs) =
    ap (λ t. t || is_listed a xs) (same_address_equiv.congr a b x same) ∙ ap (λ t. same_address b x || t) (listed_same a b same xs)

apart : (a b : Addr) (xs : List Addr) → is_listed a xs ≡ false → is_listed b xs ≡ true → same_address a b ≡ false
apart a b xs out inside =
    false_from_ne_true (same_address a b) (λ same. false≢true (sym out ∙ (listed_same a b same xs ∙ inside)))

listed-append : (a : Addr) (xs ys : List Addr) → is_listed a xs ≡ false → is_listed a (xs ++ ys) ≡ is_listed a ys
listed-append a [] ys out = refl
listed-append a (x ∷ xs) ys out = elim (cases_Bool (same_address a x)) [
  | inl same ↦ absurd (false≢true (sym out ∙ ap (λ t. t || is_listed a xs) same))
  | inr other ↦ rw other (listed-append a xs ys (sym (ap (λ t. t || is_listed a xs) other) ∙ out))
]

-- an address that did not come before keeps a place
listed-first_places : (a : Addr) (before addrs : List Addr) → is_listed a before ≡ false →
    is_listed a (first_places before addrs) ≡ is_listed a addrs
unfolding first_places
listed-first_places a before [] out = refl
listed-first_places a before (x ∷ xs) out = elim (cases_Bool (is_listed x before)) [
  | inl inside ↦ rw (inside, apart a x before out inside) (listed-first_places a before xs out)
  | inr new ↦ rw new (elim (cases_Bool (same_address a x)) [
    | inl same ↦ rw same refl
    | inr other ↦ rw other (listed-first_places a (before ++ x ∷ []) xs (listed-push a x before ∙ (ap (λ t. cond t true (is_listed a before)) other ∙ out)))
  ])
]

first_group : (a : Addr) (before : List Addr) (n : ℕ) (groups : List Group) → is_listed a before ≡ false →
    position_from (λ g. is_listed a g.members) n (cleaned_after before groups) ≡ position_from (λ g. is_listed a g.members) n groups
unfolding cleaned_after
first_group a before n [] out = refl
first_group a before n (g ∷ groups) out =
    let kept : List Addr = first_places before g.members in
    let same : is_listed a kept ≡ is_listed a g.members = listed-first_places a before g.members out in
    elim (cases_Bool (is_listed a g.members)) [
      | inl inside ↦ rw (same, inside) refl
      | inr outside ↦ rw (same, outside) (first_group a (before ++ kept) (n + 1) groups (listed-append a before kept out ∙ (same ∙ outside)))
    ]

pub group_of-cleaned : (own a : Addr) (groups : List Group) → same_address a own ≡ false → group_of a (cleaned own groups) ≡ group_of a groups
group_of-cleaned own a groups other =
    position_from-zero (λ g. is_listed a g.members) (cleaned own groups)
    ∙ (first_group a (own ∷ []) 0 groups (ap (λ t. t || false) other)
    ∙ sym (position_from-zero (λ g. is_listed a g.members) groups))

without_members-cleaned_after : (before : List Addr) (groups : List Group) →
    map without_members (cleaned_after before groups) ≡ map without_members groups
unfolding cleaned_after
without_members-cleaned_after before [] = refl
without_members-cleaned_after before (g ∷ groups) =
    ap (λ l. without_members g ∷ l) (without_members-cleaned_after (before ++ first_places before g.members) groups)

pub without_members-cleaned : (own : Addr) (groups : List Group) → map without_members (cleaned own groups) ≡ map without_members groups
without_members-cleaned own groups = without_members-cleaned_after (own ∷ []) groups
