-- The peers of a group, looked up one after the other, are those that a look through the book finds.
use Rattle.std.proofs.Common.{◌≡◌, ℕ, ◌+◌, ◌<◌, length, take, get_or, Bool, true, false, ◌&&◌, not, cond, List, [], ◌∷◌, ◌++◌, Option, Some, None, refl, sym, ap, ◌∙◌, subst, inl, inr}
use Rattle.std.specs.List.{AllByRecursion, IsDistinct, filter, filter_map, cons_option}
use Rattle.std.specs.List.Sorted.{IsPermutation}
use Rattle.std.specs.Option.{option_to_list}
use Rattle.std.proofs.lemmas.Bool.{cases_Bool}
use Rattle.std.proofs.lemmas.List.{take_more}
use Rattle.std.proofs.lemmas.List.Elements.{filter_map-append}
use Rattle.std.proofs.lemmas.List.Sorted.{IsPermutation-refl, IsPermutation-trans, IsPermutation-append, IsPermutation-filter_both}
use Rattle.net_base.specs.Address.{same_address}
use Rattle.net_base.specs.declared.address.Addr.{Addr}
use Rattle.net_base.specs.declared.peer.Peer.{Peer}
use Rattle.peer_book.specs.Book.{has_address, peer_at, addresses_of}
use Rattle.root_groups.specs.Cleaned.{is_listed}
use Rattle.root_groups.proofs.Listed.{same_address_equiv, same_address-turn}
use Rattle.govern_rules.specs.Members.{peers_with}
use Rattle.govern_rules.specs.Search.{lookups}

-- ---- filters one after the other

pub filter-twice : {X : Type 0} (p q : X → Bool) (xs : List X) → filter p (filter q xs) ≡ filter (λ x. q x && p x) xs
filter-twice p q [] = refl
filter-twice p q (x ∷ xs) = elim (cases_Bool (q x)) [
  | inl kept ↦ rw kept (ap (λ l. cond (p x) (x ∷ l) l) (filter-twice p q xs))
  | inr gone ↦ rw gone (filter-twice p q xs)
]

pub filter-same : {X : Type 0} (p q : X → Bool) → ((x : X) → p x ≡ q x) → (xs : List X) → filter p xs ≡ filter q xs
filter-same p q same xs = λ i. filter (λ x. same x i) xs

-- ---- the peer with an address

nobody : (a : Addr) (peers : List Peer) → AllByRecursion (λ b. same_address a b ≡ false) (addresses_of peers) → filter (has_address a) peers ≡ []
nobody a [] h = refl
nobody a (p ∷ peers) h = rw (same_address-turn p.addr a ∙ h.0) (nobody a peers h.1)

same_apart : (a b : Addr) (xs : List Addr) → same_address a b ≡ true → AllByRecursion (λ c. same_address a c ≡ false) xs →
    AllByRecursion (λ c. same_address b c ≡ false) xs
same_apart a b [] same h = tt
same_apart a b (x ∷ xs) same h = (sym (same_address_equiv.congr a b x same) ∙ h.0, same_apart a b xs same h.1)

pub the_peer : (a : Addr) (peers : List Peer) → IsDistinct same_address (addresses_of peers) → filter (has_address a) peers ≡ option_to_list (peer_at a peers)
unfolding IsDistinct
the_peer a [] h = refl
the_peer a (p ∷ peers) h = elim (cases_Bool (same_address p.addr a)) [
  | inl same ↦ rw same (ap (λ l. p ∷ l) (nobody a peers (same_apart p.addr a (addresses_of peers) same h.0)))
  | inr other ↦ rw other (the_peer a peers h.1)
]

-- ---- one address after the other

listed_apart : (a b : Addr) (addrs : List Addr) → AllByRecursion (λ c. same_address a c ≡ false) addrs → same_address b a ≡ true → is_listed b addrs ≡ false
listed_apart a b [] h same = refl
listed_apart a b (c ∷ addrs) h same =
    rw (same_address_equiv.congr b a c same ∙ h.0) (listed_apart a b addrs h.1 same)

-- those of the front address, and those of the others
is_front : (a : Addr) (addrs : List Addr) (b : Addr) → (is_listed b (a ∷ addrs) && same_address b a) ≡ same_address b a
is_front a addrs b = elim (cases_Bool (same_address b a)) [ inl same ↦ rw same refl | inr other ↦ rw other (and_false (is_listed b addrs)) ]
  where
    and_false : (c : Bool) → (c && false) ≡ false
    and_false true = refl
    and_false false = refl

is_other : (a : Addr) (addrs : List Addr) → AllByRecursion (λ c. same_address a c ≡ false) addrs → (b : Addr) →
    (is_listed b (a ∷ addrs) && not (same_address b a)) ≡ is_listed b addrs
is_other a addrs apart b = elim (cases_Bool (same_address b a)) [
  | inl same ↦ rw (same, listed_apart a b addrs apart same) refl
  | inr other ↦ rw other (and_true (is_listed b addrs))
]
  where
    and_true : (c : Bool) → (c && true) ≡ c
    and_true true = refl
    and_true false = refl

one_more : (a : Addr) (addrs : List Addr) (peers : List Peer) → filter_map (λ b. peer_at b peers) (a ∷ addrs) ≡ option_to_list (peer_at a peers) ++ filter_map (λ b. peer_at b peers) addrs
one_more a addrs peers = by_cases (peer_at a peers) (filter_map (λ b. peer_at b peers) addrs)
  where
    by_cases : (o : Option Peer) (l : List Peer) → cons_option o l ≡ option_to_list o ++ l
    by_cases None l = refl
    by_cases (Some p) l = refl

pub found_members : (addrs : List Addr) (peers : List Peer) → IsDistinct same_address addrs → IsDistinct same_address (addresses_of peers) →
    IsPermutation (peers_with addrs peers) (lookups peers addrs)
unfolding IsDistinct
found_members [] peers apart distinct = subst (λ l. IsPermutation l []) (sym (none peers)) (IsPermutation-refl [])
  where
    none : (peers : List Peer) → peers_with [] peers ≡ []
    none [] = refl
    none (p ∷ peers) = none peers
found_members (a ∷ addrs) peers apart distinct =
    let listed : Peer → Bool = λ p. is_listed p.addr (a ∷ addrs) in
    let split : IsPermutation (filter listed peers) (filter (has_address a) (filter listed peers) ++ filter (λ p. not (has_address a p)) (filter listed peers)) =
    IsPermutation-filter_both (has_address a) (λ p. not (has_address a p)) (λ p. refl) (filter listed peers) in
    let front : filter (has_address a) (filter listed peers) ≡ option_to_list (peer_at a peers) =
    filter-twice (has_address a) listed peers
    ∙ (filter-same (λ p. listed p && has_address a p) (has_address a) (λ p. is_front a addrs p.addr) peers ∙ the_peer a peers distinct) in
    let back : filter (λ p. not (has_address a p)) (filter listed peers) ≡ peers_with addrs peers =
    filter-twice (λ p. not (has_address a p)) listed peers
    ∙ filter-same (λ p. listed p && not (has_address a p)) (λ p. is_listed p.addr addrs) (λ p. is_other a addrs apart.0 p.addr) peers in
    let rest = IsPermutation-append _ _ _ _ (IsPermutation-refl (option_to_list (peer_at a peers))) (found_members addrs peers apart.1 distinct) in
    subst (IsPermutation (filter listed peers)) (sym (one_more a addrs peers))
    (IsPermutation-trans _ _ _ (subst (λ l. IsPermutation (filter listed peers) (l ++ peers_with addrs peers)) front
    (subst (λ l. IsPermutation (filter listed peers) (filter (has_address a) (filter listed peers) ++ l)) back split)) rest)

-- ---- one look-up more

pub lookups-more : (peers : List Peer) (addrs : List Addr) (i : ℕ) (d : Addr) (found : Option Peer) → i < length addrs →
    peer_at (get_or addrs i d) peers ≡ found → lookups peers (take (i + 1) addrs) ≡ lookups peers (take i addrs) ++ option_to_list found
lookups-more peers addrs i d found inside is =
    ap (lookups peers) (take_more addrs i d inside)
    ∙ (filter_map-append (λ b. peer_at b peers) (take i addrs) (get_or addrs i d ∷ [])
    ∙ ap (λ o. lookups peers (take i addrs) ++ o) (alone (peer_at (get_or addrs i d) peers) ∙ ap option_to_list is))
  where
    alone : (o : Option Peer) → cons_option o [] ≡ option_to_list o
    alone None = refl
    alone (Some p) = refl
