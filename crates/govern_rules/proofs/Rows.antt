-- What the rows of the book find.
use Rattle.std.proofs.Common.{◌≡◌, Bool, true, false, ◌&&◌, not, List, [], ◌∷◌, ◌++◌, Some, refl, sym, ap, ◌∙◌, subst, inl, inr}
use Rattle.std.specs.List.{AllByRecursion, IsDistinct, filter}
use Rattle.std.specs.List.Sorted.{IsPermutation}
use Rattle.std.proofs.Math.Bool.{and_comm}
use Rattle.std.proofs.lemmas.Bool.{cases_Bool, false≢true}
use Rattle.std.proofs.lemmas.List.Sorted.{IsPermutation-filter_both, IsPermutation-refl}
use Rattle.net_base.specs.Address.{same_address}
use Rattle.net_base.specs.declared.peer.Peer.{Peer}
use Rattle.net_base.specs.declared.peer.Temp.{Temp}
use Rattle.net_base.specs.declared.peer.Temp.TheVariants.{Cold, Warm, Hot}
use Rattle.net_base.proofs.AddressOrder.{same_address-itself}
use Rattle.peer_book.specs.Book.{addresses_of, peer_at, listed_at, same_temp, is_established}
use Rattle.govern_rules.specs.Search.{lookups}
use Rattle.govern_rules.proofs.FoundMembers.{filter-twice, filter-same}

-- ---- each peer is found at its own address

later : (p : Peer) (peers xs : List Peer) → AllByRecursion (λ b. same_address p.addr b ≡ false) (addresses_of xs) →
    AllByRecursion (λ q. peer_at q.addr peers ≡ Some q) xs → AllByRecursion (λ q. peer_at q.addr (p ∷ peers) ≡ Some q) xs
later p peers [] apart h = tt
later p peers (q ∷ xs) apart h = (rw apart.0 h.0, later p peers xs apart.1 h.1)

pub at_own : (peers : List Peer) → IsDistinct same_address (addresses_of peers) → AllByRecursion (λ p. peer_at p.addr peers ≡ Some p) peers
unfolding IsDistinct
at_own [] h = tt
at_own (p ∷ peers) h = (rw (same_address-itself p.addr) refl, later p peers peers h.0 (at_own peers h.1))

own-filter : (test : Peer → Bool) (peers xs : List Peer) → AllByRecursion (λ p. peer_at p.addr peers ≡ Some p) xs →
    AllByRecursion (λ p. peer_at p.addr peers ≡ Some p) (filter test xs)
own-filter test peers [] h = tt
own-filter test peers (p ∷ xs) h = elim (cases_Bool (test p)) [
  | inl kept ↦ rw kept (h.0, own-filter test peers xs h.1)
  | inr gone ↦ rw gone (own-filter test peers xs h.1)
]

lookups-own : (peers xs : List Peer) → AllByRecursion (λ p. peer_at p.addr peers ≡ Some p) xs → lookups peers (addresses_of xs) ≡ xs
lookups-own peers [] h = refl
lookups-own peers (p ∷ xs) h = rw h.0 (ap (λ l. p ∷ l) (lookups-own peers xs h.1))

row-found : (temp : Temp) (peers : List Peer) → IsDistinct same_address (addresses_of peers) →
    lookups peers (listed_at temp peers) ≡ filter (λ p. same_temp p.temp temp) peers
row-found temp peers distinct =
    lookups-own peers (filter (λ p. same_temp p.temp temp) peers)
    (own-filter (λ p. same_temp p.temp temp) peers peers (at_own peers distinct))

-- ---- those of a row that pass a test

narrowed : (a b : Bool) → (b ≡ true → a ≡ true) → (a && b) ≡ b
narrowed true b h = refl
narrowed false true h = absurd (false≢true (h refl))
narrowed false false h = refl

-- where whoever passes has the temperature
pub among-row : (temp : Temp) (test : Peer → Bool) (peers : List Peer) → ((p : Peer) → test p ≡ true → same_temp p.temp temp ≡ true) →
    IsDistinct same_address (addresses_of peers) → filter test (lookups peers (listed_at temp peers)) ≡ filter test peers
among-row temp test peers only distinct =
    ap (filter test) (row-found temp peers distinct)
    ∙ (filter-twice test (λ p. same_temp p.temp temp) peers
    ∙ filter-same (λ p. same_temp p.temp temp && test p) test (λ p. narrowed (same_temp p.temp temp) (test p) (only p)) peers)

-- where whoever passes is warm or hot
pub among-both : (test : Peer → Bool) (peers : List Peer) → ((p : Peer) → test p ≡ true → is_established p.temp ≡ true) →
    IsDistinct same_address (addresses_of peers) →
    IsPermutation (filter test peers) (filter test (lookups peers (listed_at Warm peers)) ++ filter test (lookups peers (listed_at Hot peers)))
among-both test peers only distinct =
    let warm : Peer → Bool = λ p. same_temp p.temp Warm in
    let hot : Peer → Bool = λ p. same_temp p.temp Hot in
    let split : IsPermutation (filter test peers) (filter warm (filter test peers) ++ filter (λ p. not (warm p)) (filter test peers)) =
    IsPermutation-filter_both warm (λ p. not (warm p)) (λ p. refl) (filter test peers) in
    let front : filter warm (filter test peers) ≡ filter test (lookups peers (listed_at Warm peers)) =
    filter-twice warm test peers
    ∙ (filter-same (λ p. test p && warm p) (λ p. warm p && test p) (λ p. and_comm (test p) (warm p)) peers
    ∙ (sym (filter-twice test warm peers) ∙ ap (filter test) (sym (row-found Warm peers distinct)))) in
    let back : filter (λ p. not (warm p)) (filter test peers) ≡ filter test (lookups peers (listed_at Hot peers)) =
    filter-twice (λ p. not (warm p)) test peers
    ∙ (filter-same (λ p. test p && not (warm p)) (λ p. hot p && test p) (λ p. not_warm p.temp (test p) (only p)) peers
    ∙ (sym (filter-twice test hot peers) ∙ ap (filter test) (sym (row-found Hot peers distinct)))) in
    subst (λ l. IsPermutation (filter test peers) (l ++ filter test (lookups peers (listed_at Hot peers)))) front
    (subst (λ l. IsPermutation (filter test peers) (filter warm (filter test peers) ++ l)) back split)
  where
    not_warm : (t : Temp) (b : Bool) → (b ≡ true → is_established t ≡ true) → (b && not (same_temp t Warm)) ≡ (same_temp t Hot && b)
    not_warm Cold true h = absurd (false≢true (h refl))
    not_warm Cold false h = refl
    not_warm Warm true h = refl
    not_warm Warm false h = refl
    not_warm Hot true h = refl
    not_warm Hot false h = refl

pub permuted : (xs ys : List Peer) → ys ≡ xs → IsPermutation xs ys
permuted xs ys same = subst (IsPermutation xs) (sym same) (IsPermutation-refl xs)
