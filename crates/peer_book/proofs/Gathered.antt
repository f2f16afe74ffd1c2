-- Peers that leave together.
use Rattle.std.proofs.Common.{◌≡◌, Bool, true, false, ◌||◌, not, cond, List, [], ◌∷◌, refl, sym, ap, ◌∙◌, inl, inr}
use Rattle.std.specs.List.{filter}
use Rattle.std.proofs.lemmas.Bool.{cases_Bool}
use Rattle.net_base.specs.Address.{same_address}
use Rattle.net_base.specs.declared.address.Addr.{Addr}
use Rattle.net_base.specs.declared.peer.Peer.{Peer}
use Rattle.net_base.proofs.AddressOrder.{same_address-is, same_address-itself, other_address-turn}
use Rattle.peer_book.specs.Addresses.{has_address, with_address}
use Rattle.peer_book.specs.Book.{without_all, without_peer}
use Rattle.peer_book.specs.Leaving.{others_than}
use Rattle.peer_book.specs.Order.{IsRising}
use Rattle.peer_book.proofs.Edits.{IsRising-put_in, stands-put_in}

turned : (a b : Addr) → same_address a b ≡ same_address b a
turned a b = elim (cases_Bool (same_address a b)) [
  | inl same ↦ same ∙ sym (ap (λ x. same_address x a) (sym (same_address-is a b same)) ∙ same_address-itself a)
  | inr other ↦ other ∙ sym (other_address-turn a b other)
]

or_true : (b : Bool) → b || true ≡ true
or_true true = refl
or_true false = refl

or_false : (b : Bool) → b || false ≡ b
or_false true = refl
or_false false = refl

-- ---- the addresses that are gathered

has-first : (addr a : Addr) (addrs : List Addr) → has_address addr (a ∷ addrs) ≡ (same_address a addr || has_address addr addrs)
has-first addr a addrs = elim (cases_Bool (same_address a addr)) [ inl same ↦ rw same refl | inr other ↦ rw other refl ]

-- some addresses of a list are gathered, the rest are still to come
pub record Gathering (all rest keys : List Addr) : Type 0 where
  pub rising : IsRising (λ a. a) keys
  pub same : (addr : Addr) → has_address addr all ≡ (has_address addr keys || has_address addr rest)

pub gathering-first : (all : List Addr) → Gathering all all []
gathering-first all = record { rising = tt; same = λ addr. refl }

there_already : (addr a : Addr) (rest keys : List Addr) → has_address a keys ≡ true →
    (has_address addr keys || has_address addr (a ∷ rest)) ≡ (has_address addr keys || has_address addr rest)
there_already addr a rest keys there = elim (cases_Bool (same_address a addr)) [
  | inl same ↦
      let held : has_address addr keys ≡ true = ap (λ x. has_address x keys) (sym (same_address-is a addr same)) ∙ there in
      rw held refl
  | inr other ↦ ap (λ b. has_address addr keys || b) (has-first addr a rest ∙ ap (λ b. b || has_address addr rest) other)
]

comes_in : (addr a : Addr) (rest keys : List Addr) →
    (has_address addr keys || has_address addr (a ∷ rest)) ≡ (has_address addr (with_address a keys) || has_address addr rest)
comes_in addr a rest keys =
    ap (λ b. has_address addr keys || b) (has-first addr a rest)
    ∙ (swapped (has_address addr keys) (same_address a addr) (has_address addr rest)
    ∙ sym (ap (λ b. b || has_address addr rest) (stands-put_in (λ x. x) addr a keys)))
  where
    swapped : (b c d : Bool) → (b || (c || d)) ≡ ((c || b) || d)
    swapped true c d = sym (ap (λ x. x || d) (or_true c))
    swapped false c d = sym (ap (λ x. x || d) (or_false c))

pub gathering-next : (all : List Addr) (a : Addr) (rest keys next : List Addr) → Gathering all (a ∷ rest) keys →
    next ≡ cond (has_address a keys) keys (with_address a keys) → Gathering all rest next
gathering-next all a rest keys next so_far is = elim (cases_Bool (has_address a keys)) [
  | inl there ↦
      let e : next ≡ keys = is ∙ ap (λ b. cond b keys (with_address a keys)) there in
      rw e (record { rising = so_far.rising; same = λ addr. so_far.same addr ∙ there_already addr a rest keys there })
  | inr absent ↦
      let e : next ≡ with_address a keys = is ∙ ap (λ b. cond b keys (with_address a keys)) absent in
      rw e (record {
        rising = IsRising-put_in (λ x. x) a keys so_far.rising absent;
        same = λ addr. so_far.same addr ∙ comes_in addr a rest keys;
      })
]

pub gathering-end : (all keys : List Addr) → Gathering all [] keys → (addr : Addr) → has_address addr keys ≡ has_address addr all
gathering-end all keys so_far addr = sym (so_far.same addr ∙ or_false (has_address addr keys))

-- ---- the peers that are left

others_than-none : (peers : List Peer) → others_than [] peers ≡ peers
others_than-none [] = refl
others_than-none (p ∷ peers) = ap (λ l. p ∷ l) (others_than-none peers)

others_than-more : (a : Addr) (addrs : List Addr) (peers : List Peer) → others_than addrs (without_peer a peers) ≡ others_than (a ∷ addrs) peers
others_than-more a addrs [] = refl
others_than-more a addrs (p ∷ peers) = elim (cases_Bool (same_address p.addr a)) [
  | inl same ↦
      let here : same_address a p.addr ≡ true = turned a p.addr ∙ same in
      rw (same, here) (others_than-more a addrs peers)
  | inr other ↦
      let elsewhere : same_address a p.addr ≡ false = turned a p.addr ∙ other in
      rw (other, elsewhere) (ap (λ l. cond (not (has_address p.addr addrs)) (p ∷ l) l) (others_than-more a addrs peers))
]

pub without_all-is : (addrs : List Addr) (peers : List Peer) → without_all addrs peers ≡ others_than addrs peers
without_all-is [] peers = sym (others_than-none peers)
without_all-is (a ∷ addrs) peers = without_all-is addrs (without_peer a peers) ∙ others_than-more a addrs peers

pub others_than-same : (addrs gathered : List Addr) (peers : List Peer) → ((addr : Addr) → has_address addr gathered ≡ has_address addr addrs) →
    others_than gathered peers ≡ without_all addrs peers
others_than-same addrs gathered peers same =
    (λ i. filter (λ p. not (same p.addr i)) peers) ∙ sym (without_all-is addrs peers)
