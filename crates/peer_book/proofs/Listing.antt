-- The addresses of each temperature, after a change of the peers.
use Rattle.std.proofs.Common.{◌≡◌, ◌<◌, ◌≤◌, ◌==◌, Bool, true, false, cond, List, [], ◌∷◌, map, length, Some, refl, sym, ap, ◌∙◌, subst, inl, inr, arith}
use Rattle.std.specs.List.{filter}
use Rattle.std.proofs.lemmas.Bool.{cases_Bool}
use Rattle.std.proofs.lemmas.Bool.Decides.{nat_tests}
use Rattle.std.proofs.lemmas.List.{length-map}
use Rattle.net_base.specs.Address.{same_address}
use Rattle.net_base.specs.declared.address.Addr.{Addr}
use Rattle.net_base.specs.declared.peer.Peer.{Peer}
use Rattle.net_base.specs.declared.peer.Temp.{Temp}
use Rattle.peer_book.specs.Addresses.{has_address, with_address, without_address}
use Rattle.peer_book.specs.Book.{peer_at, with_peer, without_peer, with_new, same_temp, temp_place, listed_at}
use Rattle.peer_book.specs.Order.{IsRising}
use Rattle.peer_book.specs.Rows.{moved}
use Rattle.net_base.proofs.AddressOrder.{same_address-is}
use Rattle.peer_book.proofs.Edits.{IsRising-filter, IsRising-map, filter-put_in, map-put_in, filter-taken_out, map-taken_out, filter-without, filter-replaced, filter-within, stands-filter, length-taken_out}
use Rattle.peer_book.proofs.Places.{replaced-two_steps}

abbrev pub address_of : Peer → Addr
address_of p = p.addr

abbrev pub InOrder : List Peer → Type 0
InOrder peers = IsRising (λ p. p.addr) peers

-- the peers of a temperature
abbrev pub at_temp : Temp → Peer → Bool
at_temp temp p = same_temp p.temp temp

pub same_temp-itself : (t : Temp) → same_temp t t ≡ true
same_temp-itself t = grind (arith, nat_tests)

same_temp-is : (a b : Temp) → same_temp a b ≡ true → temp_place a ≡ temp_place b
same_temp-is a b h = grind (arith, nat_tests)

-- a peer that was found has the address
found_has : (addr : Addr) (old : Peer) (peers : List Peer) → peer_at addr peers ≡ Some old → same_address old.addr addr ≡ true
found_has addr old [] found = cc
found_has addr old (p ∷ peers) found = elim (cases_Bool (same_address p.addr addr)) [
  | inl same ↦ let here : Some p ≡ Some old = rw same at found in let is : p ≡ old = cc in subst (λ v. same_address v.addr addr ≡ true) is same
  | inr other ↦ found_has addr old peers (rw other at found)
]

pub found_address : (addr : Addr) (old : Peer) (peers : List Peer) → peer_at addr peers ≡ Some old → old.addr ≡ addr
found_address addr old peers found = same_address-is old.addr addr (found_has addr old peers found)

pub listed-rises : (temp : Temp) (peers : List Peer) → InOrder peers → IsRising (λ a. a) (listed_at temp peers)
listed-rises temp peers rises = IsRising-map address_of (filter (at_temp temp) peers) (IsRising-filter address_of (at_temp temp) peers rises)

pub listed-within : (temp : Temp) (peers : List Peer) → length (listed_at temp peers) ≤ length peers
listed-within temp peers = omega (arith, length-map (filter (at_temp temp) peers) address_of, filter-within (at_temp temp) peers)

-- where a peer of another temperature stands, not all are listed
pub listed-below : (temp : Temp) (addr : Addr) (old : Peer) (peers : List Peer) → InOrder peers → peer_at addr peers ≡ Some old →
    same_temp old.temp temp ≡ false → length (listed_at temp peers) < length peers
listed-below temp addr old peers rises found other =
    let without = filter-without address_of (at_temp temp) addr old peers rises found other in
    omega (
      arith,
      length-map (filter (at_temp temp) peers) address_of,
      ap length without,
      filter-within (at_temp temp) (without_peer addr peers),
      length-taken_out address_of addr old peers rises found,
    )

pub listed-has : (addr : Addr) (old : Peer) (peers : List Peer) → peer_at addr peers ≡ Some old →
    has_address addr (listed_at old.temp peers) ≡ true
listed-has addr old peers found = stands-filter address_of (at_temp old.temp) addr old peers found (same_temp-itself old.temp)

-- ---- one more peer

map_cond : (b : Bool) (new : Peer) (ps : List Peer) →
    map address_of (cond b (with_new new ps) ps) ≡ cond b (with_address new.addr (map address_of ps)) (map address_of ps)
map_cond true new ps = map-put_in address_of new ps
map_cond false new ps = refl

pub listed-with_new : (temp : Temp) (new : Peer) (peers : List Peer) → InOrder peers →
    listed_at temp (with_new new peers) ≡ cond (same_temp new.temp temp) (with_address new.addr (listed_at temp peers)) (listed_at temp peers)
listed-with_new temp new peers rises =
    ap (map address_of) (filter-put_in address_of (at_temp temp) new peers rises) ∙ map_cond (same_temp new.temp temp) new (filter (at_temp temp) peers)

-- ---- one peer less

listed-taken_out : (temp : Temp) (addr : Addr) (peers : List Peer) → listed_at temp (without_peer addr peers) ≡ without_address addr (listed_at temp peers)
listed-taken_out temp addr peers =
    ap (map address_of) (filter-taken_out address_of (at_temp temp) addr peers) ∙ map-taken_out address_of addr (filter (at_temp temp) peers)

listed-unchanged : (temp : Temp) (addr : Addr) (old : Peer) (peers : List Peer) → InOrder peers → peer_at addr peers ≡ Some old →
    same_temp old.temp temp ≡ false → listed_at temp (without_peer addr peers) ≡ listed_at temp peers
listed-unchanged temp addr old peers rises found other = ap (map address_of) (filter-without address_of (at_temp temp) addr old peers rises found other)

pub listed-without : (temp : Temp) (addr : Addr) (old : Peer) (peers : List Peer) → InOrder peers → peer_at addr peers ≡ Some old →
    listed_at temp (without_peer addr peers) ≡ cond (same_temp old.temp temp) (without_address addr (listed_at temp peers)) (listed_at temp peers)
listed-without temp addr old peers rises found = elim (cases_Bool (same_temp old.temp temp)) [
  | inl same ↦ rw same (listed-taken_out temp addr peers)
  | inr other ↦ rw other (listed-unchanged temp addr old peers rises found other)
]

-- ---- one peer turned into another

pub with_peer-two_steps : (old new : Peer) (peers : List Peer) → InOrder peers → peer_at new.addr peers ≡ Some old →
    with_peer new peers ≡ with_new new (without_peer new.addr peers)
with_peer-two_steps old new peers rises found = replaced-two_steps address_of new peers rises (rw found refl)

other_temp : (a b t : Temp) → same_temp a b ≡ false → same_temp a t ≡ true → same_temp b t ≡ false
other_temp a b t h k = grind (arith, nat_tests)

one_temp : (a b t : Temp) → same_temp a b ≡ true → same_temp b t ≡ same_temp a t
one_temp a b t h = ap (λ n. n == temp_place t) (sym (same_temp-is a b h))

pub listed-with_peer : (temp : Temp) (old new : Peer) (peers : List Peer) → InOrder peers → peer_at new.addr peers ≡ Some old →
    new.addr ≡ old.addr → listed_at temp (with_peer new peers) ≡ moved old.temp new.temp new.addr temp (listed_at temp peers)
listed-with_peer temp old new peers rises found same_addr =
    let rest : List Peer = without_peer new.addr peers in
    let rest_rises : InOrder rest = IsRising-filter address_of _ peers rises in
    let steps = ap (listed_at temp) (with_peer-two_steps old new peers rises found) ∙ listed-with_new temp new rest rest_rises in
    elim (cases_Bool (same_temp old.temp new.temp)) [
      | inl stays ↦ rw stays (filter-replaced address_of (at_temp temp) new.addr old new peers rises found same_addr (one_temp old.temp new.temp temp stays))
      | inr turns ↦ elim (cases_Bool (same_temp old.temp temp)) [
        | inl leaves ↦ rw (turns, leaves)
            (steps ∙ rw (other_temp old.temp new.temp temp turns leaves) (listed-taken_out temp new.addr peers))
        | inr never ↦ rw (turns, never)
            (steps ∙ ap (λ l. cond (same_temp new.temp temp) (with_address new.addr l) l) (listed-unchanged temp new.addr old peers rises found never))
      ]
    ]
