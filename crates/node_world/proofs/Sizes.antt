-- How long what is said is.
use Rattle.std.proofs.Common.{ℕ, ◌*◌, ◌≤◌, List, [], ◌∷◌, ◌++◌, length, length-append, inl, inr, ltb, arith}
use Rattle.std.proofs.lemmas.Bool.{cases_Bool}
use Rattle.std.specs.List.{flat_map}
use Rattle.cbor_items.specs.Head.{shortest_head}
use Rattle.net_base.specs.declared.address.Addr.{Addr}
use Rattle.net_base.specs.declared.address.Ip.{Ip}
use Rattle.net_base.specs.declared.address.Ip.TheVariants.{V4, V6}
use Rattle.warm_messages.specs.Address.{ip_numbers, address_numbers}
use Rattle.warm_messages.specs.Writing.{written_number, written_opening, written_address, written_addresses, written_peers}

-- no head has more than nine bytes
pub length-shortest_head : (major value : ℕ) → length (shortest_head major value) ≤ 9
unfolding shortest_head
length-shortest_head major value =
    elim (cases_Bool (ltb value 24)) [
      | inl a ↦ rw a (omega arith)
      | inr a ↦ elim (cases_Bool (ltb value 256)) [
        | inl b ↦ rw (a, b) (omega arith)
        | inr b ↦ elim (cases_Bool (ltb value 65536)) [
          | inl c ↦ rw (a, b, c) (omega arith)
          | inr c ↦ elim (cases_Bool (ltb value 4294967296)) [
            | inl d ↦ rw (a, b, c, d) (omega arith)
            | inr d ↦ rw (a, b, c, d) (omega arith)
          ]
        ]
      ]
    ]

length-written : (numbers : List ℕ) → length (flat_map written_number numbers) ≤ 9 * length numbers
length-written [] = omega arith
length-written (n ∷ ns) =
    omega (arith, length-append (written_number n) (flat_map written_number ns), length-shortest_head 0 n, length-written ns)

length-ip : (ip : Ip) (port : ℕ) → length (ip_numbers ip (port ∷ [])) ≤ 6
length-ip (V4 word) port = omega arith
length-ip (V6 ip) port = omega arith

-- a peers message with one address is short
pub length-written_peers : (addr : Addr) → length (written_peers (addr ∷ [])) ≤ 65528
length-written_peers addr =
    let numbers = address_numbers addr in
    omega (
      arith,
      length-append (written_opening 2) (written_number 1),
      length-append (written_opening 2 ++ written_number 1) (written_addresses (addr ∷ [])),
      length-append (written_opening 1) (flat_map written_address (addr ∷ [])),
      length-append (written_address addr) [],
      length-append (written_opening (length numbers)) (flat_map written_number numbers),
      length-shortest_head 4 2,
      length-shortest_head 0 1,
      length-shortest_head 4 1,
      length-shortest_head 4 (length numbers),
      length-written numbers,
      length-ip addr.ip addr.port,
    )
