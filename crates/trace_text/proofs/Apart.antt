-- Which bytes a printed number, address or piece can't hold.
use Rattle.std.proofs.Common.{◌≡◌, ◌≢◌, ℕ, zero, suc, ◌/◌, ◌%◌, ◌<◌, true, false, not, eqb, List, [], ◌∷◌, get_or, map, decimal, arith}
use Rattle.std.specs.List.{AllByRecursion, list_all, join_with_byte}
use Rattle.std.specs.Fmt.{digits}
use Rattle.std.proofs.lemmas.Bool.{and_parts, eqb-false, not-true}
use Rattle.hex.specs.Hex.{encode_with}
use Rattle.net_base.specs.declared.address.Ip.{Ip}
use Rattle.net_base.specs.declared.address.Ip.TheVariants.{V4, V6}
use Rattle.net_base.specs.declared.address.Addr.{Addr}
use Rattle.trace_text.specs.Addresses.{low_digits, printed_octets, printed_groups, printed_at, printed_address}
use Rattle.trace_text.proofs.Printed.{digits_apart, all_append, all_join, all_map}

-- one of the bytes before '.'
module _ (c : ℕ) (low : c < 46) where
  abbrev pub IsApart : List ℕ → Type 0
  IsApart bytes = AllByRecursion (λ b. b ≢ c) bytes

  -- the test computes where the bytes are written out
  pub from_test : (bytes : List ℕ) → list_all (λ b. not (eqb b c)) bytes ≡ true → IsApart bytes
  from_test [] h = tt
  from_test (b ∷ bytes) h =
      let (first, others) = and_parts (not (eqb b c)) (list_all (λ b. not (eqb b c)) bytes) h in
      (eqb-false b c (not-true (eqb b c) first), from_test bytes others)

  pub number_apart : (base n : ℕ) → IsApart (digits base false n)
  number_apart base n = digits_apart c base n (omega arith)

  numbers_apart : (d base : ℕ) → d ≢ c → (ns : List ℕ) → IsApart (join_with_byte d (map (digits base false) ns))
  numbers_apart d base apart ns = all_join (λ b. b ≢ c) d apart (map (digits base false) ns) (all_map IsApart (digits base false) (number_apart base) ns)

  at_apart : (ip : Ip) (port : ℕ) → IsApart (printed_at ip port)
  at_apart (V4 ip) port = all_append (λ b. b ≢ c) (printed_octets ip) (58 ∷ decimal port) (numbers_apart 46 10 (λ e. omega arith) (low_digits 256 4 ip)) (λ e. omega arith, number_apart 10 port)
  at_apart (V6 ip) port = (
    λ e. omega arith,
    all_append (λ b. b ≢ c) (printed_groups ip) (93 ∷ 58 ∷ decimal port) (numbers_apart 58 16 (λ e. omega arith) (low_digits 65536 8 ip)) (λ e. omega arith, (λ e. omega arith, number_apart 10 port)),
  )

  pub address_apart : (address : Addr) → IsApart (printed_address address)
  address_apart address = at_apart address.ip address.port

  -- a digit of a table, or 0 behind its end
  table_apart : (table : List ℕ) (i : ℕ) → ¬ (0 ≡ c) → IsApart table → get_or table i 0 ≢ c
  table_apart [] i some h = some
  table_apart (b ∷ table) zero some h = h.0
  table_apart (b ∷ table) (suc i) some h = table_apart table i some h.1

  pub hex_apart : (table bytes : List ℕ) → ¬ (0 ≡ c) → IsApart table → IsApart (encode_with table bytes)
  unfolding encode_with
  hex_apart table [] some h = tt
  hex_apart table (b ∷ bytes) some h = (table_apart table (b / 16) some h, (table_apart table (b % 16) some h, hex_apart table bytes some h))
