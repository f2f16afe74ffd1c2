-- How addresses are spelled.
use Rattle.std.specs.Prelude.{ℕ, ◌-◌, ◌/◌, ◌%◌, ◌^◌, ◌<◌, zero, suc, Bool, true, false, ◌&&◌, not, ◌==◌, nat_le, List, [], ◌∷◌, ◌++◌, length, map, codes, decimal, if◌then◌else◌, Option, Some, None}
use Rattle.std.specs.Option.{option_map, option_and_then}
use Rattle.std.specs.List.{join_with_byte}
use Rattle.std.specs.Fmt.{digits}
use Rattle.std.specs.Int.Digits.{number_from_digits}
use Rattle.net_base.specs.Number.{number_up_to}
use Rattle.net_base.specs.Bounds.{within}
use Rattle.net_base.specs.declared.address.Ip.{Ip}
use Rattle.net_base.specs.declared.address.Ip.TheVariants.{V4, V6}
use Rattle.net_base.specs.declared.address.Addr.{Addr}
use Rattle.trace_text.specs.Words.{pieces_of, cut_at}

infixl 10 ◌>>=◌
abbrev pub ◌>>=◌ : {A B : Type 0} → Option A → (A → Option B) → Option B
o >>= f = option_and_then f o

-- what all members of a list are read as, where each of them is read
abbrev pub all_read : {A : Type 0} → (A → Option ℕ) → List A → Option (List ℕ)
all_read read [] = Some []
all_read read (x ∷ xs) = do
  n ← read x
  ns ← all_read read xs
  Some (n ∷ ns)

-- the number whose digits in a base the members are, the greatest first
abbrev pub number_read : {A : Type 0} → ℕ → (A → Option ℕ) → List A → Option ℕ
number_read base read xs = option_map (number_from_digits base) (all_read read xs)

-- so many digits in a base, each spelled between separators
abbrev pub number_in_pieces : ℕ → ℕ → (List ℕ → Option ℕ) → List (List ℕ) → Option ℕ
number_in_pieces count base read pieces = if length pieces == count then number_read base read pieces else None

-- four octets joined by dots, each in decimal
abbrev pub octets_of : List ℕ → Option ℕ
octets_of text = number_in_pieces 4 256 (number_up_to 255) (pieces_of 46 text)

-- the codes of '0' to '9' and of 'a' to 'f'
abbrev pub hex_digit : ℕ → Option ℕ
hex_digit c = if within 48 57 c then Some (c - 48) else if within 97 102 c then Some (c - 87) else None

-- one to four places, and no leading zero
abbrev pub is_group_form : List ℕ → Bool
is_group_form [] = false
is_group_form (c ∷ []) = true
is_group_form (c ∷ d ∷ rest) = not (c == 48) && nat_le (length rest) 2

-- sixteen bits in lower-case hexadecimal
abbrev pub group_of : List ℕ → Option ℕ
group_of word = if is_group_form word then number_read 16 hex_digit word else None

-- eight groups joined by colons, nothing shortened
abbrev pub groups_of : List ℕ → Option ℕ
groups_of text = number_in_pieces 8 65536 group_of (pieces_of 58 text)

abbrev pub port_of : List ℕ → Option ℕ
port_of word = number_up_to 65535 word

-- a colon and a port
abbrev pub port_after : List ℕ → Option ℕ
port_after [] = None
port_after (c ∷ rest) = if c == 58 then port_of rest else None

-- an IPv4 address: octets, a colon and a port
abbrev pub ipv4_address_of : List ℕ → Option Addr
ipv4_address_of word = do
  (host, rest) ← cut_at 58 word
  ip ← octets_of host
  port ← port_of rest
  Some (record { ip = V4 ip; port = port })

-- an IPv6 address behind its opening bracket: groups, a closing bracket, a colon and a port
abbrev pub ipv6_address_of : List ℕ → Option Addr
ipv6_address_of word = do
  (host, rest) ← cut_at 93 word
  ip ← groups_of host
  port ← port_after rest
  Some (record { ip = V6 ip; port = port })

-- a trace of version 1 knows no IPv6 address
abbrev pub address_of : ℕ → List ℕ → Option Addr
address_of version [] = None
address_of version (c ∷ rest) = if version == 2 && c == 91 then ipv6_address_of rest else ipv4_address_of (c ∷ rest)

-- the lowest digits of a number in a base, so many of them, the greatest first
abbrev pub low_digits : ℕ → ℕ → ℕ → List ℕ
low_digits base zero n = []
low_digits base (suc count) n = (n / base ^ count % base) ∷ low_digits base count n

abbrev pub printed_octets : ℕ → List ℕ
printed_octets ip = join_with_byte 46 (map decimal (low_digits 256 4 ip))

abbrev pub joined_groups : List ℕ → List ℕ
joined_groups groups = join_with_byte 58 (map (digits 16 false) groups)

abbrev pub printed_groups : ℕ → List ℕ
printed_groups ip = joined_groups (low_digits 65536 8 ip)

abbrev pub printed_at : Ip → ℕ → List ℕ
printed_at (V4 ip) port = printed_octets ip ++ (codes ":" ++ decimal port)
printed_at (V6 ip) port = codes "[" ++ (printed_groups ip ++ (codes "]:" ++ decimal port))

abbrev pub printed_address : Addr → List ℕ
printed_address address = printed_at address.ip address.port

-- what an address of each family can be
abbrev pub IsIp : Ip → Type 0
IsIp (V4 ip) = ip < 2 ^ 32
IsIp (V6 ip) = ip < 2 ^ 128

pub record IsAddress (address : Addr) : Type 0 where
  pub ip : IsIp address.ip
  pub port : address.port < 2 ^ 16

abbrev pub knows_family : ℕ → Ip → Bool
knows_family version (V4 ip) = true
knows_family version (V6 ip) = version == 2
