-- An IPv4 address, read from the left.
use Rattle.std.specs.Prelude.{ℕ, ◌+◌, List, [], ◌∷◌, take, drop, Option, Some}
use Rattle.std.specs.Int.Digits.{number_from_digits}
use Rattle.net_base.specs.Number.{number_up_to}
use Rattle.net_base.specs.declared.address.Ip.TheVariants.{V4}
use Rattle.net_base.specs.declared.address.Addr.{Addr}
use Rattle.trace_text.specs.Addresses.{◌>>=◌, port_of}
use Rattle.trace_text.specs.Words.{cut_at}

-- an octet, and what stands behind the separator that ends it
abbrev pub octet_before : ℕ → List ℕ → Option (ℕ × List ℕ)
octet_before separator text = do
  (front, rest) ← cut_at separator text
  octet ← number_up_to 255 front
  Some (octet, rest)

-- the same, where it is known how many bytes stand before the separator
abbrev pub octet_up_to : ℕ → List ℕ → Option (ℕ × List ℕ)
octet_up_to end text = do
  octet ← number_up_to 255 (take end text)
  Some (octet, drop (end + 1) text)

-- three octets that a dot ends, one that a colon ends, and a port
abbrev pub ipv4_in_turn : List ℕ → Option Addr
ipv4_in_turn word = do
  (first, rest) ← octet_before 46 word
  (second, rest) ← octet_before 46 rest
  (third, rest) ← octet_before 46 rest
  (fourth, rest) ← octet_before 58 rest
  port ← port_of rest
  Some (record { ip = V4 (number_from_digits 256 (first ∷ second ∷ third ∷ fourth ∷ [])); port = port })
