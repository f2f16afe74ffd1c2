-- What the address of an access point stands for.
use Rattle.std.specs.Prelude.{ℕ, ◌==◌, Bool, List, codes, bytes_eq, if◌then◌else◌, Option, Some, None}
use Rattle.std.specs.List.{list_any}
use Rattle.std.specs.Option.{option_map, option_or}
use Rattle.std.specs.Int.{w128, from_be_bytes}
use Rattle.std.specs.Net.Addr.{octets_of as segment_octets}
use Rattle.std.specs.Net.Reader.{whole_value, read_ipv6}
use Rattle.net_base.specs.declared.address.Ip.{Ip}
use Rattle.net_base.specs.declared.address.Ip.TheVariants.{V4, V6}
use Rattle.trace_text.specs.Addresses.{octets_of}

abbrev pub has_dot : List ℕ → Bool
has_dot text = list_any (λ c. c == 46) text

-- Eight groups of one to four hexadecimal digits, joined by colons, where one `::` may stand for one or more groups of
-- zero: the grammar of RFC 4291, section 2.2, without the form that ends in a dotted IPv4 address.
abbrev pub ipv6_of : List ℕ → Option ℕ
ipv6_of text =
    if has_dot text then None
    else option_map (λ segments. from_be_bytes w128 (segment_octets segments)) (whole_value (read_ipv6 text))

abbrev pub loopback : Ip
loopback = V4 2130706433

-- `localhost`, a dotted IPv4 address or an IPv6 address. No other name stands for an address.
abbrev pub ip_of : List ℕ → Option Ip
ip_of text =
    if bytes_eq text (codes "localhost") then Some loopback
    else option_or (option_map V4 (octets_of text)) (option_map V6 (ipv6_of text))
