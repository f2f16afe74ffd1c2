-- How a dialer tells the address at which it listens, before its first segment: this project's own.
use Rattle.std.specs.Prelude.{ℕ, ◌-◌, ◌&&◌, ◌==◌, nat_lt, List, [], ◌∷◌, ◌++◌, length, take, drop, if◌then◌else◌, Option, Some, None}
use Rattle.std.specs.Option.{option_map}
use Rattle.std.specs.Int.{w16, w32, w128, to_be_bytes, from_be_bytes}
use Rattle.net_base.specs.declared.address.Addr.{Addr}
use Rattle.net_base.specs.declared.address.Ip.{Ip}
use Rattle.net_base.specs.declared.address.Ip.TheVariants.{V4, V6}
use Rattle.socket_flow.specs.declared.announcement.Heard.{Heard}
use Rattle.socket_flow.specs.declared.announcement.Heard.TheVariants.{Front, Whole, Else}

-- ---- what is written

-- the family, and the address with its greatest byte first
abbrev pub announced_ip : Ip → List ℕ
announced_ip (V4 ip) = 4 ∷ to_be_bytes w32 ip
announced_ip (V6 ip) = 6 ∷ to_be_bytes w128 ip

abbrev pub announced : Addr → List ℕ
announced addr = announced_ip addr.ip ++ to_be_bytes w16 addr.port

-- ---- what is read

-- How many bytes an announcement has that begins so, where there is one. Before its first byte, as many as the shortest.
abbrev pub announced_size : List ℕ → Option ℕ
announced_size [] = Some 7
announced_size (family ∷ rest) = if family == 4 then Some 7 else (if family == 6 then Some 19 else None)

abbrev pub ip_of : ℕ → List ℕ → Option Ip
ip_of family bytes =
    if family == 4 && length bytes == 4 then Some (V4 (from_be_bytes w32 bytes))
    else (if family == 6 && length bytes == 16 then Some (V6 (from_be_bytes w128 bytes))
    else None)

-- the family, the address and the port of two bytes
abbrev pub address_of : List ℕ → Option Addr
address_of [] = None
address_of (family ∷ rest) =
    let split = length rest - 2 in
    option_map (λ ip. record { ip = ip; port = from_be_bytes w16 (drop split rest) }) (ip_of family (take split rest))

abbrev pub whole_of : Option Addr → Heard
whole_of (Some addr) = Whole addr
whole_of None = Else

-- what bytes are that are no more than an announcement has
abbrev pub heard_of : Option ℕ → List ℕ → Heard
heard_of (Some size) bytes = if nat_lt (length bytes) size then Front else whole_of (address_of bytes)
heard_of None bytes = Else

abbrev pub hearing : List ℕ → Heard
hearing bytes = heard_of (announced_size bytes) bytes
