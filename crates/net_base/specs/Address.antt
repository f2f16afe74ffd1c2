-- Addresses of both families: their order and their keys.
use Rattle.std.specs.Prelude.{ℕ, ◌+◌, ◌*◌, ◌/◌, ◌%◌, ◌^◌, Bool, true, false, ◌&&◌, ◌||◌, ◌==◌, nat_lt}
use Rattle.net_base.specs.declared.address.Ip.{Ip}
use Rattle.net_base.specs.declared.address.Ip.TheVariants.{V4, V6}
use Rattle.net_base.specs.declared.address.Addr.{Addr}

-- an IPv4 address as it is, and an IPv6 one folded into 48 bits
abbrev pub folded_ip : Ip → ℕ
folded_ip (V4 ip) = ip
folded_ip (V6 ip) = (ip / 2 ^ 64 + ip % 2 ^ 64) % 2 ^ 48

abbrev pub key_of : Addr → ℕ
key_of a = folded_ip a.ip * 65536 + a.port

-- every IPv4 address comes before every IPv6 address
abbrev pub ip_below : Ip → Ip → Bool
ip_below (V4 m) (V4 n) = nat_lt m n
ip_below (V4 m) (V6 n) = true
ip_below (V6 m) (V4 n) = false
ip_below (V6 m) (V6 n) = nat_lt m n

abbrev pub same_ip : Ip → Ip → Bool
same_ip (V4 m) (V4 n) = m == n
same_ip (V4 m) (V6 n) = false
same_ip (V6 m) (V4 n) = false
same_ip (V6 m) (V6 n) = m == n

abbrev pub same_address : Addr → Addr → Bool
same_address a b = same_ip a.ip b.ip && a.port == b.port

-- by the ip and then by the port
abbrev pub address_below : Addr → Addr → Bool
address_below a b = ip_below a.ip b.ip || (same_ip a.ip b.ip && nat_lt a.port b.port)
