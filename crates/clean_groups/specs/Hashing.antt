-- What of an address is hashed.
use Rattle.std.specs.Prelude.{ℕ, List, ◌++◌}
use Rattle.std.specs.Hash as fed
use Rattle.net_base.specs.declared.address.Ip.{Ip}
use Rattle.net_base.specs.declared.address.Ip.TheVariants.{V4, V6}
use Rattle.net_base.specs.declared.address.Addr.{Addr}

abbrev pub written_ip : Ip → List (List ℕ)
written_ip (V4 ip) = fed.u32 ip
written_ip (V6 ip) = fed.u128 ip

abbrev pub written : Addr → List (List ℕ)
written addr = written_ip addr.ip ++ fed.u16 addr.port
