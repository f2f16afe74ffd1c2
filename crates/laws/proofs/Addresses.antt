-- Addresses that a test finds the same are the same.
use Rattle.std.proofs.Common.{◌≡◌, true, ◌==◌, refl, ap, eqb-true, eq-eqb}
use Rattle.laws.proofs.Words.{and_parts, and_from}
use Rattle.laws.specs.Words.{Ip, V4, V6, Addr, same_ip, same_address}

same_ip-self : (ip : Ip) → same_ip ip ip ≡ true
same_ip-self (V4 n) = eq-eqb n n refl
same_ip-self (V6 n) = eq-eqb n n refl

pub same_address-self : (a : Addr) → same_address a a ≡ true
same_address-self a = and_from (same_ip a.ip a.ip) (a.port == a.port) (same_ip-self a.ip) (eq-eqb a.port a.port refl)

same_ip-true : (a b : Ip) → same_ip a b ≡ true → a ≡ b
same_ip-true (V4 m) (V4 n) h = ap V4 (eqb-true m n h)
same_ip-true (V6 m) (V6 n) h = ap V6 (eqb-true m n h)
same_ip-true a b h = absurd cc

pub same_address-true : (a b : Addr) → same_address a b ≡ true → a ≡ b
same_address-true a b h =
    let parts = and_parts (same_ip a.ip b.ip) (a.port == b.port) h in
    let ip : a.ip ≡ b.ip = same_ip-true a.ip b.ip parts.0 in
    let port : a.port ≡ b.port = eqb-true a.port b.port parts.1 in
    λ i. record { ip = ip i; port = port i }
