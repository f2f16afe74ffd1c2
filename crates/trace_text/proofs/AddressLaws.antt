-- An address has one spelling: the printed one.
use Rattle.std.proofs.Common.{◌≡◌, ◌≢◌, ℕ, ◌^◌, ◌<◌, ◌≤◌, Bool, true, false, ◌&&◌, cond, eqb, List, [], ◌∷◌, ◌++◌, map, Some, decimal, refl, sym, ap, subst, ◌∙◌, arith, lit<}
use Rattle.std.specs.List.{AllByRecursion}
use Rattle.std.specs.Fmt.{digits}
use Rattle.std.proofs.lemmas.Bool.{and_parts, eqb-true, eq-eqb, cond-true, cond-false, and_right, ne_eqb}
use Rattle.std.proofs.lemmas.Option.{same_Some}
use Rattle.net_base.specs.Number.{number_up_to}
use Rattle.net_base.specs.declared.address.Ip.{Ip}
use Rattle.net_base.specs.declared.address.Ip.TheVariants.{V4, V6}
use Rattle.net_base.specs.declared.address.Addr.{Addr}
use Rattle.trace_text.specs.Words.{cut_at}
use Rattle.trace_text.specs.Addresses.{◌>>=◌, octets_of, groups_of, group_of, port_of, port_after, ipv4_address_of, ipv6_address_of, address_of, low_digits, printed_octets, printed_groups, printed_at, printed_address, IsIp, IsAddress, knows_family}
use Rattle.trace_text.proofs.Cutting.{cut_at-Some, cut_at-append}
use Rattle.trace_text.proofs.Numerals.{number_up_to-decimal, decimal-number_up_to}
use Rattle.trace_text.proofs.Printed.{digits_between, tested_apart, all_append, all_join, all_map}
use Rattle.trace_text.proofs.Spelling.{bind_some, cond_same, reads_again, reads_only}
use Rattle.trace_text.proofs.Octets.{IsSpelling-octets}
use Rattle.trace_text.proofs.Groups.{IsSpelling-groups}

-- what is read of an address that is printed, and of no other word
pub record Spells (version : ℕ) (word : List ℕ) (address : Addr) : Type 0 where
  pub printed : word ≡ printed_address address
  pub fits : IsAddress address
  pub family : knows_family version address.ip ≡ true

-- ---- what is read is printed

-- the parts of an IPv4 address that is read
pub record IsIpv4 (word : List ℕ) (address : Addr) : Type 0 where
  pub ip : ℕ
  pub port : ℕ
  pub printed : word ≡ printed_octets ip ++ 58 ∷ decimal port
  pub fits : ip < 2 ^ 32
  pub small : port < 2 ^ 16
  pub same : ◌≡◌ {A = Addr} (record { ip = V4 ip; port = port }) address

pub ipv4_parts : (word : List ℕ) (address : Addr) → ipv4_address_of word ≡ Some address → IsIpv4 word address
ipv4_parts word address e =
    let (parts, cut, e) = bind_some (cut_at 58 word) (λ parts. octets_of parts.0 >>= λ ip. port_of parts.1 >>= λ port. Some (record { ip = V4 ip; port = port })) address e in
    let (ip, octets, e) = bind_some (octets_of parts.0) (λ ip. port_of parts.1 >>= λ port. Some (record { ip = V4 ip; port = port })) address e in
    let (port, digits, e) = bind_some (port_of parts.1) (λ port. Some (record { ip = V4 ip; port = port })) address e in
    let made : Addr = record { ip = V4 ip; port = port } in
    let (text, fits) = reads_only 46 256 (number_up_to 255) decimal IsSpelling-octets 4 ip parts.0 octets in
    let (number, small) = decimal-number_up_to 65535 parts.1 port digits (lit< tt) in
    record {
      ip = ip;
      port = port;
      printed = (cut_at-Some 58 word parts.0 parts.1 cut).whole ∙ ap (λ (text : List ℕ). text ++ 58 ∷ parts.1) text ∙ ap (λ (text : List ℕ). printed_octets ip ++ 58 ∷ text) number;
      fits = fits;
      small = omega (arith, small);
      same = same_Some made address e;
    }

ipv4_only : (version : ℕ) (word : List ℕ) (address : Addr) → ipv4_address_of word ≡ Some address → Spells version word address
ipv4_only version word address e =
    let p = ipv4_parts word address e in
    subst (Spells version word) p.same (record { printed = p.printed; fits = record { ip = p.fits; port = p.small }; family = refl })

port_after_only : (rest : List ℕ) (port : ℕ) → port_after rest ≡ Some port → (rest ≡ 58 ∷ decimal port) × (port < 2 ^ 16)
port_after_only [] port e = absurd cc
port_after_only (c ∷ rest) port e =
    let p = cond_same (eqb c 58) (port_of rest) port e in
    let (number, small) = decimal-number_up_to 65535 rest port p.1 (lit< tt) in
    (ap (λ (c : ℕ). c ∷ rest) (eqb-true c 58 p.0) ∙ ap (λ (text : List ℕ). 58 ∷ text) number, omega (arith, small))

ipv6_spells : (version : ℕ) (word host rest : List ℕ) (ip port : ℕ) → version ≡ 2 → word ≡ host ++ 93 ∷ rest → groups_of host ≡ Some ip → port_after rest ≡ Some port
    → Spells version (91 ∷ word) (record { ip = V6 ip; port = port })
ipv6_spells version word host rest ip port two whole groups after =
    let (text, fits) = reads_only 58 65536 group_of (digits 16 false) IsSpelling-groups 8 ip host groups in
    let (number, small) = port_after_only rest port after in
    record {
      printed = ap (λ (text : List ℕ). 91 ∷ text) (whole ∙ ap (λ (text : List ℕ). text ++ 93 ∷ rest) text ∙ ap (λ (text : List ℕ). printed_groups ip ++ 93 ∷ text) number);
      fits = record { ip = fits; port = small };
      family = eq-eqb version 2 two;
    }

ipv6_only : (version : ℕ) (word : List ℕ) (address : Addr) → version ≡ 2 → ipv6_address_of word ≡ Some address → Spells version (91 ∷ word) address
ipv6_only version word address two e =
    let p = bind_some (cut_at 93 word) (λ parts. groups_of parts.0 >>= λ ip. port_after parts.1 >>= λ port. Some (record { ip = V6 ip; port = port })) address e in
    let q = bind_some (groups_of p.0.0) (λ ip. port_after p.0.1 >>= λ port. Some (record { ip = V6 ip; port = port })) address p.2 in
    let r = bind_some (port_after p.0.1) (λ port. Some (record { ip = V6 q.0; port = port })) address q.2 in
    let made : Addr = record { ip = V6 q.0; port = r.0 } in
    subst (Spells version (91 ∷ word)) (same_Some made address r.2)
    (ipv6_spells version word p.0.0 p.0.1 q.0 r.0 two (cut_at-Some 93 word p.0.0 p.0.1 p.1).whole q.1 r.1)

by_family : (version c : ℕ) (rest : List ℕ) (address : Addr) (b : Bool) → (eqb version 2 && eqb c 91) ≡ b
    → cond b (ipv6_address_of rest) (ipv4_address_of (c ∷ rest)) ≡ Some address → Spells version (c ∷ rest) address
by_family version c rest address true t e =
    let (two, bracket) = and_parts (eqb version 2) (eqb c 91) t in
    subst (λ (c : ℕ). Spells version (c ∷ rest) address) (sym (eqb-true c 91 bracket)) (ipv6_only version rest address (eqb-true version 2 two) e)
by_family version c rest address false t e = ipv4_only version (c ∷ rest) address e

pub address_of_only : (version : ℕ) (word : List ℕ) (address : Addr) → address_of version word ≡ Some address → Spells version word address
address_of_only version [] address e = absurd cc
address_of_only version (c ∷ rest) address e = by_family version c rest address (eqb version 2 && eqb c 91) refl e

-- ---- what is printed is read

ipv4_from : (word host rest : List ℕ) (ip port : ℕ) → cut_at 58 word ≡ Some (host, rest) → octets_of host ≡ Some ip → port_of rest ≡ Some port
    → ipv4_address_of word ≡ Some (record { ip = V4 ip; port = port })
ipv4_from word host rest ip port cut octets digits = rw (cut, octets, digits) refl

ipv6_from : (word host rest : List ℕ) (ip port : ℕ) → cut_at 93 word ≡ Some (host, rest) → groups_of host ≡ Some ip → port_after rest ≡ Some port
    → ipv6_address_of word ≡ Some (record { ip = V6 ip; port = port })
ipv6_from word host rest ip port cut groups after = rw (cut, groups, after) refl

-- bytes that octets and groups don't hold
octets_apart : (c ip : ℕ) → 58 ≤ c → c < 97 → AllByRecursion (λ b. b ≢ c) (printed_octets ip)
octets_apart c ip low high = all_join (λ b. b ≢ c) 46 (λ e. omega arith) (map decimal (low_digits 256 4 ip)) (all_map (AllByRecursion (λ b. b ≢ c)) decimal (λ n. digits_between c 10 n low high) (low_digits 256 4 ip))

groups_apart : (c ip : ℕ) → 58 < c → c < 97 → AllByRecursion (λ b. b ≢ c) (printed_groups ip)
groups_apart c ip low high = all_join (λ b. b ≢ c) 58 (λ e. omega arith) (map (digits 16 false) (low_digits 65536 8 ip)) (all_map (AllByRecursion (λ b. b ≢ c)) (digits 16 false) (λ n. digits_between c 16 n (omega arith) high) (low_digits 65536 8 ip))

no_bracket : (version : ℕ) (word : List ℕ) → AllByRecursion (λ b. b ≢ 91) word → address_of version word ≡ ipv4_address_of word
no_bracket version [] h = refl
no_bracket version (c ∷ rest) h =
    cond-false (eqb version 2 && eqb c 91) (ipv6_address_of rest) (ipv4_address_of (c ∷ rest)) (and_right (eqb version 2) (eqb c 91) (ne_eqb c 91 h.0))

pub port_again : (port : ℕ) → port < 2 ^ 16 → port_of (decimal port) ≡ Some port
port_again port fits = number_up_to-decimal 65535 port (omega arith) (lit< tt)

pub ipv4_again : (ip port : ℕ) → ip < 2 ^ 32 → port < 2 ^ 16 → ipv4_address_of (printed_octets ip ++ 58 ∷ decimal port) ≡ Some (record { ip = V4 ip; port = port })
ipv4_again ip port fits small =
    ipv4_from (printed_octets ip ++ 58 ∷ decimal port) (printed_octets ip) (decimal port) ip port
    (cut_at-append 58 (printed_octets ip) (decimal port) (tested_apart 58 (printed_octets ip) (octets_apart 58 ip (omega arith) (omega arith))))
    (reads_again 46 256 (number_up_to 255) decimal IsSpelling-octets 3 ip (omega arith) fits)
    (port_again port small)

printed_again : (version : ℕ) (ip : Ip) (port : ℕ) → IsIp ip → port < 2 ^ 16 → knows_family version ip ≡ true → address_of version (printed_at ip port) ≡ Some (record { ip = ip; port = port })
printed_again version (V4 ip) port fits small family =
    no_bracket version (printed_octets ip ++ 58 ∷ decimal port)
    (all_append (λ b. b ≢ 91) (printed_octets ip) (58 ∷ decimal port) (octets_apart 91 ip (omega arith) (omega arith)) (λ e. omega arith, digits_between 91 10 port (omega arith) (omega arith)))
    ∙ ipv4_again ip port fits small
printed_again version (V6 ip) port fits small family =
    let rest : List ℕ = printed_groups ip ++ 93 ∷ 58 ∷ decimal port in
    cond-true (eqb version 2 && true) (ipv6_address_of rest) (ipv4_address_of (91 ∷ rest)) (ap (λ (b : Bool). b && true) family)
    ∙ ipv6_from rest (printed_groups ip) (58 ∷ decimal port) ip port
    (cut_at-append 93 (printed_groups ip) (58 ∷ decimal port) (tested_apart 93 (printed_groups ip) (groups_apart 93 ip (omega arith) (omega arith))))
    (reads_again 58 65536 group_of (digits 16 false) IsSpelling-groups 7 ip (omega arith) fits)
    (port_again port small)

pub address_of-printed : (version : ℕ) (address : Addr) → IsAddress address → knows_family version address.ip ≡ true → address_of version (printed_address address) ≡ Some address
address_of-printed version address fits family = printed_again version address.ip address.port fits.ip fits.port family
