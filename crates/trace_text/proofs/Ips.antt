-- The digits that std gives of an address are its lowest digits.
use Rattle.std.proofs.Common.{◌≡◌, ℕ, ◌+◌, ◌*◌, ◌/◌, ◌%◌, ◌^◌, ◌<◌, false, List, [], ◌∷◌, ◌++◌, length, get_or, take, map, decimal, refl, sym, ap, ◌∙◌, arith, append_assoc}
use Rattle.std.specs.List.{join_with_byte}
use Rattle.std.specs.Fmt.{digits}
use Rattle.std.proofs.lemmas.List.{take_more}
use Rattle.std.specs.declared.net.ipv4_addr.Ipv4Addr.{Ipv4Addr}
use Rattle.std.specs.declared.net.ipv6_addr.Ipv6Addr.{Ipv6Addr}
use Rattle.std.specs.Net.Addr.{ipv4_octets, ipv6_segments, IsIpv4OfBits, IsIpv6OfBits}
use Rattle.std.specs.Net.Text.{ipv4_text}
use Rattle.std.proofs.Math.Nat.{div-one, div-div-eq-div-mul}
use Rattle.trace_text.specs.Addresses.{low_digits, printed_octets, joined_groups}
use Rattle.trace_text.proofs.Octets.{dotted_join}

last_digit : (base n : ℕ) → n % base ≡ n / 1 % base
last_digit base n = ap (λ (m : ℕ). m % base) (sym (div-one n))

pub ipv4_printed : (address : Ipv4Addr) (ip : ℕ) → IsIpv4OfBits address ip → ipv4_text (ipv4_octets address) ≡ printed_octets ip
unfolding IsIpv4OfBits
ipv4_printed address ip h =
    ap ipv4_text h
    ∙ dotted_join (ip / 256 ^ 3 % 256) (ip / 256 ^ 2 % 256) (ip / 256 ^ 1 % 256) (ip % 256)
    ∙ ap (λ (d : ℕ). join_with_byte 46 (map decimal ((ip / 256 ^ 3 % 256) ∷ (ip / 256 ^ 2 % 256) ∷ (ip / 256 ^ 1 % 256) ∷ d ∷ []))) (last_digit 256 ip)

-- two octets are one group
two_octets : (m : ℕ) → m / 256 % 256 * 256 + m % 256 ≡ m % 65536
two_octets m = omega arith

group_at : (n k j : ℕ) → j ≡ k * 256 → n / j % 256 * 256 + n / k % 256 ≡ n / k % 65536
group_at n k j e = ap (λ (i : ℕ). n / i % 256 * 256 + n / k % 256) e ∙ ap (λ (m : ℕ). m % 256 * 256 + n / k % 256) (sym (div-div-eq-div-mul n k 256)) ∙ two_octets (n / k)

same_cons : {A : Type 0} {x y : A} {xs ys : List A} → x ≡ y → xs ≡ ys → x ∷ xs ≡ y ∷ ys
same_cons p q = λ i. p i ∷ q i

pub ipv6_segments-bits : (address : Ipv6Addr) (ip : ℕ) → IsIpv6OfBits address ip → ipv6_segments address ≡ low_digits 65536 8 ip
unfolding IsIpv6OfBits
ipv6_segments-bits address ip h =
    h
    ∙ same_cons (group_at ip (65536 ^ 7) (256 ^ 15) refl) (same_cons (group_at ip (65536 ^ 6) (256 ^ 13) refl)
    (same_cons (group_at ip (65536 ^ 5) (256 ^ 11) refl) (same_cons (group_at ip (65536 ^ 4) (256 ^ 9) refl)
    (same_cons (group_at ip (65536 ^ 3) (256 ^ 7) refl) (same_cons (group_at ip (65536 ^ 2) (256 ^ 5) refl)
    (same_cons (group_at ip (65536 ^ 1) (256 ^ 3) refl) (same_cons (two_octets ip ∙ last_digit 65536 ip) refl)))))))

joined_push : (n m : ℕ) (ns : List ℕ) → joined_groups (n ∷ (ns ++ m ∷ [])) ≡ joined_groups (n ∷ ns) ++ (58 ∷ digits 16 false m)
joined_push n m [] = refl
joined_push n m (k ∷ ns) =
    ap (λ (text : List ℕ). digits 16 false n ++ (58 ∷ text)) (joined_push k m ns)
    ∙ sym (append_assoc (digits 16 false n) (58 ∷ joined_groups (k ∷ ns)) (58 ∷ digits 16 false m))

-- one group more
pub joined_more : (n : ℕ) (ns : List ℕ) (i : ℕ) → i < length ns
    → joined_groups (n ∷ take i ns) ++ (58 ∷ digits 16 false (get_or ns i 0)) ≡ joined_groups (n ∷ take (i + 1) ns)
joined_more n ns i h = sym (ap (λ (ms : List ℕ). joined_groups (n ∷ ms)) (take_more ns i 0 h) ∙ joined_push n (get_or ns i 0) (take i ns))
