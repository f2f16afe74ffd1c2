-- A text writes one IPv6 address at most, the one that std reads.
use Rattle.std.proofs.Common.{◌≡◌, ℕ, Bool, true, false, ◌==◌, List, [], ◌++◌, length, Option, Some, None, sym, refl, ap, ◌∙◌, subst, ⊎_elim, append-nil, arith, inl, inr, ◌⊎◌}
use Rattle.std.specs.Option.{option_map}
use Rattle.std.specs.Int.{w128, from_be_bytes}
use Rattle.std.specs.Net.Addr.{octets_of as segment_octets}
use Rattle.std.specs.Net.Grammar.{IsColonHex}
use Rattle.std.specs.Net.Reader.{whole_value, read_ipv6}
use Rattle.std.proofs.lemmas.Bool.{cases_Bool}
use Rattle.std.proofs.lemmas.Bool.Decides.{nat_tests}
use Rattle.std.proofs.lemmas.List.{nil_from_length}
use Rattle.std.proofs.NetLemmas.Ipv6.{read_ipv6_complete, read_ipv6_sound, EndsGroups-nil}
use Rattle.node_settings.specs.Host.{has_dot, ipv6_of}

whole_ipv6 : (text segments : List ℕ) → IsColonHex text segments → whole_value (read_ipv6 text) ≡ Some segments
whole_ipv6 text segments spelled =
    ap whole_value (ap read_ipv6 (sym (append-nil text)) ∙ read_ipv6_complete text segments [] spelled EndsGroups-nil)

option_cases : {A : Type 0} (o : Option A) → (o ≡ None) ⊎ ((a : A) × (o ≡ Some a))
option_cases None = inl refl
option_cases (Some a) = inr (a, refl)

no_ipv6 : (text : List ℕ) → ((segments : List ℕ) → ¬ (IsColonHex text segments)) → whole_value (read_ipv6 text) ≡ None
no_ipv6 text never =
    ⊎_elim
    (λ none. ap whole_value none)
    (λ some.
    let sound = read_ipv6_sound text some.0.0 some.0.1 some.1 in
    ap whole_value some.1 ∙ ⊎_elim
    (λ ended. absurd (never some.0.0 (subst (λ t. IsColonHex t some.0.0) (sym (sound.1 ∙ ap (λ r. sound.0 ++ r) (nil_from_length some.0.1 (grind (arith, nat_tests))) ∙ append-nil sound.0)) sound.2)))
    (λ more. rw more)
    (cases_Bool (length some.0.1 == 0)))
    (option_cases (read_ipv6 text))

pub ipv6_of-some : (text segments : List ℕ) → has_dot text ≡ false → IsColonHex text segments → ipv6_of text ≡ Some (from_be_bytes w128 (segment_octets segments))
ipv6_of-some text segments plain spelled = rw (plain, whole_ipv6 text segments spelled) refl

pub ipv6_of-none : (text : List ℕ) → has_dot text ≡ false → ((segments : List ℕ) → ¬ (IsColonHex text segments)) → ipv6_of text ≡ None
ipv6_of-none text plain never = rw (plain, no_ipv6 text never) refl
