-- An IPv4 address that is read from the left is what its grammar has.
use Rattle.std.proofs.Common.{◌≡◌, ◌≢◌, ℕ, zero, suc, ◌+◌, ◌/◌, ◌%◌, ◌^◌, ◌<◌, ◌≤◌, false, eqb, List, [], ◌∷◌, ◌++◌, length, map, get_or, take, drop, Option, Some, None, decimal, refl, sym, ap, subst, ◌∙◌, arith, lit<, inl, inr, append_assoc}
use Rattle.std.specs.List.{All, join_with_byte}
use Rattle.std.specs.Int.Digits.{number_from_digits, AllBelowBase}
use Rattle.std.proofs.lemmas.Bool.{cases_eq, eq-eqb, ne_eqb}
use Rattle.std.proofs.lemmas.Fmt.{decimal_nonempty, length-decimal-le}
use Rattle.std.proofs.lemmas.List.{length-append, get_or_at}
use Rattle.std.proofs.lemmas.Int.Digits.{number_lt}
use Rattle.std.proofs.lemmas.Option.{same_Some}
use Rattle.net_base.specs.Number.{is_digit, number_up_to}
use Rattle.net_base.specs.declared.address.Ip.TheVariants.{V4}
use Rattle.net_base.specs.declared.address.Addr.{Addr}
use Rattle.trace_text.specs.Addresses.{◌>>=◌, ipv4_address_of, port_of, low_digits, printed_octets}
use Rattle.trace_text.specs.InTurn.{octet_before, octet_up_to, ipv4_in_turn}
use Rattle.trace_text.specs.Words.{cut_at}
use Rattle.trace_text.proofs.AddressLaws.{ipv4_parts, ipv4_again, port_again}
use Rattle.trace_text.proofs.Cutting.{cut_at-Some, cut_at-append, cut_at-place}
use Rattle.trace_text.proofs.Digits.{low_digits-number, number-low_digits}
use Rattle.trace_text.proofs.Numerals.{decimal-number_up_to}
use Rattle.trace_text.proofs.Octets.{numbers_again, numbers_only}
use Rattle.trace_text.proofs.Printed.{digits_between, digits_apart, tested_apart}
use Rattle.trace_text.proofs.Spelling.{bind_some}

-- ---- an octet

-- no number holds the separator
abbrev AreApart : ℕ → Type 0
AreApart s = (n : ℕ) → All (λ c. eqb c s ≡ false) (decimal n)

dot_apart : AreApart 46
dot_apart n = tested_apart 46 (decimal n) (digits_apart 46 10 n (lit< tt))

colon_apart : AreApart 58
colon_apart n = tested_apart 58 (decimal n) (digits_between 58 10 n (omega arith) (omega arith))

octet_from : (s : ℕ) (text front rest : List ℕ) (n : ℕ) → cut_at s text ≡ Some (front, rest) → number_up_to 255 front ≡ Some n → octet_before s text ≡ Some (n, rest)
octet_from s text front rest n cut number = rw (cut, number) refl

octet_again : (s n : ℕ) (rest : List ℕ) → AreApart s → n < 256 → octet_before s (decimal n ++ s ∷ rest) ≡ Some (n, rest)
octet_again s n rest apart fits = octet_from s (decimal n ++ s ∷ rest) (decimal n) rest n (cut_at-append s (decimal n) rest (apart n)) (numbers_again n fits)

record IsOctet (s : ℕ) (text : List ℕ) (n : ℕ) (rest : List ℕ) : Type 0 where
  pub whole : text ≡ decimal n ++ s ∷ rest
  pub fits : n < 256

octet_only : (s : ℕ) (text : List ℕ) (read : ℕ × List ℕ) → octet_before s text ≡ Some read → IsOctet s text read.0 read.1
octet_only s text read e =
    let (parts, cut, later) = bind_some (cut_at s text) (λ parts. number_up_to 255 parts.0 >>= λ octet. Some (octet, parts.1)) read e in
    let (n, number, last) = bind_some (number_up_to 255 parts.0) (λ octet. Some (octet, parts.1)) read later in
    let (spelled, fits) = numbers_only parts.0 n number in
    subst (λ (read : ℕ × List ℕ). IsOctet s text read.0 read.1) (same_Some (n, parts.1) read last)
    (record { whole = (cut_at-Some s text parts.0 parts.1 cut).whole ∙ ap (λ (front : List ℕ). front ++ s ∷ parts.1) spelled; fits = fits })

-- ---- an octet by its place

-- a byte stands at a place
abbrev StandsAt : ℕ → ℕ → List ℕ → Type 0
StandsAt place byte text = (place < length text) × (get_or text place 0 ≡ byte)

front_none : (s i : ℕ) (text : List ℕ) → is_digit s ≡ false → 0 < length text → get_or text 0 0 ≡ s → 0 < i → number_up_to 255 (take i text) ≡ None
front_none s zero text other some first h = absurd (omega arith)
front_none s (suc i) [] other some first h = absurd (omega arith)
front_none s (suc i) (c ∷ text) other some first h = no_number c (take i text) (ap is_digit first ∙ other)
  where
    no_number : (c : ℕ) (rest : List ℕ) → is_digit c ≡ false → number_up_to 255 (c ∷ rest) ≡ None
    no_number c [] other = rw other refl
    no_number c (d ∷ rest) other = rw other refl

bound : (s i : ℕ) (text : List ℕ) → cut_at s text ≡ Some (take i text, drop (i + 1) text) → octet_before s text ≡ octet_up_to i text
bound s i text cut = rw cut refl

none_bound : (i : ℕ) (text : List ℕ) → number_up_to 255 (take i text) ≡ None → octet_up_to i text ≡ None
none_bound i text none = rw none refl

-- the separator stands at a place, and at none before it but perhaps the first
pub octet_at : (s i : ℕ) (text : List ℕ) → is_digit s ≡ false → 0 < i → StandsAt i s text
    → ((k : ℕ) → 0 < k → k < i → StandsAt k s text → ⊥) → octet_up_to i text ≡ octet_before s text
octet_at s i text other some (inside, here) before =
    elim (cases_eq (get_or text 0 0) s) [
      | inl first ↦
          none_bound i text (front_none s i text other (omega arith) first some)
          ∙ sym (bound s 0 text (cut_at-place s text 0 (omega arith) (λ k h. absurd (omega arith)) (eq-eqb _ s first)))
      | inr later ↦ sym (bound s i text (cut_at-place s text i inside (λ k h. ne_eqb _ s (each later k h)) (eq-eqb _ s here)))
    ]
  where
    each : get_or text 0 0 ≢ s → (k : ℕ) → k < i → get_or text k 0 ≢ s
    each later zero h = later
    each later (suc k) h = λ e. before (suc k) (omega arith) h (omega arith, e)

octet_end : (s : ℕ) (text : List ℕ) (n : ℕ) (rest : List ℕ) → IsOctet s text n rest
    → (i : ℕ) × (0 < i) × (i ≤ 3) × StandsAt i s text
octet_end s text n rest h =
    let fits = h.fits in
    let long : length text ≡ length (decimal n) + suc (length rest) = ap length h.whole ∙ length-append (decimal n) (s ∷ rest) in (
      length (decimal n),
      decimal_nonempty n (omega arith),
      length-decimal-le 3 n (omega arith) (omega arith) (omega arith),
      (omega arith, ap (λ (xs : List ℕ). get_or xs (length (decimal n)) 0) h.whole ∙ get_or_at (decimal n) s rest 0 (length (decimal n)) refl),
    )

pub before_two : (s : ℕ) (text : List ℕ) → (StandsAt 1 s text → ⊥) → (k : ℕ) → 0 < k → k < 2 → StandsAt k s text → ⊥
before_two s text one zero some few = absurd (omega arith)
before_two s text one (suc zero) some few = one
before_two s text one (suc (suc k)) some few = absurd (omega arith)

pub before_three : (s : ℕ) (text : List ℕ) → (StandsAt 1 s text → ⊥) → (StandsAt 2 s text → ⊥) → (k : ℕ) → 0 < k → k < 3 → StandsAt k s text → ⊥
before_three s text one two zero some few = absurd (omega arith)
before_three s text one two (suc zero) some few = one
before_three s text one two (suc (suc zero)) some few = two
before_three s text one two (suc (suc (suc k))) some few = absurd (omega arith)

-- an octet has three digits at most
pub octet_none : (s : ℕ) (text : List ℕ) → (StandsAt 1 s text → ⊥) → (StandsAt 2 s text → ⊥) → (StandsAt 3 s text → ⊥)
    → octet_before s text ≡ None
octet_none s text one two three = go (octet_before s text) refl
  where
    at : (i : ℕ) → 0 < i → i ≤ 3 → StandsAt i s text → ⊥
    at zero some few stands = absurd (omega arith)
    at (suc zero) some few stands = one stands
    at (suc (suc zero)) some few stands = two stands
    at (suc (suc (suc zero))) some few stands = three stands
    at (suc (suc (suc (suc i)))) some few stands = absurd (omega arith)

    go : (o : Option (ℕ × List ℕ)) → octet_before s text ≡ o → octet_before s text ≡ None
    go None e = e
    go (Some read) e = let (i, some, few, stands) = octet_end s text read.0 read.1 (octet_only s text read e) in absurd (at i some few stands)

-- ---- four octets and a port

abbrev text_of : (a b c d port : ℕ) → List ℕ
text_of a b c d port = decimal a ++ 46 ∷ (decimal b ++ 46 ∷ (decimal c ++ 46 ∷ (decimal d ++ 58 ∷ decimal port)))

abbrev ip_of : (a b c d : ℕ) → ℕ
ip_of a b c d = number_from_digits 256 (a ∷ b ∷ c ∷ d ∷ [])

printed_in_turn : (ip port : ℕ) → printed_octets ip ++ 58 ∷ decimal port ≡ text_of (ip / 256 ^ 3 % 256) (ip / 256 ^ 2 % 256) (ip / 256 ^ 1 % 256) (ip / 256 ^ 0 % 256) port
printed_in_turn ip port = simp append_assoc

turn_again : (a b c d port : ℕ) → a < 256 → b < 256 → c < 256 → d < 256 → port < 2 ^ 16
    → ipv4_in_turn (text_of a b c d port) ≡ Some (record { ip = V4 (ip_of a b c d); port = port })
turn_again a b c d port ha hb hc hd hp =
    rw (
      octet_again 46 a (decimal b ++ 46 ∷ (decimal c ++ 46 ∷ (decimal d ++ 58 ∷ decimal port))) dot_apart ha,
      octet_again 46 b (decimal c ++ 46 ∷ (decimal d ++ 58 ∷ decimal port)) dot_apart hb,
      octet_again 46 c (decimal d ++ 58 ∷ decimal port) dot_apart hc,
      octet_again 58 d (decimal port) colon_apart hd,
      port_again port hp,
    ) refl

-- what the grammar has is read
turn_of_grammar : (word : List ℕ) (address : Addr) → ipv4_address_of word ≡ Some address → ipv4_in_turn word ≡ Some address
turn_of_grammar word address e =
    let p = ipv4_parts word address e in
    let back : number_from_digits 256 (low_digits 256 4 p.ip) ≡ p.ip = number-low_digits 256 4 p.ip (omega arith) p.fits in
    ap ipv4_in_turn (p.printed ∙ printed_in_turn p.ip p.port)
    ∙ turn_again (p.ip / 256 ^ 3 % 256) (p.ip / 256 ^ 2 % 256) (p.ip / 256 ^ 1 % 256) (p.ip / 256 ^ 0 % 256) p.port (omega arith) (omega arith) (omega arith) (omega arith) p.small
    ∙ ap (λ (ip : ℕ). Some (record { ip = V4 ip; port = p.port })) back
    ∙ ap Some p.same

grammar_again : (a b c d port : ℕ) → a < 256 → b < 256 → c < 256 → d < 256 → port < 2 ^ 16
    → ipv4_address_of (text_of a b c d port) ≡ Some (record { ip = V4 (ip_of a b c d); port = port })
grammar_again a b c d port ha hb hc hd hp =
    let octets : List ℕ = a ∷ b ∷ c ∷ d ∷ [] in
    let below : AllBelowBase 256 octets = (ha, (hb, (hc, (hd, tt)))) in
    let digits : low_digits 256 4 (ip_of a b c d) ≡ octets = low_digits-number 256 4 octets refl below in
    let printed : printed_octets (ip_of a b c d) ++ 58 ∷ decimal port ≡ text_of a b c d port =
    ap (λ (ds : List ℕ). join_with_byte 46 (map decimal ds) ++ 58 ∷ decimal port) digits ∙ simp append_assoc in
    ap ipv4_address_of (sym printed) ∙ ipv4_again (ip_of a b c d) port (number_lt 256 octets below) hp

-- what is read is in the grammar
grammar_of_turn : (word : List ℕ) (address : Addr) → ipv4_in_turn word ≡ Some address → ipv4_address_of word ≡ Some address
grammar_of_turn word address e =
    let (first, is_first, e) = bind_some (octet_before 46 word) _ address e in
    let (second, is_second, e) = bind_some (octet_before 46 first.1) _ address e in
    let (third, is_third, e) = bind_some (octet_before 46 second.1) _ address e in
    let (fourth, is_fourth, e) = bind_some (octet_before 58 third.1) _ address e in
    let (port, is_port, e) = bind_some (port_of fourth.1) _ address e in
    let a = octet_only 46 word first is_first in
    let b = octet_only 46 first.1 second is_second in
    let c = octet_only 46 second.1 third is_third in
    let d = octet_only 58 third.1 fourth is_fourth in
    let (number, small) = decimal-number_up_to 65535 fourth.1 port is_port (lit< tt) in
    let whole : word ≡ text_of first.0 second.0 third.0 fourth.0 port =
    a.whole ∙ ap (λ (rest : List ℕ). decimal first.0 ++ 46 ∷ rest) (b.whole ∙ ap (λ (rest : List ℕ). decimal second.0 ++ 46 ∷ rest)
    (c.whole ∙ ap (λ (rest : List ℕ). decimal third.0 ++ 46 ∷ rest) (d.whole ∙ ap (λ (rest : List ℕ). decimal fourth.0 ++ 58 ∷ rest) number))) in
    ap ipv4_address_of whole ∙ grammar_again first.0 second.0 third.0 fourth.0 port a.fits b.fits c.fits d.fits (omega (arith, small)) ∙ e

same_readings : {A : Type 0} (o p : Option A) → ((x : A) → o ≡ Some x → p ≡ Some x) → ((x : A) → p ≡ Some x → o ≡ Some x) → o ≡ p
same_readings (Some x) p to from = sym (to x refl)
same_readings None (Some x) to from = from x refl
same_readings None None to from = refl

pub in_turn : (word : List ℕ) → ipv4_in_turn word ≡ ipv4_address_of word
in_turn word = same_readings (ipv4_in_turn word) (ipv4_address_of word) (grammar_of_turn word) (turn_of_grammar word)
