-- The cut of a stream into segments.
use Rattle.std.proofs.Common.{◌≡◌, ℕ, zero, suc, ◌+◌, ◌≤◌, ◌<◌, ◌⊎◌, List, [], ◌∷◌, ◌++◌, length, take, drop, Option, Some, None, refl, sym, ap, subst, ◌∙◌, append_assoc, arith, inl, inr}
use Rattle.std.specs.List.{flat_map}
use Rattle.std.proofs.lemmas.Bool.{lt-ltb, le-ltb, cases_lt}
use Rattle.std.proofs.lemmas.List.{append-nil, length-append, length-take, length-drop, take-append-drop, take-append-le, drop-append-le, take_at, drop_at}
use Rattle.std.proofs.lemmas.List.Elements.{All-nil, All-cons, All-head, All-tail}
use Rattle.cbor_items.specs.Item.{AreBytes}
use Rattle.mux_segment.specs.declared.header.Header.{Header}
use Rattle.mux_segment.specs.Segment.{FitsHeader, header_bytes, header_of, Segment, IsSegment, segment_bytes, IsCut, segment_at, Cut, cut_at, cut_within, cut_of}
use Rattle.mux_segment.specs.Steps.{segment_with}
use Rattle.mux_segment.proofs.Headers.{Fit, Fit-take, Fit-drop, Fit-from_bytes, header_back, header_fits, header_again}

abbrev front_header : List ℕ → Header
front_header bytes = header_of (take 8 bytes)

-- ---- one segment

module _ (bytes : List ℕ) where
  pub no_header : length bytes < 8 → segment_at bytes ≡ None
  unfolding segment_at
  no_header short = rw (lt-ltb (length bytes) 8 short) refl

  pub no_payload : 8 ≤ length bytes → length (drop 8 bytes) < (front_header bytes).size → segment_at bytes ≡ None
  unfolding segment_at
  no_payload long short =
      rw (le-ltb (length bytes) 8 long, lt-ltb (length bytes) (8 + (front_header bytes).size) (omega (arith, length-drop 8 bytes))) refl

  pub segment_found : 8 ≤ length bytes → (front_header bytes).size ≤ length (drop 8 bytes)
      → segment_at bytes ≡ Some (segment_with (front_header bytes) (take (front_header bytes).size (drop 8 bytes)), drop (front_header bytes).size (drop 8 bytes))
  unfolding segment_at
  segment_found long fits =
      rw (le-ltb (length bytes) 8 long, le-ltb (length bytes) (8 + (front_header bytes).size) (omega (arith, length-drop 8 bytes))) refl

-- the same as the code reads it
module _ (bytes front rest : List ℕ) (header : Header) (size : ℕ) (header-is : header ≡ header_of front) (front-is : front ≡ take 8 bytes) (rest-is : rest ≡ drop 8 bytes)
    (len : length rest + 8 ≡ length bytes) (size-is : size ≡ header.size) where
  header-at : header ≡ front_header bytes
  header-at = header-is ∙ ap header_of front-is

  size-at : size ≡ (front_header bytes).size
  size-at = size-is ∙ ap (λ (h : Header). h.size) header-at

  pub payload_missing : length rest < size → segment_at bytes ≡ None
  payload_missing short =
      no_payload bytes (omega arith) (omega (arith, short, size-at, ap length rest-is))

  pub payload_read : (payload after : List ℕ) → size ≤ length rest → payload ≡ take size rest → after ≡ drop size rest
      → segment_at bytes ≡ Some (segment_with header payload, after)
  payload_read payload after fits payload-is after-is =
      let found = segment_found bytes (omega arith) (omega (arith, fits, size-at, ap length rest-is)) in
      let n = (front_header bytes).size in
      let p : take n (drop 8 bytes) ≡ payload = sym (payload-is ∙ ap (λ (k : ℕ). take k rest) size-at ∙ ap (take n) rest-is) in
      let q : drop n (drop 8 bytes) ≡ after = sym (after-is ∙ ap (λ (k : ℕ). drop k rest) size-at ∙ ap (drop n) rest-is) in
      found
      ∙ ap (λ (x : List ℕ). Some (segment_with (front_header bytes) x, drop n (drop 8 bytes))) p
      ∙ ap (λ (x : List ℕ). Some (segment_with (front_header bytes) payload, x)) q
      ∙ ap (λ (x : Header). Some (segment_with x payload, after)) (sym header-at)

-- ---- what a segment at the front is

-- a segment and what stands behind it
pub record IsFront (bytes : List ℕ) (s : Segment) (after : List ℕ) : Type 0 where
  pub long : 8 + length s.payload + length after ≡ length bytes
  pub header-is : s.header ≡ front_header bytes
  pub size-is : length s.payload ≡ s.header.size
  pub joined : bytes ≡ take 8 bytes ++ (s.payload ++ after)

pub front_of : (bytes : List ℕ) (s : Segment) (after : List ℕ) → segment_at bytes ≡ Some (s, after) → IsFront bytes s after
front_of bytes s after e =
    elim (cases_lt (length bytes) 8) [
      | inl short ↦ let none = no_header bytes short in absurd cc
      | inr long ↦ elim (cases_lt (length (drop 8 bytes)) (front_header bytes).size) [
        | inl short ↦ let none = no_payload bytes long short in absurd cc
        | inr fits ↦
            let n = (front_header bytes).size in
            let found = segment_found bytes long fits in
            let same : ◌≡◌ {A = Segment × List ℕ} (segment_with (front_header bytes) (take n (drop 8 bytes)), drop n (drop 8 bytes)) (s, after) = cc in
            let is : IsFront bytes (segment_with (front_header bytes) (take n (drop 8 bytes))) (drop n (drop 8 bytes)) = record {
              long = omega (arith, length-take n (drop 8 bytes), length-drop n (drop 8 bytes), length-drop 8 bytes);
              header-is = refl;
              size-is = omega (arith, length-take n (drop 8 bytes));
              joined = sym (take-append-drop 8 bytes) ∙ ap (λ (x : List ℕ). take 8 bytes ++ x) (sym (take-append-drop n (drop 8 bytes)));
            } in
            subst (λ (x : Segment × List ℕ). IsFront bytes x.0 x.1) same is
      ]
    ]

-- it is there whatever follows
pub segment_stays : (bytes more : List ℕ) (s : Segment) (after : List ℕ) → segment_at bytes ≡ Some (s, after) → segment_at (bytes ++ more) ≡ Some (s, after ++ more)
segment_stays bytes more s after e =
    let f = front_of bytes s after e in
    let front : take 8 bytes ≡ take 8 (bytes ++ more) = sym (take-append-le 8 bytes more (omega (arith, f.long))) in
    let behind : drop 8 (bytes ++ more) ≡ s.payload ++ (after ++ more) =
    drop-append-le 8 bytes more (omega (arith, f.long))
    ∙ ap (λ (x : List ℕ). drop 8 x ++ more) f.joined
    ∙ ap (λ (x : List ℕ). x ++ more) (drop_at (take 8 bytes) (s.payload ++ after) 8 (omega (arith, length-take 8 bytes, f.long)))
    ∙ append_assoc s.payload after more in
    payload_read (bytes ++ more) (take 8 bytes) (s.payload ++ (after ++ more)) s.header (length s.payload) f.header-is front (sym behind)
    (omega (arith, f.long, length-append bytes more, length-append s.payload (after ++ more), length-append after more)) f.size-is
    s.payload (after ++ more) (omega (arith, length-append s.payload (after ++ more)))
    (sym (take_at s.payload (after ++ more) (length s.payload) refl)) (sym (drop_at s.payload (after ++ more) (length s.payload) refl))

-- a segment is read again from its bytes, whatever follows them
pub segment_again : (s : Segment) (after : List ℕ) → IsSegment s → segment_at (segment_bytes s ++ after) ≡ Some (s, after)
segment_again s after is =
    let bytes = segment_bytes s ++ after in
    let front = header_bytes s.header in
    let regrouped : bytes ≡ front ++ (s.payload ++ after) = append_assoc front s.payload after in
    let rest : s.payload ++ after ≡ drop 8 bytes = sym (ap (drop 8) regrouped ∙ drop_at front (s.payload ++ after) 8 refl) in
    let front-is : front ≡ take 8 bytes = sym (ap (take 8) regrouped ∙ take_at front (s.payload ++ after) 8 refl) in
    let header-is : s.header ≡ header_of front = sym (ap header_of (sym (append-nil front)) ∙ header_again s.header [] is.fits) in
    payload_read bytes front (s.payload ++ after) s.header (length s.payload) header-is front-is rest
    (omega (arith, ap length regrouped, length-append front (s.payload ++ after))) is.size
    s.payload after (omega (arith, length-append s.payload after))
    (sym (take_at s.payload after (length s.payload) refl)) (sym (drop_at s.payload after (length s.payload) refl))

-- what is read from bytes is a segment, spelled by them
pub segment_spelled : (bytes : List ℕ) (s : Segment) (after : List ℕ) → Fit bytes → segment_at bytes ≡ Some (s, after) → IsSegment s × (bytes ≡ segment_bytes s ++ after)
segment_spelled bytes s after fits e =
    let f = front_of bytes s after e in
    let front = Fit-take 8 bytes fits in
    let spelled : header_bytes s.header ≡ take 8 bytes = ap header_bytes f.header-is ∙ header_back (take 8 bytes) (omega (arith, length-take 8 bytes, f.long)) front in (
      record { fits = subst FitsHeader (sym f.header-is) (header_fits (take 8 bytes) front); size = f.size-is },
      f.joined ∙ ap (λ (x : List ℕ). x ++ (s.payload ++ after)) (sym spelled) ∙ sym (append_assoc (header_bytes s.header) s.payload after),
    )

-- ---- the cut

pub shorter : (bytes : List ℕ) (s : Segment) (after : List ℕ) → segment_at bytes ≡ Some (s, after) → 8 + length after ≤ length bytes
shorter bytes s after e = let f = front_of bytes s after e in omega (arith, f.long)

abbrev found_is : (r : Option (Segment × List ℕ)) → Type 0
found_is r = (r ≡ None) ⊎ ((s : Segment) × (after : List ℕ) × (r ≡ Some (s, after)))

look : (r : Option (Segment × List ℕ)) → found_is r
look None = inl refl
look (Some read) = inr (read.0, read.1, refl)

-- more turns than bytes change nothing
cut_enough : (n m : ℕ) (bytes : List ℕ) → length bytes ≤ n → length bytes ≤ m → cut_within n bytes ≡ cut_within m bytes
unfolding cut_within
cut_enough zero zero bytes a b = refl
cut_enough zero (suc m) bytes a b =
    elim (look (segment_at bytes)) [
      | inl none ↦ rw none refl
      | inr (s, after, some) ↦ absurd (omega (arith, shorter bytes s after some))
    ]
cut_enough (suc n) zero bytes a b =
    elim (look (segment_at bytes)) [
      | inl none ↦ rw none refl
      | inr (s, after, some) ↦ absurd (omega (arith, shorter bytes s after some))
    ]
cut_enough (suc n) (suc m) bytes a b =
    elim (look (segment_at bytes)) [
      | inl none ↦ rw none refl
      | inr (s, after, some) ↦
          let same = cut_enough n m after (omega (arith, shorter bytes s after some)) (omega (arith, shorter bytes s after some)) in
          rw some (ap (λ (c : Cut). cut_at (Some (s, after)) bytes (λ x. c)) same)
    ]

abbrev pub with_segment : Segment → Cut → Cut
with_segment s c = record { segments = s ∷ c.segments; rest = c.rest }

abbrev pub nothing_cut : List ℕ → Cut
nothing_cut bytes = record { segments = []; rest = bytes }

cut_turn : (n : ℕ) (bytes : List ℕ) (s : Segment) (after : List ℕ) → segment_at bytes ≡ Some (s, after) → cut_within (suc n) bytes ≡ with_segment s (cut_within n after)
unfolding cut_within
cut_turn n bytes s after some = rw some refl

cut_end : (n : ℕ) (bytes : List ℕ) → segment_at bytes ≡ None → cut_within n bytes ≡ nothing_cut bytes
unfolding cut_within
cut_end zero bytes none = refl
cut_end (suc n) bytes none = rw none refl

pub cut_none : (bytes : List ℕ) → segment_at bytes ≡ None → cut_of bytes ≡ nothing_cut bytes
unfolding cut_of
cut_none bytes none = cut_end (length bytes) bytes none

pub cut_some : (bytes : List ℕ) (s : Segment) (after : List ℕ) → segment_at bytes ≡ Some (s, after) → cut_of bytes ≡ with_segment s (cut_of after)
unfolding cut_of
cut_some bytes s after some =
    let less = shorter bytes s after some in
    cut_enough (length bytes) (suc (length bytes)) bytes (omega arith) (omega arith)
    ∙ cut_turn (length bytes) bytes s after some
    ∙ ap (with_segment s) (cut_enough (length bytes) (length after) after (omega arith) (omega arith))

-- a stream and what follows it
abbrev pub cut_then : Cut → List ℕ → Cut
cut_then first more = let c = cut_of (first.rest ++ more) in record { segments = first.segments ++ c.segments; rest = c.rest }

cut_append_within : (n : ℕ) (bytes more : List ℕ) → length bytes ≤ n → cut_of (bytes ++ more) ≡ cut_then (cut_of bytes) more
cut_append_within zero bytes more fits =
    elim (look (segment_at bytes)) [
      | inl none ↦ rw (cut_none bytes none) refl
      | inr (s, after, some) ↦ absurd (omega (arith, shorter bytes s after some))
    ]
cut_append_within (suc n) bytes more fits =
    elim (look (segment_at bytes)) [
      | inl none ↦ rw (cut_none bytes none) refl
      | inr (s, after, some) ↦
          let others = cut_append_within n after more (omega (arith, shorter bytes s after some)) in
          cut_some (bytes ++ more) s (after ++ more) (segment_stays bytes more s after some)
          ∙ ap (with_segment s) others
          ∙ ap (λ (c : Cut). cut_then c more) (sym (cut_some bytes s after some))
    ]

pub cut_append : (bytes more : List ℕ) → cut_of (bytes ++ more) ≡ cut_then (cut_of bytes) more
cut_append bytes more = cut_append_within (length bytes) bytes more (omega arith)

-- the rest begins with no whole segment
cut_settled_within : (n : ℕ) (bytes : List ℕ) → length bytes ≤ n → segment_at (cut_of bytes).rest ≡ None
cut_settled_within zero bytes fits =
    elim (look (segment_at bytes)) [
      | inl none ↦ rw (cut_none bytes none) none
      | inr (s, after, some) ↦ absurd (omega (arith, shorter bytes s after some))
    ]
cut_settled_within (suc n) bytes fits =
    elim (look (segment_at bytes)) [
      | inl none ↦ rw (cut_none bytes none) none
      | inr (s, after, some) ↦ rw (cut_some bytes s after some) (cut_settled_within n after (omega (arith, shorter bytes s after some)))
    ]

pub cut_settled : (bytes : List ℕ) → segment_at (cut_of bytes).rest ≡ None
cut_settled bytes = cut_settled_within (length bytes) bytes (omega arith)

-- ---- the cut is the one that the words say

Fit-behind : (n : ℕ) (front after : List ℕ) → length front ≡ n → Fit (front ++ after) → Fit after
Fit-behind n front after len fits = let same : drop n (front ++ after) ≡ after = drop_at front after n len in subst Fit same (Fit-drop n (front ++ after) fits)

no_segment : (rest : List ℕ) → segment_at rest ≡ None → (s : Segment) (after : List ℕ) → IsSegment s → rest ≡ segment_bytes s ++ after → ⊥
no_segment rest none s after is e =
    let some : segment_at rest ≡ Some (s, after) = ap segment_at e ∙ segment_again s after is in
    absurd cc

cut_is_within : (n : ℕ) (bytes : List ℕ) → length bytes ≤ n → Fit bytes → IsCut bytes (cut_of bytes).segments (cut_of bytes).rest
cut_is_within zero bytes small fits =
    elim (look (segment_at bytes)) [
      | inl none ↦ rw (cut_none bytes none) (record { joined = refl; each = All-nil IsSegment; partial = no_segment bytes none })
      | inr (s, after, some) ↦ absurd (omega (arith, shorter bytes s after some))
    ]
cut_is_within (suc n) bytes small fits =
    elim (look (segment_at bytes)) [
      | inl none ↦ rw (cut_none bytes none) (record { joined = refl; each = All-nil IsSegment; partial = no_segment bytes none })
      | inr (s, after, some) ↦
          let spelled = segment_spelled bytes s after fits some in
          let others = cut_is_within n after (omega (arith, shorter bytes s after some))
          (Fit-behind (length (segment_bytes s)) (segment_bytes s) after refl (subst Fit spelled.1 fits)) in
          let c = cut_of after in
          rw (cut_some bytes s after some) (record {
            joined = spelled.1 ∙ ap (λ (x : List ℕ). segment_bytes s ++ x) others.joined ∙ sym (append_assoc (segment_bytes s) (flat_map segment_bytes c.segments) c.rest);
            each = All-cons IsSegment s c.segments spelled.0 others.each;
            partial = others.partial;
          })
    ]

pub cut_is : (bytes : List ℕ) → Fit bytes → IsCut bytes (cut_of bytes).segments (cut_of bytes).rest
cut_is bytes fits = cut_is_within (length bytes) bytes (omega arith) fits

pub cut_only : (segments : List Segment) (bytes rest : List ℕ) → Fit rest → IsCut bytes segments rest → cut_of bytes ≡ record { segments = segments; rest = rest }
cut_only [] bytes rest fits is =
    elim (look (segment_at rest)) [
      | inl none ↦ ap cut_of is.joined ∙ cut_none rest none
      | inr (s, after, some) ↦ let spelled = segment_spelled rest s after fits some in absurd (is.partial s after spelled.0 spelled.1)
    ]
cut_only (s ∷ segments) bytes rest fits is =
    let after = flat_map segment_bytes segments ++ rest in
    let first : IsSegment s = All-head IsSegment s segments is.each in
    let joined : bytes ≡ segment_bytes s ++ after = is.joined ∙ append_assoc (segment_bytes s) (flat_map segment_bytes segments) rest in
    let some : segment_at bytes ≡ Some (s, after) = ap segment_at joined ∙ segment_again s after first in
    let others = cut_only segments after rest fits (record { joined = refl; each = All-tail IsSegment s segments is.each; partial = is.partial }) in
    cut_some bytes s after some ∙ ap (with_segment s) others

-- the rest of bytes is bytes
pub rest_fits : (bytes : List ℕ) (segments : List Segment) (rest : List ℕ) → AreBytes bytes → IsCut bytes segments rest → Fit rest
rest_fits bytes segments rest are is =
    let front = flat_map segment_bytes segments in
    Fit-behind (length front) front rest refl (subst Fit is.joined (Fit-from_bytes bytes are))
