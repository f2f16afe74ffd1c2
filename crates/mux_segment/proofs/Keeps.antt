-- Parts that wait are kept, and a segment without payload touches none of them.
use Rattle.std.proofs.Common.{◌≡◌, ℕ, zero, suc, ◌≤◌, ◌<◌, true, false, eqb, leb, List, [], ◌∷◌, ◌++◌, length, take, drop, Option, Some, None, Result, Ok, Err, refl, sym, ap, subst, ◌∙◌, arith, inl, inr}
use Rattle.std.specs.Prelude.{All}
use Rattle.std.proofs.lemmas.Bool.{cases_Bool, eqb-true, eqb-false, and_parts, lt-leb}
use Rattle.std.proofs.lemmas.List.{append-nil, length-drop}
use Rattle.std.proofs.lemmas.List.Elements.{All-nil, All-cons, All-head, All-tail, All-append, All-take, All-drop}
use Rattle.net_base.specs.Shared.{Part}
use Rattle.cbor_items.specs.Scan.{skip_item, scan_of}
use Rattle.mux_segment.specs.declared.header.Header.{Header}
use Rattle.mux_segment.specs.declared.fault.CutFault.{CutFault}
use Rattle.mux_segment.specs.Segment.{Segment}
use Rattle.mux_segment.specs.Protocols.{Limits}
use Rattle.mux_segment.specs.Items.{Taken, taken_of}
use Rattle.mux_segment.specs.Parts.{comes_before, place_of, is_of, found_part, part_bytes, without_part, with_part}
use Rattle.mux_segment.specs.Stream.{Decoded, payload_decoded, segment_decoded, then_decoded, decoded}
use Rattle.mux_segment.specs.Steps.{next_of, segment_with}
use Rattle.mux_segment.specs.Law.{ComesFirst, AreInOrder}
use Rattle.mux_segment.specs.Kept.{Waits, AreKept}
use Rattle.mux_segment.proofs.Takes.{nothing_taken, next_item_is, taken_some, taken_none, taken_fault}
use Rattle.mux_segment.proofs.Orders.{found_later, found_here, without_later, without_here, with_later, with_here, with_alone, after_is_late, order_payload}
use Rattle.mux_segment.proofs.Streams.{known_decoded}

-- ---- what is left waits

abbrev Leaves : ℕ → Taken → Type 0
Leaves limit t = t.fault ≡ None → taken_of limit t.left ≡ nothing_taken t.left

leaves_by : (limit : ℕ) (part : List ℕ) (r : Result (Option ℕ) CutFault) → next_of (scan_of part) limit part ≡ r
    → ((k : ℕ) → next_of (scan_of part) limit part ≡ Ok (Some k) → Leaves limit (taken_of limit (drop k part))) → Leaves limit (taken_of limit part)
leaves_by limit part (Ok (Some k)) e others = subst (Leaves limit) (sym (taken_some limit k part e)) (others k e)
leaves_by limit part (Ok None) e others = subst (Leaves limit) (sym (taken_none limit part e)) (λ none. taken_none limit part e)
leaves_by limit part (Err fault) e others = subst (Leaves limit) (sym (taken_fault limit part fault e)) (λ none. absurd cc)

leaves_within : (n limit : ℕ) (part : List ℕ) → length part ≤ n → Leaves limit (taken_of limit part)
leaves_within zero limit part small =
    leaves_by limit part (next_of (scan_of part) limit part) refl (λ k some. let is = next_item_is limit part k some in absurd (omega (arith, is.some, is.within)))
leaves_within (suc n) limit part small =
    leaves_by limit part (next_of (scan_of part) limit part) refl (λ k some.
    let is = next_item_is limit part k some in
    leaves_within n limit (drop k part) (omega (arith, is.some, is.within, length-drop k part)))

leaves : (limit : ℕ) (part : List ℕ) → Leaves limit (taken_of limit part)
leaves limit part = leaves_within (length part) limit part (omega arith)

-- ---- all parts but one, and one more

all_without : (P : Part → Type 0) (side id : ℕ) (parts : List Part) → All P parts → All P (without_part side id parts)
unfolding without_part
all_without P side id parts all =
    let n = place_of side id parts in
    elim (cases_Bool (is_of side id (found_part side id parts))) [
      | inl some ↦ rw some (All-append P (take n parts) (drop (suc n) parts) (All-take P n parts all) (All-drop P (suc n) parts all))
      | inr none ↦ rw none all
    ]

all_with : (P : Part → Type 0) (side id : ℕ) (bytes : List ℕ) (parts : List Part) → All P parts
    → (0 < length bytes → P (record { side = side; protocol = id; bytes = bytes })) → All P (with_part side id bytes parts)
unfolding with_part
all_with P side id bytes parts all new =
    let n = place_of side id parts in
    let part : Part = record { side = side; protocol = id; bytes = bytes } in
    elim (cases_Bool (eqb (length bytes) 0)) [
      | inl none ↦ rw none all
      | inr some ↦
          let more : length bytes ≡ 0 → ⊥ = eqb-false _ _ some in
          let positive : 0 < length bytes = omega (arith, more) in
          rw some (All-append P (take n parts) (part ∷ drop n parts) (All-take P n parts all) (All-cons P part (drop n parts) (new positive) (All-drop P n parts all)))
    ]

-- ---- a segment keeps them so

kept_payload : (limits : Limits) (o : Option ℕ) (parts : List Part) (side id : ℕ) (payload : List ℕ) → limits id ≡ o → AreKept limits parts
    → (payload_decoded o parts side id payload).fault ≡ None → AreKept limits (payload_decoded o parts side id payload).parts
kept_payload limits None parts side id payload known kept none = absurd cc
kept_payload limits (Some limit) parts side id payload known kept none =
    let t = taken_of limit (part_bytes side id parts ++ payload) in
    record {
      order = order_payload (Some limit) parts side id payload kept.order;
      wait = all_with (Waits limits) side id t.left (without_part side id parts) (all_without (Waits limits) side id parts kept.wait)
          (λ some. record { limit = limit; known = known; nothing = leaves limit (part_bytes side id parts ++ payload) none });
    }

pub kept_segment : (limits : Limits) (parts : List Part) (s : Segment) → AreKept limits parts → (segment_decoded limits parts s).fault ≡ None
    → AreKept limits (segment_decoded limits parts s).parts
unfolding segment_decoded
kept_segment limits parts s kept none = kept_payload limits (limits s.header.id) parts s.header.side s.header.id s.payload refl kept none

kept_then : (limits : Limits) (f : Option CutFault) (d : Decoded) (next : List Part → Decoded) → d.fault ≡ f → (d.fault ≡ None → AreKept limits d.parts)
    → ((parts : List Part) → AreKept limits parts → (next parts).fault ≡ None → AreKept limits (next parts).parts)
    → (then_decoded f d next).fault ≡ None → AreKept limits (then_decoded f d next).parts
kept_then limits None d next is first others none = others d.parts (first is) none
kept_then limits (Some fault) d next is first others none = first none

pub kept_decoded : (limits : Limits) (segments : List Segment) (parts : List Part) → AreKept limits parts → (decoded limits parts segments).fault ≡ None
    → AreKept limits (decoded limits parts segments).parts
unfolding decoded
kept_decoded limits [] parts kept none = kept
kept_decoded limits (s ∷ segments) parts kept none =
    let d = segment_decoded limits parts s in
    kept_then limits d.fault d (λ others. decoded limits others segments) refl (kept_segment limits parts s kept) (kept_decoded limits segments) none

pub none_kept : (limits : Limits) → AreKept limits []
none_kept limits = record { order = tt; wait = All-nil (Waits limits) }

-- ---- the part of a side and protocol, taken out and put back

IsThere : ℕ → ℕ → List Part → Type 0
IsThere side id parts = is_of side id (found_part side id parts) ≡ true

module _ (side id : ℕ) (q : Part) (qs : List Part) where
  bytes_later : comes_before side id q ≡ true → part_bytes side id (q ∷ qs) ≡ part_bytes side id qs
  unfolding part_bytes
  bytes_later later = rw (found_later side id q qs later) refl

  bytes_here : comes_before side id q ≡ false → is_of side id (Some q) ≡ true → part_bytes side id (q ∷ qs) ≡ q.bytes
  unfolding part_bytes
  bytes_here here same = rw (found_here side id q qs here, same) refl

  there_later : comes_before side id q ≡ true → IsThere side id (q ∷ qs) → IsThere side id qs
  unfolding IsThere
  there_later later there = sym (ap (is_of side id) (found_later side id q qs later)) ∙ there

  there_here : comes_before side id q ≡ false → IsThere side id (q ∷ qs) → is_of side id (Some q) ≡ true
  unfolding IsThere
  there_here here there = sym (ap (is_of side id) (found_here side id q qs here)) ∙ there

there_some : (side id : ℕ) (parts : List Part) → AreInOrder parts → IsThere side id parts → 0 < length (part_bytes side id parts)
unfolding IsThere
there_some side id [] order there = absurd cc
there_some side id (q ∷ qs) order there =
    elim (cases_Bool (comes_before side id q)) [
      | inl later ↦ rw (bytes_later side id q qs later) (there_some side id qs order.2 (there_later side id q qs later there))
      | inr here ↦ rw (bytes_here side id q qs here (there_here side id q qs here there)) order.0
    ]

itself : (side id : ℕ) (q : Part) → is_of side id (Some q) ≡ true → (q.side ≡ side) × (q.protocol ≡ id)
itself side id q same = let s = and_parts (eqb q.side side) (eqb q.protocol id) same in (eqb-true _ _ s.0, eqb-true _ _ s.1)

put_first : (side id : ℕ) (q : Part) (qs : List Part) → 0 < length q.bytes → is_of side id (Some q) ≡ true → ComesFirst q qs → with_part side id q.bytes qs ≡ q ∷ qs
put_first side id q [] some same first =
    let is = itself side id q same in
    rw (← is.0, ← is.1) (with_alone q.side q.protocol q.bytes some)
put_first side id q (r ∷ qs) some same first =
    let is = itself side id q same in
    let late = after_is_late side id q r same first in
    with_here side id r qs q.bytes some late.0 ∙ rw (← is.0, ← is.1) refl

put_back : (side id : ℕ) (parts : List Part) → AreInOrder parts → IsThere side id parts → with_part side id (part_bytes side id parts) (without_part side id parts) ≡ parts
unfolding IsThere
put_back side id [] order there = absurd cc
put_back side id (q ∷ qs) order there =
    elim (cases_Bool (comes_before side id q)) [
      | inl later ↦
          let there' = there_later side id q qs later there in
          let bytes = part_bytes side id qs in
          rw (bytes_later side id q qs later, without_later side id q qs later)
          (with_later side id q (without_part side id qs) bytes (there_some side id qs order.2 there') later ∙ ap (λ (x : List Part). q ∷ x) (put_back side id qs order.2 there'))
      | inr here ↦
          let same = there_here side id q qs here there in
          rw (bytes_here side id q qs here same, without_here side id q qs here same) (put_first side id q qs order.0 same order.1)
    ]

-- ---- a segment without payload

same_limit : (a b : ℕ) → ◌≡◌ {A = Option ℕ} (Some a) (Some b) → a ≡ b
same_limit a b e = cc

there_waits : (limits : Limits) (side id limit : ℕ) (parts : List Part) → limits id ≡ Some limit → All (Waits limits) parts → IsThere side id parts
    → taken_of limit (part_bytes side id parts) ≡ nothing_taken (part_bytes side id parts)
unfolding IsThere
there_waits limits side id limit [] known wait there = absurd cc
there_waits limits side id limit (q ∷ qs) known wait there =
    elim (cases_Bool (comes_before side id q)) [
      | inl later ↦ rw (bytes_later side id q qs later) (there_waits limits side id limit qs known (All-tail (Waits limits) q qs wait) (there_later side id q qs later there))
      | inr here ↦
          let same = there_here side id q qs here there in
          let w = All-head (Waits limits) q qs wait in
          let is = itself side id q same in
          let limit-is : w.limit ≡ limit = same_limit w.limit limit (sym w.known ∙ ap limits is.1 ∙ known) in
          rw (bytes_here side id q qs here same, ← limit-is) w.nothing
    ]

nothing_there : (limit : ℕ) → 0 < limit → taken_of limit [] ≡ nothing_taken []
unfolding scan_of skip_item
nothing_there limit some = let open' : leb limit 0 ≡ false = lt-leb limit 0 some in taken_none limit [] (rw open' refl)

absent_bytes : (side id : ℕ) (parts : List Part) → is_of side id (found_part side id parts) ≡ false
    → (part_bytes side id parts ≡ []) × (without_part side id parts ≡ parts)
unfolding part_bytes without_part
absent_bytes side id parts none = rw none (refl, refl)

nothing_put : (side id : ℕ) (parts : List Part) → with_part side id [] parts ≡ parts
unfolding with_part
nothing_put side id parts = refl

module _ (limits : Limits) (parts : List Part) (header : Header) (limit : ℕ) (known : limits header.id ≡ Some limit) (some : 0 < limit) (kept : AreKept limits parts) where
  waits_still : (taken_of limit (part_bytes header.side header.id parts) ≡ nothing_taken (part_bytes header.side header.id parts))
      × (with_part header.side header.id (part_bytes header.side header.id parts) (without_part header.side header.id parts) ≡ parts)
  unfolding IsThere
  waits_still =
      elim (cases_Bool (is_of header.side header.id (found_part header.side header.id parts))) [
        | inl there ↦ (there_waits limits header.side header.id limit parts known kept.wait there, put_back header.side header.id parts kept.order there)
        | inr none ↦
            let absent = absent_bytes header.side header.id parts none in
            rw (absent.0, absent.1) (nothing_there limit some, nothing_put header.side header.id parts)
      ]

  pub touches_nothing : segment_decoded limits parts (segment_with header []) ≡ record { parts = parts; items = []; fault = None }
  touches_nothing =
      let bytes = part_bytes header.side header.id parts in
      let w = waits_still in
      let taken : taken_of limit (bytes ++ []) ≡ nothing_taken bytes = ap (taken_of limit) (append-nil bytes) ∙ w.0 in
      known_decoded limits parts header [] limit known
      ∙ rw taken (ap (λ (x : List Part). record { parts = x; items = []; fault = None }) w.1)
