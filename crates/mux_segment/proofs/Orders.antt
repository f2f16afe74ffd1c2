-- Parts stay in order, and none is empty.
use Rattle.std.proofs.Common.{◌≡◌, ℕ, suc, ◌<◌, true, false, eqb, ltb, ◌&&◌, ◌⊎◌, List, [], ◌∷◌, ◌++◌, length, Option, Some, None, refl, sym, ap, subst, ◌∙◌, arith, inl, inr, one-add}
use Rattle.std.specs.Prelude.{insert, remove, slice_get}
use Rattle.std.proofs.lemmas.Bool.{cases_Bool, cases_eq, eqb-true, eqb-false, ltb-true, ltb-false, lt-ltb, le-ltb, eq-eqb, ne_eqb, or_cases, or_parts, and_parts, or_left, or_right}
use Rattle.net_base.specs.Shared.{Part}
use Rattle.mux_segment.specs.declared.fault.CutFault.{CutFault}
use Rattle.mux_segment.specs.Segment.{Segment, cut_of}
use Rattle.mux_segment.specs.Protocols.{Limits}
use Rattle.mux_segment.specs.Items.{taken_of}
use Rattle.mux_segment.specs.Parts.{comes_before, place_of, is_of, found_part, part_bytes, without_part, with_part}
use Rattle.mux_segment.specs.Stream.{Decoded, payload_decoded, segment_decoded, then_decoded, decoded, CutterState, state_after, fed_after, fed_by}
use Rattle.mux_segment.specs.Law.{ComesFirst, AreInOrder}

-- ---- the order of sides and protocols

IsBefore : ℕ → ℕ → ℕ → ℕ → Type 0
IsBefore side id other_side other_id = (side < other_side) ⊎ ((side ≡ other_side) × (id < other_id))

before_from : (side id : ℕ) (part : Part) → comes_before side id part ≡ true → IsBefore part.side part.protocol side id
unfolding IsBefore
before_from side id part e =
    elim (or_cases (ltb part.side side) (eqb part.side side && ltb part.protocol id) e) [
      | inl less ↦ inl (ltb-true _ _ less)
      | inr same ↦ let p = and_parts (eqb part.side side) (ltb part.protocol id) same in inr (eqb-true _ _ p.0, ltb-true _ _ p.1)
    ]

before_to : (side id : ℕ) (part : Part) → IsBefore part.side part.protocol side id → comes_before side id part ≡ true
unfolding IsBefore
before_to side id part (inl less) = or_left (ltb part.side side) (eqb part.side side && ltb part.protocol id) (lt-ltb _ _ less)
before_to side id part (inr (same, less)) = rw (eq-eqb part.side side same, lt-ltb part.protocol id less) (or_right (ltb part.side side) true refl)

before_trans : (a b c d e f : ℕ) → IsBefore a b c d → IsBefore c d e f → IsBefore a b e f
unfolding IsBefore
before_trans a b c d e f (inl x) (inl y) = inl (omega arith)
before_trans a b c d e f (inl x) (inr (y, z)) = inl (omega arith)
before_trans a b c d e f (inr (x, z)) (inl y) = inl (omega arith)
before_trans a b c d e f (inr (x, w)) (inr (y, z)) = inr (omega arith, omega arith)

-- of two sides and protocols that are not the same, the one that isn't before the other comes after it
before_or_after : (side id : ℕ) (part : Part) → comes_before side id part ≡ false → is_of side id (Some part) ≡ false → IsBefore side id part.side part.protocol
unfolding IsBefore
before_or_after side id part late other =
    let l = or_parts (ltb part.side side) (eqb part.side side && ltb part.protocol id) late in
    elim (cases_eq part.side side) [
      | inl same ↦
          let no_less : ltb part.protocol id ≡ false = rw (eq-eqb part.side side same) at l.1 in
          let no_same : eqb part.protocol id ≡ false = rw (eq-eqb part.side side same) at other in
          let no_same' = eqb-false _ _ no_same in
          let le = ltb-false _ _ no_less in
          inr (sym same, omega arith)
      | inr differs ↦ let le = ltb-false _ _ l.0 in inl (omega arith)
    ]

-- ---- the parts around a place

module _ (side id : ℕ) (q : Part) (qs : List Part) where
  place_later : comes_before side id q ≡ true → place_of side id (q ∷ qs) ≡ suc (place_of side id qs)
  place_later e = rw e (one-add (place_of side id qs))

  place_here : comes_before side id q ≡ false → place_of side id (q ∷ qs) ≡ 0
  place_here e = rw e refl

  pub found_later : comes_before side id q ≡ true → found_part side id (q ∷ qs) ≡ found_part side id qs
  found_later e = ap (slice_get (q ∷ qs)) (place_later e)

  pub found_here : comes_before side id q ≡ false → found_part side id (q ∷ qs) ≡ Some q
  found_here e = ap (slice_get (q ∷ qs)) (place_here e)

  pub without_later : comes_before side id q ≡ true → without_part side id (q ∷ qs) ≡ q ∷ without_part side id qs
  unfolding without_part
  without_later e =
      elim (cases_Bool (is_of side id (found_part side id qs))) [
        | inl some ↦
            let some' : is_of side id (found_part side id (q ∷ qs)) ≡ true = ap (is_of side id) (found_later e) ∙ some in
            rw (some, some') (ap (remove (q ∷ qs)) (place_later e))
        | inr none ↦
            let none' : is_of side id (found_part side id (q ∷ qs)) ≡ false = ap (is_of side id) (found_later e) ∙ none in
            rw (none, none') refl
      ]

  pub without_here : comes_before side id q ≡ false → is_of side id (Some q) ≡ true → without_part side id (q ∷ qs) ≡ qs
  unfolding without_part
  without_here e same =
      let some : is_of side id (found_part side id (q ∷ qs)) ≡ true = ap (is_of side id) (found_here e) ∙ same in
      rw some (ap (remove (q ∷ qs)) (place_here e))

  without_none : comes_before side id q ≡ false → is_of side id (Some q) ≡ false → without_part side id (q ∷ qs) ≡ q ∷ qs
  unfolding without_part
  without_none e other =
      let none : is_of side id (found_part side id (q ∷ qs)) ≡ false = ap (is_of side id) (found_here e) ∙ other in
      rw none refl

  module _ (bytes : List ℕ) (some : 0 < length bytes) where
    pub with_later : comes_before side id q ≡ true → with_part side id bytes (q ∷ qs) ≡ q ∷ with_part side id bytes qs
    unfolding with_part
    with_later e = rw (ne_eqb (length bytes) 0 (λ none. omega arith)) (ap (λ (n : ℕ). insert (q ∷ qs) n (record { side = side; protocol = id; bytes = bytes })) (place_later e))

    pub with_here : comes_before side id q ≡ false → with_part side id bytes (q ∷ qs) ≡ record { side = side; protocol = id; bytes = bytes } ∷ q ∷ qs
    unfolding with_part
    with_here e = rw (ne_eqb (length bytes) 0 (λ none. omega arith)) (ap (λ (n : ℕ). insert (q ∷ qs) n (record { side = side; protocol = id; bytes = bytes })) (place_here e))

pub with_alone : (side id : ℕ) (bytes : List ℕ) → 0 < length bytes → with_part side id bytes [] ≡ record { side = side; protocol = id; bytes = bytes } ∷ []
unfolding with_part
with_alone side id bytes some = rw (ne_eqb (length bytes) 0 (λ none. omega arith)) refl

without_nothing : (side id : ℕ) → without_part side id [] ≡ []
unfolding without_part
without_nothing side id = refl

-- ---- order is kept

first_first : (p q : Part) (qs : List Part) → ComesFirst p (q ∷ qs) → ComesFirst q qs → ComesFirst p qs
first_first p q [] a b = tt
first_first p q (r ∷ qs) a b =
    before_to r.side r.protocol p (before_trans p.side p.protocol q.side q.protocol r.side r.protocol (before_from q.side q.protocol p a) (before_from r.side r.protocol q b))

first_without : (side id : ℕ) (p : Part) (qs : List Part) → ComesFirst p qs → AreInOrder qs → ComesFirst p (without_part side id qs)
first_without side id p [] first order = subst (ComesFirst p) (sym (without_nothing side id)) first
first_without side id p (q ∷ qs) first order =
    elim (cases_Bool (comes_before side id q)) [
      | inl later ↦ subst (ComesFirst p) (sym (without_later side id q qs later)) first
      | inr here ↦ elim (cases_Bool (is_of side id (Some q))) [
        | inl same ↦ subst (ComesFirst p) (sym (without_here side id q qs here same)) (first_first p q qs first order.1)
        | inr other ↦ subst (ComesFirst p) (sym (without_none side id q qs here other)) first
      ]
    ]

order_without : (side id : ℕ) (parts : List Part) → AreInOrder parts → AreInOrder (without_part side id parts)
order_without side id [] order = subst AreInOrder (sym (without_nothing side id)) order
order_without side id (q ∷ qs) order =
    elim (cases_Bool (comes_before side id q)) [
      | inl later ↦ subst AreInOrder (sym (without_later side id q qs later)) (order.0, first_without side id q qs order.1 order.2, order_without side id qs order.2)
      | inr here ↦ elim (cases_Bool (is_of side id (Some q))) [
        | inl same ↦ subst AreInOrder (sym (without_here side id q qs here same)) order.2
        | inr other ↦ subst AreInOrder (sym (without_none side id q qs here other)) order
      ]
    ]

-- no part of this side and protocol stands at its place
abbrev IsAbsent : ℕ → ℕ → List Part → Type 0
IsAbsent side id parts = is_of side id (found_part side id parts) ≡ false

-- what comes after a part of this side and protocol is another one
pub after_is_late : (side id : ℕ) (p r : Part) → is_of side id (Some p) ≡ true → comes_before r.side r.protocol p ≡ true → (comes_before side id r ≡ false) × (is_of side id (Some r) ≡ false)
unfolding IsBefore
after_is_late side id p r same before =
    let s = and_parts (eqb p.side side) (eqb p.protocol id) same in
    let side-is = eqb-true _ _ s.0 in
    let id-is = eqb-true _ _ s.1 in
    elim (before_from r.side r.protocol p before) [
      | inl less ↦
          let late : ltb r.side side ≡ false = le-ltb _ _ (omega arith) in
          let other : eqb r.side side ≡ false = ne_eqb _ _ (λ e. omega arith) in
          (rw (late, other) refl, rw other refl)
      | inr (equal, less) ↦
          let late : ltb r.side side ≡ false = le-ltb _ _ (omega arith) in
          let not_less : ltb r.protocol id ≡ false = le-ltb _ _ (omega arith) in
          let is : eqb r.side side ≡ true = eq-eqb _ _ (omega arith) in
          let other : eqb r.protocol id ≡ false = ne_eqb _ _ (λ e. omega arith) in
          (rw (late, is, not_less) refl, rw (is, other) refl)
    ]

absent_behind : (side id : ℕ) (p : Part) (qs : List Part) → is_of side id (Some p) ≡ true → ComesFirst p qs → IsAbsent side id qs
absent_behind side id p [] same first = refl
absent_behind side id p (r ∷ qs) same first =
    let late = after_is_late side id p r same first in
    ap (is_of side id) (found_here side id r qs late.0) ∙ late.1

absent_without : (side id : ℕ) (parts : List Part) → AreInOrder parts → IsAbsent side id (without_part side id parts)
absent_without side id [] order = subst (IsAbsent side id) (sym (without_nothing side id)) refl
absent_without side id (q ∷ qs) order =
    elim (cases_Bool (comes_before side id q)) [
      | inl later ↦ subst (IsAbsent side id) (sym (without_later side id q qs later))
          (ap (is_of side id) (found_later side id q (without_part side id qs) later) ∙ absent_without side id qs order.2)
      | inr here ↦ elim (cases_Bool (is_of side id (Some q))) [
        | inl same ↦ subst (IsAbsent side id) (sym (without_here side id q qs here same)) (absent_behind side id q qs same order.1)
        | inr other ↦ subst (IsAbsent side id) (sym (without_none side id q qs here other)) (ap (is_of side id) (found_here side id q qs here) ∙ other)
      ]
    ]

module _ (side id : ℕ) (bytes : List ℕ) (some : 0 < length bytes) where
  first_with : (p : Part) (qs : List Part) → comes_before side id p ≡ true → ComesFirst p qs → ComesFirst p (with_part side id bytes qs)
  first_with p [] before first = subst (ComesFirst p) (sym (with_alone side id bytes some)) before
  first_with p (q ∷ qs) before first =
      elim (cases_Bool (comes_before side id q)) [
        | inl later ↦ subst (ComesFirst p) (sym (with_later side id q qs bytes some later)) first
        | inr here ↦ subst (ComesFirst p) (sym (with_here side id q qs bytes some here)) before
      ]

  order_with : (parts : List Part) → AreInOrder parts → IsAbsent side id parts → AreInOrder (with_part side id bytes parts)
  order_with [] order absent = subst AreInOrder (sym (with_alone side id bytes some)) (some, tt, tt)
  order_with (q ∷ qs) order absent =
      elim (cases_Bool (comes_before side id q)) [
        | inl later ↦
            let absent' : IsAbsent side id qs = sym (ap (is_of side id) (found_later side id q qs later)) ∙ absent in
            subst AreInOrder (sym (with_later side id q qs bytes some later)) (order.0, first_with q qs later order.1, order_with qs order.2 absent')
        | inr here ↦
            let other : is_of side id (Some q) ≡ false = sym (ap (is_of side id) (found_here side id q qs here)) ∙ absent in
            let new : Part = record { side = side; protocol = id; bytes = bytes } in
            let before : comes_before q.side q.protocol new ≡ true = before_to q.side q.protocol new (before_or_after side id q here other) in
            subst AreInOrder (sym (with_here side id q qs bytes some here)) (some, before, order)
      ]

order_put : (side id : ℕ) (bytes : List ℕ) (parts : List Part) → AreInOrder parts → IsAbsent side id parts → AreInOrder (with_part side id bytes parts)
unfolding with_part
order_put side id [] parts order absent = order
order_put side id (byte ∷ bytes) parts order absent = order_with side id (byte ∷ bytes) (omega arith) parts order absent

-- ---- and so through a whole stream

pub order_payload : (limit : Option ℕ) (parts : List Part) (side id : ℕ) (payload : List ℕ) → AreInOrder parts → AreInOrder (payload_decoded limit parts side id payload).parts
order_payload None parts side id payload order = order
order_payload (Some limit) parts side id payload order =
    order_put side id (taken_of limit (part_bytes side id parts ++ payload)).left (without_part side id parts)
    (order_without side id parts order) (absent_without side id parts order)

order_segment : (limits : Limits) (parts : List Part) (s : Segment) → AreInOrder parts → AreInOrder (segment_decoded limits parts s).parts
unfolding segment_decoded
order_segment limits parts s order = order_payload (limits s.header.id) parts s.header.side s.header.id s.payload order

order_then : (f : Option CutFault) (d : Decoded) (next : List Part → Decoded) → AreInOrder d.parts → ((parts : List Part) → AreInOrder parts → AreInOrder (next parts).parts) → AreInOrder (then_decoded f d next).parts
order_then None d next order others = others d.parts order
order_then (Some fault) d next order others = order

order_decoded : (limits : Limits) (segments : List Segment) (parts : List Part) → AreInOrder parts → AreInOrder (decoded limits parts segments).parts
unfolding decoded
order_decoded limits [] parts order = order
order_decoded limits (s ∷ segments) parts order =
    let d = segment_decoded limits parts s in
    order_then d.fault d (λ others. decoded limits others segments) (order_segment limits parts s order) (order_decoded limits segments)

order_after : (f : Option CutFault) (rest : List ℕ) (parts : List Part) → AreInOrder parts → AreInOrder (state_after f rest parts).undecoded.parts
order_after None rest parts order = order
order_after (Some fault) rest parts order = tt

order_fed : (f : Option CutFault) (limits : Limits) (state : CutterState) (bytes : List ℕ) → AreInOrder state.undecoded.parts → AreInOrder (fed_after f limits state bytes).state.undecoded.parts
order_fed None limits state bytes order =
    let c = cut_of (state.undecoded.rest ++ bytes) in
    let d = decoded limits state.undecoded.parts c.segments in
    order_after d.fault c.rest d.parts (order_decoded limits c.segments state.undecoded.parts order)
order_fed (Some fault) limits state bytes order = order

pub stay_in_order : (limits : Limits) (state : CutterState) (bytes : List ℕ) → AreInOrder state.undecoded.parts → AreInOrder (fed_by limits state bytes).state.undecoded.parts
unfolding fed_by
stay_in_order limits state bytes order = order_fed state.fault limits state bytes order
