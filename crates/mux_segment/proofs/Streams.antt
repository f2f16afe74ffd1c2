-- What comes of the segments of a stream.
use Rattle.std.proofs.Common.{◌≡◌, ℕ, ◌+◌, ◌-◌, ◌≤◌, ◌<◌, List, [], ◌∷◌, ◌++◌, length, take, drop, map, Option, Some, None, Err, refl, sym, ap, ◌∙◌, append_assoc, arith}
use Rattle.std.proofs.lemmas.List.{append-nil, length-append, drop-drop, drop_at}
use Rattle.net_base.specs.Shared.{Part}
use Rattle.mux_segment.specs.declared.item.Item.{Item}
use Rattle.mux_segment.specs.declared.header.Header.{Header}
use Rattle.mux_segment.specs.declared.fault.CutFault.{CutFault}
use Rattle.mux_segment.specs.declared.fault.CutFault.TheVariants.{UnknownId}
use Rattle.mux_segment.specs.declared.stopped.Stopped.{Stopped}
use Rattle.mux_segment.specs.declared.stopped.Stopped.TheVariants.{Fault, NoMemory}
use Rattle.mux_segment.specs.Segment.{Segment, segment_at, Cut, cut_of}
use Rattle.mux_segment.specs.Protocols.{Limits}
use Rattle.mux_segment.specs.Items.{taken_of}
use Rattle.mux_segment.specs.Parts.{part_bytes, without_part, with_part}
use Rattle.mux_segment.specs.Stream.{Decoded, item_of, segment_decoded, then_decoded, decoded}
use Rattle.mux_segment.specs.Steps.{Adds, segment_with}
use Rattle.mux_segment.proofs.Cuts.{front_of, cut_none, cut_some}

-- ---- one segment

abbrev pub payload_taken : ℕ → List Part → Header → List ℕ → Decoded
payload_taken limit parts header payload =
    let t = taken_of limit (part_bytes header.side header.id parts ++ payload) in record {
      parts = with_part header.side header.id t.left (without_part header.side header.id parts);
      items = map (item_of header.side header.id) t.bodies;
      fault = t.fault;
    }

module _ (limits : Limits) (parts : List Part) (header : Header) (payload : List ℕ) where
  pub unknown_decoded : limits header.id ≡ None → segment_decoded limits parts (segment_with header payload) ≡ record { parts = parts; items = []; fault = Some UnknownId }
  unfolding segment_decoded
  unknown_decoded none = rw none refl

  pub known_decoded : (limit : ℕ) → limits header.id ≡ Some limit → segment_decoded limits parts (segment_with header payload) ≡ payload_taken limit parts header payload
  unfolding segment_decoded
  known_decoded limit some = rw some refl

-- ---- the loop

abbrev behind_rest : Limits → List Part → List ℕ → Decoded
behind_rest limits parts rest = decoded limits parts (cut_of rest).segments

-- with `rest` still to come, and these parts and items so far
pub record IsReading (limits : Limits) (old_parts : List Part) (old_items : List Item) (stream : List ℕ) (parts : List Part) (items : List Item) (rest : List ℕ) : Type 0 where
  pub items-are : items ++ (behind_rest limits parts rest).items ≡ old_items ++ (behind_rest limits old_parts stream).items
  pub parts-are : (behind_rest limits parts rest).parts ≡ (behind_rest limits old_parts stream).parts
  pub fault-is : (behind_rest limits parts rest).fault ≡ (behind_rest limits old_parts stream).fault
  pub rest-is : (cut_of rest).rest ≡ (cut_of stream).rest
  pub within : length rest ≤ length stream
  pub behind : drop (length stream - length rest) stream ≡ rest

decoded_turn : (limits : Limits) (parts : List Part) (s : Segment) (segments : List Segment) → decoded limits parts (s ∷ segments) ≡
    then_decoded (segment_decoded limits parts s).fault (segment_decoded limits parts s) (λ others. decoded limits others segments)
unfolding decoded
decoded_turn limits parts s segments = refl

decoded_end : (limits : Limits) (parts : List Part) → decoded limits parts [] ≡ record { parts = parts; items = []; fault = None }
unfolding decoded
decoded_end limits parts = refl

module _ (limits : Limits) (old_parts : List Part) (old_items : List Item) (stream : List ℕ) where
  pub reading_starts : IsReading limits old_parts old_items stream old_parts old_items stream
  reading_starts = record {
    items-are = refl;
    parts-are = refl;
    fault-is = refl;
    rest-is = refl;
    within = omega arith;
    behind = let none : length stream - length stream ≡ 0 = omega arith in rw none refl;
  }

  module _ (parts : List Part) (items : List Item) (rest : List ℕ) (s : Segment) (after : List ℕ) (some : segment_at rest ≡ Some (s, after))
      (so_far : IsReading limits old_parts old_items stream parts items rest) where
    -- what comes of the rest, by its first segment
    turn : behind_rest limits parts rest ≡
        then_decoded (segment_decoded limits parts s).fault (segment_decoded limits parts s) (λ others. behind_rest limits others after)
    turn = ap (λ (c : Cut). decoded limits parts c.segments) (cut_some rest s after some) ∙ decoded_turn limits parts s (cut_of after).segments

    pub reading_goes_on : (new_parts : List Part) (new_items : List Item) → (segment_decoded limits parts s).fault ≡ None
        → new_items ≡ items ++ (segment_decoded limits parts s).items → new_parts ≡ (segment_decoded limits parts s).parts
        → IsReading limits old_parts old_items stream new_parts new_items after
    reading_goes_on new_parts new_items none items-is parts-is =
        let first = segment_decoded limits parts s in
        let next = behind_rest limits first.parts after in
        let both : behind_rest limits parts rest ≡ record { parts = next.parts; items = first.items ++ next.items; fault = next.fault } =
        turn ∙ ap (λ (f : Option CutFault). then_decoded f first (λ others. behind_rest limits others after)) none in
        let f = front_of rest s after some in
        let place : length stream - length after ≡ (length stream - length rest) + (length rest - length after) = omega (arith, f.long, so_far.within) in
        let cut_behind : drop (length rest - length after) rest ≡ after =
        let joined : rest ≡ (take 8 rest ++ s.payload) ++ after = f.joined ∙ sym (append_assoc (take 8 rest) s.payload after) in
        let len : length (take 8 rest ++ s.payload) ≡ length rest - length after = omega (arith, ap length joined, length-append (take 8 rest ++ s.payload) after) in
        ap (drop (length rest - length after)) joined ∙ drop_at (take 8 rest ++ s.payload) after (length rest - length after) len in
        let is : IsReading limits old_parts old_items stream first.parts (items ++ first.items) after = record {
          items-are = append_assoc items first.items next.items ∙ sym (ap (λ (d : Decoded). items ++ d.items) both) ∙ so_far.items-are;
          parts-are = sym (ap (λ (d : Decoded). d.parts) both) ∙ so_far.parts-are;
          fault-is = sym (ap (λ (d : Decoded). d.fault) both) ∙ so_far.fault-is;
          rest-is = sym (ap (λ (c : Cut). c.rest) (cut_some rest s after some)) ∙ so_far.rest-is;
          within = omega (arith, f.long, so_far.within);
          behind = rw place (sym (drop-drop (length rest - length after) (length stream - length rest) stream) ∙ ap (drop (length rest - length after)) so_far.behind ∙ cut_behind);
        } in
        rw (items-is, parts-is) is

    pub reading_stops : (X : Type 0) (new_items : List Item) (stop : Stopped)
        → Adds {X = X} (Err stop) items new_items (segment_decoded limits parts s).items (segment_decoded limits parts s).fault
        → Adds {X = ℕ} (Err stop) old_items new_items (behind_rest limits old_parts stream).items (behind_rest limits old_parts stream).fault
    reading_stops X new_items (Fault fault) adds =
        let first = segment_decoded limits parts s in
        let both : behind_rest limits parts rest ≡ first = turn ∙ ap (λ (f : Option CutFault). then_decoded f first (λ others. behind_rest limits others after)) adds.0 in (
          sym so_far.fault-is ∙ ap (λ (d : Decoded). d.fault) both ∙ adds.0,
          adds.1 ∙ sym (ap (λ (d : Decoded). items ++ d.items) both) ∙ so_far.items-are,
        )
    reading_stops X new_items NoMemory adds = tt

  pub reading_smaller : (rest : List ℕ) (s : Segment) (after : List ℕ) → segment_at rest ≡ Some (s, after) → length after < length rest
  reading_smaller rest s after some = let f = front_of rest s after some in omega (arith, f.long)

  -- no whole segment is left
  pub record HasRead (parts : List Part) (items : List Item) (rest : List ℕ) : Type 0 where
    pub fault-is : (behind_rest limits old_parts stream).fault ≡ None
    pub items-are : items ≡ old_items ++ (behind_rest limits old_parts stream).items
    pub parts-are : parts ≡ (behind_rest limits old_parts stream).parts
    pub behind : drop (length stream - length rest) stream ≡ (cut_of stream).rest

  pub reading_ends : (parts : List Part) (items : List Item) (rest : List ℕ) → segment_at rest ≡ None → IsReading limits old_parts old_items stream parts items rest
      → HasRead parts items rest
  reading_ends parts items rest none so_far =
      let c = cut_none rest none in
      let last : behind_rest limits parts rest ≡ record { parts = parts; items = []; fault = None } = ap (λ (x : Cut). decoded limits parts x.segments) c ∙ decoded_end limits parts in
      record {
        fault-is = sym so_far.fault-is ∙ ap (λ (d : Decoded). d.fault) last;
        items-are = sym (append-nil items) ∙ sym (ap (λ (d : Decoded). items ++ d.items) last) ∙ so_far.items-are;
        parts-are = sym (ap (λ (d : Decoded). d.parts) last) ∙ so_far.parts-are;
        behind = so_far.behind ∙ sym (ap (λ (x : Cut). x.rest) c) ∙ so_far.rest-is;
      }

-- ---- as the code takes a segment

module _ (limits : Limits) (parts : List Part) (header : Header) (payload : List ℕ) (limit : ℕ) (known : limits header.id ≡ Some limit)
    (part : List ℕ) (part-is : part ≡ part_bytes header.side header.id parts ++ payload) where
  abbrev pub taken-is : Decoded
  taken-is = record {
    parts = with_part header.side header.id (taken_of limit part).left (without_part header.side header.id parts);
    items = map (item_of header.side header.id) (taken_of limit part).bodies;
    fault = (taken_of limit part).fault;
  }

  pub segment_is : segment_decoded limits parts (segment_with header payload) ≡ taken-is
  segment_is = rw part-is (known_decoded limits parts header payload limit known)

  pub segment_items : (segment_decoded limits parts (segment_with header payload)).items ≡ map (item_of header.side header.id) (taken_of limit part).bodies
  segment_items = ap (λ (d : Decoded). d.items) segment_is

  pub segment_fault : (segment_decoded limits parts (segment_with header payload)).fault ≡ (taken_of limit part).fault
  segment_fault = ap (λ (d : Decoded). d.fault) segment_is

  pub segment_parts : (segment_decoded limits parts (segment_with header payload)).parts
      ≡ with_part header.side header.id (taken_of limit part).left (without_part header.side header.id parts)
  segment_parts = ap (λ (d : Decoded). d.parts) segment_is

  pub segment_adds : (X : Type 0) (items new : List Item) (stop : Stopped)
      → Adds {X = ℕ} (Err stop) items new (map (item_of header.side header.id) (taken_of limit part).bodies) (taken_of limit part).fault
      → Adds {X = X} (Err stop) items new (segment_decoded limits parts (segment_with header payload)).items (segment_decoded limits parts (segment_with header payload)).fault
  segment_adds X items new (Fault fault) adds = (segment_fault ∙ adds.0, adds.1 ∙ ap (λ (x : List Item). items ++ x) (sym segment_items))
  segment_adds X items new NoMemory adds = tt
