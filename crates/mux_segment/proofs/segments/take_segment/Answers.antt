use Rattle.std.proofs.Common.{◌≡◌, ℕ, List, [], ◌++◌, map, refl, sym, ap, ◌∙◌}
use Rattle.std.proofs.lemmas.Bool.{eqb-true}
use Rattle.std.proofs.lemmas.List.{append-nil, nil_from_length}
use Rattle.std.proofs.lemmas.Result.{err_from_is_err_and}
use Rattle.net_base.specs.Shared.{Part}
use Rattle.mux_segment.specs.declared.item.Item.{Item}
use Rattle.mux_segment.specs.Protocols.{node_limits}
use Rattle.mux_segment.specs.Items.{taken_of}
use Rattle.mux_segment.specs.Parts.{part_bytes, with_part}
use Rattle.mux_segment.specs.Stream.{Decoded, item_of}
use Rattle.mux_segment.proofs.Keeps.{touches_nothing}
use Rattle.mux_segment.proofs.Takes.{adds_any}
use Rattle.mux_segment.proofs.Streams.{unknown_decoded, segment_items, segment_fault, segment_parts, segment_adds}
use Rattle.mux_segment.proofs.segments.take_segment.Goals as goal

pub returns-in_default-clause-items : goal.returns-in_default-clause-items
returns-in_default-clause-items c =
    let unknown = unknown_decoded node_limits c.args.parts.now c.args.header c.args.payload.now (sym c.in_default.ensures.limit) in (
      ap (λ (d : Decoded). d.fault) unknown,
      sym (append-nil c.args.items.now) ∙ ap (λ (d : Decoded). c.args.items.now ++ d.items) (sym unknown),
    )

pub returns-in_err-left-clause-items : goal.returns-in_err-left-clause-items
returns-in_err-left-clause-items c =
    let p = err_from_is_err_and c.from_residual.result c.from_residual.ensures.1 in
    let part : c.take-waiting.result ++ c.args.payload.now ≡ part_bytes c.args.header.side c.args.header.id c.args.parts.now ++ c.args.payload.now =
    ap (λ (x : List ℕ). x ++ c.args.payload.now) c.take-waiting.ensures.bytes in
    let t = taken_of c.in-Some.limit (c.take-waiting.result ++ c.args.payload.now) in
    let fields = item_of c.args.header.side c.args.header.id in
    rw (p.1, p.2) (segment_adds node_limits c.args.parts.now c.args.header c.args.payload.now c.in-Some.limit (sym c.in-Some.ensures.limit)
    (c.take-waiting.result ++ c.args.payload.now) part (Unit {0}) c.args.items.now c.take_payload.new.items c.in_err-left.field-0.0
    (adds_any (List ℕ) ℕ c.in_err-left.field-0.0 c.args.items.now c.take_payload.new.items (map fields t.bodies) t.fault c.in_err-left.ensures.items))

pub returns-clause-items : goal.returns-clause-items
returns-clause-items c =
    let part : c.take-waiting.result ++ c.args.payload.now ≡ part_bytes c.args.header.side c.args.header.id c.args.parts.now ++ c.args.payload.now =
    ap (λ (x : List ℕ). x ++ c.args.payload.now) c.take-waiting.ensures.bytes in
    let stream = c.take-waiting.result ++ c.args.payload.now in
    let adds = c.in_ok-left.ensures.items in (
      segment_fault node_limits c.args.parts.now c.args.header c.args.payload.now c.in-Some.limit (sym c.in-Some.ensures.limit) stream part ∙ adds.0,
      adds.1 ∙ ap (λ (x : List Item). c.args.items.now ++ x)
          (sym (segment_items node_limits c.args.parts.now c.args.header c.args.payload.now c.in-Some.limit (sym c.in-Some.ensures.limit) stream part)),
    )

pub returns-clause-parts : goal.returns-clause-parts
returns-clause-parts c =
    let header = c.args.header in
    let stream = c.take-waiting.result ++ c.args.payload.now in
    let part : stream ≡ part_bytes c.args.header.side c.args.header.id c.args.parts.now ++ c.args.payload.now =
    ap (λ (x : List ℕ). x ++ c.args.payload.now) c.take-waiting.ensures.bytes in
    c.in_ok-put.ensures
    ∙ ap (λ (x : List ℕ). with_part header.side header.id x c.take-waiting.new.self) c.in_ok-left.ensures.left
    ∙ ap (λ (x : List Part). with_part header.side header.id (taken_of c.in-Some.limit stream).left x) c.take-waiting.ensures.parts
    ∙ sym (segment_parts node_limits c.args.parts.now header c.args.payload.now c.in-Some.limit (sym c.in-Some.ensures.limit) stream part)

pub returns-then-is_empty-clause-items : goal.returns-then-is_empty-clause-items
returns-then-is_empty-clause-items c =
    let none : c.args.payload.now ≡ [] = nil_from_length c.args.payload.now (eqb-true _ _ (sym c.if-is_empty.ensures)) in
    let nothing = touches_nothing node_limits c.args.parts.now c.args.header c.in-Some.limit (sym c.in-Some.ensures.limit) c.in-Some.ensures.some c.requires in
    rw (none, nothing) (refl, sym (append-nil c.args.items.now))

pub returns-then-is_empty-clause-parts : goal.returns-then-is_empty-clause-parts
returns-then-is_empty-clause-parts c =
    let none : c.args.payload.now ≡ [] = nil_from_length c.args.payload.now (eqb-true _ _ (sym c.if-is_empty.ensures)) in
    let nothing = touches_nothing node_limits c.args.parts.now c.args.header c.in-Some.limit (sym c.in-Some.ensures.limit) c.in-Some.ensures.some c.requires in
    rw (none, nothing) refl
