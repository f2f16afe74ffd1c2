use Rattle.std.proofs.Common.{◌≡◌, [], Ok, Some, sym, ap, ◌∙◌}
use Rattle.std.proofs.lemmas.Bool.{eqb-true}
use Rattle.std.proofs.lemmas.List.{nil_from_length}
use Rattle.cbor_items.specs.Scan.{scan_of}
use Rattle.mux_segment.specs.Protocols.{node_limits}
use Rattle.mux_segment.specs.Steps.{next_of}
use Rattle.mux_segment.specs.Stream.{CutterState}
use Rattle.mux_segment.proofs.Feeds.{fed_first}
use Rattle.mux_segment.proofs.Takes.{next_again}
use Rattle.mux_segment.proofs.cutter.Cutter.first.Goals as goal

pub returns-in-Ok-Some : goal.returns-in-Ok-Some
returns-in-Ok-Some c =
    let inside = c.self.inside in
    let state : CutterState = record { undecoded = record { rest = inside.rest; parts = inside.parts }; fault = inside.fault } in
    let payload = c.in_ok-header.payload.now in
    let limit = c.in_ok-limit.limit in
    let no_rest : inside.rest ≡ [] = sym c.as_slice.ensures ∙ nil_from_length c.as_slice.result.now (eqb-true _ _ (sym c.if-not-is_empty.ensures)) in
    let no_parts : inside.parts ≡ [] = nil_from_length inside.parts (eqb-true _ _ (sym c.if-not-are_none.ensures)) in
    let next : next_of (scan_of payload) limit payload ≡ Ok (Some c.in-Ok-Some.size) =
    next_again limit payload c.first_item.result _ c.first_item.ensures.scan (sym c.in-Ok-Some.ensures ∙ ap Ok c.in-Ok-Some.field-0-is) in
    rw (← c.self.view_is, c.split_at.ensures.front) (fed_first node_limits state c.args.bytes.now payload c.in_ok-header.field-0-2.now c.in_ok-header.header limit c.in-Ok-Some.size
    (sym c.if-is_some.ensures) no_rest no_parts c.in_ok-header.ensures (sym c.in_ok-limit.ensures.limit) next)
