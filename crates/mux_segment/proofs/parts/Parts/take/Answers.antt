use Rattle.std.proofs.Common.{sym, ap, ◌∙◌, arith}
use Rattle.mux_segment.specs.declared.part.Part.{Part}
use Rattle.mux_segment.specs.PartView.{parts_view}
use Rattle.mux_segment.proofs.Places.{stands, absent_bytes, absent_parts, there_within, there_bytes, there_parts}
use Rattle.mux_segment.proofs.parts.Parts.take.Goals as goal

pub returns-then-not-is_at-clause-bytes : goal.returns-then-not-is_at-clause-bytes
returns-then-not-is_at-clause-bytes c =
    let s = stands c.args.side c.args.id c.deref.ensures.value c.deref-2.ensures.value c.place-place.ensures c.if-not-is_at.ensures in
    rw (← c.self.view_is) (c.new.ensures ∙ sym (absent_bytes c.args.side c.args.id c.self.inside.parts.items _ s.0 s.1))

pub returns-then-not-is_at-clause-parts : goal.returns-then-not-is_at-clause-parts
returns-then-not-is_at-clause-parts c =
    let s = stands c.args.side c.args.id c.deref.ensures.value c.deref-2.ensures.value c.place-place.ensures c.if-not-is_at.ensures in
    rw (← c.self.view_is) (sym (absent_parts c.args.side c.args.id c.self.inside.parts.items _ s.0 s.1))

pub remove-bytes-requires : goal.remove-bytes-requires
remove-bytes-requires c =
    let s = stands c.args.side c.args.id c.deref.ensures.value c.deref-2.ensures.value c.place-place.ensures c.if-not-is_at.ensures in
    omega (arith, there_within c.args.side c.args.id c.self.inside.parts.items _ s.0 s.1, c.self.inside.parts.ok.0)

pub returns-clause-bytes : goal.returns-clause-bytes
returns-clause-bytes c =
    let s = stands c.args.side c.args.id c.deref.ensures.value c.deref-2.ensures.value c.place-place.ensures c.if-not-is_at.ensures in
    rw (← c.self.view_is) (ap (λ (p : Part). p.bytes) c.remove-bytes.ensures.value ∙ sym (there_bytes c.args.side c.args.id c.self.inside.parts.items _ s.0 _ s.1))

pub returns-clause-parts : goal.returns-clause-parts
returns-clause-parts c =
    let s = stands c.args.side c.args.id c.deref.ensures.value c.deref-2.ensures.value c.place-place.ensures c.if-not-is_at.ensures in
    rw (← c.self.view_is) (ap parts_view c.remove-bytes.ensures.items ∙ sym (there_parts c.args.side c.args.id c.self.inside.parts.items _ s.0 s.1))
