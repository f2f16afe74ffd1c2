use Rattle.std.proofs.Common.{◌≡◌, List, length, refl, ap, sym, ◌∙◌, arith}
use Rattle.std.proofs.lemmas.Bool.{eqb-true, eqb-false}
use Rattle.mux_segment.specs.declared.part.Part.{Part}
use Rattle.mux_segment.specs.PartView.{parts_view}
use Rattle.mux_segment.specs.Parts.{place_of}
use Rattle.mux_segment.proofs.Places.{put_parts, put_nothing, place_within}
use Rattle.mux_segment.proofs.parts.Parts.put.Goals as goal

pub returns-then-is_empty : goal.returns-then-is_empty
returns-then-is_empty c =
    let none : length c.args.bytes ≡ 0 = sym (ap length c.as_slice.ensures) ∙ eqb-true _ _ (sym c.if-is_empty.ensures) in
    sym (put_nothing c.args.side c.args.id c.args.bytes c.args.self.now none)

pub insert-requires : goal.insert-requires
insert-requires c =
    let kept = c.self.inside.parts.items in
    let place : c.place-place.result ≡ place_of c.args.side c.args.id (parts_view kept) =
    c.place-place.ensures ∙ ap (λ (x : List Part). place_of c.args.side c.args.id (parts_view x)) c.deref.ensures.value in
    omega (arith, place, place_within c.args.side c.args.id kept, c.self.inside.parts.ok.0)

pub returns : goal.returns
returns c =
    let kept = c.self.inside.parts.items in
    let place : c.place-place.result ≡ place_of c.args.side c.args.id (parts_view kept) =
    c.place-place.ensures ∙ ap (λ (x : List Part). place_of c.args.side c.args.id (parts_view x)) c.deref.ensures.value in
    let some : length c.args.bytes ≡ 0 → ⊥ = λ none. eqb-false _ _ (sym c.if-is_empty.ensures) (ap length c.as_slice.ensures ∙ none) in
    let part : Part = record { side = c.args.side; id = c.args.id; bytes = c.args.bytes } in
    rw (← c.self.view_is)
    (ap parts_view c.in_ok-insert.ensures.items
    ∙ sym (put_parts c.args.side c.args.id kept c.place-place.result place part refl refl (omega (arith, some))))
