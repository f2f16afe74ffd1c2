use Rattle.std.proofs.Common.{◌≡◌, ◌+◌, drop}
use Rattle.mux_segment.specs.Parts.{place_of}
use Rattle.mux_segment.specs.PartView.{parts_view}
use Rattle.mux_segment.proofs.parts.place.Given as goal

abbrev pub invariant-loop-place : goal.invariant-loop-place
invariant-loop-place l = l.place + place_of l.side l.id (parts_view (drop l.place l.parts)) ≡ place_of l.side l.id (parts_view l.parts)
