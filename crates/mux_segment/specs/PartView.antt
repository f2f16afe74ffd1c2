-- A part as the machine has it.
use Rattle.std.specs.Prelude.{List, map}
use Rattle.net_base.specs.Shared.{Part}
use Rattle.mux_segment.specs.declared.part.Part.{Part as KeptPart}

abbrev pub part_view : KeptPart → Part
part_view part = record { side = part.side; protocol = part.id; bytes = part.bytes }

abbrev pub parts_view : List KeptPart → List Part
parts_view parts = map part_view parts
