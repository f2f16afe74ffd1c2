-- What comes of a stream: items, and a fault that ends it.
use Rattle.std.specs.Prelude.{ℕ, List, [], ◌∷◌, ◌++◌, map, Option, Some, None}
use Rattle.net_base.specs.Shared.{Part, Undecoded, nothing_undecoded}
use Rattle.mux_segment.specs.declared.item.Item.{Item}
use Rattle.mux_segment.specs.declared.fault.CutFault.{CutFault}
use Rattle.mux_segment.specs.declared.fault.CutFault.TheVariants.{UnknownId}
use Rattle.mux_segment.specs.Segment.{Segment, cut_of}
use Rattle.mux_segment.specs.Protocols.{Limits}
use Rattle.mux_segment.specs.Items.{taken_of}
use Rattle.mux_segment.specs.Parts.{part_bytes, without_part, with_part}

-- the parts that are left, the items, and why no more can be taken
pub record Decoded : Type 0 where
  pub parts : List Part
  pub items : List Item
  pub fault : Option CutFault

abbrev pub item_of : ℕ → ℕ → List ℕ → Item
item_of side id body = record { side = side; id = id; body = body }

-- The payload follows the part of its side and protocol, and whole items are taken off the part.
abbrev pub payload_decoded : Option ℕ → List Part → ℕ → ℕ → List ℕ → Decoded
payload_decoded None parts side id payload = record { parts = parts; items = []; fault = Some UnknownId }
payload_decoded (Some limit) parts side id payload =
    let t = taken_of limit (part_bytes side id parts ++ payload) in record {
      parts = with_part side id t.left (without_part side id parts);
      items = map (item_of side id) t.bodies;
      fault = t.fault;
    }

unfoldable pub segment_decoded : Limits → List Part → Segment → Decoded
segment_decoded limits parts s = payload_decoded (limits s.header.id) parts s.header.side s.header.id s.payload

-- where the first has no fault, the second goes on
abbrev pub then_decoded : Option CutFault → Decoded → (List Part → Decoded) → Decoded
then_decoded None first second = let d = second first.parts in record { parts = d.parts; items = first.items ++ d.items; fault = d.fault }
then_decoded (Some fault) first second = first

-- the segments in order, up to the first fault
unfoldable pub decoded : Limits → List Part → List Segment → Decoded
decoded limits parts [] = record { parts = parts; items = []; fault = None }
decoded limits parts (s ∷ segments) =
    let first = segment_decoded limits parts s in then_decoded first.fault first (λ others. decoded limits others segments)

-- ---- a cutter

-- what is not decoded yet, and the fault that ended the stream. After a fault nothing is kept
pub record CutterState : Type 0 where
  pub undecoded : Undecoded
  pub fault : Option CutFault

-- nothing was fed yet
abbrev pub nothing_fed : CutterState
nothing_fed = record { undecoded = nothing_undecoded; fault = None }

-- what one feed leaves and gives
pub record FedBy : Type 0 where
  pub state : CutterState
  pub items : List Item

-- after a fault
abbrev pub ended_with : CutFault → CutterState
ended_with fault = record { undecoded = nothing_undecoded; fault = Some fault }

abbrev pub state_after : Option CutFault → List ℕ → List Part → CutterState
state_after None rest parts = record { undecoded = record { rest = rest; parts = parts }; fault = None }
state_after (Some fault) rest parts = ended_with fault

-- the new bytes follow the rest, and whole segments are taken in order
abbrev pub fed_to : Limits → Undecoded → List ℕ → FedBy
fed_to limits undecoded bytes =
    let c = cut_of (undecoded.rest ++ bytes) in
    let d = decoded limits undecoded.parts c.segments in
    record { state = state_after d.fault c.rest d.parts; items = d.items }

abbrev pub fed_after : Option CutFault → Limits → CutterState → List ℕ → FedBy
fed_after None limits state bytes = fed_to limits state.undecoded bytes
fed_after (Some fault) limits state bytes = record { state = state; items = [] }

-- after a fault no item comes
unfoldable pub fed_by : Limits → CutterState → List ℕ → FedBy
fed_by limits state bytes = fed_after state.fault limits state bytes

-- one feed after the other
unfoldable pub fed_all : Limits → CutterState → List (List ℕ) → FedBy
fed_all limits state [] = record { state = state; items = [] }
fed_all limits state (piece ∷ pieces) =
    let first = fed_by limits state piece in
    let others = fed_all limits first.state pieces in
    record { state = others.state; items = first.items ++ others.items }
