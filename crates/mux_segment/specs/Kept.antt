-- What a cutter keeps of a stream: parts that wait.
use Rattle.std.specs.Prelude.{◌≡◌, ℕ, List, [], All, Some, None}
use Rattle.net_base.specs.Shared.{Part}
use Rattle.mux_segment.specs.Protocols.{Limits}
use Rattle.mux_segment.specs.Items.{taken_of}
use Rattle.mux_segment.specs.Law.{AreInOrder}

-- the part waits for more bytes: its protocol is known, and neither an item nor a fault comes of it as it is
pub record Waits (limits : Limits) (part : Part) : Type 0 where
  pub limit : ℕ
  pub known : limits part.protocol ≡ Some limit
  pub nothing : taken_of limit part.bytes ≡ record { bodies = []; left = part.bytes; fault = None }

-- parts in order, of which each waits
pub record AreKept (limits : Limits) (parts : List Part) : Type 0 where
  pub order : AreInOrder parts
  pub wait : All (Waits limits) parts
