-- What a feed gives to its caller.
use Rattle.std.specs.Prelude.{◌≡◌, List, ◌++◌, Option}
use Rattle.mux_segment.specs.declared.fault.CutFault.{CutFault}
use Rattle.mux_segment.specs.declared.fed.Fed.{Fed}
use Rattle.mux_segment.specs.declared.item.Item.{Item}
use Rattle.mux_segment.specs.Stream.{CutterState, FedBy}

-- the cutter and the answer are those of the definition, and the answer names the cutter's fault
pub record IsGiven (expected : FedBy) (cutter : CutterState) (fed : Fed) : Type 0 where
  pub state : cutter ≡ expected.state
  pub items : fed.items ≡ expected.items
  pub fault : fed.fault ≡ expected.state.fault

-- the same, with the items of the definition behind the old ones
pub record IsPut (expected : FedBy) (cutter : CutterState) (old new : List Item) (told : Option CutFault) : Type 0 where
  pub state : cutter ≡ expected.state
  pub items : new ≡ old ++ expected.items
  pub fault : told ≡ expected.state.fault
