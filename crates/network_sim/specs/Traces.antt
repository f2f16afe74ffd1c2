-- What a run of the network writes.
use Rattle.std.specs.Prelude.{◌≡◌, ℕ, ◌≤◌}
use Rattle.io_edge.specs.Causes.{Rose}
use Rattle.network_sim.specs.declared.asked.RunEnd.{RunEnd}
use Rattle.network_sim.specs.declared.asked.RunEnd.TheVariants.{Done, WriteFault, OutOfMemory, NoTrace}

-- The sink's count of faults rises with a write fault alone.
abbrev pub HasFaultCount : ℕ → ℕ → RunEnd → Type 0
HasFaultCount before now WriteFault = (before ≤ now) × Rose before now
HasFaultCount before now Done = now ≡ before
HasFaultCount before now OutOfMemory = now ≡ before
HasFaultCount before now NoTrace = now ≡ before
