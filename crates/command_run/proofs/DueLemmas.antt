-- The status that is due, where no call failed.
use Rattle.std.proofs.Common.{◌≡◌, ◌⊎◌, inl, inr}
use Rattle.command_run.specs.Command.{IsAnswered}
use Rattle.tool_status.specs.declared.status.Status.{Status}
use Rattle.tool_status.specs.declared.status.Status.TheVariants.{OutOfMemory}

-- where no reading and no put failed it is the status that is due, but for want of memory
pub answered-due : (due status : Status) (read write : Type 0) → IsAnswered due read write status → (read → ⊥) → (write → ⊥) → (status ≡ due) ⊎ (status ≡ OutOfMemory)
answered-due due status read write (inl is) calm still = inl is
answered-due due status read write (inr (inl wanting)) calm still = inr wanting
answered-due due status read write (inr (inr (inl failed))) calm still = absurd (calm failed.1)
answered-due due status read write (inr (inr (inr failed))) calm still = absurd (still failed.1)
