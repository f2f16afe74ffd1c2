-- What a status that was told says of the outcome.
use Rattle.std.proofs.Common.{◌≡◌, Option, Some, None, refl, sym, ap, ◌∙◌}
use Rattle.trace_meaning.specs.declared.outcome.Outcome.{Outcome}
use Rattle.trace_meaning.specs.declared.outcome.Outcome.TheVariants as outcome
use Rattle.tool_status.specs.Told.{status_told}
use Rattle.tool_status.specs.declared.status.Status.{Status}
use Rattle.tool_status.specs.declared.status.Status.TheVariants.{Done, Differ, Usage, Refused, ReadFault, WriteFault, OutOfMemory, WorldFault, FileFault, TooLong, BadSettings, FileTooLarge}

abbrev told_by : Status → Option Outcome
told_by Done = Some outcome.Done
told_by (Differ line) = Some (outcome.Differ line)
told_by Usage = None
told_by (Refused line kind) = Some (outcome.Refused line kind)
told_by ReadFault = Some outcome.ReadFault
told_by WriteFault = Some outcome.WriteFault
told_by OutOfMemory = Some outcome.OutOfMemory
told_by WorldFault = Some outcome.WorldFault
told_by (FileFault which) = None
told_by (TooLong line) = Some (outcome.TooLong line)
told_by (BadSettings what) = None
told_by (FileTooLarge which size) = None

told_by-status : (o : Outcome) → told_by (status_told o) ≡ Some o
told_by-status outcome.Done = refl
told_by-status (outcome.Differ line) = refl
told_by-status (outcome.Refused line kind) = refl
told_by-status outcome.ReadFault = refl
told_by-status outcome.WriteFault = refl
told_by-status outcome.OutOfMemory = refl
told_by-status outcome.WorldFault = refl
told_by-status (outcome.TooLong line) = refl

-- one outcome alone is told so
pub outcome_is : (o p : Outcome) → status_told p ≡ status_told o → o ≡ p
outcome_is o p same =
    let both : Some o ≡ Some p = sym (told_by-status o) ∙ ap told_by (sym same) ∙ told_by-status p in
    cc
