-- How a line that is read by its words is refused.
use Rattle.std.specs.Prelude.{Result, Ok, Err}
use Rattle.net_base.specs.declared.refusal.RefusalKind.{RefusalKind}
use Rattle.net_base.specs.declared.refusal.RefusalKind.TheVariants.{Word, Number, Targets, Order, NoEnd}
use Rattle.trace_text.specs.declared.line.LineRefusal.{LineRefusal}
use Rattle.trace_text.specs.declared.line.LineRefusal.TheVariants.{BadWord, BadNumber, BadTargets, OutOfOrder, OutOfMemory}
use Rattle.line_run.specs.Meaning.{Meaning, is_refused}
use Rattle.line_run.specs.declared.stop.Stop.{Stop}
use Rattle.line_run.specs.declared.stop.Stop.TheVariants as stop

-- No line is refused for want of memory; that case is none of it.
abbrev pub kind_of : LineRefusal → RefusalKind
kind_of (BadWord place) = Word place
kind_of (BadNumber place) = Number place
kind_of BadTargets = Targets
kind_of OutOfOrder = Order
kind_of OutOfMemory = NoEnd

-- what a line that is read means, and else it is refused
abbrev pub if_read : {S A : Type 0} → Result A LineRefusal → (A → Meaning S) → Meaning S
if_read (Ok value) meaning = meaning value
if_read (Err refusal) meaning = is_refused (kind_of refusal)

-- how an interpreter stops at a refusal
abbrev pub stop_of : LineRefusal → Stop
stop_of (BadWord place) = stop.Refused (Word place)
stop_of (BadNumber place) = stop.Refused (Number place)
stop_of BadTargets = stop.Refused Targets
stop_of OutOfOrder = stop.Refused Order
stop_of OutOfMemory = stop.OutOfMemory
