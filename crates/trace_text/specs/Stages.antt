-- How far a trace was read.
use Rattle.std.specs.Prelude.{◌==◌, true, false, if◌then◌else◌}
use Rattle.trace_text.specs.declared.line.Line.{Line}
use Rattle.trace_text.specs.declared.line.Line.TheVariants.{Head, Happen, Acted, End}
use Rattle.trace_text.specs.declared.line.HeadLine.{HeadLine}
use Rattle.trace_text.specs.declared.line.HeadLine.TheVariants.{Trace, Own, Set}
use Rattle.trace_text.specs.declared.stage.Stage.{Stage}

-- nothing was read yet: the hard limit is the usual one
abbrev pub first_stage : Stage
first_stage = record { version = 0; seen = 0; last = 0; hard = 512; events = false }

abbrev pub stage_after_head : Stage → HeadLine → Stage
stage_after_head stage (Trace version) = record stage { version = version; seen = 1 }
stage_after_head stage (Own address) = record stage { seen = 2 }
-- the fourth setting is the hard limit
stage_after_head stage (Set place value) =
    record stage { last = place; hard = (if place == 4 then value else stage.hard) }

abbrev pub stage_after : Stage → Line → Stage
stage_after stage (Head head) = stage_after_head stage head
stage_after stage (Happen event) = record stage { events = true }
stage_after stage Acted = stage
stage_after stage End = stage
