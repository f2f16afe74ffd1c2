-- How a run ends where its interpreter stops.
use Rattle.std.proofs.Common.{ℕ, List, Err, refl}
use Rattle.line_run.specs.Meaning.{Meaning, IsInterpreted}
use Rattle.line_run.specs.Runs.{HasReadCount, HasWriteCount}
use Rattle.line_run.specs.UnderWay.{IsInterpretedAt, outcome_at}
use Rattle.line_run.specs.declared.stop.Stop.{Stop}
use Rattle.line_run.specs.declared.stop.Stop.TheVariants.{Ended, Differs, Refused, TooMany, OutOfMemory}

pub stopped-at : {S : Type 0} (number : ℕ) (meaning : Meaning S) (next : S) (before after : List ℕ) (stop : Stop) → IsInterpreted meaning next before after (Err stop) →
    IsInterpretedAt number meaning next before after (Err (outcome_at number stop))
stopped-at number meaning next before after Ended h = h
stopped-at number meaning next before after Differs h = (refl, h.0, h.1, h.2)
stopped-at number meaning next before after (Refused kind) h = (refl, h.0, h.1)
stopped-at number meaning next before after TooMany h = (refl, h.0, h.1)
stopped-at number meaning next before after OutOfMemory h = h

pub stopped-reads : (number count : ℕ) (stop : Stop) → HasReadCount count count (outcome_at number stop)
stopped-reads number count Ended = refl
stopped-reads number count Differs = refl
stopped-reads number count (Refused kind) = refl
stopped-reads number count TooMany = refl
stopped-reads number count OutOfMemory = refl

pub stopped-writes : (number count : ℕ) (stop : Stop) → HasWriteCount count count (outcome_at number stop)
stopped-writes number count Ended = refl
stopped-writes number count Differs = refl
stopped-writes number count (Refused kind) = refl
stopped-writes number count TooMany = refl
stopped-writes number count OutOfMemory = refl
