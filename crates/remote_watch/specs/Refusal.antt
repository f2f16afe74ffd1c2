-- What `watch` answers.
use Rattle.std.specs.Prelude.{◌≡◌, Result, Ok, Err}
use Rattle.net_base.specs.declared.action.FaultKind.{FaultKind}
use Rattle.remote_watch.specs.declared.seen.Seen.{Seen}
use Rattle.remote_watch.specs.declared.refusal.WatchRefusal.{WatchRefusal}
use Rattle.remote_watch.specs.declared.refusal.WatchRefusal.TheVariants.{Fault, OutOfMemory}

-- The answer is what is seen, or the fault. Want of memory says nothing.
abbrev pub Answers : Result Seen WatchRefusal → Result Seen FaultKind → Type 0
Answers (Ok seen) watched = watched ≡ Ok seen
Answers (Err (Fault kind)) watched = watched ≡ Err kind
Answers (Err OutOfMemory) watched = Unit {0}
