-- What is told of a step.
use Rattle.std.specs.Prelude.{ℕ, List, [], ◌∷◌, Option, Some, None}
use Rattle.pair_net.specs.declared.end.End.{End}
use Rattle.pair_net.specs.declared.end.EndPhase.{EndPhase}
use Rattle.pair_net.specs.declared.end.EndPhase.TheVariants.{Fresh, Waiting, Agreed, Ended}
use Rattle.pair_net.specs.declared.note.PairNote.{PairNote}
use Rattle.pair_net.specs.declared.note.PairNote.TheVariants.{Waits, Sent, Agrees, Ends}

-- the phase that an end has come to
abbrev pub told : End → EndPhase → List PairNote
told end Fresh = []
told end (Waiting role) = Waits end role ∷ []
told end (Agreed agreed) = Agrees end agreed ∷ []
told end (Ended cause) = Ends end cause ∷ []

-- the bytes that an end has said, if any
abbrev pub sent_notes : End → Option (List ℕ) → List PairNote
sent_notes end None = []
sent_notes end (Some bytes) = Sent end bytes ∷ []
