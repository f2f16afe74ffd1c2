-- What is kept of each connection beside its facts.
use Rattle.std.specs.Prelude.{◌≡◌, ℕ, ◌+◌, List, [], ◌∷◌, set, slice_get, None, IfSome, Result, OnOk, OnErr, IfOk}
use Rattle.conn_table.specs.Table.{Table, IdsRise}
use Rattle.machine.specs.Machine.{Entry, Owed}
use Rattle.mux_segment.specs.Protocols.{node_limits}
use Rattle.mux_segment.specs.Stream.{CutterState, FedBy, nothing_fed, fed_by}
use Rattle.net_base.specs.declared.connection.Facts.{Facts}
use Rattle.net_base.specs.declared.memory.OutOfMemory.{OutOfMemory}
use Rattle.connections.specs.Standing.{Standing}
use Rattle.connections.specs.declared.decoded.Decoded.{Decoded}
use Rattle.connections.specs.declared.talk.Talk.{Talk}

-- a connection, by its facts and what is kept beside them
abbrev pub entry_of : Facts → Talk → Entry
entry_of facts talk = record { facts = facts; undecoded = talk.cutter.undecoded; owed = talk.replies }

abbrev pub entries_of : List Facts → List Talk → List Entry
entries_of [] ts = []
entries_of (f ∷ fs) [] = []
entries_of (f ∷ fs) (t ∷ ts) = entry_of f t ∷ entries_of fs ts

abbrev pub standing_of : Table → List Talk → Standing
standing_of t talks = record { settings = t.settings; entries = entries_of t.facts talks; next_id = t.given + 1 }

-- its stream goes on
abbrev pub GoesOn : Talk → Type 0
GoesOn talk = talk.cutter.fault ≡ None

-- one for each connection
abbrev pub AreTalksOf : List Facts → List Talk → Type 0
AreTalksOf [] [] = Unit {0}
AreTalksOf [] (t ∷ ts) = ⊥
AreTalksOf (f ∷ fs) [] = ⊥
AreTalksOf (f ∷ fs) (t ∷ ts) = GoesOn t × AreTalksOf fs ts

-- what always holds of the table and of what is kept beside it
pub record IsStanding (t : Table) (talks : List Talk) : Type 0 where
  pub ids_rise : IdsRise 0 t.given t.facts
  pub talks_are : AreTalksOf t.facts talks

-- ---- changes of what is kept

-- what stands at a place turns into another, by itself
abbrev pub TurnsAt : ℕ → (Talk → Talk) → List Talk → List Talk → Type 0
TurnsAt place change old new = IfSome (slice_get old place) (λ t. new ≡ set old place (change t))

abbrev pub with_cutter : CutterState → Talk → Talk
with_cutter cutter talk = record talk { cutter = cutter }

abbrev pub with_owed : (List Owed → List Owed) → Talk → Talk
with_owed change talk = record talk { replies = change talk.replies }

-- nothing came in, and nothing is owed
abbrev pub fresh_talk : Talk
fresh_talk = record { cutter = nothing_fed; replies = [] }

-- ---- what comes in

-- a stream that goes on from here; after a fault nothing of it is left
abbrev pub going_on : CutterState → CutterState
going_on state = record { undecoded = state.undecoded; fault = None }

abbrev pub fed_talk : List ℕ → Talk → Talk
fed_talk bytes talk = with_cutter (going_on (fed_by node_limits talk.cutter bytes).state) talk

-- the answer to new bytes has the items, and the fault of the stream
pub record IsFed (expected : FedBy) (fed : Decoded) : Type 0 where
  pub items : fed.items ≡ expected.items
  pub fault : fed.fault ≡ expected.state.fault

-- what new bytes make of it, and what is told. Where memory is refused, nothing of the stream is left
pub record HasFed (bytes : List ℕ) (old new : Talk) (answer : Result Decoded OutOfMemory) : Type 0 where
  pub ok : OnOk answer (new ≡ fed_talk bytes old)
  pub gives : IfOk answer (λ fed. IsFed (fed_by node_limits old.cutter bytes) fed)
  pub err : OnErr answer (new ≡ with_cutter nothing_fed old)
