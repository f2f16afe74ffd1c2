-- What a worker has done when it ends.
use Rattle.std.specs.Prelude.{ℕ, ◌≡◌, ◌+◌, ◌-◌, ◌≤◌, ◌^◌, min, List, [], ◌∷◌, ◌++◌, length, map, take}
use Rattle.shared_table.specs.declared.call.TableCall.{TableCall}
use Rattle.shared_table.specs.Entries.{noted}
use Rattle.shared_table.specs.declared.entry.Noted.{Noted}
use Rattle.shared_table.specs.declared.reply.TableReply.{TableReply}
use Rattle.shared_table.specs.declared.work_end.WorkEnd.{WorkEnd}
use Rattle.shared_table.specs.declared.work_end.WorkEnd.TheVariants.{All, Held, OutOfMemory}

-- a seat's list has grown by exactly these calls, in order, each with a reply
pub record GrewBy (calls : List TableCall) (before after : List Noted) : Type 0 where
  pub new : List Noted
  pub grown : after ≡ before ++ new
  pub are_calls : map (λ n. n.call) new ≡ calls

-- by the calls before one of them, which are numbered from 1
pub record StoppedAt (index : ℕ) (calls : List TableCall) (before after : List Noted) : Type 0 where
  pub from_one : 1 ≤ index
  pub within : index ≤ length calls
  pub grew : GrewBy (take (index - 1) calls) before after

abbrev pub Ended : WorkEnd → List TableCall → List Noted → List Noted → Type 0
Ended All calls before after = GrewBy calls before after
Ended (Held index) calls before after = StoppedAt index calls before after
Ended (OutOfMemory index) calls before after = StoppedAt index calls before after

-- ---- one call

-- a seat's list has grown by this call with a reply
abbrev pub MadeOne : TableCall → List Noted → List Noted → Type 0
MadeOne call before after = (reply : TableReply) × (after ≡ before ++ noted call reply ∷ [])

-- the worker has to stop at the call of this number
abbrev pub StopsAt : ℕ → WorkEnd → Type 0
StopsAt index All = ⊥
StopsAt index (Held at_call) = at_call ≡ index
StopsAt index (OutOfMemory at_call) = at_call ≡ index

-- ---- what a gate has said

-- it has said no once more, or its count stands at its last value
abbrev pub SaidNo : ℕ → ℕ → Type 0
SaidNo before after = min (before + 1) (2 ^ 64 - 1) ≤ after

-- it has said no as often as a worker asks, or its count stands at its last value
abbrev pub KeptShut : ℕ → ℕ → Type 0
KeptShut before after = min (before + 10000000) (2 ^ 64 - 1) ≤ after

-- A worker is held at a call only where its gate kept that call shut. The counts are those of each call's noes.
abbrev pub OnHeld : WorkEnd → (ℕ → ℕ) → (ℕ → ℕ) → Type 0
OnHeld All before after = Unit {0}
OnHeld (Held index) before after = KeptShut (before index) (after index)
OnHeld (OutOfMemory index) before after = Unit {0}
