-- Sources and sinks in memory.
use Rattle.std.specs.Prelude.{ℕ, ◌+◌, ◌-◌, ◌^◌, min, Bool, ◌&&◌, ◌==◌, nat_lt, List, ◌++◌, length, take, drop, if◌then◌else◌, Result, Ok, Err}
use Rattle.std.specs.List.{list_any}
use Rattle.io_edge.specs.declared.failed.Failed.{Failed}
use Rattle.net_base.specs.Calls.{Calls, next_fails, after_call, after_fault, one_more}

-- bytes that are given at most `piece` at a time
pub record Pieces : Type 0 where
  pub left : List ℕ
  pub piece : ℕ

-- how many bytes a buffer of this length is given
abbrev pub piece_size : Pieces → ℕ → ℕ
piece_size pieces room = min room (min pieces.piece (length pieces.left))

abbrev pub after_piece : Pieces → ℕ → Pieces
after_piece pieces room = record pieces { left = drop (piece_size pieces room) pieces.left }

pub record MemorySource : Type 0 where
  pub pieces : Pieces
  pub calls : Calls

-- the bytes taken, and how many there may be
pub record MemorySink : Type 0 where
  pub taken : List ℕ
  pub room : ℕ
  pub calls : Calls

-- how many of these bytes there is room for
abbrev pub fitting : MemorySink → List ℕ → ℕ
fitting sink piece = min (length piece) (sink.room - length sink.taken)

-- there are bytes, and no room for any
abbrev pub is_full_for : MemorySink → List ℕ → Bool
is_full_for sink piece = sink.room - length sink.taken == 0 && nat_lt 0 (length piece)

abbrev pub answer_to : MemorySink → List ℕ → Result ℕ Failed
answer_to sink piece =
    if next_fails sink.calls then Err (record {}) else (if is_full_for sink piece then Err (record {}) else Ok (fitting sink piece))

abbrev pub after_put : MemorySink → List ℕ → MemorySink
after_put sink piece =
    let called = record sink { calls = after_call sink.calls } in
    if next_fails sink.calls then called
    else (if is_full_for sink piece then record called { calls = after_fault called.calls }
    else record called { taken = sink.taken ++ take (fitting sink piece) piece })
