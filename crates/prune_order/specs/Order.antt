-- The connections that stand, each with its rank where it may go.
use Rattle.std.specs.Prelude.{◌≡◌, ℕ, Bool, true, not, List, map, filter, Option, if◌then◌else◌}
use Rattle.std.specs.List.{AllByRecursion, filter_map, list_any}
use Rattle.std.specs.Option.{option_map}
use Rattle.accept_gate.specs.declared.prune.Candidate.{Candidate}
use Rattle.net_base.specs.declared.connection.Cid.{Cid}
use Rattle.prune_order.specs.declared.ranked.Ranked.{Ranked}
use Rattle.timer_queue.specs.Timers.{same_cid, cid_below}

pub record Order : Type 0 where
  -- in order of id
  pub rows : List Ranked
  -- how many more may come without taking memory
  pub room : ℕ
  -- the id of the last that came
  pub last : Cid

-- a connection that may go, as a candidate
abbrev pub candidate : Ranked → Option Candidate
candidate row = option_map (λ rank. record { cid = row.cid; rank = rank }) row.rank

abbrev pub candidates : List Ranked → List Candidate
candidates rows = filter_map candidate rows

abbrev pub stands : Cid → List Ranked → Bool
stands cid rows = list_any (λ r. same_cid r.cid cid) rows

abbrev pub AreBelow : Cid → List Ranked → Type 0
AreBelow cid rows = AllByRecursion (λ r. cid_below r.cid cid ≡ true) rows

-- ---- changes

-- the one with an id has a rank, or may not go
abbrev pub with_rank : Cid → Option ℕ → List Ranked → List Ranked
with_rank cid rank rows = map (λ r. if same_cid r.cid cid then record { cid = cid; rank = rank } else r) rows

abbrev pub without : Cid → List Ranked → List Ranked
without cid rows = filter (λ r. not (same_cid r.cid cid)) rows
