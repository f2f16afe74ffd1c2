-- Which connection goes where more are counted than the hard limit: this project's own.
use Rattle.std.specs.Prelude.{ℕ, Bool, ◌&&◌, ◌||◌, ◌==◌, nat_lt, not, List, [], ◌∷◌, if◌then◌else◌, Option, Some, None}
use Rattle.std.specs.Option.{option_map}
use Rattle.accept_gate.specs.declared.prune.Candidate.{Candidate}
use Rattle.conn_state.specs.Counted.{is_counted}
use Rattle.conn_state.specs.Use.{is_greeting, some_hot_runs, some_runs}
use Rattle.net_base.specs.declared.connection.Cid.{Cid}
use Rattle.net_base.specs.declared.connection.Facts.{Facts}

-- only counted connections go, and none in local use
abbrev pub is_candidate : Facts → Bool
is_candidate f = is_counted f && not f.local

-- In their handshake, then those in use by the other side, the hot ones last; before all of them those in no use.
abbrev pub rank_of_candidate : Facts → ℕ
rank_of_candidate f =
    if is_greeting f then 1
    else if some_hot_runs f.running then 3
    else if some_runs f.running then 2
    else 0

abbrev pub rank_of : Facts → Option ℕ
rank_of f = if is_candidate f then Some (rank_of_candidate f) else None

-- the lower rank goes first, and of one rank the newer connection
abbrev pub goes_before : Candidate → Candidate → Bool
goes_before a b = nat_lt a.rank b.rank || (a.rank == b.rank && nat_lt b.cid.0 a.cid.0)

abbrev pub first_of : Candidate → Option Candidate → Candidate
first_of c None = c
first_of c (Some d) = if goes_before d c then d else c

-- the candidate before which no other goes
unfoldable pub first_to_go : List Candidate → Option Candidate
first_to_go [] = None
first_to_go (c ∷ cs) = Some (first_of c (first_to_go cs))

abbrev pub choice_of : List Candidate → Option Cid
choice_of cs = option_map (λ c. c.cid) (first_to_go cs)
