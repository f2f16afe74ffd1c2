-- One end, and the pipe towards it.
use Rattle.std.specs.Prelude.{ℕ, List, [], ◌++◌, take, drop, Option, Some, None}
use Rattle.hs_decide.specs.declared.role.Role.{Role}
use Rattle.hs_message.specs.declared.info.VersionInfo.{VersionInfo}
use Rattle.mux_segment.specs.Protocols.{node_limits}
use Rattle.mux_segment.specs.Stream.{CutterState, nothing_fed, fed_by}
use Rattle.pair_net.specs.declared.end.EndPhase.{EndPhase}
use Rattle.pair_net.specs.declared.end.EndPhase.TheVariants.{Fresh, Waiting}
use Rattle.pair_net.specs.declared.end_state.EndState.{EndState}

abbrev pub fresh_end : VersionInfo → EndState
fresh_end info = record { info = info; phase = Fresh; stream = nothing_fed; incoming = [] }

abbrev pub waiting_as : Role → EndState → EndState
waiting_as role e = record e { phase = Waiting role }

-- the other end has put bytes into the pipe
abbrev pub reached_by : List ℕ → EndState → EndState
reached_by bytes e = record e { incoming = e.incoming ++ bytes }

abbrev pub answered : Option (List ℕ) → EndState → EndState
answered None e = e
answered (Some bytes) e = reached_by bytes e

-- the next bytes have come out of the pipe, so many or all
abbrev pub taken_out : ℕ → EndState → EndState
taken_out count e = record e { incoming = drop count e.incoming }

-- these bytes were received, and nothing of them is decoded
abbrev pub unread : List ℕ → CutterState
unread bytes = record { undecoded = record { rest = bytes; parts = [] }; fault = None }

-- these bytes follow what the end has received
abbrev pub hearing : List ℕ → EndState → EndState
hearing bytes e = record e { stream = (fed_by node_limits e.stream bytes).state }

-- the next bytes have come out of the pipe, and the end has received them
abbrev pub given : ℕ → EndState → EndState
given count e = hearing (take count e.incoming) (taken_out count e)

-- It waits no more, and keeps nothing of what it has received.
abbrev pub come_to : EndPhase → EndState → EndState
come_to phase e = record e { phase = phase; stream = nothing_fed }
