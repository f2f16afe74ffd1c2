-- Moves of which the facts of the connection decide what they make of it.
use Rattle.std.specs.Prelude.{ℕ, if◌then◌else◌}
use Rattle.conn_state.specs.Moves.{agreed_inbound, agreed_outbound, expired, closing}
use Rattle.conn_state.specs.Use.{is_outbound}
use Rattle.net_base.specs.declared.connection.Agreed.{Agreed}
use Rattle.net_base.specs.declared.connection.Facts.{Facts}

-- the handshake is over
abbrev pub negotiated : Agreed → ℕ → Facts → Facts
negotiated agreed until f = if is_outbound f then agreed_outbound agreed until f else agreed_inbound agreed until f

-- A grace is over: in local use the connection goes on, and in no use this side closes it.
abbrev pub grace_ended : ℕ → Facts → Facts
grace_ended until f = if f.local then expired f else closing until f
