-- Which connections the limits speak of.
use Rattle.std.specs.Prelude.{ℕ, Bool, ◌&&◌, ◌||◌, not, List, count_by}
use Rattle.net_base.specs.declared.connection.Facts.{Facts}
use Rattle.conn_state.specs.Use.{is_outbound, is_greeting, is_negotiated, is_for_remote, some_runs}

-- Inbound in its handshake; or in use by the other side; or kept for the other side, and not in use by this one.
abbrev pub is_counted : Facts → Bool
is_counted f =
    (not (is_outbound f) && is_greeting f)
    || (is_negotiated f && some_runs f.running)
    || (is_negotiated f && not f.local && is_for_remote f.grace)

abbrev pub counted : List Facts → ℕ
counted = count_by is_counted
