-- The connections that stand, in order of id.
use Rattle.std.specs.Prelude.{ℕ, ◌+◌, ◌<◌, ◌≤◌, not, List, [], ◌∷◌, ◌++◌, map, filter, if◌then◌else◌}
use Rattle.conn_state.specs.Moves.{accepted, dialing}
use Rattle.conn_state.specs.Use.{has_id}
use Rattle.net_base.specs.declared.address.Addr.{Addr}
use Rattle.net_base.specs.declared.connection.Facts.{Facts}
use Rattle.net_base.specs.declared.settings.Settings.{Settings}

pub record Table : Type 0 where
  pub settings : Settings
  -- in order of id
  pub facts : List Facts
  -- how many ids were given
  pub given : ℕ

abbrev pub empty_table : Settings → Table
empty_table settings = record { settings = settings; facts = []; given = 0 }

-- the table with one more connection, under the next id
abbrev pub with_entered : Facts → Table → Table
with_entered f t = record t { facts = t.facts ++ f ∷ []; given = t.given + 1 }

-- the table after a peer was let in under the next id, at a moment
abbrev pub with_accepted : Addr → ℕ → Table → Table
with_accepted addr now t = with_entered (accepted (t.given + 1) addr (now + t.settings.handshake)) t

-- the table after this side has begun to dial an address, under the next id
abbrev pub with_dialing : Addr → Table → Table
with_dialing addr t = with_entered (dialing (t.given + 1) addr) t

-- the one with an id has made a move, and each other is as it was
abbrev pub moved_at : ℕ → (Facts → Facts) → List Facts → List Facts
moved_at cid move = map (λ f. if has_id cid f then move f else f)

-- all but the one with an id
abbrev pub without_at : ℕ → List Facts → List Facts
without_at cid = filter (λ f. not (has_id cid f))

-- the table after the connection with an id has made a move
abbrev pub with_moved : ℕ → (Facts → Facts) → Table → Table
with_moved cid move t = record t { facts = moved_at cid move t.facts }

-- the table after the connection with an id went
abbrev pub without : ℕ → Table → Table
without cid t = record t { facts = without_at cid t.facts }

-- ids rise strictly, from above one number and up to another
abbrev pub IdsRise : ℕ → ℕ → List Facts → Type 0
IdsRise above most [] = above ≤ most
IdsRise above most (f ∷ fs) = (above < f.cid.0) × IdsRise f.cid.0 most fs
