-- What comes of a part of a step: the machine after it, the actions on the way, and the moves that laws speak of.
use Rattle.std.specs.Prelude.{ℕ, List, [], ◌∷◌, ◌++◌, Option, Some, None}
use Rattle.net_base.specs.declared.action.Action.{Action}
use Rattle.net_base.specs.declared.action.CloseCause.{CloseCause}
use Rattle.net_base.specs.declared.address.Addr.{Addr}
use Rattle.net_base.specs.declared.connection.Cid.{Cid}
use Rattle.machine.specs.Machine.{Machine, Entry, entry_at}

-- what happened, where a law speaks of it
pub data Happened : Type 0 where
  -- a peer was dialed, or a connection with it taken into use
  promoted : Addr → Happened
  -- a warm peer was asked to become hot
  activated : Addr → Happened
  -- an address that a peer told, or that was set as that of a big ledger peer, came into the book
  shared : Addr → Happened
  -- this node ended a connection
  ended : ℕ → CloseCause → Happened
  -- the grace of a connection that nobody uses was over
  unused : ℕ → Happened
  -- a connection went without a close: its dial failed, or its time-wait was over
  gone : ℕ → Happened

-- a move, between the machine just before it and the machine just after it
pub record Move : Type 0 where
  pub happened : Happened
  pub before : Machine
  pub after : Machine

pub record Effect : Type 0 where
  pub machine : Machine
  pub actions : List Action
  pub moves : List Move

-- a machine that has come about, and what is told of it
abbrev pub tells : List Action → Machine → Effect
tells actions m = record { machine = m; actions = actions; moves = [] }

abbrev pub nothing_more : Machine → Effect
nothing_more m = tells [] m

-- one part, and then another on what it left
abbrev pub then_do : Effect → (Machine → Effect) → Effect
then_do first next = let second = next first.machine in record {
  machine = second.machine;
  actions = first.actions ++ second.actions;
  moves = first.moves ++ second.moves;
}

-- the part as a whole is a move
abbrev pub as_move : Happened → Machine → Effect → Effect
as_move happened before effect = record effect {
  moves = effect.moves ++ record { happened = happened; before = before; after = effect.machine } ∷ [];
}

-- a part that is about a connection, where there is one
abbrev pub on_entry : Option Entry → (Entry → Machine → Effect) → Machine → Effect
on_entry None act m = nothing_more m
on_entry (Some entry) act m = act entry m

-- On the connection with an id, as it stands now. Where it is absent nothing changes.
abbrev pub on_connection : Cid → (Entry → Machine → Effect) → Machine → Effect
on_connection cid act m = on_entry (entry_at cid.0 m) act m

-- one part for each of a list, in order
unfoldable pub for_each : {X : Type 0} → (X → Machine → Effect) → List X → Machine → Effect
for_each act [] m = nothing_more m
for_each act (x ∷ xs) m = then_do (act x m) (for_each act xs)
