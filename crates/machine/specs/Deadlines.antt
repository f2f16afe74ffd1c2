-- The moments at which something happens by itself, and what happens then.
use Rattle.std.specs.Prelude.{ℕ, zero, suc, List, [], ◌∷◌, ◌++◌, map, length, Option, Some, None}
use Rattle.std.specs.List.{flat_map}
use Rattle.net_base.specs.declared.action.CloseCause.TheVariants.{Fault}
use Rattle.net_base.specs.declared.action.FaultKind.TheVariants.{HandshakeWait, ReplyWait}
use Rattle.net_base.specs.declared.connection.Cid.{Cid}
use Rattle.net_base.specs.declared.connection.Grace.{Grace}
use Rattle.net_base.specs.declared.connection.Grace.TheVariants.{Off, ForRemote, ForLocal}
use Rattle.net_base.specs.declared.connection.Phase.{Phase}
use Rattle.net_base.specs.declared.connection.Phase.TheVariants.{Dialing, Greeting, Negotiated, Closing}
use Rattle.net_base.specs.declared.timer.Deadline.{Deadline}
use Rattle.net_base.specs.declared.timer.Kind.{Kind}
use Rattle.net_base.specs.declared.timer.Kind.TheVariants.{Handshake, Grace as GraceKind, TimeWait, Reply2, Reply8, Reply10}
use Rattle.machine.specs.Machine.{Machine, Entry, Owed}
use Rattle.machine.specs.Effect.{Effect, nothing_more, then_do, on_connection}
use Rattle.machine.specs.Replies.{by_reply}
use Rattle.machine.specs.Connections.{ending, grace_over, wait_over}
use Rattle.timer_queue.specs.Timers.{timer, least, due_at}

abbrev pub phase_deadlines : Cid → Phase → List Deadline
phase_deadlines cid Dialing = []
phase_deadlines cid (Greeting until) = timer cid Handshake until ∷ []
phase_deadlines cid Negotiated = []
phase_deadlines cid (Closing until) = timer cid TimeWait until ∷ []

abbrev pub grace_deadlines : Cid → Grace → List Deadline
grace_deadlines cid Off = []
grace_deadlines cid (ForRemote until) = timer cid GraceKind until ∷ []
grace_deadlines cid (ForLocal until) = timer cid GraceKind until ∷ []

abbrev pub reply_kind : ℕ → Kind
reply_kind protocol = by_reply protocol Reply2 Reply8 Reply10

abbrev pub reply_deadline : Cid → Owed → Deadline
reply_deadline cid owed = timer cid (reply_kind owed.protocol) owed.until

abbrev pub deadlines_of : Entry → List Deadline
deadlines_of entry =
    phase_deadlines entry.facts.cid entry.facts.phase
    ++ grace_deadlines entry.facts.cid entry.facts.grace
    ++ map (reply_deadline entry.facts.cid) entry.owed

abbrev pub deadlines : Machine → List Deadline
deadlines m = flat_map deadlines_of m.connections

-- the deadline that is due and that no other one is before
abbrev pub due : Machine → Option Deadline
due m = least (due_at m.now (deadlines m))

-- what a deadline of each kind does
abbrev pub fires_as : Kind → Entry → Machine → Effect
fires_as Handshake = ending (Fault HandshakeWait)
fires_as GraceKind = grace_over
fires_as TimeWait = wait_over
fires_as reply = ending (Fault ReplyWait)

abbrev pub fires : Deadline → Machine → Effect
fires d m = on_connection d.cid (fires_as d.kind) m

abbrev pub fires_some : Option Deadline → (Machine → Effect) → Machine → Effect
fires_some None next m = nothing_more m
fires_some (Some d) next m = then_do (fires d m) next

-- The least deadline that is due fires, and again, until none is due or so many have fired.
unfoldable pub fire_due : ℕ → Machine → Effect
fire_due zero m = nothing_more m
fire_due (suc n) m = fires_some (due m) (fire_due n) m

-- No more deadlines can be due than there are, since one that fires sets none that is due: every interval is at least a
-- millisecond, and is counted from the moment that the clock shows.
abbrev pub fire_all : Machine → Effect
fire_all m = fire_due (length (deadlines m)) m
