-- The timers of the connections that stand: the deadlines of each.
use Rattle.std.specs.Prelude.{◌≡◌, ℕ, true, List, map, Option, Some, None, IsSome}
use Rattle.std.specs.List.{flat_map}
use Rattle.machine.specs.Deadlines.{deadlines_of}
use Rattle.machine.specs.Machine.{Entry}
use Rattle.net_base.specs.declared.connection.Cid.{Cid}
use Rattle.net_base.specs.declared.connection.Grace.{Grace}
use Rattle.net_base.specs.declared.connection.Grace.TheVariants.{Off, ForRemote, ForLocal}
use Rattle.net_base.specs.declared.connection.Phase.{Phase}
use Rattle.net_base.specs.declared.connection.Phase.TheVariants.{Dialing, Greeting, Negotiated, Closing}
use Rattle.net_base.specs.declared.timer.Deadline.{Deadline}
use Rattle.timer_queue.specs.Queue.{Queue, IsOrderly}
use Rattle.timer_queue.specs.Timers.{HaveSame, has_timer, is_of, without_cid}
use Rattle.connections.specs.Standing.{Standing, entry_with}
use Rattle.connections.specs.declared.reply.Reply.{Reply}

abbrev pub ids_in : Standing → List Cid
ids_in s = map (λ e. e.facts.cid) s.entries

abbrev pub deadlines_in : Standing → List Deadline
deadlines_in s = flat_map deadlines_of s.entries

-- a queue has the deadlines of the connections, and of no other
pub record IsTimed (s : Standing) (queue : Queue) : Type 0 where
  pub enrolled : queue.enrolled ≡ ids_in s
  pub timers : HaveSame queue.timers (deadlines_in s)
  pub orderly : IsOrderly queue

-- the same, but for the timers of one of them
pub record IsTimedBut (cid : Cid) (s : Standing) (queue : Queue) : Type 0 where
  pub enrolled : queue.enrolled ≡ ids_in s
  pub timers : HaveSame (without_cid cid queue.timers) (without_cid cid (deadlines_in s))
  pub orderly : IsOrderly queue
  pub stands : IsSome (entry_with cid.0 s)

-- of the timers of one connection a list has the deadlines, and no other
abbrev pub HasDeadlinesOf : Entry → List Deadline → Type 0
HasDeadlinesOf e timers = (d : Deadline) → is_of e.facts.cid d ≡ true → has_timer d timers ≡ has_timer d (deadlines_of e)

-- ---- the moments of a connection, by kind

abbrev pub handshake_end : Phase → Option ℕ
handshake_end Dialing = None
handshake_end (Greeting until) = Some until
handshake_end Negotiated = None
handshake_end (Closing until) = None

abbrev pub time_wait_end : Phase → Option ℕ
time_wait_end Dialing = None
time_wait_end (Greeting until) = None
time_wait_end Negotiated = None
time_wait_end (Closing until) = Some until

abbrev pub grace_end : Grace → Option ℕ
grace_end Off = None
grace_end (ForRemote until) = Some until
grace_end (ForLocal until) = Some until

abbrev pub reply_end : Option Reply → Option ℕ
reply_end None = None
reply_end (Some reply) = Some reply.until
