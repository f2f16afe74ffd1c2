-- What each call asks of a table, what it makes of it, and what it is answered. The words are those of the table's own calls.
use Rattle.std.specs.Prelude.{ℕ, ◌^◌, Bool, true, false, ◌&&◌, not, nat_le, nat_lt, Option, Some, None, is_some, is_none, if◌then◌else◌}
use Rattle.net_base.specs.declared.address.Addr.{Addr}
use Rattle.net_base.specs.declared.connection.Cid.{Cid}
use Rattle.net_base.specs.declared.connection.Facts.{Facts}
use Rattle.conn_state.specs.Counted.{counted}
use Rattle.conn_state.specs.Protocols.{has_responder}
use Rattle.conn_state.specs.Shapes.{serves_remote}
use Rattle.conn_state.specs.Use.{facts_at, live_at, is_dialing, is_greeting, is_negotiated, is_outbound, runs}
use Rattle.conn_table.specs.Answers.{any_at, is_due}
use Rattle.conn_table.specs.Calls.{after_admit, after_dial, after_connect, after_negotiate, after_acquire_at, after_release, after_awake, after_idle, after_grace, after_drop}
use Rattle.conn_table.specs.Calls.{next_id, negotiated_lease, acquire_at, grace_end_at}
use Rattle.conn_table.specs.Table.{Table}
use Rattle.conn_table.specs.declared.acquire.Acquire.{Acquire}
use Rattle.conn_table.specs.declared.acquire.Acquire.TheVariants as acquire
use Rattle.conn_table.specs.declared.grace_end.GraceEnd.{GraceEnd}
use Rattle.shared_table.specs.declared.call.InCall.{InCall}
use Rattle.shared_table.specs.declared.call.InCall.TheVariants as ins
use Rattle.shared_table.specs.declared.call.OutCall.{OutCall}
use Rattle.shared_table.specs.declared.call.OutCall.TheVariants as outs
use Rattle.shared_table.specs.declared.call.TableCall.{TableCall}
use Rattle.shared_table.specs.declared.call.TableCall.TheVariants.{Out, In}
use Rattle.shared_table.specs.declared.reply.TableReply.{TableReply}
use Rattle.shared_table.specs.declared.reply.TableReply.TheVariants.{Made, Done, Leased, NoSuch, NotReusable, Grace, Unmet}

-- ---- what a call asks for, as tests; `Asks` has it in the words of the table's contracts

-- moments go up to this one
abbrev pub is_moment : ℕ → Bool
is_moment now = nat_le now (2 ^ 48)

-- another id may be given
abbrev pub may_give : Table → Bool
may_give t = nat_lt t.given (2 ^ 48)

abbrev pub may_dial : Addr → Table → Bool
may_dial addr t = may_give t && not (any_at addr t.facts)

abbrev pub may_let_in : Addr → Table → Bool
may_let_in addr t = may_give t && nat_lt (counted t.facts) t.settings.hard && is_none (live_at addr t.facts)

abbrev pub passes : (Facts → Bool) → Option Facts → Bool
passes test None = false
passes test (Some f) = test f

-- the connection with an id stands, and passes a test
abbrev pub stands_with : (Facts → Bool) → ℕ → Table → Bool
stands_with test cid t = passes test (facts_at cid t.facts)

abbrev pub is_greeting_out : Facts → Bool
is_greeting_out f = is_greeting f && is_outbound f

abbrev pub is_greeting_in : Facts → Bool
is_greeting_in f = is_greeting f && not (is_outbound f)

abbrev pub is_used : Facts → Bool
is_used f = f.local

-- the other side may start the responder of a protocol
abbrev pub may_awake : ℕ → Facts → Bool
may_awake protocol f = has_responder protocol && is_negotiated f && serves_remote f && not (runs protocol f.running)

abbrev pub out_is_met : OutCall → Table → Bool
out_is_met (outs.Dial addr) t = may_dial addr t
out_is_met (outs.Connected cid now) t = is_moment now && stands_with is_dialing cid.0 t
out_is_met (outs.Agreed cid agreed now) t = is_moment now && stands_with is_greeting_out cid.0 t
out_is_met (outs.Acquire addr) t = true
out_is_met (outs.Release cid now) t = is_moment now && stands_with is_used cid.0 t
out_is_met (outs.DropOut cid) t = is_some (facts_at cid.0 t.facts)

abbrev pub in_is_met : InCall → Table → Bool
in_is_met (ins.Admit addr now) t = is_moment now && may_let_in addr t
in_is_met (ins.Agreed cid agreed now) t = is_moment now && stands_with is_greeting_in cid.0 t
in_is_met (ins.Awake cid protocol) t = stands_with (may_awake protocol) cid.0 t
in_is_met (ins.Idle cid protocol now) t = is_moment now && stands_with (λ f. runs protocol f.running) cid.0 t
in_is_met (ins.GraceOver cid now) t = is_moment now && stands_with (λ f. is_due now f.grace) cid.0 t
in_is_met (ins.DropIn cid) t = is_some (facts_at cid.0 t.facts)

abbrev pub is_met : TableCall → Table → Bool
is_met (Out call) t = out_is_met call t
is_met (In call) t = in_is_met call t

-- ---- what it makes of the table

abbrev pub after_out : OutCall → Table → Table
after_out (outs.Dial addr) t = after_dial addr t
after_out (outs.Connected cid now) t = after_connect cid.0 now t
after_out (outs.Agreed cid agreed now) t = after_negotiate cid.0 agreed now t
after_out (outs.Acquire addr) t = after_acquire_at addr t
after_out (outs.Release cid now) t = after_release cid.0 now t
after_out (outs.DropOut cid) t = after_drop cid.0 t

abbrev pub after_in : InCall → Table → Table
after_in (ins.Admit addr now) t = after_admit addr now t
after_in (ins.Agreed cid agreed now) t = after_negotiate cid.0 agreed now t
after_in (ins.Awake cid protocol) t = after_awake cid.0 protocol t
after_in (ins.Idle cid protocol now) t = after_idle cid.0 protocol now t
after_in (ins.GraceOver cid now) t = after_grace cid.0 now t
after_in (ins.DropIn cid) t = after_drop cid.0 t

abbrev pub after_met : TableCall → Table → Table
after_met (Out call) t = after_out call t
after_met (In call) t = after_in call t

-- ---- what it is answered

-- the lease that came stays beside the table
abbrev pub lease_reply : Option Cid → TableReply
lease_reply None = Done
lease_reply (Some cid) = Leased cid

abbrev pub acquire_reply : Acquire → TableReply
acquire_reply (acquire.Leased cid) = Leased cid
acquire_reply acquire.NoSuch = NoSuch
acquire_reply (acquire.NotReusable name) = NotReusable name

abbrev pub grace_reply : Option GraceEnd → TableReply
grace_reply None = Unmet
grace_reply (Some end) = Grace end

abbrev pub out_reply : OutCall → Table → TableReply
out_reply (outs.Dial addr) t = Made (next_id t)
out_reply (outs.Connected cid now) t = Done
out_reply (outs.Agreed cid agreed now) t = lease_reply (negotiated_lease cid.0 t)
out_reply (outs.Acquire addr) t = acquire_reply (acquire_at addr t)
out_reply (outs.Release cid now) t = Done
out_reply (outs.DropOut cid) t = Done

abbrev pub in_reply : InCall → Table → TableReply
in_reply (ins.Admit addr now) t = Made (next_id t)
in_reply (ins.Agreed cid agreed now) t = lease_reply (negotiated_lease cid.0 t)
in_reply (ins.Awake cid protocol) t = Done
in_reply (ins.Idle cid protocol now) t = Done
in_reply (ins.GraceOver cid now) t = grace_reply (grace_end_at cid.0 t)
in_reply (ins.DropIn cid) t = Done

abbrev pub met_reply : TableCall → Table → TableReply
met_reply (Out call) t = out_reply call t
met_reply (In call) t = in_reply call t

-- ---- whether or not what it asks for holds

-- Unmet exactly where what the call asks for does not hold
abbrev pub reply_to : TableCall → Table → TableReply
reply_to call t = if is_met call t then met_reply call t else Unmet

-- and then the table stays
abbrev pub table_after : TableCall → Table → Table
table_after call t = if is_met call t then after_met call t else t
