-- What each call asks of a table, in the words of the contracts of the table's own calls.
use Rattle.std.specs.Prelude.{◌≡◌, ◌⊎◌, Bool, true, false, IsSomeAnd}
use Rattle.conn_state.specs.Use.{facts_at, is_outbound}
use Rattle.conn_table.specs.Calls.{CanAdmit, CanDial, CanConnect, CanNegotiate, CanRelease, CanStart, CanStop, CanEndGrace, CanDrop, CanDropLeased}
use Rattle.conn_table.specs.Table.{Table}
use Rattle.shared_table.specs.declared.call.InCall.{InCall}
use Rattle.shared_table.specs.declared.call.InCall.TheVariants as ins
use Rattle.shared_table.specs.declared.call.OutCall.{OutCall}
use Rattle.shared_table.specs.declared.call.OutCall.TheVariants as outs
use Rattle.shared_table.specs.declared.call.TableCall.{TableCall}
use Rattle.shared_table.specs.declared.call.TableCall.TheVariants.{Out, In}

-- A handshake is told to have ended by the side that dialed. A connection goes by one of two calls of the table.
abbrev pub OutAsks : OutCall → Table → Type 0
OutAsks (outs.Dial addr) t = CanDial addr t
OutAsks (outs.Connected cid now) t = CanConnect cid.0 now t
OutAsks (outs.Agreed cid agreed now) t = CanNegotiate cid.0 now t × IsSomeAnd (facts_at cid.0 t.facts) (λ f. is_outbound f ≡ true)
OutAsks (outs.Acquire addr) t = Unit {0}
OutAsks (outs.Release cid now) t = CanRelease cid.0 now t
OutAsks (outs.DropOut cid) t = CanDrop cid.0 t ⊎ CanDropLeased cid.0 t

abbrev pub InAsks : InCall → Table → Type 0
InAsks (ins.Admit addr now) t = CanAdmit addr now t
InAsks (ins.Agreed cid agreed now) t = CanNegotiate cid.0 now t × IsSomeAnd (facts_at cid.0 t.facts) (λ f. is_outbound f ≡ false)
InAsks (ins.Awake cid protocol) t = CanStart cid.0 protocol t
InAsks (ins.Idle cid protocol now) t = CanStop cid.0 protocol now t
InAsks (ins.GraceOver cid now) t = CanEndGrace cid.0 now t
InAsks (ins.DropIn cid) t = CanDrop cid.0 t ⊎ CanDropLeased cid.0 t

abbrev pub Asks : TableCall → Table → Type 0
Asks (Out call) t = OutAsks call t
Asks (In call) t = InAsks call t

-- a test passes exactly where something holds
pub record Tells (test : Bool) (P : Type 0) : Type 0 where
  pub passed : test ≡ true → P
  pub holds : P → test ≡ true
