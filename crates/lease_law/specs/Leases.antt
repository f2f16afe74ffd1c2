-- Calls on one table one after another, and the leases that it gave and has not got back.
use Rattle.std.specs.Prelude.{ℕ, ◌≡◌, ◌==◌, Bool, true, false, List, [], ◌∷◌, Option, Some, None, if◌then◌else◌}
use Rattle.std.specs.List.{AllByRecursion, list_any}
use Rattle.net_base.specs.declared.address.Addr.{Addr}
use Rattle.net_base.specs.declared.connection.Agreed.{Agreed}
use Rattle.net_base.specs.declared.connection.Cid.{Cid}
use Rattle.net_base.specs.declared.settings.Settings.{Settings}
use Rattle.conn_table.specs.Calls.{IsNotLive, IsUnknown, IsDialed, IsGreeted, CanAdmit, CanDial, CanConnect, CanNegotiate, CanRelease, CanStart, CanStop, CanEndGrace, CanDrop, CanDropLeased}
use Rattle.conn_table.specs.Calls.{after_admit, after_dial, after_connect, after_negotiate, after_acquire_at, after_release, after_awake, after_idle, after_grace, after_drop}
use Rattle.conn_table.specs.Calls.{negotiated_lease, acquire_at}
use Rattle.conn_table.specs.Table.{Table, empty_table}
use Rattle.conn_table.specs.declared.acquire.Acquire.{Acquire}
use Rattle.conn_table.specs.declared.acquire.Acquire.TheVariants.{Leased, NoSuch, NotReusable}

-- a table, and the ids of the leases that are out
pub record Held : Type 0 where
  pub table : Table
  pub leases : List ℕ

abbrev pub at_first : Settings → Held
at_first settings = record { table = empty_table settings; leases = [] }

-- A call, by what it is given. A lease is given by the id of its connection.
pub data Call : Type 0 where
  Admit : (addr : Addr) (now : ℕ) → Call
  Dial : (addr : Addr) → Call
  Connect : (cid now : ℕ) → Call
  Negotiate : (cid : ℕ) (agreed : Agreed) (now : ℕ) → Call
  AcquireAt : (addr : Addr) → Call
  Release : (lease now : ℕ) → Call
  Awake : (cid protocol : ℕ) → Call
  Idle : (cid protocol now : ℕ) → Call
  GraceOver : (cid now : ℕ) → Call
  DropConn : (cid : ℕ) → Call
  DropLeased : (lease : ℕ) → Call
  -- a lease is dropped, and nothing is called
  Forget : (lease : ℕ) → Call

-- ---- the leases

abbrev pub is_out : ℕ → List ℕ → Bool
is_out lease = list_any (λ other. lease == other)

-- one that comes, where there is one
abbrev pub with_lease : Option Cid → List ℕ → List ℕ
with_lease None leases = leases
with_lease (Some cid) leases = cid.0 ∷ leases

abbrev pub lease_given : Acquire → Option Cid
lease_given (Leased cid) = Some cid
lease_given NoSuch = None
lease_given (NotReusable name) = None

-- one that is given back, or dropped
abbrev pub given_back : ℕ → List ℕ → List ℕ
given_back lease [] = []
given_back lease (other ∷ leases) = if lease == other then leases else other ∷ given_back lease leases

-- ---- the calls

-- Of what the calls ask for that on which leases hang, and that only what is held is given. That a lease's connection is in local use
-- is not asked.
abbrev pub CanCall : Call → Held → Type 0
CanCall (Admit addr now) h = IsNotLive addr h.table
CanCall (Dial addr) h = IsUnknown addr h.table
CanCall (Connect cid now) h = IsDialed cid h.table
CanCall (Negotiate cid agreed now) h = IsGreeted cid h.table
CanCall (AcquireAt addr) h = Unit {0}
CanCall (Release lease now) h = is_out lease h.leases ≡ true
CanCall (Awake cid protocol) h = Unit {0}
CanCall (Idle cid protocol now) h = Unit {0}
CanCall (GraceOver cid now) h = Unit {0}
CanCall (DropConn cid) h = CanDrop cid h.table
CanCall (DropLeased lease) h = is_out lease h.leases ≡ true
CanCall (Forget lease) h = is_out lease h.leases ≡ true

-- all that the table's contracts ask for
abbrev pub TableAsks : Call → Table → Type 0
TableAsks (Admit addr now) t = CanAdmit addr now t
TableAsks (Dial addr) t = CanDial addr t
TableAsks (Connect cid now) t = CanConnect cid now t
TableAsks (Negotiate cid agreed now) t = CanNegotiate cid now t
TableAsks (AcquireAt addr) t = Unit {0}
TableAsks (Release lease now) t = CanRelease lease now t
TableAsks (Awake cid protocol) t = CanStart cid protocol t
TableAsks (Idle cid protocol now) t = CanStop cid protocol now t
TableAsks (GraceOver cid now) t = CanEndGrace cid now t
TableAsks (DropConn cid) t = CanDrop cid t
TableAsks (DropLeased lease) t = CanDropLeased lease t
TableAsks (Forget lease) t = Unit {0}

-- a lease that is given back, or dropped, is one that is out
abbrev pub GivesHeld : Call → List ℕ → Type 0
GivesHeld (Admit addr now) leases = Unit {0}
GivesHeld (Dial addr) leases = Unit {0}
GivesHeld (Connect cid now) leases = Unit {0}
GivesHeld (Negotiate cid agreed now) leases = Unit {0}
GivesHeld (AcquireAt addr) leases = Unit {0}
GivesHeld (Release lease now) leases = is_out lease leases ≡ true
GivesHeld (Awake cid protocol) leases = Unit {0}
GivesHeld (Idle cid protocol now) leases = Unit {0}
GivesHeld (GraceOver cid now) leases = Unit {0}
GivesHeld (DropConn cid) leases = Unit {0}
GivesHeld (DropLeased lease) leases = is_out lease leases ≡ true
GivesHeld (Forget lease) leases = is_out lease leases ≡ true

-- the table by what its contracts say of the call, and the leases by what they say that it answers
abbrev pub after_call : Call → Held → Held
after_call (Admit addr now) h = record h { table = after_admit addr now h.table }
after_call (Dial addr) h = record h { table = after_dial addr h.table }
after_call (Connect cid now) h = record h { table = after_connect cid now h.table }
after_call (Negotiate cid agreed now) h = record {
  table = after_negotiate cid agreed now h.table;
  leases = with_lease (negotiated_lease cid h.table) h.leases;
}
after_call (AcquireAt addr) h = record {
  table = after_acquire_at addr h.table;
  leases = with_lease (lease_given (acquire_at addr h.table)) h.leases;
}
after_call (Release lease now) h = record { table = after_release lease now h.table; leases = given_back lease h.leases }
after_call (Awake cid protocol) h = record h { table = after_awake cid protocol h.table }
after_call (Idle cid protocol now) h = record h { table = after_idle cid protocol now h.table }
after_call (GraceOver cid now) h = record h { table = after_grace cid now h.table }
after_call (DropConn cid) h = record h { table = after_drop cid h.table }
after_call (DropLeased lease) h = record { table = after_drop lease h.table; leases = given_back lease h.leases }
after_call (Forget lease) h = record h { leases = given_back lease h.leases }

abbrev pub after_run : List Call → Held → Held
after_run [] h = h
after_run (call ∷ calls) h = after_run calls (after_call call h)

abbrev pub CanRun : List Call → Held → Type 0
CanRun [] h = Unit {0}
CanRun (call ∷ calls) h = CanCall call h × CanRun calls (after_call call h)

-- ---- what holds of the leases

-- no two are of one connection
abbrev pub AreDistinct : List ℕ → Type 0
AreDistinct [] = Unit {0}
AreDistinct (lease ∷ leases) = AllByRecursion (λ other. (lease == other) ≡ false) leases × AreDistinct leases

pub record AreApart (h : Held) : Type 0 where
  pub distinct : AreDistinct h.leases
  -- the connection of each stands, and is in local use
  pub used : AllByRecursion (λ lease. CanDropLeased lease h.table) h.leases
