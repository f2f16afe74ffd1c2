-- Traces: events, each with the actions that it brings, and words for what stands in them.
use Rattle.std.specs.Prelude.{◌≡◌, ℕ, ◌+◌, ◌-◌, ◌*◌, Bool, nat_le, List, [], ◌∷◌, map, if◌then◌else◌}
use Rattle.net_base.specs.declared.action.Action.{Action}
use Rattle.net_base.specs.declared.address.Addr.{Addr}
use Rattle.net_base.specs.declared.address.Ip.TheVariants.{V4, V6}
use Rattle.net_base.specs.declared.connection.Cid.{Cid}
use Rattle.net_base.specs.declared.event.Event.{Event}
use Rattle.net_base.specs.declared.event.Group.{Group}
use Rattle.net_base.specs.declared.event.Job.{Job}
use Rattle.net_base.specs.declared.settings.Settings.{Settings}
use Rattle.net_base.specs.declared.targets.BigTargets.{BigTargets}
use Rattle.net_base.specs.declared.targets.Targets.{Targets}
use Rattle.machine.specs.Machine.{start_of}
use Rattle.machine.specs.Run.{actions_of}

-- ---- words

-- an address of this computer, by its port
abbrev pub node : ℕ → Addr
node port = record { ip = V4 0x7f000001; port = port }

abbrev pub node_v6 : ℕ → ℕ → Addr
node_v6 ip port = record { ip = V6 ip; port = port }

abbrev pub cid : ℕ → Cid
cid n = record { 0 = n }

abbrev pub job : ℕ → Job
job n = record { 0 = n }

abbrev pub group : ℕ → ℕ → Bool → List Addr → Group
group hot warm advertise members = record { hot = hot; warm = warm; advertise = advertise; members = members }

abbrev pub aims : ℕ → ℕ → ℕ → ℕ → Targets
aims root known established active =
    record { root = root; known = known; established = established; active = active }

abbrev pub big_aims : ℕ → ℕ → ℕ → BigTargets
big_aims known established active = record { known = known; established = established; active = active }

-- the value of a digit among 0 to 9 and a to f, by its code
abbrev pub digit : ℕ → ℕ
digit code = if nat_le 97 code then code - 87 else code - 48

-- the bytes of hexadecimal digits
abbrev pub bytes_of : List ℕ → List ℕ
bytes_of [] = []
bytes_of (high ∷ []) = []
bytes_of (high ∷ low ∷ rest) = (digit high * 16 + digit low) ∷ bytes_of rest

-- the settings of a node on this computer where nothing else is said
abbrev pub usual : Settings
usual = record {
  version = 1;
  own = node 3001;
  magic = 42;
  initiator_only = 0;
  sharing = 1;
  hard = 512;
  soft = 384;
  delay = 5000;
  idle = 5000;
  timewait = 60000;
  handshake = 10000;
  reply = 10000;
  backoff = 5000;
  sharegap = 900000;
  shares = 2;
}

-- settings no two of which are equal
abbrev pub distinct : Settings
distinct = record {
  version = 2;
  own = node 3001;
  magic = 42;
  initiator_only = 0;
  sharing = 1;
  hard = 6;
  soft = 3;
  delay = 100;
  idle = 300;
  timewait = 700;
  handshake = 1100;
  reply = 1900;
  backoff = 2700;
  sharegap = 6100;
  shares = 5;
}

-- ---- traces

pub record Happening : Type 0 where
  pub event : Event
  pub actions : List Action

pub record Trace : Type 0 where
  pub settings : Settings
  pub happenings : List Happening

abbrev pub brings : Event → List Action → Happening
brings event actions = record { event = event; actions = actions }

-- the machine does what the trace says
abbrev pub IsRun : Trace → Type 0
IsRun t = actions_of (start_of t.settings) (map (λ h. h.event) t.happenings) ≡ map (λ h. h.actions) t.happenings
