-- The ranges of settings and targets.
use Rattle.std.specs.Prelude.{ℕ, ◌≡◌, Bool, ◌&&◌, nat_le, List, [], ◌∷◌, if◌then◌else◌, Option, Some, None}
use Rattle.net_base.specs.declared.address.Addr.{Addr}
use Rattle.net_base.specs.declared.settings.Settings.{Settings}
use Rattle.net_base.specs.declared.targets.Targets.{Targets}
use Rattle.net_base.specs.declared.targets.BigTargets.{BigTargets}
use Rattle.net_base.specs.declared.settings.Field.{Field}
use Rattle.net_base.specs.declared.settings.Field.TheVariants.{Version, Magic, InitiatorOnly, Sharing, Hard, Soft, Delay, Idle, Timewait, Handshake, Reply, Backoff, Sharegap, Shares, Root, Known, Established, Active}

abbrev pub within : ℕ → ℕ → ℕ → Bool
within least most n = nat_le least n && nat_le n most

-- one day of milliseconds is the longest
abbrev pub is_interval : ℕ → Bool
is_interval = within 1 86400000

-- the first field whose test fails
abbrev pub first_failing : List (Field × Bool) → Option Field
first_failing [] = None
first_failing (test ∷ tests) = if test.1 then first_failing tests else Some test.0

-- the fields with a range, in their order
abbrev pub settings_tests : Settings → List (Field × Bool)
settings_tests s =
    (Version, within 1 2 s.version) ∷ (Magic, nat_le s.magic 4294967295)
    ∷ (InitiatorOnly, nat_le s.initiator_only 1) ∷ (Sharing, nat_le s.sharing 1)
    ∷ (Hard, within 1 10000 s.hard) ∷ (Soft, nat_le s.soft s.hard)
    ∷ (Delay, is_interval s.delay) ∷ (Idle, is_interval s.idle) ∷ (Timewait, is_interval s.timewait)
    ∷ (Handshake, is_interval s.handshake) ∷ (Reply, is_interval s.reply)
    ∷ (Backoff, is_interval s.backoff) ∷ (Sharegap, is_interval s.sharegap) ∷ (Shares, nat_le s.shares 8) ∷ []

abbrev pub settings_fault : Settings → Option Field
settings_fault s = first_failing (settings_tests s)

abbrev pub big_targets_fault : BigTargets → Option Field
big_targets_fault t = first_failing (
    (Known, nat_le t.known 10000)
    ∷ (Established, nat_le t.established 1000 && nat_le t.established t.known)
    ∷ (Active, nat_le t.active 100 && nat_le t.active t.established) ∷ [])

-- the root target has no bound but the known one
abbrev pub targets_fault : Targets → Option Field
targets_fault t = first_failing (
    (Root, nat_le t.root t.known)
    ∷ (Known, nat_le t.known 10000)
    ∷ (Established, nat_le t.established 1000 && nat_le t.established t.known)
    ∷ (Active, nat_le t.active 100 && nat_le t.active t.established) ∷ [])

-- settings that the check passes
abbrev pub AreSound : Settings → Type 0
AreSound s = settings_fault s ≡ None

-- where nothing is set
abbrev pub usual : Addr → Settings
usual address = record {
  version = 2;
  own = address;
  magic = 42;
  initiator_only = 0;
  sharing = 1;
  hard = 512;
  soft = 384;
  delay = 5000;
  idle = 5000;
  timewait = 60000;
  handshake = 10000;
  reply = 10000;
  backoff = 5000;
  sharegap = 900000;
  shares = 2;
}
