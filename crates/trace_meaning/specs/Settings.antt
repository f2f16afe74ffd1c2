-- The settings that the head of a trace gives.
use Rattle.std.specs.Prelude.{ℕ, ◌==◌, min, List, [], ◌∷◌, if◌then◌else◌, Option, Some, None, unwrap_or}
use Rattle.net_base.specs.declared.address.Addr.{Addr}
use Rattle.net_base.specs.declared.address.Ip.TheVariants.{V4}
use Rattle.net_base.specs.declared.settings.Settings.{Settings}
use Rattle.trace_text.specs.declared.line.HeadLine.{HeadLine}
use Rattle.trace_text.specs.declared.line.HeadLine.TheVariants.{Trace, Own, Set}

-- the version that line 1 gives
abbrev pub version_in : List HeadLine → ℕ
version_in [] = 1
version_in (Trace version ∷ heads) = version
version_in (Own address ∷ heads) = version_in heads
version_in (Set place value ∷ heads) = version_in heads

-- the address that line 2 gives
abbrev pub own_in : List HeadLine → Addr
own_in [] = record { ip = V4 0; port = 0 }
own_in (Trace version ∷ heads) = own_in heads
own_in (Own address ∷ heads) = address
own_in (Set place value ∷ heads) = own_in heads

-- the value that a `set` line gives to the setting at a place, where there is one
abbrev pub set_in : ℕ → List HeadLine → Option ℕ
set_in place [] = None
set_in place (Trace version ∷ heads) = set_in place heads
set_in place (Own address ∷ heads) = set_in place heads
set_in place (Set other value ∷ heads) = if other == place then Some value else set_in place heads

-- the same, or the usual value
abbrev pub set_or : ℕ → ℕ → List HeadLine → ℕ
set_or place usual heads = unwrap_or (set_in place heads) usual

-- each setting by its place; the usual soft limit is 384, where the hard one is not below it
abbrev pub settings_in : List HeadLine → Settings
settings_in heads = record {
  version = version_in heads;
  own = own_in heads;
  magic = set_or 1 42 heads;
  initiator_only = set_or 2 0 heads;
  sharing = set_or 3 1 heads;
  hard = set_or 4 512 heads;
  soft = set_or 5 (min 384 (set_or 4 512 heads)) heads;
  delay = set_or 6 5000 heads;
  idle = set_or 7 5000 heads;
  timewait = set_or 8 60000 heads;
  handshake = set_or 9 10000 heads;
  reply = set_or 10 10000 heads;
  backoff = set_or 11 5000 heads;
  sharegap = set_or 12 900000 heads;
  shares = set_or 13 2 heads;
}
