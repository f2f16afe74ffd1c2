-- What a settings file says.
use Rattle.std.specs.Prelude.{◌≡◌, ℕ, ℤ, pos, negsuc, min, Bool, true, false, ◌&&◌, List, [], ◌∷◌, codes, bytes_eq, if◌then◌else◌, Option, Some, None, Result, Ok, Err, ⊤}
use Rattle.std.specs.List.{list_any}
use Rattle.std.specs.Option.{option_and_then, option_map, unwrap_or}
use Rattle.std.specs.Str.{is_utf8}
use Rattle.toml.specs.Data.{Data, Members, no_members, member, get_member, as_str, as_integer, as_bool}
use Rattle.toml.specs.Parse.{parse_document}
use Rattle.net_base.specs.Bounds.{is_interval, settings_fault, targets_fault}
use Rattle.net_base.specs.declared.address.Addr.{Addr}
use Rattle.net_base.specs.declared.settings.Settings.{Settings}
use Rattle.net_base.specs.declared.settings.Field.{Field}
use Rattle.net_base.specs.declared.settings.Field.TheVariants.{Own, Root, Rootttl, Tick, Seed, Announce, Unknown}
use Rattle.net_base.specs.declared.targets.Targets.{Targets}
use Rattle.trace_text.specs.Addresses.{address_of}
use Rattle.node_settings.specs.declared.config.Config.{Config}
use Rattle.node_settings.specs.declared.config_refusal.ConfigRefusal.{ConfigRefusal}
use Rattle.node_settings.specs.declared.config_refusal.ConfigRefusal.TheVariants.{BadToml, BadSetting, OutOfMemory}
use Rattle.node_settings.specs.Reading.{◌>>=◌, unless_wrong, required, optional}

-- ---- names

abbrev pub setting_names : List (List ℕ)
setting_names =
    codes "own" ∷ codes "magic" ∷ codes "initiatoronly" ∷ codes "sharing" ∷ codes "hard" ∷ codes "soft" ∷ codes "delay"
    ∷ codes "idle" ∷ codes "timewait" ∷ codes "handshake" ∷ codes "reply" ∷ codes "backoff" ∷ codes "sharegap"
    ∷ codes "shares" ∷ codes "root" ∷ codes "known" ∷ codes "established" ∷ codes "active" ∷ codes "rootttl"
    ∷ codes "tick" ∷ codes "seed" ∷ codes "announce" ∷ []

unfoldable pub is_setting : List ℕ → Bool
is_setting name = list_any (bytes_eq name) setting_names

abbrev pub has_known_names : Members → Bool
has_known_names no_members = true
has_known_names (member name value rest) = is_setting name && has_known_names rest

-- ---- values

abbrev pub not_below_zero : ℤ → Option ℕ
not_below_zero (pos n) = Some n
not_below_zero (negsuc n) = None

-- a whole number that is not below 0
abbrev pub whole_number : Data → Option ℕ
whole_number value = option_and_then not_below_zero (as_integer value)

-- A value that is no such number counts as one that is in no range.
abbrev pub out_of_range : ℕ
out_of_range = 18446744073709551615

abbrev pub ranged_number : Data → ℕ
ranged_number value = unwrap_or (whole_number value) out_of_range

-- the number of a name, or its default where the name is absent
abbrev pub number_at : Members → List ℕ → ℕ → ℕ
number_at table name default = unwrap_or (option_map ranged_number (get_member name table)) default

-- ---- fields

abbrev pub known_names : Members → Result (Unit {0}) Field
known_names table = if has_known_names table then Ok tt else Err Unknown

-- an address as a trace of version 2 spells it
abbrev pub own_in : Members → Result Addr Field
own_in table = required Own (λ value. option_and_then (address_of 2) (as_str value)) (get_member (codes "own") table)

-- The settings with their defaults. The default of `soft` hangs on `hard`.
abbrev pub settings_in : Members → Addr → Settings
settings_in table own =
    let hard = number_at table (codes "hard") 512 in
    record {
      version = 2;
      own = own;
      magic = number_at table (codes "magic") 42;
      initiator_only = number_at table (codes "initiatoronly") 0;
      sharing = number_at table (codes "sharing") 1;
      hard = hard;
      soft = number_at table (codes "soft") (min 384 hard);
      delay = number_at table (codes "delay") 5000;
      idle = number_at table (codes "idle") 5000;
      timewait = number_at table (codes "timewait") 60000;
      handshake = number_at table (codes "handshake") 10000;
      reply = number_at table (codes "reply") 10000;
      backoff = number_at table (codes "backoff") 5000;
      sharegap = number_at table (codes "sharegap") 900000;
      shares = number_at table (codes "shares") 2;
    }

-- the first of them that is out of its range, or of the wrong type, decides
abbrev pub checked_settings_in : Members → Addr → Result Settings Field
checked_settings_in table own = unless_wrong (settings_fault (settings_in table own)) (settings_in table own)

abbrev pub targets_in : Members → ℕ → Targets
targets_in table root = record {
  root = root;
  known = number_at table (codes "known") 20;
  established = number_at table (codes "established") 10;
  active = number_at table (codes "active") 5;
}

-- The root target has no bound but the known one, so its type is judged by itself.
abbrev pub checked_targets_in : Members → Result Targets Field
checked_targets_in table = do
  root ← optional Root whole_number 10 (get_member (codes "root") table)
  unless_wrong (targets_fault (targets_in table root)) (targets_in table root)

abbrev pub interval_in : Field → Members → List ℕ → ℕ → Result ℕ Field
interval_in field table name default =
    let time = number_at table name default in
    if is_interval time then Ok time else Err field

-- ---- the file

abbrev pub config_in : Members → Result Config Field
config_in table = do
  names ← known_names table
  own ← own_in table
  settings ← checked_settings_in table own
  targets ← checked_targets_in table
  rootttl ← interval_in Rootttl table (codes "rootttl") 3600000
  tick ← interval_in Tick table (codes "tick") 1000
  seed ← optional Seed whole_number 0 (get_member (codes "seed") table)
  announce ← optional Announce as_bool true (get_member (codes "announce") table)
  Ok (record {
    settings = settings;
    targets = targets;
    rootttl = rootttl;
    tick = tick;
    seed = seed;
    announce = announce;
  })

abbrev pub refused : Result Config Field → Result Config ConfigRefusal
refused (Ok config) = Ok config
refused (Err field) = Err (BadSetting field)

abbrev pub config_of_table : Option Members → Result Config ConfigRefusal
config_of_table None = Err BadToml
config_of_table (Some table) = refused (config_in table)

-- The file is the table that a text is, by the grammar of TOML 1.1. Bytes that are no UTF-8 are no text.
abbrev pub config_of : List ℕ → Result Config ConfigRefusal
config_of bytes = if is_utf8 bytes then config_of_table (parse_document bytes) else Err BadToml

-- the answer is the wanted one, unless memory was wanting
abbrev pub IsConfigOr : Result Config ConfigRefusal → Result Config ConfigRefusal → Type 0
IsConfigOr wanted (Ok config) = wanted ≡ Ok config
IsConfigOr wanted (Err BadToml) = wanted ≡ Err BadToml
IsConfigOr wanted (Err (BadSetting field)) = wanted ≡ Err (BadSetting field)
IsConfigOr wanted (Err OutOfMemory) = ⊤
