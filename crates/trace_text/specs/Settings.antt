-- The settings of a trace's head: their order and their ranges.
use Rattle.std.specs.Prelude.{ℕ, ◌+◌, ◌≤◌, List, [], ◌∷◌, codes, bytes_eq, Option, Some, None, if◌then◌else◌}
use Rattle.net_base.specs.declared.settings.Settings.{Settings}

pub record Setting : Type 0 where
  pub name : List ℕ
  pub least : ℕ
  pub most : ℕ

abbrev pub setting : List ℕ → ℕ → ℕ → Setting
setting name least most = record { name = name; least = least; most = most }

-- a time in milliseconds, up to a day
abbrev pub interval : List ℕ → Setting
interval name = setting name 1 86400000

-- the settings in their order, under a hard limit
abbrev pub settings_under : ℕ → List Setting
settings_under hard =
    setting (codes "magic") 0 4294967295 ∷ setting (codes "initiatoronly") 0 1 ∷ setting (codes "sharing") 0 1
    ∷ setting (codes "hard") 1 10000 ∷ setting (codes "soft") 0 hard ∷ interval (codes "delay")
    ∷ interval (codes "idle") ∷ interval (codes "timewait") ∷ interval (codes "handshake")
    ∷ interval (codes "reply") ∷ interval (codes "backoff") ∷ interval (codes "sharegap")
    ∷ setting (codes "shares") 0 8 ∷ []

-- the place of a name among settings that are counted from a number on, and its setting
abbrev pub setting_from : ℕ → List ℕ → List Setting → Option (ℕ × Setting)
setting_from place name [] = None
setting_from place name (first ∷ rest) =
    if bytes_eq first.name name then Some (place, first) else setting_from (place + 1) name rest

-- places are counted from 1 on
abbrev pub setting_of : ℕ → List ℕ → Option (ℕ × Setting)
setting_of hard name = setting_from 1 name (settings_under hard)

-- the values of the settings in their order
abbrev pub setting_values : Settings → List ℕ
setting_values s =
    s.magic ∷ s.initiator_only ∷ s.sharing ∷ s.hard ∷ s.soft ∷ s.delay ∷ s.idle ∷ s.timewait ∷ s.handshake
    ∷ s.reply ∷ s.backoff ∷ s.sharegap ∷ s.shares ∷ []

-- each value is in the range of its setting
abbrev pub AreInRange : List Setting → List ℕ → Type 0
AreInRange [] values = Unit {0}
AreInRange (first ∷ rest) [] = Unit {0}
AreInRange (first ∷ rest) (value ∷ values) =
    (first.least ≤ value) × (value ≤ first.most) × AreInRange rest values
