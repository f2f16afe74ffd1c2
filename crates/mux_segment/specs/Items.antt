-- The whole items at the front of what came in on one protocol.
use Rattle.std.specs.Prelude.{◌≡◌, ℕ, zero, suc, ◌≤◌, ◌<◌, nat_lt, nat_le, List, [], ◌∷◌, ◌++◌, length, take, drop, All, Option, Some, None, ◌⊎◌, if◌then◌else◌}
use Rattle.std.specs.List.{concat}
use Rattle.cbor_items.specs.declared.scan.Scan.{Scan}
use Rattle.cbor_items.specs.declared.scan.Scan.TheVariants as scan
use Rattle.cbor_items.specs.Scan.{scan_of}
use Rattle.cbor_items.specs.Item.{IsItem, level_limit}
use Rattle.cbor_items.specs.Answer.{IsBegun, IsBad, IsTooDeep}
use Rattle.mux_segment.specs.declared.fault.CutFault.{CutFault}
use Rattle.mux_segment.specs.declared.fault.CutFault.TheVariants.{Bad, Deep, TooLong, UnknownId}

-- the items that are whole, what is left, and why no more can be taken
pub record Taken : Type 0 where
  pub bodies : List (List ℕ)
  pub left : List ℕ
  pub fault : Option CutFault

-- after a fault nothing is kept
abbrev pub no_more : CutFault → Taken
no_more fault = record { bodies = []; left = []; fault = Some fault }

-- by what the scan of the part says
abbrev pub taken_at : Scan → ℕ → List ℕ → (List ℕ → Taken) → Taken
taken_at (scan.Whole n) limit part others =
    if nat_lt limit n then no_more TooLong
    else (let t = others (drop n part) in record { bodies = take n part ∷ t.bodies; left = t.left; fault = t.fault })
taken_at scan.More limit part others =
    if nat_le limit (length part) then no_more TooLong else record { bodies = []; left = part; fault = None }
taken_at scan.Bad limit part others = no_more Bad
taken_at scan.Deep limit part others = no_more Deep

-- at most so many items
unfoldable pub taken_within : ℕ → ℕ → List ℕ → Taken
taken_within limit zero part = record { bodies = []; left = part; fault = None }
taken_within limit (suc n) part = taken_at (scan_of part) limit part (taken_within limit n)

-- each item takes a byte at least
unfoldable pub taken_of : ℕ → List ℕ → Taken
taken_of limit part = taken_within limit (suc (length part)) part

-- ---- what that means, by the grammar of items

-- the part begins with an item above the limit, or begins an item of which so much is there already
abbrev pub IsTooLong : ℕ → List ℕ → Type 0
IsTooLong limit part =
    ((n : ℕ) × (n ≤ length part) × (limit < n) × IsItem level_limit (take n part))
    ⊎ (IsBegun level_limit part × (limit ≤ length part))

-- what stands behind the items that are whole
abbrev pub IsLeft : ℕ → Option CutFault → List ℕ → Type 0
IsLeft limit None left = IsBegun level_limit left × (length left < limit)
IsLeft limit (Some Bad) left = IsBad left
IsLeft limit (Some Deep) left = IsTooDeep left
IsLeft limit (Some TooLong) left = IsTooLong limit left
IsLeft limit (Some UnknownId) left = ⊥

-- the part is these items, none above the limit, and then what tells the fault, if any
pub record AreItems (limit : ℕ) (part : List ℕ) (bodies : List (List ℕ)) (behind : List ℕ) (fault : Option CutFault) : Type 0 where
  pub joined : part ≡ concat bodies ++ behind
  pub each : All (λ body. IsItem level_limit body × (length body ≤ limit)) bodies
  pub left : IsLeft limit fault behind
