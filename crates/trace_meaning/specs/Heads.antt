-- What the lines of a head that were read have said.
use Rattle.std.specs.Prelude.{◌≡◌, ℕ, ◌-◌, ◌<◌, ◌≤◌, List, [], get_or, Some, None}
use Rattle.trace_text.specs.Settings.{Setting, setting, settings_under}
use Rattle.trace_text.specs.declared.line.HeadLine.{HeadLine}
use Rattle.trace_text.specs.declared.stage.Stage.{Stage}
use Rattle.trace_meaning.specs.Settings.{version_in, set_in, set_or}

-- the range of the setting at a place
unfoldable pub setting_at : ℕ → ℕ → Setting
setting_at hard place = get_or (settings_under hard) (place - 1) (setting [] 0 0)

pub record IsInRange (hard place value : ℕ) : Type 0 where
  pub placed : 1 ≤ place
  pub known : place ≤ 13
  pub least : (setting_at hard place).least ≤ value
  pub most : value ≤ (setting_at hard place).most

-- what head lines that were read say, and what the stage behind them keeps of it
pub record AreHeads (stage : Stage) (heads : List HeadLine) : Type 0 where
  pub seen : stage.seen ≤ 2
  pub none_before : stage.seen ≡ 0 → heads ≡ []
  pub version_least : 1 ≤ version_in heads
  pub version_most : version_in heads ≤ 2
  pub hard : stage.hard ≡ set_or 4 512 heads
  pub none_later : (place : ℕ) → stage.last < place → set_in place heads ≡ None
  pub in_range : (place value : ℕ) → set_in place heads ≡ Some value → IsInRange stage.hard place value
