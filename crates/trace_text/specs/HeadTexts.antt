-- How a trace's head is printed: the first two lines, and each setting in its order.
use Rattle.std.specs.Prelude.{ℕ, ◌+◌, ◌≡◌, List, [], ◌∷◌, ◌++◌, codes, decimal, Ok}
use Rattle.std.specs.List.{join_with_byte, flat_map}
use Rattle.net_base.specs.declared.address.Addr.{Addr}
use Rattle.net_base.specs.declared.settings.Settings.{Settings}
use Rattle.trace_text.specs.declared.head_text.SetText.{SetText}
use Rattle.trace_text.specs.declared.line.HeadLine.{HeadLine}
use Rattle.trace_text.specs.declared.line.HeadLine.TheVariants.{Trace, Own, Set}
use Rattle.trace_text.specs.declared.line.Line.TheVariants.{Head}
use Rattle.trace_text.specs.declared.stage.Stage.{Stage}
use Rattle.trace_text.specs.Addresses.{printed_address}
use Rattle.trace_text.specs.Lines.{line_of}
use Rattle.trace_text.specs.Settings.{Setting, settings_under, setting_values}
use Rattle.trace_text.specs.Stages.{stage_after}

abbrev pub printed_setting : List ℕ → ℕ → List ℕ
printed_setting name value = join_with_byte 32 (codes "set" ∷ name ∷ decimal value ∷ [])

-- the settings' lines, each with its value
abbrev pub printed_settings : List Setting → List ℕ → List (List ℕ)
printed_settings [] values = []
printed_settings (first ∷ rest) [] = []
printed_settings (first ∷ rest) (value ∷ values) = printed_setting first.name value ∷ printed_settings rest values

abbrev pub first_lines : ℕ → Addr → List (List ℕ)
first_lines version own =
    join_with_byte 32 (codes "trace" ∷ decimal version ∷ [])
    ∷ join_with_byte 32 (codes "own" ∷ printed_address own ∷ []) ∷ []

-- the head's lines, without their line feeds
abbrev pub head_lines : Settings → List (List ℕ)
head_lines s = first_lines s.version s.own ++ printed_settings (settings_under s.hard) (setting_values s)

abbrev pub ended : List ℕ → List ℕ
ended line = line ++ 10 ∷ []

-- each line with its line feed
abbrev pub printed_head : Settings → List ℕ
printed_head s = flat_map ended (head_lines s)

-- a setting's line as the printer holds it
abbrev pub set_text_line : SetText → List ℕ
set_text_line text = printed_setting text.name.now text.value

-- ---- what the lines say

abbrev pub settings_said : ℕ → List ℕ → List HeadLine
settings_said place [] = []
settings_said place (value ∷ values) = Set place value ∷ settings_said (place + 1) values

abbrev pub head_said : Settings → List HeadLine
head_said s = Trace s.version ∷ Own s.own ∷ settings_said 1 (setting_values s)

-- each line, read at the stage that the lines before it leave, says this
abbrev pub AreRead : Stage → List (List ℕ) → List HeadLine → Type 0
AreRead stage [] [] = Unit {0}
AreRead stage [] (head ∷ heads) = ⊥
AreRead stage (line ∷ lines) [] = ⊥
AreRead stage (line ∷ lines) (head ∷ heads) =
    (line_of stage line ≡ Ok (Head head)) × AreRead (stage_after stage (Head head)) lines heads
