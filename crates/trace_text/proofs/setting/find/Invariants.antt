use Rattle.std.proofs.Common.{◌≡◌, ◌+◌, map, drop}
use Rattle.trace_text.specs.Settings.{setting_from}
use Rattle.trace_text.specs.Views.{row_view}
use Rattle.trace_text.proofs.setting.find.Given as goal

abbrev pub invariant-loop-row : goal.invariant-loop-row
invariant-loop-row l =
    (l.place ≡ l.row-index + 1)
    × (setting_from l.place l.name (map row_view (drop l.row-index l.rows)) ≡ setting_from 1 l.name (map row_view l.rows))
