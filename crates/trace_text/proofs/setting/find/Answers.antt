use Rattle.std.proofs.Common.{◌≡◌, ℕ, ◌+◌, ◌<◌, true, false, cond, List, [], length, get_or, map, drop, Some, sym, ap, ◌∙◌, arith}
use Rattle.std.specs.Str.{bytes_eq}
use Rattle.std.proofs.lemmas.Bool.{cond-true, cond-false}
use Rattle.std.proofs.lemmas.List.{at_drop_more}
use Rattle.trace_text.specs.declared.setting.Row.{Row}
use Rattle.trace_text.specs.Settings.{setting_from}
use Rattle.trace_text.specs.Views.{row_view}
use Rattle.trace_text.proofs.setting.find.Goals as goal

-- what a read past the end would give
abbrev no_row : Row
no_row = record { name = record { ref_ptr = (0, 0); now = [] }; least = 0; most = 0 }

module _ (place : ℕ) (name : List ℕ) (rows : List Row) (i : ℕ) (h : i < length rows) where
  step : setting_from place name (map row_view (drop i rows))
      ≡ cond (bytes_eq (get_or rows i no_row).name.now name) (Some (place, row_view (get_or rows i no_row))) (setting_from (place + 1) name (map row_view (drop (i + 1) rows)))
  step = at_drop_more (λ rest. setting_from place name (map row_view rest)) rows i no_row h

  found : bytes_eq (get_or rows i no_row).name.now name ≡ true
      → setting_from place name (map row_view (drop i rows)) ≡ Some (place, row_view (get_or rows i no_row))
  found same = step ∙ cond-true _ _ _ same

  passed : bytes_eq (get_or rows i no_row).name.now name ≡ false
      → setting_from place name (map row_view (drop i rows)) ≡ setting_from (place + 1) name (map row_view (drop (i + 1) rows))
  passed other = step ∙ cond-false _ _ _ other

pub returns-then-eq : goal.returns-then-eq
returns-then-eq c =
    let name = c.args.name.now in
    let same : bytes_eq (get_or c.args.rows.now c.loop-row.row-index no_row).name.now name ≡ true =
    ap (λ text. bytes_eq text name) (sym c.as_bytes.ensures.value) ∙ sym c.if-eq.ensures in
    sym (found c.loop-row.place name c.args.rows.now c.loop-row.row-index c.loop-row-test.true same) ∙ c.loop-row.invariant.1

pub loop-row-preserved : goal.loop-row-preserved
loop-row-preserved c =
    let name = c.args.name.now in
    let other : bytes_eq (get_or c.args.rows.now c.loop-row.row-index no_row).name.now name ≡ false =
    ap (λ text. bytes_eq text name) (sym c.as_bytes.ensures.value) ∙ sym c.if-eq.ensures in
    (omega arith, sym (passed c.loop-row.place name c.args.rows.now c.loop-row.row-index c.loop-row-test.true other) ∙ c.loop-row.invariant.1)
