use Rattle.std.proofs.Common.{◌≡◌, ◌%◌, ◌^◌, List, option_map, sym, ap, ◌∙◌}
use Rattle.timer_queue.specs.Kept.{all_timers}
use Rattle.timer_queue.specs.Rows.{row_at}
use Rattle.timer_queue.specs.Timers.{least}
use Rattle.timer_queue.specs.declared.rows.Row.{Row}
use Rattle.timer_queue.proofs.Leasts.{first_of, least-found}
use Rattle.timer_queue.proofs.TimersOf.{least-in_order}
use Rattle.timer_queue.proofs.kept.Kept.first.Goals.{After-row_in}
use Rattle.timer_queue.proofs.kept.Kept.first.Goals as goal

-- the row that was found has the first of all
found : (c : After-row_in) → first_of (option_map (λ r. r.now) c.row_in.result) ≡ least (all_timers c.args.self.now.rows.items)
found c =
    let rows : List Row = c.args.self.now.rows.items in
    ap first_of (c.row_in.ensures ∙ (ap (λ rs. row_at (record { 0 = c.second.result }) rs) c.deref.ensures.value
    ∙ ap (λ n. row_at (record { 0 = n }) rows) (c.second.ensures ∙ ap (λ n. n % 2 ^ 64) c.least.ensures)))
    ∙ least-found rows c.args.self.now.keys c.requires.rise c.requires.words c.requires.keys

pub returns-in_err-row : goal.returns-in_err-row
returns-in_err-row c =
    let d = (goal.at.returns-in_err-row c).After-row_in in
    let rows : List Row = c.args.self.now.rows.items in
    c.from_residual.ensures
    ∙ (sym (ap (λ o. first_of (option_map (λ r. r.now) o)) c.in_err-row.was) ∙ (found d ∙ sym (least-in_order (all_timers rows))))

pub returns : goal.returns
returns c =
    let d = (goal.at.returns c).After-row_in in
    let rows : List Row = c.args.self.now.rows.items in
    c.first.ensures
    ∙ (sym (ap (λ o. first_of (option_map (λ r. r.now) o)) c.in_ok-row.was) ∙ (found d ∙ sym (least-in_order (all_timers rows))))
