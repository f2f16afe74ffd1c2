use Rattle.std.proofs.Common.{◌≡◌, ℕ, is_lt, nat_cmp, nat_lt, ap, sym, ◌∙◌, rules}
use Rattle.std.specs.Option.{option_copied}
use Rattle.timer_queue.proofs.RowEdits.{all_under}
use Rattle.timer_queue.proofs.rows.find.is_behind.Goals as goal

lower_is : (a b : ℕ) → is_lt (nat_cmp a b) ≡ nat_lt a b
lower_is a b = search rules

pub returns-in-Some : goal.returns-in-Some
returns-in-Some c lower =
    all_under c.args.cid c.in-Some.last.now c.args.rows.now c.requires (sym c.last.ensures.value ∙ ap option_copied c.in-Some.is)
    (sym (lower_is c.in-Some.last.now.cid.0 c.args.cid.0) ∙ (sym c.lt.ensures ∙ lower))
