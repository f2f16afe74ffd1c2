use Rattle.std.proofs.Common.{◌≡◌, ◌<◌, false, IfOk, sym, subst, ◌∙◌, arith}
use Rattle.govern_rules.specs.Tasks.{order_of, number_of, is_candidate}
use Rattle.govern_rules.specs.Whom.{is_meant}
use Rattle.govern_rules.specs.declared.search.Search.{Search}
use Rattle.govern_rules.proofs.Nobody.{nobody-ordered}
use Rattle.govern_rules.proofs.Picking.{no-orders}
use Rattle.govern_rules.proofs.Tasks.{orders-picked}
use Rattle.govern_rules.proofs.task_orders.ordinary_task.Goals as goal

pub returns-then-has_nobody : goal.returns-then-has_nobody
returns-then-has_nobody g c =
    let view = c.args.view.now in
    c.new.ensures.items
    ∙ sym (nobody-ordered c.args.task false (is_meant c.args.whom.now) view c.args.book.now
    (c.has_nobody.ensures c.if-has_nobody.true view.moment view.links))

pub returns-then-number-eq0 : goal.returns-then-number-eq0
returns-then-number-eq0 g c =
    let view = c.args.view.now in
    let book = c.args.book.now in
    let task = c.args.task in
    c.new-then-number-eq0.ensures.items
    ∙ sym (no-orders false view.word (order_of task) (number_of task false view book)
    (is_candidate task (is_meant c.args.whom.now) view.moment view.links) book
    (sym c.in_ok-number.ensures.number ∙ c.if-number-eq0.true))

pub returns : goal.returns
returns g c =
    let search : Search = record { big = false; task = c.args.task; whom = c.args.whom.now; view = c.args.view } in
    let number = c.in_ok-number.field-0.number in
    let some : 0 < number = omega (arith, c.if-number-eq0.false) in
    subst (λ l. IfOk c.ordinary_orders.result (λ orders. orders.items ≡ l))
    (orders-picked search c.args.book.now c.in_ok-number.field-0.cands number c.in_ok-number.ensures.number
    (c.in_ok-number.ensures.cands some) (c.in_ok-number.ensures.apart some))
    c.ordinary_orders.ensures
