use Rattle.std.proofs.Common.{◌≡◌, ℕ, false, IfOk, map, sym, ap, subst, ◌∙◌}
use Rattle.std.specs.List.{IsDistinct, filter}
use Rattle.net_base.specs.Address.{same_address}
use Rattle.net_base.specs.declared.peer.Peer.{Peer}
use Rattle.peer_book.specs.Book.{addresses_of}
use Rattle.govern_rules.specs.Members.{valency_task}
use Rattle.govern_rules.specs.Orders.{picks_of}
use Rattle.govern_rules.specs.Search.{suits, lookups}
use Rattle.govern_rules.specs.Tasks.{order_of}
use Rattle.govern_rules.specs.declared.search.Search.{Search}
use Rattle.govern_rules.specs.declared.whom.Whom.TheVariants.{Everybody}
use Rattle.govern_rules.proofs.Apart.{IsDistinct-filter}
use Rattle.govern_rules.proofs.Members.{lookups_apart, orders-found, orders-none}
use Rattle.govern_rules.proofs.Suiting.{suits_is}
use Rattle.govern_rules.proofs.valency.group_orders.Goals as goal

pub returns-then-number-eq0 : goal.returns-then-number-eq0
returns-then-number-eq0 g c =
    c.new.ensures.items
    ∙ sym (orders-none c.args.valency c.args.view.now c.args.group.now c.args.book.now c.number_of-number.result
    (c.requires.members, c.requires.peers)
    c.number_of-number.ensures c.if-number-eq0.true)

pub ordinary_orders-requires : goal.ordinary_orders-requires
ordinary_orders-requires g c =
    let book = c.args.book.now in
    let members = c.args.group.now.members in
    let test = suits (record { big = false; task = c.task_of-task.result; whom = Everybody; view = c.args.view }) in
    let known = c.deref.ensures.value ∙ (c.in_ok-known.ensures ∙ ap (lookups book) c.as_slice.ensures) in
    subst (λ l. IsDistinct same_address (addresses_of l)) (sym (c.in_ok-cands.ensures ∙ ap (filter test) known))
    (IsDistinct-filter (λ (p : Peer). p.addr) test (lookups book members) (lookups_apart members book c.requires.members c.requires.peers))

pub returns : goal.returns
returns g c =
    let view = c.args.view.now in
    let book = c.args.book.now in
    let group = c.args.group.now in
    let valency = c.args.valency in
    let number : ℕ = c.number_of-number.result in
    let search : Search = record { big = false; task = valency_task valency; whom = Everybody; view = c.args.view } in
    let known = c.deref.ensures.value ∙ (c.in_ok-known.ensures ∙ ap (lookups book) c.as_slice.ensures) in
    let found : c.in_ok-cands.cands ≡ filter (suits search) (lookups book group.members) =
    c.in_ok-cands.ensures
    ∙ (ap (filter (suits (record search { task = c.task_of-task.result }))) known
    ∙ ap (λ t. filter (suits (record search { task = t })) (lookups book group.members)) c.task_of-task.ensures) in
    subst (λ l. IfOk c.ordinary_orders.result (λ orders. orders.items ≡ l))
    (ap (λ t. map (order_of t) (picks_of false view.word number c.in_ok-cands.cands)) c.task_of-task.ensures
    ∙ (ap (λ l. map (order_of (valency_task valency)) (picks_of false view.word number l)) found
    ∙ orders-found valency view group book number (suits search) (c.requires.members, c.requires.peers)
    c.number_of-number.ensures (suits_is search)))
    c.ordinary_orders.ensures
