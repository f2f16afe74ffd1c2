use Rattle.std.proofs.Common.{◌≡◌, ◌++◌, length, get_or, sym, ap, subst, ◌∙◌, arith, rules}
use Rattle.std.specs.List.{IsDistinct}
use Rattle.std.proofs.lemmas.List.{append-nil}
use Rattle.net_base.specs.Address.{same_address}
use Rattle.net_base.specs.declared.event.Group.{Group}
use Rattle.peer_book.specs.Book.{listed_at}
use Rattle.govern_rules.specs.Members.{valency_temp}
use Rattle.govern_rules.proofs.Apart.{distinct_book, distinct_members, nothing}
use Rattle.govern_rules.proofs.Members.{nobody-in-groups}
use Rattle.govern_rules.proofs.valency.groups_orders.Goals as goal

pub returns-then-is_empty : goal.returns-then-is_empty
returns-then-is_empty g c =
    let book = c.args.book.now in
    let none : length book ≡ 0 = search rules in
    let nobody = ap (listed_at (valency_temp c.args.valency)) (nothing book none) in
    sym (ap (λ l. c.args.orders.items ++ l) (nobody-in-groups c.args.valency c.args.view.now book c.args.groups.now nobody)
    ∙ append-nil c.args.orders.items)

pub returns-then-is_empty-2 : goal.returns-then-is_empty-2
returns-then-is_empty-2 g c =
    let book = c.args.book.now in
    let nobody = sym (ap (λ t. listed_at t book) c.temp_of.ensures) ∙ (sym c.listed.ensures.value ∙ c.is_empty-2.ensures.0 c.if-is_empty-2.true) in
    sym (ap (λ l. c.args.orders.items ++ l) (nobody-in-groups c.args.valency c.args.view.now book c.args.groups.now nobody)
    ∙ append-nil c.args.orders.items)

pub group_orders-requires : goal.group_orders-requires
group_orders-requires g c =
    let group : Group = c.group-item.result in
    let i = c.loop-group.group-index in
    let all = c.as_slice-group-items.ensures ∙ c.list.ensures.value in
    let there : group ≡ get_or c.args.groups.now i group = c.group-item.is ∙ ap (λ l. get_or l i group) all in
    record {
      members = subst (λ (x : Group). IsDistinct same_address x.members) (sym there)
          (distinct_members c.args.groups.now i group (omega (arith, ap length all)) c.list.ensures.distinct);
      peers = distinct_book c.args.book.now c.is_empty.ensures.ordered;
    }
