-- The links of an address, where those that stand together are at hand.
use Rattle.std.proofs.Common.{◌≡◌, ℕ, ◌+◌, ◌<◌, ◌≤◌, true, false, List, ◌∷◌, length, drop, get_or, sym, ap, subst, ◌∙◌, arith}
use Rattle.std.specs.List.{list_any}
use Rattle.std.proofs.lemmas.List.{drop_more}
use Rattle.net_base.specs.Address.{same_address}
use Rattle.net_base.specs.declared.address.Addr.{Addr}
use Rattle.govern_rules.specs.Marks.{has_mark}
use Rattle.govern_rules.specs.SortedLinks.{AreNotBelow, IsInOrder, links_of}
use Rattle.govern_rules.specs.Walks.{IsRunFrom}
use Rattle.govern_rules.specs.declared.link.Link.{Link}
use Rattle.govern_rules.specs.declared.mark.Mark.{Mark}
use Rattle.govern_rules.proofs.ByAddress.{in_order-drop, marked_first, none_behind, unmarked_first}
use Rattle.govern_rules.proofs.Walking.{run-item, within}

-- what is said by the links from a place on is what is said by all
pub record SayAll (addr : Addr) (mark : Mark) (links : List Link) (place : ℕ) : Type 0 where
  pub above : AreNotBelow addr (drop place links)
  pub same : list_any (has_mark mark) (links_of addr (drop place links)) ≡ list_any (has_mark mark) (links_of addr links)

module _ (addr : Addr) (mark : Mark) (links run : List Link) (place i : ℕ) (d : Link) (ordered : IsInOrder links) (front : IsRunFrom place links run)
    (least : place ≤ length links) (inside : i < length run) (say : SayAll addr mark links (place + i)) where
  abbrev l : Link
  l = get_or run i d

  abbrev rest : List Link
  rest = drop (place + (i + 1)) links

  from_here : drop (place + i) links ≡ l ∷ rest
  from_here =
      let there : place + i < length links = omega (arith, within links run place front, inside, least) in
      let next : (place + i) + 1 ≡ place + (i + 1) = omega arith in
      drop_more links (place + i) d there
      ∙ (ap (λ x. x ∷ drop ((place + i) + 1) links) (sym (run-item links run place i d front inside))
      ∙ ap (λ n. l ∷ drop n links) next)

  said : list_any (has_mark mark) (links_of addr (l ∷ rest)) ≡ list_any (has_mark mark) (links_of addr links)
  said = sym (ap (λ ls. list_any (has_mark mark) (links_of addr ls)) from_here) ∙ say.same

  not_below_here : AreNotBelow addr (l ∷ rest)
  not_below_here = subst (AreNotBelow addr) from_here say.above

  pub elsewhere : same_address l.addr addr ≡ false → false ≡ list_any (has_mark mark) (links_of addr links)
  elsewhere other =
      sym (ap (list_any (has_mark mark))
      (none_behind addr l rest (subst IsInOrder from_here (in_order-drop (place + i) links ordered)) not_below_here.0 other)) ∙ said

  pub marked_here : same_address l.addr addr ≡ true → has_mark mark l ≡ true → true ≡ list_any (has_mark mark) (links_of addr links)
  marked_here same marked = sym (marked_first addr mark l rest same marked) ∙ said

  pub unmarked_here : same_address l.addr addr ≡ true → has_mark mark l ≡ false → SayAll addr mark links (place + (i + 1))
  unmarked_here same unmarked = record {
    above = not_below_here.1;
    same = sym (unmarked_first addr mark l rest same unmarked) ∙ said;
  }
