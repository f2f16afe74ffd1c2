use Rattle.std.proofs.Common.{◌≡◌, ◌∷◌, ◌+◌, List, Bool, true, false, drop, sym, ap, subst, ◌∙◌, arith, rules}
use Rattle.std.specs.List.{list_any}
use Rattle.std.proofs.lemmas.List.{drop_all}
use Rattle.net_base.specs.Address.{same_address}
use Rattle.govern_rules.specs.Marks.{has_mark}
use Rattle.govern_rules.specs.SortedLinks.{AreNotBelow, IsInOrder, links_of}
use Rattle.govern_rules.specs.declared.link.Link.{Link}
use Rattle.govern_rules.proofs.ByAddress.{first_at, in_order-drop, none_behind, marked_first, unmarked_first}
use Rattle.govern_rules.proofs.links.some_from.Goals as goal

pub returns-then-not-is_same : goal.returns-then-not-is_same
returns-then-not-is_same c =
    let links : List Link = c.args.links.now in
    let place = c.loop-place.place in
    let l : Link = c.at-link.result.now in
    let said : List Link → Bool = λ ls. list_any (has_mark c.args.mark) (links_of c.args.addr.now ls) in
    let front : drop place links ≡ l ∷ drop (place + 1) links = first_at links place l (omega arith) c.at-link.ensures in
    let other : same_address l.addr c.args.addr.now ≡ false = search rules in
    sym (sym c.loop-place.invariant.same ∙ (ap said front
    ∙ ap (list_any (has_mark c.args.mark))
    (none_behind c.args.addr.now l (drop (place + 1) links) (subst IsInOrder front (in_order-drop place links c.requires.ordered))
    (subst (AreNotBelow c.args.addr.now) front c.loop-place.invariant.above).0 other)))

pub returns-then-has_mark : goal.returns-then-has_mark
returns-then-has_mark c =
    let links : List Link = c.args.links.now in
    let place = c.loop-place.place in
    let l : Link = c.at-link.result.now in
    let said : List Link → Bool = λ ls. list_any (has_mark c.args.mark) (links_of c.args.addr.now ls) in
    let front : drop place links ≡ l ∷ drop (place + 1) links = first_at links place l (omega arith) c.at-link.ensures in
    let same : same_address l.addr c.args.addr.now ≡ true = search rules in
    let marked : has_mark c.args.mark l ≡ true = search rules in
    sym (sym c.loop-place.invariant.same ∙ (ap said front ∙ marked_first c.args.addr.now c.args.mark l (drop (place + 1) links) same marked))

pub loop-place-preserved : goal.loop-place-preserved
loop-place-preserved c =
    let links : List Link = c.args.links.now in
    let place = c.loop-place.place in
    let l : Link = c.at-link.result.now in
    let said : List Link → Bool = λ ls. list_any (has_mark c.args.mark) (links_of c.args.addr.now ls) in
    let front : drop place links ≡ l ∷ drop (place + 1) links = first_at links place l (omega arith) c.at-link.ensures in
    let same : same_address l.addr c.args.addr.now ≡ true = search rules in
    let unmarked : has_mark c.args.mark l ≡ false = search rules in
    record {
      above = (subst (AreNotBelow c.args.addr.now) front c.loop-place.invariant.above).1;
      same = sym (ap said front ∙ unmarked_first c.args.addr.now c.args.mark l (drop (place + 1) links) same unmarked) ∙ c.loop-place.invariant.same;
    }

pub returns : goal.returns
returns c =
    let said : List Link → Bool = λ ls. list_any (has_mark c.args.mark) (links_of c.args.addr.now ls) in
    sym (sym c.loop-place.invariant.same ∙ ap said (drop_all c.loop-place.place c.args.links.now (omega arith)))
