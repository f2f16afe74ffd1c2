use Rattle.std.proofs.Common.{◌≡◌, ◌∷◌, ◌+◌, List, drop, subst}
use Rattle.govern_rules.specs.SortedLinks.{IsInOrder}
use Rattle.govern_rules.specs.declared.link.Link.{Link}
use Rattle.govern_rules.proofs.ByAddress.{first_at, in_order-drop, not_below-behind}
use Rattle.govern_rules.proofs.marked.counts.Goals as goal

pub some_behind-requires-clause-above : goal.some_behind-requires-clause-above
some_behind-requires-clause-above c =
    let links : List Link = c.args.links.now in
    let place = c.args.place in
    let l : Link = c.args.link.now in
    let front : drop place links ≡ l ∷ drop (place + 1) links = first_at links place l c.requires.there c.requires.link in
    not_below-behind l (drop (place + 1) links) (subst IsInOrder front (in_order-drop place links c.requires.ordered))
