use Rattle.std.proofs.Common.{◌≡◌, rules}
use Rattle.std.proofs.lemmas.List.Sorted.{answers_always}
use Rattle.govern_rules.specs.declared.link.Link.{Link}
use Rattle.govern_rules.proofs.ByAddress.{in_order_from_sort}
use Rattle.govern_rules.proofs.link_rows.ordered.Goals as goal

pub returns-clause-ordered : goal.returns-clause-ordered
returns-clause-ordered c =
    in_order_from_sort _ (c.in_ok-sort_by_key.ensures.sorted (λ (l : Link). (l.addr, l.cid))
    (answers_always _ (λ a r. r ≡ (a.0.now.addr, a.0.now.cid)) _ (λ f a r f' k. search rules)))
