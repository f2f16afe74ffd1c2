use Rattle.std.proofs.Common.{◌-◌, Bool, ◌&&◌, List, ap, ◌∙◌}
use Rattle.net_base.specs.declared.address.Addr.{Addr}
use Rattle.peer_book.specs.Book.{is_of}
use Rattle.govern_rules.specs.Links.{some_link}
use Rattle.govern_rules.specs.Marks.{has_mark}
use Rattle.govern_rules.specs.declared.link.Link.{Link}
use Rattle.govern_rules.proofs.Apart.{distinct_book}
use Rattle.govern_rules.proofs.Counting.{count-same}
use Rattle.govern_rules.proofs.marked.without_marked.Goals as goal

pub count_marked-requires : goal.count_marked-requires
count_marked-requires c = record {
  ordered = c.marked.ensures.ordered;
  distinct = distinct_book c.args.book.now c.is_empty-nobody.ensures.ordered;
}

pub returns : goal.returns
returns c =
    let said : List Link → Addr → Bool = some_link (has_mark c.args.mark) in
    c.saturating_sub.ensures
    ∙ ap (λ n. c.args.number - n)
    (c.count_marked.ensures
    ∙ count-same (λ p. is_of c.args.big p && said c.marked.result.now p.addr) (λ p. is_of c.args.big p && said c.args.view.now.links p.addr)
    (λ p. ap (λ b. is_of c.args.big p && b) (c.marked.ensures.same p.addr)) c.args.book.now)
