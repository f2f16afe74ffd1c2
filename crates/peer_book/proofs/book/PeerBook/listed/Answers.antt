use Rattle.std.proofs.Common.{sym, subst, ◌∙◌}
use Rattle.peer_book.specs.Order.{IsRising}
use Rattle.peer_book.proofs.Listing.{listed-rises}
use Rattle.peer_book.proofs.book.PeerBook.listed.Goals as goal

pub returns-clause-rising : goal.returns-clause-rising
returns-clause-rising c =
    let kept = c.self.invariant in
    subst (IsRising (λ a. a)) (sym (c.of.ensures ∙ (c.list.ensures ∙ kept.listed c.args.temp))) (listed-rises c.args.temp _ kept.ordered)
