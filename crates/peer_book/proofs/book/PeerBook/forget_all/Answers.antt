use Rattle.std.proofs.Common.{ap, ◌∙◌}
use Rattle.peer_book.specs.Book.{without_all}
use Rattle.peer_book.specs.Leaving.{others_than}
use Rattle.peer_book.proofs.Gathered.{others_than-same}
use Rattle.peer_book.proofs.book.PeerBook.forget_all.Goals as goal

pub returns-clause-gone : goal.returns-clause-gone
returns-clause-gone c =
    c.in_ok-take_all_out.ensures.left
    ∙ (ap (λ gone. others_than gone c.self.inside.kept.peers) c.deref.ensures.value
    ∙ (others_than-same c.args.addrs.now c.in_ok-addrs.addrs.items c.self.inside.kept.peers c.in_ok-addrs.ensures.same
    ∙ ap (without_all c.args.addrs.now) c.self.view_is))
