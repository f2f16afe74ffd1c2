use Rattle.std.proofs.Common.{◌≡◌, List, is_some, ap, rules, ◌∙◌}
use Rattle.net_base.specs.declared.address.Addr.{Addr}
use Rattle.net_base.specs.declared.peer.Peer.{Peer}
use Rattle.peer_book.specs.Book.{new_peer, peer_at, with_new, without_peer}
use Rattle.peer_book.proofs.OneByOne.{goes_again, is_in, new_absent}
use Rattle.peer_book.proofs.kept.Kept.+enter_each.Goals as goal

pub place_and_peer-place-requires-clause-there : goal.place_and_peer-place-requires-clause-there
place_and_peer-place-requires-clause-there t c =
    let old : List Peer = c.args.self.now.peers in
    let first : Addr = c.in-Some.first.now in
    let in_is : c.put_at.new.self.peers ≡ with_new (new_peer c.args.big first) old = c.in_ok-put_at.ensures.put ∙ ap (λ p. with_new p old) c.fresh.ensures in
    ap (λ l. is_some (peer_at first l)) (c.in-Err.ensures.unchanged ∙ in_is) ∙ is_in c.args.big first old

pub returns-in-Err-clause-unchanged : goal.returns-in-Err-clause-unchanged
returns-in-Err-clause-unchanged t c =
    let old : List Peer = c.args.self.now.peers in
    let first : Addr = c.in-Some.first.now in
    let in_is : c.put_at.new.self.peers ≡ with_new (new_peer c.args.big first) old = c.in_ok-put_at.ensures.put ∙ ap (λ p. with_new p old) c.fresh.ensures in
    c.take_out.ensures.peers
    ∙ (ap (λ a. without_peer a c.enter_each-2.new.self.peers) c.place_and_peer-place.ensures.here
    ∙ (ap (without_peer first) (c.in-Err.ensures.unchanged ∙ in_is)
    ∙ goes_again c.args.big first old (new_absent c.args.most c.args.big first old (search rules))))
