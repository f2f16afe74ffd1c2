use Rattle.std.proofs.Common.{◌≡◌, ℕ, ◌<◌, true, false, nat_lt, nat_le, is_some, length, slice_get, refl, sym, ap, ◌∙◌, arith}
use Rattle.std.proofs.lemmas.Bool.Decides.{nat_tests}
use Rattle.peer_book.specs.Book.{known_of, most_peers, peer_at}
use Rattle.peer_book.specs.Order.{found_at}
use Rattle.peer_book.proofs.Places.{find-place}
use Rattle.peer_book.proofs.kept.Kept.entry.Goals.{After-is_some}
use Rattle.peer_book.proofs.kept.Kept.entry.Goals as goal

fewer : (a b : ℕ) → a < b → nat_lt a b ≡ true
fewer a b h = grind (arith, nat_tests, h)

-- not as many of the class are known
below : (c : After-is_some) → nat_lt (known_of c.args.big c.args.self.now.peers) c.args.most ≡ true
below c = fewer (known_of c.args.big c.args.self.now.peers) c.args.most (omega (arith, c.known.ensures, c.if-known-most.false))

there : (c : After-is_some) → c.is_some.result ≡ is_some (peer_at c.args.addr.now c.args.self.now.peers)
there c =
    c.is_some.ensures
    ∙ ap is_some (c.peer_there.ensures
    ∙ (ap (λ n. found_at (λ p. p.addr) c.args.addr.now (slice_get c.args.self.now.peers n)) c.requires.place
    ∙ sym (find-place (λ p. p.addr) c.args.addr.now c.args.self.now.peers c.requires.kept.ordered)))

pub returns-then-is_some : goal.returns-then-is_some
returns-then-is_some c = rw (below c.before, sym (there c.before) ∙ c.if-is_some.true) refl

pub returns-then-len-ge-MOST_PEERS : goal.returns-then-len-ge-MOST_PEERS
returns-then-len-ge-MOST_PEERS c =
    let full : nat_le most_peers (length c.args.self.now.peers) ≡ true = grind (arith, nat_tests, c.len.ensures, c.if-len-ge-MOST_PEERS.true) in
    rw (below (goal.at.returns-then-len-ge-MOST_PEERS c).After-is_some, sym (there (goal.at.returns-then-len-ge-MOST_PEERS c).After-is_some) ∙ c.if-is_some.false, full) refl

pub returns : goal.returns
returns c =
    let room : nat_le most_peers (length c.args.self.now.peers) ≡ false = grind (arith, nat_tests, c.len.ensures, c.if-len-ge-MOST_PEERS.false) in
    rw (below (goal.at.returns c).After-is_some, sym (there (goal.at.returns c).After-is_some) ∙ c.if-is_some.false, room) refl
