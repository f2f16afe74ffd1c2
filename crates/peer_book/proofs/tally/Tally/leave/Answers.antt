use Rattle.std.proofs.Common.{ap, ◌∙◌}
use Rattle.peer_book.specs.Tallies.{tallied_by}
use Rattle.peer_book.proofs.tally.Tally.leave.Goals as goal

pub leave-requires : goal.leave-requires
leave-requires c =
    let class = ap (λ b. tallied_by b c.args.peer.now.temp c.requires.0) c.if-peer.true in
    (c.requires.0.big, ap (λ t. t.big) (c.requires.1 ∙ class))

pub leave-requires-else-peer : goal.leave-requires-else-peer
leave-requires-else-peer c =
    let class = ap (λ b. tallied_by b c.args.peer.now.temp c.requires.0) c.if-peer.false in
    (c.requires.0.ordinary, ap (λ t. t.ordinary) (c.requires.1 ∙ class))
