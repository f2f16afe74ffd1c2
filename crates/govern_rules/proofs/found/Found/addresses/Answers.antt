use Rattle.std.proofs.Common.{map, sym, ap, ◌∙◌}
use Rattle.std.proofs.lemmas.List.{take_all}
use Rattle.peer_book.specs.Book.{addresses_of}
use Rattle.govern_rules.proofs.Apart.{map-twice}
use Rattle.govern_rules.proofs.found.Found.addresses.Goals as goal

pub returns : goal.returns
returns c =
    let items = c.self.inside.peers.items in
    c.loop-peer.invariant
    ∙ (ap (map (λ p. p.now.addr)) (take_all c.loop-peer.peer-index c.deref-peer-items.result.now c.loop-peer-test.false ∙ c.deref-peer-items.ensures.value)
    ∙ (sym (map-twice (λ p. p.addr) (λ p. p.now) items) ∙ ap addresses_of c.self.view_is))
