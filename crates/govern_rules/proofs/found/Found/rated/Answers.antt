use Rattle.std.proofs.Common.{map, sym, ap, ◌∙◌}
use Rattle.std.proofs.lemmas.List.{take_all}
use Rattle.govern_rules.specs.Orders.{rated_of}
use Rattle.govern_rules.proofs.Apart.{map-twice}
use Rattle.govern_rules.proofs.found.Found.rated.Goals as goal

pub returns : goal.returns
returns c =
    let items = c.self.inside.peers.items in
    c.loop-peer.invariant
    ∙ (ap (map (λ p. rated_of p.now)) (take_all c.loop-peer.peer-index c.deref-peer-items.result.now c.loop-peer-test.false ∙ c.deref-peer-items.ensures.value)
    ∙ (sym (map-twice rated_of (λ p. p.now) items) ∙ ap (map rated_of) c.self.view_is))
