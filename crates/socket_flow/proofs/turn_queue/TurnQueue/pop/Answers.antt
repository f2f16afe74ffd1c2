use Rattle.std.proofs.Common.{◌≡◌, ◌∷◌, subst}
use Rattle.std.specs.HashSet.{contains}
use Rattle.std.proofs.Common.{nat_eq}
use Rattle.socket_flow.specs.Turns.{has_turn, IsOnce}
use Rattle.socket_flow.proofs.Once.{members-popped}
use Rattle.socket_flow.proofs.turn_queue.TurnQueue.pop.Goals as goal

pub invariant_of-self-2 : goal.invariant_of-self-2
invariant_of-self-2 c =
    let rest = c.pop_front.new.self.items in
    let once : IsOnce (c.in_ok-key.key ∷ rest) = subst IsOnce c.in_ok-key.ensures.items c.self.invariant.0 in (
      once.1,
      λ k. members-popped rest c.in_ok-key.key k _ _ once.0
          (subst (λ queue. contains nat_eq c.self.inside.members k ≡ has_turn queue k) c.in_ok-key.ensures.items (c.self.invariant.1 k))
          (c.remove.ensures.updates.0 k),
    )
