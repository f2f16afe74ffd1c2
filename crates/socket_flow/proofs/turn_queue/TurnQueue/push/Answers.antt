use Rattle.std.proofs.Common.{◌≡◌, false, [], ◌∷◌, ◌++◌, arith}
use Rattle.std.proofs.lemmas.Grind.{common_steps}
use Rattle.socket_flow.specs.Turns.{has_turn}
use Rattle.socket_flow.proofs.Once.{once-append, members-pushed}
use Rattle.socket_flow.proofs.turn_queue.TurnQueue.push.Goals as goal

pub invariant_of-self-else-is_err : goal.invariant_of-self-else-is_err
invariant_of-self-else-is_err c =
    let queue = c.self.inside.queue.items in
    let items : c.push_back-pushed.new.self.items ≡ queue ++ c.args.key ∷ [] = grind (arith, common_steps, c.push_back-pushed.ensures.items, c.if-is_err.ensures.negation) in
    let none : has_turn queue c.args.key ≡ false = grind (arith, common_steps, c.self.invariant.1 c.args.key, c.in_ok-insert.ensures.added) in
    rw items (once-append queue c.args.key c.self.invariant.0 none, λ k. members-pushed queue c.args.key k _ _ (c.self.invariant.1 k) (c.in_ok-insert.ensures.updates.0 k))
