use Rattle.std.proofs.Common.{◌≡◌, List, length, subst, sym, ap, arith, ◌∙◌}
use Rattle.least_tree.specs.Numbers.{IsLaid}
use Rattle.least_tree.proofs.Over.{over-anew}
use Rattle.prune_order.specs.Numbers.{number_in, numbers_in}
use Rattle.prune_order.specs.Kept.{AreRising, AreUpTo, AreOfWord, IsOver}
use Rattle.prune_order.specs.Leaves.{rows_of, those_there}
use Rattle.prune_order.specs.Order.{Order}
use Rattle.prune_order.specs.declared.leaf.Leaf.{Leaf}
use Rattle.prune_order.proofs.Rows.{rows-dropped, rise-dropped, up_to-dropped, words-dropped}
use Rattle.prune_order.proofs.order.PruneOrder.make_room.Goals as goal

-- where memory was refused
pub invariant_of-self : goal.invariant_of-self
invariant_of-self c =
    let inv = c.self.invariant in
    let same : c.try_reserve.new.self.items ≡ c.self.inside.leaves.items = c.in_err-try_reserve.ensures.items in
    record {
      rise = subst AreRising (sym same) inv.rise;
      up_to = subst (AreUpTo c.self.inside.last) (sym same) inv.up_to;
      words = subst AreOfWord (sym same) inv.words;
      fit = omega (arith, ap length same, inv.fit);
      memory = omega (arith, c.in_err-try_reserve.ensures.capacity, inv.memory);
      over = subst (λ ls. IsOver ls c.self.inside.ranks) (sym same) inv.over;
    }

pub invariant_of-self-2 : goal.invariant_of-self-2
invariant_of-self-2 c =
    let leaves : List Leaf = c.self.inside.leaves.items in
    let inv = c.self.invariant in
    let is : c.drop_gone.new.leaves.items ≡ those_there leaves = c.drop_gone.ensures.leaves ∙ ap those_there c.in_ok-try_reserve.ensures.items in
    let laid : IsLaid (numbers_in (those_there leaves)) c.in_ok-ranks.ranks =
    subst (λ ls. IsLaid (numbers_in (those_there ls)) c.in_ok-ranks.ranks) c.deref.ensures.value c.in_ok-ranks.ensures.laid in
    record {
      rise = subst AreRising (sym is) (rise-dropped leaves inv.rise);
      up_to = subst (AreUpTo c.self.inside.last) (sym is) (up_to-dropped leaves c.self.inside.last inv.up_to);
      words = subst AreOfWord (sym is) (words-dropped leaves inv.words);
      fit = omega (arith, ap length is, c.in_ok-ranks.ensures.room, ap (λ ls. length (those_there ls)) c.deref.ensures.value);
      memory = omega (arith, c.drop_gone.ensures.memory, c.in_ok-try_reserve.ensures.ok, c.saturating_sub-more.ensures, c.len-3.ensures, c.len-4.ensures, c.in_ok-try_reserve.ensures.len);
      over = subst (λ ls. IsOver ls c.in_ok-ranks.ranks) (sym is) (over-anew number_in (those_there leaves) c.in_ok-ranks.ranks laid);
    }

pub returns-clause-rows : goal.returns-clause-rows
returns-clause-rows c =
    ap rows_of (c.drop_gone.ensures.leaves ∙ ap those_there c.in_ok-try_reserve.ensures.items)
    ∙ (rows-dropped c.self.inside.leaves.items ∙ ap (λ (o : Order). o.rows) c.self.view_is)
