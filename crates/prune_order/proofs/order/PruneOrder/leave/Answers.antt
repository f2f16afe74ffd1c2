use Rattle.std.proofs.Common.{◌≡◌, ◌-◌, length, subst, sym, ap, arith, ◌∙◌}
use Rattle.prune_order.specs.Leaves.{rows_of, with_leaf}
use Rattle.prune_order.specs.Kept.{AreRising, AreUpTo}
use Rattle.prune_order.specs.Order.{Order, stands, without}
use Rattle.prune_order.specs.declared.leaf.Leaf.{Leaf}
use Rattle.prune_order.specs.declared.leaf.Standing.TheVariants.{Gone}
use Rattle.prune_order.proofs.Rows.{stands-leaves, rise-with_leaf, up_to-with_leaf, rows-gone, length-with_leaf}
use Rattle.prune_order.proofs.order.PruneOrder.leave.Goals.{After-put}
use Rattle.prune_order.proofs.order.PruneOrder.leave.Goals as goal

pub put-requires-clause-there : goal.put-requires-clause-there
put-requires-clause-there c =
    stands-leaves c.args.cid c.self.inside.leaves.items (ap (λ (o : Order). stands c.args.cid o.rows) c.self.view_is ∙ c.requires)

abbrev new : After-put → Leaf
new c = record { cid = c.args.cid; standing = Gone }

items : (c : After-put) → c.put.new.leaves.items ≡ with_leaf (new c) c.self.inside.leaves.items
items c = c.put.ensures.leaves

pub invariant_of-self : goal.invariant_of-self
invariant_of-self c =
    let leaves = c.self.inside.leaves.items in
    let inv = c.self.invariant in
    let last = c.self.inside.last in
    let is = items c in
    let long = length-with_leaf (new c) leaves in
    record {
      rise = subst AreRising (sym is) (rise-with_leaf (new c) leaves inv.rise);
      up_to = subst (AreUpTo last) (sym is) (up_to-with_leaf (new c) leaves last inv.up_to);
      fit = omega (arith, ap length is, long, c.put.ensures.length, inv.fit);
      memory = omega (arith, c.put.ensures.memory, c.put.ensures.length, inv.memory);
      words = c.put.ensures.words inv.words;
      over = c.put.ensures.ranks;
    }

pub returns : goal.returns
returns c =
    let leaves = c.self.inside.leaves.items in
    let ranks = c.self.inside.ranks in
    let is = items c in
    let rows = ap rows_of is ∙ (rows-gone c.args.cid leaves ∙ ap (λ (o : Order). without c.args.cid o.rows) c.self.view_is) in
    let fewer : length c.put.new.ranks - length c.put.new.leaves.items ≡ length ranks - length leaves =
    omega (arith, ap length is, length-with_leaf (new c) leaves, c.put.ensures.length) in
    let room = fewer ∙ ap (λ (o : Order). o.room) c.self.view_is in
    let last = ap (λ (o : Order). o.last) c.self.view_is in
    λ i. record { rows = rows i; room = room i; last = last i }
