use Rattle.std.proofs.Common.{◌≡◌, ◌-◌, ◌<◌, ◌++◌, ◌∷◌, [], cond, length, set, subst, sym, ap, arith, ◌∙◌}
use Rattle.std.proofs.lemmas.List.{length-set}
use Rattle.least_tree.proofs.Over.{over-push}
use Rattle.prune_order.specs.Numbers.{number_in}
use Rattle.prune_order.specs.Kept.{AreRising, AreUpTo, AreOfWord, IsOfWord, IsOver}
use Rattle.prune_order.specs.Leaves.{rows_of, standing_by}
use Rattle.prune_order.specs.Order.{Order}
use Rattle.prune_order.specs.declared.leaf.Leaf.{Leaf}
use Rattle.prune_order.specs.declared.ranked.Ranked.{Ranked}
use Rattle.prune_order.proofs.Rows.{rows-push, rise-push, up_to-push, words-push, pushed}
use Rattle.prune_order.proofs.order.PruneOrder.come.Goals.{After-push}
use Rattle.prune_order.proofs.order.PruneOrder.come.Goals as goal

roomy : (c : After-push) → length c.self.inside.leaves.items < length c.self.inside.ranks
roomy c = omega (arith, ap (λ (o : Order). o.room) c.self.view_is, c.requires.room)

abbrev new : After-push → Leaf
new c = record { cid = c.args.cid; standing = standing_by c.args.rank }

items : (c : After-push) → c.push.new.self.items ≡ c.self.inside.leaves.items ++ new c ∷ []
items c =
    let leaves = c.self.inside.leaves.items in
    let went = c.push.ensures.succeeds (omega (arith, roomy c, c.self.invariant.memory, c.self.inside.leaves.ok)) in
    c.push.ensures.items
    ∙ (ap (λ b. cond b (leaves ++ record { cid = c.args.cid; standing = c.standing_by.result } ∷ []) leaves) went
    ∙ ap (λ s. leaves ++ record { cid = c.args.cid; standing = s } ∷ []) c.standing_by.ensures)

place_is : (c : After-push) → c.len-place.result ≡ length c.self.inside.leaves.items
place_is c = omega (arith, c.len-place.ensures, c.self.inside.leaves.ok)

pub put-requires : goal.put-requires
put-requires c = omega (arith, c.len-place.ensures, c.self.inside.leaves.ok, ap (λ (o : Order). o.room) c.self.view_is, c.requires.room)

key_is : (c : After-push) → c.number_in.result ≡ number_in (new c)
key_is c = c.number_in.ensures.value ∙ ap (λ s. number_in (record { cid = c.args.cid; standing = s })) c.standing_by.ensures

keys_are : (c : After-push) → c.put.new.self ≡ set c.self.inside.ranks c.len-place.result (number_in (new c))
keys_are c = c.put.ensures ∙ ap (set c.self.inside.ranks c.len-place.result) (key_is c)

longer : (c : After-push) → length c.put.new.self ≡ length c.self.inside.ranks
longer c = ap length c.put.ensures ∙ length-set c.self.inside.ranks c.len-place.result c.number_in.result

pub invariant_of-self : goal.invariant_of-self
invariant_of-self c =
    let d = (goal.at.invariant_of-self c).After-push in
    let leaves = c.self.inside.leaves.items in
    let inv = c.self.invariant in
    let last = c.self.inside.last in
    let above : last.0 < c.args.cid.0 = subst (λ (o : Order). o.last.0 < c.args.cid.0) (sym c.self.view_is) c.requires.above in
    let is = items d in
    record {
      rise = subst AreRising (sym is) (rise-push leaves last (new d) inv.rise inv.up_to above);
      up_to = subst (AreUpTo c.args.cid) (sym is) (up_to-push leaves last (new d) inv.up_to above);
      words = subst AreOfWord (sym is) (words-push leaves (new d) (subst (λ s. IsOfWord (record { cid = c.args.cid; standing = s })) c.standing_by.ensures c.number_in.ensures.word) inv.words);
      fit = omega (arith, ap length is, pushed leaves (new d), longer d, roomy d);
      memory = omega (arith, c.push.ensures.capacity, longer d, inv.memory);
      over = subst (λ ls. IsOver ls c.put.new.self) (sym is) (over-push number_in leaves c.self.inside.ranks c.put.new.self c.len-place.result (new d) (place_is d) (roomy d) inv.over (keys_are d));
    }

pub returns : goal.returns
returns c =
    let d = (goal.at.returns c).After-push in
    let leaves = c.self.inside.leaves.items in
    let ranks = c.self.inside.ranks in
    let is = items d in
    let row : Ranked = record { cid = c.args.cid; rank = c.args.rank } in
    let rows = ap rows_of is ∙ (rows-push leaves c.args.cid c.args.rank ∙ ap (λ (o : Order). o.rows ++ row ∷ []) c.self.view_is) in
    let less : length c.put.new.self - length c.push.new.self.items ≡ (length ranks - length leaves) - 1 =
    omega (arith, ap length is, pushed leaves (new d), longer d) in
    let room = less ∙ ap (λ (o : Order). o.room - 1) c.self.view_is in
    λ i. record { rows = rows i; room = room i; last = c.args.cid }
