use Rattle.std.proofs.Common.{◌≡◌, ℕ, ◌+◌, ◌-◌, ◌*◌, ◌/◌, ◌≤◌, List, drop, length, replicate, subst, ap, arith, rules, ◌∙◌}
use Rattle.std.specs.Vec.{with_items}
use Rattle.std.proofs.lemmas.List.{with_items_is, length-replicate}
use borrow.Rule.Slice.PartMut.{put_mid, same_len_mid}
use Rattle.least_tree.specs.Numbers.{none}
use Rattle.least_tree.proofs.Rooms.{are_laid, laid}
use Rattle.least_tree.proofs.tree.LeastTree.over.Goals as goal

pub returns-clause-laid : goal.returns-clause-laid
returns-clause-laid c =
    let ns : List ℕ = c.args.numbers.now in
    let size : ℕ = c.size_for-size.result.0 in
    let fits : length ns ≤ size = omega (arith, c.size_for-size.ensures.room) in
    let first : List ℕ = c.deref_mut.result.now in
    let now : List ℕ = c.deref_mut-2.result.now in
    let filled : c.in_ok-nodes.nodes.items ≡ replicate (2 * size) none = search rules in
    let long : length c.in_ok-nodes.nodes.items ≡ 2 * size = ap length filled ∙ length-replicate (2 * size) none in
    let first_is : first ≡ c.in_ok-nodes.nodes.items = c.deref_mut.ensures.value in
    let kept = same_len_mid size (size + length ns - size) first c.copy_from_slice.new.self c.copy_from_slice.ensures.len in
    let mid : List ℕ = put_mid size (size + length ns - size) first c.copy_from_slice.new.self in
    let whole : length mid ≡ c.in_ok-nodes.nodes.len = omega (arith, kept, ap length first_is, c.in_ok-nodes.nodes.ok.0) in
    let now_is : now ≡ mid = c.deref_mut-2.ensures.value ∙ with_items_is c.in_ok-nodes.nodes mid whole in
    let half : length now / 2 ≡ size = omega (arith, ap length now_is, kept, ap length first_is, long) in
    let leaves = subst (λ n. drop n c.build.new.nodes ≡ drop n now) half c.build.ensures.leaves in
    let all : length c.build.new.nodes ≡ c.in_ok-nodes.nodes.len = omega (arith, c.build.auto.nodes, ap length now_is, whole) in
    are_laid ns _ (size - length ns)
    (ap (drop size) (with_items_is (with_items c.in_ok-nodes.nodes mid) c.build.new.nodes all)
    ∙ (leaves ∙ (ap (drop size) now_is
    ∙ laid first ns c.copy_from_slice.new.self size (size + length ns - size) fits (omega arith)
    (first_is ∙ filled) c.copy_from_slice.ensures.after)))
