use Rattle.std.proofs.Common.{◌≡◌, ℕ, ◌≢◌, ◌≤◌, ◌+◌, ◌-◌, ◌*◌, ◌/◌, cond, List, drop, length, take, subst, sym, ap, arith, ◌∙◌}
use Rattle.std.specs.List.{insert}
use Rattle.std.specs.Option.{option_to_list}
use Rattle.std.proofs.lemmas.List.{with_items_is, length-drop, length-take-le}
use Rattle.std.specs.Vec.{vec_len}
use Rattle.least_tree.proofs.Rooms.{put_among, length-insert}
use Rattle.least_tree.proofs.tree.LeastTree.insert.Goals as goal

pub returns : goal.returns
returns c =
    let size : ℕ = c.self.inside.size in
    let old : List ℕ = c.self.inside.nodes.items in
    let rest : List ℕ = c.pop.new.self.items in
    let now : List ℕ = c.deref_mut.result.now in
    let put : List ℕ = insert rest (size + c.args.place) c.args.number in
    let count : length c.args.self.now ≡ size = omega (arith, ap length c.self.view_is, length-drop size old, c.self.invariant.even) in
    let some : size ≢ 0 = λ none. omega (arith, none, count, c.requires) in
    let short : vec_len c.self.inside.nodes - 1 ≤ length old = omega (arith, c.self.inside.nodes.ok.0) in
    let long : length rest + 1 ≡ 2 * size =
    omega (arith, some, ap length c.pop.ensures.rest, length-take-le (vec_len c.self.inside.nodes - 1) old short, c.self.inside.nodes.ok.0, c.self.invariant.even) in
    let went = c.insert.ensures.succeeds (omega (arith, long, c.pop.ensures.capacity, c.pop.new.self.ok, c.self.inside.nodes.ok, c.self.invariant.even)) in
    let now_is : now ≡ put = c.deref_mut.ensures.value ∙ (c.insert.ensures.items ∙ ap (λ b. cond b put rest) went) in
    let full : length put ≡ 2 * size = length-insert rest (size + c.args.place) c.args.number ∙ long in
    let half : length now / 2 ≡ size = omega (arith, ap length now_is, full) in
    let leaves = subst (λ n. drop n c.build.new.nodes ≡ drop n now) half c.build.ensures.leaves in
    let all : length c.build.new.nodes ≡ c.insert.new.self.len =
    omega (arith, c.build.auto.nodes, ap length c.deref_mut.ensures.value, c.insert.new.self.ok.0) in
    ap (drop size) (with_items_is c.insert.new.self c.build.new.nodes all)
    ∙ (leaves ∙ (ap (drop size) now_is
    ∙ (put_among old rest (option_to_list c.pop.result) size c.args.place c.args.number c.pop.ensures.items long (omega (arith, c.requires, count))
    ∙ (ap (λ l. take size (insert l c.args.place c.args.number)) c.self.view_is
    ∙ ap (λ n. take n (insert c.args.self.now c.args.place c.args.number)) (sym count)))))
