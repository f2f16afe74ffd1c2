use Rattle.std.proofs.Common.{List, set, subst, sym, ap, ◌∙◌, arith}
use Rattle.least_tree.proofs.Over.{over-set}
use Rattle.prune_order.specs.Numbers.{number_in}
use Rattle.prune_order.specs.Kept.{AreOfWord}
use Rattle.prune_order.specs.declared.leaf.Leaf.{Leaf}
use Rattle.prune_order.proofs.Rows.{inside-place, set-with_leaf, place-same, words-with_leaf}
use Rattle.prune_order.proofs.order.put.Goals as goal

pub index_mut-requires : goal.index_mut-requires
index_mut-requires c =
    let leaves = c.args.leaves.now.items in
    omega (
      arith,
      c.args.leaves.now.ok,
      inside-place c.args.cid leaves c.place_of-place.result c.requires.rise c.requires.there
          (place-same c.args.cid c.place_of-place.result _ leaves c.deref.ensures.value c.place_of-place.ensures.value),
    )

pub put-requires : goal.put-requires
put-requires c =
    let leaves = c.args.leaves.now.items in
    omega (
      arith,
      c.requires.fit,
      inside-place c.args.cid leaves c.place_of-place.result c.requires.rise c.requires.there
          (place-same c.args.cid c.place_of-place.result _ leaves c.deref.ensures.value c.place_of-place.ensures.value),
    )

pub returns-clause-leaves : goal.returns-clause-leaves
returns-clause-leaves c =
    let leaves = c.args.leaves.now.items in
    let new : Leaf = record { cid = c.args.cid; standing = c.args.standing } in
    set-with_leaf new leaves c.place_of-place.result c.requires.rise c.requires.there
    (place-same c.args.cid c.place_of-place.result _ leaves c.deref.ensures.value c.place_of-place.ensures.value)

pub returns-clause-ranks : goal.returns-clause-ranks
returns-clause-ranks c =
    let leaves : List Leaf = c.args.leaves.now.items in
    let new : Leaf = record { cid = c.args.cid; standing = c.args.standing } in
    let inside = inside-place c.args.cid leaves c.place_of-place.result c.requires.rise c.requires.there
    (place-same c.args.cid c.place_of-place.result _ leaves c.deref.ensures.value c.place_of-place.ensures.value) in
    over-set number_in leaves c.args.ranks.now c.put.new.self c.place_of-place.result new inside c.requires.ranks
    (c.put.ensures ∙ ap (set c.args.ranks.now c.place_of-place.result) c.number_in.ensures.value)

pub returns-clause-words : goal.returns-clause-words
returns-clause-words c words =
    let leaves : List Leaf = c.args.leaves.now.items in
    let new : Leaf = record { cid = c.args.cid; standing = c.args.standing } in
    subst AreOfWord (sym (set-with_leaf new leaves c.place_of-place.result c.requires.rise c.requires.there
    (place-same c.args.cid c.place_of-place.result _ leaves c.deref.ensures.value c.place_of-place.ensures.value)))
    (words-with_leaf new leaves c.number_in.ensures.word words)
