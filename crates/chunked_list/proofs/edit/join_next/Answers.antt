use Rattle.std.proofs.Common.{◌≡◌, ◌+◌, ◌++◌, cond, true, length, get_or, set, sym, subst, ap, ◌∙◌, length-append, arith}
use Rattle.std.specs.List.{remove}
use Rattle.std.specs.Result.{is_ok}
use Rattle.std.specs.Vec.{vec_capacity}
use Rattle.std.proofs.lemmas.List.{get_or_default}
use Rattle.chunked_list.specs.Chunks.{items_in, joined, starts, AreFilled, CanJoin}
use Rattle.chunked_list.specs.declared.chunk.Chunk.{Chunk}
use Rattle.chunked_list.proofs.Joins.{same-first, joined-join}
use Rattle.chunked_list.proofs.Numbers.{length-starts, starts-joined, filled-join}
use Rattle.chunked_list.proofs.Splits.{filled-at}
use Rattle.chunked_list.proofs.edit.join_next.Goals as goal

pub returns-clause-same : goal.returns-clause-same
returns-clause-same g c =
    let cs = c.args.chunks.now.items in
    let i = c.args.place in
    let d = c.index_mut.result.now in
    let next = c.remove-next.result in
    let both : Chunk g.row.T.Denot = record { items = c.append.new.self } in
    let can : CanJoin cs i = subst (λ l. CanJoin l i) c.deref.ensures.value (c.can_join.ensures c.if-not-can_join.false) in
    let d_is : d ≡ get_or cs i d =
    c.index_mut.ensures.value ∙ (ap (λ l. get_or l i d) c.remove-next.ensures.items ∙ same-first cs i can.there d) in
    let next_is : next ≡ get_or cs (i + 1) d = c.remove-next.ensures.value ∙ get_or_default cs (i + 1) next d can.there in
    let went : is_ok c.append.result ≡ true = c.append.ensures.succeeds (omega (
      arith,
      can.room d,
      ap (λ x. length (items_in x)) d_is,
      ap (λ x. vec_capacity x.items) d_is,
      ap (λ x. length (items_in x)) next_is,
    )) in
    let items : items_in both ≡ items_in (get_or cs i d) ++ items_in (get_or cs (i + 1) d) =
    c.append.ensures.items
    ∙ (ap (λ b. cond b (items_in d ++ items_in next) (items_in d)) went
    ∙ (ap (λ x. items_in x ++ items_in next) d_is ∙ ap (λ x. items_in (get_or cs i d) ++ items_in x) next_is)) in
    ap (λ l. joined (set l i both)) c.remove-next.ensures.items ∙ joined-join cs i can.there both d items

pub remove-requires : goal.remove-requires
remove-requires g c =
    let cs = c.args.chunks.now.items in
    let can : CanJoin cs c.args.place = subst (λ l. CanJoin l c.args.place) c.deref.ensures.value (c.can_join.ensures c.if-not-can_join.false) in
    omega (arith, can.there, ap length c.requires.numbers, length-starts 0 cs)

pub returns-clause-numbers : goal.returns-clause-numbers
returns-clause-numbers g c =
    let cs = c.args.chunks.now.items in
    let i = c.args.place in
    let d = c.index_mut.result.now in
    let next = c.remove-next.result in
    let both : Chunk g.row.T.Denot = record { items = c.append.new.self } in
    let can : CanJoin cs i = subst (λ l. CanJoin l i) c.deref.ensures.value (c.can_join.ensures c.if-not-can_join.false) in
    let d_is : d ≡ get_or cs i d =
    c.index_mut.ensures.value ∙ (ap (λ l. get_or l i d) c.remove-next.ensures.items ∙ same-first cs i can.there d) in
    let next_is : next ≡ get_or cs (i + 1) d = c.remove-next.ensures.value ∙ get_or_default cs (i + 1) next d can.there in
    let went : is_ok c.append.result ≡ true = c.append.ensures.succeeds (omega (
      arith,
      can.room d,
      ap (λ x. length (items_in x)) d_is,
      ap (λ x. vec_capacity x.items) d_is,
      ap (λ x. length (items_in x)) next_is,
    )) in
    let items : items_in both ≡ items_in (get_or cs i d) ++ items_in (get_or cs (i + 1) d) =
    c.append.ensures.items
    ∙ (ap (λ b. cond b (items_in d ++ items_in next) (items_in d)) went
    ∙ (ap (λ x. items_in x ++ items_in next) d_is ∙ ap (λ x. items_in (get_or cs i d) ++ items_in x) next_is)) in
    c.remove.ensures.items
    ∙ (ap (λ l. remove l (i + 1)) c.requires.numbers
    ∙ (sym (starts-joined cs i both d can.there items) ∙ ap (λ l. starts 0 (set l i both)) (sym c.remove-next.ensures.items)))

pub returns-clause-filled : goal.returns-clause-filled
returns-clause-filled g c =
    let cs = c.args.chunks.now.items in
    let i = c.args.place in
    let d = c.index_mut.result.now in
    let next = c.remove-next.result in
    let both : Chunk g.row.T.Denot = record { items = c.append.new.self } in
    let can : CanJoin cs i = subst (λ l. CanJoin l i) c.deref.ensures.value (c.can_join.ensures c.if-not-can_join.false) in
    let d_is : d ≡ get_or cs i d =
    c.index_mut.ensures.value ∙ (ap (λ l. get_or l i d) c.remove-next.ensures.items ∙ same-first cs i can.there d) in
    let next_is : next ≡ get_or cs (i + 1) d = c.remove-next.ensures.value ∙ get_or_default cs (i + 1) next d can.there in
    let went : is_ok c.append.result ≡ true = c.append.ensures.succeeds (omega (
      arith,
      can.room d,
      ap (λ x. length (items_in x)) d_is,
      ap (λ x. vec_capacity x.items) d_is,
      ap (λ x. length (items_in x)) next_is,
    )) in
    let items : items_in both ≡ items_in (get_or cs i d) ++ items_in (get_or cs (i + 1) d) =
    c.append.ensures.items
    ∙ (ap (λ b. cond b (items_in d ++ items_in next) (items_in d)) went
    ∙ (ap (λ x. items_in x ++ items_in next) d_is ∙ ap (λ x. items_in (get_or cs i d) ++ items_in x) next_is)) in
    let some = (filled-at cs c.requires.filled i d (omega (arith, can.there))).some in
    let long : length (items_in both) ≡ length (items_in (get_or cs i d)) + length (items_in (get_or cs (i + 1) d)) = ap length items ∙ length-append (items_in (get_or cs i d)) (items_in (get_or cs (i + 1) d)) in
    subst (λ l. AreFilled (set l i both)) (sym c.remove-next.ensures.items)
    (filled-join cs i both c.requires.filled (record { some = omega (arith, long, some); few = omega (arith, long, can.few d) }))
