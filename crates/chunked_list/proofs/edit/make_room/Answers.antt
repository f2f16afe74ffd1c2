use Rattle.std.proofs.Common.{◌≡◌, ◌+◌, ◌≤◌, cond, true, length, get_or, sym, subst, ap, ◌∙◌, arith}
use Rattle.std.specs.List.{insert}
use Rattle.std.specs.Result.{is_ok}
use Rattle.chunked_list.specs.Chunks.{items_in, starts, HasRoom, IsInside, place_of}
use Rattle.chunked_list.proofs.Numbers.{length-starts, start_is, inside_bound}
use Rattle.chunked_list.proofs.Splits.{filled-split, starts-split, joined-split, room-split, place-split, inside-split}
use Rattle.chunked_list.proofs.edit.make_room.Goals as goal

pub returns-clause-filled : goal.returns-clause-filled
returns-clause-filled g c =
    let old = c.args.chunks.now.items in
    let i = c.args.spot.chunk in
    let d = c.index.result.now in
    let full : 32 ≤ length (items_in (get_or old i d)) = omega (arith, c.len.ensures, c.if-len-lt-LIMIT.false, ap (λ x. length (items_in x)) c.index.ensures) in
    filled-split old c.split.new.chunks.items i d c.requires.inside.chunk c.requires.filled full c.in_ok-split.ensures.ok

pub returns-clause-same : goal.returns-clause-same
returns-clause-same g c =
    let old = c.args.chunks.now.items in
    let i = c.args.spot.chunk in
    let d = c.index.result.now in
    let full : 32 ≤ length (items_in (get_or old i d)) = omega (arith, c.len.ensures, c.if-len-lt-LIMIT.false, ap (λ x. length (items_in x)) c.index.ensures) in
    joined-split old c.split.new.chunks.items i d c.requires.inside.chunk c.requires.filled full c.in_ok-split.ensures.ok

pub returns-clause-inside : goal.returns-clause-inside
returns-clause-inside g c =
    let old = c.args.chunks.now.items in
    let i = c.args.spot.chunk in
    let d = c.index.result.now in
    let full : 32 ≤ length (items_in (get_or old i d)) = omega (arith, c.len.ensures, c.if-len-lt-LIMIT.false, ap (λ x. length (items_in x)) c.index.ensures) in
    subst (λ s. IsInside c.split.new.chunks.items s) (sym c.halved.ensures)
    (inside-split old c.split.new.chunks.items i d c.requires.inside.chunk c.requires.filled full c.in_ok-split.ensures.ok c.args.spot.at (c.requires.inside.at d))

pub returns-clause-room : goal.returns-clause-room
returns-clause-room g c =
    let old = c.args.chunks.now.items in
    let i = c.args.spot.chunk in
    let d = c.index.result.now in
    let full : 32 ≤ length (items_in (get_or old i d)) = omega (arith, c.len.ensures, c.if-len-lt-LIMIT.false, ap (λ x. length (items_in x)) c.index.ensures) in
    subst (λ s. HasRoom c.split.new.chunks.items s.chunk) (sym c.halved.ensures)
    (room-split old c.split.new.chunks.items i d c.requires.inside.chunk c.requires.filled full c.in_ok-split.ensures.ok c.args.spot.at)

pub returns-clause-place : goal.returns-clause-place
returns-clause-place g c =
    let old = c.args.chunks.now.items in
    let i = c.args.spot.chunk in
    let d = c.index.result.now in
    let full : 32 ≤ length (items_in (get_or old i d)) = omega (arith, c.len.ensures, c.if-len-lt-LIMIT.false, ap (λ x. length (items_in x)) c.index.ensures) in
    ap (λ s. place_of c.split.new.chunks.items s) c.halved.ensures
    ∙ place-split old c.split.new.chunks.items i d c.requires.inside.chunk c.requires.filled full c.in_ok-split.ensures.ok c.args.spot.at

pub index-requires-2 : goal.index-requires-2
index-requires-2 g c =
    omega (arith, c.requires.inside.chunk, c.try_reserve.ensures.len, ap length c.requires.numbers, length-starts 0 c.args.chunks.now.items)

pub overflow_add-index : goal.overflow_add-index
overflow_add-index g c =
    let old = c.args.chunks.now.items in
    let i = c.args.spot.chunk in
    let d = c.index.result.now in
    let full : 32 ≤ length (items_in (get_or old i d)) = omega (arith, c.len.ensures, c.if-len-lt-LIMIT.false, ap (λ x. length (items_in x)) c.index.ensures) in
    let first = c.index-2.result.now in
    omega (
      arith,
      full,
      c.index-2.ensures,
      ap (λ l. get_or l i first) (c.try_reserve.ensures.items ∙ c.requires.numbers),
      start_is old i first c.requires.inside.chunk,
      inside_bound old i d c.requires.inside.chunk,
      c.requires.few,
    )

pub insert-requires : goal.insert-requires
insert-requires g c =
    omega (arith, c.requires.inside.chunk, c.try_reserve.ensures.len, ap length c.requires.numbers, length-starts 0 c.args.chunks.now.items)

pub returns-clause-numbers : goal.returns-clause-numbers
returns-clause-numbers g c =
    let old = c.args.chunks.now.items in
    let i = c.args.spot.chunk in
    let d = c.index.result.now in
    let full : 32 ≤ length (items_in (get_or old i d)) = omega (arith, c.len.ensures, c.if-len-lt-LIMIT.false, ap (λ x. length (items_in x)) c.index.ensures) in
    let first = c.index-2.result.now in
    let fs = c.try_reserve.new.self.items in
    let fs_is : fs ≡ starts 0 old = c.try_reserve.ensures.items ∙ c.requires.numbers in
    let went : is_ok c.insert.result ≡ true = c.insert.ensures.succeeds (omega (arith, c.in_ok-try_reserve.ensures.ok)) in
    c.insert.ensures.items
    ∙ (ap (λ b. cond b (insert fs (i + 1) (first + 16)) fs) went
    ∙ (ap (λ l. insert l (i + 1) (first + 16)) fs_is
    ∙ sym (starts-split old c.split.new.chunks.items i d c.requires.inside.chunk c.requires.filled full c.in_ok-split.ensures.ok first first
    (c.index-2.ensures ∙ ap (λ l. get_or l i first) fs_is))))
