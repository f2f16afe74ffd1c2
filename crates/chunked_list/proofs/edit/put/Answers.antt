use Rattle.std.proofs.Common.{◌≡◌, ◌<◌, ◌+◌, Result, Ok, Err, OnErr, length, get_or, sym, ap, ◌∙◌, arith}
use Rattle.std.specs.List.{insert}
use Rattle.std.proofs.lemmas.List.Edits.{length-insert}
use Rattle.chunked_list.specs.Chunks.{items_in}
use Rattle.chunked_list.specs.Firsts.{raised}
use Rattle.chunked_list.proofs.Edits.{put_in_chunk, same_in_chunk}
use Rattle.chunked_list.proofs.Firsts.{length-raised, refilled}
use Rattle.chunked_list.proofs.Numbers.{length-starts, start_is, front-upto, starts-same, starts-grown}
use Rattle.chunked_list.proofs.edit.put.Goals as goal

on_err : {A E : Type 0} (r : Result A E) (P : Type 0) → P → OnErr r P
on_err (Ok x) P h = tt
on_err (Err e) P h = h

pub raise-requires : goal.raise-requires
raise-requires g c =
    let cs = c.args.chunks.now.items in
    let fs = c.args.firsts.now.items in
    record {
      few = λ i d lt.
          let inside : i < length cs = omega (arith, lt, ap length (c.deref_mut.ensures.value ∙ c.requires.numbers), length-starts 0 cs) in
          omega (arith, ap (λ l. get_or l i d) (c.deref_mut.ensures.value ∙ c.requires.numbers), start_is cs i d inside, front-upto cs i, c.requires.few);
    }

pub returns-clause-ok : goal.returns-clause-ok
returns-clause-ok g c =
    let cs = c.args.chunks.now.items in
    let old = c.index_mut.result.now in
    put_in_chunk cs c.args.spot.chunk c.args.spot.at c.insert.new.self old c.requires.inside.chunk c.args.item (omega (arith, c.requires.inside.at old))
    (c.in_ok-insert.ensures.ok ∙ ap (λ x. insert (items_in x) c.args.spot.at c.args.item) c.index_mut.ensures.value)

pub returns-clause-numbers : goal.returns-clause-numbers
returns-clause-numbers g c =
    let cs = c.args.chunks.now.items in
    let i = c.args.spot.chunk in
    let old = c.index_mut.result.now in
    let is : items_in c.insert.new.self ≡ insert (items_in (get_or cs i old)) c.args.spot.at c.args.item = c.in_ok-insert.ensures.ok ∙ ap (λ x. insert (items_in x) c.args.spot.at c.args.item) c.index_mut.ensures.value in
    let more : length (items_in c.insert.new.self) ≡ length (items_in (get_or cs i old)) + 1 = omega (
      arith,
      ap length is,
      c.requires.inside.at old,
      length-insert (items_in (get_or cs i old)) c.args.spot.at c.args.item,
    ) in
    let fs = c.args.firsts.now in
    let same : length c.raise.new.firsts ≡ length fs.items = ap length (c.raise.ensures ∙ ap (raised (i + 1)) c.deref_mut.ensures.value) ∙ length-raised (i + 1) fs.items in
    refilled fs.len c.raise.new.firsts fs.items same (omega (arith, fs.ok))
    ∙ (c.raise.ensures ∙ (ap (raised (i + 1)) (c.deref_mut.ensures.value ∙ c.requires.numbers) ∙ sym (starts-grown 0 cs i c.insert.new.self old c.requires.inside.chunk more)))

pub returns-in_err-insert-clause-err : goal.returns-in_err-insert-clause-err
returns-in_err-insert-clause-err g c =
    on_err c.from_residual.result _
    (same_in_chunk c.args.chunks.now.items c.args.spot.chunk c.args.spot.at c.insert.new.self c.index_mut.result.now c.requires.inside.chunk
    (c.in_err-insert.ensures.err ∙ ap items_in c.index_mut.ensures.value))

pub returns-in_err-insert-clause-numbers : goal.returns-in_err-insert-clause-numbers
returns-in_err-insert-clause-numbers g c =
    let cs = c.args.chunks.now.items in
    c.requires.numbers
    ∙ sym (starts-same 0 cs c.args.spot.chunk c.insert.new.self c.index_mut.result.now c.requires.inside.chunk
    (ap length (c.in_err-insert.ensures.err ∙ ap items_in c.index_mut.ensures.value)))
