use Rattle.std.proofs.Common.{◌≡◌, ◌<◌, ◌+◌, ℕ, List, [], ◌∷◌, true, nat_eq, refl, length, get_or, set, sym, ap, ◌∙◌, arith, length-set}
use Rattle.std.specs.List.{remove}
use Rattle.std.proofs.lemmas.List.{get_or_default}
use Rattle.std.proofs.lemmas.Bool.Decides.{nat_tests}
use Rattle.chunked_list.specs.Chunks.{items_in, joined, starts}
use Rattle.chunked_list.specs.Firsts.{lowered}
use Rattle.chunked_list.specs.declared.chunk.Chunk.{Chunk}
use Rattle.chunked_list.proofs.Edits.{get_in_chunk, taken_from_chunk, joined-without_empty}
use Rattle.chunked_list.proofs.Firsts.{length-lowered, refilled}
use Rattle.chunked_list.proofs.Numbers.{length-starts, start_is, front-rises, front-next, starts-shrunk, starts-without_empty}
use Rattle.chunked_list.proofs.edit.take_out.Goals as goal

none_left : {T : Type 0} (xs : List T) → length xs ≡ 0 → xs ≡ []
none_left [] h = refl
none_left (x ∷ xs) h = absurd (omega (arith, h))

zero_is : (n : ℕ) → nat_eq n 0 ≡ true → n ≡ 0
zero_is n h = grind (arith, nat_tests)

pub returns-then-is_empty-clause-value : goal.returns-then-is_empty-clause-value
returns-then-is_empty-clause-value g c =
    let cs = c.args.chunks.now.items in
    let i = c.args.spot.chunk in
    let at = c.args.spot.at in
    let d = c.index_mut.result.now in
    let e = c.remove-item.result in
    c.remove-item.ensures.value
    ∙ (ap (λ x. get_or (items_in x) at e) c.index_mut.ensures.value ∙ sym (get_in_chunk cs i at d e c.requires.inside.chunk (c.requires.inside.at d)))

pub returns-else-is_empty-clause-value : goal.returns-else-is_empty-clause-value
returns-else-is_empty-clause-value g c =
    let cs = c.args.chunks.now.items in
    let i = c.args.spot.chunk in
    let at = c.args.spot.at in
    let d = c.index_mut.result.now in
    let e = c.remove-item.result in
    c.remove-item.ensures.value
    ∙ (ap (λ x. get_or (items_in x) at e) c.index_mut.ensures.value ∙ sym (get_in_chunk cs i at d e c.requires.inside.chunk (c.requires.inside.at d)))

pub returns-else-is_empty-clause-items : goal.returns-else-is_empty-clause-items
returns-else-is_empty-clause-items g c =
    let cs = c.args.chunks.now.items in
    let i = c.args.spot.chunk in
    let at = c.args.spot.at in
    let d = c.index_mut.result.now in
    taken_from_chunk cs i at (record { items = c.remove-item.new.self }) d c.requires.inside.chunk (c.requires.inside.at d)
    (c.remove-item.ensures.items ∙ ap (λ x. remove (items_in x) at) c.index_mut.ensures.value)

pub returns-then-is_empty-clause-items : goal.returns-then-is_empty-clause-items
returns-then-is_empty-clause-items g c =
    let cs = c.args.chunks.now.items in
    let i = c.args.spot.chunk in
    let at = c.args.spot.at in
    let d = c.index_mut.result.now in
    let new : Chunk g.row.T.Denot = record { items = c.remove-item.new.self } in
    let inside : i < length (set cs i new) = omega (arith, c.requires.inside.chunk, length-set cs i new) in
    let now = c.index.result.now in
    let empty : items_in (get_or (set cs i new) i d) ≡ [] = none_left (items_in (get_or (set cs i new) i d)) (omega (
      arith,
      zero_is (length (items_in now)) (ap (λ n. nat_eq n 0) (omega arith) ∙ (sym c.is_empty.ensures ∙ c.if-is_empty.true)),
      ap (λ x. length (items_in x)) (c.index.ensures ∙ get_or_default (set cs i new) i now d inside),
    )) in
    ap joined c.remove.ensures.items
    ∙ (joined-without_empty (set cs i new) i d inside empty
    ∙ taken_from_chunk cs i at new d c.requires.inside.chunk (c.requires.inside.at d)
    (c.remove-item.ensures.items ∙ ap (λ x. remove (items_in x) at) c.index_mut.ensures.value))

pub lower-requires : goal.lower-requires
lower-requires g c =
    let cs = c.args.chunks.now.items in
    let i = c.args.spot.chunk in
    let e = c.index_mut.result.now in
    record {
      some = λ k d from lt.
          let inside : k < length cs = omega (arith, lt, ap length (c.deref_mut.ensures.value ∙ c.requires.numbers), length-starts 0 cs) in
          omega (
            arith,
            ap (λ l. get_or l k d) (c.deref_mut.ensures.value ∙ c.requires.numbers),
            start_is cs k d inside,
            front-rises cs (i + 1) k from,
            front-next cs i e c.requires.inside.chunk,
            c.requires.inside.at e,
          );
    }

pub remove-requires-then-is_empty : goal.remove-requires-then-is_empty
remove-requires-then-is_empty g c =
    let fs = c.args.firsts.now.items in
    omega (
      arith,
      c.requires.inside.chunk,
      ap length c.lower.ensures,
      length-lowered (c.args.spot.chunk + 1) fs,
      ap length c.requires.numbers,
      length-starts 0 c.args.chunks.now.items,
    )

pub returns-else-is_empty-clause-numbers : goal.returns-else-is_empty-clause-numbers
returns-else-is_empty-clause-numbers g c =
    let cs = c.args.chunks.now.items in
    let i = c.args.spot.chunk in
    let d = c.index_mut.result.now in
    let new : Chunk g.row.T.Denot = record { items = c.remove-item.new.self } in
    let less : length (items_in new) + 1 ≡ length (items_in (get_or cs i d)) = omega (arith, c.remove-item.ensures.len, ap (λ x. length (items_in x)) c.index_mut.ensures.value) in
    let fs = c.args.firsts.now in
    let same : length c.lower.new.firsts ≡ length fs.items = ap length (c.lower.ensures ∙ ap (lowered (i + 1)) c.deref_mut.ensures.value) ∙ length-lowered (i + 1) fs.items in
    let back = refilled fs.len c.lower.new.firsts fs.items same (omega (arith, fs.ok)) in
    back ∙ (c.lower.ensures ∙ (ap (lowered (i + 1)) (c.deref_mut.ensures.value ∙ c.requires.numbers) ∙ sym (starts-shrunk 0 cs i new d c.requires.inside.chunk less)))

pub returns-then-is_empty-clause-numbers : goal.returns-then-is_empty-clause-numbers
returns-then-is_empty-clause-numbers g c =
    let cs = c.args.chunks.now.items in
    let i = c.args.spot.chunk in
    let d = c.index_mut.result.now in
    let new : Chunk g.row.T.Denot = record { items = c.remove-item.new.self } in
    let less : length (items_in new) + 1 ≡ length (items_in (get_or cs i d)) = omega (arith, c.remove-item.ensures.len, ap (λ x. length (items_in x)) c.index_mut.ensures.value) in
    let inside : i < length (set cs i new) = omega (arith, c.requires.inside.chunk, length-set cs i new) in
    let now = c.index.result.now in
    let empty : items_in (get_or (set cs i new) i d) ≡ [] = none_left (items_in (get_or (set cs i new) i d)) (omega (
      arith,
      zero_is (length (items_in now)) (ap (λ n. nat_eq n 0) (omega arith) ∙ (sym c.is_empty.ensures ∙ c.if-is_empty.true)),
      ap (λ x. length (items_in x)) (c.index.ensures ∙ get_or_default (set cs i new) i now d inside),
    )) in
    let fs = c.args.firsts.now in
    let same : length c.lower.new.firsts ≡ length fs.items = ap length (c.lower.ensures ∙ ap (lowered (i + 1)) c.deref_mut.ensures.value) ∙ length-lowered (i + 1) fs.items in
    let back = refilled fs.len c.lower.new.firsts fs.items same (omega (arith, fs.ok)) in
    c.remove-then-is_empty.ensures.items
    ∙ (ap (λ l. remove l i) (back ∙ (c.lower.ensures ∙ (ap (lowered (i + 1)) (c.deref_mut.ensures.value ∙ c.requires.numbers) ∙ sym (starts-shrunk 0 cs i new d c.requires.inside.chunk less))))
    ∙ (sym (starts-without_empty 0 (set cs i new) i d inside empty) ∙ ap (starts 0) (sym c.remove.ensures.items)))
