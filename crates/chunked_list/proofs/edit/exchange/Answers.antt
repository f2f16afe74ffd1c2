use Rattle.std.proofs.Common.{◌≡◌, sym, subst, ap, ◌∙◌, length, get_or, set, length-set}
use Rattle.std.specs.Vec.{with_item}
use Rattle.chunked_list.specs.Chunks.{items_in, joined, place_of}
use Rattle.chunked_list.proofs.Edits.{get_in_chunk, set_in_chunk}
use Rattle.chunked_list.proofs.Numbers.{starts-same}
use Rattle.chunked_list.proofs.edit.exchange.Goals as goal

pub returns-clause-value : goal.returns-clause-value
returns-clause-value g c =
    let cs = c.args.chunks.now.items in
    let i = c.args.spot.chunk in
    let at = c.args.spot.at in
    let d = c.index_mut.result.now in
    let e = c.index_mut-2.result.now in
    let is : e ≡ get_or (joined cs) (place_of cs c.args.spot) e = c.index_mut-2.ensures.value
    ∙ (ap (λ x. get_or (items_in x) at e) c.index_mut.ensures.value ∙ sym (get_in_chunk cs i at d e c.requires.inside.chunk (c.requires.inside.at d))) in
    subst (λ x. x ≡ get_or (joined cs) (place_of cs c.args.spot) x) (sym c.replace.ensures.value) is

pub returns-clause-items : goal.returns-clause-items
returns-clause-items g c =
    let cs = c.args.chunks.now.items in
    let i = c.args.spot.chunk in
    let at = c.args.spot.at in
    let d = c.index_mut.result.now in
    set_in_chunk cs i at (record { items = with_item d.items at c.replace.new.dest }) d c.requires.inside.chunk c.args.item (c.requires.inside.at d)
    (ap (λ x. set (items_in d) at x) c.replace.ensures.after ∙ ap (λ x. set (items_in x) at c.args.item) c.index_mut.ensures.value)

pub returns-clause-numbers : goal.returns-clause-numbers
returns-clause-numbers g c =
    let cs = c.args.chunks.now.items in
    let i = c.args.spot.chunk in
    let at = c.args.spot.at in
    let d = c.index_mut.result.now in
    starts-same 0 cs i (record { items = with_item d.items at c.replace.new.dest }) d c.requires.inside.chunk
    (length-set (items_in d) at c.replace.new.dest ∙ ap (λ x. length (items_in x)) c.index_mut.ensures.value)
