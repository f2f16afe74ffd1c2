use Rattle.std.proofs.Common.{◌≡◌, sym, subst, ap, ◌∙◌, length, get_or, set, length-set}
use Rattle.std.proofs.lemmas.List.{get_or_default}
use Rattle.std.specs.Vec.{with_item}
use Rattle.chunked_list.specs.Chunks.{items_in, joined, place_of}
use Rattle.chunked_list.proofs.Edits.{get_in_chunk, set_in_chunk}
use Rattle.chunked_list.proofs.Numbers.{starts-same}
use Rattle.chunked_list.proofs.edit.change_in.Goals as goal

pub apply-requires : goal.apply-requires
apply-requires g c =
    let cs = c.args.chunks.now.items in
    let i = c.args.spot.chunk in
    let at = c.args.spot.at in
    let d = c.index_mut.result.now in
    let e = c.index_mut-2.result.now in
    let is : get_or (joined cs) (place_of cs c.args.spot) e ≡ e =
    get_in_chunk cs i at d e c.requires.inside.chunk (c.requires.inside.at d)
    ∙ (ap (λ x. get_or (items_in x) at e) (sym c.index_mut.ensures.value) ∙ sym c.index_mut-2.ensures.value) in
    subst (λ x. g.C.Change.may c.args.change x) is (c.requires.may e)

pub returns-clause-changed : goal.returns-clause-changed
returns-clause-changed g c =
    let cs = c.args.chunks.now.items in
    let i = c.args.spot.chunk in
    let at = c.args.spot.at in
    let d = c.index_mut.result.now in
    let e = c.index_mut-2.result.now in
    record {
      item = c.apply.new.item;
      done = λ x.
          let is : get_or (joined cs) (place_of cs c.args.spot) x ≡ e =
          get_in_chunk cs i at d x c.requires.inside.chunk (c.requires.inside.at d)
          ∙ (get_or_default (items_in (get_or cs i d)) at x e (c.requires.inside.at d)
          ∙ (ap (λ x. get_or (items_in x) at e) (sym c.index_mut.ensures.value) ∙ sym c.index_mut-2.ensures.value)) in
          subst (λ y. g.C.Change.does c.args.change y c.apply.new.item c.apply.result) (sym is) c.apply.ensures;
      others_stay = set_in_chunk cs i at (record { items = with_item d.items at c.apply.new.item }) d c.requires.inside.chunk c.apply.new.item
          (c.requires.inside.at d) (ap (λ x. set (items_in x) at c.apply.new.item) c.index_mut.ensures.value);
    }

pub returns-clause-numbers : goal.returns-clause-numbers
returns-clause-numbers g c =
    let cs = c.args.chunks.now.items in
    let i = c.args.spot.chunk in
    let at = c.args.spot.at in
    let d = c.index_mut.result.now in
    starts-same 0 cs i (record { items = with_item d.items at c.apply.new.item }) d c.requires.inside.chunk
    (length-set (items_in d) at c.apply.new.item ∙ ap (λ x. length (items_in x)) c.index_mut.ensures.value)
