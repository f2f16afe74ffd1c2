use Rattle.std.proofs.Common.{◌≡◌, ◌+◌, cond, true, ap, ◌∙◌, arith, take, drop, set, get_or}
use Rattle.std.specs.List.{insert}
use Rattle.std.specs.Result.{is_ok}
use Rattle.std.proofs.lemmas.List.{get_or_default}
use Rattle.chunked_list.specs.Chunks.{items_in}
use Rattle.chunked_list.specs.declared.chunk.Chunk.{Chunk}
use Rattle.chunked_list.proofs.Splits.{split_is}
use Rattle.chunked_list.proofs.edit.split.Goals as goal

pub returns-clause-ok : goal.returns-clause-ok
returns-clause-ok g c =
    let cs = c.args.chunks.now.items in
    let i = c.args.chunk in
    let old = c.index_mut.result.now in
    let low : Chunk g.row.T.Denot = record { items = c.split_off.new.self } in
    let high : Chunk g.row.T.Denot = record { items = c.in_ok-high.high } in
    let went : is_ok c.insert.result ≡ true = c.insert.ensures.succeeds (omega (arith, c.in_ok-try_reserve.ensures.ok)) in
    let is : (d : Chunk g.row.T.Denot) → old ≡ get_or cs i d = λ d.
    c.index_mut.ensures.value ∙ (ap (λ l. get_or l i old) c.try_reserve.ensures.items ∙ get_or_default cs i old d c.requires.there) in
    record {
      low = low;
      high = high;
      new_is = c.insert.ensures.items
          ∙ (ap (λ b. cond b (insert (set c.try_reserve.new.self.items i low) (i + 1) high) (set c.try_reserve.new.self.items i low)) went
          ∙ (ap (λ l. insert (set l i low) (i + 1) high) c.try_reserve.ensures.items ∙ split_is cs i low high c.requires.there));
      low_is = λ d. c.in_ok-high.ensures.items ∙ ap (λ x. take 16 (items_in x)) (is d);
      high_is = λ d. c.in_ok-high.ensures.tail ∙ ap (λ x. drop 16 (items_in x)) (is d);
    }
