use Rattle.std.proofs.Common.{List, ap, ◌∙◌, arith}
use Rattle.std.specs.List.{insert}
use Rattle.std.proofs.lemmas.List.Sums.{prefix_len-le-length}
use Rattle.std.proofs.lemmas.Result.{on_ok_weaker}
use Rattle.conn_table.specs.Index.{placed_below, put_in}
use Rattle.conn_table.specs.declared.placed.Placed.{Placed}
use Rattle.conn_table.proofs.PlacedPlaces.{insert-place}
use Rattle.conn_table.proofs.placed.PlacedList.insert.Goals as goal

pub insert-requires : goal.insert-requires
insert-requires c = omega (arith, c.place_of-place.ensures, prefix_len-le-length (λ p. placed_below p c.args.placed) c.self.inside.items)

pub returns-clause-ok : goal.returns-clause-ok
returns-clause-ok c =
    let items : List Placed = c.self.inside.items in
    on_ok_weaker c.insert.result
    (λ e. e ∙ (ap (λ n. insert items n c.args.placed) c.place_of-place.ensures ∙ (insert-place c.args.placed items ∙ ap (put_in c.args.placed) c.self.view_is)))
    c.insert.ensures.ok
