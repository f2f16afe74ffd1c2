use Rattle.std.proofs.Common.{◌≡◌, true, List, ap, sym, subst, ◌∙◌, arith}
use Rattle.std.specs.List.{remove}
use Rattle.conn_table.specs.Index.{IsRising, stands, taken_out}
use Rattle.conn_table.specs.declared.placed.Placed.{Placed}
use Rattle.conn_table.proofs.PlacedPlaces.{place-inside, remove-place}
use Rattle.conn_table.proofs.placed.PlacedList.remove.Goals as goal

pub remove-requires : goal.remove-requires
remove-requires c =
    let items : List Placed = c.self.inside.items in
    let rising : IsRising items = subst IsRising (sym c.self.view_is) c.requires.rising in
    let there : stands c.args.placed items ≡ true = ap (stands c.args.placed) c.self.view_is ∙ c.requires.there in
    omega (arith, c.place_of-place.ensures, place-inside c.args.placed items rising there)

pub returns : goal.returns
returns c =
    let items : List Placed = c.self.inside.items in
    let rising : IsRising items = subst IsRising (sym c.self.view_is) c.requires.rising in
    let there : stands c.args.placed items ≡ true = ap (stands c.args.placed) c.self.view_is ∙ c.requires.there in
    c.remove.ensures.items
    ∙ (ap (remove items) c.place_of-place.ensures ∙ (remove-place c.args.placed items rising there ∙ ap (taken_out c.args.placed) c.self.view_is))
