use Rattle.std.proofs.Common.{List, ap, ◌∙◌, arith}
use Rattle.std.specs.List.{remove}
use Rattle.net_base.specs.declared.address.Addr.{Addr}
use Rattle.peer_book.specs.Row.{addresses_in}
use Rattle.peer_book.proofs.Places.{place-inside, remove-place}
use Rattle.peer_book.proofs.row.Row.remove.Goals as goal

pub take-requires : goal.take-requires
take-requires c =
    let row : List Addr = addresses_in c.args.self.now in
    omega (arith, c.place-place.ensures, place-inside (λ a. a) c.args.addr row c.requires.rising c.requires.there)

pub returns-clause-items : goal.returns-clause-items
returns-clause-items c =
    let row : List Addr = addresses_in c.args.self.now in
    c.take.ensures.items ∙ (ap (remove row) c.place-place.ensures ∙ remove-place (λ a. a) c.args.addr row c.requires.rising c.requires.there)
