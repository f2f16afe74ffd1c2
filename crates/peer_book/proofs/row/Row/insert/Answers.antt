use Rattle.std.proofs.Common.{List, ap, ◌∙◌, arith}
use Rattle.std.specs.List.{insert}
use Rattle.std.proofs.lemmas.List.Sums.{prefix_len-le-length}
use Rattle.net_base.specs.declared.address.Addr.{Addr}
use Rattle.peer_book.specs.Row.{addresses_in}
use Rattle.peer_book.proofs.Places.{insert-place}
use Rattle.peer_book.proofs.Rising.{is_under}
use Rattle.peer_book.proofs.row.Row.insert.Goals as goal

pub put-requires-clause-upto : goal.put-requires-clause-upto
put-requires-clause-upto c =
    omega (arith, c.place-place.ensures, prefix_len-le-length (is_under (λ a. a) c.args.addr) (addresses_in c.args.self.now))

pub returns-clause-items : goal.returns-clause-items
returns-clause-items c =
    let row : List Addr = addresses_in c.args.self.now in
    c.put.ensures.items ∙ (ap (λ n. insert row n c.args.addr) c.place-place.ensures ∙ insert-place (λ a. a) c.args.addr row)
