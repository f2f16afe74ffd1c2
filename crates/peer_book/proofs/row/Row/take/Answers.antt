use Rattle.std.proofs.Common.{◌≡◌, ◌-◌, ◌++◌, List, length, ap, sym, ◌∙◌, refl, arith}
use Rattle.std.specs.List.{remove}
use Rattle.std.proofs.lemmas.List.Edits.{remove-append_right}
use Rattle.net_base.specs.declared.address.Addr.{Addr}
use Rattle.peer_book.proofs.row.Row.take.Goals as goal

pub returns-in-Some-clause-items : goal.returns-in-Some-clause-items
returns-in-Some-clause-items c =
    let xs : List Addr = c.args.self.now.chunks in
    let ys : List Addr = c.args.self.now.rest.items in
    let at : c.in-Some.behind ≡ c.args.place - length xs = omega arith in
    ap (λ l. xs ++ l) (c.remove.ensures.items ∙ ap (remove ys) at)
    ∙ sym (remove-append_right xs ys (length xs) c.args.place refl (omega arith))
