use Rattle.std.proofs.Common.{◌≡◌, List, length, nat_eq, false, sym, ◌∙◌}
use Rattle.std.proofs.lemmas.Bool.{false≢true, true≢false}
use Rattle.net_base.specs.declared.address.Addr.{Addr}
use Rattle.peer_book.proofs.Parts.{not_empty}
use Rattle.peer_book.proofs.row.Row.is_empty.Goals as goal

pub returns-else-is_empty : goal.returns-else-is_empty
returns-else-is_empty c =
    let xs : List Addr = c.args.self.now.chunks in
    let ys : List Addr = c.args.self.now.rest.items in
    let some : nat_eq (length xs) 0 ≡ false = sym c.is_empty.ensures ∙ c.if-is_empty.false in (
      λ t. absurd (true≢false (sym t ∙ c.if-is_empty.false)),
      λ none. absurd (false≢true (not_empty xs ys some none)),
    )
