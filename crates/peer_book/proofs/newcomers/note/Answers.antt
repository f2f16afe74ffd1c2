use Rattle.std.proofs.Common.{◌∙◌, not, ap, inl, inr, List}
use Rattle.std.proofs.lemmas.Bool.{cases_Bool}
use Rattle.net_base.specs.declared.address.Addr.{Addr}
use Rattle.peer_book.specs.Addresses.{has_address}
use Rattle.peer_book.proofs.Noted.{held-is, noted-is}
use Rattle.peer_book.proofs.newcomers.note.Goals as goal

pub returns-clause-new : goal.returns-clause-new
returns-clause-new c = c.in_ok-insert.ensures.added ∙ ap not (held-is c.args.addr c.args.sorted.now.keys)

pub returns-clause-keys : goal.returns-clause-keys
returns-clause-keys c =
    let keys : List Addr = c.args.sorted.now.keys in
    let added = returns-clause-new c in
    elim (cases_Bool (has_address c.args.addr keys)) [
      | inl there ↦ rw there (rw (added, there) at c.in_ok-insert.ensures.unchanged)
      | inr absent ↦ rw absent (c.in_ok-insert.ensures.keys ∙ noted-is c.args.addr keys absent)
    ]
