use Rattle.std.proofs.Common.{sym, ap, ◌∙◌, is_some, slice_get}
use Rattle.peer_book.specs.Order.{found_at}
use Rattle.peer_book.proofs.Places.{find-place}
use Rattle.peer_book.proofs.leaving.has.Goals as goal

pub returns : goal.returns
returns c =
    c.is_at.ensures
    ∙ (ap (λ n. is_some (found_at (λ a. a) c.args.addr (slice_get c.args.addrs.now n))) c.place_of.ensures
    ∙ sym (ap is_some (find-place (λ a. a) c.args.addr c.args.addrs.now c.requires)))
