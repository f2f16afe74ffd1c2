use Rattle.std.proofs.Common.{sym, ◌∙◌}
use Rattle.std.proofs.lemmas.Result.{err_from_is_err_and}
use Rattle.cbor_items.proofs.Loops.{item_is_flat}
use Rattle.cbor_items.proofs.Resumes.{flat_opens, bytes_open, text_opens}
use Rattle.cbor_items.proofs.opening.begin_flat.Goals as goal

pub returns-in-95 : goal.returns-in-95
returns-in-95 c inner = rw c.in-95.is (bytes_open c.args.bytes.now inner)

pub returns-in-127 : goal.returns-in-127
returns-in-127 c inner = rw c.in-127.is (text_opens c.args.bytes.now inner)

pub returns-in_err-rest-in_default : goal.returns-in_err-rest-in_default
returns-in_err-rest-in_default c inner =
    let p = err_from_is_err_and c.from_residual.result c.from_residual.ensures.1 in
    rw (p.1, p.2) (sym (item_is_flat 0 c.args.item.now c.args.initial c.args.bytes.now c.requires.initial c.requires.flat) ∙ c.in_err-rest-in_default.ensures)

pub returns-in_ok-rest-in_default : goal.returns-in_ok-rest-in_default
returns-in_ok-rest-in_default c inner = flat_opens c.args.initial c.args.bytes.now c.in_ok-rest-in_default.rest.now
    (sym (item_is_flat 0 c.args.item.now c.args.initial c.args.bytes.now c.requires.initial c.requires.flat) ∙ c.in_ok-rest-in_default.ensures) inner
