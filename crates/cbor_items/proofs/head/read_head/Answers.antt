use Rattle.std.proofs.Common.{sym, ◌∙◌}
use Rattle.cbor_items.proofs.Heads.{head_stands, only_head, head_is_found}
use Rattle.cbor_items.proofs.head.read_head.Goals as goal

pub returns-in-Ok : goal.returns-in-Ok
returns-in-Ok c =
    let bytes = c.args.bytes.now in
    let is = head_is_found bytes _ c.in-Ok.ensures in
    record { head = is; some = head_stands bytes c.in-Ok.head (sym is); only = λ head n spelled. is ∙ only_head bytes head n spelled }

pub returns-in-Err : goal.returns-in-Err
returns-in-Err c =
    let bytes = c.args.bytes.now in
    let is = head_is_found bytes _ c.in-Err.ensures in
    record { head = is; some = tt; only = λ head n spelled. is ∙ only_head bytes head n spelled }
