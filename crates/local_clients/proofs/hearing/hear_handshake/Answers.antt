use Rattle.std.proofs.Common.{◌≡◌, length, Ok, Some, sym, ap, ◌∙◌, arith}
use Rattle.cbor_items.specs.Scan.{scan_of}
use Rattle.mux_segment.specs.Steps.{next_of}
use Rattle.mux_segment.proofs.Takes.{next_again, next_item_is}
use Rattle.local_clients.specs.Hearing.{handshake_limit}
use Rattle.local_clients.proofs.hearing.hear_handshake.Goals as goal

pub hear_item-requires : goal.hear_item-requires
hear_item-requires c =
    let part = c.as_slice-2.result.now in
    let scanned : c.in_ok-scan.scan ≡ scan_of part = c.in_ok-scan.ensures.scan ∙ ap scan_of (sym (c.as_slice-2.ensures ∙ c.in_ok-scan.ensures.bytes)) in
    let next : next_of c.in_ok-scan.scan handshake_limit part ≡ Ok (Some c.in-Ok-Some.size) = cc in
    let within = (next_item_is handshake_limit part c.in-Ok-Some.size (next_again handshake_limit part c.in_ok-scan.scan _ scanned next)).within in
    omega (arith, within, ap length c.as_slice-2.ensures, ap length c.as_slice-in-Ok-Some.ensures)
