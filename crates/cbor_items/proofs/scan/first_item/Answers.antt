use Rattle.std.proofs.Common.{Err}
use Rattle.cbor_items.specs.declared.stop.Stop.TheVariants.{More, Bad, Deep}
use Rattle.cbor_items.proofs.Meaning.{rest_is_shorter, scanned, means, only}
use Rattle.cbor_items.proofs.scan.first_item.Goals as goal

pub overflow_sub-result : goal.overflow_sub-result
overflow_sub-result c = rest_is_shorter _ c.args.bytes.now c.in-Ok.rest.now c.in-Ok.ensures

pub returns-in-Ok : goal.returns-in-Ok
returns-in-Ok c =
    let bytes = c.args.bytes.now in
    let scan = scanned bytes _ c.in-Ok.ensures in
    record { scan = scan; means = means bytes _ scan; only = λ answer is. only bytes _ answer scan is }

pub returns-in-Err-More : goal.returns-in-Err-More
returns-in-Err-More c =
    let bytes = c.args.bytes.now in
    let scan = scanned bytes (Err More) (rw c.in-Err-More.field-0-is at c.in-Err-More.ensures) in
    record { scan = scan; means = means bytes _ scan; only = λ answer is. only bytes _ answer scan is }

pub returns-in-Err-Bad : goal.returns-in-Err-Bad
returns-in-Err-Bad c =
    let bytes = c.args.bytes.now in
    let scan = scanned bytes (Err Bad) (rw c.in-Err-Bad.field-0-is at c.in-Err-Bad.ensures) in
    record { scan = scan; means = means bytes _ scan; only = λ answer is. only bytes _ answer scan is }

pub returns-in-Err-Deep : goal.returns-in-Err-Deep
returns-in-Err-Deep c =
    let bytes = c.args.bytes.now in
    let scan = scanned bytes (Err Deep) (rw c.in-Err-Deep.field-0-is at c.in-Err-Deep.ensures) in
    record { scan = scan; means = means bytes _ scan; only = λ answer is. only bytes _ answer scan is }
