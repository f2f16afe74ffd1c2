use Rattle.cbor_items.specs.Scan.{skip_item}
use Rattle.cbor_items.proofs.Resumes.{nested_opens}
use Rattle.cbor_items.proofs.opening.begin_nested.Goals as goal

pub returns : goal.returns
returns c =
    nested_opens (skip_item c.args.inner) c.args.initial c.args.bytes.now c.in_ok-head.head c.in_ok-head.rest.now c.level_of.result
    c.in_ok-head.ensures c.level_of.ensures
