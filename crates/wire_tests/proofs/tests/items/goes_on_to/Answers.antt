use Rattle.std.proofs.Common.{take, drop, subst}
use Rattle.std.proofs.lemmas.List.{take-append-drop}
use Rattle.cbor_items.specs.Resume.{HasSeen}
use Rattle.cbor_items.proofs.Resumes.{stays_seen}
use Rattle.wire_tests.proofs.tests.items.goes_on_to.Goals as goal

pub resume-after-requires : goal.resume-after-requires
resume-after-requires c =
    let bytes = c.args.bytes.now in
    let n = c.args.first in
    subst (HasSeen c.resume-before.new.self) (take-append-drop n bytes) (stays_seen c.resume-before.new.self (take n bytes) (drop n bytes) c.resume-before.ensures.seen)
