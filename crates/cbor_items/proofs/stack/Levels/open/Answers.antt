use Rattle.std.proofs.Common.{◌-◌, length, sym, ◌∙◌}
use Rattle.std.specs.Prelude.{reverse}
use Rattle.cbor_items.specs.Item.{level_limit}
use Rattle.cbor_items.specs.Scan.{skip_item}
use Rattle.cbor_items.proofs.Resumes.{done_is, opened_skips, nothing_opened}
use Rattle.cbor_items.proofs.stack.Levels.open.Goals as goal

pub returns-then-is_done-clause-opened : goal.returns-then-is_done-clause-opened
returns-then-is_done-clause-opened c bytes =
    let around = c.args.self.now.around.items in
    rw (done_is c.args.inner (sym c.is_done.ensures ∙ c.if-is_done.true))
    (nothing_opened (skip_item (level_limit - length (reverse around) - 1)) c.args.after around bytes)

pub returns-clause-opened : goal.returns-clause-opened
returns-clause-opened c bytes =
    rw c.in_ok-push.ensures.items (opened_skips c.args.inner c.args.after c.args.self.now.around.items bytes)
