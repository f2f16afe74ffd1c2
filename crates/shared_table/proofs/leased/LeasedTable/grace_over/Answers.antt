use Rattle.std.proofs.Common.{◌+◌}
use Rattle.conn_table.specs.Choices.{grace_ended}
use Rattle.shared_table.proofs.LeaseLemmas.{grace_ended_used, grace_ended_id, kept-moved, all_stay}
use Rattle.shared_table.proofs.leased.LeasedTable.grace_over.Goals as goal

pub invariant_of-self : goal.invariant_of-self
invariant_of-self c =
    let leases = c.self.inside.leases.items in
    rw c.grace_over.ensures.table
    (kept-moved leases leases c.args.cid.0 (grace_ended (c.args.now + c.self.inside.table.settings.timewait)) c.self.inside.table.facts (grace_ended_id _)
    (all_stay c.args.cid.0 leases) (λ f found used. c.self.invariant c.args.cid.0 f found (grace_ended_used _ f used)) c.self.invariant)
