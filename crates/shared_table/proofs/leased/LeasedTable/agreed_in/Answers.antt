use Rattle.std.proofs.Common.{◌+◌, sym}
use Rattle.conn_table.specs.Choices.{negotiated}
use Rattle.shared_table.proofs.LeaseLemmas.{negotiated_in, negotiated_id, inbound_there, kept-moved, all_stay}
use Rattle.shared_table.proofs.leased.LeasedTable.agreed_in.Goals as goal

pub invariant_of-self : goal.invariant_of-self
invariant_of-self c =
    let leases = c.self.inside.leases.items in
    let cid = c.args.cid.0 in
    let t = c.self.inside.table in
    rw c.negotiated-none.ensures.table
    (kept-moved leases leases cid (negotiated c.args.agreed (c.args.now + t.settings.idle)) t.facts (negotiated_id _ _) (all_stay cid leases)
    (λ f found used. c.self.invariant cid f found (negotiated_in _ _ f (inbound_there c.args.now cid t f found (rw (sym c.self.view_is) at c.requires)) used)) c.self.invariant)
