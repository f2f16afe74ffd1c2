use Rattle.std.proofs.Common.{◌+◌, refl}
use Rattle.conn_state.specs.Moves.{idled}
use Rattle.shared_table.proofs.LeaseLemmas.{kept-moved, all_stay}
use Rattle.shared_table.proofs.leased.LeasedTable.idle.Goals as goal

pub invariant_of-self : goal.invariant_of-self
invariant_of-self c =
    let leases = c.self.inside.leases.items in
    rw c.idle.ensures
    (kept-moved leases leases c.args.cid.0 (idled c.args.protocol (c.args.now + c.self.inside.table.settings.idle)) c.self.inside.table.facts (λ f. refl)
    (all_stay c.args.cid.0 leases) (λ f found used. c.self.invariant c.args.cid.0 f found used) c.self.invariant)
