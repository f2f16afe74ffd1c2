use Rattle.std.proofs.Common.{refl}
use Rattle.conn_state.specs.Moves.{awakened}
use Rattle.shared_table.proofs.LeaseLemmas.{kept-moved, all_stay}
use Rattle.shared_table.proofs.leased.LeasedTable.awake.Goals as goal

pub invariant_of-self : goal.invariant_of-self
invariant_of-self c =
    let leases = c.self.inside.leases.items in
    rw c.awake.ensures
    (kept-moved leases leases c.args.cid.0 (awakened c.args.protocol) c.self.inside.table.facts (λ f. refl)
    (all_stay c.args.cid.0 leases) (λ f found used. c.self.invariant c.args.cid.0 f found used) c.self.invariant)
