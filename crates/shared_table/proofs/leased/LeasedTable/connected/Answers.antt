use Rattle.std.proofs.Common.{◌+◌, refl}
use Rattle.conn_state.specs.Moves.{connected}
use Rattle.shared_table.proofs.LeaseLemmas.{kept-moved, all_stay}
use Rattle.shared_table.proofs.leased.LeasedTable.connected.Goals as goal

pub invariant_of-self : goal.invariant_of-self
invariant_of-self c =
    let leases = c.self.inside.leases.items in
    rw c.connected.ensures
    (kept-moved leases leases c.args.cid.0 (connected (c.args.now + c.self.inside.table.settings.handshake)) c.self.inside.table.facts (λ f. refl)
    (all_stay c.args.cid.0 leases) (λ f found used. c.self.invariant c.args.cid.0 f found used) c.self.invariant)
