use Rattle.std.proofs.Common.{◌+◌, refl}
use Rattle.conn_state.specs.Moves.{accepted}
use Rattle.shared_table.proofs.LeaseLemmas.{kept-push}
use Rattle.shared_table.proofs.leased.LeasedTable.admit.Goals as goal

pub invariant_of-self-2 : goal.invariant_of-self-2
invariant_of-self-2 c =
    let t = c.self.inside.table in
    rw c.in_ok-cid.ensures.ok (kept-push c.self.inside.leases.items t.facts (accepted (t.given + 1) c.args.addr (c.args.now + t.settings.handshake)) refl c.self.invariant)
