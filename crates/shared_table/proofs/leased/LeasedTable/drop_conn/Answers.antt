use Rattle.shared_table.proofs.LeaseLemmas.{kept-without, all_stay}
use Rattle.shared_table.proofs.leased.LeasedTable.drop_conn.Goals as goal

pub invariant_of-self : goal.invariant_of-self
invariant_of-self c =
    rw (c.drop_leased.ensures, c.taken-lease.ensures.lease)
    (kept-without c.self.inside.leases.items c.taken-lease.new.leases.items c.args.cid.0 c.self.inside.table.facts c.taken-lease.ensures.others c.self.invariant)

pub invariant_of-self-else-is_some_and : goal.invariant_of-self-else-is_some_and
invariant_of-self-else-is_some_and c =
    let leases = c.self.inside.leases.items in
    rw c.drop_conn.ensures (kept-without leases leases c.args.cid.0 c.self.inside.table.facts (all_stay c.args.cid.0 leases) c.self.invariant)
