use Rattle.std.proofs.Common.{◌+◌, refl}
use Rattle.conn_state.specs.Moves.{released}
use Rattle.shared_table.proofs.LeaseLemmas.{kept-moved, unused}
use Rattle.shared_table.proofs.leased.LeasedTable.release.Goals as goal

pub invariant_of-self : goal.invariant_of-self
invariant_of-self c =
    rw (c.release.ensures, c.taken-lease.ensures.lease)
    (kept-moved c.self.inside.leases.items c.taken-lease.new.leases.items c.args.cid.0 (released (c.args.now + c.self.inside.table.settings.idle))
    c.self.inside.table.facts (λ f. refl) c.taken-lease.ensures.others (λ f found used. unused used) c.self.invariant)
