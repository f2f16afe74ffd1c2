use Rattle.std.proofs.Common.{[], ◌∷◌, ◌++◌, refl}
use Rattle.conn_state.specs.Moves.{acquired}
use Rattle.shared_table.proofs.LeaseLemmas.{kept-acquired, kept-moved, is_kept-last, stay-push}
use Rattle.shared_table.proofs.leased.LeasedTable.acquire.Goals as goal

pub invariant_of-self-in-Leased : goal.invariant_of-self-in-Leased
invariant_of-self-in-Leased c =
    let leases = c.self.inside.leases.items in
    let cid = c.in-Leased.lease in
    rw (c.push_reserved.ensures.items, c.in_ok-reserve.ensures.items, c.in-Leased.ensures.table)
    (kept-acquired (leases ++ cid ∷ []) cid c.args.addr c.self.inside.table c.in-Leased.ensures.answer
    (kept-moved leases (leases ++ cid ∷ []) cid.0 acquired c.self.inside.table.facts (λ f. refl)
    (stay-push cid.0 leases cid) (λ f found used. is_kept-last leases cid) c.self.invariant))
