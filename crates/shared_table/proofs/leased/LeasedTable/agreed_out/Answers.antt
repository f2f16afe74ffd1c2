use Rattle.std.proofs.Common.{◌≡◌, ◌+◌, [], ◌∷◌, ◌++◌, true, sym, subst}
use Rattle.conn_table.specs.Choices.{negotiated}
use Rattle.conn_table.specs.Calls.{negotiated_lease}
use Rattle.shared_table.specs.Calls.{lease_reply}
use Rattle.shared_table.specs.Leases.{is_kept}
use Rattle.shared_table.specs.declared.reply.TableReply.TheVariants.{Leased}
use Rattle.shared_table.proofs.LeaseLemmas.{kept-moved, is_kept-last, stay-push, negotiated_id, lease_there, agreed_reply}
use Rattle.shared_table.proofs.leased.LeasedTable.agreed_out.Goals as goal

pub invariant_of-self-2 : goal.invariant_of-self-2
invariant_of-self-2 c =
    let leases = c.self.inside.leases.items in
    let lease = c.in-Some.lease in
    let cid = c.args.cid in
    let one : lease.0 ≡ cid.0 = lease_there c.args.now cid.0 c.self.inside.table lease (rw (sym c.self.view_is) at c.requires) c.in-Some.ensures.lease in
    rw (c.push_reserved.ensures.items, c.in_ok-reserve.ensures.items, c.in-Some.ensures.table)
    (kept-moved leases (leases ++ lease ∷ []) cid.0 (negotiated c.args.agreed (c.args.now + c.self.inside.table.settings.idle)) c.self.inside.table.facts (negotiated_id _ _)
    (stay-push cid.0 leases lease) (λ f found used. subst (λ n. is_kept n (leases ++ lease ∷ []) ≡ true) one (is_kept-last leases lease)) c.self.invariant)

pub returns-clause-reply : goal.returns-clause-reply
returns-clause-reply c =
    subst (λ t. Leased c.args.cid ≡ lease_reply (negotiated_lease c.args.cid.0 t)) c.self.view_is
    (agreed_reply c.args.now c.args.cid c.self.inside.table c.in-Some.lease (rw (sym c.self.view_is) at c.requires) c.in-Some.ensures.lease)
