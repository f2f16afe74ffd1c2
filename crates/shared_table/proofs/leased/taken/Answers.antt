use Rattle.std.proofs.Common.{◌==◌, sym, ap, ◌∙◌}
use Rattle.std.specs.List.{position}
use Rattle.shared_table.proofs.LeaseLemmas.{found_place, lease_found, stay-swap_remove}
use Rattle.shared_table.proofs.leased.taken.Goals as goal

pub unreachable-requires : goal.unreachable-requires
unreachable-requires c =
    found_place c.args.cid.0 c.args.leases.now.items c.requires
    (sym (ap (position (λ lease. lease.0 == c.args.cid.0)) c.as_slice.ensures.value) ∙ (sym c.place_of.ensures ∙ c.in_default.is))

pub returns-clause-lease : goal.returns-clause-lease
returns-clause-lease c =
    (lease_found c.args.cid c.args.leases.now.items c.in-Some.place c.swap_remove.result
    (sym (c.in-Some.ensures ∙ ap (position (λ lease. lease.0 == c.args.cid.0)) c.as_slice.ensures.value)) c.swap_remove.ensures.value).1

pub returns-clause-others : goal.returns-clause-others
returns-clause-others c =
    let found = lease_found c.args.cid c.args.leases.now.items c.in-Some.place c.swap_remove.result
    (sym (c.in-Some.ensures ∙ ap (position (λ lease. lease.0 == c.args.cid.0)) c.as_slice.ensures.value)) c.swap_remove.ensures.value in
    rw c.swap_remove.ensures.items
    (stay-swap_remove c.args.cid.0 c.args.leases.now.items c.in-Some.place c.swap_remove.result found.0 c.swap_remove.ensures.value (ap (λ l. l.0) found.1))
