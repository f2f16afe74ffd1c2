use Rattle.std.proofs.Common.{◌≡◌, IsTrue, nat_eq, length, Some, rules}
use Rattle.local_clients.specs.Clients.{client_at}
use Rattle.local_clients.proofs.PassedOver.{none_left, nothing_comes}
use Rattle.local_clients.proofs.table.Table.passes_over.Goals as goal

pub returns-then-is_empty : goal.returns-then-is_empty
returns-then-is_empty c = λ passed rules_kept.
    let t = c.args.self.now in
    let client = c.in-Some.client.now in
    let found : client_at c.args.id t.opened ≡ Some client = search rules in
    let none : IsTrue (nat_eq (length client.rest) 0) = search rules in
    nothing_comes rules_kept c.args.id c.args.bytes.now t client found (none_left client.rest none) c.requires.opened_rise c.requires.apart
    (c.are_passed_over.ensures.segments passed) (c.are_passed_over.ensures.rest passed)
