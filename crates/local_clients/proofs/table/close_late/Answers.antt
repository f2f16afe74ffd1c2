use Rattle.std.proofs.Common.{◌++◌, ℕ, List, sym, ap, ◌∙◌, map}
use Rattle.std.proofs.lemmas.List.{append-nil}
use Rattle.local_clients.specs.declared.client.GreetingClient.{GreetingClient}
use Rattle.local_clients.specs.Clients.{waited_too_long}
use Rattle.local_clients.proofs.Keeps.{none_is_late}
use Rattle.local_clients.proofs.table.close_late.Goals as goal

pub returns-clause-greeting : goal.returns-clause-greeting
returns-clause-greeting c =
    let none = none_is_late c.args.now c.loop-id.greeting.entries c.in_default.ensures.1 c.loop-id.invariant.rise in
    c.in_default.ensures.0 ∙ sym none.1 ∙ c.loop-id.invariant.left

pub returns-clause-actions : goal.returns-clause-actions
returns-clause-actions c =
    let none = none_is_late c.args.now c.loop-id.greeting.entries c.in_default.ensures.1 c.loop-id.invariant.rise in
    sym (append-nil c.loop-id.actions) ∙ sym (ap (λ (l : List (ℕ × GreetingClient)). c.loop-id.actions ++ map waited_too_long l) none.0) ∙ c.loop-id.invariant.closed
