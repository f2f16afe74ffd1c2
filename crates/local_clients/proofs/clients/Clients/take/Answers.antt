use Rattle.std.proofs.Common.{◌+◌, ◌<◌, sym, ap, subst, ◌∙◌, arith}
use Rattle.local_clients.specs.Clients.{ClientTable, ClientsState, open_version, stepped}
use Rattle.local_clients.specs.Kept.{AreKept}
use Rattle.local_clients.specs.Law.{TurnsAway, LeavesOpen}
use Rattle.local_clients.proofs.Keeps.{kept_after}
use Rattle.local_clients.proofs.Laws.{stays_open, turns_away}
use Rattle.local_clients.proofs.clients.Clients.take.Goals as goal

pub invariant_of-self : goal.invariant_of-self
invariant_of-self c =
    let before = c.self.inside in
    let few : before.taken < 1000000 = omega (arith, c.requires.few, ap (λ (s : ClientsState). s.taken) c.self.view_is) in
    subst (λ (t : ClientTable). AreKept (record { rules = before.rules; taken = before.taken + 1; table = t })) (sym c.in-Ok.ensures.table)
    (kept_after (record { rules = before.rules; taken = before.taken; table = before.table }) few c.self.invariant c.args.event.now c.requires.event)

pub returns-in-Ok-clause-few : goal.returns-in-Ok-clause-few
returns-in-Ok-clause-few c =
    let before = c.self.inside in
    let few : before.taken < 1000000 = omega (arith, c.requires.few, ap (λ (s : ClientsState). s.taken) c.self.view_is) in
    let kept = subst (λ (t : ClientTable). AreKept (record { rules = before.rules; taken = before.taken + 1; table = t })) (sym c.in-Ok.ensures.table)
    (kept_after (record { rules = before.rules; taken = before.taken; table = before.table }) few c.self.invariant c.args.event.now c.requires.event) in
    kept.limit

pub returns-in-Ok-clause-turned_away : goal.returns-in-Ok-clause-turned_away
returns-in-Ok-clause-turned_away c =
    let before = c.self.inside in
    subst (λ (s : ClientsState). TurnsAway s.rules c.args.event.now s.table c.in-Ok.actions) c.self.view_is
    (subst (TurnsAway before.rules c.args.event.now before.table) (sym c.in-Ok.ensures.actions) (turns_away before.rules c.args.event.now before.table))

pub returns-in-Ok-clause-stays : goal.returns-in-Ok-clause-stays
returns-in-Ok-clause-stays c = λ id version open_now.
    let before = c.self.inside in
    let event = c.args.event.now in
    let open_before = ap (λ (s : ClientsState). open_version id s.table) c.self.view_is ∙ open_now in
    subst (LeavesOpen event id version c.take.new.self) (sym c.in-Ok.ensures.actions)
    (subst (λ (t : ClientTable). LeavesOpen event id version t (stepped before.rules event before.table).actions) (sym c.in-Ok.ensures.table)
    (stays_open before.rules before.table c.self.invariant.apart event id version open_before))
