-- Connections that end: one of too many, one that gives way to another, one whose time is over.
use Rattle.std.proofs.Common.{◌≡◌, ℕ, ◌<◌, ◌≤◌, true, List, Option, Some, None, IfSome, IsSomeAnd, All, refl, sym, ap, subst, ◌∙◌}
use Rattle.std.specs.Option.{unwrap_or}
use Rattle.std.proofs.lemmas.Bool.{lt-leb, and_parts}
use Rattle.std.proofs.lemmas.List.Elements.{All-nil, All-contains}
use Rattle.accept_gate.specs.Prune.{choice_of}
use Rattle.conn_state.specs.Use.{is_live, is_live_at}
use Rattle.conn_table.specs.Answers.{is_due}
use Rattle.net_base.proofs.AddressOrder.{same_address-is}
use Rattle.laws.specs.Sound.{IsOrderly}
use Rattle.laws.proofs.Counts.{is_late}
use Rattle.laws.proofs.Firing.{all_one, due_of, grace-among}
use Rattle.laws.proofs.Lists.{find_some}
use Rattle.laws.proofs.Moves.{ending-lowers}
use Rattle.laws.proofs.Ties.{gone_here}
use Rattle.machine.specs.Connections.{ending, without_entry, trim, candidates_in}
use Rattle.machine.specs.Deadlines.{due, grace_deadlines}
use Rattle.timer_queue.specs.Timers.{timer}
use Rattle.machine.specs.Effect.{then_do}
use Rattle.machine.specs.Events.{admitted, crossed}
use Rattle.machine.specs.Machine.{Machine, Entry, counted_in, entry_at, live_entry_at}
use Rattle.net_base.specs.Address.{same_address, address_below}
use Rattle.net_base.specs.declared.action.Action.{Action}
use Rattle.net_base.specs.declared.action.CloseCause.TheVariants.{Pruned, Overwritten}
use Rattle.net_base.specs.declared.address.Addr.{Addr}
use Rattle.net_base.specs.declared.connection.Cid.{Cid}
use Rattle.net_base.specs.declared.connection.Facts.{Facts}
use Rattle.net_base.specs.declared.connection.Grace.{Grace}
use Rattle.net_base.specs.declared.connection.Grace.TheVariants.{Off, ForRemote, ForLocal}
use Rattle.net_base.specs.declared.timer.Deadline.{Deadline}
use Rattle.net_base.specs.declared.timer.Kind.TheVariants.{Grace as GraceKind}
use Rattle.node_engine.specs.State.{Does, DoesTo, IsKnown}
use Rattle.node_engine.proofs.Doings.{known, at_entry, of_entry, does_then}

some_same : {X : Type 0} (x y : X) → Some x ≡ Some y → x ≡ y
some_same x y e = cc

-- ---- one of too many

pub trim_does : (moved cid : Cid) (facts : Facts) (m n : Machine) (before after : List Action) → m.settings.hard < counted_in m →
    cid ≡ unwrap_or (choice_of (candidates_in m)) moved → facts.cid ≡ cid → IsKnown facts m →
    DoesTo facts.cid.0 (ending Pruned) before m n after → Does (trim moved m) before n after
trim_does moved cid facts m n before after many chosen own h ends =
    let it = known facts m h in
    let there : entry_at (unwrap_or (choice_of (candidates_in m)) moved).0 m ≡ Some it.0 =
    subst (λ (i : Cid). entry_at i.0 m ≡ Some it.0) (own ∙ chosen) it.1 in
    let effect : trim moved m ≡ ending Pruned it.0 m = rw (lt-leb (counted_in m) m.settings.hard many, there) refl in
    subst (λ x. Does x before n after) (sym effect) (of_entry (λ e. Does (ending Pruned e m) before n after) (entry_at facts.cid.0 m) it.0 it.1 ends)

-- ---- one that gives way to another

-- The live connection of an address has gone, and there is none any more.
pub record GivesWay (addr : Addr) (m n : Machine) (before after : List Action) : Type 0 where
  pub entry : Entry
  pub there : live_entry_at addr m ≡ Some entry
  pub ends : Does (ending Overwritten entry m) before n after
  pub none_left : live_entry_at addr n ≡ None
  pub counted : counted_in n ≤ counted_in m
  pub settings : n.settings ≡ m.settings
  pub next_id : n.next_id ≡ m.next_id

live_one : (addr : Addr) (facts : Facts) (m : Machine) → IsSomeAnd (live_entry_at addr m) (λ e. e.facts ≡ facts) →
    (e : Entry) × (live_entry_at addr m ≡ Some e) × (e.facts ≡ facts)
live_one addr facts m h = some (live_entry_at addr m) h
  where
    some : (o : Option Entry) → IsSomeAnd o (λ e. e.facts ≡ facts) → (e : Entry) × (o ≡ Some e) × (e.facts ≡ facts)
    some None k = absurd k
    some (Some e) k = (e, refl, k)

pub gives_way : (addr : Addr) (facts : Facts) (m n : Machine) (before after : List Action) → IsOrderly m →
    IsSomeAnd (live_entry_at addr m) (λ e. e.facts ≡ facts) → IfSome (live_entry_at addr m) (λ e. entry_at e.facts.cid.0 m ≡ Some e) →
    DoesTo facts.cid.0 (ending Overwritten) before m n after → GivesWay addr m n before after
gives_way addr facts m n before after orderly live by_id does =
    let it = live_one addr facts m live in
    let e : Entry = it.0 in
    let own : entry_at e.facts.cid.0 m ≡ Some e = of_entry (λ x. entry_at x.facts.cid.0 m ≡ Some x) (live_entry_at addr m) e it.1 by_id in
    let ends : Does (ending Overwritten e m) before n after =
    of_entry (λ x. Does (ending Overwritten x m) before n after) (entry_at e.facts.cid.0 m) e own
    (subst (λ f. DoesTo f.cid.0 (ending Overwritten) before m n after) (sym it.2) does) in
    let found = find_some (λ x. is_live_at addr x.facts) m.connections e it.1 in
    let parts = and_parts (same_address e.facts.addr addr) (is_live e.facts) found.passes in
    let lowers = ending-lowers Overwritten m e found.place orderly found.stands in
    let gone : live_entry_at e.facts.addr (without_entry e.facts.cid.0 m) ≡ None = gone_here m e found.place orderly found.stands parts.1 in
    let none : live_entry_at addr (ending Overwritten e m).machine ≡ None =
    subst (λ a. live_entry_at a (without_entry e.facts.cid.0 m) ≡ None) (same_address-is e.facts.addr addr parts.0) gone in
    record {
      entry = e;
      there = it.1;
      ends = ends;
      none_left = subst (λ w. live_entry_at addr w ≡ None) (sym ends.machine_is) none;
      counted = subst (λ w. counted_in w ≤ counted_in m) (sym ends.machine_is) lowers.counted;
      settings = ap (λ (w : Machine). w.settings) ends.machine_is;
      next_id = ap (λ (w : Machine). w.next_id) ends.machine_is;
    }

pub cross_does : (addr : Addr) (m n p : Machine) (before middle after : List Action) → address_below addr m.settings.own ≡ true →
    GivesWay addr m n before middle → Does (admitted addr n) middle p after →
    IfSome (live_entry_at addr m) (λ e. Does (crossed addr e m) before p after)
cross_does addr m n p before middle after below h comes =
    let effect : crossed addr h.entry m ≡ then_do (ending Overwritten h.entry m) (admitted addr) = rw below refl in
    at_entry (λ e. Does (crossed addr e m) before p after) (live_entry_at addr m) h.entry h.there
    (subst (λ x. Does x before p after) (sym effect)
    (does_then (ending Overwritten h.entry m) (admitted addr) before middle after n p h.ends comes))

-- ---- one whose grace is over

late-due : (now : ℕ) (cid : Cid) (grace : Grace) → All (λ d. is_late now d ≡ true → is_due now grace ≡ true) (grace_deadlines cid grace)
late-due now cid Off = All-nil (λ d. is_late now d ≡ true → is_due now Off ≡ true)
late-due now cid (ForRemote until) =
    all_one (λ d. is_late now d ≡ true → is_due now (ForRemote until) ≡ true) (timer cid GraceKind until) (λ late. late)
late-due now cid (ForLocal until) =
    all_one (λ d. is_late now d ≡ true → is_due now (ForLocal until) ≡ true) (timer cid GraceKind until) (λ late. late)

-- where the deadline that fires next is a grace's, it is that of the connection with its id
pub grace_due : (d : Deadline) (facts : Facts) (m : Machine) → IsOrderly m → due m ≡ Some d → facts.cid ≡ d.cid → IsKnown facts m →
    d.kind ≡ GraceKind → is_due m.now facts.grace ≡ true
grace_due d facts m orderly next own h kind =
    let fires = due_of m d orderly next in
    let it = known facts m h in
    let same : fires.owner ≡ it.0 = some_same fires.owner it.0 (sym fires.found ∙ (ap (λ (i : Cid). entry_at i.0 m) (sym own) ∙ it.1)) in
    let over : is_due m.now fires.owner.facts.grace ≡ true =
    All-contains (λ x. is_late m.now x ≡ true → is_due m.now fires.owner.facts.grace ≡ true) (grace_deadlines fires.owner.facts.cid fires.owner.facts.grace) d
    (late-due m.now fires.owner.facts.cid fires.owner.facts.grace) (grace-among fires.owner d fires.among kind) fires.late in
    subst (λ f. is_due m.now f.grace ≡ true) (ap (λ (e : Entry). e.facts) same ∙ it.2) over
