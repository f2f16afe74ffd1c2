-- A connection that was found by its address: it is in local use where it was so found, and what is done to it is done at the address.
use Rattle.std.proofs.Common.{◌≡◌, true, List, find, Option, Some, None, IfSome, subst, ap, ◌∙◌}
use Rattle.std.specs.Option.{option_map}
use Rattle.std.proofs.lemmas.Bool.{and_parts}
use Rattle.conn_state.specs.Use.{is_live_at}
use Rattle.net_base.specs.declared.address.Addr.{Addr}
use Rattle.net_base.specs.declared.connection.Facts.{Facts}
use Rattle.laws.specs.OrderNeeds.{IsFree}
use Rattle.machine.specs.Connections.{acquire}
use Rattle.machine.specs.Effect.{Effect, on_entry}
use Rattle.machine.specs.Govern.{is_used_at, on_used, promote, promoted_at}
use Rattle.machine.specs.Machine.{Machine, Entry, entry_at, live_entry_at}
use Rattle.net_base.specs.declared.action.Action.{Action}
use Rattle.node_engine.specs.State.{Does, DoesTo}
use Rattle.node_engine.proofs.FindLemmas.{IfSome-find}

pub used-local : (addr : Addr) (es : List Entry) (f : Facts) → Some f ≡ option_map (λ (e : Entry). e.facts) (find (is_used_at addr) es) → f.local ≡ true
used-local addr es f found = by_entry (find (is_used_at addr) es) (IfSome-find (is_used_at addr) es) found
  where
    by_entry : (o : Option Entry) → IfSome o (λ e. is_used_at addr e ≡ true) → Some f ≡ option_map (λ (e : Entry). e.facts) o → f.local ≡ true
    by_entry None passes is = absurd cc
    by_entry (Some e) passes is =
        let same : f ≡ e.facts = cc in
        ap (λ (g : Facts). g.local) same ∙ (and_parts (is_live_at addr e.facts) e.facts.local passes).1

-- what is done to the connection that was found is what is to be done at the address
pub used_does : (addr : Addr) (f : Facts) (act : Entry → Machine → Effect) (m old new : Machine) (before after : List Action) → old ≡ m →
    Some f ≡ option_map (λ (e : Entry). e.facts) (find (is_used_at addr) m.connections) →
    IfSome (find (is_used_at addr) m.connections) (λ e. entry_at e.facts.cid.0 m ≡ Some e) →
    DoesTo f.cid.0 act before old new after → Does (on_used addr act m) before new after
used_does addr f act m old new before after same found by_id done =
    by_entry (find (is_used_at addr) m.connections) found by_id (subst (λ (k : Machine). DoesTo f.cid.0 act before k new after) same done)
  where
    by_entry : (o : Option Entry) → Some f ≡ option_map (λ (e : Entry). e.facts) o → IfSome o (λ e. entry_at e.facts.cid.0 m ≡ Some e) →
        DoesTo f.cid.0 act before m new after → Does (on_entry o act m) before new after
    by_entry None is stands done = absurd cc
    by_entry (Some e) is stands done =
        let facts_are : f ≡ e.facts = cc in
        subst (λ o. IfSome o (λ e. Does (act e m) before new after)) stands
        (subst (λ (g : Facts). DoesTo g.cid.0 act before m new after) facts_are done)

-- and the live one, which can be taken into use, is
pub acquired_does : (addr : Addr) (f : Facts) (m old new : Machine) (before after : List Action) → old ≡ m → IsFree (live_entry_at addr m) addr m →
    Some f ≡ option_map (λ (e : Entry). e.facts) (live_entry_at addr m) →
    IfSome (live_entry_at addr m) (λ e. entry_at e.facts.cid.0 m ≡ Some e) →
    DoesTo f.cid.0 acquire before old new after → Does (promote addr m) before new after
acquired_does addr f m old new before after same free found by_id done =
    let does = by_entry (live_entry_at addr m) free found by_id (subst (λ (k : Machine). DoesTo f.cid.0 acquire before k new after) same done) in
    record { machine_is = does.machine_is; actions_are = does.actions_are }
  where
    by_entry : (o : Option Entry) → IsFree o addr m → Some f ≡ option_map (λ (e : Entry). e.facts) o →
        IfSome o (λ e. entry_at e.facts.cid.0 m ≡ Some e) → DoesTo f.cid.0 acquire before m new after → Does (promoted_at o addr m) before new after
    by_entry None can is stands done = absurd cc
    by_entry (Some e) can is stands done =
        let facts_are : f ≡ e.facts = cc in
        rw can
        (subst (λ o. IfSome o (λ e. Does (acquire e m) before new after)) stands
        (subst (λ (g : Facts). DoesTo g.cid.0 acquire before m new after) facts_are done))
