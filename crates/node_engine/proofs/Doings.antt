-- Parts of a step that were done.
use Rattle.std.proofs.Common.{◌≡◌, ℕ, ◌+◌, ◌%◌, true, false, if◌then◌else◌, List, [], ◌∷◌, ◌++◌, map, find, append_assoc, append-nil, Option, Some, None, IfSome, IsSome, IsSomeAnd, refl, sym, ap, subst, ◌∙◌, inl, inr, arith, rules, tests}
use Rattle.std.specs.Option.{option_map}
use Rattle.std.proofs.lemmas.Bool.{cases_Bool}
use Rattle.std.proofs.lemmas.Bool.Decides.{nat_tests}
use Rattle.conn_state.specs.Moves.{released}
use Rattle.conn_table.specs.Conditions.{after_step}
use Rattle.conn_table.specs.declared.step.Step.{Step}
use Rattle.conn_table.specs.declared.step.Step.TheVariants.{Negotiated}
use Rattle.conn_state.specs.Use.{has_id, is_outbound}
use Rattle.net_base.specs.declared.action.Action.{Action}
use Rattle.net_base.specs.declared.connection.Agreed.{Agreed}
use Rattle.net_base.specs.declared.connection.Cid.{Cid}
use Rattle.net_base.specs.declared.connection.Facts.{Facts}
use Rattle.net_base.specs.declared.peer.Temp.TheVariants.{Cold}
use Rattle.machine.specs.Connections.{entry_turns, with_entry, is_used, is_agreed_inbound, is_agreed_outbound, says_done, release, trim}
use Rattle.machine.specs.Effect.{Effect, then_do, nothing_more}
use Rattle.machine.specs.Machine.{Machine, Entry, entry_at}
use Rattle.machine.specs.Peers.{peer_becomes}
use Rattle.machine.specs.Replies.{owing}
use Rattle.node_engine.proofs.FindLemmas.{IfSome-find}
use Rattle.connections.specs.Standing.{Standing, entry_with, turned, Turns, moved}
use Rattle.connections.specs.Steps.{closes, stepped}
use Rattle.peers.specs.State.{PeerState}
use Rattle.node_engine.specs.State.{Does, DoesTo, IsKnown, machine_of, name_notice, is_used_from}

-- ---- parts one after another

pub does_nothing : (m : Machine) (actions : List Action) → Does (nothing_more m) actions m actions
does_nothing m actions = record { machine_is = refl; actions_are = sym (append-nil actions) }

pub does_then : (first : Effect) (next : Machine → Effect) (before middle after : List Action) (m n : Machine) →
    Does first before m middle → Does (next m) middle n after → Does (then_do first next) before n after
does_then first next before middle after m n one two =
    let last : Does (next first.machine) middle n after = subst (λ w. Does (next w) middle n after) one.machine_is two in
    record {
      machine_is = last.machine_is;
      actions_are = last.actions_are ∙ (ap (λ told. told ++ (next first.machine).actions) one.actions_are ∙ append_assoc before first.actions (next first.machine).actions);
    }

-- ---- the connection that a part is about

pub known : (facts : Facts) (m : Machine) → IsKnown facts m → (e : Entry) × (entry_at facts.cid.0 m ≡ Some e) × (e.facts ≡ facts)
known facts m h = some (entry_at facts.cid.0 m) h
  where
    some : (o : Option Entry) → IsSomeAnd o (λ e. e.facts ≡ facts) → (e : Entry) × (o ≡ Some e) × (e.facts ≡ facts)
    some None k = absurd k
    some (Some e) k = (e, refl, k)

-- what is found by an id is known
same_id : (cid : Cid) (f : Facts) → has_id cid.0 f ≡ true → f.cid ≡ cid
same_id cid f h = let e : f.cid.0 ≡ cid.0 = search (rules, tests) in ap (λ (n : ℕ). let c : Cid = record { 0 = n } in c) e

pub found_known : (cid : Cid) (m : Machine) (o : Option Facts) → o ≡ option_map (λ e. e.facts) (entry_at cid.0 m) →
    IfSome o (λ f. (f.cid ≡ cid) × IsKnown f m)
found_known cid m o is = subst (λ p. IfSome p (λ f. (f.cid ≡ cid) × IsKnown f m)) (sym is) (some (entry_at cid.0 m) refl)
  where
    some : (p : Option Entry) → entry_at cid.0 m ≡ p → IfSome (option_map (λ e. e.facts) p) (λ f. (f.cid ≡ cid) × IsKnown f m)
    some None there = tt
    some (Some e) there =
        let own : e.facts.cid ≡ cid = same_id cid e.facts (subst (λ p. IfSome p (λ x. has_id cid.0 x.facts ≡ true)) there
        (IfSome-find (λ x. has_id cid.0 x.facts) m.connections)) in (
          own,
          subst (λ n. IsSomeAnd (entry_at n m) (λ x. x.facts ≡ e.facts)) (ap (λ i. i.0) (sym own))
              (subst (λ p. IsSomeAnd p (λ x. x.facts ≡ e.facts)) (sym there) refl),
        )

pub at_entry : (P : Entry → Type 0) (o : Option Entry) (e : Entry) → o ≡ Some e → P e → IfSome o P
at_entry P o e is h = subst (λ p. IfSome p P) (sym is) h

pub of_entry : (P : Entry → Type 0) (o : Option Entry) (e : Entry) → o ≡ Some e → IfSome o P → P e
of_entry P o e is h = subst (λ p. IfSome p P) is h

-- ---- connections that turn

pub on_some : {X : Type 0} (o : Option X) (x : X) → o ≡ Some x → IsSome o
on_some o x is = subst IsSome (sym is) refl

none_is : {X : Type 0} (x : X) → None ≡ Some x → ⊥
none_is x e = cc

replaced_found : (n : ℕ) (new : Entry) (es : List Entry) (e : Entry) → has_id n new.facts ≡ true → find (λ x. has_id n x.facts) es ≡ Some e →
    find (λ x. has_id n x.facts) (map (λ x. if has_id n x.facts then new else x) es) ≡ Some new
replaced_found n new [] e own found = absurd (none_is e found)
replaced_found n new (x ∷ xs) e own found = elim (cases_Bool (has_id n x.facts)) [
  | inl here ↦ rw (here, own) refl
  | inr other ↦ rw (other, other) (replaced_found n new xs e own (rw other at found))
]

replaced_twice : (n : ℕ) (old new : Entry) (es : List Entry) → has_id n old.facts ≡ true →
    map (λ x. if has_id n x.facts then new else x) (map (λ x. if has_id n x.facts then old else x) es)
    ≡ map (λ x. if has_id n x.facts then new else x) es
replaced_twice n old new [] own = refl
replaced_twice n old new (x ∷ xs) own = elim (cases_Bool (has_id n x.facts)) [
  | inl here ↦ rw (here, own) (ap (λ es. new ∷ es) (replaced_twice n old new xs own))
  | inr other ↦ rw (other, other) (ap (λ es. x ∷ es) (replaced_twice n old new xs own))
]

has_own : (f : Facts) → has_id f.cid.0 f ≡ true
has_own f = grind (arith, nat_tests)

-- A connection turned into another, under its id.
pub record HasTurned (facts : Facts) (change : Entry → Entry) (s t : Standing) : Type 0 where
  pub entry : Entry
  pub there : entry_with facts.cid.0 s ≡ Some entry
  pub is : entry.facts ≡ facts
  pub turns : t ≡ turned (change entry) s
  pub next_there : entry_with facts.cid.0 t ≡ Some (change entry)

abbrev pub KeepsId : (Entry → Entry) → Type 0
KeepsId change = (e : Entry) → (change e).facts.cid ≡ e.facts.cid

pub has_turned : (facts : Facts) (change : Entry → Entry) (m : Machine) (s t : Standing) → IsKnown facts m → s.entries ≡ m.connections → KeepsId change →
    Turns facts.cid.0 change s t → HasTurned facts change s t
has_turned facts change m s t h same keeps turns =
    let it = known facts m h in
    let there : entry_with facts.cid.0 s ≡ Some it.0 = ap (λ es. find (λ x. has_id facts.cid.0 x.facts) es) same ∙ it.1 in
    let turn : t ≡ turned (change it.0) s = of_entry (λ e. t ≡ turned (change e) s) (entry_with facts.cid.0 s) it.0 there turns in
    let own : (change it.0).facts.cid.0 ≡ facts.cid.0 = ap (λ i. i.0) (keeps it.0 ∙ ap (λ f. f.cid) it.2) in
    record {
      entry = it.0;
      there = there;
      is = it.2;
      turns = turn;
      next_there = ap (entry_with facts.cid.0) turn
          ∙ subst (λ n. entry_with n (turned (change it.0) s) ≡ Some (change it.0)) own
          (replaced_found (change it.0).facts.cid.0 (change it.0) s.entries it.0 (has_own (change it.0).facts)
          (ap (λ n. entry_with n s) own ∙ there));
    }

-- by another change that is the same there
pub turned_as : (facts : Facts) (change other : Entry → Entry) (s t : Standing) → HasTurned facts change s t →
    ((e : Entry) → e.facts ≡ facts → change e ≡ other e) → HasTurned facts other s t
turned_as facts change other s t h same = record {
  entry = h.entry;
  there = h.there;
  is = h.is;
  turns = h.turns ∙ ap (λ e. turned e s) (same h.entry h.is);
  next_there = h.next_there ∙ ap (λ e. let o : Option Entry = Some e in o) (same h.entry h.is);
}

-- ---- what a step comes to

-- one by which this side does not close
pub not_closed : (step : Step) (facts : Facts) (e : Entry) → closes step facts ≡ false → e.facts ≡ facts → stepped step e ≡ moved (after_step step) e
not_closed step facts e stays is =
    let own : closes step e.facts ≡ false = ap (closes step) is ∙ stays in
    rw own refl

pub agreed_in : (agreed : Agreed) (until : ℕ) (facts : Facts) (e : Entry) (m : Machine) → is_outbound facts ≡ false → e.facts ≡ facts →
    until ≡ m.now + m.settings.idle → entry_turns e (stepped (Negotiated agreed until) e) m ≡ is_agreed_inbound agreed e m
agreed_in agreed until facts e m inbound is ends =
    let own : is_outbound e.facts ≡ false = ap is_outbound is ∙ inbound in
    rw (own, ends) refl

pub agreed_out : (agreed : Agreed) (until : ℕ) (facts : Facts) (e : Entry) (m : Machine) → is_outbound facts ≡ true → e.facts ≡ facts →
    until ≡ m.now + m.settings.idle → is_used (after_step (Negotiated agreed until) e.facts) e m ≡ is_agreed_outbound agreed e m
agreed_out agreed until facts e m outbound is ends =
    let own : is_outbound e.facts ≡ true = ap is_outbound is ∙ outbound in
    rw (own, ends) refl

twice : (g : Facts) (x : Entry) (asked : ℕ) (m : Machine) →
    with_entry (owing 8 asked m (record x { facts = g })) (with_entry (record x { facts = g }) m) ≡ with_entry (owing 8 asked m (record x { facts = g })) m
twice g x asked m = ap (λ es. let n : Machine = record m { connections = es } in n)
    (replaced_twice g.cid.0 (record x { facts = g }) (owing 8 asked m (record x { facts = g })) m.connections (has_own g))

used_effect : (g : Facts) (x : Entry) (m : Machine) → g.cid ≡ x.facts.cid → g.addr ≡ x.facts.addr →
    is_used_from x.facts (record x { facts = g }) (with_entry (record x { facts = g }) m) ≡ is_used g x m
used_effect g x m same_cid same_addr = rw (← same_cid, ← same_addr, twice g x (g.cid.0 % 65536) m) refl

module _ (now : ℕ) (peers : PeerState) where
  pub turn_does : (facts : Facts) (change : Entry → Entry) (s t : Standing) (act : Entry → Machine → Effect) (m : Machine) (before after : List Action) →
      ((e : Entry) → act e (machine_of now peers s) ≡ entry_turns e (change e) (machine_of now peers s)) →
      machine_of now peers s ≡ m → HasTurned facts change s t →
      IfSome (entry_with facts.cid.0 t) (λ e. after ≡ before ++ name_notice facts e.facts) →
      DoesTo facts.cid.0 act before m (machine_of now peers t) after
  turn_does facts change s t act m before after means is h told =
      let n : Machine = machine_of now peers t in
      let first : Machine = machine_of now peers s in
      let does : Does (entry_turns h.entry (change h.entry) first) before n after = record {
        machine_is = ap (machine_of now peers) h.turns;
        actions_are = of_entry (λ e. after ≡ before ++ name_notice facts e.facts) (entry_with facts.cid.0 t) (change h.entry) h.next_there told
            ∙ ap (λ f. before ++ name_notice f (change h.entry).facts) (sym h.is);
      } in
      subst (λ w. DoesTo facts.cid.0 act before w n after) is
      (at_entry (λ e. Does (act e first) before n after) (entry_with facts.cid.0 s) h.entry h.there
      (subst (λ effect. Does effect before n after) (sym (means h.entry)) does))

  -- a connection has turned, and has come into use
  pub used_does : (facts : Facts) (move : Facts → Facts) (s t : Standing) (act : Entry → Machine → Effect) (m n : Machine) (before after : List Action) →
      ((e : Entry) → act e (machine_of now peers s) ≡ is_used (move e.facts) e (machine_of now peers s)) →
      machine_of now peers s ≡ m → HasTurned facts (moved move) s t →
      (move facts).cid ≡ facts.cid → (move facts).addr ≡ facts.addr →
      DoesTo facts.cid.0 (is_used_from facts) before (machine_of now peers t) n after →
      DoesTo facts.cid.0 act before m n after
  used_does facts move s t act m n before after means is h cid addr does =
      let first : Machine = machine_of now peers s in
      let new : Entry = moved move h.entry in
      let next : Does (is_used_from facts new (machine_of now peers t)) before n after =
      of_entry (λ x. Does (is_used_from facts x (machine_of now peers t)) before n after) (entry_with facts.cid.0 t) new h.next_there does in
      let there : Does (is_used_from facts new (with_entry new first)) before n after =
      subst (λ w. Does (is_used_from facts new (machine_of now peers w)) before n after) h.turns next in
      let from : Does (is_used_from h.entry.facts new (with_entry new first)) before n after =
      subst (λ f. Does (is_used_from f new (with_entry new first)) before n after) (sym h.is) there in
      let used : Does (is_used (move h.entry.facts) h.entry first) before n after =
      subst (λ effect. Does effect before n after)
      (used_effect (move h.entry.facts) h.entry first (subst (λ f. (move f).cid ≡ f.cid) (sym h.is) cid) (subst (λ f. (move f).addr ≡ f.addr) (sym h.is) addr)) from in
      subst (λ w. DoesTo facts.cid.0 act before w n after) is
      (at_entry (λ e. Does (act e first) before n after) (entry_with facts.cid.0 s) h.entry h.there
      (subst (λ effect. Does effect before n after) (sym (means h.entry)) used))

-- A connection is given out of use: it is said, the connection turns, its peer is cold, and there may be too many.
pub released_does : (facts : Facts) (m n o p : Machine) (before said turned cold after : List Action) → IsKnown facts m →
    Does (says_done facts m) before m said →
    DoesTo facts.cid.0 (λ e w. entry_turns e (moved (released (w.now + w.settings.idle)) e) w) said m n turned →
    Does (peer_becomes Cold facts.addr n) turned o cold → Does (trim facts.cid o) cold p after → DoesTo facts.cid.0 release before m p after
released_does facts m n o p before said turned cold after h says turns becomes trims =
    let it = known facts m h in
    let e : Entry = it.0 in
    let turn : Effect = entry_turns e (moved (released (m.now + m.settings.idle)) e) m in
    let one : Does turn said n turned = of_entry (λ x. Does (entry_turns x (moved (released (m.now + m.settings.idle)) x) m) said n turned) (entry_at facts.cid.0 m) e it.1 turns in
    let last : Does (then_do (peer_becomes Cold facts.addr n) (trim facts.cid)) turned p after =
    does_then (peer_becomes Cold facts.addr n) (trim facts.cid) turned cold after o p becomes trims in
    let rest : Does (then_do turn (λ w. then_do (peer_becomes Cold facts.addr w) (trim facts.cid))) said p after =
    does_then turn (λ w. then_do (peer_becomes Cold facts.addr w) (trim facts.cid)) said turned after n p one last in
    let whole : Does (then_do (says_done facts m)
    (λ v. then_do (entry_turns e (moved (released (v.now + v.settings.idle)) e) v) (λ w. then_do (peer_becomes Cold facts.addr w) (trim facts.cid)))) before p after =
    does_then (says_done facts m) (λ v. then_do (entry_turns e (moved (released (v.now + v.settings.idle)) e) v) (λ w. then_do (peer_becomes Cold facts.addr w) (trim facts.cid)))
    before said after m p says rest in
    at_entry (λ x. Does (release x m) before p after) (entry_at facts.cid.0 m) e it.1
    (subst (λ f. Does (then_do (says_done f m)
    (λ v. then_do (entry_turns e (moved (released (v.now + v.settings.idle)) e) v) (λ w. then_do (peer_becomes Cold f.addr w) (trim f.cid)))) before p after)
    (sym it.2) whole)
