-- What is said is said to who is open, and behind the close of a connection nothing.
use Rattle.std.proofs.Common.{ℕ, ◌≤◌, ◌≡◌, arith, flat_map, true, false, ◌==◌, List, [], ◌∷◌, ◌++◌, Some, refl, sym, ap, ◌∙◌, subst}
use Rattle.laws.proofs.Words.{cond_both, both_ways, and_parts, false≢true, flat_map-append, filter-append}
use Rattle.laws.specs.Words.{AllByRecursion, Action, Close, Send, Forget, Addr, Peer, CloseCause, Order, Promote, is_acquirable, is_live, is_live_at, same_address, Effect, nothing_more, then_do, entry_turns, entry_goes, with_entry, without_entry, ending, lost_by, acquire, dial, carries_out, promoted_at, peer_changes, Machine, Entry, entry_at, live_entry_at}
use Rattle.laws.specs.Acts.{Act, carries, ends_dial, handles_item, does}
use Rattle.laws.specs.InActions.{End, closes_in, ends_in}
use Rattle.laws.specs.OpenEnds.{is_open_entry, is_open_at}
use Rattle.laws.specs.Parts.{IsNext}
use Rattle.laws.specs.Sends.{sent_on, ClosesLast, Speaks}
use Rattle.laws.specs.Served.{Sent, sent_by, sent_in}
use Rattle.laws.specs.Sound.{IsOrderly}
use Rattle.laws.specs.Stages.{stage_at, causes_by, causes_in, IsOneEnd}
use Rattle.laws.specs.Telling.{IsTold}
use Rattle.laws.proofs.Finds.{replaced, gone-found}
use Rattle.laws.proofs.Lawful.{lost-quiet, lost_by-quiet, stands-found}
use Rattle.laws.proofs.Lists.{find_some, all-weaker, all-true, all-appended}
use Rattle.laws.proofs.Moments.{ending-none}
use Rattle.laws.proofs.OpenEnds.{live-stage}
use Rattle.laws.proofs.Sends.{sends-right}
use Rattle.laws.proofs.Silent.{sent-deaf, turns-silent, ending-silent, vanishes-silent}
use Rattle.laws.proofs.Walk.{Finds, Scope, on_those, turned_by, turned-cid, shuts, Kept, scope_of, walk, acquire-walk, orders-walk, orderly-finds}
use Rattle.laws.proofs.Cases.{by_option}

-- ---- actions one behind another

no_sends : (actions : List Action) → sent_in actions ≡ [] → ClosesLast actions
no_sends [] none = tt
no_sends (Close cid cause ∷ actions) none = (ap (sent_on cid.0) none, no_sends actions none)
no_sends (Send cid bytes ∷ actions) none = absurd cc
no_sends (other ∷ actions) none = no_sends actions none

-- whom the first ones close, those behind them send nothing to
both-last : (xs ys : List Action) → ClosesLast xs → ClosesLast ys → AllByRecursion (λ end. sent_on end.cid (sent_in ys) ≡ []) (closes_in xs) → ClosesLast (xs ++ ys)
both-last [] ys one two apart = two
both-last (Close cid cause ∷ xs) ys one two apart = grind (arith, flat_map-append sent_by xs ys, filter-append (λ s. s.cid == cid.0) (sent_in xs) (sent_in ys), both-last xs ys one.1 two apart.1)
both-last (other ∷ xs) ys one two apart = both-last xs ys one two apart

none_on : (Open : ℕ → Type 0) (cid : ℕ) (sent : List Sent) → (Open cid → ⊥) → AllByRecursion (λ s. Open s.cid) sent → sent_on cid sent ≡ []
none_on Open cid [] shut open_ = refl
none_on Open cid (s ∷ sent) shut open_ = grind (arith, none_on Open cid sent shut open_.1)

-- Each is sent to one that is open before, whoever is closed is open no more, and that is the last of it.
record Said (Before After : ℕ → Type 0) (actions : List Action) : Type 0 where
  to_open : AllByRecursion (λ s. Before s.cid) (sent_in actions)
  closed : AllByRecursion (λ end. After end.cid → ⊥) (closes_in actions)
  last : ClosesLast actions

-- where nobody comes to be open
said_then : (A B C : ℕ → Type 0) (xs ys : List Action) → ((cid : ℕ) → B cid → A cid) → ((cid : ℕ) → C cid → B cid) → Said A B xs → Said B C ys → Said A C (xs ++ ys)
said_then A B C xs ys early late one two = grind (arith, flat_map-append, all-appended, all-weaker, both-last, none_on)

-- ---- a part

abbrev IsOpen : Machine → ℕ → Type 0
IsOpen m cid = is_open_at cid m ≡ true

record Spoken (m : Machine) (effect : Effect) : Type 0 where
  said : Said (IsOpen m) (IsOpen effect.machine) effect.actions
  back : (cid : ℕ) → IsOpen effect.machine cid → IsOpen m cid

-- where nothing is sent, and whoever is closed is open no more
unsaid-spoken : (m : Machine) (effect : Effect) → sent_in effect.actions ≡ [] → AllByRecursion (λ end. IsOpen effect.machine end.cid → ⊥) (closes_in effect.actions) →
    ((cid : ℕ) → IsOpen effect.machine cid → IsOpen m cid) → Spoken m effect
unsaid-spoken m effect none closed back = grind (arith, no_sends)

-- where nobody is closed either
quiet-spoken : (m : Machine) (effect : Effect) → sent_in effect.actions ≡ [] → closes_in effect.actions ≡ [] → ((cid : ℕ) → IsOpen effect.machine cid → IsOpen m cid) → Spoken m effect
quiet-spoken m effect none nobody back = grind (arith, unsaid-spoken m effect none (subst (AllByRecursion (λ end. IsOpen effect.machine end.cid → ⊥)) (sym nobody) tt) back)

same-back : (m n : Machine) → n.connections ≡ m.connections → (cid : ℕ) → IsOpen n cid → IsOpen m cid
same-back m n same cid open_ = subst (λ es. IsOpen (record m { connections = es }) cid) same open_

turned-back : (e new : Entry) (m : Machine) → entry_at e.facts.cid.0 m ≡ Some e → new.facts.cid ≡ e.facts.cid → (is_live new.facts ≡ true → is_live e.facts ≡ true) →
    (cid : ℕ) → IsOpen (with_entry new m) cid → IsOpen m cid
turned-back e new m found same back cid open_ = grind (arith, found, same, back, open_, replaced cid new m.connections)

gone-back : (e : Entry) (m n : Machine) → n.connections ≡ (without_entry e.facts.cid.0 m).connections → (cid : ℕ) → IsOpen n cid → IsOpen m cid
gone-back e m n same cid open_ = grind (arith, same-back, gone-found)

turned-spoken : (e new : Entry) (m : Machine) → entry_at e.facts.cid.0 m ≡ Some e → new.facts.cid ≡ e.facts.cid → (is_live new.facts ≡ true → is_live e.facts ≡ true) → Spoken m (entry_turns e new m)
turned-spoken e new m found same back =
    quiet-spoken m (entry_turns e new m) (turns-silent sent_by sent-deaf e new m) (grind arith) (turned-back e new m found same back)

changed-spoken : (addr : Addr) (change : Peer → Peer) (m : Machine) → Spoken m (peer_changes addr change m)
changed-spoken addr change m = grind arith

lost-nobody : (cause : CloseCause) (e : Entry) (m : Machine) → closes_in (lost_by cause e.facts m).actions ≡ []
lost-nobody cause e m = grind arith

-- where nobody is dialed or let in
spoken-kept : (scope : Scope) → scope.dials ≡ false → scope.lets_in ≡ false → Kept scope Spoken
spoken-kept scope undialed shut = record {
  when_nothing = λ m. quiet-spoken m (nothing_more m) refl refl (λ cid open_. open_);
  when_both = λ m first next one two. record {
    said = said_then (IsOpen m) (IsOpen first.machine) (IsOpen (next first.machine).machine) first.actions (next first.machine).actions one.back two.back one.said two.said;
    back = λ cid open_. one.back cid (two.back cid open_);
  };
  when_moved = λ happened m effect none h. record { said = h.said; back = h.back };
  when_sent = λ cid bytes m may. record { said = record { to_open = (may.open_, tt); closed = tt; last = tt }; back = λ cid open_. open_ };
  when_turned = λ turn e m t. turned-spoken e (turned_by turn e m) m t.found (turned-cid turn e m) t.back;
  when_stored = λ undecoded e m stands came. turned-spoken e (record e { undecoded = undecoded }) m stands.found refl (λ live. live);
  when_shut = λ e m stands drops. grind (arith, unsaid-spoken, shuts, turns-silent, sent-deaf, replaced, turned-back);
  when_ended = λ cause e m. unsaid-spoken m (ending cause e m) (ending-silent sent_by sent-deaf cause e m) (
    λ open_. false≢true (sym (ap is_open_entry (ending-none cause e m)) ∙ open_),
    subst (AllByRecursion (λ end. IsOpen (ending cause e m).machine end.cid → ⊥)) (sym (lost-nobody cause e (without_entry e.facts.cid.0 m))) tt,
  )
      (gone-back e m (ending cause e m).machine (lost_by-quiet cause e.facts (without_entry e.facts.cid.0 m)).connections);
  when_gone = λ e m itself. grind (arith, quiet-spoken, vanishes-silent, sent-deaf, gone-back, lost-quiet);
  when_over = λ e m stands drops closed. quiet-spoken m (entry_goes e m) refl refl (gone-back e m (entry_goes e m).machine refl);
  when_dialed = λ addr m may. absurd (both_ways scope.dials undialed may);
  when_admitted = λ addr m may. absurd (both_ways scope.lets_in shut may);
  when_turned_away = λ away m may. absurd (both_ways scope.lets_in shut may);
  when_changed = λ addr change m same. changed-spoken addr change m;
  when_made = λ addr m may. changed-spoken addr (λ p. record p { big = false }) m;
  when_known = λ big addr m may. grind arith;
  when_forgotten = λ addr m may. quiet-spoken m (carries_out (Forget addr) m) refl refl (λ cid open_. open_);
}

-- ---- each act

spoken-speaks : (m : Machine) (effect : Effect) → Spoken m effect → Speaks m effect
spoken-speaks m effect h = grind (arith, all-weaker, live-stage)

unsaid-speaks : (m : Machine) (effect : Effect) → sent_in effect.actions ≡ [] → Speaks m effect
unsaid-speaks m effect none = record { to_open = subst (AllByRecursion (λ s. stage_at s.cid m ≤ 3)) (sym none) tt; closes_last = no_sends effect.actions none }

-- what is told by way of an order, but that nobody is dialed
abbrev saying : Scope
saying = on_those (λ cid. true)

promotes-speaks : (addr : Addr) (m : Machine) → IsOrderly m → Speaks m (promoted_at (live_entry_at addr m) addr m)
promotes-speaks addr m h = by_option (live_entry_at addr m) (λ o. Speaks m (promoted_at o addr m)) (λ is. unsaid-speaks m (dial addr m) refl)
    (λ e is.
    let at = find_some (λ x. is_live_at addr x.facts) m.connections e is in
    cond_both (is_acquirable e.facts) (acquire e m) (dial addr m) (Speaks m)
    (λ free. spoken-speaks m (acquire e m) (acquire-walk saying Spoken (spoken-kept saying refl refl) e m
    (record { may = refl; found = stands-found m e at.place h at.stands; own = refl; live = (and_parts (same_address e.facts.addr addr) (is_live e.facts) at.passes).1 })))
    (λ other. unsaid-speaks m (dial addr m) refl))

orders-speak : (order : Order) (m : Machine) → IsOrderly m → Speaks m (carries_out order m)
orders-speak (Promote addr) m h = let s = promotes-speaks addr m h in record { to_open = s.to_open; closes_last = s.closes_last }
orders-speak (Forget addr) m h = unsaid-speaks m (carries_out (Forget addr) m) refl
orders-speak order m h =
    let finds = orderly-finds order m h in
    spoken-speaks m (carries_out order m) (orders-walk saying Spoken (spoken-kept saying refl refl) order m refl (search) (record { found = finds.found; own = λ e found at. refl }))

pub speaks-right : (act : Act) (m : Machine) → IsNext act m → Finds act m → Speaks m (does act m)
speaks-right (carries order) m next found = orders-speak order m found.orderly
speaks-right (ends_dial cid opened) m next found =
    spoken-speaks m (does (ends_dial cid opened) m) (walk (ends_dial cid opened) m Spoken tt next found (spoken-kept (scope_of (ends_dial cid opened) m) refl refl))
speaks-right (handles_item cid item) m next found =
    spoken-speaks m (does (handles_item cid item) m) (walk (handles_item cid item) m Spoken tt next found (spoken-kept (scope_of (handles_item cid item) m) refl refl))
speaks-right other m next found = unsaid-speaks m (does other m) (sends-right other m next found)

-- ---- one part behind another

-- whom this node ends is closed then
late_ends : (n : Machine) (ends : List End) → ((cid : ℕ) → (flat_map (causes_by cid) ends ≡ [] → ⊥) → 4 ≤ stage_at cid n) → AllByRecursion (λ end. 4 ≤ stage_at end.cid n) ends
late_ends n [] late = tt
late_ends n (end ∷ ends) late = grind (arith, late, late_ends n ends)

closed-late : (causes : List CloseCause) (before after : ℕ) → IsOneEnd causes before after → (causes ≡ [] → ⊥) → 4 ≤ after
closed-late causes before after one some = grind arith

pub speaks_then : (m : Machine) (first : Effect) (next : Machine → Effect) → IsTold m first → Speaks m first → Speaks first.machine (next first.machine) → Speaks m (then_do first next)
speaks_then m first next told one two =
    let n : Machine = first.machine in
    let late : AllByRecursion (λ end. 4 ≤ stage_at end.cid n) (ends_in first.moves) =
    late_ends n (ends_in first.moves) (λ cid some. let on = told.connections cid in closed-late (causes_in cid first.moves) (stage_at cid m) (stage_at cid n) on.ends some) in
    let both : Said (λ cid. stage_at cid m ≤ 3) (λ cid. ⊥) (then_do first next).actions =
    said_then (λ cid. stage_at cid m ≤ 3) (λ cid. stage_at cid n ≤ 3) (λ cid. ⊥) first.actions (next n).actions
    (λ cid early. let on = (told.connections cid).forward in omega (arith, early, on)) (λ cid never. absurd never)
    (record {
      to_open = one.to_open;
      closed = grind (arith, all-weaker);
      last = one.closes_last;
    })
    (record { to_open = two.to_open; closed = all-true (λ end. ⊥ → ⊥) (λ end never. never) (closes_in (next n).actions); last = two.closes_last }) in
    record { to_open = both.to_open; closes_last = both.last }
