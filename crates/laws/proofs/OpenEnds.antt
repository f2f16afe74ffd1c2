-- A connection that stands open stays so or ends once, in each part of an event.
use Rattle.std.proofs.Common.{ℕ, ◌+◌, ◌≤◌, ◌≡◌, Bool, true, false, ◌||◌, ◌==◌, nat_lt, List, [], ◌∷◌, ◌++◌, Option, Some, None, refl, sym, ap, ◌∙◌, arith}
use Rattle.laws.proofs.Words.{both_ways, false≢true, or_right, list_any-append, find-append}
use Rattle.laws.specs.Words.{Undecoded, option_map, dialing, accepted, is_live, Send, CloseCause, entry_goes, with_entry, without_entry, entry_turns, ending, vanishes, dial, Effect, Happened, Move, nothing_more, tells, then_do, as_move, turned_away, admitted, Machine, Entry, fresh_entry, entry_at, peer_changes, peer_goes, peer_at, peer_comes, peer_is_ordinary}
use Rattle.laws.specs.Acts.{Act, does}
use Rattle.laws.specs.AtMoves.{ends, is_ended_in}
use Rattle.laws.specs.OpenEnds.{is_open_entry, is_open_at, goes_by_itself, IsOpenEnd, OpenEndsOnce}
use Rattle.laws.specs.Parts.{IsNext}
use Rattle.laws.specs.Stages.{stage_of, stage_at, causes_in, IsLateCause}
use Rattle.laws.specs.Telling.{IsTold}
use Rattle.laws.proofs.Walk.{Finds, Scope, Stands, Turn, turned_by, turned-cid, turned-live, shuts, Kept, scope_of, walk, own_id}
use Rattle.laws.proofs.Moments.{turned-found}
use Rattle.laws.proofs.Lawful.{comes-machine, lost_by-quiet, lost-quiet, live_stage}
use Rattle.laws.proofs.Telling.{ended-over}
use Rattle.laws.proofs.ToldMoves.{turns_at-connections}
use Rattle.laws.proofs.Waits.{replaced, gone-found}
use Rattle.laws.proofs.WaitsOfParts.{sets_or_changes}

-- whoever is so stays so, or a move ends it, or it goes by itself
abbrev pub StaysOr : (ℕ → Machine → Bool) → (ℕ → Bool) → Machine → Effect → Type 0
StaysOr is goes m effect = (cid : ℕ) → is cid m ≡ true → (is cid effect.machine || (is_ended_in cid effect.moves || goes cid)) ≡ true

pub stays_then : (is : ℕ → Machine → Bool) (goes : ℕ → Bool) (m : Machine) (first : Effect) (next : Machine → Effect) → StaysOr is goes m first →
    StaysOr is goes first.machine (next first.machine) → StaysOr is goes m (then_do first next)
stays_then is goes m first next one two cid was = grind (arith, list_any-append)

-- Who lasts, by a test of the connection: it does so while it turns, and where its time-wait is over it may go.
pub record Lasts (scope : Scope) (test : Option Entry → Bool) (goes : ℕ → Bool) : Type 0 where
  pub none : test None ≡ false
  pub turns : (turn : Turn) (e : Entry) (m : Machine) → test (Some e) ≡ true → test (Some (turned_by turn e m)) ≡ true
  pub stores : (undecoded : Undecoded) (e : Entry) → test (Some e) ≡ true → test (Some (record e { undecoded = undecoded })) ≡ true
  pub itself : (cid : ℕ) → scope.goes cid ≡ true → goes cid ≡ true
  pub over : (e : Entry) (m : Machine) → Stands scope e m → scope.drops ≡ true → (scope.timely ≡ true → is_live e.facts ≡ false) → test (Some e) ≡ true → goes e.facts.cid.0 ≡ true

module _ (scope : Scope) (test : Option Entry → Bool) (goes : ℕ → Bool) (lasts : Lasts scope test goes) where
  abbrev Stays : Machine → Effect → Type 0
  Stays m effect = StaysOr (λ cid n. test (entry_at cid n)) goes m effect

  stays_same : (m : Machine) (effect : Effect) → effect.machine.connections ≡ m.connections → Stays m effect
  stays_same m effect same cid was = grind arith

  -- every other one is as it was, and its own stays so, or is ended by a move, or goes by itself
  stays_own : (m : Machine) (e : Entry) (effect : Effect) → ((cid : ℕ) → (e.facts.cid.0 == cid) ≡ false → entry_at cid effect.machine ≡ entry_at cid m) →
      (test (entry_at e.facts.cid.0 m) ≡ true → (test (entry_at e.facts.cid.0 effect.machine) || (is_ended_in e.facts.cid.0 effect.moves || goes e.facts.cid.0)) ≡ true) → Stays m effect
  stays_own m e effect others own cid was = grind arith

  turned-others : (m : Machine) (e new : Entry) → new.facts.cid ≡ e.facts.cid → (cid : ℕ) → (e.facts.cid.0 == cid) ≡ false → entry_at cid (with_entry new m) ≡ entry_at cid m
  turned-others m e new same cid other = grind (arith, replaced)

  turned-here : (m : Machine) (e new : Entry) → entry_at e.facts.cid.0 m ≡ Some e → new.facts.cid ≡ e.facts.cid → entry_at e.facts.cid.0 (with_entry new m) ≡ Some new
  turned-here m e new stands same = turned-found e new m same ∙ ap (option_map (λ x. new)) stands

  turned-stays : (m : Machine) (e new : Entry) → entry_at e.facts.cid.0 m ≡ Some e → new.facts.cid ≡ e.facts.cid → (test (Some e) ≡ true → test (Some new) ≡ true) → Stays m (entry_turns e new m)
  turned-stays m e new stands same still = grind (arith, turned-others m e new same, turned-here m e new stands same, stays_own)

  gone-others : (m : Machine) (e : Entry) (effect : Effect) → effect.machine.connections ≡ (without_entry e.facts.cid.0 m).connections →
      (cid : ℕ) → (e.facts.cid.0 == cid) ≡ false → entry_at cid effect.machine ≡ entry_at cid m
  gone-others m e effect same cid other = grind (arith, gone-found)

  ending-stays : (cause : CloseCause) (e : Entry) (m : Machine) → Stays m (ending cause e m)
  ending-stays cause e m = grind (arith, stays_own, gone-others, lost_by-quiet, list_any-append, own_id)

  vanishes-stays : (e : Entry) (m : Machine) → goes e.facts.cid.0 ≡ true → Stays m (vanishes e m)
  vanishes-stays e m itself =
      let cid : ℕ = e.facts.cid.0 in
      stays_own m e (vanishes e m) (gone-others m e (vanishes e m) (lost-quiet e.facts (without_entry cid m)).connections)
      (λ was. or_right (test (entry_at cid (vanishes e m).machine)) (is_ended_in cid (vanishes e m).moves || goes cid) (or_right (is_ended_in cid (vanishes e m).moves) (goes cid) itself))

  come-stays : (m : Machine) (new : Entry) (effect : Effect) → effect.machine.connections ≡ m.connections ++ new ∷ [] → Stays m effect
  come-stays m new effect same cid was = grind (arith, find-append)

  shut-stays : (e : Entry) (m : Machine) → Stays m (shuts e m)
  shut-stays e m = grind (arith, shuts, turned-others, stays_own, own_id)

  over-stays : (e : Entry) (m : Machine) → Stands scope e m → scope.drops ≡ true → (scope.timely ≡ true → is_live e.facts ≡ false) → Stays m (entry_goes e m)
  over-stays e m stands drops closed =
      stays_own m e (entry_goes e m) (gone-others m e (entry_goes e m) refl)
      (λ was. or_right (test (entry_at e.facts.cid.0 (entry_goes e m).machine)) (false || goes e.facts.cid.0) (lasts.over e m stands drops closed (sym (ap test stands.found) ∙ was)))

  -- a move that ends nothing
  moved-stays : (happened : Happened) (m : Machine) (effect : Effect) → Stays m effect → Stays m (as_move happened m effect)
  moved-stays happened m effect h cid was = grind (arith, list_any-append)

  stays-kept : Kept scope Stays
  stays-kept = record {
    when_nothing = λ m. stays_same m (nothing_more m) refl;
    when_both = stays_then (λ cid n. test (entry_at cid n)) goes;
    when_moved = λ happened m effect none h. moved-stays happened m effect h;
    when_sent = λ cid bytes m may. stays_same m (tells (Send cid bytes ∷ []) m) refl;
    when_turned = λ turn e m stands. turned-stays m e (turned_by turn e m) stands.found (turned-cid turn e m) (lasts.turns turn e m);
    when_stored = λ undecoded e m stands came. turned-stays m e (record e { undecoded = undecoded }) stands.found refl (lasts.stores undecoded e);
    when_shut = λ e m stands drops. shut-stays e m;
    when_ended = λ cause e m. ending-stays cause e m;
    when_gone = λ e m itself. vanishes-stays e m (lasts.itself e.facts.cid.0 itself);
    when_over = λ e m stands drops closed. over-stays e m stands drops closed;
    when_dialed = λ addr m may. come-stays m (fresh_entry (dialing m.next_id addr)) (dial addr m) refl;
    when_admitted = λ addr m may. come-stays m (fresh_entry (accepted m.next_id addr (m.now + m.settings.handshake))) (admitted addr m) refl;
    when_turned_away = λ away m may. stays_same m (turned_away away m) refl;
    when_changed = λ addr change m same. stays_same m (peer_changes addr change m) (turns_at-connections (peer_at addr m) change m);
    when_made = λ addr m may. stays_same m (peer_is_ordinary addr m) (turns_at-connections (peer_at addr m) (λ p. record p { big = false }) m);
    when_known = λ big addr m may. stays_same m (peer_comes big addr m) (ap (λ n. n.connections) (comes-machine big addr m));
    when_forgotten = λ addr m may. stays_same m (peer_goes addr m) refl;
  }

-- ---- each act

-- whoever lasts stays so, or a move ends it, or it goes by itself
pub lasts-of : (test : Option Entry → Bool) (goes : ℕ → Bool) (act : Act) (m : Machine) → Lasts (scope_of act m) test goes → IsNext act m → Finds act m →
    StaysOr (λ cid n. test (entry_at cid n)) goes m (does act m)
lasts-of test goes act m lasts next found = grind (arith, sets_or_changes act m, scope_of act m, stays-kept (scope_of act m) test goes lasts, stays_same, walk)

-- so does whoever is open
pub stays-of : (act : Act) (m : Machine) → IsNext act m → Finds act m → StaysOr is_open_at (scope_of act m).goes m (does act m)
stays-of act m next found = lasts-of is_open_entry (scope_of act m).goes act m
    (record {
      none = refl;
      turns = turned-live;
      stores = λ undecoded e live. live;
      itself = λ cid goes. goes;
      over = λ e n stands drops closed live. absurd (both_ways (is_live e.facts) (closed refl) live);
    }) next found

-- ---- once

-- without a cause no move has ended it
pub uncaused : (cid : ℕ) (moves : List Move) → causes_in cid moves ≡ [] → is_ended_in cid moves ≡ false
uncaused cid [] h = refl
uncaused cid (move ∷ moves) h = grind (arith, uncaused cid moves)

pub live-stage : (o : Option Entry) (given : Bool) → is_open_entry o ≡ true → stage_of o given ≤ 3
live-stage None given h = absurd (false≢true h)
live-stage (Some e) given h = live_stage e.facts.phase h

-- whatever stood stays so, goes by itself, or has one end, for a late cause where its handshake was done
pub ended_once : (cid : ℕ) (m : Machine) (effect : Effect) (stays itself : Bool) (law : List CloseCause → Type 0) → IsTold m effect →
    (stays || (is_ended_in cid effect.moves || itself)) ≡ true → (stays ≡ true → stage_at cid effect.machine ≤ 3) → ((stays || itself) ≡ true → law []) →
    ((cause : CloseCause) → stays ≡ false → (stage_at cid m ≡ 3 → IsLateCause cause) → law (cause ∷ [])) → law (causes_in cid effect.moves)
ended_once cid m effect stays itself law told ends open_ none one =
    let once = (told.connections cid).ends in
    grind (arith, once, ends, open_, none, one, uncaused, ended-over)

pub opens-once : (act : Act) (m : Machine) → IsNext act m → Finds act m → IsTold m (does act m) → OpenEndsOnce act m (does act m)
opens-once act m next found told cid was =
    let effect : Effect = does act m in
    ended_once cid m effect (is_open_at cid effect.machine) (goes_by_itself act m cid) (λ cs. IsOpenEnd cs (is_open_at cid effect.machine) (goes_by_itself act m cid)) told
    (stays-of act m next found cid was) (live-stage (entry_at cid effect.machine) (nat_lt cid effect.machine.next_id)) (λ h. h) (λ cause gone late. gone)
