-- A connection that waits its time stays until that is over.
use Rattle.std.proofs.Common.{ℕ, ◌≤◌, ◌≡◌, Bool, true, false, ◌&&◌, ◌||◌, ◌==◌, nat_lt, is_some, Option, Some, None, refl, sym, arith, eqb-true}
use Rattle.laws.proofs.Words.{false≢true, or_left, or_right, and_from}
use Rattle.laws.specs.Words.{Kind, Deadline, is_live, has_id, Effect, Machine, Entry, entry_at}
use Rattle.laws.specs.Acts.{Act, fires_one, does}
use Rattle.laws.specs.AtMoves.{is_ended_in}
use Rattle.laws.specs.Goes.{is_waiting_entry, is_waiting_at, is_time_wait, ends_time_wait, Lingers}
use Rattle.laws.specs.OpenEnds.{goes_by_itself}
use Rattle.laws.specs.Parts.{IsNext}
use Rattle.laws.specs.Stages.{stage_of}
use Rattle.laws.specs.Steady.{IsOrdered, IsShaped, IsOwing}
use Rattle.laws.specs.Telling.{IsTold}
use Rattle.laws.specs.Untouched.{is_about, may_close}
use Rattle.laws.specs.Waits.{until_of}
use Rattle.laws.proofs.Lists.{All-stands, find_some}
use Rattle.laws.proofs.OpenEnds.{uncaused, lasts-of}
use Rattle.laws.proofs.Walk.{Finds}

-- one that waits its time is closed, and closing is behind all that is open
waiting-stage : (o : Option Entry) (given : Bool) → is_waiting_entry o ≡ true → 4 ≤ stage_of o given
waiting-stage o given h = grind arith

-- and whoever is there so late waits its time
late-waits : (o : Option Entry) (given : Bool) → is_some o ≡ true → 4 ≤ stage_of o given → is_waiting_entry o ≡ true
late-waits o given there late = grind arith

waiting-there : (o : Option Entry) → is_waiting_entry o ≡ true → is_some o ≡ true
waiting-there None h = absurd (false≢true h)
waiting-there (Some e) h = refl

-- it is ended no more
never_ended : (cid : ℕ) (m : Machine) (effect : Effect) → IsTold m effect → is_waiting_at cid m ≡ true → is_ended_in cid effect.moves ≡ false
never_ended cid m effect told waits = grind (arith, told.connections cid, waiting-stage (entry_at cid m) (nat_lt cid m.next_id) waits, uncaused)

-- it waits for nothing else
waits_alone : (sort : Kind) (e : Entry) → IsShaped e.facts → IsOwing e → is_live e.facts ≡ false → is_time_wait sort ≡ false → until_of sort e ≡ None
waits_alone sort e shaped owing closed other = grind arith

-- no deadline but that of its time-wait is of it
fires-waiting : (d : Deadline) (cid : ℕ) (m : Machine) → IsNext (fires_one d) m → IsOrdered m → (d.cid.0 == cid) ≡ true → is_waiting_at cid m ≡ true → is_time_wait d.kind ≡ true
fires-waiting d cid m next h own waits =
    let never : (e : Entry) → entry_at cid m ≡ Some e → is_live e.facts ≡ false → is_time_wait d.kind ≡ false → ⊥ =
    λ e is closed other.
    let at = find_some (λ x. has_id cid x.facts) m.connections e is in
    let none = waits_alone d.kind e (All-stands (λ x. IsShaped x.facts) m.connections at.place e at.stands h.formed.shaped) (All-stands IsOwing m.connections at.place e at.stands h.formed.owing) closed other in
    grind (arith, none, next.waited, is, eqb-true d.cid.0 cid own) in
    grind (arith, waits, never)

-- ---- each act

-- what may go by itself, or by a deadline
by_act : (act : Act) (m : Machine) → IsNext act m → Finds act m → (cid : ℕ) → is_waiting_at cid m ≡ true → (goes_by_itself act m cid || (may_close act && is_about act m cid)) ≡ true →
    (is_waiting_at cid (does act m).machine || ends_time_wait act cid) ≡ true
by_act act m next found cid waits h = grind (arith, fires-waiting)

pub lingers : (act : Act) (m : Machine) → IsNext act m → Finds act m → IsTold m (does act m) → Lingers act m (does act m).machine
lingers act m next found told cid waits =
    let n : Machine = (does act m).machine in
    let stays : (is_some (entry_at cid n) || (is_ended_in cid (does act m).moves || (goes_by_itself act m cid || (may_close act && is_about act m cid)))) ≡ true =
    lasts-of is_some (λ c. goes_by_itself act m c || (may_close act && is_about act m c)) act m
    (record {
      none = refl;
      turns = λ turn e w there. refl;
      stores = λ undecoded e there. refl;
      itself = λ c goes. or_left (goes_by_itself act m c) (may_close act && is_about act m c) goes;
      over = λ e w stands drops closed there. or_right (goes_by_itself act m e.facts.cid.0) (may_close act && is_about act m e.facts.cid.0) (and_from (may_close act) (is_about act m e.facts.cid.0) drops stands.own);
    }) next found cid (waiting-there (entry_at cid m) waits) in
    by_ways (is_some (entry_at cid n)) refl (is_ended_in cid (does act m).moves) (never_ended cid m (does act m) told waits) stays
  where
    -- one that is there waits still
    still : is_some (entry_at cid (does act m).machine) ≡ true → is_waiting_at cid (does act m).machine ≡ true
    still there = grind arith

    by_ways : (there : Bool) → is_some (entry_at cid (does act m).machine) ≡ there → (ended : Bool) → ended ≡ false →
        (there || (ended || (goes_by_itself act m cid || (may_close act && is_about act m cid)))) ≡ true → (is_waiting_at cid (does act m).machine || ends_time_wait act cid) ≡ true
    by_ways true is ended none h = or_left (is_waiting_at cid (does act m).machine) (ends_time_wait act cid) (still is)
    by_ways false is true none h = absurd (false≢true (sym none))
    by_ways false is false none h = by_act act m next found cid waits h
