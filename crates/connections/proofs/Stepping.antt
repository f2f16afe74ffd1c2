-- What a step makes of a connection, by its facts and what is kept beside them.
use Rattle.std.proofs.Common.{◌≡◌, ℕ, ◌<◌, Bool, true, false, if◌then◌else◌, ◌+◌, List, [], ◌∷◌, ◌++◌, map, find, length, slice_get, Some, IsSome, IsSomeAnd, Result, Ok, Err, OnErr, is_err, refl, sym, ap, subst, ◌∙◌}
use Rattle.std.proofs.lemmas.Option.{same_Some}
use Rattle.std.specs.List.{AllByRecursion, remove}
use Rattle.std.specs.Option.{option_map}
use Rattle.conn_state.specs.Use.{is_live_at, live_at}
use Rattle.conn_table.specs.Finds.{id_place}
use Rattle.conn_table.specs.Conditions.{CanStep, after_step}
use Rattle.conn_table.specs.Rosters.{IsKept, facts_kept}
use Rattle.conn_table.specs.Table.{IdsRise, moved_at, with_moved, without, without_at}
use Rattle.conn_table.specs.declared.roster.Roster.{Roster}
use Rattle.conn_table.specs.declared.step.Step.{Step}
use Rattle.conn_table.proofs.IdPlaces.{found_id, id_place-moved}
use Rattle.conn_table.proofs.StateFacts.{step_keeps}
use Rattle.machine.specs.Machine.{Entry}
use Rattle.net_base.specs.Shared.{nothing_undecoded}
use Rattle.net_base.specs.declared.address.Addr.{Addr}
use Rattle.net_base.specs.declared.connection.Cid.{Cid}
use Rattle.net_base.specs.declared.connection.Facts.{Facts}
use Rattle.timer_queue.specs.Timers.{cid_below}
use Rattle.connections.specs.Kept.{standing, table_of, IsWhole}
use Rattle.connections.specs.Standing.{Standing, entry_with, facts_in, Turns}
use Rattle.connections.specs.Steps.{closes, stepped, unread_if}
use Rattle.connections.specs.Talks.{entry_of, GoesOn, IsStanding, TurnsAt}
use Rattle.connections.specs.declared.kept.Kept.{Kept}
use Rattle.connections.specs.declared.talk.Talk.{Talk}
use Rattle.connections.specs.Timed.{ids_in}
use Rattle.connections.proofs.TalkPairs.{facts_paired}
use Rattle.connections.proofs.TimedTurns.{all_given}
use Rattle.connections.proofs.TalkTurns.{Any, Found, found, some_one, facts_placed, place_inside, IsTurn, turn, turns_at, stays_in, IsGoing, going}

-- what is kept, as a table with its talks
pub stands : (kept : Kept) → IsWhole kept → IsStanding (table_of kept.settings kept.roster) kept.talks
stands kept whole = record { ids_rise = whole.roster_kept.ids_rise; talks_are = whole.talks_are }

-- where it was looked for last is kept
pub looked_at : (roster : Roster) (cid : Cid) (place : ℕ) → place ≡ id_place cid.0 (facts_kept roster) → IsKept roster →
    IsKept (record roster { recent = Some (record { cid = cid; place = place }) })
looked_at roster cid place found kept = record {
  few = kept.few;
  ids_rise = kept.ids_rise;
  last_lives = kept.last_lives;
  counted = kept.counted;
  recent = found;
}

pub keeps_id : (step : Step) (f : Facts) → (after_step step f).cid ≡ f.cid
keeps_id step f = ap (λ p. p.cid) (step_keeps step f)

-- ---- the connection that moves

pub asked : (P : Entry → Type 0) (cid : ℕ) (a s : Standing) → a ≡ s → IsSomeAnd (entry_with cid s) P → IsSomeAnd (entry_with cid a) P
asked P cid a s is h = subst (λ r. IsSomeAnd (entry_with cid r) P) (sym is) h

pub said : (cid : ℕ) (change : Entry → Entry) (a s new : Standing) → a ≡ s → Turns cid change a new → Turns cid change s new
said cid change a s new is h = subst (λ r. Turns cid change r new) is h

abbrev pub FoundIn : (Facts → Type 0) → ℕ → Kept → Type 0
FoundIn P cid kept = Found P cid (table_of kept.settings kept.roster) kept.talks

pub found_in : (P : Facts → Type 0) (cid : ℕ) (kept : Kept) → IsWhole kept → IsSomeAnd (entry_with cid (standing kept)) (λ e. P e.facts) → FoundIn P cid kept
found_in P cid kept whole h = found P cid _ _ (standing kept) (stands kept whole) refl h

pub any_in : (cid : ℕ) (kept : Kept) → IsWhole kept → IsSome (entry_with cid (standing kept)) → FoundIn Any cid kept
any_in cid kept whole h = found_in Any cid kept whole (some_one cid (standing kept) h)

pub placed_in : (P : Facts → Type 0) (cid place : ℕ) (kept : Kept) → IsWhole kept → (it : FoundIn P cid kept) → place ≡ id_place cid (facts_kept kept.roster) →
    slice_get (facts_kept kept.roster) place ≡ Some it.facts
placed_in P cid place kept whole it e = facts_placed cid place _ _ (stands kept whole) it e

pub talk_inside : (P : Facts → Type 0) (cid place : ℕ) (kept : Kept) → (it : FoundIn P cid kept) → place ≡ id_place cid (facts_kept kept.roster) →
    place < length kept.talks
talk_inside P cid place kept it e = place_inside cid place _ _ it.facts it.talk e it.at

-- ---- it makes a step

entry_unread : (b : Bool) (step : Step) (f : Facts) (talk : Talk) →
    (let e : Entry = record { facts = after_step step f; undecoded = (if b then nothing_undecoded else talk.cutter.undecoded); owed = talk.replies } in e)
    ≡ entry_of (after_step step f) (unread_if b talk)
entry_unread true step f talk = refl
entry_unread false step f talk = refl

stepped-talk : (step : Step) (f : Facts) (talk : Talk) →
    stepped step (entry_of f talk) ≡ entry_of (after_step step f) (unread_if (closes step f) talk)
stepped-talk step f talk = entry_unread (closes step f) step f talk

still_goes_on : (b : Bool) (talk : Talk) → GoesOn talk → GoesOn (unread_if b talk)
still_goes_on true talk h = refl
still_goes_on false talk h = h

-- what was told of it before is what stood there
pub was_there : (P : Facts → Type 0) (cid place : ℕ) (kept : Kept) (was : Facts) → IsWhole kept → (it : FoundIn P cid kept) →
    place ≡ id_place cid (facts_kept kept.roster) → slice_get (facts_kept kept.roster) place ≡ Some was → was ≡ it.facts
was_there P cid place kept was whole it e told = same_Some _ _ (sym told ∙ placed_in P cid place kept whole it e)

pub own_in : (P : Facts → Type 0) (cid : ℕ) (kept : Kept) (was : Facts) → (it : FoundIn P cid kept) → was ≡ it.facts → was.cid.0 ≡ cid
own_in P cid kept was it same = ap (λ (f : Facts). f.cid.0) same ∙ found_id cid _ it.facts it.at.facts_there

pub step_turns : (step : Step) (cid place : ℕ) (kept : Kept) (roster : Roster) (talks : List Talk) (was : Facts) (over : Bool) → IsWhole kept →
    (it : FoundIn (CanStep step) cid kept) → place ≡ id_place cid (facts_kept kept.roster) → was ≡ it.facts →
    facts_kept roster ≡ moved_at was.cid.0 (after_step step) (facts_kept kept.roster) → roster.given ≡ kept.roster.given → over ≡ closes step was →
    TurnsAt place (unread_if over) kept.talks talks → IsTurn cid (stepped step) (standing kept) (table_of kept.settings roster) talks
step_turns step cid place kept roster talks was over whole it e same facts given closed changed =
    let own : was.cid.0 ≡ cid = own_in (CanStep step) cid kept was it same in
    let moved : facts_kept roster ≡ moved_at cid (after_step step) (facts_kept kept.roster) =
    facts ∙ ap (λ n. moved_at n (after_step step) (facts_kept kept.roster)) own in
    let is : table_of kept.settings roster ≡ with_moved cid (after_step step) (table_of kept.settings kept.roster) = λ i. record {
      settings = kept.settings;
      facts = moved i;
      given = given i;
    } in
    let shut : over ≡ closes step it.facts = closed ∙ ap (closes step) same in
    turn cid (after_step step) (stepped step) _ _ _ _ it.facts it.talk _ _ (stands kept whole) refl it.at is
    (turns_at _ _ _ _ _ it.facts it.talk (unread_if (closes step it.facts)) e it.at
    (subst (λ b. TurnsAt place (unread_if b) kept.talks talks) shut changed))
    (keeps_id step) (stepped-talk step it.facts it.talk) (still_goes_on (closes step it.facts) it.talk it.at.belongs)

pub still_placed : (step : Step) (cid place own : ℕ) (kept : Kept) (roster : Roster) → place ≡ id_place cid (facts_kept kept.roster) →
    facts_kept roster ≡ moved_at own (after_step step) (facts_kept kept.roster) → place ≡ id_place cid (facts_kept roster)
still_placed step cid place own kept roster e facts =
    e ∙ (sym (id_place-moved cid own (after_step step) (facts_kept kept.roster) (keeps_id step)) ∙ ap (id_place cid) (sym facts))

-- ---- what is kept beside its facts changes

pub talk_turns : (cid place : ℕ) (change : Entry → Entry) (in_talk : Talk → Talk) (kept : Kept) (talks : List Talk) → IsWhole kept →
    (it : FoundIn Any cid kept) → place ≡ id_place cid (facts_kept kept.roster) → TurnsAt place in_talk kept.talks talks →
    change (entry_of it.facts it.talk) ≡ entry_of it.facts (in_talk it.talk) → GoesOn (in_talk it.talk) →
    IsTurn cid change (standing kept) (table_of kept.settings kept.roster) talks
talk_turns cid place change in_talk kept talks whole it e changed is goes_on =
    turn cid (λ f. f) change _ _ _ _ it.facts it.talk _ _ (stands kept whole) refl it.at (stays_in cid (table_of kept.settings kept.roster))
    (turns_at _ _ _ _ _ it.facts it.talk in_talk e it.at changed) (λ g. refl) is goes_on

-- ---- it comes

live_found : (b : Bool) (addr : Addr) (e : Entry) (es : List Entry) → is_live_at addr e.facts ≡ b → live_at addr (map (λ x. x.facts) es)
    ≡ option_map (λ x. x.facts) (find (λ x. is_live_at addr x.facts) es) →
    live_at addr (map (λ x. x.facts) (e ∷ es)) ≡ option_map (λ x. x.facts) (find (λ x. is_live_at addr x.facts) (e ∷ es))
live_found true addr e es here rest = rw here refl
live_found false addr e es other rest = rw other rest

pub live_of_entries : (addr : Addr) (es : List Entry) →
    live_at addr (map (λ x. x.facts) es) ≡ option_map (λ x. x.facts) (find (λ x. is_live_at addr x.facts) es)
live_of_entries addr [] = refl
live_of_entries addr (e ∷ es) = live_found (is_live_at addr e.facts) addr e es refl (live_of_entries addr es)

pub facts_are : (kept : Kept) → IsWhole kept → facts_in (standing kept) ≡ facts_kept kept.roster
facts_are kept whole = facts_paired (facts_kept kept.roster) kept.talks whole.talks_are

-- the next id is above all that stand
pub all_entered : (kept : Kept) (next : Cid) → IsWhole kept → next.0 ≡ kept.roster.given + 1 →
    AllByRecursion (λ c. cid_below c next ≡ true) (ids_in (standing kept))
all_entered kept next whole e =
    all_given kept.roster.given next (standing kept)
    (subst (IdsRise 0 kept.roster.given) (sym (facts_are kept whole)) whole.roster_kept.ids_rise) (sym e)

-- one that was put at the end is taken out again
pub remove_last : (ts : List Talk) (t : Talk) → remove (ts ++ t ∷ []) (length ts) ≡ ts
remove_last [] t = refl
remove_last (u ∷ us) t = ap (λ l. u ∷ l) (remove_last us t)

pub err_said : {T E : Type 0} (A : Type 0) (r : Result T E) → is_err r ≡ true → OnErr r A → A
err_said A (Ok x) h a = cc
err_said A (Err e) h a = a

-- ---- it goes

pub goes : (cid place : ℕ) (kept : Kept) (roster : Roster) (talks : List Talk) (was : Facts) → IsWhole kept →
    (it : FoundIn Any cid kept) → place ≡ id_place cid (facts_kept kept.roster) → was ≡ it.facts →
    facts_kept roster ≡ without_at was.cid.0 (facts_kept kept.roster) → roster.given ≡ kept.roster.given → talks ≡ remove kept.talks place →
    IsGoing cid (standing kept) (table_of kept.settings roster) talks
goes cid place kept roster talks was whole it e same facts given removed =
    let own : was.cid.0 ≡ cid = own_in Any cid kept was it same in
    let left : facts_kept roster ≡ without_at cid (facts_kept kept.roster) = facts ∙ ap (λ n. without_at n (facts_kept kept.roster)) own in
    let is : table_of kept.settings roster ≡ without cid (table_of kept.settings kept.roster) = λ i. record {
      settings = kept.settings;
      facts = left i;
      given = given i;
    } in
    going cid (table_of kept.settings kept.roster) _ kept.talks _ it.facts it.talk (standing kept) (stands kept whole) refl it.at is
    (removed ∙ ap (remove kept.talks) e)
