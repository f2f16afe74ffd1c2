-- Each part of an event is lawful.
use Rattle.std.proofs.Common.{ℕ, ◌≡◌, ◌≤◌, Bool, true, false, ◌||◌, ◌==◌, List, [], ◌∷◌, ◌++◌, Option, arith, nat_lt}
use Rattle.laws.proofs.Words.{false≢true, or_left, list_any-append}
use Rattle.laws.specs.Words.{AllByRecursion, Addr, Event, Effect, for_each, then_do, Machine, Entry, entry_at}
use Rattle.laws.specs.Acts.{Act, ends_dial, is_closed, does, parts_from}
use Rattle.laws.specs.AtMoves.{IsLawful, is_negotiated_entry, is_negotiated_at, is_ended_in, is_closed_by, is_up, is_hot_or_asked, is_known, promotes, activates, is_provided_by, shares}
use Rattle.laws.specs.OpenEnds.{is_open_entry, goes_by_itself}
use Rattle.laws.specs.Parts.{IsNext, IsDone, EndsOnce, IsAccounted, IsLawfulPart, RisesBy, Arrives}
use Rattle.laws.specs.Sends.{Speaks}
use Rattle.laws.specs.Stages.{stage_of, stage_at}
use Rattle.laws.specs.Telling.{IsTold}
use Rattle.laws.proofs.CarriedOut.{treats-book, pauses-right}
use Rattle.laws.proofs.Lawful.{Obeys, IsProviding, obeys_nothing, quiet-lawful}
use Rattle.laws.proofs.Lists.{all-appended}
use Rattle.laws.proofs.Trims.{Trimmed}
use Rattle.laws.specs.Steady.{IsTied}
use Rattle.laws.proofs.Admitted.{admits-right}
use Rattle.laws.proofs.BackOff.{treats, forgives}
use Rattle.laws.proofs.Begun.{over-after, waits-begin}
use Rattle.laws.proofs.Goes.{goes-where}
use Rattle.laws.proofs.Heats.{heats-up}
use Rattle.laws.proofs.Cooling.{Given, given-order, cools-only}
use Rattle.laws.proofs.Classes.{keeps-class, keeps-known}
use Rattle.laws.proofs.Lingers.{lingers}
use Rattle.laws.proofs.OpenEnds.{StaysOr, stays_then, stays-of, opens-once, ended_once}
use Rattle.laws.proofs.RootsAsked.{asks-right}
use Rattle.laws.proofs.Sends.{sends-right}
use Rattle.laws.proofs.Served.{answers-right}
use Rattle.laws.proofs.Telling.{told_then}
use Rattle.laws.proofs.Pruning.{ends-rightly}
use Rattle.laws.proofs.Walk.{Finds}
use Rattle.laws.proofs.WaitsOfParts.{waits-right, leaves-rest, is-set}
use Rattle.laws.proofs.Rises.{hot_or_asked-down, rises_nowhere, same-connected, rises_by_then}
use Rattle.laws.proofs.Speaks.{speaks-right, speaks_then}
use Rattle.laws.proofs.Items.{agrees-right, responds-right}

-- ---- who was negotiated before it

negotiated-stage : (o : Option Entry) (given : Bool) → is_negotiated_entry o ≡ true → stage_of o given ≡ 3
negotiated-stage o given h = grind (arith, h)

-- whoever was negotiated stays so, or is ended or closed
abbrev pub EndsKnown : Event → Machine → Effect → Type 0
EndsKnown event m effect = StaysOr is_negotiated_at (λ cid. is_closed_by cid event) m effect

-- the other side closes a connection only by the event that says so
abbrev pub ClosesBy : Act → Event → Type 0
ClosesBy (is_closed own) event = (cid : ℕ) → (own.0 == cid) ≡ true → is_closed_by cid event ≡ true
ClosesBy other event = Unit {0}

-- Whatever stands open stays so, and comes no less far.
ends-known : (event : Event) (act : Act) (m : Machine) → ClosesBy act event → IsNext act m → Finds act m → IsTold m (does act m) → EndsKnown event m (does act m)
ends-known event act m closes next found told cid before =
    let effect : Effect = does act m in
    by_entry (entry_at cid m) (entry_at cid effect.machine) (nat_lt cid m.next_id) (nat_lt cid effect.machine.next_id) (is_ended_in cid effect.moves) (goes_by_itself act m cid)
    before (told.connections cid).forward (itself act closes) (stays-of act m next found cid (grind (arith, before)))
  where
    itself : (a : Act) → ClosesBy a event → goes_by_itself a m cid ≡ true → is_closed_by cid event ≡ true
    itself (is_closed own) closes goes = closes cid goes
    itself (ends_dial own opened) closes goes = grind (arith, goes, before)
    itself other closes goes = absurd (false≢true goes)

    by_entry : (o p : Option Entry) (given still ended goes : Bool) → is_negotiated_entry o ≡ true → stage_of o given ≤ stage_of p still → (goes ≡ true → is_closed_by cid event ≡ true) →
        (is_open_entry p || (ended || goes)) ≡ true → (is_negotiated_entry p || (ended || is_closed_by cid event)) ≡ true
    by_entry o p given still ended goes before forward closed h = grind (arith, before, forward, closed, h)

ends-once : (event : Event) (m : Machine) (effect : Effect) → IsTold m effect → EndsKnown event m effect → EndsOnce event m effect
ends-once event m effect told accounted cid before =
    ended_once cid m effect (is_negotiated_at cid effect.machine) (is_closed_by cid event) (λ cs. IsDone cs (is_negotiated_at cid effect.machine) (is_closed_by cid event)) told
    (accounted cid before)
    (λ is. let stage : stage_at cid effect.machine ≡ 3 = negotiated-stage (entry_at cid effect.machine) (nat_lt cid effect.machine.next_id) is in omega (arith, stage))
    (λ h. h) (λ cause gone late. (gone, late (negotiated-stage (entry_at cid m) (nat_lt cid m.next_id) before)))

-- ---- what a part keeps

-- what a part tells, who is ended and comes up by it, and that its moves keep the laws; and so what follows of several parts
pub record Tells (event : Event) (m : Machine) (effect : Effect) : Type 0 where
  pub told : IsTold m effect
  pub promotions : RisesBy is_up promotes m effect
  pub activations : RisesBy is_hot_or_asked activates m effect
  pub arrivals : Arrives event m effect
  pub lawful : AllByRecursion IsLawful effect.moves

pub accounted_by : (event : Event) (m : Machine) (effect : Effect) → Tells event m effect → EndsKnown event m effect → IsAccounted event m effect
accounted_by event m effect h ends = assumption (ends-once event m effect h.told ends, h)

tells_then : (event : Event) (m : Machine) (first : Effect) (next : Machine → Effect) → Tells event m first → Tells event first.machine (next first.machine) →
    Tells event m (then_do first next)
tells_then event m first next one two =
    let arrivals : Arrives event m (then_do first next) = λ addr known.
    grind (arith, one.arrivals addr, two.arrivals addr known, list_any-append (λ move. shares addr move.happened) first.moves (next first.machine).moves) in
    search (told_then, rises_by_then, all-appended)

pub obeys-part : {event : Event} {m : Machine} {effect : Effect} → Obeys IsLawful m effect → Tells event m effect
obeys-part {event} {m} {effect} h = search (arith, or_left)

-- where peers are tied to connections
pub trimmed-part : {event : Event} {m : Machine} {effect : Effect} → IsTied m → Trimmed IsLawful m effect → Tells event m effect
trimmed-part tied h = obeys-part (record { lawful = h.lawful tied; accounted = h.accounted })

-- it provides only whom the event names
pub providing-part : {event : Event} {m : Machine} {effect : Effect} → IsProviding m effect →
    ((addr : Addr) → is_known addr effect.machine ≡ true → (is_known addr m || is_provided_by addr event) ≡ true) → Tells event m effect
providing-part {event} {m} {effect} p named = search (arith, same-connected, rises_nowhere, hot_or_asked-down, quiet-lawful)

-- what is known of an act where it is done
pub record Fits (event : Event) (act : Act) (m : Machine) : Type 0 where
  pub closes : ClosesBy act event
  pub next : IsNext act m
  pub given : Given act m
  pub found : Finds act m
  pub tells : Tells event m (does act m)

pub fits : {event : Event} {act : Act} {m : Machine} → ClosesBy act event → IsNext act m → Given act m → Finds act m → Tells event m (does act m) →
    Fits event act m
fits closes next given found tells = assumption

ruleset of_the_book = (treats-book, keeps-class, keeps-known, heats-up, forgives, goes-where, pauses-right)

ruleset of_connections = (opens-once, waits-right, waits-begin, leaves-rest, is-set, over-after, lingers, agrees-right, responds-right)

ruleset of_actions = (accounted_by, ends-known, asks-right, admits-right, answers-right, sends-right, speaks-right)

lawful-part : (event : Event) (act : Act) (m : Machine) → Fits event act m → IsLawfulPart event (record { act = act; before = m })
lawful-part event act m h =
    let told = h.tells.told in
    let ends = ends-rightly act m h.found in
    let remembers = treats act m h.found in
    let order = given-order act m h.given in
    let cools = cools-only act m h.next h.found h.given in
    search (of_the_book, of_connections, of_actions)

-- ---- one part after the other

pub record AreLawful (event : Event) (acts : List Act) (m : Machine) : Type 0 where
  pub each : AllByRecursion (IsLawfulPart event) (parts_from acts m)
  pub tells : Tells event m (for_each does acts m)
  pub speaks : Speaks m (for_each does acts m)
  pub ends : EndsKnown event m (for_each does acts m)

abbrev pub EachFits : Event → List Act → Machine → Type 0
EachFits event [] m = Unit {0}
EachFits event (act ∷ acts) m = Fits event act m × EachFits event acts (does act m).machine

pub are-lawful : (event : Event) (acts : List Act) (m : Machine) → EachFits event acts m → AreLawful event acts m
unfolding parts_from for_each
are-lawful event [] m h = record {
  each = tt;
  tells = obeys-part (obeys_nothing IsLawful m);
  speaks = record { to_open = tt; closes_last = tt };
  ends = λ cid before. or_left (is_negotiated_at cid m) (false || is_closed_by cid event) before;
}
are-lawful event (act ∷ acts) m h = search (arith, lawful-part, tells_then, speaks_then, speaks-right, stays_then, ends-known, are-lawful event acts (does act m).machine h.1)

pub fits_more : (event : Event) (xs ys : List Act) (m : Machine) → EachFits event xs m → EachFits event ys (for_each does xs m).machine → EachFits event (xs ++ ys) m
unfolding for_each
fits_more event [] ys m one two = two
fits_more event (x ∷ xs) ys m one two = (one.0, fits_more event xs ys (does x m).machine one.1 two)
