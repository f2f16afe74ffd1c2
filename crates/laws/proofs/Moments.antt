-- Whatever is waited for is ahead, what fires is waited for, and is over then.
use Rattle.std.proofs.Common.{ℕ, ◌<◌, ◌≡◌, ◌==◌, List, [], ◌∷◌, ◌++◌, map, flat_map, find, Option, Some, None, All, ap, ◌∙◌, subst, arith, cond}
use Rattle.laws.proofs.Words.{All-contains, All-head, All-tail}
use Rattle.laws.specs.Words.{option_map, has_id, CloseCause, Grace, Off, ForRemote, ForLocal, Phase, Greeting, Closing, Deadline, Kind, timer, with_entry, without_entry, ending, deadlines_of, phase_deadlines, grace_deadlines, reply_deadline, due, Machine, Entry, Owed, entry_at, reply_on, Cid}
use Rattle.laws.specs.Words.kind
use Rattle.laws.specs.Laws.{DeadlinesAhead}
use Rattle.laws.specs.Moments.{WaitsAhead}
use Rattle.laws.specs.Waits.{until_greeted, until_gone, until_unused, until_paid, until_of, until_in, until_at}
use Rattle.laws.specs.Steady.{IsOwing, IsOrdered}
use Rattle.laws.proofs.Firing.{Due, due_of, deadlines-by}
use Rattle.laws.proofs.Lawful.{lost_by-quiet}
use Rattle.laws.proofs.Lists.{StandsAt, OnePasses, find_only, All-stands, all-standing, All-front, All-behind}
use Rattle.laws.proofs.Waits.{replaced, gone-found}
use Rattle.laws.proofs.Cases.{by_bool}

-- ---- what a connection waits for is ahead where its deadlines are

abbrev IsAhead : ℕ → Option ℕ → Type 0
IsAhead now None = Unit {0}
IsAhead now (Some until) = now < until

abbrev AreAhead : ℕ → List Deadline → Type 0
AreAhead now ds = All (λ d. now < d.at) ds

phase-ahead : (now : ℕ) (cid : Cid) (p : Phase) → AreAhead now (phase_deadlines cid p) → IsAhead now (until_greeted p) × IsAhead now (until_gone p)
phase-ahead now cid (Greeting until) all = (all 0 (timer cid kind.Handshake until) (omega arith), tt)
phase-ahead now cid (Closing until) all = (tt, all 0 (timer cid kind.TimeWait until) (omega arith))
phase-ahead now cid other all = (tt, tt)

grace-ahead : (now : ℕ) (cid : Cid) (g : Grace) → AreAhead now (grace_deadlines cid g) → IsAhead now (until_unused g)
grace-ahead now cid Off all = tt
grace-ahead now cid (ForRemote until) all = all 0 (timer cid kind.Grace until) (omega arith)
grace-ahead now cid (ForLocal until) all = all 0 (timer cid kind.Grace until) (omega arith)

reply-ahead : (now : ℕ) (cid : Cid) (owed : List Owed) (protocol : ℕ) → AreAhead now (map (reply_deadline cid) owed) →
    IsAhead now (until_paid (find (λ o. o.protocol == protocol) owed))
reply-ahead now cid [] protocol all = tt
reply-ahead now cid (o ∷ owed) protocol all =
    let tail = All-tail (λ d. now < d.at) (reply_deadline cid o) (map (reply_deadline cid) owed) all in
    grind (arith, All-head (λ d. now < d.at) (reply_deadline cid o) (map (reply_deadline cid) owed) all, reply-ahead now cid owed protocol tail)

entry-ahead : (now : ℕ) (e : Entry) → AreAhead now (deadlines_of e) → (sort : Kind) → IsAhead now (until_of sort e)
entry-ahead now e all = by_kind
  where
    before : AreAhead now (phase_deadlines e.facts.cid e.facts.phase ++ grace_deadlines e.facts.cid e.facts.grace)
    before = All-front (λ d. now < d.at) _ (map (reply_deadline e.facts.cid) e.owed) all

    in_phase : IsAhead now (until_greeted e.facts.phase) × IsAhead now (until_gone e.facts.phase)
    in_phase = phase-ahead now e.facts.cid e.facts.phase (All-front (λ d. now < d.at) _ (grace_deadlines e.facts.cid e.facts.grace) before)

    owed : (protocol : ℕ) → IsAhead now (until_paid (reply_on protocol e))
    owed protocol = reply-ahead now e.facts.cid e.owed protocol
        (All-behind (λ d. now < d.at) (phase_deadlines e.facts.cid e.facts.phase ++ grace_deadlines e.facts.cid e.facts.grace) _ all)

    by_kind : (sort : Kind) → IsAhead now (until_of sort e)
    by_kind kind.Handshake = in_phase.0
    by_kind kind.Grace = grace-ahead now e.facts.cid e.facts.grace (All-behind (λ d. now < d.at) (phase_deadlines e.facts.cid e.facts.phase) _ before)
    by_kind kind.TimeWait = in_phase.1
    by_kind kind.Reply2 = owed 2
    by_kind kind.Reply8 = owed 8
    by_kind kind.Reply10 = owed 10

found-ahead : (now cid : ℕ) (es : List Entry) (sort : Kind) → AreAhead now (flat_map deadlines_of es) → IsAhead now (until_in sort (find (λ e. has_id cid e.facts) es))
found-ahead now cid [] sort all = tt
found-ahead now cid (e ∷ es) sort all = by_bool (has_id cid e.facts) (λ b. IsAhead now (until_in sort (cond b (Some e) (find (λ x. has_id cid x.facts) es))))
    (λ own. entry-ahead now e (All-front (λ d. now < d.at) (deadlines_of e) (flat_map deadlines_of es) all) sort)
    (λ other. found-ahead now cid es sort (All-behind (λ d. now < d.at) (deadlines_of e) (flat_map deadlines_of es) all))

pub waits-ahead : (m : Machine) → DeadlinesAhead m → WaitsAhead m
waits-ahead m h kind cid until is = subst (IsAhead m.now) is (found-ahead m.now cid m.connections kind h)

-- ---- what fires is waited for

abbrev IsWaited : Entry → Deadline → Type 0
IsWaited e d = until_of d.kind e ≡ Some d.at

-- at most one reply is owed on a protocol
one-owed : (e : Entry) → IsOwing e → (protocol : ℕ) → OnePasses (λ o. o.protocol == protocol) e.owed
one-owed e h protocol i j d before inside here = grind (arith, here, h.rises i j d before inside)

reply-waited : (e : Entry) → IsOwing e → (k : ℕ) (owed : Owed) → StandsAt e.owed k owed → IsWaited e (reply_deadline e.facts.cid owed)
reply-waited e h k owed s = search (arith, find_only, one-owed)

pub due-waited : (m : Machine) (d : Deadline) → IsOrdered m → due m ≡ Some d → until_at d.kind d.cid.0 m ≡ Some d.at
due-waited m d h is =
    let next : Due m d = due_of m d h.orderly is in
    let e : Entry = next.owner in
    let owing : IsOwing e = All-stands IsOwing m.connections next.place e next.stands h.formed.owing in
    ap (until_in d.kind) next.found
    ∙ All-contains (IsWaited e) (deadlines_of e) d
    (deadlines-by (IsWaited e) e (λ until is. ap until_greeted is) (λ until is. ap until_gone is) (λ until is. ap until_unused is) (λ until is. ap until_unused is)
    (all-standing (λ owed. IsWaited e (reply_deadline e.facts.cid owed)) e.owed (λ owed k s. reply-waited e owing k owed s))) next.among

-- ---- what has fired is over

-- one that went is found no more
pub gone-none : (cid : ℕ) (m : Machine) → entry_at cid (without_entry cid m) ≡ None
gone-none cid m = grind (arith, gone-found cid cid m.connections)

pub ending-none : (cause : CloseCause) (e : Entry) (m : Machine) → entry_at e.facts.cid.0 (ending cause e m).machine ≡ None
ending-none cause e m = search (arith, lost_by-quiet, gone-none)

-- where one is found, what it turned into is
pub turned-found : (e new : Entry) (m : Machine) → new.facts.cid ≡ e.facts.cid → entry_at e.facts.cid.0 (with_entry new m) ≡ option_map (λ x. new) (entry_at e.facts.cid.0 m)
turned-found e new m same = grind (arith, same, replaced e.facts.cid.0 new m.connections)
