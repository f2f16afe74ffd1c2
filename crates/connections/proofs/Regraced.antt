-- The timers of a connection whose phase and replies stay: only that of its grace can be another.
use Rattle.std.proofs.Common.{◌≡◌, ℕ, ◌==◌, ◌&&◌, ◌||◌, Bool, true, false, not, List, [], ◌∷◌, ◌++◌, map, Some, refl, sym, ap, ◌∙◌, inl, inr, arith}
use Rattle.std.proofs.lemmas.Bool.{cases_Bool, and_parts, and_right, true≢false}
use Rattle.std.proofs.lemmas.Bool.Decides.{nat_tests}
use Rattle.conn_state.specs.Protocols.{chain_sync, keep_alive}
use Rattle.conn_table.specs.Conditions.{after_step}
use Rattle.conn_table.specs.declared.step.Step.{Step}
use Rattle.conn_table.specs.declared.step.Step.TheVariants.{Connected, Negotiated as Agrees, Acquire, Release, Awake, Idle, GraceOver}
use Rattle.machine.specs.Deadlines.{deadlines_of, phase_deadlines, grace_deadlines, reply_kind, reply_deadline}
use Rattle.machine.specs.Machine.{Entry, Owed}
use Rattle.net_base.specs.Shared.{nothing_undecoded}
use Rattle.net_base.specs.Timer.{kind_place}
use Rattle.net_base.specs.declared.connection.Cid.{Cid}
use Rattle.net_base.specs.declared.connection.Facts.{Facts}
use Rattle.net_base.specs.declared.connection.Grace.{Grace}
use Rattle.net_base.specs.declared.connection.Grace.TheVariants.{Off, ForRemote, ForLocal}
use Rattle.net_base.specs.declared.connection.Phase.{Phase}
use Rattle.net_base.specs.declared.connection.Phase.TheVariants.{Dialing, Greeting, Negotiated, Closing}
use Rattle.net_base.specs.declared.timer.Deadline.{Deadline}
use Rattle.net_base.specs.declared.timer.Kind.{Kind}
use Rattle.net_base.specs.declared.timer.Kind.TheVariants.{Handshake, Grace as GraceKind, TimeWait}
use Rattle.timer_queue.specs.Rows.{IsMomentOf, is_set_at}
use Rattle.timer_queue.specs.Timers.{timer, same_cid, same_kind, same_timer, has_timer, HaveSame, is_of, is_timer_of, without_cid}
use Rattle.timer_queue.proofs.Orders.{same_kind-is}
use Rattle.connections.specs.Steps.{keeps_phase}
use Rattle.connections.specs.Timed.{HasDeadlinesOf, grace_end}
use Rattle.connections.proofs.TimedTurns.{has-append, has-without, entry-apart}

-- ---- a timer of a kind, and the list of the others

-- a timer of another kind is another timer
other_kind : (d : Deadline) (cid : Cid) (kind : Kind) (at : ℕ) → same_kind kind d.kind ≡ false → same_timer (timer cid kind at) d ≡ false
other_kind d cid kind at other = by_numbers (at == d.at) (same_cid cid d.cid) (same_kind kind d.kind) other
  where
    by_numbers : (a b k : Bool) → k ≡ false → (a && (b && k)) ≡ false
    by_numbers true true k h = h
    by_numbers true false k h = refl
    by_numbers false b k h = refl

kind_is : (cid : Cid) (d : Deadline) → is_timer_of cid GraceKind d ≡ true → d.kind ≡ GraceKind
kind_is cid d of_it = same_kind-is d.kind GraceKind (and_parts (same_cid d.cid cid) (same_kind d.kind GraceKind) of_it).1

apart_by : (kind : Kind) (cid own : Cid) (at : ℕ) (d : Deadline) → same_kind kind GraceKind ≡ false → is_timer_of cid GraceKind d ≡ true →
    same_timer (timer own kind at) d ≡ false
apart_by kind cid own at d other of_it = other_kind d own kind at (ap (same_kind kind) (kind_is cid d of_it) ∙ other)

phase-no_grace : (cid own : Cid) (phase : Phase) (d : Deadline) → is_timer_of cid GraceKind d ≡ true → has_timer d (phase_deadlines own phase) ≡ false
phase-no_grace cid own Dialing d of_it = refl
phase-no_grace cid own (Greeting until) d of_it = rw (apart_by Handshake cid own until d refl of_it) refl
phase-no_grace cid own Negotiated d of_it = refl
phase-no_grace cid own (Closing until) d of_it = rw (apart_by TimeWait cid own until d refl of_it) refl

reply_is_no_grace : (protocol : ℕ) → same_kind (reply_kind protocol) GraceKind ≡ false
reply_is_no_grace protocol = elim (cases_Bool (protocol == chain_sync)) [
  | inl first ↦ rw first refl
  | inr rest ↦ elim (cases_Bool (protocol == keep_alive)) [
    | inl second ↦ rw (rest, second) refl
    | inr third ↦ rw (rest, third) refl
  ]
]

owed-no_grace : (cid own : Cid) (owed : List Owed) (d : Deadline) → is_timer_of cid GraceKind d ≡ true → has_timer d (map (reply_deadline own) owed) ≡ false
owed-no_grace cid own [] d of_it = refl
owed-no_grace cid own (o ∷ os) d of_it =
    rw (apart_by (reply_kind o.protocol) cid own o.until d (reply_is_no_grace o.protocol) of_it) (owed-no_grace cid own os d of_it)

-- ---- a timer of the grace's kind

pub set_there : (cid : Cid) (until : ℕ) (d : Deadline) (had : Bool) → is_timer_of cid GraceKind d ≡ true →
    (same_timer (timer cid GraceKind until) d || (had && not (is_timer_of cid GraceKind d))) ≡ is_set_at d.at (Some until)
set_there cid until d had of_it = by_numbers until d.at cid.0 d.cid.0 (kind_place GraceKind) (kind_place d.kind) had of_it
  where
    by_numbers : (a b i j k l : ℕ) (h : Bool) → (j == i && l == k) ≡ true → ((a == b && (i == j && k == l)) || (h && not (j == i && l == k))) ≡ (a == b)
    by_numbers a b i j k l h e = grind (arith, nat_tests)

pub not_there : (cid : Cid) (until : ℕ) (d : Deadline) → is_timer_of cid GraceKind d ≡ false → same_timer (timer cid GraceKind until) d ≡ false
not_there cid until d other = by_numbers until d.at cid.0 d.cid.0 (kind_place GraceKind) (kind_place d.kind) other
  where
    by_numbers : (a b i j k l : ℕ) → (j == i && l == k) ≡ false → (a == b && (i == j && k == l)) ≡ false
    by_numbers a b i j k l e = grind (arith, nat_tests)

alone : (cid : Cid) (until : ℕ) (d : Deadline) → is_timer_of cid GraceKind d ≡ true → has_timer d (timer cid GraceKind until ∷ []) ≡ (until == d.at)
alone cid until d of_it = ap (λ b. same_timer (timer cid GraceKind until) d || b) (sym none) ∙ set_there cid until d false of_it
  where
    none : (false && not (is_timer_of cid GraceKind d)) ≡ false
    none = refl

grace-is : (cid : Cid) (grace : Grace) (d : Deadline) → is_timer_of cid GraceKind d ≡ true → has_timer d (grace_deadlines cid grace) ≡ is_set_at d.at (grace_end grace)
grace-is cid Off d of_it = refl
grace-is cid (ForRemote until) d of_it = alone cid until d of_it
grace-is cid (ForLocal until) d of_it = alone cid until d of_it

grace-not : (cid : Cid) (grace : Grace) (d : Deadline) → is_timer_of cid GraceKind d ≡ false → has_timer d (grace_deadlines cid grace) ≡ false
grace-not cid Off d other = refl
grace-not cid (ForRemote until) d other = rw (not_there cid until d other) refl
grace-not cid (ForLocal until) d other = rw (not_there cid until d other) refl

-- of another timer nothing is told
pub still_there : (set own had : Bool) → set ≡ false → own ≡ false → (set || (had && not own)) ≡ had
still_there true own had e f = absurd (true≢false e)
still_there false true had e f = absurd (true≢false f)
still_there false false true e f = refl
still_there false false false e f = refl

-- ---- the deadlines of a connection, by their kinds

abbrev entry : Facts → List Owed → Entry
entry f owed = record { facts = f; undecoded = nothing_undecoded; owed = owed }

parts : (d : Deadline) (f : Facts) (owed : List Owed) → has_timer d (deadlines_of (entry f owed))
    ≡ ((has_timer d (phase_deadlines f.cid f.phase) || has_timer d (grace_deadlines f.cid f.grace)) || has_timer d (map (reply_deadline f.cid) owed))
parts d f owed =
    has-append d (phase_deadlines f.cid f.phase ++ grace_deadlines f.cid f.grace) (map (reply_deadline f.cid) owed)
    ∙ ap (λ b. b || has_timer d (map (reply_deadline f.cid) owed)) (has-append d (phase_deadlines f.cid f.phase) (grace_deadlines f.cid f.grace))

or_false : (b : Bool) → (b || false) ≡ b
or_false true = refl
or_false false = refl

-- of the kind of the grace it decides
of_grace : (d : Deadline) (f : Facts) (owed : List Owed) → is_timer_of f.cid GraceKind d ≡ true →
    has_timer d (deadlines_of (entry f owed)) ≡ is_set_at d.at (grace_end f.grace)
of_grace d f owed of_it =
    parts d f owed
    ∙ rw (phase-no_grace f.cid f.cid f.phase d of_it, owed-no_grace f.cid f.cid owed d of_it, grace-is f.cid f.grace d of_it)
    (or_false (is_set_at d.at (grace_end f.grace)))

-- of another kind it says nothing
of_others : (d : Deadline) (f : Facts) (owed : List Owed) → is_timer_of f.cid GraceKind d ≡ false →
    has_timer d (deadlines_of (entry f owed)) ≡ ((has_timer d (phase_deadlines f.cid f.phase) || false) || has_timer d (map (reply_deadline f.cid) owed))
of_others d f owed other = parts d f owed ∙ rw (grace-not f.cid f.grace d other) refl

-- ---- the timers are the deadlines again

-- of the kind of the grace a list has what was told before
pub grace_was : (f : Facts) (owed : List Owed) (line : List Deadline) → HasDeadlinesOf (entry f owed) line → IsMomentOf f.cid GraceKind (grace_end f.grace) line
grace_was f owed line had d of_it = had d (and_parts (same_cid d.cid f.cid) (same_kind d.kind GraceKind) of_it).0 ∙ of_grace d f owed of_it

pub regraced : (was is : Facts) (owed : List Owed) (old new : List Deadline) → is.cid ≡ was.cid → is.phase ≡ was.phase →
    HasDeadlinesOf (entry was owed) old → IsMomentOf is.cid GraceKind (grace_end is.grace) new →
    ((d : Deadline) → is_timer_of is.cid GraceKind d ≡ false → has_timer d new ≡ has_timer d old) →
    HaveSame new (deadlines_of (entry is owed) ++ without_cid is.cid old)
regraced was is owed old new own phase had grace others d =
    elim (cases_Bool (is_of is.cid d)) [
      | inl its ↦ its_own its ∙ sym (behind ∙ (ap (λ b. has_timer d (deadlines_of (entry is owed)) || b) (and_right (has_timer d old) _ (ap not its))
          ∙ or_false (has_timer d (deadlines_of (entry is owed)))))
      | inr gone ↦ others d (none gone) ∙ sym (behind ∙ rw (entry-apart d (entry is owed) gone, gone) (and_true (has_timer d old)))
    ]
  where
    and_true : (b : Bool) → (b && true) ≡ b
    and_true true = refl
    and_true false = refl

    behind : has_timer d (deadlines_of (entry is owed) ++ without_cid is.cid old)
        ≡ (has_timer d (deadlines_of (entry is owed)) || (has_timer d old && not (is_of is.cid d)))
    behind = has-append d (deadlines_of (entry is owed)) (without_cid is.cid old)
        ∙ ap (λ b. has_timer d (deadlines_of (entry is owed)) || b) (has-without is.cid d old)

    none : is_of is.cid d ≡ false → is_timer_of is.cid GraceKind d ≡ false
    none gone = ap (λ b. b && same_kind d.kind GraceKind) gone

    its_own : is_of is.cid d ≡ true → has_timer d new ≡ has_timer d (deadlines_of (entry is owed))
    its_own its = elim (cases_Bool (is_timer_of is.cid GraceKind d)) [
      | inl of_it ↦ grace d of_it ∙ sym (of_grace d is owed of_it)
      | inr other ↦ others d other
          ∙ (had d (ap (λ (c : Cid). is_of c d) (sym own) ∙ its)
          ∙ (of_others d was owed (ap (λ (c : Cid). is_timer_of c GraceKind d) (sym own) ∙ other)
          ∙ (sym (λ i. ((has_timer d (phase_deadlines (own i) (phase i)) || false) || has_timer d (map (reply_deadline (own i)) owed)))
          ∙ sym (of_others d is owed other))))
    ]

pub same_phase : (step : Step) (f : Facts) → keeps_phase step ≡ true → (after_step step f).phase ≡ f.phase
same_phase (Connected until) f h = absurd (true≢false (sym h))
same_phase (Agrees agreed until) f h = absurd (true≢false (sym h))
same_phase Acquire f h = refl
same_phase (Release until) f h = refl
same_phase (Awake protocol) f h = refl
same_phase (Idle protocol until) f h = refl
same_phase (GraceOver until) f h = absurd (true≢false (sym h))
