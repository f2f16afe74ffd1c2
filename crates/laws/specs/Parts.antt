-- What an operator counts on in each part of an event, between the records that it really reaches.
use Rattle.std.specs.Prelude.{ℕ, ◌≡◌, ◌≤◌, Bool, true, false, ◌||◌, List, [], ◌∷◌, All, Contains, Some}
use Rattle.laws.specs.Words.{AllByRecursion, list_any, CloseCause, Addr, Event, deadline_before, Deadline, deadlines, Effect, Happened, for_each, Machine, step}
use Rattle.laws.specs.Admitted.{AdmitsRight}
use Rattle.laws.specs.Agreed.{AgreesRight}
use Rattle.laws.specs.BackOff.{Remembers, FailsOnly}
use Rattle.laws.specs.Begun.{WaitsBegin}
use Rattle.laws.specs.Goes.{GoesWhere, Lingers}
use Rattle.laws.specs.Responders.{RespondsRight}
use Rattle.laws.specs.RootsAsked.{AsksRight}
use Rattle.laws.specs.Sends.{SendsRight, Speaks}
use Rattle.laws.specs.Served.{AnswersRight}
use Rattle.laws.specs.Acts.{Act, fires_one, carries, does, acts, Part, effect_of, parts_of}
use Rattle.laws.specs.AtMoves.{is_closed_by, is_negotiated_at, is_up, is_hot_or_asked, is_known, promotes, activates, is_shared_in, is_provided_by, MovesAreLawful}
use Rattle.laws.specs.CarriedOut.{IsDoneByOrder, TreatsBook, KeepsClass, KeepsKnown, HeatsUp, CoolsOnly, Forgives, PausesRight, IsSet}
use Rattle.laws.specs.Ends.{ends_due, but_pruned, pruned_in, IsPrunedIn}
use Rattle.laws.specs.Stages.{causes_in, IsLateCause}
use Rattle.laws.specs.Telling.{IsTold}
use Rattle.laws.specs.OpenEnds.{OpenEndsOnce}
use Rattle.laws.specs.Ordered.{IsDueOrder}
use Rattle.laws.specs.Moments.{IsOverAfter}
use Rattle.laws.specs.Untouched.{LeavesRest}
use Rattle.laws.specs.Waits.{until_at, WaitsRight}
use Rattle.laws.specs.InActions.{ends_in}

-- ---- what a part does

-- a deadline is due, and none fires before it
pub record IsLeastDue (m : Machine) (d : Deadline) : Type 0 where
  pub among : Contains (deadlines m) d
  pub due : d.at ≤ m.now
  -- its connection waits until that moment, for what the deadline is of
  pub waited : until_at d.kind d.cid.0 m ≡ Some d.at
  pub first : All (λ other. deadline_before other d ≡ false) (deadlines m)

-- A deadline fires in its turn, and the governor orders what is due.
abbrev pub IsNext : Act → Machine → Type 0
IsNext (fires_one d) m = IsLeastDue m d
IsNext (carries order) m = IsDueOrder order m
IsNext other m = Unit {0}

-- ---- whose handshake was done before it

-- It stays so, or the other side has closed it, or it has one end, for a late cause.
abbrev pub IsDone : List CloseCause → Bool → Bool → Type 0
IsDone [] stays closed = (stays || closed) ≡ true
IsDone (cause ∷ []) stays closed = (stays ≡ false) × IsLateCause cause
IsDone (cause ∷ other ∷ causes) stays closed = ⊥

abbrev pub EndsOnce : Event → Machine → Effect → Type 0
EndsOnce event before effect = (cid : ℕ) → is_negotiated_at cid before ≡ true →
    IsDone (causes_in cid effect.moves) (is_negotiated_at cid effect.machine) (is_closed_by cid event)

-- ---- who comes up

-- Whoever is so after was so before, or a move says so.
abbrev pub RisesBy : (Addr → Machine → Bool) → (Addr → Happened → Bool) → Machine → Effect → Type 0
RisesBy is says before effect = (addr : Addr) → is addr effect.machine ≡ true → (is addr before || list_any (λ move. says addr move.happened) effect.moves) ≡ true

abbrev pub Arrives : Event → Machine → Effect → Type 0
Arrives event before effect = (addr : Addr) → is_known addr effect.machine ≡ true →
    (is_known addr before || is_shared_in addr effect.moves || is_provided_by addr event) ≡ true

-- ---- each part, and each event

-- what a part does is told, and so does the event as a whole
pub record IsAccounted (event : Event) (before : Machine) (effect : Effect) : Type 0 where
  -- the actions tell what is done, and nothing else
  pub told : IsTold before effect
  -- whoever was negotiated is ended once at most, for a late cause
  pub done : EndsOnce event before effect
  -- nobody comes into use, becomes hot or is known unseen
  pub promotions : RisesBy is_up promotes before effect
  pub activations : RisesBy is_hot_or_asked activates before effect
  pub arrivals : Arrives event before effect

pub record IsLawfulPart (event : Event) (part : Part) : Type 0 where
  pub accounted : IsAccounted event part.before (effect_of part)
  -- a deadline fires in its turn, and an order is due
  pub next : IsNext part.act part.before
  -- an order does what it says
  pub order : IsDoneByOrder part.act part.before (effect_of part)
  -- the book changes only where it is to
  pub book : TreatsBook part.act part.before (effect_of part).machine
  -- whoever stays in it keeps the class, and whoever comes is of the class that is brought
  pub classes : KeepsClass part.act part.before (effect_of part).machine
  -- nobody leaves it but by an order
  pub known : KeepsKnown part.act part.before (effect_of part).machine
  -- whoever answers where the chains meet is hot
  pub heats : HeatsUp part.act part.before (effect_of part).machine
  -- a peer in use cools only by a release, a deactivation or the loss of its connection
  pub cools : CoolsOnly part.act part.before (effect_of part).machine
  -- a peer that comes into use by it has no failures
  pub forgiven : Forgives part.act part.before (effect_of part).machine
  -- accepting pauses where it must, for how long it must, and nowhere else
  pub pauses : PausesRight part.act part.before (effect_of part)
  -- it ends whom it must, for the cause that stands, and nobody else but by pruning
  pub ends : but_pruned (ends_in (effect_of part).moves) ≡ ends_due part.act part.before
  -- whatever stands open stays so or ends once
  pub opens : OpenEndsOnce part.act part.before (effect_of part)
  -- it prunes only one that may go, or that moved
  pub pruned : AllByRecursion (IsPrunedIn part.act part.before) (pruned_in (effect_of part).moves)
  -- whatever a connection comes to wait for, it does so as long as the settings say
  pub waits : WaitsRight part.before (effect_of part).machine
  -- on its own connection a wait begins, goes on and ends exactly where it is to
  pub begins : WaitsBegin part.act part.before (effect_of part).machine
  -- every connection but its own is as it was
  pub rest : LeavesRest part.act part.before (effect_of part).machine
  -- the clock, the targets and the groups are what was set last
  pub sets : IsSet part.act part.before (effect_of part).machine
  -- what has fired is over
  pub over : IsOverAfter part.act (effect_of part).machine
  -- whom the other side closes is gone, and whose dial fails
  pub goes : GoesWhere part.act part.before (effect_of part)
  -- one that waits its time stays until that is over
  pub lingers : Lingers part.act part.before (effect_of part).machine
  -- who connects is let in, or turned away for the first cause that stands, and nobody else is
  pub admits : AdmitsRight part.act part.before (effect_of part)
  -- public roots are asked for exactly where they are wanted
  pub asks : AsksRight part.act part.before (effect_of part)
  -- what a handshake ends in is what both sides said
  pub agrees : AgreesRight part.act part.before (effect_of part).machine
  -- a protocol runs from its first item to its last
  pub responds : RespondsRight part.act part.before (effect_of part).machine
  -- whoever asks is answered, and told of nobody but who may be told
  pub answers : AnswersRight part.act part.before (effect_of part)
  -- what is due is sent, and nothing else
  pub sends : SendsRight part.act part.before (effect_of part)
  -- it is said to who is open, and nothing is said behind a close
  pub speaks : Speaks part.before (effect_of part)
  -- what is remembered of a peer changes only by what happens with it
  pub remembers : Remembers part.act part.before (effect_of part).machine
  -- a peer fails only where a connection with it in use, or its dial, went
  pub fails : FailsOnly part.before (effect_of part).machine

pub record IsLawfulEvent (m : Machine) (event : Event) : Type 0 where
  -- it is its parts, one after the other
  pub parts : step m event ≡ for_each does (acts m event) m
  pub each : All (IsLawfulPart event) (parts_of m event)
  pub accounted : IsAccounted event m (step m event)
  -- nothing is said to who is closed
  pub speaks : Speaks m (step m event)
  -- each move keeps back-off and targets, and ends for cause
  pub moves : MovesAreLawful m event
