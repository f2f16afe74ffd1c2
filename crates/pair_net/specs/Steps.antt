-- What a step makes of a pair.
use Rattle.std.specs.Prelude.{◌≡◌, ℕ, Bool, true, false, ◌&&◌, List, [], ◌∷◌, ◌++◌, take, Option, Some, None, if◌then◌else◌}
use Rattle.hs_decide.specs.declared.role.Role.TheVariants.{Acceptor, Dialer}
use Rattle.hs_receive.specs.declared.received.Received.{Received}
use Rattle.pair_net.specs.Ends.{waiting_as, reached_by, answered, taken_out, given, come_to}
use Rattle.pair_net.specs.Notes.{told, sent_notes}
use Rattle.pair_net.specs.Hearing.{heard, phase_after}
use Rattle.pair_net.specs.Speaking.{proposal_frame, answer_after}
use Rattle.pair_net.specs.Pair.{PairState, other, end_of, pair_of}
use Rattle.pair_net.specs.declared.end.End.{End}
use Rattle.pair_net.specs.declared.end.End.TheVariants.{Left, Right}
use Rattle.pair_net.specs.declared.end.EndCause.{EndCause}
use Rattle.pair_net.specs.declared.end.EndCause.TheVariants.{Timeout as TooLate, Closed}
use Rattle.pair_net.specs.declared.end.EndPhase.{EndPhase}
use Rattle.pair_net.specs.declared.end.EndPhase.TheVariants.{Fresh, Waiting, Agreed, Ended}
use Rattle.pair_net.specs.declared.end_state.EndState.{EndState}
use Rattle.pair_net.specs.declared.note.PairNote.{PairNote}
use Rattle.pair_net.specs.declared.note.PairNote.TheVariants.{Waits, Sent}
use Rattle.pair_net.specs.declared.pair_step.PairStep.{PairStep}
use Rattle.pair_net.specs.declared.pair_step.PairStep.TheVariants.{Meet, Cross, Deliver, Timeout, Close}

-- the pair after a step, and what is told of the step
pub record Turn : Type 0 where
  pub pair : PairState
  pub notes : List PairNote

-- what a function returned is this turn
pub record IsTurn (turn : Turn) (pair : PairState) (notes : List PairNote) : Type 0 where
  pub pair-is : pair ≡ turn.pair
  pub notes-are : notes ≡ turn.notes

abbrev pub nothing_changes : PairState → Turn
nothing_changes p = record { pair = p; notes = [] }

-- ---- who dials

abbrev pub is_fresh : EndPhase → Bool
is_fresh Fresh = true
is_fresh (Waiting role) = false
is_fresh (Agreed agreed) = false
is_fresh (Ended cause) = false

abbrev pub are_fresh : PairState → Bool
are_fresh p = is_fresh p.left.phase && is_fresh p.right.phase

-- An end waits for an answer, its proposal is on the way, and then the other one waits for the proposal.
abbrev pub meets : End → EndState → EndState → Turn
meets end near far = let sent = proposal_frame near.info in record {
  pair = pair_of end (waiting_as Dialer near) (waiting_as Acceptor (reached_by sent far));
  notes = Waits end Dialer ∷ Sent end sent ∷ Waits (other end) Acceptor ∷ [];
}

-- Both wait for an answer, each with its proposal on the way.
abbrev pub crosses : EndState → EndState → Turn
crosses left right =
    let left_sent = proposal_frame left.info in
    let right_sent = proposal_frame right.info in record {
      pair = record { left = waiting_as Dialer (reached_by right_sent left); right = waiting_as Dialer (reached_by left_sent right) };
      notes = Waits Left Dialer ∷ Sent Left left_sent ∷ Waits Right Dialer ∷ Sent Right right_sent ∷ [];
    }

-- ---- what a pipe delivers

-- what an end that waited has heard, if anything: it answers, and has come as far as that leads
abbrev pub concludes : Option Received → End → EndState → EndState → Turn
concludes None end near far = record { pair = pair_of end near far; notes = [] }
concludes (Some received) end near far =
    let said = answer_after received near.info in
    let phase = phase_after received in record {
      pair = pair_of end (come_to phase near) (answered said far);
      notes = sent_notes end said ++ told end phase;
    }

-- An end that waits receives the bytes. Any other one drops them.
abbrev pub delivers_in : EndPhase → ℕ → End → EndState → EndState → Turn
delivers_in (Waiting role) count end near far =
    concludes (heard role near.info near.stream (take count near.incoming)) end (given count near) far
delivers_in phase count end near far = record { pair = pair_of end (taken_out count near) far; notes = [] }

abbrev pub delivers : ℕ → End → EndState → EndState → Turn
delivers count end near far = delivers_in near.phase count end near far

-- ---- ends that end

abbrev pub ends_by : EndCause → End → PairState → Turn
ends_by cause end p = record {
  pair = pair_of end (record (end_of end p) { phase = Ended cause }) (end_of (other end) p);
  notes = told end (Ended cause);
}

-- only where it waits
abbrev pub times_out_in : EndPhase → End → PairState → Turn
times_out_in (Waiting role) end p = ends_by TooLate end p
times_out_in phase end p = nothing_changes p

-- only where it has not ended
abbrev pub closes_in : EndPhase → End → PairState → Turn
closes_in (Ended cause) end p = nothing_changes p
closes_in phase end p = ends_by Closed end p

-- ---- all steps

abbrev pub stepped : PairStep → PairState → Turn
stepped (Meet end) p = if are_fresh p then meets end (end_of end p) (end_of (other end) p) else nothing_changes p
stepped Cross p = if are_fresh p then crosses p.left p.right else nothing_changes p
stepped (Deliver end count) p = delivers count end (end_of end p) (end_of (other end) p)
stepped (Timeout end) p = times_out_in (end_of end p).phase end p
stepped (Close end) p = closes_in (end_of end p).phase end p

-- what each step makes of a pair, whoever says so
abbrev pub Machine : Type 0
Machine = PairStep → PairState → Turn

-- the pair after a list of steps
abbrev pub led_by : Machine → List PairStep → PairState → PairState
led_by machine [] p = p
led_by machine (step ∷ steps) p = led_by machine steps (machine step p).pair

abbrev pub pair_after : List PairStep → PairState → PairState
pair_after = led_by stepped
