-- What an end says: segments of the handshake, of time 0.
use Rattle.std.specs.Prelude.{◌≡◌, ℕ, List, [], ◌∷◌, ◌++◌, Option, None}
use Rattle.std.specs.Option.{option_map}
use Rattle.hs_decide.specs.Answers.{answer_of, proposal_of}
use Rattle.hs_decide.specs.declared.role.Role.TheVariants.{Dialer}
use Rattle.hs_decide.specs.declared.verdict.Verdict.{Verdict}
use Rattle.hs_message.specs.declared.info.VersionInfo.{VersionInfo}
use Rattle.hs_receive.specs.declared.received.Received.{Received}
use Rattle.hs_receive.specs.declared.received.Received.TheVariants.{Decided, Fault}
use Rattle.mux_segment.specs.Frame.{frame_of}
use Rattle.pair_net.specs.Ends.{waiting_as, reached_by}
use Rattle.pair_net.specs.declared.end.End.{End}
use Rattle.pair_net.specs.declared.end_state.EndState.{EndState}
use Rattle.pair_net.specs.declared.note.PairNote.{PairNote}
use Rattle.pair_net.specs.declared.note.PairNote.TheVariants.{Waits, Sent}

-- The initiator's side is 0 and the responder's 1. The handshake is protocol 0.

abbrev pub proposal_frame : VersionInfo → List ℕ
proposal_frame own = frame_of 0 0 0 (proposal_of own)

abbrev pub answer_frame : Verdict → VersionInfo → Option (List ℕ)
answer_frame verdict own = option_map (frame_of 1 0 0) (answer_of verdict own)

-- what an end says to what it has received, if anything
abbrev pub answer_after : Received → VersionInfo → Option (List ℕ)
answer_after (Decided verdict) own = answer_frame verdict own
answer_after (Fault kind) own = None

-- an end waits for an answer, and its proposal is on the way to the other one
pub record HasDialed (end : End) (near far : EndState) (notes : List PairNote) (near' far' : EndState) (notes' : List PairNote) : Type 0 where
  pub near-is : near' ≡ waiting_as Dialer near
  pub far-is : far' ≡ reached_by (proposal_frame near.info) far
  pub notes-are : notes' ≡ notes ++ (Waits end Dialer ∷ Sent end (proposal_frame near.info) ∷ [])
