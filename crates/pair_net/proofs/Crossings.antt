-- A crossing: both ends have dialed at once.
use Rattle.std.proofs.Common.{◌≡◌, ℕ, ◌⊎◌, take, Some, None, refl, ap, ◌∙◌, inl, inr}
use Rattle.hs_message.specs.declared.info.VersionInfo.{VersionInfo}
use Rattle.hs_message.specs.declared.message.Message.TheVariants as message
use Rattle.hs_decide.specs.Agreement.{verdict_of}
use Rattle.hs_decide.specs.Answers.{own_table}
use Rattle.hs_decide.specs.declared.role.Role.TheVariants.{Dialer}
use Rattle.hs_decide.specs.declared.verdict.Verdict.{Verdict}
use Rattle.hs_decide.specs.declared.verdict.Verdict.TheVariants as verdict
use Rattle.hs_receive.specs.declared.received.Received.TheVariants.{Decided}
use Rattle.net_base.specs.declared.connection.Agreed.{Agreed as AgreedOn}
use Rattle.pair_net.specs.Ends.{given, taken_out, come_to}
use Rattle.pair_net.specs.Hearing.{heard}
use Rattle.pair_net.specs.Law.{CanOffer}
use Rattle.pair_net.specs.Pair.{pair_of}
use Rattle.pair_net.specs.Speaking.{proposal_frame}
use Rattle.pair_net.specs.Steps.{Turn, concludes, delivers}
use Rattle.pair_net.specs.declared.end.End.{End}
use Rattle.pair_net.specs.declared.end.EndCause.TheVariants as cause
use Rattle.pair_net.specs.declared.end.EndPhase.TheVariants.{Agreed, Ended}
use Rattle.pair_net.specs.declared.end_state.EndState.{EndState}
use Rattle.pair_net.proofs.Spoken.{IsSpoken, proposal_spoken}
use Rattle.pair_net.proofs.Verdicts.{common, meets_or_refuses}
use Rattle.pair_net.proofs.Listening.{IsListening, by_heard, hears_or_waits}
use Rattle.pair_net.proofs.Meetings.{HasEnded, dropped}

-- what one end decides on the proposal of the other
abbrev pub on_crossing : VersionInfo → VersionInfo → Verdict
on_crossing own theirs = verdict_of Dialer own (message.Propose (own_table theirs))

module _ (own theirs : VersionInfo) where
  pub record HasAgreedOn (e : EndState) : Type 0 where
    pub agreed : AgreedOn
    pub phase-is : e.phase ≡ Agreed agreed
    pub decided : on_crossing own theirs ≡ verdict.Agree agreed

  -- one of the two ends
  pub data Crosses : EndState → Type 0 where
    listens : {e : EndState} → IsListening Dialer own (proposal_frame theirs) e → Crosses e
    agrees : {e : EndState} → HasAgreedOn e → Crosses e

  pub record GoesOn (turn : Turn) (end : End) (far : EndState) : Type 0 where
    pub near : EndState
    pub pair-is : turn.pair ≡ pair_of end near far
    pub crosses : Crosses near

  pub record Stops (turn : Turn) (end : End) (far : EndState) : Type 0 where
    pub near : EndState
    pub pair-is : turn.pair ≡ pair_of end near far
    pub ended : HasEnded near
    pub decided : on_crossing own theirs ≡ verdict.Refused

  module _ (offers : CanOffer theirs) (count : ℕ) (end : End) (near far : EndState) where
    abbrev the_turn : Turn
    the_turn = delivers count end near far

    on_hearing : IsListening Dialer own (proposal_frame theirs) near → (v : Verdict) → on_crossing own theirs ≡ v
        → heard Dialer own near.stream (take count near.incoming) ≡ Some (Decided (on_crossing own theirs))
        → the_turn ≡ concludes (Some (Decided v)) end (given count near) far
    on_hearing h v is hears =
        by_heard Dialer own (proposal_frame theirs) near h count end far (Some (Decided v)) (hears ∙ ap (λ (x : Verdict). Some (Decided x)) is)

    abbrev refused_now : EndState
    refused_now = come_to (Ended cause.Refused) (given count near)

    abbrev agreed_now : EndState
    agreed_now = come_to (Agreed (common own theirs)) (given count near)

    pub listener_is_given : IsListening Dialer own (proposal_frame theirs) near → GoesOn the_turn end far ⊎ Stops the_turn end far
    listener_is_given h =
        let said : IsSpoken Dialer own (proposal_frame theirs) (on_crossing own theirs) = proposal_spoken Dialer own theirs offers.magic in
        elim (hears_or_waits Dialer own (proposal_frame theirs) near h (on_crossing own theirs) said count) [
          | inl waits ↦
              let is : the_turn ≡ concludes None end (given count near) far = by_heard Dialer own (proposal_frame theirs) near h count end far None waits.unheard in
              inl (record { near = given count near; pair-is = ap (λ (t : Turn). t.pair) is; crosses = listens waits.listening })
          | inr hears ↦ elim (meets_or_refuses own theirs offers.offers) [
            | inl refuses ↦
                let is = on_hearing h verdict.Refused refuses hears.hears in
                inr (record { near = refused_now; pair-is = ap (λ (t : Turn). t.pair) is; ended = (cause.Refused, refl); decided = refuses })
            | inr meets ↦
                let is = on_hearing h (verdict.Agree (common own theirs)) meets hears.hears in
                inl (record {
                  near = agreed_now;
                  pair-is = ap (λ (t : Turn). t.pair) is;
                  crosses = agrees (record { agreed = common own theirs; phase-is = refl; decided = meets });
                })
          ]
        ]

    pub one_is_given : Crosses near → GoesOn the_turn end far ⊎ Stops the_turn end far
    one_is_given (listens h) = listener_is_given h
    one_is_given (agrees h) =
        inl (record {
          near = taken_out count near;
          pair-is = dropped h.agreed count end near far h.phase-is;
          crosses = agrees (record { agreed = h.agreed; phase-is = h.phase-is; decided = h.decided });
        })
