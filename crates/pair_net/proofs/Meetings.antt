-- A meeting: one end has dialed the other.
use Rattle.std.proofs.Common.{◌≡◌, ℕ, true, false, eqb, List, [], take, drop, Some, None, refl, sym, ap, subst, ◌∙◌, arith, inl, inr}
use Rattle.std.proofs.lemmas.List.{drop_all}
use Rattle.std.proofs.lemmas.Bool.{cases_Bool}
use Rattle.hs_message.specs.declared.info.VersionInfo.{VersionInfo}
use Rattle.hs_message.specs.declared.info.Info.TheVariants.{Known}
use Rattle.hs_message.specs.declared.message.Message.TheVariants as message
use Rattle.hs_message.specs.Canonical.{node_spelling}
use Rattle.hs_decide.specs.Agreement.{verdict_of}
use Rattle.hs_decide.specs.Answers.{own_table, agreed_info}
use Rattle.hs_decide.specs.declared.role.Role.TheVariants.{Acceptor, Dialer}
use Rattle.hs_decide.specs.declared.verdict.Verdict.{Verdict}
use Rattle.hs_decide.specs.declared.verdict.Verdict.TheVariants as verdict
use Rattle.hs_decide.specs.declared.verdict.Why.TheVariants.{Magic}
use Rattle.hs_receive.specs.declared.received.Received.{Received}
use Rattle.hs_receive.specs.declared.received.Received.TheVariants.{Decided}
use Rattle.mux_segment.specs.Frame.{frame_of}
use Rattle.net_base.specs.declared.connection.Agreed.{Agreed as AgreedOn}
use Rattle.pair_net.specs.Ends.{given, taken_out, answered, come_to}
use Rattle.pair_net.specs.Hearing.{heard}
use Rattle.pair_net.specs.Law.{CanOffer}
use Rattle.pair_net.specs.Pair.{PairState, other, end_of, pair_of}
use Rattle.pair_net.specs.Speaking.{proposal_frame, answer_after}
use Rattle.pair_net.specs.Steps.{Turn, concludes, delivers_in, delivers}
use Rattle.pair_net.specs.declared.end.End.{End}
use Rattle.pair_net.specs.declared.end.End.TheVariants.{Left, Right}
use Rattle.pair_net.specs.declared.end.EndCause.{EndCause}
use Rattle.pair_net.specs.declared.end.EndCause.TheVariants as cause
use Rattle.pair_net.specs.declared.end.EndPhase.{EndPhase}
use Rattle.pair_net.specs.declared.end.EndPhase.TheVariants.{Agreed, Ended}
use Rattle.pair_net.specs.declared.end_state.EndState.{EndState}
use Rattle.pair_net.proofs.Spoken.{IsSpoken, proposal_spoken, acceptance_spoken}
use Rattle.pair_net.proofs.Verdicts.{common, accepts, refuses, agrees}
use Rattle.pair_net.proofs.Listening.{IsListening, by_heard, hears_or_waits, silent_waits, reached_listens}
use Rattle.pair_net.proofs.Frames.{nothing_comes}

-- ---- the two ends of a pair, seen from one of them

pub at_near : (P : EndState → EndState → Type 0) (d : End) (t : Turn) (x y : EndState) → t.pair ≡ pair_of d x y → P x y → P (end_of d t.pair) (end_of (other d) t.pair)
at_near P Left t x y is h = subst (λ (p : PairState). P p.left p.right) (sym is) h
at_near P Right t x y is h = subst (λ (p : PairState). P p.right p.left) (sym is) h

pub at_far : (P : EndState → EndState → Type 0) (d : End) (t : Turn) (x y : EndState) → t.pair ≡ pair_of (other d) y x → P x y → P (end_of d t.pair) (end_of (other d) t.pair)
at_far P Left t x y is h = subst (λ (p : PairState). P p.left p.right) (sym is) h
at_far P Right t x y is h = subst (λ (p : PairState). P p.right p.left) (sym is) h

abbrev pub HasEnded : EndState → Type 0
HasEnded e = (why : EndCause) × (e.phase ≡ Ended why)

-- an end that does not wait drops what comes
pub dropped : (agreed : AgreedOn) (count : ℕ) (end : End) (near far : EndState) → near.phase ≡ Agreed agreed
    → (delivers count end near far).pair ≡ pair_of end (taken_out count near) far
dropped agreed count end near far is = ap (λ (phase : EndPhase). (delivers_in phase count end near far).pair) is

-- ---- how far a meeting has come: the dialer `near`, and the acceptor `far`

module _ (dialer acceptor : VersionInfo) where
  abbrev pub the_proposal : List ℕ
  the_proposal = proposal_frame dialer

  abbrev pub the_acceptance : List ℕ
  the_acceptance = frame_of 1 0 0 (node_spelling (message.Accept 14 (Known (agreed_info acceptor (common acceptor dialer)))))

  pub record HasProposed (near far : EndState) : Type 0 where
    pub dials : IsListening Dialer dialer [] near
    pub listens : IsListening Acceptor acceptor the_proposal far

  pub record HasAccepted (near far : EndState) : Type 0 where
    pub same : eqb acceptor.magic dialer.magic ≡ true
    pub listens : IsListening Dialer dialer the_acceptance near
    pub accepted : far.phase ≡ Agreed (common acceptor dialer)
    pub silent : far.incoming ≡ []

  pub record IsDone (near far : EndState) : Type 0 where
    pub same : eqb acceptor.magic dialer.magic ≡ true
    pub agreed : near.phase ≡ Agreed (common acceptor dialer)
    pub accepted : far.phase ≡ Agreed (common acceptor dialer)
    pub silent : far.incoming ≡ []

  pub data Meets : EndState → EndState → Type 0 where
    proposed : {near far : EndState} → HasProposed near far → Meets near far
    accepted : {near far : EndState} → HasAccepted near far → Meets near far
    done : {near far : EndState} → IsDone near far → Meets near far

  pub data Goes : EndState → EndState → Type 0 where
    on : {near far : EndState} → Meets near far → Goes near far
    refused : {near far : EndState} → eqb acceptor.magic dialer.magic ≡ false → HasEnded far → Goes near far

  module _ (offers : CanOffer dialer) (offered : CanOffer acceptor) (d : End) (count : ℕ) (near far : EndState) where
    -- ---- the dialer is given bytes

    abbrev to_near : Turn
    to_near = delivers count d near far

    abbrev NearStill : Type 0
    NearStill = Meets (end_of d to_near.pair) (end_of (other d) to_near.pair)

    near_of_proposed : HasProposed near far → NearStill
    near_of_proposed h =
        let w = silent_waits Dialer dialer near nothing_comes h.dials count in
        let is : to_near ≡ concludes None d (given count near) far = by_heard Dialer dialer [] near h.dials count d far None w.0 in
        at_near Meets d to_near (given count near) far (ap (λ (t : Turn). t.pair) is) (proposed (record { dials = w.1; listens = h.listens }))

    abbrev agreed_now : EndState
    agreed_now = come_to (Agreed (common acceptor dialer)) (given count near)

    near_of_accepted : HasAccepted near far → NearStill
    near_of_accepted h =
        let v = verdict_of Dialer dialer (message.Accept 14 (Known (agreed_info acceptor (common acceptor dialer)))) in
        let said : IsSpoken Dialer dialer the_acceptance v = acceptance_spoken dialer (agreed_info acceptor (common acceptor dialer)) offered.magic in
        let agree : v ≡ verdict.Agree (common acceptor dialer) = agrees dialer acceptor offers.offers h.same in
        elim (hears_or_waits Dialer dialer the_acceptance near h.listens v said count) [
          | inl waits ↦
              let is : to_near ≡ concludes None d (given count near) far = by_heard Dialer dialer the_acceptance near h.listens count d far None waits.unheard in
              at_near Meets d to_near (given count near) far (ap (λ (t : Turn). t.pair) is)
              (accepted (record { same = h.same; listens = waits.listening; accepted = h.accepted; silent = h.silent }))
          | inr hears ↦
              let heard_it : heard Dialer dialer near.stream (take count near.incoming) ≡ Some (Decided (verdict.Agree (common acceptor dialer))) =
              hears.hears ∙ ap (λ (x : Verdict). Some (Decided x)) agree in
              let is : to_near ≡ concludes (Some (Decided (verdict.Agree (common acceptor dialer)))) d (given count near) far =
              by_heard Dialer dialer the_acceptance near h.listens count d far (Some (Decided (verdict.Agree (common acceptor dialer)))) heard_it in
              at_near Meets d to_near agreed_now far (ap (λ (t : Turn). t.pair) is)
              (done (record { same = h.same; agreed = refl; accepted = h.accepted; silent = h.silent }))
        ]

    near_of_done : IsDone near far → NearStill
    near_of_done h =
        at_near Meets d to_near (taken_out count near) far (dropped (common acceptor dialer) count d near far h.agreed)
        (done (record { same = h.same; agreed = h.agreed; accepted = h.accepted; silent = h.silent }))

    pub dialer_is_given : Meets near far → NearStill
    dialer_is_given (proposed h) = near_of_proposed h
    dialer_is_given (accepted h) = near_of_accepted h
    dialer_is_given (done h) = near_of_done h

    -- ---- the acceptor is given bytes

    abbrev to_far : Turn
    to_far = delivers count (other d) far near

    abbrev FarGoes : Type 0
    FarGoes = Goes (end_of d to_far.pair) (end_of (other d) to_far.pair)

    abbrev accepted_now : EndState
    accepted_now = come_to (Agreed (common acceptor dialer)) (given count far)

    far_accepts : HasProposed near far → eqb acceptor.magic dialer.magic ≡ true → heard Acceptor acceptor far.stream (take count far.incoming) ≡
        Some (Decided (verdict_of Acceptor acceptor (message.Propose (own_table dialer)))) → (given count far).incoming ≡ [] → FarGoes
    far_accepts h same hears silent =
        let r : Received = Decided (verdict.Accept (common acceptor dialer)) in
        let heard_it : heard Acceptor acceptor far.stream (take count far.incoming) ≡ Some r = hears ∙ ap (λ (x : Verdict). Some (Decided x)) (accepts acceptor dialer offers.offers same) in
        let is : to_far ≡ concludes (Some r) (other d) (given count far) near = by_heard Acceptor acceptor the_proposal far h.listens count (other d) near (Some r) heard_it in
        let info : far.info ≡ acceptor = h.listens.info-is in
        let told : to_far.pair ≡ pair_of (other d) accepted_now (answered (Some the_acceptance) near) =
        ap (λ (t : Turn). t.pair) is
        ∙ ap (λ (i : VersionInfo). pair_of (other d) accepted_now
        (answered (Some (frame_of 1 0 0 (node_spelling (message.Accept 14 (Known (agreed_info i (common acceptor dialer))))))) near)) info in
        at_far Goes d to_far (answered (Some the_acceptance) near) accepted_now told
        (on (accepted (record { same = same; listens = reached_listens Dialer dialer the_acceptance near h.dials; accepted = refl; silent = silent })))

    abbrev refused_now : EndState
    refused_now = come_to (Ended cause.Refused) (given count far)

    far_refuses : HasProposed near far → eqb acceptor.magic dialer.magic ≡ false → heard Acceptor acceptor far.stream (take count far.incoming) ≡
        Some (Decided (verdict_of Acceptor acceptor (message.Propose (own_table dialer)))) → FarGoes
    far_refuses h differ hears =
        let r : Received = Decided (verdict.Refuse (Magic 14)) in
        let heard_it : heard Acceptor acceptor far.stream (take count far.incoming) ≡ Some r = hears ∙ ap (λ (x : Verdict). Some (Decided x)) (refuses acceptor dialer differ) in
        let is : to_far ≡ concludes (Some r) (other d) (given count far) near = by_heard Acceptor acceptor the_proposal far h.listens count (other d) near (Some r) heard_it in
        at_far Goes d to_far (answered (answer_after r far.info) near) refused_now (ap (λ (t : Turn). t.pair) is)
        (refused differ (cause.Refused, refl))

    far_of_proposed : HasProposed near far → FarGoes
    far_of_proposed h =
        let v = verdict_of Acceptor acceptor (message.Propose (own_table dialer)) in
        let said : IsSpoken Acceptor acceptor the_proposal v = proposal_spoken Acceptor acceptor dialer offers.magic in
        elim (hears_or_waits Acceptor acceptor the_proposal far h.listens v said count) [
          | inl waits ↦
              let is : to_far ≡ concludes None (other d) (given count far) near = by_heard Acceptor acceptor the_proposal far h.listens count (other d) near None waits.unheard in
              at_far Goes d to_far near (given count far) (ap (λ (t : Turn). t.pair) is)
              (on (proposed (record { dials = h.dials; listens = waits.listening })))
          | inr hears ↦
              elim (cases_Bool (eqb acceptor.magic dialer.magic)) [
                | inl same ↦ far_accepts h same hears.hears hears.silent
                | inr differ ↦ far_refuses h differ hears.hears
              ]
        ]

    still_silent : far.incoming ≡ [] → (taken_out count far).incoming ≡ []
    still_silent none = ap (drop count) none ∙ drop_all count [] (omega arith)

    far_of_accepted : HasAccepted near far → FarGoes
    far_of_accepted h =
        at_far Goes d to_far near (taken_out count far) (dropped (common acceptor dialer) count (other d) far near h.accepted)
        (on (accepted (record { same = h.same; listens = h.listens; accepted = h.accepted; silent = still_silent h.silent })))

    far_of_done : IsDone near far → FarGoes
    far_of_done h =
        at_far Goes d to_far near (taken_out count far) (dropped (common acceptor dialer) count (other d) far near h.accepted)
        (on (done (record { same = h.same; agreed = h.agreed; accepted = h.accepted; silent = still_silent h.silent })))

    pub acceptor_is_given : Meets near far → FarGoes
    acceptor_is_given (proposed h) = far_of_proposed h
    acceptor_is_given (accepted h) = far_of_accepted h
    acceptor_is_given (done h) = far_of_done h
