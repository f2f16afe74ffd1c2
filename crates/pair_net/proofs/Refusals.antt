-- An end that was dialed and refuses the other one says why, and an end that agrees has heard what it agrees on.
use Rattle.std.proofs.Common.{◌⊎◌, ◌≡◌, ℕ, ◌<◌, eqb, ◌&&◌, List, [], ◌∷◌, take, Option, Some, None, refl, sym, ap, subst, ◌∙◌, arith, inl, inr, true, false}
use Rattle.std.proofs.lemmas.Bool.{cases_Bool, eqb-true, eqb-false}
use Rattle.hs_decide.specs.Agreement.{offer_of, common_in, joined, accepts_info, accepts_offer, agrees_info, agrees_on, meets_joined, meets_info, meets_offer, verdict_of}
use Rattle.hs_decide.specs.Answers.{refusal_of}
use Rattle.hs_decide.specs.declared.role.Role.{Role}
use Rattle.hs_decide.specs.declared.role.Role.TheVariants.{Acceptor, Dialer}
use Rattle.hs_decide.specs.declared.verdict.Verdict.{Verdict}
use Rattle.hs_decide.specs.declared.verdict.Verdict.TheVariants as verdict
use Rattle.hs_decide.specs.declared.verdict.Why.{Why}
use Rattle.hs_decide.specs.declared.verdict.Why.TheVariants as why
use Rattle.hs_message.specs.Canonical.{node_spelling}
use Rattle.hs_message.specs.Info.{is_node_version}
use Rattle.hs_message.specs.Reading.{message_of}
use Rattle.hs_message.specs.declared.info.VersionInfo.{VersionInfo}
use Rattle.hs_message.specs.declared.info.Info.{Info}
use Rattle.hs_message.specs.declared.info.Info.TheVariants.{Known, Foreign}
use Rattle.hs_message.specs.declared.message.Message.{Message}
use Rattle.hs_message.specs.declared.message.Message.TheVariants as message
use Rattle.hs_message.specs.declared.message.Reason.{Reason}
use Rattle.hs_message.specs.declared.message.Reason.TheVariants as reason
use Rattle.hs_message.specs.declared.offer.Offer.{Offer}
use Rattle.std.specs.Prelude.{codes}
use Rattle.hs_receive.specs.Receiving.{fits_side, is_awaited, receives_message}
use Rattle.hs_receive.specs.declared.received.Received.{Received}
use Rattle.hs_receive.specs.declared.received.Received.TheVariants.{Decided, Fault}
use Rattle.mux_segment.specs.Frame.{frame_of}
use Rattle.mux_segment.specs.Protocols.{node_limits}
use Rattle.mux_segment.specs.Stream.{CutterState, fed_by}
use Rattle.mux_segment.specs.declared.fault.CutFault.{CutFault}
use Rattle.mux_segment.specs.declared.item.Item.{Item}
use Rattle.net_base.specs.declared.action.FaultKind.{FaultKind}
use Rattle.net_base.specs.declared.action.FaultKind.TheVariants.{Protocol}
use Rattle.net_base.specs.declared.connection.Agreed.{Agreed as AgreedOn}
use Rattle.pair_net.specs.Ends.{given, answered, come_to}
use Rattle.pair_net.specs.Hearing.{heard, heard_first, phase_after}
use Rattle.pair_net.specs.Law.{AgreementsAreHeard, AgreesOnHeard, HasHeard, IsAgreedWith, IsAgreement, IsGreatestOffer, IsReason, IsToldWhy, Proposes, RefusalsAreTold}
use Rattle.pair_net.specs.Pair.{other, end_of}
use Rattle.pair_net.specs.Speaking.{answer_after}
use Rattle.pair_net.specs.Steps.{Turn, concludes, delivers_in, delivers, stepped}
use Rattle.pair_net.specs.declared.end.End.{End}
use Rattle.pair_net.specs.declared.end.EndCause.TheVariants as cause
use Rattle.pair_net.specs.declared.end.EndPhase.{EndPhase}
use Rattle.pair_net.specs.declared.end.EndPhase.TheVariants.{Waiting, Agreed, Ended}
use Rattle.pair_net.specs.declared.end_state.EndState.{EndState}
use Rattle.pair_net.specs.declared.note.PairNote.TheVariants.{Sent, Ends}
use Rattle.pair_net.proofs.Verdicts.{joined_by}
use Rattle.pair_net.proofs.Rightly.{at_most, neither, either_no, both, both_yes}
use Rattle.pair_net.proofs.Runs.{pair-near}

abbrev reason_of : Why → Reason
reason_of why.NoCommon = reason.NoCommon (13 ∷ 14 ∷ [])
reason_of (why.NotDecoded version) = reason.NotDecoded version (codes "version data not understood")
reason_of (why.Magic version) = reason.Declined version (codes "network magic differs")

refusal_is : (w : Why) → refusal_of w ≡ message.Refuse (reason_of w)
refusal_is why.NoCommon = refl
refusal_is (why.NotDecoded version) = refl
refusal_is (why.Magic version) = refl

-- ---- what an acceptor decides

of_version : (version : ℕ) (table : List Offer) (offer : Offer) → offer_of version table ≡ Some offer → offer.version ≡ version
of_version version [] offer found = absurd cc
of_version version (first ∷ table) offer found = elim (cases_Bool (eqb first.version version)) [
  | inl here ↦ same (eqb-true first.version version here) (rw here at found)
  | inr apart ↦ of_version version table offer (rw apart at found)
]
  where
    same : first.version ≡ version → Some first ≡ Some offer → offer.version ≡ version
    same is e = let one : first ≡ offer = cc in subst (λ o. o.version ≡ version) one is

module _ (own : VersionInfo) (table : List Offer) where
  by_info : (version : ℕ) (info : Info) (w : Why) → IsGreatestOffer own table version info → accepts_info own version info ≡ verdict.Refuse w → IsReason own table (reason_of w)
  by_info version Foreign w greatest is =
      let named : why.NotDecoded version ≡ w = cc in
      subst (λ x. IsReason own table (reason_of x)) named greatest
  by_info version (Known theirs) w greatest is = elim (cases_Bool (eqb own.magic theirs.magic)) [
    | inl same ↦ elim (cases_Bool theirs.query) [
      | inl asks ↦ absurd (no_query (rw (same, asks) at is))
      | inr offers ↦ absurd (no_accept _ (rw (same, offers) at is))
    ]
    | inr differ ↦ named (eqb-false own.magic theirs.magic differ) (rw differ at is)
  ]
    where
      no_query : verdict.Query ≡ verdict.Refuse w → ⊥
      no_query e = cc

      no_accept : (agreed : _) → verdict.Accept agreed ≡ verdict.Refuse w → ⊥
      no_accept agreed e = cc

      named : ¬ (own.magic ≡ theirs.magic) → verdict.Refuse (why.Magic version) ≡ verdict.Refuse w → IsReason own table (reason_of w)
      named differ e =
          let is : why.Magic version ≡ w = cc in
          subst (λ x. IsReason own table (reason_of x)) is (theirs, greatest, differ)

  offered_as : (version : ℕ) (offer : Offer) → offer_of version table ≡ Some offer → offer_of version table ≡ Some (record { version = version; info = offer.info })
  offered_as version offer found = found ∙ ap (λ (v : ℕ). Some (record { version = v; info = offer.info })) (of_version version table offer found)

  by_offer : (version : ℕ) (offer : Offer) (w : Why) → Proposes own version → ((greater : ℕ) → version < greater → Proposes own greater → offer_of greater table ≡ None)
      → offer_of version table ≡ Some offer → accepts_info own offer.version offer.info ≡ verdict.Refuse w → IsReason own table (reason_of w)
  by_offer version offer w proposes greatest found is =
      by_info version offer.info w (record { proposes = proposes; offered = offered_as version offer found; greatest = greatest })
      (ap (λ (v : ℕ). accepts_info own v offer.info) (sym (of_version version table offer found)) ∙ is)

  by_thirteen : (o : Option Offer) (w : Why) → offer_of 13 table ≡ o → offer_of 14 table ≡ None → accepts_offer own o ≡ verdict.Refuse w → IsReason own table (reason_of w)
  by_thirteen None w found none is =
      let named : why.NoCommon ≡ w = cc in
      subst (λ x. IsReason own table (reason_of x)) named (refl, (found, (none, tt)))
  by_thirteen (Some offer) w found none is = by_offer 13 offer w refl greater found is
    where
      greater : (n : ℕ) → 13 < n → Proposes own n → offer_of n table ≡ None
      greater n above proposes =
          let is : n ≡ 14 = omega (arith, above, at_most own n proposes) in
          ap (λ (v : ℕ). offer_of v table) is ∙ none

  by_fourteen : (o : Option Offer) (w : Why) → offer_of 14 table ≡ o → accepts_offer own (common_in table) ≡ verdict.Refuse w → IsReason own table (reason_of w)
  by_fourteen None w none is = by_thirteen (offer_of 13 table) w refl none (rw none at is)
  by_fourteen (Some offer) w found is = by_offer 14 offer w refl (λ n above proposes. absurd (omega (arith, above, at_most own n proposes))) found (rw found at is)

  is_reason : (w : Why) → accepts_offer own (common_in table) ≡ verdict.Refuse w → IsReason own table (reason_of w)
  is_reason w is = by_fourteen (offer_of 14 table) w refl is

-- an acceptor is not refused
never_refused : (own : VersionInfo) (o : Option Offer) → accepts_offer own o ≡ verdict.Refused → ⊥
never_refused own None e = cc
never_refused own (Some offer) e = by offer.version offer.info e
  where
    by : (version : ℕ) (info : Info) → accepts_info own version info ≡ verdict.Refused → ⊥
    by version Foreign e = cc
    by version (Known theirs) e = elim (cases_Bool (eqb own.magic theirs.magic)) [
      | inl same ↦ elim (cases_Bool theirs.query) [
        | inl asks ↦ queries (rw (same, asks) at e)
        | inr offers ↦ accepts _ (rw (same, offers) at e)
      ]
      | inr differ ↦ refuses (rw differ at e)
    ]
      where
        queries : verdict.Query ≡ verdict.Refused → ⊥
        queries e = cc

        accepts : (agreed : _) → verdict.Accept agreed ≡ verdict.Refused → ⊥
        accepts agreed e = cc

        refuses : verdict.Refuse (why.Magic version) ≡ verdict.Refused → ⊥
        refuses e = cc

-- ---- what an end has heard

pub record ByMessage (role : Role) (own : VersionInfo) (stream : CutterState) (bytes : List ℕ) (v : Verdict) : Type 0 where
  pub said : Message
  pub heard_as : HasHeard stream bytes said
  pub decides : verdict_of role own said ≡ v

module _ (role : Role) (own : VersionInfo) (stream : CutterState) (bytes : List ℕ) (v : Verdict) where
  of_message : (first : Item) (others : List Item) (said : Option Message) → (fed_by node_limits stream bytes).items ≡ first ∷ others → message_of first.body ≡ said
      → receives_message Fault Decided role own first.side said ≡ Decided v → ByMessage role own stream bytes v
  of_message first others None items body is = absurd cc
  of_message first others (Some m) items body is = elim (cases_Bool (fits_side role first.side m)) [
    | inl fits ↦ let one : verdict_of role own m ≡ v = by_it (rw fits at is) in
        record { said = m; heard_as = record { first = first; others = others; items = items; message = body }; decides = one }
    | inr aside ↦ absurd (none Protocol (rw aside at is))
  ]
    where
      none : (kind : FaultKind) → Fault kind ≡ Decided v → ⊥
      none kind e = cc

      by_it : Decided (verdict_of role own m) ≡ Decided v → verdict_of role own m ≡ v
      by_it e = cc

  of_items : (items : List Item) (fault : Option CutFault) → (fed_by node_limits stream bytes).items ≡ items → heard_first role own items fault ≡ Some (Decided v) → ByMessage role own stream bytes v
  of_items [] None are is = absurd cc
  of_items [] (Some fault) are is = absurd cc
  of_items (first ∷ others) fault are is = elim (cases_Bool (eqb first.id 0 && is_awaited role first.side)) [
    | inl awaited ↦ by_it (rw awaited at is)
    | inr aside ↦ absurd (none Protocol (rw aside at is))
  ]
    where
      none : (kind : FaultKind) → Some (Fault kind) ≡ Some (Decided v) → ⊥
      none kind e = cc

      by_it : Some (receives_message Fault Decided role own first.side (message_of first.body)) ≡ Some (Decided v) → ByMessage role own stream bytes v
      by_it e =
          let one : receives_message Fault Decided role own first.side (message_of first.body) ≡ Decided v = cc in
          of_message first others (message_of first.body) are refl one

pub by_heard : (role : Role) (own : VersionInfo) (stream : CutterState) (bytes : List ℕ) (v : Verdict) → heard role own stream bytes ≡ Some (Decided v) → ByMessage role own stream bytes v
unfolding heard
by_heard role own stream bytes v is = let fed = fed_by node_limits stream bytes in of_items role own stream bytes v fed.items fed.state.fault refl is

-- ---- what it says then

record IsRefused (own : VersionInfo) (said : Message) (w : Why) : Type 0 where
  table : List Offer
  offered : said ≡ message.Propose table
  why_is : IsReason own table (reason_of w)

by_said : (own : VersionInfo) (said : Message) (w : Why) → verdict_of Acceptor own said ≡ verdict.Refuse w → IsRefused own said w
by_said own (message.Propose table) w is = record { table = table; offered = refl; why_is = is_reason own table w is }
by_said own (message.Accept version info) w is = absurd cc
by_said own (message.Refuse r) w is = absurd cc
by_said own (message.QueryReply table) w is = absurd cc

not_said : (own : VersionInfo) (said : Message) → verdict_of Acceptor own said ≡ verdict.Refused → ⊥
not_said own (message.Propose table) is = never_refused own (common_in table) is
not_said own (message.Accept version info) is = cc
not_said own (message.Refuse r) is = cc
not_said own (message.QueryReply table) is = cc

module _ (end : End) (near far : EndState) (stream : CutterState) (bytes : List ℕ) where
  pub comes_to : (received : Received) (phase : EndPhase) → (end_of end (concludes (Some received) end near far).pair).phase ≡ phase → phase_after received ≡ phase
  comes_to received phase is = sym (ap (λ (e : EndState). e.phase) (pair-near end (come_to (phase_after received) near) (answered (answer_after received near.info) far))) ∙ is

  told_by : (v : Verdict) → heard Acceptor near.info stream bytes ≡ Some (Decided v) → phase_after (Decided v) ≡ Ended cause.Refused
      → IsToldWhy near.info stream bytes end (concludes (Some (Decided v)) end near far).notes
  told_by (verdict.Accept agreed) hears ended = absurd cc
  told_by (verdict.Refuse w) hears ended =
      let by = by_heard Acceptor near.info stream bytes (verdict.Refuse w) hears in
      let refused = by_said near.info by.said w by.decides in record {
        table = refused.table;
        why = reason_of w;
        offered = subst (HasHeard stream bytes) refused.offered by.heard_as;
        right = refused.why_is;
        told = ap (λ (m : Message). Sent end (frame_of 1 0 0 (node_spelling m)) ∷ Ends end cause.Refused ∷ []) (refusal_is w);
      }
  told_by verdict.Query hears ended = absurd cc
  told_by (verdict.Agree agreed) hears ended = absurd cc
  told_by verdict.Refused hears ended = let by = by_heard Acceptor near.info stream bytes verdict.Refused hears in absurd (not_said near.info by.said by.decides)
  told_by verdict.Wrong hears ended = absurd cc

  told : (h : Option Received) → heard Acceptor near.info stream bytes ≡ h → near.phase ≡ Waiting Acceptor → (end_of end (concludes h end near far).pair).phase ≡ Ended cause.Refused
      → IsToldWhy near.info stream bytes end (concludes h end near far).notes
  told None hears waits ended = let is = sym (ap (λ (e : EndState). e.phase) (pair-near end near far)) ∙ ended in absurd cc
  told (Some (Decided v)) hears waits ended = told_by v hears (comes_to (Decided v) (Ended cause.Refused) ended)
  told (Some (Fault kind)) hears waits ended = let is = comes_to (Fault kind) (Ended cause.Refused) ended in absurd cc

pub refusals_are_told : RefusalsAreTold stepped
refusals_are_told p end count waits ended =
    let near = end_of end p in
    let far = end_of (other end) p in
    let bytes = take count near.incoming in
    let h = heard Acceptor near.info near.stream bytes in
    let is : delivers count end near far ≡ concludes h end (given count near) far = ap (λ (phase : EndPhase). delivers_in phase count end near far) waits in
    subst (λ (t : Turn). IsToldWhy near.info near.stream bytes end t.notes) (sym is)
    (told end (given count near) far near.stream bytes h refl waits (subst (λ (t : Turn). (end_of end t.pair).phase ≡ Ended cause.Refused) is ended))

-- ---- what an end agrees on

module _ (own theirs : VersionInfo) (version : ℕ) (same : eqb own.magic theirs.magic ≡ true) where
  agreed_with : IsAgreedWith own theirs (joined version own theirs)
  agreed_with = record {
    network = eqb-true own.magic theirs.magic same;
    duplex = either_no own.initiator_only theirs.initiator_only;
    duplex_only = neither own.initiator_only theirs.initiator_only;
    shares = both_yes own.sharing theirs.sharing;
    shares_only = both own.sharing theirs.sharing;
  }

record AgreesInfo (own : VersionInfo) (version : ℕ) (info : Info) (agreed : AgreedOn) : Type 0 where
  theirs : VersionInfo
  known : info ≡ Known theirs
  on : agreed ≡ joined version own theirs
  same : eqb own.magic theirs.magic ≡ true

accepts_right : (own : VersionInfo) (version : ℕ) (info : Info) (agreed : AgreedOn) → accepts_info own version info ≡ verdict.Accept agreed → AgreesInfo own version info agreed
accepts_right own version Foreign agreed is = absurd cc
accepts_right own version (Known theirs) agreed is = elim (cases_Bool (eqb own.magic theirs.magic)) [
  | inl same ↦ elim (cases_Bool theirs.query) [
    | inl asks ↦ absurd (no_query (rw (same, asks) at is))
    | inr offers ↦ record { theirs = theirs; known = refl; on = accept (rw (same, offers) at is); same = same }
  ]
  | inr differ ↦ absurd (no_refusal (rw differ at is))
]
  where
    no_query : verdict.Query ≡ verdict.Accept agreed → ⊥
    no_query e = cc

    no_refusal : verdict.Refuse (why.Magic version) ≡ verdict.Accept agreed → ⊥
    no_refusal e = cc

    accept : verdict.Accept (joined version own theirs) ≡ verdict.Accept agreed → agreed ≡ joined version own theirs
    accept e = cc

agrees_right : (own : VersionInfo) (version : ℕ) (info : Info) (agreed : AgreedOn) → agrees_info own version info ≡ verdict.Agree agreed → AgreesInfo own version info agreed
agrees_right own version Foreign agreed is = absurd cc
agrees_right own version (Known theirs) agreed is = elim (cases_Bool (eqb own.magic theirs.magic)) [
  | inl same ↦ record { theirs = theirs; known = refl; on = agree (rw same at is); same = same }
  | inr differ ↦ absurd (wrong (rw differ at is))
]
  where
    wrong : verdict.Wrong ≡ verdict.Agree agreed → ⊥
    wrong e = cc

    agree : verdict.Agree (joined version own theirs) ≡ verdict.Agree agreed → agreed ≡ joined version own theirs
    agree e = cc

meets_right : (own : VersionInfo) (version : ℕ) (info : Info) (agreed : AgreedOn) → meets_info own version info ≡ verdict.Agree agreed → AgreesInfo own version info agreed
meets_right own version Foreign agreed is = absurd cc
meets_right own version (Known theirs) agreed is = elim (cases_Bool (eqb own.magic theirs.magic)) [
  | inl same ↦ elim (cases_Bool theirs.query) [
    | inl asks ↦ absurd (wrong (rw (same, asks) at is))
    | inr offers ↦ by_flow same (cases_Bool (joined version own theirs).initiator_only) (rw (same, offers) at is)
  ]
  | inr differ ↦ absurd (refused (rw differ at is))
]
  where
    wrong : verdict.Wrong ≡ verdict.Agree agreed → ⊥
    wrong e = cc

    refused : verdict.Refused ≡ verdict.Agree agreed → ⊥
    refused e = cc

    agree : verdict.Agree (joined version own theirs) ≡ verdict.Agree agreed → agreed ≡ joined version own theirs
    agree e = cc

    by_flow : eqb own.magic theirs.magic ≡ true → ((joined version own theirs).initiator_only ≡ true) ⊎ ((joined version own theirs).initiator_only ≡ false)
        → meets_joined (joined version own theirs) ≡ verdict.Agree agreed → AgreesInfo own version (Known theirs) agreed
    by_flow same (inl only) e = absurd (refused (sym (joined_by (joined version own theirs) true only) ∙ e))
    by_flow same (inr duplex) e = record { theirs = theirs; known = refl; on = agree (sym (joined_by (joined version own theirs) false duplex) ∙ e); same = same }

-- what the greatest common offer is
module _ (own : VersionInfo) (table : List Offer) where
  greatest_at : (version : ℕ) (offer : Offer) → Proposes own version → ((greater : ℕ) → version < greater → Proposes own greater → offer_of greater table ≡ None)
      → offer_of version table ≡ Some offer → IsGreatestOffer own table offer.version offer.info
  greatest_at version offer proposes greatest found =
      subst (λ (v : ℕ). IsGreatestOffer own table v offer.info) (sym (of_version version table offer found))
      (record { proposes = proposes; offered = offered_as own table version offer found; greatest = greatest })

  greatest_of : (offer : Offer) → common_in table ≡ Some offer → IsGreatestOffer own table offer.version offer.info
  greatest_of offer is = by_high (offer_of 14 table) refl
    where
      one : (a : Offer) → Some a ≡ Some offer → a ≡ offer
      one a e = cc

      by_low : (low : Option Offer) → offer_of 14 table ≡ None → offer_of 13 table ≡ low → IsGreatestOffer own table offer.version offer.info
      by_low None none absent = absurd (nothing (sym absent ∙ rw none at is))
        where
          nothing : None ≡ Some offer → ⊥
          nothing e = cc
      by_low (Some a) none found =
          let same : a ≡ offer = one a (sym found ∙ rw none at is) in
          subst (λ (o : Offer). IsGreatestOffer own table o.version o.info) same (greatest_at 13 a refl above found)
        where
          above : (n : ℕ) → 13 < n → Proposes own n → offer_of n table ≡ None
          above n higher proposes =
              let at : n ≡ 14 = omega (arith, higher, at_most own n proposes) in
              ap (λ (v : ℕ). offer_of v table) at ∙ none

      by_high : (high : Option Offer) → offer_of 14 table ≡ high → IsGreatestOffer own table offer.version offer.info
      by_high None none = by_low (offer_of 13 table) none refl
      by_high (Some a) found =
          let same : a ≡ offer = one a (rw found at is) in
          subst (λ (o : Offer). IsGreatestOffer own table o.version o.info) same
          (greatest_at 14 a refl (λ n higher proposes. absurd (omega (arith, higher, at_most own n proposes))) found)

  of_offer : (offer : Offer) (agreed : AgreedOn) → common_in table ≡ Some offer → AgreesInfo own offer.version offer.info agreed → IsAgreement own agreed (message.Propose table)
  of_offer offer agreed found by = (
    by.theirs,
    subst (λ (v : ℕ). IsGreatestOffer own table v (Known by.theirs)) (sym (ap (λ (a : AgreedOn). a.version) by.on))
        (subst (IsGreatestOffer own table offer.version) by.known (greatest_of offer found)),
    subst (IsAgreedWith own by.theirs) (sym by.on) (agreed_with own by.theirs offer.version by.same),
  )

  of_accepted : (o : Option Offer) (agreed : AgreedOn) → common_in table ≡ o → accepts_offer own o ≡ verdict.Accept agreed → IsAgreement own agreed (message.Propose table)
  of_accepted None agreed found is = absurd cc
  of_accepted (Some offer) agreed found is = of_offer offer agreed found (accepts_right own offer.version offer.info agreed is)

  of_met : (o : Option Offer) (agreed : AgreedOn) → common_in table ≡ o → meets_offer own o ≡ verdict.Agree agreed → IsAgreement own agreed (message.Propose table)
  of_met None agreed found is = absurd cc
  of_met (Some offer) agreed found is = of_offer offer agreed found (meets_right own offer.version offer.info agreed is)

accepted_by : (own : VersionInfo) (agreed : AgreedOn) (said : Message) → verdict_of Acceptor own said ≡ verdict.Accept agreed → IsAgreement own agreed said
accepted_by own agreed (message.Propose table) is = of_accepted own table (common_in table) agreed refl is
accepted_by own agreed (message.Accept version info) is = absurd cc
accepted_by own agreed (message.Refuse r) is = absurd cc
accepted_by own agreed (message.QueryReply table) is = absurd cc

a_node_version : (own : VersionInfo) (version : ℕ) → is_node_version version ≡ true → Proposes own version
a_node_version own version is = elim (cases_Bool (eqb version 13)) [
  | inl low ↦ subst (Proposes own) (sym (eqb-true version 13 low)) refl
  | inr not_low ↦ elim (cases_Bool (eqb version 14)) [
    | inl high ↦ subst (Proposes own) (sym (eqb-true version 14 high)) refl
    | inr not_high ↦ absurd (none (rw (not_low, not_high) at is))
  ]
]
  where
    none : false ≡ true → ⊥
    none e = cc

of_acceptance : (own : VersionInfo) (agreed : AgreedOn) (version : ℕ) (info : Info) → agrees_on own version info ≡ verdict.Agree agreed → IsAgreement own agreed (message.Accept version info)
of_acceptance own agreed version info is = elim (cases_Bool (is_node_version version)) [
  | inl known ↦ by info known (agrees_right own version info agreed (rw known at is))
  | inr unknown ↦ absurd (wrong (rw unknown at is))
]
  where
    wrong : verdict.Wrong ≡ verdict.Agree agreed → ⊥
    wrong e = cc

    by : (info : Info) → is_node_version version ≡ true → AgreesInfo own version info agreed → IsAgreement own agreed (message.Accept version info)
    by Foreign known a = let is = a.known in absurd cc
    by (Known theirs) known a =
        let same : a.theirs ≡ theirs = let is = a.known in cc in (
          a_node_version own version known,
          ap (λ (x : AgreedOn). x.version) a.on,
          subst (λ (t : VersionInfo). IsAgreedWith own t agreed) same (subst (IsAgreedWith own a.theirs) (sym a.on) (agreed_with own a.theirs version a.same)),
        )

agreed_by : (own : VersionInfo) (agreed : AgreedOn) (said : Message) → verdict_of Dialer own said ≡ verdict.Agree agreed → IsAgreement own agreed said
agreed_by own agreed (message.Propose table) is = of_met own table (common_in table) agreed refl is
agreed_by own agreed (message.Accept version info) is = of_acceptance own agreed version info is
agreed_by own agreed (message.Refuse r) is = absurd cc
agreed_by own agreed (message.QueryReply table) is = absurd cc

-- an acceptor accepts, and a dialer agrees
not_agrees : (own : VersionInfo) (agreed : AgreedOn) (said : Message) → verdict_of Acceptor own said ≡ verdict.Agree agreed → ⊥
not_agrees own agreed (message.Propose table) is = by (common_in table) is
  where
    by_info : (version : ℕ) (info : Info) → accepts_info own version info ≡ verdict.Agree agreed → ⊥
    by_info version Foreign e = cc
    by_info version (Known theirs) e = elim (cases_Bool (eqb own.magic theirs.magic)) [
      | inl same ↦ elim (cases_Bool theirs.query) [
        | inl asks ↦ no_query (rw (same, asks) at e)
        | inr offers ↦ no_accept (rw (same, offers) at e)
      ]
      | inr differ ↦ no_refusal (rw differ at e)
    ]
      where
        no_query : verdict.Query ≡ verdict.Agree agreed → ⊥
        no_query e = cc

        no_accept : verdict.Accept (joined version own theirs) ≡ verdict.Agree agreed → ⊥
        no_accept e = cc

        no_refusal : verdict.Refuse (why.Magic version) ≡ verdict.Agree agreed → ⊥
        no_refusal e = cc

    by : (o : Option Offer) → accepts_offer own o ≡ verdict.Agree agreed → ⊥
    by None e = cc
    by (Some offer) e = by_info offer.version offer.info e
not_agrees own agreed (message.Accept version info) is = cc
not_agrees own agreed (message.Refuse r) is = cc
not_agrees own agreed (message.QueryReply table) is = cc

not_accepts : (own : VersionInfo) (agreed : AgreedOn) (said : Message) → verdict_of Dialer own said ≡ verdict.Accept agreed → ⊥
not_accepts own agreed (message.Propose table) is = by (common_in table) is
  where
    by_info : (version : ℕ) (info : Info) → meets_info own version info ≡ verdict.Accept agreed → ⊥
    by_info version Foreign e = cc
    by_info version (Known theirs) e = elim (cases_Bool (eqb own.magic theirs.magic)) [
      | inl same ↦ elim (cases_Bool theirs.query) [
        | inl asks ↦ no_wrong (rw (same, asks) at e)
        | inr offers ↦ by_flow (cases_Bool (joined version own theirs).initiator_only) (rw (same, offers) at e)
      ]
      | inr differ ↦ no_refused (rw differ at e)
    ]
      where
        no_wrong : verdict.Wrong ≡ verdict.Accept agreed → ⊥
        no_wrong e = cc

        no_refused : verdict.Refused ≡ verdict.Accept agreed → ⊥
        no_refused e = cc

        no_agree : verdict.Agree (joined version own theirs) ≡ verdict.Accept agreed → ⊥
        no_agree e = cc

        by_flow : ((joined version own theirs).initiator_only ≡ true) ⊎ ((joined version own theirs).initiator_only ≡ false) → meets_joined (joined version own theirs) ≡ verdict.Accept agreed → ⊥
        by_flow (inl only) e = no_refused (sym (joined_by (joined version own theirs) true only) ∙ e)
        by_flow (inr duplex) e = no_agree (sym (joined_by (joined version own theirs) false duplex) ∙ e)

    by : (o : Option Offer) → meets_offer own o ≡ verdict.Accept agreed → ⊥
    by None e = cc
    by (Some offer) e = by_info offer.version offer.info e
not_accepts own agreed (message.Accept version info) is = elim (cases_Bool (is_node_version version)) [
  | inl known ↦ by info (rw known at is)
  | inr unknown ↦ no_wrong (rw unknown at is)
]
  where
    no_wrong : verdict.Wrong ≡ verdict.Accept agreed → ⊥
    no_wrong e = cc

    by : (info : Info) → agrees_info own version info ≡ verdict.Accept agreed → ⊥
    by Foreign e = cc
    by (Known theirs) e = elim (cases_Bool (eqb own.magic theirs.magic)) [
      | inl same ↦ no_agree (rw same at e)
      | inr differ ↦ no_wrong (rw differ at e)
    ]
      where
        no_agree : verdict.Agree (joined version own theirs) ≡ verdict.Accept agreed → ⊥
        no_agree e = cc
not_accepts own agreed (message.Refuse r) is = cc
not_accepts own agreed (message.QueryReply table) is = cc

module _ (end : End) (near far : EndState) (stream : CutterState) (bytes : List ℕ) (agreed : AgreedOn) where
  same_agreed : (one : AgreedOn) → Agreed one ≡ Agreed agreed → one ≡ agreed
  same_agreed one e = cc

  agrees_by : (role : Role) (v : Verdict) → heard role near.info stream bytes ≡ Some (Decided v) → phase_after (Decided v) ≡ Agreed agreed → AgreesOnHeard near.info stream bytes agreed
  agrees_by Acceptor (verdict.Accept one) hears is =
      let by = by_heard Acceptor near.info stream bytes (verdict.Accept one) hears in
      record { said = by.said; heard = by.heard_as; right = subst (λ (a : AgreedOn). IsAgreement near.info a by.said) (same_agreed one is) (accepted_by near.info one by.said by.decides) }
  agrees_by Acceptor (verdict.Agree one) hears is = let by = by_heard Acceptor near.info stream bytes (verdict.Agree one) hears in absurd (not_agrees near.info one by.said by.decides)
  agrees_by Dialer (verdict.Accept one) hears is = let by = by_heard Dialer near.info stream bytes (verdict.Accept one) hears in absurd (not_accepts near.info one by.said by.decides)
  agrees_by Dialer (verdict.Agree one) hears is =
      let by = by_heard Dialer near.info stream bytes (verdict.Agree one) hears in
      record { said = by.said; heard = by.heard_as; right = subst (λ (a : AgreedOn). IsAgreement near.info a by.said) (same_agreed one is) (agreed_by near.info one by.said by.decides) }
  agrees_by role (verdict.Refuse w) hears is = absurd cc
  agrees_by role verdict.Query hears is = absurd cc
  agrees_by role verdict.Refused hears is = absurd cc
  agrees_by role verdict.Wrong hears is = absurd cc

  agrees_so : (role : Role) (h : Option Received) → heard role near.info stream bytes ≡ h → near.phase ≡ Waiting role → (end_of end (concludes h end near far).pair).phase ≡ Agreed agreed
      → AgreesOnHeard near.info stream bytes agreed
  agrees_so role None hears waits is = let same = sym (ap (λ (e : EndState). e.phase) (pair-near end near far)) ∙ is in absurd cc
  agrees_so role (Some (Decided v)) hears waits is = agrees_by role v hears (comes_to end near far stream bytes (Decided v) (Agreed agreed) is)
  agrees_so role (Some (Fault kind)) hears waits is = let same = comes_to end near far stream bytes (Fault kind) (Agreed agreed) is in absurd cc

pub agreements_are_heard : AgreementsAreHeard stepped
agreements_are_heard p end role count agreed waits now =
    let near = end_of end p in
    let far = end_of (other end) p in
    let bytes = take count near.incoming in
    let h = heard role near.info near.stream bytes in
    let is : delivers count end near far ≡ concludes h end (given count near) far = ap (λ (phase : EndPhase). delivers_in phase count end near far) waits in
    agrees_so end (given count near) far near.stream bytes agreed role h refl waits (subst (λ (t : Turn). (end_of end t.pair).phase ≡ Agreed agreed) is now)
