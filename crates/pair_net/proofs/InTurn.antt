-- Everything is delivered to one end, and then everything to the other.
use Rattle.std.proofs.Common.{◌≡◌, ℕ, ◌≤◌, List, [], ◌∷◌, length, take, drop, Option, Some, None, refl, ap, ◌∙◌, arith}
use Rattle.std.specs.List.{AllByRecursion}
use Rattle.std.proofs.lemmas.List.{length-drop}
use Rattle.std.proofs.lemmas.List.Sums.{sum_by-cons}
use Rattle.hs_message.specs.declared.info.VersionInfo.{VersionInfo}
use Rattle.hs_decide.specs.Answers.{agreed_info}
use Rattle.hs_decide.specs.declared.role.Role.TheVariants as role
use Rattle.hs_receive.specs.declared.received.Received.{Received}
use Rattle.pair_net.specs.Ends.{given, taken_out, answered, come_to}
use Rattle.pair_net.specs.Hearing.{heard, phase_after}
use Rattle.pair_net.specs.Law.{CanOffer, HasAgreed, IsDelivery, deliveries_to, PipesEmpty, MeetingsAgreeInTurn, CrossingsAgreeInTurn}
use Rattle.pair_net.specs.Pair.{PairState, fresh_pair, other, end_of}
use Rattle.pair_net.specs.Speaking.{answer_after}
use Rattle.pair_net.specs.Steps.{concludes, delivers_in, stepped, pair_after}
use Rattle.pair_net.specs.declared.end.End.{End}
use Rattle.pair_net.specs.declared.end.End.TheVariants.{Left, Right}
use Rattle.pair_net.specs.declared.end.EndPhase.{EndPhase}
use Rattle.pair_net.specs.declared.end.EndPhase.TheVariants.{Fresh, Waiting, Agreed, Ended}
use Rattle.pair_net.specs.declared.end_state.EndState.{EndState}
use Rattle.pair_net.specs.declared.pair_step.PairStep.TheVariants.{Meet, Cross, Deliver}
use Rattle.pair_net.proofs.Spoken.{proposal_spoken, acceptance_spoken}
use Rattle.pair_net.proofs.Verdicts.{common}
use Rattle.pair_net.proofs.Listening.{never_silent}
use Rattle.pair_net.proofs.Meetings.{Meets, the_proposal, the_acceptance}
use Rattle.pair_net.proofs.Runs.{pair-near, delivers-far, Meeting, meets_first, meeting_after, Crossing, crosses_first, crossing_after, crossed}

-- ---- what stands in a pipe after a delivery

concludes-near : (h : Option Received) (end : End) (near far : EndState) → (end_of end (concludes h end near far).pair).incoming ≡ near.incoming
concludes-near None end near far = ap (λ (e : EndState). e.incoming) (pair-near end near far)
concludes-near (Some received) end near far =
    ap (λ (e : EndState). e.incoming) (pair-near end (come_to (phase_after received) near) (answered (answer_after received near.info) far))

delivers-near : (phase : EndPhase) (count : ℕ) (end : End) (near far : EndState) → (end_of end (delivers_in phase count end near far).pair).incoming ≡ drop count near.incoming
delivers-near Fresh count end near far = ap (λ (e : EndState). e.incoming) (pair-near end (taken_out count near) far)
delivers-near (Waiting role) count end near far = concludes-near (heard role near.info near.stream (take count near.incoming)) end (given count near) far
delivers-near (Agreed agreed) count end near far = ap (λ (e : EndState). e.incoming) (pair-near end (taken_out count near) far)
delivers-near (Ended why) count end near far = ap (λ (e : EndState). e.incoming) (pair-near end (taken_out count near) far)

no_bytes : (bytes : List ℕ) → length bytes ≤ 0 → bytes ≡ []
no_bytes [] none = refl
no_bytes (byte ∷ bytes) none = absurd (omega arith)

pub pipes_empty : PipesEmpty
pipes_empty p end [] enough = no_bytes (end_of end p).incoming enough
pipes_empty p end (count ∷ counts) enough =
    let is = delivers-near (end_of end p).phase count end (end_of end p) (end_of (other end) p) in
    pipes_empty (stepped (Deliver end count) p).pair end counts
    (omega (arith, ap length is, length-drop count (end_of end p).incoming, sum_by-cons (λ (n : ℕ). n) count counts, enough))

-- ---- what becomes of the other end

far_stays : (d : End) (counts : List ℕ) (p : PairState) → (end_of (other d) (pair_after (deliveries_to d counts) p)).phase ≡ (end_of (other d) p).phase
far_stays d [] p = refl
far_stays d (count ∷ counts) p =
    far_stays d counts (stepped (Deliver d count) p).pair ∙ delivers-far (end_of d p).phase count d (end_of d p) (end_of (other d) p)

each_delivers : (d : End) (counts : List ℕ) → AllByRecursion IsDelivery (deliveries_to d counts)
each_delivers d [] = tt
each_delivers d (count ∷ counts) = (tt, each_delivers d counts)

-- ---- how far a meeting has come

accepted_once : (dialer acceptor : VersionInfo) (near far : EndState) → CanOffer dialer → Meets dialer acceptor near far → far.incoming ≡ []
    → far.phase ≡ Agreed (common acceptor dialer)
accepted_once dialer acceptor near far offers (Meets.proposed h) none =
    absurd (never_silent role.Acceptor acceptor (the_proposal dialer acceptor) far h.listens _ (proposal_spoken role.Acceptor acceptor dialer offers.magic) none)
accepted_once dialer acceptor near far offers (Meets.accepted h) none = h.accepted
accepted_once dialer acceptor near far offers (Meets.done h) none = h.accepted

agreed_once : (dialer acceptor : VersionInfo) (near far : EndState) → CanOffer acceptor → Meets dialer acceptor near far → far.phase ≡ Agreed (common acceptor dialer)
    → near.incoming ≡ [] → HasAgreed near × HasAgreed far
agreed_once dialer acceptor near far offered (Meets.proposed h) accepted none = let waits = h.listens.phase-is in absurd cc
agreed_once dialer acceptor near far offered (Meets.accepted h) accepted none =
    absurd (never_silent role.Dialer dialer (the_acceptance dialer acceptor) near h.listens _
    (acceptance_spoken dialer (agreed_info acceptor (common acceptor dialer)) offered.magic) none)
agreed_once dialer acceptor near far offered (Meets.done h) accepted none = ((common acceptor dialer, h.agreed), (common acceptor dialer, h.accepted))

pub meetings_agree_in_turn : MeetingsAgreeInTurn
meetings_agree_in_turn left right Left first second left_offers right_offers same enough_first enough_second =
    let met : PairState = (stepped (Meet Left) (fresh_pair left right)).pair in
    let answered_pair : PairState = pair_after (deliveries_to Right first) met in
    let last : PairState = pair_after (deliveries_to Left second) answered_pair in
    let one : Meeting left right Left answered_pair =
    meeting_after left right left_offers right_offers Left (deliveries_to Right first) met same (each_delivers Right first) (meets_first left right left_offers right_offers Left) in
    let two : Meeting left right Left last =
    meeting_after left right left_offers right_offers Left (deliveries_to Left second) answered_pair same (each_delivers Left second) one in
    let accepted = accepted_once left right answered_pair.left answered_pair.right left_offers one (pipes_empty met Right first enough_first) in
    agreed_once left right last.left last.right right_offers two (far_stays Left second answered_pair ∙ accepted) (pipes_empty answered_pair Left second enough_second)
meetings_agree_in_turn left right Right first second left_offers right_offers same enough_first enough_second =
    let met : PairState = (stepped (Meet Right) (fresh_pair left right)).pair in
    let answered_pair : PairState = pair_after (deliveries_to Left first) met in
    let last : PairState = pair_after (deliveries_to Right second) answered_pair in
    let one : Meeting left right Right answered_pair =
    meeting_after left right left_offers right_offers Right (deliveries_to Left first) met same (each_delivers Left first) (meets_first left right left_offers right_offers Right) in
    let two : Meeting left right Right last =
    meeting_after left right left_offers right_offers Right (deliveries_to Right second) answered_pair same (each_delivers Right second) one in
    let accepted = accepted_once right left answered_pair.right answered_pair.left right_offers one (pipes_empty met Left first enough_first) in
    let both = agreed_once right left last.right last.left left_offers two (far_stays Right second answered_pair ∙ accepted) (pipes_empty answered_pair Right second enough_second) in
    (both.1, both.0)

-- ---- a crossing

each_has_agreed : (d : End) (counts : List ℕ) (p : PairState) → HasAgreed (end_of (other d) p) → HasAgreed (end_of (other d) (pair_after (deliveries_to d counts) p))
each_has_agreed d counts p h = (h.0, far_stays d counts p ∙ h.1)

pub crossings_agree_in_turn : CrossingsAgreeInTurn
crossings_agree_in_turn left right Left first second left_offers right_offers same left_duplex right_duplex enough_first enough_second =
    let crossed_pair : PairState = (stepped Cross (fresh_pair left right)).pair in
    let heard_pair : PairState = pair_after (deliveries_to Left first) crossed_pair in
    let one : Crossing left right heard_pair =
    crossing_after left right left_offers right_offers same left_duplex right_duplex (deliveries_to Left first) crossed_pair (each_delivers Left first) (crosses_first left right left_offers right_offers) in
    let two : Crossing left right (pair_after (deliveries_to Right second) heard_pair) =
    crossing_after left right left_offers right_offers same left_duplex right_duplex (deliveries_to Right second) heard_pair (each_delivers Right second) one in (
      each_has_agreed Right second heard_pair (crossed left right left_offers right_offers same left_duplex right_duplex left right heard_pair.left right_offers one.one (pipes_empty crossed_pair Left first enough_first)),
      crossed left right left_offers right_offers same left_duplex right_duplex right left (pair_after (deliveries_to Right second) heard_pair).right left_offers two.two (pipes_empty heard_pair Right second enough_second),
    )
crossings_agree_in_turn left right Right first second left_offers right_offers same left_duplex right_duplex enough_first enough_second =
    let crossed_pair : PairState = (stepped Cross (fresh_pair left right)).pair in
    let heard_pair : PairState = pair_after (deliveries_to Right first) crossed_pair in
    let one : Crossing left right heard_pair =
    crossing_after left right left_offers right_offers same left_duplex right_duplex (deliveries_to Right first) crossed_pair (each_delivers Right first) (crosses_first left right left_offers right_offers) in
    let two : Crossing left right (pair_after (deliveries_to Left second) heard_pair) =
    crossing_after left right left_offers right_offers same left_duplex right_duplex (deliveries_to Left second) heard_pair (each_delivers Left second) one in (
      crossed left right left_offers right_offers same left_duplex right_duplex left right (pair_after (deliveries_to Left second) heard_pair).left right_offers two.one (pipes_empty heard_pair Left second enough_second),
      each_has_agreed Left second heard_pair (crossed left right left_offers right_offers same left_duplex right_duplex right left heard_pair.right left_offers one.two (pipes_empty crossed_pair Right first enough_first)),
    )
