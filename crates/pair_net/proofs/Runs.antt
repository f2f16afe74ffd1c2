-- What holds after every list of steps.
use Rattle.std.proofs.Common.{◌≡◌, ℕ, ◌⊎◌, Bool, true, false, eqb, if◌then◌else◌, ◌&&◌, List, [], ◌∷◌, take, Option, Some, None, refl, sym, ap, subst, ◌∙◌, arith, inl, inr}
use Rattle.std.specs.List.{AllByRecursion}
use Rattle.std.proofs.lemmas.List.{drop_all}
use Rattle.std.proofs.lemmas.Bool.{cond_both, eq-eqb}
use Rattle.hs_message.specs.declared.info.VersionInfo.{VersionInfo}
use Rattle.hs_decide.specs.Answers.{agreed_info}
use Rattle.hs_decide.specs.declared.role.Role.TheVariants as role
use Rattle.hs_decide.specs.declared.verdict.Verdict.TheVariants as verdict
use Rattle.hs_decide.proofs.Ends.{meet_alike}
use Rattle.hs_receive.specs.declared.received.Received.{Received}
use Rattle.net_base.specs.declared.connection.Agreed.{Agreed as AgreedOn}
use Rattle.pair_net.specs.Ends.{fresh_end, given, taken_out, answered}
use Rattle.pair_net.specs.Hearing.{heard}
use Rattle.pair_net.specs.Speaking.{proposal_frame, answer_after}
use Rattle.pair_net.specs.Law.{CanOffer, HasAgreed, HaveAgreed, AllIsDelivered, IsDelivery, AgreeAlike, MeetingsAgree, CrossingsAgree}
use Rattle.pair_net.specs.Pair.{PairState, fresh_pair, other, end_of, pair_of}
use Rattle.pair_net.specs.Steps.{Turn, is_fresh, are_fresh, nothing_changes, meets, crosses, concludes, delivers_in, delivers, ends_by, times_out_in, closes_in, stepped, pair_after}
use Rattle.pair_net.specs.declared.end.End.{End}
use Rattle.pair_net.specs.declared.end.End.TheVariants.{Left, Right}
use Rattle.pair_net.specs.declared.end.EndCause.{EndCause}
use Rattle.pair_net.specs.declared.end.EndCause.TheVariants as cause
use Rattle.pair_net.specs.declared.end.EndPhase.{EndPhase}
use Rattle.pair_net.specs.declared.end.EndPhase.TheVariants.{Fresh, Waiting, Agreed, Ended}
use Rattle.pair_net.specs.declared.end_state.EndState.{EndState}
use Rattle.pair_net.specs.declared.pair_step.PairStep.{PairStep}
use Rattle.pair_net.specs.declared.pair_step.PairStep.TheVariants.{Meet, Cross, Deliver, Timeout, Close}
use Rattle.pair_net.proofs.Frames.{nothing_heard}
use Rattle.pair_net.proofs.Spoken.{proposal_spoken, acceptance_spoken}
use Rattle.pair_net.proofs.Verdicts.{common, meets as both_meet}
use Rattle.pair_net.proofs.Listening.{never_silent}
use Rattle.pair_net.proofs.Meetings.{HasEnded, Meets, Goes, the_proposal, the_acceptance, dialer_is_given, acceptor_is_given}
use Rattle.pair_net.proofs.Crossings.{on_crossing, Crosses, one_is_given}

-- ---- an end that has ended stays so

abbrev pub Over : PairState → Type 0
Over p = HasEnded p.left ⊎ HasEnded p.right

-- an end of a pair has ended
over_of : (d : End) (p : PairState) → HasEnded (end_of d p) → Over p
over_of Left p h = inl h
over_of Right p h = inr h

not_fresh : (e : EndState) → HasEnded e → is_fresh e.phase ≡ false
not_fresh e h = ap is_fresh h.1

both_true : (a b : Bool) → (a && b) ≡ true → (a ≡ true) × (b ≡ true)
both_true true true e = (refl, refl)
both_true true false e = absurd cc
both_true false b e = absurd cc

never_fresh : (p : PairState) → Over p → are_fresh p ≡ true → ⊥
never_fresh p (inl h) fresh = let it = both_true (is_fresh p.left.phase) (is_fresh p.right.phase) fresh in let ended = not_fresh p.left h in absurd cc
never_fresh p (inr h) fresh = let it = both_true (is_fresh p.left.phase) (is_fresh p.right.phase) fresh in let ended = not_fresh p.right h in absurd cc

where_fresh : (p : PairState) (t : Turn) → Over p → Over (if are_fresh p then t else nothing_changes p).pair
where_fresh p t h = cond_both (are_fresh p) t (nothing_changes p) (λ (x : Turn). Over x.pair) (λ fresh. absurd (never_fresh p h fresh)) (λ other. h)

-- the other end of a pair keeps its phase
answered-phase : (said : Option (List ℕ)) (e : EndState) → (answered said e).phase ≡ e.phase
answered-phase None e = refl
answered-phase (Some bytes) e = refl

pub pair-far : (end : End) (x y : EndState) → end_of (other end) (pair_of end x y) ≡ y
pair-far Left x y = refl
pair-far Right x y = refl

pub pair-near : (end : End) (x y : EndState) → end_of end (pair_of end x y) ≡ x
pair-near Left x y = refl
pair-near Right x y = refl

concludes-far : (h : Option Received) (end : End) (near far : EndState) → (end_of (other end) (concludes h end near far).pair).phase ≡ far.phase
concludes-far None end near far = ap (λ (e : EndState). e.phase) (pair-far end near far)
concludes-far (Some received) end near far =
    let said = answer_after received near.info in
    ap (λ (e : EndState). e.phase) (pair-far end _ (answered said far)) ∙ answered-phase said far

pub delivers-far : (phase : EndPhase) (count : ℕ) (end : End) (near far : EndState) → (end_of (other end) (delivers_in phase count end near far).pair).phase ≡ far.phase
delivers-far Fresh count end near far = ap (λ (e : EndState). e.phase) (pair-far end (taken_out count near) far)
delivers-far (Waiting role) count end near far =
    concludes-far (heard role near.info near.stream (take count near.incoming)) end (given count near) far
delivers-far (Agreed agreed) count end near far = ap (λ (e : EndState). e.phase) (pair-far end (taken_out count near) far)
delivers-far (Ended why) count end near far = ap (λ (e : EndState). e.phase) (pair-far end (taken_out count near) far)

ended_by : (e e' : EndState) → e'.phase ≡ e.phase → HasEnded e → HasEnded e'
ended_by e e' same h = (h.0, same ∙ h.1)

-- the end that is given bytes has ended before, or the other one has
near_stays : (count : ℕ) (end : End) (near far : EndState) → HasEnded near → HasEnded (end_of end (delivers count end near far).pair)
near_stays count end near far h =
    let is : (delivers count end near far).pair ≡ pair_of end (taken_out count near) far =
    ap (λ (phase : EndPhase). (delivers_in phase count end near far).pair) h.1 in
    ended_by (taken_out count near) (end_of end (delivers count end near far).pair)
    (ap (λ (p : PairState). (end_of end p).phase) is ∙ ap (λ (e : EndState). e.phase) (pair-near end (taken_out count near) far)) h

far_stays : (count : ℕ) (end : End) (near far : EndState) → HasEnded far → HasEnded (end_of (other end) (delivers count end near far).pair)
far_stays count end near far h = ended_by far (end_of (other end) (delivers count end near far).pair) (delivers-far near.phase count end near far) h

over_delivers : (end : End) (count : ℕ) (p : PairState) → Over p → Over (stepped (Deliver end count) p).pair
over_delivers Left count p (inl h) = inl (near_stays count Left p.left p.right h)
over_delivers Left count p (inr h) = inr (far_stays count Left p.left p.right h)
over_delivers Right count p (inl h) = inl (far_stays count Right p.right p.left h)
over_delivers Right count p (inr h) = inr (near_stays count Right p.right p.left h)

-- an end is ended, so one has ended
ends_over : (why : EndCause) (end : End) (p : PairState) → Over (ends_by why end p).pair
ends_over why Left p = inl (why, refl)
ends_over why Right p = inr (why, refl)

over_times_out : (phase : EndPhase) (end : End) (p : PairState) → Over p → Over (times_out_in phase end p).pair
over_times_out Fresh end p h = h
over_times_out (Waiting role) end p h = ends_over cause.Timeout end p
over_times_out (Agreed agreed) end p h = h
over_times_out (Ended why) end p h = h

closes_over : (phase : EndPhase) (end : End) (p : PairState) → (end_of end p).phase ≡ phase → Over (closes_in phase end p).pair
closes_over Fresh end p is = ends_over cause.Closed end p
closes_over (Waiting role) end p is = ends_over cause.Closed end p
closes_over (Agreed agreed) end p is = ends_over cause.Closed end p
closes_over (Ended why) end p is = over_of end p (why, is)

over_stays : (step : PairStep) (p : PairState) → Over p → Over (stepped step p).pair
over_stays (Meet end) p h = where_fresh p (meets end (end_of end p) (end_of (other end) p)) h
over_stays Cross p h = where_fresh p (crosses p.left p.right) h
over_stays (Deliver end count) p h = over_delivers end count p h
over_stays (Timeout end) p h = over_times_out (end_of end p).phase end p h
over_stays (Close end) p h = closes_over (end_of end p).phase end p refl

-- ---- how a pair may stand

abbrev pub info_of : End → VersionInfo → VersionInfo → VersionInfo
info_of Left left right = left
info_of Right left right = right

abbrev pub Meeting : VersionInfo → VersionInfo → End → PairState → Type 0
Meeting left right d p = Meets (info_of d left right) (info_of (other d) left right) (end_of d p) (end_of (other d) p)

pub record Crossing (left right : VersionInfo) (p : PairState) : Type 0 where
  pub one : Crosses left right p.left
  pub two : Crosses right left p.right

pub data Stands (left right : VersionInfo) : PairState → Type 0 where
  fresh : {p : PairState} → p ≡ fresh_pair left right → Stands left right p
  meeting : {p : PairState} (d : End) → Meeting left right d p → Stands left right p
  crossing : {p : PairState} → Crossing left right p → Stands left right p
  over : {p : PairState} → Over p → Stands left right p

module _ (left right : VersionInfo) (left_offers : CanOffer left) (right_offers : CanOffer right) where
  -- ---- a fresh pair

  pub meets_first : (d : End) → Meeting left right d (stepped (Meet d) (fresh_pair left right)).pair
  meets_first Left = Meets.proposed (record {
    dials = record { phase-is = refl; info-is = refl; before = []; stream-is = refl; joined = refl; unheard = nothing_heard role.Dialer left };
    listens = record { phase-is = refl; info-is = refl; before = []; stream-is = refl; joined = refl; unheard = nothing_heard role.Acceptor right };
  })
  meets_first Right = Meets.proposed (record {
    dials = record { phase-is = refl; info-is = refl; before = []; stream-is = refl; joined = refl; unheard = nothing_heard role.Dialer right };
    listens = record { phase-is = refl; info-is = refl; before = []; stream-is = refl; joined = refl; unheard = nothing_heard role.Acceptor left };
  })

  pub crosses_first : Crossing left right (stepped Cross (fresh_pair left right)).pair
  crosses_first = record {
    one = Crosses.listens (record { phase-is = refl; info-is = refl; before = []; stream-is = refl; joined = refl; unheard = nothing_heard role.Dialer left });
    two = Crosses.listens (record { phase-is = refl; info-is = refl; before = []; stream-is = refl; joined = refl; unheard = nothing_heard role.Dialer right });
  }

  nothing_comes : (d : End) (count : ℕ) → (stepped (Deliver d count) (fresh_pair left right)).pair ≡ fresh_pair left right
  nothing_comes Left count =
      ap (λ (x : List ℕ). record { left = record (fresh_end left) { incoming = x }; right = fresh_end right }) (drop_all count [] (omega arith))
  nothing_comes Right count =
      ap (λ (x : List ℕ). record { left = fresh_end left; right = record (fresh_end right) { incoming = x } }) (drop_all count [] (omega arith))

  closes_first : (d : End) → Over (stepped (Close d) (fresh_pair left right)).pair
  closes_first Left = inl (cause.Closed, refl)
  closes_first Right = inr (cause.Closed, refl)

  stays_first : (d : End) → (stepped (Timeout d) (fresh_pair left right)).pair ≡ fresh_pair left right
  stays_first Left = refl
  stays_first Right = refl

  fresh_steps : (step : PairStep) → Stands left right (stepped step (fresh_pair left right)).pair
  fresh_steps (Meet d) = Stands.meeting d (meets_first d)
  fresh_steps Cross = Stands.crossing crosses_first
  fresh_steps (Deliver d count) = Stands.fresh (nothing_comes d count)
  fresh_steps (Timeout d) = Stands.fresh (stays_first d)
  fresh_steps (Close d) = Stands.over (closes_first d)

  -- ---- a meeting

  -- an end is given bytes
  abbrev MeetingGoes : End → PairState → Type 0
  MeetingGoes d p = Goes (info_of d left right) (info_of (other d) left right) (end_of d p) (end_of (other d) p)

  meeting_delivers : (d e : End) (count : ℕ) (p : PairState) → Meeting left right d p → MeetingGoes d (stepped (Deliver e count) p).pair
  meeting_delivers Left Left count p h = Goes.on (dialer_is_given left right left_offers right_offers Left count p.left p.right h)
  meeting_delivers Left Right count p h = acceptor_is_given left right left_offers right_offers Left count p.left p.right h
  meeting_delivers Right Left count p h = acceptor_is_given right left right_offers left_offers Right count p.right p.left h
  meeting_delivers Right Right count p h = Goes.on (dialer_is_given right left right_offers left_offers Right count p.right p.left h)

  goes_stands : (d : End) (p : PairState) → MeetingGoes d p → Stands left right p
  goes_stands d p (Goes.on h) = Stands.meeting d h
  goes_stands Left p (Goes.refused differ h) = Stands.over (inr h)
  goes_stands Right p (Goes.refused differ h) = Stands.over (inl h)

  -- ---- any pair that stands so

  and_false : (a : Bool) → (a && false) ≡ false
  and_false true = refl
  and_false false = refl

  unfresh : (d : End) (p : PairState) → is_fresh (end_of d p).phase ≡ false → are_fresh p ≡ false
  unfresh Left p is = ap (λ (b : Bool). b && is_fresh p.right.phase) is
  unfresh Right p is = ap (λ (b : Bool). is_fresh p.left.phase && b) is ∙ and_false (is_fresh p.left.phase)

  unfresh_stands : (p : PairState) (t : Turn) → are_fresh p ≡ false → Stands left right p → Stands left right (if are_fresh p then t else nothing_changes p).pair
  unfresh_stands p t is h = subst (λ (b : Bool). Stands left right (if b then t else nothing_changes p).pair) (sym is) h

  times_out_stands : (phase : EndPhase) (e : End) (p : PairState) → Stands left right p → Stands left right (times_out_in phase e p).pair
  times_out_stands Fresh e p h = h
  times_out_stands (Waiting role) e p h = Stands.over (ends_over cause.Timeout e p)
  times_out_stands (Agreed agreed) e p h = h
  times_out_stands (Ended why) e p h = h

  -- a pair of which an end has begun, by what comes of a delivery
  begun_steps : (p : PairState) (d : End) → is_fresh (end_of d p).phase ≡ false → Stands left right p
      → ((e : End) (count : ℕ) → Stands left right (stepped (Deliver e count) p).pair) → (step : PairStep) → Stands left right (stepped step p).pair
  begun_steps p d begun h given_it (Meet e) = unfresh_stands p (meets e (end_of e p) (end_of (other e) p)) (unfresh d p begun) h
  begun_steps p d begun h given_it Cross = unfresh_stands p (crosses p.left p.right) (unfresh d p begun) h
  begun_steps p d begun h given_it (Deliver e count) = given_it e count
  begun_steps p d begun h given_it (Timeout e) = times_out_stands (end_of e p).phase e p h
  begun_steps p d begun h given_it (Close e) = Stands.over (closes_over (end_of e p).phase e p refl)

  dialer_begun : (dialer acceptor : VersionInfo) (near far : EndState) → Meets dialer acceptor near far → is_fresh near.phase ≡ false
  dialer_begun dialer acceptor near far (Meets.proposed h) = ap is_fresh h.dials.phase-is
  dialer_begun dialer acceptor near far (Meets.accepted h) = ap is_fresh h.listens.phase-is
  dialer_begun dialer acceptor near far (Meets.done h) = ap is_fresh h.agreed

  crosser_begun : (own theirs : VersionInfo) (e : EndState) → Crosses own theirs e → is_fresh e.phase ≡ false
  crosser_begun own theirs e (Crosses.listens h) = ap is_fresh h.phase-is
  crosser_begun own theirs e (Crosses.agrees h) = ap is_fresh h.phase-is

  -- ---- a crossing

  -- after a delivery it is one still, or an end has refused the other one
  CrossingGoes : PairState → Type 0
  CrossingGoes p = Crossing left right p ⊎ ((on_crossing left right ≡ verdict.Refused) ⊎ (on_crossing right left ≡ verdict.Refused)) × Over p

  crossing_delivers : (e : End) (count : ℕ) (p : PairState) → Crossing left right p → CrossingGoes (stepped (Deliver e count) p).pair
  unfolding CrossingGoes
  crossing_delivers Left count p h =
      elim (one_is_given left right right_offers count Left p.left p.right h.one) [
        | inl g ↦ inl (subst (Crossing left right) (sym g.pair-is) (record { one = g.crosses; two = h.two }))
        | inr s ↦ inr (inl s.decided, subst Over (sym s.pair-is) (inl s.ended))
      ]
  crossing_delivers Right count p h =
      elim (one_is_given right left left_offers count Right p.right p.left h.two) [
        | inl g ↦ inl (subst (Crossing left right) (sym g.pair-is) (record { one = h.one; two = g.crosses }))
        | inr s ↦ inr (inr s.decided, subst Over (sym s.pair-is) (inr s.ended))
      ]

  crossing_stands : (p : PairState) → CrossingGoes p → Stands left right p
  unfolding CrossingGoes
  crossing_stands p (inl h) = Stands.crossing h
  crossing_stands p (inr h) = Stands.over h.1

  -- ---- every list of steps

  stands_steps : (step : PairStep) (p : PairState) → Stands left right p → Stands left right (stepped step p).pair
  stands_steps step p (Stands.fresh is) = subst (λ (x : PairState). Stands left right (stepped step x).pair) (sym is) (fresh_steps step)
  stands_steps step p (Stands.meeting d h) =
      begun_steps p d (dialer_begun (info_of d left right) (info_of (other d) left right) (end_of d p) (end_of (other d) p) h) (Stands.meeting d h)
      (λ e count. goes_stands d (stepped (Deliver e count) p).pair (meeting_delivers d e count p h)) step
  stands_steps step p (Stands.crossing h) =
      begun_steps p Left (crosser_begun left right p.left h.one) (Stands.crossing h)
      (λ e count. crossing_stands (stepped (Deliver e count) p).pair (crossing_delivers e count p h)) step
  stands_steps step p (Stands.over h) = Stands.over (over_stays step p h)

  stands_after : (steps : List PairStep) (p : PairState) → Stands left right p → Stands left right (pair_after steps p)
  stands_after [] p h = h
  stands_after (step ∷ steps) p h = stands_after steps (stepped step p).pair (stands_steps step p h)

  -- ---- what that means of two ends that both agreed

  alike_meeting : (dialer acceptor : VersionInfo) (near far : EndState) (one two : AgreedOn) → Meets dialer acceptor near far
      → near.phase ≡ Agreed one → far.phase ≡ Agreed two → one ≡ two
  alike_meeting dialer acceptor near far one two (Meets.proposed h) e f = let w = h.dials.phase-is in absurd cc
  alike_meeting dialer acceptor near far one two (Meets.accepted h) e f = let w = h.listens.phase-is in absurd cc
  alike_meeting dialer acceptor near far one two (Meets.done h) e f = let w = h.agreed in let v = h.accepted in cc

  alike_crossing : (x y : EndState) (one two : AgreedOn) → Crosses left right x → Crosses right left y → x.phase ≡ Agreed one → y.phase ≡ Agreed two → one ≡ two
  alike_crossing x y one two (Crosses.listens h) k e f = let w = h.phase-is in absurd cc
  alike_crossing x y one two (Crosses.agrees h) (Crosses.listens k) e f = let w = k.phase-is in absurd cc
  alike_crossing x y one two (Crosses.agrees h) (Crosses.agrees k) e f =
      let same : on_crossing left right ≡ on_crossing right left = meet_alike left right left_offers.offers right_offers.offers in
      let a = h.phase-is in let b = k.phase-is in let c = h.decided in let d = k.decided in cc

  alike_if : (p : PairState) (one two : AgreedOn) → Stands left right p → p.left.phase ≡ Agreed one → p.right.phase ≡ Agreed two → one ≡ two
  alike_if p one two (Stands.fresh is) e f = let w : p.left.phase ≡ Fresh = ap (λ (x : PairState). x.left.phase) is in absurd cc
  alike_if p one two (Stands.meeting Left h) e f = alike_meeting left right p.left p.right one two h e f
  alike_if p one two (Stands.meeting Right h) e f = sym (alike_meeting right left p.right p.left two one h f e)
  alike_if p one two (Stands.crossing h) e f = alike_crossing p.left p.right one two h.one h.two e f
  alike_if p one two (Stands.over (inl h)) e f = let w = h.1 in absurd cc
  alike_if p one two (Stands.over (inr h)) e f = let w = h.1 in absurd cc

  pub stands_at : (steps : List PairStep) → Stands left right (pair_after steps (fresh_pair left right))
  stands_at steps = stands_after steps (fresh_pair left right) (Stands.fresh refl)

  pub alike_after : (steps : List PairStep) (one two : AgreedOn) → (pair_after steps (fresh_pair left right)).left.phase ≡ Agreed one
      → (pair_after steps (fresh_pair left right)).right.phase ≡ Agreed two → one ≡ two
  alike_after steps one two e f =
      alike_if (pair_after steps (fresh_pair left right)) one two (stands_at steps) e f

  -- ---- once everything is delivered

  same_at : (d : End) → left.magic ≡ right.magic → eqb (info_of (other d) left right).magic (info_of d left right).magic ≡ true
  same_at Left same = eq-eqb right.magic left.magic (sym same)
  same_at Right same = eq-eqb left.magic right.magic same

  meeting_goes_on : (d : End) (p : PairState) → left.magic ≡ right.magic → MeetingGoes d p → Meeting left right d p
  meeting_goes_on d p same (Goes.on h) = h
  meeting_goes_on d p same (Goes.refused differ h) = let is = same_at d same in absurd cc

  pub meeting_after : (d : End) (steps : List PairStep) (p : PairState) → left.magic ≡ right.magic → AllByRecursion IsDelivery steps → Meeting left right d p
      → Meeting left right d (pair_after steps p)
  meeting_after d [] p same each h = h
  meeting_after d (Deliver e count ∷ steps) p same each h =
      meeting_after d steps (stepped (Deliver e count) p).pair same each.1
      (meeting_goes_on d (stepped (Deliver e count) p).pair same (meeting_delivers d e count p h))
  meeting_after d (Meet e ∷ steps) p same each h = absurd each.0
  meeting_after d (Cross ∷ steps) p same each h = absurd each.0
  meeting_after d (Timeout e ∷ steps) p same each h = absurd each.0
  meeting_after d (Close e ∷ steps) p same each h = absurd each.0

  met : (dialer acceptor : VersionInfo) (near far : EndState) → CanOffer dialer → CanOffer acceptor → Meets dialer acceptor near far → near.incoming ≡ [] → far.incoming ≡ []
      → HasAgreed near × HasAgreed far
  met dialer acceptor near far offers offered (Meets.proposed h) e f =
      absurd (never_silent role.Acceptor acceptor (the_proposal dialer acceptor) far h.listens _ (proposal_spoken role.Acceptor acceptor dialer offers.magic) f)
  met dialer acceptor near far offers offered (Meets.accepted h) e f =
      absurd (never_silent role.Dialer dialer (the_acceptance dialer acceptor) near h.listens _
      (acceptance_spoken dialer (agreed_info acceptor (common acceptor dialer)) offered.magic) e)
  met dialer acceptor near far offers offered (Meets.done h) e f = ((common acceptor dialer, h.agreed), (common acceptor dialer, h.accepted))

  met_at : (d : End) (p : PairState) → Meeting left right d p → AllIsDelivered p → HaveAgreed p
  met_at Left p h all = met left right p.left p.right left_offers right_offers h all.to_left all.to_right
  met_at Right p h all = let both = met right left p.right p.left right_offers left_offers h all.to_right all.to_left in (both.1, both.0)

  pub met_after : (d : End) (steps : List PairStep) → left.magic ≡ right.magic → AllByRecursion IsDelivery steps
      → AllIsDelivered (pair_after (Meet d ∷ steps) (fresh_pair left right)) → HaveAgreed (pair_after (Meet d ∷ steps) (fresh_pair left right))
  met_after d steps same each all =
      met_at d (pair_after (Meet d ∷ steps) (fresh_pair left right))
      (meeting_after d steps (stepped (Meet d) (fresh_pair left right)).pair same each (meets_first d)) all

  module _ (same : left.magic ≡ right.magic) (left_duplex : left.initiator_only ≡ false) (right_duplex : right.initiator_only ≡ false) where
    left_meets : on_crossing left right ≡ verdict.Agree (common left right)
    left_meets = both_meet left right right_offers.offers (eq-eqb left.magic right.magic same) (rw (left_duplex, right_duplex) refl)

    right_meets : on_crossing right left ≡ verdict.Agree (common right left)
    right_meets = both_meet right left left_offers.offers (eq-eqb right.magic left.magic (sym same)) (rw (left_duplex, right_duplex) refl)

    crossing_goes_on : (p : PairState) → CrossingGoes p → Crossing left right p
    unfolding CrossingGoes
    crossing_goes_on p (inl h) = h
    crossing_goes_on p (inr (inl refused, h)) = let is = left_meets in absurd cc
    crossing_goes_on p (inr (inr refused, h)) = let is = right_meets in absurd cc

    pub crossing_after : (steps : List PairStep) (p : PairState) → AllByRecursion IsDelivery steps → Crossing left right p → Crossing left right (pair_after steps p)
    crossing_after [] p each h = h
    crossing_after (Deliver e count ∷ steps) p each h =
        crossing_after steps (stepped (Deliver e count) p).pair each.1
        (crossing_goes_on (stepped (Deliver e count) p).pair (crossing_delivers e count p h))
    crossing_after (Meet e ∷ steps) p each h = absurd each.0
    crossing_after (Cross ∷ steps) p each h = absurd each.0
    crossing_after (Timeout e ∷ steps) p each h = absurd each.0
    crossing_after (Close e ∷ steps) p each h = absurd each.0

    pub crossed : (own theirs : VersionInfo) (e : EndState) → CanOffer theirs → Crosses own theirs e → e.incoming ≡ [] → HasAgreed e
    crossed own theirs e offers (Crosses.listens h) none =
        absurd (never_silent role.Dialer own (proposal_frame theirs) e h _ (proposal_spoken role.Dialer own theirs offers.magic) none)
    crossed own theirs e offers (Crosses.agrees h) none = (h.agreed, h.phase-is)

    pub crossed_after : (steps : List PairStep) → AllByRecursion IsDelivery steps → AllIsDelivered (pair_after (Cross ∷ steps) (fresh_pair left right))
        → HaveAgreed (pair_after (Cross ∷ steps) (fresh_pair left right))
    crossed_after steps each all =
        let c = crossing_after steps (stepped Cross (fresh_pair left right)).pair each crosses_first in
        let p = pair_after (Cross ∷ steps) (fresh_pair left right) in
        (crossed left right p.left right_offers c.one all.to_left, crossed right left p.right left_offers c.two all.to_right)

-- ---- the laws

pub ends_agree_alike : AgreeAlike
ends_agree_alike left right steps left_offers right_offers one two e f = alike_after left right left_offers right_offers steps one two e f

pub meetings_agree : MeetingsAgree
meetings_agree left right d steps left_offers right_offers same each all = met_after left right left_offers right_offers d steps same each all

pub crossings_agree : CrossingsAgree
crossings_agree left right steps left_offers right_offers same left_duplex right_duplex each all =
    crossed_after left right left_offers right_offers same left_duplex right_duplex steps each all
