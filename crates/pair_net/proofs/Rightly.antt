-- What two ends agree on is right for both.
use Rattle.std.proofs.Common.{◌≡◌, ℕ, ◌≤◌, ◌⊎◌, Bool, true, false, eqb, ◌||◌, ◌&&◌, refl, sym, ap, subst, ◌∙◌, arith, inl, inr}
use Rattle.std.proofs.lemmas.Bool.{cases_Bool, eqb-true}
use Rattle.hs_message.specs.declared.info.VersionInfo.{VersionInfo}
use Rattle.hs_decide.specs.declared.verdict.Verdict.TheVariants as verdict
use Rattle.net_base.specs.declared.connection.Agreed.{Agreed as AgreedOn}
use Rattle.pair_net.specs.Law.{CanOffer, Proposes, IsRightly, AgreesRightly, AgreeRightly}
use Rattle.pair_net.specs.Pair.{PairState, fresh_pair}
use Rattle.pair_net.specs.Steps.{stepped, pair_after}
use Rattle.pair_net.specs.declared.end.End.TheVariants.{Left, Right}
use Rattle.pair_net.specs.declared.end.EndPhase.TheVariants.{Fresh, Agreed}
use Rattle.pair_net.specs.declared.end_state.EndState.{EndState}
use Rattle.pair_net.proofs.Verdicts.{common, meets_by, joined_by}
use Rattle.pair_net.proofs.Meetings.{Meets}
use Rattle.pair_net.proofs.Crossings.{Crosses, on_crossing}
use Rattle.pair_net.proofs.Runs.{Stands, stands_at}

-- ---- the rule

pub at_most : (info : VersionInfo) (version : ℕ) → Proposes info version → version ≤ 14
at_most info version proposes = elim (cases_Bool (eqb 13 version)) [
  | inl first ↦ omega (arith, eqb-true 13 version first)
  | inr not_first ↦ elim (cases_Bool (eqb 14 version)) [
    | inl second ↦ omega (arith, eqb-true 14 version second)
    | inr not_second ↦ absurd (none not_first not_second)
  ]
]
  where
    none : eqb 13 version ≡ false → eqb 14 version ≡ false → ⊥
    none a b = absurd (false_true (sym (rw (a, b) refl) ∙ proposes))
      where
        false_true : false ≡ true → ⊥
        false_true e = cc

pub neither : (a b : Bool) → (a || b) ≡ false → (a ≡ false) × (b ≡ false)
neither false false e = (refl, refl)
neither false true e = absurd cc
neither true b e = absurd cc

pub either_no : (a b : Bool) → a ≡ false → b ≡ false → (a || b) ≡ false
either_no a b e f = rw (e, f) refl

pub both : (a b : Bool) → (a && b) ≡ true → (a ≡ true) × (b ≡ true)
both true true e = (refl, refl)
both true false e = absurd cc
both false b e = absurd cc

pub both_yes : (a b : Bool) → a ≡ true → b ≡ true → (a && b) ≡ true
both_yes a b e f = rw (e, f) refl

rightly_common : (own theirs : VersionInfo) → eqb own.magic theirs.magic ≡ true → IsRightly own theirs (common own theirs)
rightly_common own theirs same = record {
  one_network = eqb-true own.magic theirs.magic same;
  left_proposes = refl;
  right_proposes = refl;
  greatest = λ version one two. at_most own version one;
  duplex = either_no own.initiator_only theirs.initiator_only;
  duplex_only = neither own.initiator_only theirs.initiator_only;
  shares = both_yes own.sharing theirs.sharing;
  shares_only = both own.sharing theirs.sharing;
}

turned_round : (left right : VersionInfo) (agreed : AgreedOn) → IsRightly left right agreed → IsRightly right left agreed
turned_round left right agreed h = record {
  one_network = sym h.one_network;
  left_proposes = h.right_proposes;
  right_proposes = h.left_proposes;
  greatest = λ version one two. h.greatest version two one;
  duplex = λ one two. h.duplex two one;
  duplex_only = λ e. let k = h.duplex_only e in (k.1, k.0);
  shares = λ one two. h.shares two one;
  shares_only = λ e. let k = h.shares_only e in (k.1, k.0);
}

-- two that have dialed at once agree only so
crosses_rightly : (own theirs : VersionInfo) (agreed : AgreedOn) → theirs.query ≡ false → on_crossing own theirs ≡ verdict.Agree agreed → IsRightly own theirs agreed
crosses_rightly own theirs agreed offers decided = elim (cases_Bool (eqb own.magic theirs.magic)) [
  | inl same ↦ by_flow same (cases_Bool (common own theirs).initiator_only)
  | inr differ ↦ absurd (not_refused (sym (meets_by own theirs false offers differ) ∙ decided))
]
  where
    not_refused : verdict.Refused ≡ verdict.Agree agreed → ⊥
    not_refused e = cc

    by_flow : eqb own.magic theirs.magic ≡ true → ((common own theirs).initiator_only ≡ true) ⊎ ((common own theirs).initiator_only ≡ false) → IsRightly own theirs agreed
    by_flow same (inl only) = absurd (not_refused (sym (meets_by own theirs true offers same ∙ joined_by (common own theirs) true only) ∙ decided))
    by_flow same (inr duplex) =
        let is : verdict.Agree (common own theirs) ≡ verdict.Agree agreed = sym (meets_by own theirs true offers same ∙ joined_by (common own theirs) false duplex) ∙ decided in
        let on : common own theirs ≡ agreed = cc in
        subst (IsRightly own theirs) on (rightly_common own theirs same)

-- ---- a pair

module _ (left right : VersionInfo) (left_offers : CanOffer left) (right_offers : CanOffer right) where
  met_rightly : (dialer acceptor : VersionInfo) (near far : EndState) (one : AgreedOn) → Meets dialer acceptor near far → near.phase ≡ Agreed one → IsRightly dialer acceptor one
  met_rightly dialer acceptor near far one (Meets.proposed h) e = let w = h.dials.phase-is in absurd cc
  met_rightly dialer acceptor near far one (Meets.accepted h) e = let w = h.listens.phase-is in absurd cc
  met_rightly dialer acceptor near far one (Meets.done h) e =
      let w = h.agreed in
      let is : common acceptor dialer ≡ one = cc in
      subst (IsRightly dialer acceptor) is (turned_round acceptor dialer (common acceptor dialer) (rightly_common acceptor dialer h.same))

  accepted_rightly : (dialer acceptor : VersionInfo) (near far : EndState) (one two : AgreedOn) → Meets dialer acceptor near far → near.phase ≡ Agreed one → far.phase ≡ Agreed two → IsRightly dialer acceptor two
  accepted_rightly dialer acceptor near far one two (Meets.proposed h) e f = let w = h.dials.phase-is in absurd cc
  accepted_rightly dialer acceptor near far one two (Meets.accepted h) e f = let w = h.listens.phase-is in absurd cc
  accepted_rightly dialer acceptor near far one two (Meets.done h) e f =
      let w = h.accepted in
      let is : common acceptor dialer ≡ two = cc in
      subst (IsRightly dialer acceptor) is (turned_round acceptor dialer (common acceptor dialer) (rightly_common acceptor dialer h.same))

  crossed_rightly : (x : EndState) (one : AgreedOn) → Crosses left right x → x.phase ≡ Agreed one → IsRightly left right one
  crossed_rightly x one (Crosses.listens h) e = let w = h.phase-is in absurd cc
  crossed_rightly x one (Crosses.agrees h) e =
      let w = h.phase-is in
      let is : h.agreed ≡ one = cc in
      subst (IsRightly left right) is (crosses_rightly left right h.agreed right_offers.offers h.decided)

  rightly_if : (p : PairState) → Stands left right p → AgreesRightly left right p
  rightly_if p (Stands.fresh is) one two e f = let w : p.left.phase ≡ Fresh = ap (λ (x : PairState). x.left.phase) is in absurd cc
  rightly_if p (Stands.meeting Left h) one two e f = met_rightly left right p.left p.right one h e
  rightly_if p (Stands.meeting Right h) one two e f = turned_round right left one (accepted_rightly right left p.right p.left two one h f e)
  rightly_if p (Stands.crossing h) one two e f = crossed_rightly p.left one h.one e
  rightly_if p (Stands.over (inl h)) one two e f = let w = h.1 in absurd cc
  rightly_if p (Stands.over (inr h)) one two e f = let w = h.1 in absurd cc

pub agree_rightly : AgreeRightly stepped
agree_rightly left right steps left_offers right_offers = rightly_if left right left_offers right_offers (pair_after steps (fresh_pair left right)) (stands_at left right left_offers right_offers steps)
