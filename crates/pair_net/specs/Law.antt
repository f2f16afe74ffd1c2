-- What holds whatever the pipes deliver, in whatever order and cuts.
use Rattle.std.specs.Prelude.{◌≡◌, ◌≢◌, ℕ, ◌<◌, ◌^◌, ◌≤◌, ◌==◌, true, false, List, [], ◌∷◌, length, map, sum, take, Some, None}
use Rattle.std.specs.List.{AllByRecursion, list_any}
use Rattle.hs_decide.specs.Agreement.{offer_of}
use Rattle.hs_decide.specs.Answers.{own_table}
use Rattle.hs_decide.specs.declared.role.Role.{Role}
use Rattle.hs_decide.specs.declared.role.Role.TheVariants.{Acceptor}
use Rattle.hs_message.specs.Canonical.{node_spelling}
use Rattle.hs_message.specs.declared.info.VersionInfo.{VersionInfo}
use Rattle.hs_message.specs.declared.info.Info.{Info}
use Rattle.hs_message.specs.declared.info.Info.TheVariants.{Known, Foreign}
use Rattle.hs_message.specs.Reading.{message_of}
use Rattle.hs_message.specs.declared.message.Message.{Message}
use Rattle.hs_message.specs.declared.message.Message.TheVariants.{Propose, Accept, Refuse, QueryReply}
use Rattle.hs_message.specs.declared.message.Reason.{Reason}
use Rattle.hs_message.specs.declared.message.Reason.TheVariants as reason
use Rattle.hs_message.specs.declared.offer.Offer.{Offer}
use Rattle.mux_segment.specs.Frame.{frame_of}
use Rattle.mux_segment.specs.Protocols.{node_limits}
use Rattle.mux_segment.specs.Stream.{CutterState, fed_by}
use Rattle.mux_segment.specs.declared.item.Item.{Item}
use Rattle.net_base.specs.declared.connection.Agreed.{Agreed as AgreedOn}
use Rattle.pair_net.specs.Pair.{PairState, fresh_pair, end_of, other}
use Rattle.pair_net.specs.Steps.{Machine, led_by, stepped, pair_after}
use Rattle.pair_net.specs.declared.end.End.{End}
use Rattle.pair_net.specs.declared.end.EndCause.TheVariants.{Refused}
use Rattle.pair_net.specs.declared.end.EndPhase.TheVariants.{Waiting, Agreed, Ended}
use Rattle.pair_net.specs.declared.end_state.EndState.{EndState}
use Rattle.pair_net.specs.declared.note.PairNote.{PairNote}
use Rattle.pair_net.specs.declared.note.PairNote.TheVariants.{Sent, Ends}
use Rattle.pair_net.specs.declared.pair_step.PairStep.{PairStep}
use Rattle.pair_net.specs.declared.pair_step.PairStep.TheVariants.{Meet, Cross, Deliver, Timeout, Close}

-- an end may say this of itself: it doesn't only ask, and its magic has 32 bits
pub record CanOffer (info : VersionInfo) : Type 0 where
  pub offers : info.query ≡ false
  pub magic : info.magic < 2 ^ 32

-- some steps lead to this pair
pub record IsReached (p : PairState) : Type 0 where
  pub left : VersionInfo
  pub right : VersionInfo
  pub steps : List PairStep
  pub left_offers : CanOffer left
  pub right_offers : CanOffer right
  pub leads : p ≡ pair_after steps (fresh_pair left right)

-- Where both ends have agreed, they have agreed on the same: version, flow and sharing.
abbrev pub AgreesAlike : PairState → Type 0
AgreesAlike p = (left right : AgreedOn) → p.left.phase ≡ Agreed left → p.right.phase ≡ Agreed right → left ≡ right

abbrev pub HasAgreed : EndState → Type 0
HasAgreed e = (agreed : AgreedOn) × (e.phase ≡ Agreed agreed)

abbrev pub HaveAgreed : PairState → Type 0
HaveAgreed p = HasAgreed p.left × HasAgreed p.right

-- nothing is on the way
pub record AllIsDelivered (p : PairState) : Type 0 where
  pub to_left : p.left.incoming ≡ []
  pub to_right : p.right.incoming ≡ []

abbrev pub IsDelivery : PairStep → Type 0
IsDelivery (Meet end) = ⊥
IsDelivery Cross = ⊥
IsDelivery (Deliver end count) = Unit {0}
IsDelivery (Timeout end) = ⊥
IsDelivery (Close end) = ⊥

-- Two ends agree alike, whatever steps led there.
abbrev pub AgreeAlike : Type 0
AgreeAlike = (left right : VersionInfo) (steps : List PairStep) → CanOffer left → CanOffer right
    → AgreesAlike (pair_after steps (fresh_pair left right))

-- so many bytes come out of the pipe towards an end, and then so many, and so on
abbrev pub deliveries_to : End → List ℕ → List PairStep
deliveries_to end counts = map (Deliver end) counts

-- A pipe is empty once as many bytes were asked of it as stood in it, in whatever cuts.
abbrev pub PipesEmpty : Type 0
PipesEmpty = (p : PairState) (end : End) (counts : List ℕ) → length (end_of end p).incoming ≤ sum counts
    → (end_of end (pair_after (deliveries_to end counts) p)).incoming ≡ []

-- Where an end of the same network has dialed, and then everything is delivered to the other end and then everything to it,
-- in any cuts, both have agreed.
abbrev pub MeetingsAgreeInTurn : Type 0
MeetingsAgreeInTurn = (left right : VersionInfo) (end : End) (first second : List ℕ) → CanOffer left → CanOffer right → left.magic ≡ right.magic
    → let met = pair_after (Meet end ∷ []) (fresh_pair left right) in
    let answered = pair_after (deliveries_to (other end) first) met in
    length (end_of (other end) met).incoming ≤ sum first → length (end_of end answered).incoming ≤ sum second
    → HaveAgreed (pair_after (deliveries_to end second) answered)

-- Where an end of the same network has dialed, and then everything is delivered, in any order and cuts, both have agreed.
abbrev pub MeetingsAgree : Type 0
MeetingsAgree = (left right : VersionInfo) (end : End) (deliveries : List PairStep) → CanOffer left → CanOffer right
    → left.magic ≡ right.magic → AllByRecursion IsDelivery deliveries
    → let p = pair_after (Meet end ∷ deliveries) (fresh_pair left right) in AllIsDelivered p → HaveAgreed p

-- The same where both have dialed at once, and neither is initiator only.
abbrev pub CrossingsAgree : Type 0
CrossingsAgree = (left right : VersionInfo) (deliveries : List PairStep) → CanOffer left → CanOffer right
    → left.magic ≡ right.magic → left.initiator_only ≡ false → right.initiator_only ≡ false → AllByRecursion IsDelivery deliveries
    → let p = pair_after (Cross ∷ deliveries) (fresh_pair left right) in AllIsDelivered p → HaveAgreed p

-- The same where everything is delivered to one end first, and then to the other, in any cuts.
abbrev pub CrossingsAgreeInTurn : Type 0
CrossingsAgreeInTurn = (left right : VersionInfo) (end : End) (first second : List ℕ) → CanOffer left → CanOffer right
    → left.magic ≡ right.magic → left.initiator_only ≡ false → right.initiator_only ≡ false
    → let crossed = pair_after (Cross ∷ []) (fresh_pair left right) in
    let heard = pair_after (deliveries_to end first) crossed in
    length (end_of end crossed).incoming ≤ sum first → length (end_of (other end) heard).incoming ≤ sum second
    → HaveAgreed (pair_after (deliveries_to (other end) second) heard)

-- ---- what two ends agree on

-- the versions that an end proposes
abbrev pub Proposes : VersionInfo → ℕ → Type 0
Proposes info version = list_any (λ offer. offer.version == version) (own_table info) ≡ true

-- They are of one network. The version is the greatest that both propose. Protocols run both ways exactly where neither end
-- is initiator only, and peers are shared exactly where both ends do.
pub record IsRightly (left right : VersionInfo) (agreed : AgreedOn) : Type 0 where
  pub one_network : left.magic ≡ right.magic
  pub left_proposes : Proposes left agreed.version
  pub right_proposes : Proposes right agreed.version
  pub greatest : (version : ℕ) → Proposes left version → Proposes right version → version ≤ agreed.version
  pub duplex : left.initiator_only ≡ false → right.initiator_only ≡ false → agreed.initiator_only ≡ false
  pub duplex_only : agreed.initiator_only ≡ false → (left.initiator_only ≡ false) × (right.initiator_only ≡ false)
  pub shares : left.sharing ≡ true → right.sharing ≡ true → agreed.sharing ≡ true
  pub shares_only : agreed.sharing ≡ true → (left.sharing ≡ true) × (right.sharing ≡ true)

-- both ends of a pair have agreed, so they have agreed rightly
abbrev pub AgreesRightly : VersionInfo → VersionInfo → PairState → Type 0
AgreesRightly left right p = (one two : AgreedOn) → p.left.phase ≡ Agreed one → p.right.phase ≡ Agreed two → IsRightly left right one

-- Two ends that both agreed have agreed rightly, whatever steps led there. So ends of different networks never do.
abbrev pub AgreeRightly : Machine → Type 0
AgreeRightly machine = (left right : VersionInfo) (steps : List PairStep) → CanOffer left → CanOffer right
    → AgreesRightly left right (led_by machine steps (fresh_pair left right))

-- ---- why an end is refused

-- an offer of a version that an end proposes too, and none of a greater one that it proposes
pub record IsGreatestOffer (own : VersionInfo) (table : List Offer) (version : ℕ) (info : Info) : Type 0 where
  pub proposes : Proposes own version
  pub offered : offer_of version table ≡ Some (record { version = version; info = info })
  pub greatest : (greater : ℕ) → version < greater → Proposes own greater → offer_of greater table ≡ None

-- The reason names every version that the end proposes, where the other one offers none of them. Else it names the greatest
-- that is offered, whose info is not understood, or is of another network.
abbrev pub IsReason : VersionInfo → List Offer → Reason → Type 0
IsReason own table (reason.NoCommon versions) =
    (versions ≡ map (λ offer. offer.version) (own_table own)) × AllByRecursion (λ version. offer_of version table ≡ None) versions
IsReason own table (reason.NotDecoded version text) = IsGreatestOffer own table version Foreign
IsReason own table (reason.Declined version text) = (theirs : VersionInfo) × IsGreatestOffer own table version (Known theirs) × (own.magic ≢ theirs.magic)

-- the first item that new bytes bring, behind what is not decoded of a stream, spells this message
pub record HasHeard (stream : CutterState) (bytes : List ℕ) (said : Message) : Type 0 where
  pub first : Item
  pub others : List Item
  pub items : (fed_by node_limits stream bytes).items ≡ first ∷ others
  pub message : message_of first.body ≡ Some said

-- what an end that refused has said, by what had been offered to it
pub record IsToldWhy (own : VersionInfo) (stream : CutterState) (bytes : List ℕ) (end : End) (notes : List PairNote) : Type 0 where
  pub table : List Offer
  pub why : Reason
  pub offered : HasHeard stream bytes (Propose table)
  pub right : IsReason own table why
  pub told : notes ≡ Sent end (frame_of 1 0 0 (node_spelling (Refuse why))) ∷ Ends end Refused ∷ []

-- Where an end that was dialed refuses the other one, it says why.
abbrev pub TellsWhy : Machine → PairState → Type 0
TellsWhy machine p = (end : End) (count : ℕ) → let near = end_of end p in let turn = machine (Deliver end count) p in
    near.phase ≡ Waiting Acceptor → (end_of end turn.pair).phase ≡ Ended Refused
    → IsToldWhy near.info near.stream (take count near.incoming) end turn.notes

abbrev pub RefusalsAreTold : Machine → Type 0
RefusalsAreTold machine = (p : PairState) → TellsWhy machine p

-- ---- why an end agrees

-- They are of one network. Protocols run both ways exactly where neither is initiator only, and peers are shared exactly where
-- both do.
pub record IsAgreedWith (own theirs : VersionInfo) (agreed : AgreedOn) : Type 0 where
  pub network : own.magic ≡ theirs.magic
  pub duplex : own.initiator_only ≡ false → theirs.initiator_only ≡ false → agreed.initiator_only ≡ false
  pub duplex_only : agreed.initiator_only ≡ false → (own.initiator_only ≡ false) × (theirs.initiator_only ≡ false)
  pub shares : own.sharing ≡ true → theirs.sharing ≡ true → agreed.sharing ≡ true
  pub shares_only : agreed.sharing ≡ true → (own.sharing ≡ true) × (theirs.sharing ≡ true)

-- Of a proposal it is the greatest version that is offered and that the end proposes too, and of an acceptance the one that was
-- accepted, which the end proposes.
abbrev pub IsAgreement : VersionInfo → AgreedOn → Message → Type 0
IsAgreement own agreed (Propose table) = (theirs : VersionInfo) × IsGreatestOffer own table agreed.version (Known theirs) × IsAgreedWith own theirs agreed
IsAgreement own agreed (Accept version (Known theirs)) = Proposes own version × (agreed.version ≡ version) × IsAgreedWith own theirs agreed
IsAgreement own agreed (Accept version Foreign) = ⊥
IsAgreement own agreed (Refuse why) = ⊥
IsAgreement own agreed (QueryReply table) = ⊥

pub record AgreesOnHeard (own : VersionInfo) (stream : CutterState) (bytes : List ℕ) (agreed : AgreedOn) : Type 0 where
  pub said : Message
  pub heard : HasHeard stream bytes said
  pub right : IsAgreement own agreed said

abbrev pub AgreesByWord : Machine → PairState → Type 0
AgreesByWord machine p = (end : End) (role : Role) (count : ℕ) (agreed : AgreedOn) → let near = end_of end p in
    near.phase ≡ Waiting role → (end_of end (machine (Deliver end count) p).pair).phase ≡ Agreed agreed
    → AgreesOnHeard near.info near.stream (take count near.incoming) agreed

-- An end agrees only with one that says it is of the same network, and on what both say, whatever becomes of that one.
abbrev pub AgreementsAreHeard : Machine → Type 0
AgreementsAreHeard machine = (p : PairState) → AgreesByWord machine p

-- ---- all of it, of this pair

pub record IsLawful (p : PairState) : Type 0 where
  pub reached : IsReached p
  pub alike : AgreesAlike p
  pub rightly : AgreesRightly reached.left reached.right p
  pub told : TellsWhy stepped p
  pub by_word : AgreesByWord stepped p
