-- What an item comes to in the handshake, carried out.
use Rattle.std.proofs.Common.{◌≡◌, ℕ, Bool, true, false, ◌&&◌, ◌==◌, not, if◌then◌else◌, List, Option, Some, None, refl, sym, ap, subst, ◌∙◌}
use Rattle.conn_state.specs.Use.{is_outbound_by}
use Rattle.hs_decide.specs.Agreement.{accepts_info, accepts_offer, agrees_info, meets_joined, meets_info, meets_offer, common_in, joined, same_magic, verdict_of}
use Rattle.hs_decide.specs.Answers.{answer_of}
use Rattle.hs_decide.specs.declared.role.Role.{Role}
use Rattle.hs_decide.specs.declared.verdict.Verdict.{Verdict}
use Rattle.hs_decide.specs.declared.verdict.Verdict.TheVariants as verdict
use Rattle.hs_decide.specs.declared.verdict.Why.TheVariants as why
use Rattle.hs_message.specs.Info.{is_node_version}
use Rattle.hs_message.specs.Reading.{message_of}
use Rattle.hs_message.specs.declared.info.Info.{Info}
use Rattle.hs_message.specs.declared.info.Info.TheVariants.{Known, Foreign}
use Rattle.hs_message.specs.declared.info.VersionInfo.{VersionInfo}
use Rattle.hs_message.specs.declared.message.Message.{Message}
use Rattle.hs_message.specs.declared.message.Message.TheVariants as message
use Rattle.hs_message.specs.declared.offer.Offer.{Offer}
use Rattle.hs_receive.specs.Receiving.{is_awaited, fits_side, receives, receives_message}
use Rattle.hs_receive.specs.declared.received.Received.{Received}
use Rattle.hs_receive.specs.declared.received.Received.TheVariants as received
use Rattle.machine.specs.Greeting.{role_of, sends_answer, judged, decided, greets}
use Rattle.machine.specs.Machine.{Machine, Entry}
use Rattle.machine.specs.Own.{own_info}
use Rattle.mux_segment.specs.declared.item.Item.{Item}
use Rattle.net_base.specs.declared.action.Action.{Action}
use Rattle.net_base.specs.declared.action.FaultKind.TheVariants.{Protocol}
use Rattle.net_base.specs.declared.connection.Agreed.{Agreed}
use Rattle.net_base.specs.declared.connection.Facts.{Facts}
use Rattle.net_base.specs.declared.connection.Provenance.{Provenance}
use Rattle.net_base.specs.declared.connection.Provenance.TheVariants.{FromRemote, FromLocal}
use Rattle.node_engine.specs.Greets.{CanJudge, CanFollow, greeted_as}
use Rattle.node_engine.specs.State.{Does}
use Rattle.node_engine.proofs.Doings.{does_then}

-- ---- what is made of an item is made of what it came to

receives-through : {X : Type 0} (h : Received → X) (role : Role) (own : VersionInfo) (item : Item) →
    h (receives received.Fault received.Decided role own item) ≡ receives (λ kind. h (received.Fault kind)) (λ v. h (received.Decided v)) role own item
receives-through {X} h role own item = by_place (item.id == 0 && is_awaited role item.side)
  where
    by_side : (b : Bool) (v : Verdict) → h (if b then received.Decided v else received.Fault Protocol) ≡ (if b then h (received.Decided v) else h (received.Fault Protocol))
    by_side true v = refl
    by_side false v = refl

    by_message : (o : Option Message) → h (receives_message received.Fault received.Decided role own item.side o)
        ≡ receives_message (λ kind. h (received.Fault kind)) (λ v. h (received.Decided v)) role own item.side o
    by_message None = refl
    by_message (Some m) = by_side (fits_side role item.side m) (verdict_of role own m)

    by_place : (b : Bool) → h (if b then receives_message received.Fault received.Decided role own item.side (message_of item.body) else received.Fault Protocol)
        ≡ (if b then receives_message (λ kind. h (received.Fault kind)) (λ v. h (received.Decided v)) role own item.side (message_of item.body) else h (received.Fault Protocol))
    by_place true = by_message (message_of item.body)
    by_place false = refl

pub greets-as : (item : Item) (e : Entry) (m : Machine) (r : Received) →
    r ≡ receives received.Fault received.Decided (role_of e.facts.provenance) (own_info m.settings) item → greeted_as r e m ≡ greets item e m
greets-as item e m r is =
    ap (λ x. greeted_as x e m) is ∙ receives-through (λ x. greeted_as x e m) (role_of e.facts.provenance) (own_info m.settings) item

-- ---- who takes a proposal was dialed, and who agrees has dialed

accept-judged : (f : Facts) (own : VersionInfo) (m : Message) → f.provenance ≡ FromRemote → CanJudge (verdict_of (role_of FromRemote) own m) f
accept-judged f own (message.Propose table) from = by_offer (common_in table)
  where
    by_query : (b : Bool) (v : ℕ) (theirs : VersionInfo) → CanJudge (if b then verdict.Query else verdict.Accept (joined v own theirs)) f
    by_query true v theirs = tt
    by_query false v theirs = ap (λ p. is_outbound_by p) from

    by_magic : (b : Bool) (v : ℕ) (theirs : VersionInfo) → CanJudge (if not b then verdict.Refuse (why.Magic v) else if theirs.query then verdict.Query else verdict.Accept (joined v own theirs)) f
    by_magic true v theirs = by_query theirs.query v theirs
    by_magic false v theirs = tt

    by_info : (v : ℕ) (i : Info) → CanJudge (accepts_info own v i) f
    by_info v Foreign = tt
    by_info v (Known theirs) = by_magic (same_magic own theirs) v theirs

    by_offer : (o : Option Offer) → CanJudge (accepts_offer own o) f
    by_offer None = tt
    by_offer (Some offer) = by_info offer.version offer.info
accept-judged f own (message.Accept version info) from = tt
accept-judged f own (message.Refuse reason) from = tt
accept-judged f own (message.QueryReply table) from = tt

agree-judged : (f : Facts) (own : VersionInfo) (m : Message) → f.provenance ≡ FromLocal → CanJudge (verdict_of (role_of FromLocal) own m) f
agree-judged f own (message.Propose table) from = by_offer (common_in table)
  where
    by_half : (b : Bool) (agreed : Agreed) → CanJudge (if b then verdict.Refused else verdict.Agree agreed) f
    by_half true agreed = tt
    by_half false agreed = ap (λ p. is_outbound_by p) from

    by_query : (b : Bool) (agreed : Agreed) → CanJudge (if b then verdict.Wrong else meets_joined agreed) f
    by_query true agreed = tt
    by_query false agreed = by_half agreed.initiator_only agreed

    by_magic : (b : Bool) (v : ℕ) (theirs : VersionInfo) → CanJudge (if not b then verdict.Refused else if theirs.query then verdict.Wrong else meets_joined (joined v own theirs)) f
    by_magic true v theirs = by_query theirs.query (joined v own theirs)
    by_magic false v theirs = tt

    by_info : (v : ℕ) (i : Info) → CanJudge (meets_info own v i) f
    by_info v Foreign = tt
    by_info v (Known theirs) = by_magic (same_magic own theirs) v theirs

    by_offer : (o : Option Offer) → CanJudge (meets_offer own o) f
    by_offer None = tt
    by_offer (Some offer) = by_info offer.version offer.info
agree-judged f own (message.Accept version info) from = by_version (is_node_version version)
  where
    by_magic : (b : Bool) (theirs : VersionInfo) → CanJudge (if b then verdict.Agree (joined version own theirs) else verdict.Wrong) f
    by_magic true theirs = ap (λ p. is_outbound_by p) from
    by_magic false theirs = tt

    by_info : (i : Info) → CanJudge (agrees_info own version i) f
    by_info Foreign = tt
    by_info (Known theirs) = by_magic (same_magic own theirs) theirs

    by_version : (b : Bool) → CanJudge (if b then agrees_info own version info else verdict.Wrong) f
    by_version true = by_info info
    by_version false = tt
agree-judged f own (message.Refuse reason) from = tt
agree-judged f own (message.QueryReply table) from = tt

can-judge : (f : Facts) (own : VersionInfo) (m : Message) (p : Provenance) → f.provenance ≡ p → CanJudge (verdict_of (role_of p) own m) f
can-judge f own m FromRemote from = accept-judged f own m from
can-judge f own m FromLocal from = agree-judged f own m from

pub can-follow : (f : Facts) (own : VersionInfo) (item : Item) → CanFollow (receives received.Fault received.Decided (role_of f.provenance) own item) f
can-follow f own item = by_place (item.id == 0 && is_awaited role item.side)
  where
    role : Role
    role = role_of f.provenance

    by_side : (b : Bool) (m : Message) → CanFollow (if b then received.Decided (verdict_of role own m) else received.Fault Protocol) f
    by_side true m = can-judge f own m f.provenance refl
    by_side false m = tt

    by_message : (o : Option Message) → CanFollow (receives_message received.Fault received.Decided role own item.side o) f
    by_message None = tt
    by_message (Some m) = by_side (fits_side role item.side m) m

    by_place : (b : Bool) → CanFollow (if b then receives_message received.Fault received.Decided role own item.side (message_of item.body) else received.Fault Protocol) f
    by_place true = by_message (message_of item.body)
    by_place false = tt

-- ---- a verdict that is told and carried out

pub decided-does : (facts : Facts) (e : Entry) (own : VersionInfo) (v : Verdict) (m n : Machine) (before mid after : List Action) →
    e.facts ≡ facts → own ≡ own_info m.settings → Does (sends_answer (answer_of v own) facts.cid m) before m mid → Does (judged v e m) mid n after →
    Does (decided v e m) before n after
decided-does facts e own v m n before mid after same own_is one two =
    let said : Does (sends_answer (answer_of v (own_info m.settings)) e.facts.cid m) before m mid =
    subst (λ i. Does (sends_answer (answer_of v i) e.facts.cid m) before m mid) own_is
    (subst (λ f. Does (sends_answer (answer_of v own) f.cid m) before m mid) (sym same) one) in
    does_then (sends_answer (answer_of v (own_info m.settings)) e.facts.cid m) (judged v e) before mid after m n said two
