-- What was decided can be answered: a version that is accepted is one that this node takes.
use Rattle.std.proofs.Common.{◌≡◌, ℕ, Bool, true, false, ◌==◌, not, cond, if◌then◌else◌, List, [], ◌∷◌, find, Option, Some, None, refl, sym, ap, ◌∙◌, eqb-true}
use Rattle.std.specs.Option.{option_or}
use Rattle.std.proofs.lemmas.Bool.{cond_both}
use Rattle.hs_decide.specs.Agreement.{offer_of, common_in, accepts_info, accepts_offer, agrees_info, agrees_on, meets_joined, meets_info, meets_offer, joined, same_magic, verdict_of}
use Rattle.hs_decide.specs.Answers.{CanAnswer}
use Rattle.hs_decide.specs.declared.role.Role.{Role}
use Rattle.hs_decide.specs.declared.role.Role.TheVariants.{Acceptor, Dialer}
use Rattle.hs_decide.specs.declared.verdict.Verdict.TheVariants as verdict
use Rattle.hs_decide.specs.declared.verdict.Why.TheVariants as why
use Rattle.hs_message.specs.Info.{is_node_version}
use Rattle.hs_message.specs.declared.info.Info.{Info}
use Rattle.hs_message.specs.declared.info.Info.TheVariants.{Known, Foreign}
use Rattle.hs_message.specs.declared.info.VersionInfo.{VersionInfo}
use Rattle.hs_message.specs.declared.message.Message.{Message}
use Rattle.hs_message.specs.declared.message.Message.TheVariants as message
use Rattle.hs_message.specs.declared.offer.Offer.{Offer}

-- what is found passes the test
at_head : {X : Type 0} (p : X → Bool) (y x : X) (others : Option X) (b : Bool) → p y ≡ b → (others ≡ Some x → p x ≡ true)
    → cond b (Some y) others ≡ Some x → p x ≡ true
at_head p y x others true here later e = let same : y ≡ x = cc in ap p (sym same) ∙ here
at_head p y x others false here later e = later e

found_passes : {X : Type 0} (p : X → Bool) (xs : List X) (x : X) → find p xs ≡ Some x → p x ≡ true
found_passes p [] x e = absurd cc
found_passes p (y ∷ ys) x e = at_head p y x (find p ys) (p y) refl (found_passes p ys x) e

offer-version : (version : ℕ) (table : List Offer) (offer : Offer) → offer_of version table ≡ Some offer → offer.version ≡ version
offer-version version table offer is =
    eqb-true offer.version version (found_passes (λ (o : Offer). o.version == version) table offer is)

common-version : (table : List Offer) (offer : Offer) → common_in table ≡ Some offer → is_node_version offer.version ≡ true
common-version table offer = by_greatest (offer_of 14 table) refl
  where
    by_greatest : (o : Option Offer) → offer_of 14 table ≡ o → option_or o (offer_of 13 table) ≡ Some offer → is_node_version offer.version ≡ true
    by_greatest None none is = rw (offer-version 13 table offer is) refl
    by_greatest (Some other) some is = rw (offer-version 14 table offer (some ∙ is)) refl

accepts-answers : (own : VersionInfo) (version : ℕ) (info : Info) → is_node_version version ≡ true → CanAnswer (accepts_info own version info)
accepts-answers own version Foreign takes = tt
accepts-answers own version (Known theirs) takes =
    cond_both (not (same_magic own theirs)) (verdict.Refuse (why.Magic version))
    (if theirs.query then verdict.Query else verdict.Accept (joined version own theirs)) CanAnswer (λ other. tt)
    (λ same. cond_both theirs.query verdict.Query (verdict.Accept (joined version own theirs)) CanAnswer (λ asks. tt) (λ offers. takes))

agrees-answers : (own : VersionInfo) (version : ℕ) (info : Info) → CanAnswer (agrees_on own version info)
agrees-answers own version info =
    cond_both (is_node_version version) (agrees_info own version info) verdict.Wrong CanAnswer (λ takes. by_info info) (λ other. tt)
  where
    by_info : (i : Info) → CanAnswer (agrees_info own version i)
    by_info Foreign = tt
    by_info (Known theirs) =
        cond_both (same_magic own theirs) (verdict.Agree (joined version own theirs)) verdict.Wrong CanAnswer (λ same. tt) (λ other. tt)

meets-answers : (own : VersionInfo) (o : Option Offer) → CanAnswer (meets_offer own o)
meets-answers own None = tt
meets-answers own (Some offer) = by_info offer.info
  where
    by_info : (i : Info) → CanAnswer (meets_info own offer.version i)
    by_info Foreign = tt
    by_info (Known theirs) =
        cond_both (not (same_magic own theirs)) verdict.Refused
        (if theirs.query then verdict.Wrong else meets_joined (joined offer.version own theirs)) CanAnswer (λ other. tt)
        (λ same. cond_both theirs.query verdict.Wrong (meets_joined (joined offer.version own theirs)) CanAnswer (λ asks. tt)
        (λ offers. cond_both (joined offer.version own theirs).initiator_only verdict.Refused (verdict.Agree (joined offer.version own theirs)) CanAnswer
        (λ uni. tt) (λ duplex. tt)))

pub verdict-answers : (role : Role) (own : VersionInfo) (m : Message) → CanAnswer (verdict_of role own m)
verdict-answers Acceptor own (message.Propose table) = by_offer (common_in table) refl
  where
    by_offer : (o : Option Offer) → common_in table ≡ o → CanAnswer (accepts_offer own o)
    by_offer None is = tt
    by_offer (Some offer) is = accepts-answers own offer.version offer.info (common-version table offer is)
verdict-answers Acceptor own (message.Accept version info) = tt
verdict-answers Acceptor own (message.Refuse reason) = tt
verdict-answers Acceptor own (message.QueryReply table) = tt
verdict-answers Dialer own (message.Propose table) = meets-answers own (common_in table)
verdict-answers Dialer own (message.Accept version info) = agrees-answers own version info
verdict-answers Dialer own (message.Refuse reason) = tt
verdict-answers Dialer own (message.QueryReply table) = tt
