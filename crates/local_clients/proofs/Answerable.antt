-- A version that is agreed on is one that clients have.
use Rattle.std.proofs.Common.{◌≡◌, ℕ, Bool, true, false, ◌==◌, not, cond, if◌then◌else◌, List, [], ◌∷◌, find, Option, Some, None, refl, sym, ap, ◌∙◌, eqb-true}
use Rattle.std.specs.Option.{option_or}
use Rattle.std.proofs.lemmas.Bool.{cond_both}
use Rattle.hs_message.specs.Info.{is_client_version}
use Rattle.hs_message.specs.declared.info.Info.{Info}
use Rattle.hs_message.specs.declared.info.Info.TheVariants.{Known, Foreign}
use Rattle.hs_message.specs.declared.offer.Offer.{Offer}
use Rattle.local_clients.specs.declared.decision.Decision.TheVariants.{OtherMagic, Asked, Agreed}
use Rattle.local_clients.specs.Agreement.{offer_of, common_in, decides_info, decides_offer, decision_of, CanAnswer}

-- what is found passes the test
at_head : {X : Type 0} (p : X → Bool) (y x : X) (others : Option X) (b : Bool) → p y ≡ b → (others ≡ Some x → p x ≡ true)
    → cond b (Some y) others ≡ Some x → p x ≡ true
at_head p y x others true here later e = let same : y ≡ x = cc in ap p (sym same) ∙ here
at_head p y x others false here later e = later e

found_passes : {X : Type 0} (p : X → Bool) (xs : List X) (x : X) → find p xs ≡ Some x → p x ≡ true
found_passes p [] x e = absurd cc
found_passes p (y ∷ ys) x e = at_head p y x (find p ys) (p y) refl (found_passes p ys x) e

offer_version : (version : ℕ) (table : List Offer) (offer : Offer) → offer_of version table ≡ Some offer → offer.version ≡ version
offer_version version table offer is =
    eqb-true offer.version version (found_passes (λ (o : Offer). o.version == version) table offer is)

common_version : (table : List Offer) (offer : Offer) → common_in table ≡ Some offer → is_client_version offer.version ≡ true
common_version table offer = by_greatest (offer_of 32785 table) refl
  where
    by_greatest : (o : Option Offer) → offer_of 32785 table ≡ o → option_or o (offer_of 32784 table) ≡ Some offer → is_client_version offer.version ≡ true
    by_greatest None none is = rw (offer_version 32784 table offer is) refl
    by_greatest (Some other) some is = rw (offer_version 32785 table offer (some ∙ is)) refl

info_answers : (magic version : ℕ) (info : Info) → is_client_version version ≡ true → CanAnswer (decides_info magic version info)
info_answers magic version Foreign takes = tt
info_answers magic version (Known theirs) takes =
    cond_both (not (magic == theirs.magic)) (OtherMagic version) (if theirs.query then Asked else Agreed version) CanAnswer (λ other. tt)
    (λ same. cond_both theirs.query Asked (Agreed version) CanAnswer (λ asks. tt) (λ offers. takes))

pub decision_answers : (magic : ℕ) (table : List Offer) → CanAnswer (decision_of magic table)
decision_answers magic table = by_offer (common_in table) refl
  where
    by_offer : (o : Option Offer) → common_in table ≡ o → CanAnswer (decides_offer magic o)
    by_offer None is = tt
    by_offer (Some offer) is = info_answers magic offer.version offer.info (common_version table offer is)
