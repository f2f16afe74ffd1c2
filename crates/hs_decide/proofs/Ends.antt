-- Both ends come to the same.
use Rattle.std.proofs.Common.{◌≡◌, ℕ, Bool, true, false, eqb, ◌&&◌, ◌||◌, refl, sym, ◌∙◌, inl, inr}
use Rattle.std.proofs.lemmas.Bool.{eqb-true, eq-eqb, ne_eqb, cases_Bool}
use Rattle.hs_message.specs.declared.info.VersionInfo.{VersionInfo}
use Rattle.hs_message.specs.declared.info.Info.TheVariants.{Known}
use Rattle.net_base.specs.declared.connection.Agreed.{Agreed}
use Rattle.hs_decide.specs.declared.verdict.Verdict.TheVariants.{Accept, Agree, Refuse, Query}
use Rattle.hs_decide.specs.declared.verdict.Why.TheVariants.{Magic}
use Rattle.hs_decide.specs.Agreement.{joined, accepts_info, agrees_info}
use Rattle.hs_decide.specs.Answers.{agreed_info}
use Rattle.hs_decide.specs.Law.{AreAgreed, MeetAlike}

or_again : (a b : Bool) → (a || (b || a)) ≡ (b || a)
or_again true true = refl
or_again true false = refl
or_again false true = refl
or_again false false = refl

and_again : (a b : Bool) → (a && (b && a)) ≡ (b && a)
and_again true true = refl
and_again true false = refl
and_again false true = refl
and_again false false = refl

or_swapped : (a b : Bool) → (a || b) ≡ (b || a)
or_swapped true true = refl
or_swapped true false = refl
or_swapped false true = refl
or_swapped false false = refl

and_swapped : (a b : Bool) → (a && b) ≡ (b && a)
and_swapped true true = refl
and_swapped true false = refl
and_swapped false true = refl
and_swapped false false = refl

agreed_with : ℕ → Bool → Bool → Agreed
agreed_with version initiator_only sharing = record { version = version; initiator_only = initiator_only; sharing = sharing }

-- what an acceptor took
accepted : (own : VersionInfo) (version : ℕ) (theirs : VersionInfo) (same query : Bool) (agreed : Agreed) → eqb own.magic theirs.magic ≡ same → theirs.query ≡ query
    → accepts_info own version (Known theirs) ≡ Accept agreed → (own.magic ≡ theirs.magic) × (joined version own theirs ≡ agreed)
accepted own version theirs false query agreed s q e = let e' : Refuse (Magic version) ≡ Accept agreed = rw s at e in absurd cc
accepted own version theirs true true agreed s q e = let e' : Query ≡ Accept agreed = rw (s, q) at e in absurd cc
accepted own version theirs true false agreed s q e =
    let e' : Accept (joined version own theirs) ≡ Accept agreed = rw (s, q) at e in
    (eqb-true _ _ s, cc)

-- what it comes to at the dialer
told : (dialer acceptor : VersionInfo) (version : ℕ) → acceptor.magic ≡ dialer.magic
    → agrees_info dialer version (Known (agreed_info acceptor (joined version acceptor dialer))) ≡ Agree (joined version acceptor dialer)
told dialer acceptor version same =
    rw (eq-eqb dialer.magic acceptor.magic (sym same), or_again dialer.initiator_only acceptor.initiator_only, and_again dialer.sharing acceptor.sharing) refl

pub are_agreed : AreAgreed
are_agreed dialer acceptor agreed e =
    let a = accepted acceptor 14 dialer (eqb acceptor.magic dialer.magic) dialer.query agreed refl refl e in
    rw (← a.1) (told dialer acceptor 14 a.0)

eqb_swapped : (m n : ℕ) → eqb m n ≡ eqb n m
eqb_swapped m n =
    elim (cases_Bool (eqb m n)) [
      | inl same ↦ same ∙ sym (eq-eqb n m (sym (eqb-true m n same)))
      | inr other ↦ other ∙ sym (ne_eqb n m (λ same. let yes : eqb m n ≡ true = eq-eqb m n (sym same) in absurd cc))
    ]

pub meet_alike : MeetAlike
meet_alike one two first second =
    rw (first, second, eqb_swapped one.magic two.magic, or_swapped one.initiator_only two.initiator_only, and_swapped one.sharing two.sharing) refl
