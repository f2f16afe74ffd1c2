-- What each end decides.
use Rattle.std.proofs.Common.{◌≡◌, ◌⊎◌, Bool, true, false, eqb, ◌||◌, if◌then◌else◌, refl, ap, ◌∙◌, inl, inr}
use Rattle.std.proofs.lemmas.Bool.{cases_Bool}
use Rattle.hs_message.specs.declared.info.VersionInfo.{VersionInfo}
use Rattle.hs_message.specs.declared.info.Info.TheVariants.{Known}
use Rattle.hs_message.specs.declared.message.Message.TheVariants as message
use Rattle.hs_decide.specs.Agreement.{joined, meets_joined, verdict_of}
use Rattle.hs_decide.specs.Answers.{own_table, agreed_info}
use Rattle.hs_decide.specs.declared.role.Role.TheVariants.{Acceptor, Dialer}
use Rattle.hs_decide.specs.declared.verdict.Verdict.TheVariants.{Accept, Refuse, Agree, Refused}
use Rattle.hs_decide.specs.declared.verdict.Why.TheVariants.{Magic}
use Rattle.hs_decide.proofs.Ends.{are_agreed}
use Rattle.net_base.specs.declared.connection.Agreed.{Agreed}

-- what an acceptor takes, and what two that have dialed at once agree on
abbrev pub common : VersionInfo → VersionInfo → Agreed
common own theirs = joined 14 own theirs

pub accepts : (own theirs : VersionInfo) → theirs.query ≡ false → eqb own.magic theirs.magic ≡ true
    → verdict_of Acceptor own (message.Propose (own_table theirs)) ≡ Accept (common own theirs)
accepts own theirs offers same = rw (same, offers) refl

pub refuses : (own theirs : VersionInfo) → eqb own.magic theirs.magic ≡ false
    → verdict_of Acceptor own (message.Propose (own_table theirs)) ≡ Refuse (Magic 14)
refuses own theirs differ = rw differ refl

-- the dialer agrees on what the acceptor took
pub agrees : (dialer acceptor : VersionInfo) → dialer.query ≡ false → eqb acceptor.magic dialer.magic ≡ true
    → verdict_of Dialer dialer (message.Accept 14 (Known (agreed_info acceptor (common acceptor dialer)))) ≡ Agree (common acceptor dialer)
agrees dialer acceptor offers same = are_agreed dialer acceptor (common acceptor dialer) (accepts acceptor dialer offers same)

-- ---- both have dialed

pub meets_by : (own theirs : VersionInfo) (same : Bool) → theirs.query ≡ false → eqb own.magic theirs.magic ≡ same
    → verdict_of Dialer own (message.Propose (own_table theirs)) ≡ (if same then meets_joined (common own theirs) else Refused)
meets_by own theirs true offers is = rw (is, offers) refl
meets_by own theirs false offers is = rw is refl

pub joined_by : (agreed : Agreed) (b : Bool) → agreed.initiator_only ≡ b → meets_joined agreed ≡ (if b then Refused else Agree agreed)
joined_by agreed b is = ap (λ (x : Bool). if x then Refused else Agree agreed) is

pub meets : (own theirs : VersionInfo) → theirs.query ≡ false → eqb own.magic theirs.magic ≡ true → (own.initiator_only || theirs.initiator_only) ≡ false
    → verdict_of Dialer own (message.Propose (own_table theirs)) ≡ Agree (common own theirs)
meets own theirs offers same duplex = meets_by own theirs true offers same ∙ joined_by (common own theirs) false duplex

-- it refuses, or agrees
pub meets_or_refuses : (own theirs : VersionInfo) → theirs.query ≡ false
    → (verdict_of Dialer own (message.Propose (own_table theirs)) ≡ Refused)
    ⊎ (verdict_of Dialer own (message.Propose (own_table theirs)) ≡ Agree (common own theirs))
meets_or_refuses own theirs offers =
    elim (cases_Bool (eqb own.magic theirs.magic)) [
      | inl same ↦ elim (cases_Bool (own.initiator_only || theirs.initiator_only)) [
        | inl uni ↦ inl (meets_by own theirs true offers same ∙ joined_by (common own theirs) true uni)
        | inr duplex ↦ inr (meets own theirs offers same duplex)
      ]
      | inr differ ↦ inl (meets_by own theirs false offers differ)
    ]
