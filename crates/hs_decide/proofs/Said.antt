-- What is said is read again.
use Rattle.std.proofs.Common.{◌≡◌, ℕ, ◌<◌, ◌^◌, true, eqb, [], Some, refl, subst, inl, inr, arith, lit<}
use Rattle.std.proofs.lemmas.Bool.{eqb-true, or_cases}
use Rattle.hs_message.specs.declared.info.VersionInfo.{VersionInfo}
use Rattle.hs_message.specs.declared.message.Message.{Message}
use Rattle.hs_message.specs.declared.message.Message.TheVariants as message
use Rattle.hs_message.specs.Info.{is_node_version}
use Rattle.hs_message.specs.Canonical.{node_spelling, CanWrite}
use Rattle.hs_message.specs.Reading.{message_of}
use Rattle.hs_message.specs.Law.{Fits}
use Rattle.hs_message.proofs.Whole.{message_again}
use Rattle.hs_message.proofs.Written.{written_is_read}
use Rattle.hs_decide.specs.declared.verdict.Verdict.TheVariants.{Accept, Refuse, Query, Agree, Refused, Wrong}
use Rattle.hs_decide.specs.declared.verdict.Why.{Why}
use Rattle.hs_decide.specs.declared.verdict.Why.TheVariants.{NoCommon, NotDecoded, Magic}
use Rattle.hs_decide.specs.Answers.{own_table, refusal_of}
use Rattle.hs_decide.specs.Law.{FitsWhy, ProposalsAreRead, AnswersAreRead}

said_is_read : (said : Message) → Fits said → CanWrite said → message_of (node_spelling said) ≡ Some said
said_is_read said fits can = message_again (node_spelling said) said (written_is_read said [] fits can).0

node_version_fits : (version : ℕ) → is_node_version version ≡ true → version < 2 ^ 64
node_version_fits version own =
    elim (or_cases (eqb version 13) (eqb version 14) own) [
      | inl is ↦ let e : version ≡ 13 = eqb-true _ _ is in omega arith
      | inr is ↦ let e : version ≡ 14 = eqb-true _ _ is in omega arith
    ]

own_table_fits : (own : VersionInfo) → own.magic < 2 ^ 32 → Fits (message.Propose (own_table own))
own_table_fits own magic = (lit< tt, ((lit< tt, magic), ((lit< tt, magic), tt)))

own_table_can : (own : VersionInfo) → CanWrite (message.Propose (own_table own))
own_table_can own = ((refl, (refl, tt)), refl)

pub proposals_are_read : ProposalsAreRead
proposals_are_read own magic = said_is_read (message.Propose (own_table own)) (own_table_fits own magic) (own_table_can own)

refusal_fits : (why : Why) → FitsWhy why → Fits (refusal_of why)
refusal_fits NoCommon fits = (lit< tt, (lit< tt, (lit< tt, tt)))
refusal_fits (NotDecoded version) fits = (fits, lit< tt)
refusal_fits (Magic version) fits = (fits, lit< tt)

refusal_can : (why : Why) → CanWrite (refusal_of why)
refusal_can NoCommon = tt
refusal_can (NotDecoded version) = tt
refusal_can (Magic version) = tt

-- what was said, from how it is asked for
read_as : (said other : Message) → Some said ≡ Some other → message_of (node_spelling said) ≡ Some said → message_of (node_spelling other) ≡ Some other
read_as said other e is = let same : said ≡ other = cc in subst (λ (m : Message). message_of (node_spelling m) ≡ Some m) same is

pub answers_are_read : AnswersAreRead
answers_are_read (Accept agreed) own said magic fits can e =
    read_as _ said e (said_is_read _ (node_version_fits agreed.version can, magic) can)
answers_are_read (Refuse why) own said magic fits can e = read_as (refusal_of why) said e (said_is_read (refusal_of why) (refusal_fits why fits) (refusal_can why))
answers_are_read Query own said magic fits can e =
    read_as (message.QueryReply (own_table own)) said e (said_is_read (message.QueryReply (own_table own)) (own_table_fits own magic) (own_table_can own))
answers_are_read (Agree agreed) own said magic fits can e = absurd cc
answers_are_read Refused own said magic fits can e = absurd cc
answers_are_read Wrong own said magic fits can e = absurd cc
