-- Laws on agreement: both ends come to the same, and what is said is read again.
use Rattle.std.specs.Prelude.{◌≡◌, ◌^◌, ◌<◌, false, Some}
use Rattle.hs_message.specs.declared.info.VersionInfo.{VersionInfo}
use Rattle.hs_message.specs.declared.info.Info.TheVariants.{Known}
use Rattle.hs_message.specs.declared.message.Message.{Message}
use Rattle.hs_message.specs.declared.message.Message.TheVariants as message
use Rattle.hs_message.specs.Canonical.{node_spelling}
use Rattle.hs_message.specs.Reading.{message_of}
use Rattle.net_base.specs.declared.connection.Agreed.{Agreed}
use Rattle.hs_decide.specs.declared.role.Role.TheVariants.{Acceptor, Dialer}
use Rattle.hs_decide.specs.declared.verdict.Verdict.{Verdict}
use Rattle.hs_decide.specs.declared.verdict.Verdict.TheVariants.{Accept, Refuse, Query, Agree, Refused, Wrong}
use Rattle.hs_decide.specs.declared.verdict.Why.{Why}
use Rattle.hs_decide.specs.declared.verdict.Why.TheVariants.{NoCommon, NotDecoded, Magic}
use Rattle.hs_decide.specs.Agreement.{verdict_of}
use Rattle.hs_decide.specs.Answers.{own_table, agreed_info, message_for, proposal_of, CanAnswer}

-- What an acceptor takes of a dialer's proposal, the dialer agrees on when it is told so, with the same values.
abbrev pub AreAgreed : Type 0
AreAgreed = (dialer acceptor : VersionInfo) (agreed : Agreed)
    → verdict_of Acceptor acceptor (message.Propose (own_table dialer)) ≡ Accept agreed
    → verdict_of Dialer dialer (message.Accept agreed.version (Known (agreed_info acceptor agreed))) ≡ Agree agreed

-- Two nodes that have dialed each other, and do not only ask for versions, come to the same verdict.
abbrev pub MeetAlike : Type 0
MeetAlike = (one two : VersionInfo) → one.query ≡ false → two.query ≡ false
    → verdict_of Dialer one (message.Propose (own_table two)) ≡ verdict_of Dialer two (message.Propose (own_table one))

-- ---- what is said is read again, with a magic of 32 bits and versions of 64

abbrev pub FitsWhy : Why → Type 0
FitsWhy NoCommon = Unit {0}
FitsWhy (NotDecoded version) = version < 2 ^ 64
FitsWhy (Magic version) = version < 2 ^ 64

abbrev pub FitsVerdict : Verdict → Type 0
FitsVerdict (Accept agreed) = Unit {0}
FitsVerdict (Refuse why) = FitsWhy why
FitsVerdict Query = Unit {0}
FitsVerdict (Agree agreed) = Unit {0}
FitsVerdict Refused = Unit {0}
FitsVerdict Wrong = Unit {0}

-- a proposal is read as that of the own versions
abbrev pub ProposalsAreRead : Type 0
ProposalsAreRead = (own : VersionInfo) → own.magic < 2 ^ 32 → message_of (proposal_of own) ≡ Some (message.Propose (own_table own))

-- an answer is read as the message that it says
abbrev pub AnswersAreRead : Type 0
AnswersAreRead = (verdict : Verdict) (own : VersionInfo) (said : Message) → own.magic < 2 ^ 32 → FitsVerdict verdict → CanAnswer verdict
    → message_for verdict own ≡ Some said → message_of (node_spelling said) ≡ Some said
