-- What is sent in the handshake. The texts are this project's own.
use Rattle.std.specs.Prelude.{ℕ, false, List, [], ◌∷◌, codes, IsTrue, Option, Some, None}
use Rattle.std.specs.Option.{option_map}
use Rattle.hs_message.specs.Info.{is_node_version}
use Rattle.hs_message.specs.Canonical.{node_spelling}
use Rattle.hs_message.specs.declared.info.VersionInfo.{VersionInfo}
use Rattle.hs_message.specs.declared.info.Info.TheVariants.{Known}
use Rattle.hs_message.specs.declared.message.Message.{Message}
use Rattle.hs_message.specs.declared.message.Message.TheVariants as message
use Rattle.hs_message.specs.declared.message.Reason.TheVariants as reason
use Rattle.hs_message.specs.declared.offer.Offer.{Offer}
use Rattle.net_base.specs.declared.connection.Agreed.{Agreed}
use Rattle.hs_decide.specs.declared.verdict.Verdict.{Verdict}
use Rattle.hs_decide.specs.declared.verdict.Verdict.TheVariants.{Accept, Refuse, Query, Agree, Refused, Wrong}
use Rattle.hs_decide.specs.declared.verdict.Why.{Why}
use Rattle.hs_decide.specs.declared.verdict.Why.TheVariants.{NoCommon, NotDecoded, Magic}

-- the versions that this node takes, each with what it says of itself
abbrev pub own_table : VersionInfo → List Offer
own_table own =
    (record { version = 13; info = Known own }) ∷ (record { version = 14; info = Known own }) ∷ []

-- what was agreed on, said in the acceptor's words
abbrev pub agreed_info : VersionInfo → Agreed → VersionInfo
agreed_info own agreed = record {
  magic = own.magic;
  initiator_only = agreed.initiator_only;
  sharing = agreed.sharing;
  query = false;
}

abbrev pub refusal_of : Why → Message
refusal_of NoCommon = message.Refuse (reason.NoCommon (13 ∷ 14 ∷ []))
refusal_of (NotDecoded version) = message.Refuse (reason.NotDecoded version (codes "version data not understood"))
refusal_of (Magic version) = message.Refuse (reason.Declined version (codes "network magic differs"))

-- what an acceptor sends; a dialer sends nothing
abbrev pub message_for : Verdict → VersionInfo → Option Message
message_for (Accept agreed) own = Some (message.Accept agreed.version (Known (agreed_info own agreed)))
message_for (Refuse why) own = Some (refusal_of why)
message_for Query own = Some (message.QueryReply (own_table own))
message_for (Agree agreed) own = None
message_for Refused own = None
message_for Wrong own = None

abbrev pub answer_of : Verdict → VersionInfo → Option (List ℕ)
answer_of verdict own = option_map node_spelling (message_for verdict own)

abbrev pub proposal_of : VersionInfo → List ℕ
proposal_of own = node_spelling (message.Propose (own_table own))

-- a version that is accepted is one that this node takes
abbrev pub CanAnswer : Verdict → Type 0
CanAnswer (Accept agreed) = IsTrue (is_node_version agreed.version)
CanAnswer (Refuse why) = Unit {0}
CanAnswer Query = Unit {0}
CanAnswer (Agree agreed) = Unit {0}
CanAnswer Refused = Unit {0}
CanAnswer Wrong = Unit {0}
