-- What a node and a local client agree on: this project's own rule.
use Rattle.std.specs.Prelude.{ℕ, true, false, ◌==◌, not, List, [], ◌∷◌, codes, find, IsTrue, if◌then◌else◌, Option, Some, None}
use Rattle.std.specs.Option.{option_or}
use Rattle.hs_message.specs.Info.{is_client_version}
use Rattle.hs_message.specs.Canonical.{client_spelling}
use Rattle.hs_message.specs.declared.info.VersionInfo.{VersionInfo}
use Rattle.hs_message.specs.declared.info.Info.{Info}
use Rattle.hs_message.specs.declared.info.Info.TheVariants.{Known, Foreign}
use Rattle.hs_message.specs.declared.message.Message.{Message}
use Rattle.hs_message.specs.declared.message.Message.TheVariants as message
use Rattle.hs_message.specs.declared.message.Reason.TheVariants as reason
use Rattle.hs_message.specs.declared.offer.Offer.{Offer}
use Rattle.local_clients.specs.declared.decision.Decision.{Decision}
use Rattle.local_clients.specs.declared.decision.Decision.TheVariants.{NoCommon, NotUnderstood, OtherMagic, Asked, Agreed}

abbrev pub offer_of : ℕ → List Offer → Option Offer
offer_of version table = find (λ offer. offer.version == version) table

-- the offer of the greatest version that the node takes
abbrev pub common_in : List Offer → Option Offer
common_in table = option_or (offer_of 32785 table) (offer_of 32784 table)

-- the first that holds: the info is foreign; the magic is another one; the client only asks; it agrees
abbrev pub decides_info : ℕ → ℕ → Info → Decision
decides_info magic version Foreign = NotUnderstood version
decides_info magic version (Known theirs) =
    if not (magic == theirs.magic) then OtherMagic version
    else if theirs.query then Asked
    else Agreed version

abbrev pub decides_offer : ℕ → Option Offer → Decision
decides_offer magic None = NoCommon
decides_offer magic (Some offer) = decides_info magic offer.version offer.info

-- what a proposal comes to
abbrev pub decision_of : ℕ → List Offer → Decision
decision_of magic table = decides_offer magic (common_in table)

-- ---- what is sent

-- what the node says of itself
abbrev pub own_info : ℕ → VersionInfo
own_info magic = record { magic = magic; initiator_only = true; sharing = false; query = false }

-- the versions that the node takes
abbrev pub own_table : ℕ → List Offer
own_table magic =
    (record { version = 32784; info = Known (own_info magic) }) ∷ (record { version = 32785; info = Known (own_info magic) }) ∷ []

abbrev pub answer_to : ℕ → Decision → Message
answer_to magic NoCommon = message.Refuse (reason.NoCommon (32784 ∷ 32785 ∷ []))
answer_to magic (NotUnderstood version) = message.Refuse (reason.NotDecoded version (codes "version data not understood"))
answer_to magic (OtherMagic version) = message.Refuse (reason.Declined version (codes "network magic differs"))
answer_to magic Asked = message.QueryReply (own_table magic)
answer_to magic (Agreed version) = message.Accept version (Known (own_info magic))

abbrev pub answer_bytes : ℕ → Decision → List ℕ
answer_bytes magic decision = client_spelling (answer_to magic decision)

-- a version that is agreed on is one that clients have
abbrev pub CanAnswer : Decision → Type 0
CanAnswer NoCommon = Unit {0}
CanAnswer (NotUnderstood version) = Unit {0}
CanAnswer (OtherMagic version) = Unit {0}
CanAnswer Asked = Unit {0}
CanAnswer (Agreed version) = IsTrue (is_client_version version)
