-- What two nodes agree on: this project's own rule. Nothing of it depends on how a message was spelled.
use Rattle.std.specs.Prelude.{ℕ, Bool, ◌&&◌, ◌||◌, ◌==◌, not, List, find, if◌then◌else◌, Option, Some, None}
use Rattle.std.specs.Option.{option_or}
use Rattle.hs_message.specs.Info.{is_node_version}
use Rattle.hs_message.specs.declared.info.VersionInfo.{VersionInfo}
use Rattle.hs_message.specs.declared.info.Info.{Info}
use Rattle.hs_message.specs.declared.info.Info.TheVariants.{Known, Foreign}
use Rattle.hs_message.specs.declared.message.Message.{Message}
use Rattle.hs_message.specs.declared.message.Message.TheVariants as message
use Rattle.hs_message.specs.declared.offer.Offer.{Offer}
use Rattle.net_base.specs.declared.connection.Agreed.{Agreed}
use Rattle.hs_decide.specs.declared.role.Role.{Role}
use Rattle.hs_decide.specs.declared.role.Role.TheVariants.{Acceptor, Dialer}
use Rattle.hs_decide.specs.declared.verdict.Verdict.{Verdict}
use Rattle.hs_decide.specs.declared.verdict.Verdict.TheVariants.{Accept, Refuse, Query, Agree, Refused, Wrong}
use Rattle.hs_decide.specs.declared.verdict.Why.TheVariants.{NoCommon, NotDecoded, Magic}

abbrev pub offer_of : ℕ → List Offer → Option Offer
offer_of version table = find (λ offer. offer.version == version) table

-- the offer of the greatest version that this node takes
abbrev pub common_in : List Offer → Option Offer
common_in table = option_or (offer_of 14 table) (offer_of 13 table)

-- Protocols run from one side alone where either end wants that, and peers are shared where both ends do.
abbrev pub joined : ℕ → VersionInfo → VersionInfo → Agreed
joined version own theirs = record {
  version = version;
  initiator_only = own.initiator_only || theirs.initiator_only;
  sharing = own.sharing && theirs.sharing;
}

abbrev pub same_magic : VersionInfo → VersionInfo → Bool
same_magic own theirs = own.magic == theirs.magic

-- ---- an acceptor and a proposal

abbrev pub accepts_info : VersionInfo → ℕ → Info → Verdict
accepts_info own version Foreign = Refuse (NotDecoded version)
accepts_info own version (Known theirs) =
    if not (same_magic own theirs) then Refuse (Magic version)
    else if theirs.query then Query
    else Accept (joined version own theirs)

abbrev pub accepts_offer : VersionInfo → Option Offer → Verdict
accepts_offer own None = Refuse NoCommon
accepts_offer own (Some offer) = accepts_info own offer.version offer.info

-- ---- a dialer and an acceptance

abbrev pub agrees_info : VersionInfo → ℕ → Info → Verdict
agrees_info own version Foreign = Wrong
agrees_info own version (Known theirs) =
    if same_magic own theirs then Agree (joined version own theirs) else Wrong

abbrev pub agrees_on : VersionInfo → ℕ → Info → Verdict
agrees_on own version info = if is_node_version version then agrees_info own version info else Wrong

-- ---- a dialer and a proposal: both have dialed at once

abbrev pub meets_joined : Agreed → Verdict
meets_joined agreed = if agreed.initiator_only then Refused else Agree agreed

abbrev pub meets_info : VersionInfo → ℕ → Info → Verdict
meets_info own version Foreign = Refused
meets_info own version (Known theirs) =
    if not (same_magic own theirs) then Refused
    else if theirs.query then Wrong
    else meets_joined (joined version own theirs)

abbrev pub meets_offer : VersionInfo → Option Offer → Verdict
meets_offer own None = Refused
meets_offer own (Some offer) = meets_info own offer.version offer.info

-- ---- all messages

abbrev pub verdict_of : Role → VersionInfo → Message → Verdict
verdict_of Acceptor own (message.Propose table) = accepts_offer own (common_in table)
verdict_of Acceptor own (message.Accept version info) = Wrong
verdict_of Acceptor own (message.Refuse reason) = Wrong
verdict_of Acceptor own (message.QueryReply table) = Wrong
verdict_of Dialer own (message.Propose table) = meets_offer own (common_in table)
verdict_of Dialer own (message.Accept version info) = agrees_on own version info
verdict_of Dialer own (message.Refuse reason) = Refused
verdict_of Dialer own (message.QueryReply table) = Wrong
