-- The one spelling that is written: heads are the shortest and lengths are told.
use Rattle.std.specs.Prelude.{◌≡◌, ℕ, Bool, true, false, List, [], ◌∷◌, ◌++◌, length, IsTrue, if◌then◌else◌}
use Rattle.std.specs.List.{flat_map, AllByRecursion}
use Rattle.cbor_items.specs.Head.{shortest_head}
use Rattle.hs_message.specs.declared.info.VersionInfo.{VersionInfo}
use Rattle.hs_message.specs.declared.info.Info.{Info}
use Rattle.hs_message.specs.declared.info.Info.TheVariants.{Known, Foreign}
use Rattle.hs_message.specs.declared.offer.Offer.{Offer}
use Rattle.hs_message.specs.declared.message.Message.{Message}
use Rattle.hs_message.specs.declared.message.Message.TheVariants.{Propose, Accept, Refuse, QueryReply}
use Rattle.hs_message.specs.declared.message.Reason.{Reason}
use Rattle.hs_message.specs.declared.message.Reason.TheVariants.{NoCommon, NotDecoded, Declined}
use Rattle.hs_message.specs.declared.profile.Profile.{Profile}
use Rattle.hs_message.specs.declared.profile.Profile.TheVariants.{NodeToNode, NodeToClient}
use Rattle.hs_message.specs.Parts.{flag_byte}
use Rattle.hs_message.specs.Info.{is_node_version, is_client_version}
use Rattle.hs_message.specs.Spelling.{rises}

-- ---- the parts

abbrev pub number_spelling : ℕ → List ℕ
number_spelling n = shortest_head 0 n

abbrev pub text_spelling : List ℕ → List ℕ
text_spelling text = shortest_head 3 (length text) ++ text

abbrev pub flag_spelling : Bool → List ℕ
flag_spelling flag = flag_byte flag ∷ []

-- an array of so many elements, which are spelled so
abbrev pub array_spelling : ℕ → List ℕ → List ℕ
array_spelling count elements = shortest_head 4 count ++ elements

-- a map of so many entries, which are spelled so
abbrev pub map_spelling : ℕ → List ℕ → List ℕ
map_spelling count entries = shortest_head 5 count ++ entries

-- ---- messages. How a known info is written is an argument, `spelled`. A foreign info is never written.

abbrev pub info_spelling : (VersionInfo → List ℕ) → Info → List ℕ
info_spelling spelled (Known known) = spelled known
info_spelling spelled Foreign = []

abbrev pub offer_spelling : (VersionInfo → List ℕ) → Offer → List ℕ
offer_spelling spelled offer = number_spelling offer.version ++ info_spelling spelled offer.info

abbrev pub table_spelling : (VersionInfo → List ℕ) → List Offer → List ℕ
table_spelling spelled table = map_spelling (length table) (flat_map (offer_spelling spelled) table)

abbrev pub noted_spelling : ℕ → List ℕ → List ℕ
noted_spelling version text = number_spelling version ++ text_spelling text

abbrev pub reason_spelling : Reason → List ℕ
reason_spelling (NoCommon versions) = array_spelling 2 (number_spelling 0 ++ array_spelling (length versions) (flat_map number_spelling versions))
reason_spelling (NotDecoded version text) = array_spelling 3 (number_spelling 1 ++ noted_spelling version text)
reason_spelling (Declined version text) = array_spelling 3 (number_spelling 2 ++ noted_spelling version text)

abbrev pub message_spelling : (VersionInfo → List ℕ) → Message → List ℕ
message_spelling spelled (Propose table) = array_spelling 2 (number_spelling 0 ++ table_spelling spelled table)
message_spelling spelled (Accept version info) = array_spelling 3 (number_spelling 1 ++ (number_spelling version ++ info_spelling spelled info))
message_spelling spelled (Refuse reason) = array_spelling 2 (number_spelling 2 ++ reason_spelling reason)
message_spelling spelled (QueryReply table) = array_spelling 2 (number_spelling 3 ++ table_spelling spelled table)

-- ---- between nodes

-- peer sharing is written as a number
abbrev pub version_info_spelling : VersionInfo → List ℕ
version_info_spelling info = array_spelling 4
    (number_spelling info.magic ++ (flag_spelling info.initiator_only ++ (number_spelling (if info.sharing then 1 else 0) ++ flag_spelling info.query)))

-- the one spelling of a message between nodes
unfoldable pub node_spelling : Message → List ℕ
node_spelling message = message_spelling version_info_spelling message

-- ---- between a node and its local clients

abbrev pub client_info_spelling : VersionInfo → List ℕ
client_info_spelling info = array_spelling 2 (number_spelling info.magic ++ flag_spelling info.query)

-- the one spelling of a message between a node and a local client
unfoldable pub client_spelling : Message → List ℕ
client_spelling message = message_spelling client_info_spelling message

abbrev pub info_spelling_in : Profile → VersionInfo → List ℕ
info_spelling_in NodeToNode = version_info_spelling
info_spelling_in NodeToClient = client_info_spelling

-- ---- what is written. Which known infos may stand beside a version is an argument, `Own`.

abbrev pub IsOwnBy : (ℕ → VersionInfo → Type 0) → ℕ → Info → Type 0
IsOwnBy Own version (Known known) = Own version known
IsOwnBy Own version Foreign = ⊥

abbrev pub IsOwnTableBy : (ℕ → VersionInfo → Type 0) → List Offer → Type 0
IsOwnTableBy Own table = AllByRecursion (λ offer. IsOwnBy Own offer.version offer.info) table × IsTrue (rises table)

-- each info is one that may stand beside its version, and the versions of a table rise strictly
abbrev pub CanWriteBy : (ℕ → VersionInfo → Type 0) → Message → Type 0
CanWriteBy Own (Propose table) = IsOwnTableBy Own table
CanWriteBy Own (Accept version info) = IsOwnBy Own version info
CanWriteBy Own (Refuse reason) = Unit {0}
CanWriteBy Own (QueryReply table) = IsOwnTableBy Own table

-- between nodes: any known info of a version that a node understands
abbrev pub IsNodeOwn : ℕ → VersionInfo → Type 0
IsNodeOwn version known = IsTrue (is_node_version version)

abbrev pub CanWrite : Message → Type 0
CanWrite message = CanWriteBy IsNodeOwn message

-- between a node and a local client: a known info that says no more than is written
abbrev pub IsClientOwn : ℕ → VersionInfo → Type 0
IsClientOwn version known = IsTrue (is_client_version version) × (known.initiator_only ≡ true) × (known.sharing ≡ false)

abbrev pub CanWriteToClient : Message → Type 0
CanWriteToClient message = CanWriteBy IsClientOwn message
