-- Reading from left to right: what stands at the front of the bytes, and the bytes behind it. None where nothing of
-- the kind stands there.
use Rattle.std.specs.Prelude.{◌≡◌, ℕ, zero, suc, ◌^◌, Bool, true, false, ◌==◌, nat_lt, List, [], ◌∷◌, length, take, drop, Option, Some, None, if◌then◌else◌}
use Rattle.std.specs.Option.{option_or}
use Rattle.cbor_items.specs.declared.head.Head.{Head}
use Rattle.cbor_items.specs.Front.{Reader, ◌>>=◌, whole, any_head_at, definite_at, number_at}
use Rattle.cbor_items.specs.declared.scan.Scan.{Scan}
use Rattle.cbor_items.specs.declared.scan.Scan.TheVariants as scan
use Rattle.cbor_items.specs.Scan.{scan_of, is_one_item}
use Rattle.hs_message.specs.declared.info.VersionInfo.{VersionInfo}
use Rattle.hs_message.specs.declared.info.Info.{Info}
use Rattle.hs_message.specs.declared.info.Info.TheVariants.{Known, Foreign}
use Rattle.hs_message.specs.declared.offer.Offer.{Offer}
use Rattle.hs_message.specs.declared.message.Message.{Message}
use Rattle.hs_message.specs.declared.message.Message.TheVariants.{Propose, Accept, Refuse, QueryReply}
use Rattle.hs_message.specs.declared.message.Reason.{Reason}
use Rattle.hs_message.specs.declared.message.Reason.TheVariants.{NoCommon, NotDecoded, Declined}
use Rattle.hs_message.specs.declared.refusal.ReadRefusal.{ReadRefusal}
use Rattle.hs_message.specs.declared.refusal.ReadRefusal.TheVariants.{NotAMessage, OutOfMemory}
use Rattle.hs_message.specs.declared.profile.Profile.{Profile}
use Rattle.hs_message.specs.declared.profile.Profile.TheVariants.{NodeToNode, NodeToClient}
use Rattle.hs_message.specs.Info.{is_node_version, is_client_version}
use Rattle.hs_message.specs.Spelling.{rises}
use Rattle.hs_message.specs.declared.tag.Tag.{Tag}
use Rattle.hs_message.specs.declared.message_code.MessageCode.{MessageCode}
use Rattle.hs_message.specs.declared.message_code.MessageCode.TheVariants as message
use Rattle.hs_message.specs.declared.reason_code.ReasonCode.{ReasonCode}
use Rattle.hs_message.specs.declared.reason_code.ReasonCode.TheVariants as reason
use Rattle.hs_message.specs.Codes.{message_code_of, reason_code_of}

-- what a refusal says of a reading: want of memory says nothing
abbrev pub RefusalSays : {X : Type 0} → ReadRefusal → Option X → Type 0
RefusalSays NotAMessage read = read ≡ None
RefusalSays OutOfMemory read = Unit {0}

-- ---- arrays

-- the bytes behind the head of a definite array of so many elements
unfoldable pub definite_array_at : ℕ → List ℕ → Option (List ℕ)
definite_array_at count bytes = do
  read ← definite_at 4 bytes
  if read.0 == count then Some read.1 else None

-- ---- infos

unfoldable pub flag_at : Reader Bool
flag_at [] = None
flag_at (byte ∷ rest) = if byte == 0xf4 then Some (false, rest) else (if byte == 0xf5 then Some (true, rest) else None)

-- the number 0 or 1
unfoldable pub bit_at : Reader Bool
bit_at bytes = do
  read ← number_at bytes
  if read.0 == 0 then Some (false, read.1) else (if read.0 == 1 then Some (true, read.1) else None)

abbrev pub sharing_at : Reader Bool
sharing_at bytes = option_or (flag_at bytes) (bit_at bytes)

-- a network's magic: a number of 32 bits
unfoldable pub magic_at : Reader ℕ
magic_at bytes = do
  magic ← number_at bytes
  if nat_lt magic.0 (2 ^ 32) then Some magic else None

unfoldable pub version_info_at : Reader VersionInfo
version_info_at bytes = do
  elements ← definite_array_at 4 bytes
  magic ← magic_at elements
  initiator_only ← flag_at magic.1
  sharing ← sharing_at initiator_only.1
  query ← flag_at sharing.1
  Some (record { magic = magic.0; initiator_only = initiator_only.0; sharing = sharing.0; query = query.0 }, query.1)

-- the known info that an item beside a version is, between nodes
unfoldable pub known_of : ℕ → List ℕ → Option VersionInfo
known_of version item = if is_node_version version then whole (version_info_at item) else None

-- a local client runs no responder and shares no peers
unfoldable pub client_version_info_at : Reader VersionInfo
client_version_info_at bytes = do
  elements ← definite_array_at 2 bytes
  magic ← magic_at elements
  query ← flag_at magic.1
  Some (record { magic = magic.0; initiator_only = true; sharing = false; query = query.0 }, query.1)

-- the same between a node and a local client
unfoldable pub client_known_of : ℕ → List ℕ → Option VersionInfo
client_known_of version item = if is_client_version version then whole (client_version_info_at item) else None

-- What an item beside a version is known as: the readings below take it as an argument, `known`.
abbrev pub Knowing : Type 0
Knowing = ℕ → List ℕ → Option VersionInfo

abbrev pub known_in : Profile → Knowing
known_in NodeToNode = known_of
known_in NodeToClient = client_known_of

abbrev pub as_info : Option VersionInfo → Info
as_info (Some known) = Known known
as_info None = Foreign

abbrev pub info_of : Knowing → ℕ → List ℕ → Info
info_of known version item = as_info (known version item)

-- ---- tables

abbrev pub front_of : List ℕ → Scan → Option (List ℕ × List ℕ)
front_of bytes (scan.Whole n) = Some (take n bytes, drop n bytes)
front_of bytes scan.More = None
front_of bytes scan.Bad = None
front_of bytes scan.Deep = None

-- any item
abbrev pub item_at : Reader (List ℕ)
item_at bytes = front_of bytes (scan_of bytes)

unfoldable pub offer_at : Knowing → Reader Offer
offer_at known bytes = do
  version ← number_at bytes
  item ← item_at version.1
  Some (record { version = version.0; info = info_of known version.0 item.0 }, item.1)

-- so many things
unfoldable pub row_at : {X : Type 0} → Reader X → ℕ → Reader (List X)
row_at thing zero bytes = Some ([], bytes)
row_at thing (suc n) bytes = do
  first ← thing bytes
  others ← row_at thing n first.1
  Some (first.0 ∷ others.0, others.1)

unfoldable pub table_at : Knowing → Reader (List Offer)
table_at known bytes = do
  count ← definite_at 5 bytes
  offers ← row_at (offer_at known) count.0 count.1
  if rises offers.0 then Some offers else None

-- ---- reasons

-- things up to a break. The number is that of the bytes: each thing takes one at least
unfoldable pub row_to_break_at : {X : Type 0} → Reader X → ℕ → Reader (List X)
row_to_break_at thing zero bytes = None
row_to_break_at thing (suc n) [] = None
row_to_break_at thing (suc n) (byte ∷ rest) =
    if byte == 0xff then Some ([], rest)
    else (thing (byte ∷ rest) >>= λ first. row_to_break_at thing n first.1 >>= λ others. Some (first.0 ∷ others.0, others.1))

abbrev pub version_row_at : Head → Reader (List ℕ)
version_row_at head bytes = if head.indefinite then row_to_break_at number_at (length bytes) bytes else row_at number_at head.value bytes

unfoldable pub version_list_at : Reader (List ℕ)
version_list_at bytes = do
  read ← any_head_at bytes
  if read.0.major == 4 then version_row_at read.0 read.1 else None

unfoldable pub text_at : Reader (List ℕ)
text_at bytes = do
  read ← definite_at 3 bytes
  if nat_lt (length read.1) read.0 then None else Some (take read.0 read.1, drop read.0 read.1)

-- how many elements an array has, the number that is the first one, and the bytes behind that
unfoldable pub tag_at : Reader Tag
tag_at bytes = do
  elements ← definite_at 4 bytes
  number ← number_at elements.1
  Some (record { elements = elements.0; number = number.0 }, number.1)

-- a version and a text
unfoldable pub noted_at : Reader (ℕ × List ℕ)
noted_at bytes = do
  version ← number_at bytes
  text ← text_at version.1
  Some ((version.0, text.0), text.1)

abbrev pub no_common_at : Reader Reason
no_common_at bytes = version_list_at bytes >>= λ versions. Some (NoCommon versions.0, versions.1)

abbrev pub not_decoded_at : Reader Reason
not_decoded_at bytes = noted_at bytes >>= λ noted. Some (NotDecoded noted.0.0 noted.0.1, noted.1)

abbrev pub declined_at : Reader Reason
declined_at bytes = noted_at bytes >>= λ noted. Some (Declined noted.0.0 noted.0.1, noted.1)

-- what stands behind the tag of a reason
abbrev pub reason_behind : ReasonCode → Reader Reason
reason_behind reason.NoCommon bytes = no_common_at bytes
reason_behind reason.NotDecoded bytes = not_decoded_at bytes
reason_behind reason.Declined bytes = declined_at bytes

unfoldable pub reason_at : Reader Reason
reason_at bytes = do
  tag ← tag_at bytes
  code ← reason_code_of tag.0
  reason_behind code tag.1

-- ---- messages

abbrev pub propose_at : Knowing → Reader Message
propose_at known bytes = table_at known bytes >>= λ table. Some (Propose table.0, table.1)

abbrev pub accept_at : Knowing → Reader Message
accept_at known bytes = offer_at known bytes >>= λ offer. Some (Accept offer.0.version offer.0.info, offer.1)

abbrev pub refuse_at : Reader Message
refuse_at bytes = reason_at bytes >>= λ reason. Some (Refuse reason.0, reason.1)

abbrev pub query_reply_at : Knowing → Reader Message
query_reply_at known bytes = table_at known bytes >>= λ table. Some (QueryReply table.0, table.1)

-- what stands behind the tag of a message
abbrev pub message_behind : Knowing → MessageCode → Reader Message
message_behind known message.Propose bytes = propose_at known bytes
message_behind known message.Accept bytes = accept_at known bytes
message_behind known message.Refuse bytes = refuse_at bytes
message_behind known message.QueryReply bytes = query_reply_at known bytes

unfoldable pub message_at : Knowing → Reader Message
message_at known bytes = do
  tag ← tag_at bytes
  code ← message_code_of tag.0
  message_behind known code tag.1

abbrev pub without_rest : {X : Type 0} → Option (X × List ℕ) → Option X
without_rest read = read >>= λ x. Some x.0

-- the message that the bytes spell
unfoldable pub message_with : Knowing → List ℕ → Option Message
message_with known bytes = if is_one_item bytes then without_rest (message_at known bytes) else None

-- the message between nodes that the bytes spell
unfoldable pub message_of : List ℕ → Option Message
message_of bytes = message_with known_of bytes

-- the message between a node and a local client that the bytes spell
unfoldable pub client_message_of : List ℕ → Option Message
client_message_of bytes = message_with client_known_of bytes
