-- Laws on messages, whatever function reads or writes them.
use Rattle.std.specs.Prelude.{◌≡◌, ℕ, ◌^◌, ◌<◌, List, ◌++◌, length, Option, Some, ◌↔◌}
use Rattle.std.specs.List.{AllByRecursion}
use Rattle.cbor_items.specs.declared.scan.Scan.TheVariants.{Whole}
use Rattle.cbor_items.specs.Scan.{scan_of}
use Rattle.hs_message.specs.declared.info.Info.{Info}
use Rattle.hs_message.specs.declared.info.Info.TheVariants.{Known, Foreign}
use Rattle.hs_message.specs.declared.offer.Offer.{Offer}
use Rattle.hs_message.specs.declared.message.Message.{Message}
use Rattle.hs_message.specs.declared.message.Message.TheVariants.{Propose, Accept, Refuse, QueryReply}
use Rattle.hs_message.specs.declared.message.Reason.{Reason}
use Rattle.hs_message.specs.declared.message.Reason.TheVariants.{NoCommon, NotDecoded, Declined}
use Rattle.hs_message.specs.Spelling.{NodeSpells, ClientSpells}
use Rattle.hs_message.specs.Canonical.{CanWrite, node_spelling, CanWriteToClient, client_spelling}
use Rattle.hs_message.specs.Reading.{message_of, client_message_of}

-- Each law is of one handshake: which bytes spell which message in it (`Spelled`), which message is read off them
-- (`read`), how a message is written (`written`) and which can be (`Can`).

-- bytes spell at most one message
abbrev pub SpellOneIn : (Message → List ℕ → Type 0) → Type 0
SpellOneIn Spelled = (bytes : List ℕ) (one two : Message) → Spelled one bytes → Spelled two bytes → one ≡ two

-- the message that the bytes spell is the one that is read off them
abbrev pub AreReadOffIn : (Message → List ℕ → Type 0) → (List ℕ → Option Message) → Type 0
AreReadOffIn Spelled read = (bytes : List ℕ) (message : Message) → (read bytes ≡ Some message) ↔ Spelled message bytes

-- between nodes
abbrev pub SpellOne : Type 0
SpellOne = SpellOneIn NodeSpells

abbrev pub AreReadOff : Type 0
AreReadOff = AreReadOffIn NodeSpells message_of

-- between a node and a local client
abbrev pub ClientsSpellOne : Type 0
ClientsSpellOne = SpellOneIn ClientSpells

abbrev pub ClientsAreReadOff : Type 0
ClientsAreReadOff = AreReadOffIn ClientSpells client_message_of

-- ---- what is written is read again

-- Each number of the message is one of the program's numbers: 64 bits, and 32 for a magic.
abbrev pub FitsInfo : Info → Type 0
FitsInfo (Known known) = known.magic < 2 ^ 32
FitsInfo Foreign = Unit {0}

abbrev pub FitsTable : List Offer → Type 0
FitsTable table = (length table < 2 ^ 64) × AllByRecursion (λ offer. (offer.version < 2 ^ 64) × FitsInfo offer.info) table

abbrev pub FitsReason : Reason → Type 0
FitsReason (NoCommon versions) = (length versions < 2 ^ 64) × AllByRecursion (λ version. version < 2 ^ 64) versions
FitsReason (NotDecoded version text) = (version < 2 ^ 64) × (length text < 2 ^ 64)
FitsReason (Declined version text) = (version < 2 ^ 64) × (length text < 2 ^ 64)

abbrev pub Fits : Message → Type 0
Fits (Propose table) = FitsTable table
Fits (Accept version info) = (version < 2 ^ 64) × FitsInfo info
Fits (Refuse reason) = FitsReason reason
Fits (QueryReply table) = FitsTable table

-- What is written spells the message. In a stream it is the first item, whatever follows it.
abbrev pub AreReadAgainIn : (Message → List ℕ → Type 0) → (Message → List ℕ) → (Message → Type 0) → Type 0
AreReadAgainIn Spelled written Can = (message : Message) (rest : List ℕ) → Fits message → Can message
    → Spelled message (written message)
    × (scan_of (written message ++ rest) ≡ Whole (length (written message)))

abbrev pub AreReadAgain : Type 0
AreReadAgain = AreReadAgainIn NodeSpells node_spelling CanWrite

abbrev pub ClientsAreReadAgain : Type 0
ClientsAreReadAgain = AreReadAgainIn ClientSpells client_spelling CanWriteToClient
