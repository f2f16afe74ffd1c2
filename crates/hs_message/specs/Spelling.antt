-- Which bytes spell which message of the handshake. The messages follow the Ouroboros network specification in
-- outline; the spelling is this project's own. The infos beside versions are an argument, `Infos`: which info an item
-- beside a version is.
use Rattle.std.specs.Prelude.{ℕ, Bool, true, ◌&&◌, nat_lt, List, [], ◌∷◌, length, IsTrue, ◌⊎◌}
use Rattle.cbor_items.specs.Definite.{IsNumber}
use Rattle.cbor_items.specs.Item.{IsPair, AreInTurn, IsItem, level_limit}
use Rattle.hs_message.specs.declared.info.VersionInfo.{VersionInfo}
use Rattle.hs_message.specs.declared.info.Info.{Info}
use Rattle.hs_message.specs.declared.offer.Offer.{Offer}
use Rattle.hs_message.specs.declared.message.Message.{Message}
use Rattle.hs_message.specs.declared.message.Message.TheVariants.{Propose, Accept, Refuse, QueryReply}
use Rattle.hs_message.specs.declared.message.Reason.{Reason}
use Rattle.hs_message.specs.declared.message.Reason.TheVariants.{NoCommon, NotDecoded, Declined}
use Rattle.hs_message.specs.Parts.{IsText, IsDefiniteArray, IsOpenArray, IsMap}
use Rattle.hs_message.specs.Info.{IsInfo, IsNodeInfo, IsClientInfo}

-- ---- tables

-- the version of an offer is below that of the next
abbrev pub is_below_next : Offer → List Offer → Bool
is_below_next offer [] = true
is_below_next offer (next ∷ rest) = nat_lt offer.version next.version

-- the versions rise strictly
abbrev pub rises : List Offer → Bool
rises [] = true
rises (offer ∷ rest) = is_below_next offer rest && rises rest

abbrev pub IsOffer : (ℕ → Info → List ℕ → Type 0) → Offer → List ℕ → Type 0
IsOffer Infos offer bytes = IsPair (IsNumber offer.version) (Infos offer.version offer.info) bytes

-- a map from versions to infos
pub record IsTable (Infos : ℕ → Info → List ℕ → Type 0) (table : List Offer) (bytes : List ℕ) : Type 0 where
  pub rising : IsTrue (rises table)
  pub is_map : IsMap (length table) (AreInTurn (IsOffer Infos) table) bytes

-- ---- reasons

-- the list of versions may be a definite or an indefinite array
abbrev pub IsVersionList : List ℕ → List ℕ → Type 0
IsVersionList versions bytes = IsDefiniteArray (length versions) (AreInTurn IsNumber versions) bytes ⊎ IsOpenArray (AreInTurn IsNumber versions) bytes

abbrev pub IsReason : Reason → List ℕ → Type 0
IsReason (NoCommon versions) bytes = IsDefiniteArray 2 (IsPair (IsNumber 0) (IsVersionList versions)) bytes
IsReason (NotDecoded version text) bytes = IsDefiniteArray 3 (IsPair (IsNumber 1) (IsPair (IsNumber version) (IsText text))) bytes
IsReason (Declined version text) bytes = IsDefiniteArray 3 (IsPair (IsNumber 2) (IsPair (IsNumber version) (IsText text))) bytes

-- ---- messages

abbrev pub IsMessage : (ℕ → Info → List ℕ → Type 0) → Message → List ℕ → Type 0
IsMessage Infos (Propose table) bytes = IsDefiniteArray 2 (IsPair (IsNumber 0) (IsTable Infos table)) bytes
IsMessage Infos (Accept version info) bytes = IsDefiniteArray 3 (IsPair (IsNumber 1) (IsPair (IsNumber version) (Infos version info))) bytes
IsMessage Infos (Refuse reason) bytes = IsDefiniteArray 2 (IsPair (IsNumber 2) (IsReason reason)) bytes
IsMessage Infos (QueryReply table) bytes = IsDefiniteArray 2 (IsPair (IsNumber 3) (IsTable Infos table)) bytes

-- The bytes spell the message: they are one item within the limit of levels, and this message. `Understood` says which
-- known infos an item beside a version may be.
pub record Spells (Understood : ℕ → VersionInfo → List ℕ → Type 0) (message : Message) (bytes : List ℕ) : Type 0 where
  pub is_item : IsItem level_limit bytes
  pub is_message : IsMessage (IsInfo Understood) message bytes

-- the bytes spell the message between nodes
abbrev pub NodeSpells : Message → List ℕ → Type 0
NodeSpells message bytes = Spells IsNodeInfo message bytes

-- the bytes spell the message between a node and a local client
abbrev pub ClientSpells : Message → List ℕ → Type 0
ClientSpells message bytes = Spells IsClientInfo message bytes
