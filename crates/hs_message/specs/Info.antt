-- What stands beside a version.
use Rattle.std.specs.Prelude.{◌≡◌, ℕ, ◌^◌, ◌<◌, Bool, true, false, ◌||◌, ◌==◌, List, IsTrue, ◌⊎◌, if◌then◌else◌}
use Rattle.cbor_items.specs.Item.{IsPair, IsItem, level_limit}
use Rattle.hs_message.specs.declared.info.VersionInfo.{VersionInfo}
use Rattle.hs_message.specs.declared.info.Info.{Info}
use Rattle.hs_message.specs.declared.info.Info.TheVariants.{Known, Foreign}
use Rattle.hs_message.specs.declared.profile.Profile.{Profile}
use Rattle.hs_message.specs.declared.profile.Profile.TheVariants.{NodeToNode, NodeToClient}
use Rattle.cbor_items.specs.Definite.{IsNumber}
use Rattle.hs_message.specs.Parts.{IsFlag, IsDefiniteArray}

-- Which known infos an item beside a version may be is an argument, `Understood`: it is apart from the rest of the
-- handshake. Every info is one item, and is known where it is so understood, else foreign.
abbrev pub IsUnderstoodAs : (ℕ → VersionInfo → List ℕ → Type 0) → ℕ → Info → List ℕ → Type 0
IsUnderstoodAs Understood version (Known known) item = Understood version known item
IsUnderstoodAs Understood version Foreign item = (known : VersionInfo) → Understood version known item → ⊥

abbrev pub IsInfo : (ℕ → VersionInfo → List ℕ → Type 0) → ℕ → Info → List ℕ → Type 0
IsInfo Understood version info item = IsItem level_limit item × IsUnderstoodAs Understood version info item

-- ---- between nodes

-- the versions that a node understands
abbrev pub is_node_version : ℕ → Bool
is_node_version version = version == 13 || version == 14

-- peer sharing is a number or a simple value
abbrev pub IsSharing : Bool → List ℕ → Type 0
IsSharing sharing bytes = IsNumber (if sharing then 1 else 0) bytes ⊎ IsFlag sharing bytes

-- an array of four: the magic, initiator only, peer sharing, query
pub record IsVersionInfo (info : VersionInfo) (bytes : List ℕ) : Type 0 where
  pub magic_fits : info.magic < 2 ^ 32
  pub is_array : IsDefiniteArray 4 (IsPair (IsNumber info.magic) (IsPair (IsFlag info.initiator_only) (IsPair (IsSharing info.sharing) (IsFlag info.query)))) bytes

-- what a node understands
abbrev pub IsNodeInfo : ℕ → VersionInfo → List ℕ → Type 0
IsNodeInfo version info item = IsTrue (is_node_version version) × IsVersionInfo info item

-- ---- between a node and its local clients

-- the versions of local clients: bit 15 is set
abbrev pub is_client_version : ℕ → Bool
is_client_version version = version == 32784 || version == 32785

-- an array of two: the magic, query. Who dials so runs no responder and shares no peers
pub record IsClientVersionInfo (info : VersionInfo) (bytes : List ℕ) : Type 0 where
  pub magic_fits : info.magic < 2 ^ 32
  pub is_array : IsDefiniteArray 2 (IsPair (IsNumber info.magic) (IsFlag info.query)) bytes
  pub initiates : info.initiator_only ≡ true
  pub unshared : info.sharing ≡ false

-- what a node understands of a local client, and a local client of a node
abbrev pub IsClientInfo : ℕ → VersionInfo → List ℕ → Type 0
IsClientInfo version info item = IsTrue (is_client_version version) × IsClientVersionInfo info item

-- ---- in either handshake

abbrev pub understood_in : Profile → ℕ → VersionInfo → List ℕ → Type 0
understood_in NodeToNode = IsNodeInfo
understood_in NodeToClient = IsClientInfo
