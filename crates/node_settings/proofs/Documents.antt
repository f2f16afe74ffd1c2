-- The document that bytes are, or none.
use Rattle.std.proofs.Common.{◌≡◌, ℕ, Bool, true, false, List, Option, Some, None, Result, Ok, Err, refl, sym, ap, ◌∙◌}
use Rattle.std.specs.Str.{is_utf8, IsUtf8}
use Rattle.std.proofs.lemmas.Str.{IsUtf8-from_is_utf8, is_utf8-from_IsUtf8}
use Rattle.toml.specs.Data.{Members}
use Rattle.toml.specs.Parse.{parse_document}
use Rattle.serde_json.specs.Data.{Data}
use Rattle.serde_json.specs.Read.{read}
use Rattle.node_settings.specs.declared.config.Config.{Config}
use Rattle.node_settings.specs.declared.config_refusal.ConfigRefusal.{ConfigRefusal}
use Rattle.node_settings.specs.declared.config_refusal.ConfigRefusal.TheVariants.{BadToml, BadSetting as BadField, OutOfMemory as NoRoom}
use Rattle.node_settings.specs.declared.topology.Topology.{Topology}
use Rattle.node_settings.specs.declared.topology_refusal.TopologyRefusal.{TopologyRefusal}
use Rattle.node_settings.specs.declared.topology_refusal.TopologyRefusal.TheVariants.{BadJson, BadSetting, OutOfMemory}
use Rattle.node_settings.specs.Config.{config_of, config_of_table, IsConfigOr}
use Rattle.node_settings.specs.Topology.{topology_of, topology_of_document, IsTopologyOr}

-- ---- settings

pub config_of-table : (bytes : List ℕ) (table : Members) → IsUtf8 bytes → parse_document bytes ≡ Some table → config_of bytes ≡ config_of_table (Some table)
config_of-table bytes table text is = rw (is_utf8-from_IsUtf8 bytes text, is) refl

config_of-text : (bytes : List ℕ) (utf8 : Bool) → is_utf8 bytes ≡ utf8 → (IsUtf8 bytes → parse_document bytes ≡ None) → config_of bytes ≡ Err BadToml
config_of-text bytes true e none = rw (e, none (IsUtf8-from_is_utf8 bytes e)) refl
config_of-text bytes false e none = rw e refl

pub config_of-none : (bytes : List ℕ) → (IsUtf8 bytes → parse_document bytes ≡ None) → config_of bytes ≡ Err BadToml
config_of-none bytes none = config_of-text bytes (is_utf8 bytes) refl none

pub same_config : (wanted answer : Result Config ConfigRefusal) → wanted ≡ answer → IsConfigOr wanted answer
same_config wanted (Ok config) e = e
same_config wanted (Err BadToml) e = e
same_config wanted (Err (BadField field)) e = e
same_config wanted (Err NoRoom) e = tt

-- ---- topologies

pub topology_of-document : (bytes : List ℕ) (document : Data) → IsUtf8 bytes → read bytes ≡ Some document → topology_of bytes ≡ topology_of_document (Some document)
topology_of-document bytes document text is = rw (is_utf8-from_IsUtf8 bytes text, is) refl

topology_of-text : (bytes : List ℕ) (utf8 : Bool) → is_utf8 bytes ≡ utf8 → (IsUtf8 bytes → read bytes ≡ None) → topology_of bytes ≡ Err BadJson
topology_of-text bytes true e none = rw (e, none (IsUtf8-from_is_utf8 bytes e)) refl
topology_of-text bytes false e none = rw e refl

pub topology_of-none : (bytes : List ℕ) → (IsUtf8 bytes → read bytes ≡ None) → topology_of bytes ≡ Err BadJson
topology_of-none bytes none = topology_of-text bytes (is_utf8 bytes) refl none
