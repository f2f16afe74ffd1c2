-- Parts of a document that are read one after the other.
use Rattle.std.proofs.Common.{◌≡◌, Result, Ok, Err, refl, sym, ap, ◌∙◌, subst}
use Rattle.net_base.specs.declared.settings.Field.{Field}
use Rattle.node_settings.specs.declared.topology_refusal.TopologyRefusal.{TopologyRefusal}
use Rattle.node_settings.specs.declared.topology_refusal.TopologyRefusal.TheVariants.{BadJson, BadSetting, OutOfMemory}
use Rattle.node_settings.specs.Reading.{◌>>=◌}
use Rattle.node_settings.specs.Topology.{IsPartOr}

-- what a part was refused for, the whole is
pub refused_first : {A B : Type 0} (first : Result A Field) (behind : A → Result B Field) (refusal : TopologyRefusal) → IsPartOr first (Err refusal) → IsPartOr (first >>= behind) (Err refusal)
refused_first first behind BadJson is = is
refused_first first behind (BadSetting field) is = rw is refl
refused_first first behind OutOfMemory is = tt

-- the same of a part that a refusal is told of by its field
pub wrong_first : {A B : Type 0} (first : Result A Field) (behind : A → Result B Field) (field : Field) → first ≡ Err field → (first >>= behind) ≡ Err field
wrong_first first behind field is = rw is refl

pub read_first : {A B : Type 0} (first : Result A Field) (behind : A → Result B Field) (value : A) → first ≡ Ok value → (first >>= behind) ≡ behind value
read_first first behind value is = rw is refl
