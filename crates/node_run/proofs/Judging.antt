-- How a file is judged, from its reading and the judgement of its bytes.
use Rattle.std.proofs.Common.{◌≡◌, ℕ, List, Option, Result, Ok, Err, ap, subst}
use Rattle.io_edge.specs.Files.{IsReading, with_reading}
use Rattle.io_edge.specs.declared.reading.Reading.{Reading}
use Rattle.node_settings.specs.Config.{config_of, IsConfigOr}
use Rattle.node_settings.specs.Topology.{topology_of, IsTopologyOr}
use Rattle.node_settings.specs.declared.config_refusal.ConfigRefusal.{ConfigRefusal}
use Rattle.node_settings.specs.declared.config_refusal.ConfigRefusal.TheVariants as config
use Rattle.node_settings.specs.declared.topology_refusal.TopologyRefusal.{TopologyRefusal}
use Rattle.node_settings.specs.declared.topology_refusal.TopologyRefusal.TheVariants as topology
use Rattle.node_run.specs.Files.{file_limit, what_of_config, what_of_topology, judged_by, config_judged, topology_judged, status_of_config, status_of_topology, IsVerdict, IsFileRead}
use Rattle.tool_status.specs.declared.status.Status.{Status}
use Rattle.tool_status.specs.declared.status.What.{What}
use Rattle.tool_status.specs.declared.status.Which.{Which}

-- it was read, and its bytes judged
pub verdict_read : {T : Type 0} (which : Which) (judge : List ℕ → Result T What) (told : Option (List ℕ)) (name : List ℕ) (before after : List Reading) (bytes judged : List ℕ) (r : Result T Status) →
    after ≡ with_reading before name file_limit (Ok bytes) → IsReading told file_limit (Ok bytes) → judged ≡ bytes → IsVerdict (judge judged) r → IsFileRead which judge told name before after r
verdict_read which judge told name before after bytes judged r made reading same verdict = record {
  answer = Ok bytes;
  made = made;
  read = reading;
  judged = subst (λ (bs : List ℕ). IsVerdict (judge bs) r) same verdict;
}

-- what a shelf tells of a file is what it told before it read another
pub read_from : {T : Type 0} (which : Which) (judge : List ℕ → Result T What) (told0 told1 : Option (List ℕ)) (name : List ℕ) (before after : List Reading) (r : Result T Status) →
    told1 ≡ told0 → IsFileRead which judge told1 name before after r → IsFileRead which judge told0 name before after r
read_from which judge told0 told1 name before after r same read = subst (λ (told : Option (List ℕ)). IsFileRead which judge told name before after r) same read

-- bytes that are refused: what is told of them
pub config_verdict : (bytes : List ℕ) (refusal : ConfigRefusal) → IsConfigOr (config_of bytes) (Err refusal) → IsVerdict (config_judged bytes) (Err (status_of_config refusal))
config_verdict bytes config.BadToml is = ap (judged_by what_of_config) is
config_verdict bytes (config.BadSetting field) is = ap (judged_by what_of_config) is
config_verdict bytes config.OutOfMemory is = tt

pub topology_verdict : (bytes : List ℕ) (refusal : TopologyRefusal) → IsTopologyOr (topology_of bytes) (Err refusal) → IsVerdict (topology_judged bytes) (Err (status_of_topology refusal))
topology_verdict bytes topology.BadJson is = ap (judged_by what_of_topology) is
topology_verdict bytes (topology.BadSetting field) is = ap (judged_by what_of_topology) is
topology_verdict bytes topology.OutOfMemory is = tt
