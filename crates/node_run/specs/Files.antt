-- What the two files of a node come to, read and judged.
use Rattle.std.specs.Prelude.{◌≡◌, ℕ, ◌<◌, ◌≤◌, ◌⊎◌, List, length, All, Option, Some, None, Result, Ok, Err, IsOk}
use Rattle.io_edge.specs.Files.{IsReading, with_reading}
use Rattle.io_edge.specs.declared.reading.Reading.{Reading}
use Rattle.io_edge.specs.declared.shelf_refusal.ShelfRefusal.{ShelfRefusal}
use Rattle.io_edge.specs.declared.shelf_refusal.ShelfRefusal.TheVariants.{Failed, TooLarge, OutOfMemory as NoMemory}
use Rattle.net_base.specs.Bounds.{AreSound, targets_fault}
use Rattle.net_base.specs.Limits.{HasValencies}
use Rattle.node_settings.specs.declared.config.Config.{Config}
use Rattle.node_settings.specs.declared.config_refusal.ConfigRefusal.{ConfigRefusal}
use Rattle.node_settings.specs.declared.config_refusal.ConfigRefusal.TheVariants as config
use Rattle.node_settings.specs.declared.topology.Topology.{Topology}
use Rattle.node_settings.specs.declared.topology_refusal.TopologyRefusal.{TopologyRefusal}
use Rattle.node_settings.specs.declared.topology_refusal.TopologyRefusal.TheVariants as topology
use Rattle.node_settings.specs.Config.{config_of}
use Rattle.node_settings.specs.Topology.{topology_of}
use Rattle.node_run.specs.Asked.{Asked}
use Rattle.tool_status.specs.declared.status.Status.{Status}
use Rattle.tool_status.specs.declared.status.Status.TheVariants.{Done, Usage, OutOfMemory, FileFault, BadSettings, FileTooLarge}
use Rattle.tool_status.specs.declared.status.What.{What}
use Rattle.tool_status.specs.declared.status.What.TheVariants.{Toml, Json, Named}
use Rattle.tool_status.specs.declared.status.Which.{Which}
use Rattle.tool_status.specs.declared.status.Which.TheVariants.{Conf, Topo}

-- how many bytes a file may have
abbrev pub file_limit : ℕ
file_limit = 1048576

-- ---- what is refused of the bytes of a file

-- No bytes say that memory was wanting; that case is none of a file's.
abbrev pub what_of_config : ConfigRefusal → What
what_of_config config.BadToml = Toml
what_of_config (config.BadSetting field) = Named field
what_of_config config.OutOfMemory = Toml

abbrev pub what_of_topology : TopologyRefusal → What
what_of_topology topology.BadJson = Json
what_of_topology (topology.BadSetting field) = Named field
what_of_topology topology.OutOfMemory = Json

abbrev pub judged_by : {T E : Type 0} → (E → What) → Result T E → Result T What
judged_by what (Ok value) = Ok value
judged_by what (Err refusal) = Err (what refusal)

-- what the bytes of a settings file give, or what of them is refused
abbrev pub config_judged : List ℕ → Result Config What
config_judged bytes = judged_by what_of_config (config_of bytes)

abbrev pub topology_judged : List ℕ → Result Topology What
topology_judged bytes = judged_by what_of_topology (topology_of bytes)

-- what is told of it: want of memory exactly where that is why nothing was read of them
abbrev pub status_of_config : ConfigRefusal → Status
status_of_config config.BadToml = BadSettings Toml
status_of_config (config.BadSetting field) = BadSettings (Named field)
status_of_config config.OutOfMemory = OutOfMemory

abbrev pub status_of_topology : TopologyRefusal → Status
status_of_topology topology.BadJson = BadSettings Json
status_of_topology (topology.BadSetting field) = BadSettings (Named field)
status_of_topology topology.OutOfMemory = OutOfMemory

-- ---- what is read

-- what is told of a file that was not read
abbrev pub status_unread : Which → ShelfRefusal → Status
status_unread which Failed = FileFault which
status_unread which (TooLarge size) = FileTooLarge which size
status_unread which NoMemory = OutOfMemory

-- what judging bytes answers, unless memory was wanting
abbrev pub IsVerdict : {T : Type 0} → Result T What → Result T Status → Type 0
IsVerdict judged (Ok value) = judged ≡ Ok value
IsVerdict judged (Err (BadSettings what)) = judged ≡ Err what
IsVerdict judged (Err OutOfMemory) = Unit {0}
IsVerdict judged (Err status) = ⊥

-- what a file comes to, by the answer to its reading
abbrev pub IsJudged : {T : Type 0} → Which → (List ℕ → Result T What) → Result (List ℕ) ShelfRefusal → Result T Status → Type 0
IsJudged which judge (Ok bytes) result = IsVerdict (judge bytes) result
IsJudged which judge (Err refusal) result = result ≡ Err (status_unread which refusal)

-- One reading was made, of the file of this name, and it was judged. Its bytes are those of the file, where they are told.
pub record IsFileRead {T : Type 0} (which : Which) (judge : List ℕ → Result T What) (told : Option (List ℕ)) (name : List ℕ) (before after : List Reading)
    (result : Result T Status) : Type 0 where
  pub answer : Result (List ℕ) ShelfRefusal
  pub made : after ≡ with_reading before name file_limit answer
  pub read : IsReading told file_limit answer
  pub judged : IsJudged which judge answer result

-- what a shelf tells of its files by their names, and the readings that were made
pub record ShelfTold : Type 0 where
  pub file : List ℕ → Option (List ℕ)
  pub readings : List Reading

abbrev pub shelf_told : (List ℕ → Option (List ℕ)) → List Reading → ShelfTold
shelf_told file readings = record { file = file; readings = readings }

abbrev pub IsConfRead : Asked → ShelfTold → List Reading → List Reading → Result Config Status → Type 0
IsConfRead asked shelf before after result = IsFileRead Conf config_judged (shelf.file asked.conf) asked.conf before after result

abbrev pub IsTopoRead : Asked → ShelfTold → List Reading → List Reading → Result Topology Status → Type 0
IsTopoRead asked shelf before after result = IsFileRead Topo topology_judged (shelf.file asked.topo) asked.topo before after result

-- The settings were read and are not accepted, and nothing else was read; or they are accepted, and then the topology was
-- read, once.
abbrev pub AreJudged : Asked → ShelfTold → List Reading → Result (Config × Topology) Status → Type 0
AreJudged asked shelf after (Ok both) =
    (between : List Reading) × IsConfRead asked shelf shelf.readings between (Ok both.0) × IsTopoRead asked shelf between after (Ok both.1)
AreJudged asked shelf after (Err status) =
    IsConfRead asked shelf shelf.readings after (Err status)
    ⊎ ((accepted : Config) × (between : List Reading) × IsConfRead asked shelf shelf.readings between (Ok accepted) × IsTopoRead asked shelf between after (Err status))

-- The last reading was of this file, and it failed. That of the topology was made behind one of the settings that gave
-- bytes.
abbrev pub HasFailed : Asked → List Reading → List Reading → Which → Type 0
HasFailed asked before after Conf = after ≡ with_reading before asked.conf file_limit (Err Failed)
HasFailed asked before after Topo = (bytes : List ℕ) × (after ≡ with_reading (with_reading before asked.conf file_limit (Ok bytes)) asked.topo file_limit (Err Failed))

-- ---- what is accepted

-- settings and targets that a node can run with, for traces of version 2
abbrev pub CanRun : Config → Type 0
CanRun config = AreSound config.settings × (config.settings.version ≡ 2) × (targets_fault config.targets ≡ None)

abbrev pub CanBeServed : (Config × Topology) → Type 0
CanBeServed both = CanRun both.0 × All HasValencies both.1.groups

-- the statuses of words that are none of a node, and of a file that is refused or not read
abbrev pub IsOfWordsOrFiles : Status → Type 0
IsOfWordsOrFiles Usage = Unit {0}
IsOfWordsOrFiles (FileFault which) = Unit {0}
IsOfWordsOrFiles (FileTooLarge which size) = Unit {0}
IsOfWordsOrFiles (BadSettings what) = Unit {0}
IsOfWordsOrFiles status = ⊥

-- ---- what is due

-- a file whose bytes are told, keep the limit and are judged right
abbrev pub IsAcceptedFile : {T : Type 0} → (List ℕ → Result T What) → Option (List ℕ) → Type 0
IsAcceptedFile judge None = ⊥
IsAcceptedFile judge (Some bytes) = (length bytes ≤ file_limit) × IsOk (judge bytes)

-- the status of a file whose bytes are told and too many, or refused
abbrev pub IsRefusedFile : {T : Type 0} → Which → (List ℕ → Result T What) → Option (List ℕ) → Status → Type 0
IsRefusedFile which judge None status = ⊥
IsRefusedFile which judge (Some bytes) (BadSettings what) = (length bytes ≤ file_limit) × (judge bytes ≡ Err what)
IsRefusedFile which judge (Some bytes) (FileTooLarge other size) = (other ≡ which) × (file_limit < length bytes) × (size ≡ length bytes)
IsRefusedFile which judge (Some bytes) status = ⊥

-- The status that is due where the files are told: that of the settings where they are refused, else that of the
-- topology, and Done where both are accepted.
abbrev pub IsDue : Option (List ℕ) → Option (List ℕ) → Status → Type 0
IsDue conf topo Done = IsAcceptedFile config_judged conf × IsAcceptedFile topology_judged topo
IsDue conf topo status =
    IsRefusedFile Conf config_judged conf status
    ⊎ (IsAcceptedFile config_judged conf × IsRefusedFile Topo topology_judged topo status)
