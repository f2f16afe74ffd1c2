-- Statuses: their codes and their texts.
use Rattle.std.specs.Prelude.{ℕ, List, [], ◌++◌, codes, decimal}
use Rattle.net_base.specs.declared.refusal.RefusalKind.{RefusalKind}
use Rattle.net_base.specs.declared.refusal.RefusalKind.TheVariants.{Word, Number, Targets, Order, NoEnd}
use Rattle.net_base.specs.declared.settings.Field.{Field}
use Rattle.net_base.specs.declared.settings.Field.TheVariants.{Version, Own, Magic, InitiatorOnly, Sharing, Hard, Soft, Delay, Idle, Timewait, Handshake, Reply, Backoff, Sharegap, Shares, Root, Known, Established, Active, Rootttl, Tick, Seed, Announce, LocalRoots, AccessPoints, Address, Port, Advertise, HotValency, Valency, WarmValency, PublicRoots, Unknown}
use Rattle.tool_status.specs.declared.status.Status.{Status}
use Rattle.tool_status.specs.declared.status.Status.TheVariants.{Done, Differ, Usage, Refused, ReadFault, WriteFault, OutOfMemory, WorldFault, FileFault, TooLong, BadSettings, FileTooLarge}
use Rattle.tool_status.specs.declared.status.What.{What}
use Rattle.tool_status.specs.declared.status.What.TheVariants.{Toml, Json, Named}
use Rattle.tool_status.specs.declared.status.Which.{Which}
use Rattle.tool_status.specs.declared.status.Which.TheVariants.{Conf, Topo}

-- the exit status of the process
abbrev pub code_of : Status → ℕ
code_of Done = 0
code_of (Differ line) = 1
code_of Usage = 2
code_of (Refused line kind) = 3
code_of ReadFault = 4
code_of WriteFault = 5
code_of OutOfMemory = 6
code_of WorldFault = 7
code_of (FileFault which) = 8
code_of (TooLong line) = 9
code_of (BadSettings what) = 10
code_of (FileTooLarge which size) = 11

-- the names of settings, and of the members of the two files
abbrev pub field_name : Field → List ℕ
field_name Version = codes "version"
field_name Own = codes "own"
field_name Magic = codes "magic"
field_name InitiatorOnly = codes "initiatoronly"
field_name Sharing = codes "sharing"
field_name Hard = codes "hard"
field_name Soft = codes "soft"
field_name Delay = codes "delay"
field_name Idle = codes "idle"
field_name Timewait = codes "timewait"
field_name Handshake = codes "handshake"
field_name Reply = codes "reply"
field_name Backoff = codes "backoff"
field_name Sharegap = codes "sharegap"
field_name Shares = codes "shares"
field_name Root = codes "root"
field_name Known = codes "known"
field_name Established = codes "established"
field_name Active = codes "active"
field_name Rootttl = codes "rootttl"
field_name Tick = codes "tick"
field_name Seed = codes "seed"
field_name Announce = codes "announce"
field_name LocalRoots = codes "localRoots"
field_name AccessPoints = codes "accessPoints"
field_name Address = codes "address"
field_name Port = codes "port"
field_name Advertise = codes "advertise"
field_name HotValency = codes "hotValency"
field_name Valency = codes "valency"
field_name WarmValency = codes "warmValency"
field_name PublicRoots = codes "publicRoots"
field_name Unknown = codes "unknown"

abbrev pub what_name : What → List ℕ
what_name Toml = codes "toml"
what_name Json = codes "json"
what_name (Named field) = field_name field

abbrev pub which_name : Which → List ℕ
which_name Conf = codes "settings"
which_name Topo = codes "topology"

-- why a line is refused, with the place of the word
abbrev pub kind_text : RefusalKind → List ℕ
kind_text (Word place) = codes "word " ++ decimal place
kind_text (Number place) = codes "number " ++ decimal place
kind_text Targets = codes "targets"
kind_text Order = codes "order"
kind_text NoEnd = codes "no end"

-- the commands
abbrev pub usage_text : List ℕ
usage_text = codes "usage: replay | check | pair | clients MAGIC LIMIT WAIT | drill SEED COUNT | node CONF TOPO COUNT"

-- What is written to standard error, with its line feed. A command that is done, or that shows where a line differs,
-- says nothing.
abbrev pub status_text : Status → List ℕ
status_text Done = []
status_text (Differ line) = []
status_text Usage = usage_text ++ codes "\n"
status_text (Refused line kind) = codes "line " ++ (decimal line ++ (codes " refused: " ++ (kind_text kind ++ codes "\n")))
status_text ReadFault = codes "read fault\n"
status_text WriteFault = codes "write fault\n"
status_text OutOfMemory = codes "out of memory\n"
status_text WorldFault = codes "world fault\n"
status_text (FileFault which) = codes "file fault " ++ (which_name which ++ codes "\n")
status_text (TooLong line) = codes "too long: line " ++ (decimal line ++ codes "\n")
status_text (BadSettings what) = codes "settings refused: " ++ (what_name what ++ codes "\n")
status_text (FileTooLarge which size) = codes "file too large " ++ (which_name which ++ (codes " " ++ (decimal size ++ codes "\n")))

-- What a node writes there of its topology file, before it begins: how many access points have no address.
abbrev pub unresolved_text : ℕ → List ℕ
unresolved_text count = codes "unresolved " ++ (decimal count ++ codes "\n")
