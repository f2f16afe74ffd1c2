-- Which command the words of a command line are, and which statuses it may have.
use Rattle.std.specs.Prelude.{◌≡◌, ℕ, ◌≤◌, nat_le, ◌&&◌, ◌⊎◌, List, [], ◌∷◌, codes, bytes_eq, if◌then◌else◌, Option, Some, None}
use Rattle.io_edge.specs.Causes.{Rose}
use Rattle.local_clients.specs.Rules.{AreInRange}
use Rattle.net_base.specs.Bounds.{within, is_interval}
use Rattle.net_base.specs.Number.{number_up_to}
use Rattle.command_run.specs.declared.command.Command.{Command}
use Rattle.command_run.specs.declared.command.Command.TheVariants.{Replay, Check, Pair, Clients, Drill}
use Rattle.tool_status.specs.Streams.{StreamsTold}
use Rattle.tool_status.specs.declared.status.Status.{Status}
use Rattle.tool_status.specs.declared.status.Status.TheVariants.{Done, Differ, Usage, Refused, ReadFault, WriteFault, OutOfMemory, WorldFault, FileFault, TooLong, BadSettings, FileTooLarge}

abbrev pub command_named : List ℕ → Option Command
command_named word =
    if bytes_eq word (codes "replay") then Some Replay
    else if bytes_eq word (codes "check") then Some Check
    else if bytes_eq word (codes "pair") then Some Pair
    else None

-- a drill's seed and number of events, where they are numbers and there is an event
abbrev pub drill_of : Option ℕ → Option ℕ → Option Command
drill_of (Some seed) (Some count) = if nat_le 1 count && nat_le count 1000000 then Some (Drill seed count) else None
drill_of (Some seed) None = None
drill_of None count = None

-- what a node keeps to with its clients, where these are numbers in their ranges
abbrev pub clients_of : Option ℕ → Option ℕ → Option ℕ → Option Command
clients_of (Some magic) (Some limit) (Some wait) =
    if within 1 10000 limit && is_interval wait then Some (Clients (record { magic = magic; limit = limit; wait = wait })) else None
clients_of (Some magic) (Some limit) None = None
clients_of (Some magic) None wait = None
clients_of None limit wait = None

-- The command that the words are: one word, `drill` and two numbers, or `clients` and three, each in decimal without a sign
-- and without leading zeros. A seed has 64 bits, and a magic 32.
abbrev pub command_of : List (List ℕ) → Option Command
command_of [] = None
command_of (word ∷ []) = command_named word
command_of (word ∷ seed ∷ []) = None
command_of (word ∷ seed ∷ count ∷ []) =
    if bytes_eq word (codes "drill") then drill_of (number_up_to 18446744073709551615 seed) (number_up_to 1000000 count) else None
command_of (word ∷ magic ∷ limit ∷ wait ∷ []) =
    if bytes_eq word (codes "clients") then clients_of (number_up_to 4294967295 magic) (number_up_to 10000 limit) (number_up_to 86400000 wait) else None
command_of (word ∷ magic ∷ limit ∷ wait ∷ next ∷ words) = None

-- a drill has no more events than a machine may take, and what is kept to with clients is in its ranges
abbrev pub IsInRange : Command → Type 0
IsInRange Replay = Unit {0}
IsInRange Check = Unit {0}
IsInRange Pair = Unit {0}
IsInRange (Clients rules) = AreInRange rules
IsInRange (Drill seed count) = count ≤ 1000000

abbrev pub IsReplayStatus : Status → Type 0
IsReplayStatus Done = Unit {0}
IsReplayStatus (Differ line) = ⊥
IsReplayStatus Usage = ⊥
IsReplayStatus (Refused line kind) = Unit {0}
IsReplayStatus ReadFault = Unit {0}
IsReplayStatus WriteFault = Unit {0}
IsReplayStatus OutOfMemory = Unit {0}
IsReplayStatus WorldFault = ⊥
IsReplayStatus (FileFault which) = ⊥
IsReplayStatus (TooLong line) = Unit {0}
IsReplayStatus (BadSettings what) = ⊥
IsReplayStatus (FileTooLarge which size) = ⊥

-- a check may also show a line that differs
abbrev pub IsCheckStatus : Status → Type 0
IsCheckStatus (Differ line) = Unit {0}
IsCheckStatus status = IsReplayStatus status

abbrev pub IsDrillStatus : Status → Type 0
IsDrillStatus Done = Unit {0}
IsDrillStatus WriteFault = Unit {0}
IsDrillStatus OutOfMemory = Unit {0}
IsDrillStatus other = ⊥

-- the statuses that a command may have, and that of words which are none
abbrev pub IsStatusOf : Option Command → Status → Type 0
IsStatusOf None status = status ≡ Usage
IsStatusOf (Some Replay) status = IsReplayStatus status
IsStatusOf (Some Check) status = IsCheckStatus status
IsStatusOf (Some Pair) status = IsReplayStatus status
IsStatusOf (Some (Clients rules)) status = IsReplayStatus status
IsStatusOf (Some (Drill seed count)) status = IsDrillStatus status

-- ---- causes

-- a reading failed, or a put
abbrev pub RoseSource : StreamsTold → StreamsTold → Type 0
RoseSource before after = Rose before.src.faults after.src.faults

abbrev pub RoseSink : StreamsTold → StreamsTold → Type 0
RoseSink before after = Rose before.out.faults after.out.faults

-- The status is the one that is due. Only want of memory may come in its place, and a fault whose cause is there.
abbrev pub IsAnswered : Status → Type 0 → Type 0 → Status → Type 0
IsAnswered due read_cause write_cause status =
    (status ≡ due) ⊎ ((status ≡ OutOfMemory) ⊎ (((status ≡ ReadFault) × read_cause) ⊎ ((status ≡ WriteFault) × write_cause)))
