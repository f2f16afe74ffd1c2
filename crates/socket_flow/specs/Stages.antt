-- What is heard of an announcement.
use Rattle.std.specs.Prelude.{ℕ, ◌-◌, List, ◌++◌, length, Option, Some, None}
use Rattle.socket_flow.specs.Announcement.{announced_size, hearing}
use Rattle.socket_flow.specs.declared.announcement.Heard.{Heard}
use Rattle.socket_flow.specs.declared.socket.Stage.{Stage}
use Rattle.socket_flow.specs.declared.socket.Stage.TheVariants.{Announcing}

-- bytes of an announcement come behind what was said of it
abbrev pub heard_by : Stage → List ℕ → Option Heard
heard_by (Announcing said) bytes = Some (hearing (said ++ bytes))
heard_by _ bytes = None

abbrev pub more_said : Stage → List ℕ → Stage
more_said (Announcing said) bytes = Announcing (said ++ bytes)
more_said stage bytes = stage

-- how many bytes of an announcement that begins so are still to come, as far as is known
abbrev pub still : Option ℕ → List ℕ → ℕ
still (Some size) said = size - length said
still None said = 0

abbrev pub unheard : Stage → ℕ
unheard (Announcing said) = still (announced_size said) said
unheard _ = 0
