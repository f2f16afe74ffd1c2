-- What follows of what a run of a node comes to.
use Rattle.std.specs.Prelude.{◌≡◌, ◌⊎◌}
use Rattle.node_run.specs.Asked.{Asked}
use Rattle.node_run.specs.Node.{NodeTold, IsNodeRun, IsDueOf, IsNodeAnswered, HasNodeCause, HasFailedFile, RoseOut, RoseWorld}
use Rattle.tool_status.specs.declared.status.Status.{Status}
use Rattle.tool_status.specs.declared.status.Status.TheVariants.{OutOfMemory}
use Rattle.tool_status.specs.declared.status.Which.TheVariants.{Conf, Topo}

-- where the files are told, the status is the one that is due, but for want of memory and for faults
abbrev pub AnswersAsDue : Type 0
AnswersAsDue = (asked : Asked) (before after : NodeTold) (status due : Status) → IsNodeRun asked before after status → IsDueOf asked before due → IsNodeAnswered asked before after due status

-- and where nothing failed, it is that one, or memory was wanting
abbrev pub AnswersWhole : Type 0
AnswersWhole = (asked : Asked) (before after : NodeTold) (status due : Status) → IsNodeRun asked before after status → IsDueOf asked before due →
    ¬ HasFailedFile asked before after Conf → ¬ HasFailedFile asked before after Topo → ¬ RoseOut before after → ¬ RoseWorld before after →
    (status ≡ due) ⊎ (status ≡ OutOfMemory)

-- no fault comes without its cause, and no other status
abbrev pub HasCauses : Type 0
HasCauses = (asked : Asked) (before after : NodeTold) (status : Status) → IsNodeRun asked before after status → HasNodeCause asked before after status
