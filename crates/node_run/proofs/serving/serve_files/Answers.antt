use Rattle.tool_status.proofs.TellingLemmas.{told_both}
use Rattle.node_run.proofs.serving.serve_files.Goals as goal

pub returns-clause-said : goal.returns-clause-said
returns-clause-said g c =
    told_both _ _ _ _ _ _ _ _ c.tell_unresolved-unresolved.result c.tell_behind.result c.tell_unresolved-unresolved.ensures c.tell_behind.ensures.whole c.tell_behind.ensures.cut_taken
    c.tell_behind.ensures.cut_faults
