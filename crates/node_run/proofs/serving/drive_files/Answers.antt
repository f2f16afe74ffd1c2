use Rattle.std.proofs.Common.{sym, ◌∙◌}
use Rattle.node_run.proofs.NodeRuns.{but_end, first_within}
use Rattle.trace_meaning.specs.declared.outcome.Outcome.TheVariants as outcomes
use Rattle.tool_status.proofs.ToldLemmas.{outcome_is}
use Rattle.node_run.proofs.serving.drive_files.Goals as goal

pub drive-requires-clause-within : goal.drive-requires-clause-within
drive-requires-clause-within g c = first_within c.args.config.now.targets c.args.topology.groups c.requires.can_run.2 c.requires.valencies

pub returns-clause-drives : goal.returns-clause-drives
returns-clause-drives g c = record {
  outcome = c.drive.result;
  told = c.of_outcome.ensures;
  opened = c.drive.ensures.open;
  opening = c.drive.ensures.opening;
  drives = c.drive.ensures.drives;
  but_end = λ world.
      but_end c.args.config.now.settings c.args.config.now.targets c.args.topology.groups c.args.count _ _ _ _ _ _ _ c.drive.result c.drive.ensures.drives world;
  lawful = c.runs_are_lawful.ensures c.args.config.now.settings _ c.requires.can_run.0;
  worlds = c.drive.ensures.worlds;
  writes = c.drive.ensures.writes;
}

pub returns-clause-agrees : goal.returns-clause-agrees
returns-clause-agrees g c = λ done. c.drive.ensures.agrees (outcome_is c.drive.result outcomes.Done (sym done ∙ c.of_outcome.ensures)) c.requires.can_run.1
