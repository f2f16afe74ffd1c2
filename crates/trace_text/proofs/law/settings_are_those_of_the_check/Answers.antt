use Rattle.trace_text.proofs.SettingLaws.{check_passes, check_within}
use Rattle.trace_text.proofs.law.settings_are_those_of_the_check.Goals as goal

pub returns-clause-passes : goal.returns-clause-passes
returns-clause-passes c = check_passes

pub returns-clause-within : goal.returns-clause-within
returns-clause-within c = check_within
