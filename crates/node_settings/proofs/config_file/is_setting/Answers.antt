use Rattle.std.proofs.Common.{rules}
use Rattle.node_settings.specs.Config.{is_setting}
use Rattle.node_settings.proofs.config_file.is_setting.Goals as goal

pub returns : goal.returns
unfolding is_setting
returns c = search rules
