use Rattle.std.proofs.Common.{◌∙◌}
use Rattle.trace_text.proofs.InTurn.{in_turn}
use Rattle.trace_text.proofs.address.read_ipv4.Goals as goal

pub returns : goal.returns
returns c = c.read_in_turn.ensures ∙ in_turn c.args.word.now
