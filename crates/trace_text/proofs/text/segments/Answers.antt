use Rattle.std.proofs.Common.{◌∙◌}
use Rattle.trace_text.proofs.Ips.{ipv6_segments-bits}
use Rattle.trace_text.proofs.text.segments.Goals as goal

pub returns : goal.returns
returns c = c.segments.ensures ∙ ipv6_segments-bits c.from_bits.result c.args.ip c.from_bits.ensures
