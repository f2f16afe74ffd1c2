use Rattle.std.proofs.Common.{List, ℕ, subst}
use Rattle.std.specs.Fmt.{WritesOnOk}
use Rattle.trace_text.proofs.Ips.{ipv4_printed}
use Rattle.trace_text.proofs.text.OctetsDisplay.fmt.Goals as goal

pub returns-clause-writes : goal.returns-clause-writes
returns-clause-writes g c =
    subst (λ (text : List ℕ). WritesOnOk g.W.Write.write_str_gives c.args.f.now c.write.result text c.write.new.self)
    (ipv4_printed c.from_bits-ip.result c.args.self.now.0 c.from_bits-ip.ensures) c.write.ensures.writes
