use Rattle.std.proofs.Common.{Some, sym, ap, ◌∙◌}
use Rattle.std.specs.Net.Addr.{ipv4_bits}
use Rattle.trace_text.proofs.Octets.{octets_of-dotted, octets_of-none}
use Rattle.node_settings.proofs.host.read_ipv4.Goals as goal

pub returns-in-Ok : goal.returns-in-Ok
unfolding ipv4_bits
returns-in-Ok c = ap Some c.to_bits.ensures ∙ sym (octets_of-dotted c.args.text.now c.in-Ok.ip.octets c.in-Ok.ensures)

pub returns-in-Err : goal.returns-in-Err
returns-in-Err c = sym (octets_of-none c.args.text.now (λ octets h. c.in-Err.ensures (record { octets = octets }) h))
