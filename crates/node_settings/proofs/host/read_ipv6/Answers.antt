use Rattle.std.proofs.Common.{◌≡◌, false, Some, sym, ap, ◌∙◌, rules}
use Rattle.std.specs.Net.Addr.{ipv6_bits}
use Rattle.node_settings.specs.Host.{has_dot}
use Rattle.node_settings.proofs.Hosts.{ipv6_of-some, ipv6_of-none}
use Rattle.node_settings.proofs.host.read_ipv6.Goals as goal

pub returns-in-Ok : goal.returns-in-Ok
unfolding ipv6_bits
returns-in-Ok c =
    let plain : has_dot c.args.text.now ≡ false = search rules in
    ap Some c.to_bits.ensures ∙ sym (ipv6_of-some c.args.text.now c.in-Ok.ip.segments plain c.in-Ok.ensures)

pub returns-in-Err : goal.returns-in-Err
returns-in-Err c =
    let plain : has_dot c.args.text.now ≡ false = search rules in
    sym (ipv6_of-none c.args.text.now plain (λ segments h. c.in-Err.ensures (record { segments = segments }) h))
