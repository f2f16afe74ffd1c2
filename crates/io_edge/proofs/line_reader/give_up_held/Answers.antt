use Rattle.std.proofs.Common.{◌≡◌, ◌-◌, length, take, refl, arith}
use Rattle.std.specs.List.{copy_within}
use Rattle.io_edge.proofs.FrontLemmas.{given_up}
use Rattle.io_edge.proofs.line_reader.give_up_held.Goals as goal

pub returns-clause-rest : goal.returns-clause-rest
returns-clause-rest c =
    let held = c.args.held.now.items in
    let first = c.min-first.result in
    let size : c.len-3.result ≡ length held = omega (arith, c.copy_within.ensures.len) in
    let end : c.len-2.result ≡ length held = omega (arith, c.len-2.ensures) in
    let kept : c.truncate.new.self.items ≡ take (length held - first) (copy_within held first (length held) 0) = rw (c.truncate.ensures.items, c.copy_within.ensures.items, size, end) refl in
    rw (kept, c.consume.ensures.rest)
    (given_up held c.args.window.now c.args.count first (λ less. omega (arith, less)) (λ more. omega (arith, more)) (omega arith))
