use Rattle.std.proofs.Common.{rules, map, decimal, [], ◌∷◌}
use Rattle.std.specs.Prelude.{codes}
use Rattle.trace_text.specs.Addresses.{printed_address}
use Rattle.trace_text.proofs.SpacedWords.{join-spaced}
use Rattle.trace_text.proofs.event_text.roots_text.Goals as goal

pub returns-in-Found : goal.returns-in-Found
returns-in-Found c =
    let e = join-spaced (codes "roots") (decimal c.args.job.0 ∷ codes "ok" ∷ decimal c.in-Found.ttl ∷ map printed_address c.in-Found.addresses) in
    search (rules, e)

pub returns-in-Failed : goal.returns-in-Failed
returns-in-Failed c =
    let e = join-spaced (codes "roots") (decimal c.args.job.0 ∷ codes "failed" ∷ []) in
    search (rules, e)
