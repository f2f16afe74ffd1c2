use Rattle.std.proofs.Common.{rules, map}
use Rattle.std.specs.Prelude.{codes}
use Rattle.std.specs.List.{flat_map}
use Rattle.trace_text.specs.Addresses.{printed_address}
use Rattle.trace_text.specs.EventTexts.{group_words}
use Rattle.trace_text.proofs.SpacedWords.{join-spaced}
use Rattle.trace_text.proofs.event_text.event_text.Goals as goal

pub returns-in-Locals : goal.returns-in-Locals
returns-in-Locals c =
    let e = join-spaced (codes "locals") (flat_map group_words c.in-Locals.groups) in
    search (rules, e)

pub returns-in-Bigs : goal.returns-in-Bigs
returns-in-Bigs c =
    let e = join-spaced (codes "bigs") (map printed_address c.in-Bigs.addresses) in
    search (rules, e)
