use Rattle.std.proofs.Common.{Global, map, string_bytes, arith}
use Rattle.std.proofs.lemmas.List.{length-map}
use Rattle.command_run.proofs.WordCounts.{two_are_none, five_are_none}
use Rattle.command_run.proofs.command.Command.of_words.Goals as goal

pub returns-in_default-2-clause-command : goal.returns-in_default-2-clause-command
returns-in_default-2-clause-command c =
    let same = length-map c.args.words.now (string_bytes {Z = Global}) in
    two_are_none (map (string_bytes {Z = Global}) c.args.words.now) (omega (arith, same, c.in_default.len_at_least)) (omega (arith, same, c.in_default.len_below))

pub returns-in_default-5-clause-command : goal.returns-in_default-5-clause-command
returns-in_default-5-clause-command c =
    let same = length-map c.args.words.now (string_bytes {Z = Global}) in
    five_are_none (map (string_bytes {Z = Global}) c.args.words.now) (omega (arith, same, c.in_default.len_at_least))
