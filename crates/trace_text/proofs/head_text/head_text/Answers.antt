use Rattle.std.proofs.Common.{rules}
use Rattle.trace_text.proofs.SpacedWords.{head_text-is}
use Rattle.trace_text.proofs.head_text.head_text.Goals as goal

pub returns : goal.returns
returns c =
    let e = head_text-is c.args.version c.args.own c.args.texts.now in
    search (rules, e)
