use Rattle.std.proofs.Common.{List, ℕ, ◌++◌, ap, sym, ◌∙◌, arith}
use Rattle.std.proofs.lemmas.Fmt.{decimal_digit}
use Rattle.trace_text.proofs.pushing.push_number.Goals as goal

pub returns-then-number-lt10-clause-ok : goal.returns-then-number-lt10-clause-ok
returns-then-number-lt10-clause-ok c =
    c.in_ok-push.ensures.items
    ∙ ap (λ (digits : List ℕ). c.args.bytes.now.items ++ digits) (sym (decimal_digit c.args.number (omega (arith, c.if-number-lt10.true))))
