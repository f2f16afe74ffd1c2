use Rattle.std.proofs.Common.{◌≤◌, ◌<◌, length, length-append, decimal, ℕ, ap, ◌∙◌, arith}
use Rattle.std.proofs.lemmas.Fmt.{length-decimal-le}
use Rattle.trace_text.proofs.front_text.FrontText.put_octet.Goals as goal

few_digits : (n : ℕ) → n < 256 → length (decimal n) ≤ 3
few_digits n small = length-decimal-le 3 n (omega arith) (omega arith) (omega arith)

pub put_number-requires : goal.put_number-requires
put_number-requires c = omega (arith, few_digits c.args.octet c.requires.octet, c.requires.room, ap length c.put.ensures)

pub returns-clause-length : goal.returns-clause-length
returns-clause-length c =
    omega (
      arith,
      few_digits c.args.octet c.requires.octet,
      ap length c.put.ensures,
      ap length c.put_number.ensures ∙ length-append (decimal c.args.octet) c.put.new.self,
    )
