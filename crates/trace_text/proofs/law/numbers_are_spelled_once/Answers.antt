use Rattle.trace_text.proofs.Numerals.{number_of-decimal, decimal-number_of}
use Rattle.trace_text.proofs.law.numbers_are_spelled_once.Goals as goal

pub returns-clause-printed : goal.returns-clause-printed
returns-clause-printed c = decimal-number_of

pub returns-clause-read : goal.returns-clause-read
returns-clause-read c = number_of-decimal
