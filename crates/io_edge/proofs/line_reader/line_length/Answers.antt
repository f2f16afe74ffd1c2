use Rattle.std.proofs.Common.{◌≡◌, ℕ, ◌≤◌, true, false, List, length, get_or, Option, Some, None, sym, ◌∙◌, ⊎_elim, arith}
use Rattle.std.specs.Option.{unwrap_or}
use Rattle.std.specs.List.{position_or_len}
use Rattle.std.proofs.lemmas.Bool.{cases_Bool}
use Rattle.std.proofs.lemmas.List.Sums.{position_or_len_is, prefix_len-le-length}
use Rattle.memchr.specs.Find.{IsFirstByte, is_byte}
use Rattle.io_edge.specs.Lines.{is_line_feed}
use Rattle.io_edge.proofs.line_reader.line_length.Goals as goal

not_there : (bytes : List ℕ) (k : ℕ) → (is_line_feed (get_or bytes k 0) ≡ true → ⊥) → is_line_feed (get_or bytes k 0) ≡ false
not_there bytes k never = ⊎_elim (λ there. absurd (never there)) (λ absent. absent) (cases_Bool (is_line_feed (get_or bytes k 0)))

-- the first line feed that is found, as a number of bytes before it
found : (bytes : List ℕ) (at : Option ℕ) → IsFirstByte (is_byte 10) bytes at → unwrap_or at (length bytes) ≡ position_or_len is_line_feed bytes
found bytes None nowhere =
    sym (position_or_len_is is_line_feed bytes (length bytes) 0 (omega arith)
    (λ k below. not_there bytes k (nowhere k (omega arith) below))
    (λ within. absurd (omega arith)))
found bytes (Some at) first =
    sym (position_or_len_is is_line_feed bytes at 0 (omega (arith, first.0.high))
    (λ k below. not_there bytes k (first.0.before k (omega arith) below))
    (λ within. first.1))

pub returns-clause-value : goal.returns-clause-value
returns-clause-value c = c.unwrap_or.ensures ∙ found c.args.bytes.now c.memchr.result c.memchr.ensures

pub returns-clause-bound : goal.returns-clause-bound
returns-clause-bound c =
    let same = found c.args.bytes.now c.memchr.result c.memchr.ensures in
    let most : position_or_len is_line_feed c.args.bytes.now ≤ length c.args.bytes.now = prefix_len-le-length _ c.args.bytes.now in
    omega arith
