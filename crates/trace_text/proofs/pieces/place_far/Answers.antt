use Rattle.std.proofs.Common.{◌≡◌, ℕ, ◌==◌, true, false, List, length, get_or, Option, Some, None, ⊎_elim, arith}
use Rattle.std.specs.Prelude.{position}
use Rattle.std.specs.List.{position_or_len}
use Rattle.std.proofs.lemmas.Bool.{cases_Bool}
use Rattle.std.proofs.lemmas.Grind.{common_steps}
use Rattle.std.proofs.lemmas.List.Sums.{position_or_len_is}
use Rattle.memchr.specs.Find.{IsFirstByte, is_byte}
use Rattle.trace_text.proofs.pieces.place_far.Goals as goal

not_there : (c : ℕ) (bytes : List ℕ) (k : ℕ) → (is_byte c (get_or bytes k 0) ≡ true → ⊥) → is_byte c (get_or bytes k 0) ≡ false
not_there c bytes k never = ⊎_elim (λ there. absurd (never there)) (λ absent. absent) (cases_Bool (is_byte c (get_or bytes k 0)))

-- the first place of a byte is where it stands
found : (c : ℕ) (bytes : List ℕ) (at : Option ℕ) → IsFirstByte (is_byte c) bytes at → at ≡ position (λ b. b == c) bytes
found c bytes None nowhere =
    let e : position_or_len (is_byte c) bytes ≡ length bytes = position_or_len_is (is_byte c) bytes (length bytes) 0 (omega arith)
    (λ k below. not_there c bytes k (nowhere k (omega arith) below))
    (λ within. absurd (omega arith)) in
    grind (arith, common_steps, e)
found c bytes (Some at) first =
    let e : position_or_len (is_byte c) bytes ≡ at = position_or_len_is (is_byte c) bytes at 0 (omega (arith, first.0.high))
    (λ k below. not_there c bytes k (first.0.before k (omega arith) below))
    (λ within. first.1) in
    let h = first.0.high in
    grind (arith, common_steps, e, h)

pub returns-clause-value : goal.returns-clause-value
returns-clause-value c = found c.args.separator c.args.bytes.now c.memchr.result c.memchr.ensures
