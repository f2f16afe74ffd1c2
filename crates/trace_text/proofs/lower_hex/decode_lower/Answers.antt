use Rattle.std.proofs.Common.{◌≡◌, ◌+◌, ◌*◌, ℕ, slice_index, Some, Ok, arith, refl}
use Rattle.hex.proofs.Pairs.{decode_step, decode_done}
use Rattle.hex.specs.Hex.{hex_digit_value, pair_value}
use Rattle.trace_text.proofs.lower_hex.decode_lower.Goals as goal

pair_read : (high low i a b : ℕ) → hex_digit_value high ≡ Some a → hex_digit_value low ≡ Some b → pair_value high low i ≡ Ok (a * 16 + b)
pair_read high low i a b h l = rw (h, l) refl

pub bytes-preserved : goal.bytes-preserved
bytes-preserved c =
    decode_step _ _ c.bytes.i _ (omega arith) (omega arith)
    (pair_read (slice_index c.args.digits.now (2 * c.bytes.i)) (slice_index c.args.digits.now (2 * c.bytes.i + 1)) (2 * c.bytes.i) _ _ c.digit_value.ensures.value c.digit_value-in-bytes.ensures.value) c.bytes.invariant

pub returns : goal.returns
returns c = decode_done _ c.bytes.bytes c.bytes.i (omega arith) (omega arith) c.bytes.invariant
