use Rattle.std.proofs.Common.{◌≡◌, ◌+◌, ◌-◌, ◌≤◌, List, ℕ, take, drop, ◌++◌, length, Some, sym, ap, ◌∙◌, arith}
use Rattle.std.proofs.lemmas.List.{take_at, take_rest, take-append-drop, drop-drop, length-take}
use Rattle.io_edge.specs.Memory.{Pieces}
use Rattle.io_edge.proofs.sure_source.SureSourceSource.fill.Goals as goal

-- a piece that is copied to the front of a buffer is the front of what was left
copied_front : (bytes copied behind : List ℕ) (given count : ℕ) → count ≤ length (drop given bytes) → copied ≡ take count (take (length bytes - given) (drop given bytes)) → drop given bytes ≡ take count (copied ++ behind) ++ drop (given + count) bytes
copied_front bytes copied behind given count fits copy =
    let is_front : copied ≡ take count (drop given bytes) = copy ∙ ap (take count) (take_rest bytes given) in
    let long : length copied ≡ count = ap length is_front ∙ omega (arith, length-take count (drop given bytes)) in
    rw (take_at copied behind count long, is_front, ← drop-drop count given bytes) (sym (take-append-drop count (drop given bytes)))

pub returns-clause-bytes : goal.returns-clause-bytes
returns-clause-bytes c =
    let bytes = c.self.inside.bytes in
    let given = c.self.inside.given in
    let same : c.as_slice.result.now ≡ bytes = c.as_slice.ensures in
    let rest : length (take (length bytes - given) (drop given bytes)) ≡ length (drop given bytes) = ap length (take_rest bytes given) in
    let fits : c.min-count.result ≤ length (drop given bytes) = omega (arith, rw same at c.min.ensures) in
    let copy = rw same at c.copy_from_slice.ensures.after in
    ap (λ (pieces : Pieces). Some pieces.left) (sym c.self.view_is)
    ∙ ap Some (copied_front bytes c.copy_from_slice.new.self (drop c.min-count.result c.args.buf.now) given c.min-count.result fits copy)
