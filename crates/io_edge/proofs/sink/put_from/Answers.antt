use Rattle.std.proofs.Common.{◌≡◌, ℕ, ◌+◌, ◌-◌, List, length, take, drop, ◌++◌, sym, ◌∙◌, arith}
use Rattle.std.proofs.lemmas.List.{take_rest, drop-drop, length-drop, take-append-drop}
use Rattle.io_edge.proofs.ToldLemmas.{TakesFront-more}
use Rattle.io_edge.proofs.sink.put_from.Goals as goal

-- what is left is some bytes more, and the rest behind them
left_of : (bytes : List ℕ) (done n : ℕ) → drop done bytes ≡ take n (take (length bytes - done) (drop done bytes)) ++ drop (done + n) bytes
left_of bytes done n = rw (take_rest, ← drop-drop n done bytes) (sym (take-append-drop n (drop done bytes)))

pub calls-preserved : goal.calls-preserved
calls-preserved g c =
    let put = c.in_ok-done.ensures in
    let before = c.calls.invariant in
    record {
      within = omega (arith, put.bound, length-drop {A = ℕ});
      front = TakesFront-more _ _ _ _ _ (drop (c.calls.done + c.in_ok-done.field-0) c.args.bytes.now) _ before.front put.bytes
          (left_of c.args.bytes.now c.calls.done c.in_ok-done.field-0);
      calm = put.cause.calm ∙ before.calm;
    }
