use Rattle.std.proofs.Common.{◌≡◌, suc, ◌+◌, ◌-◌, ◌<◌, ℕ, ap, arith, ◌∙◌}
use Rattle.std.proofs.lemmas.List.{length_push}
use Rattle.cbor_items.specs.Front.{number_at}
use Rattle.warm_messages.proofs.Returned.{finds_some, finds_none}
use Rattle.warm_messages.proofs.Elements.{one_read, end_read, none_read, too_many}
use Rattle.warm_messages.proofs.numbers.split_numbers.Goals as goal

pub returns-in-Some : goal.returns-in-Some
returns-in-Some c =
    end_read number_at c.in_ok-length.length c.loop-count.count (8 - c.loop-count.count) c.loop-count.rest.now c.in-Some.behind.now
    c.loop-count.numbers _ c.in-Some.ensures c.loop-count.invariant.1

pub returns-in_err-number : goal.returns-in_err-number
returns-in_err-number c =
    let turns : c.loop-count.count < 8 = c.loop-count-test.true in
    let left : 8 - c.loop-count.count ≡ suc (8 - (c.loop-count.count + 1)) = omega arith in
    rw c.from_residual-in_err-number.ensures
    (none_read number_at c.in_ok-length.length c.loop-count.count (8 - c.loop-count.count) (8 - (c.loop-count.count + 1)) c.loop-count.rest.now
    c.loop-count.numbers _ left c.in_default.ensures (finds_none _ _ _ c.in_err-number.ensures.value c.split_number.ensures) c.loop-count.invariant.1)

pub loop-count-preserved : goal.loop-count-preserved
loop-count-preserved c =
    let turns : c.loop-count.count < 8 = c.loop-count-test.true in
    let left : 8 - c.loop-count.count ≡ suc (8 - (c.loop-count.count + 1)) = omega arith in (
      rw c.push.ensures (length_push c.loop-count.numbers c.in_ok-number.number ∙ ap (λ (n : ℕ). n + 1) c.loop-count.invariant.0),
      rw c.push.ensures (one_read number_at c.in_ok-length.length c.loop-count.count (8 - c.loop-count.count) (8 - (c.loop-count.count + 1)) c.loop-count.rest.now
          c.in_ok-number.after.now c.in_ok-number.number c.loop-count.numbers _ left c.in_default.ensures (finds_some _ _ _ _ c.in_ok-number.ensures.value c.split_number.ensures) c.loop-count.invariant.1),
    )

pub returns-in_err-behind : goal.returns-in_err-behind
returns-in_err-behind c =
    let turns : 8 - c.loop-count.count ≡ 0 = omega arith in
    let same : c.loop-count.count ≡ 8 = omega arith in
    rw c.from_residual-in_err-behind.ensures
    (too_many number_at c.in_ok-length.length c.loop-count.count (8 - c.loop-count.count) c.loop-count.rest.now c.loop-count.numbers _ turns (rw same c.in_err-behind.ensures) c.loop-count.invariant.1)

pub returns : goal.returns
returns c =
    let same : c.loop-count.count ≡ 8 = omega arith in
    end_read number_at c.in_ok-length.length c.loop-count.count (8 - c.loop-count.count) c.loop-count.rest.now c.in_ok-behind.behind.now
    c.loop-count.numbers _ (rw same c.in_ok-behind.ensures) c.loop-count.invariant.1
