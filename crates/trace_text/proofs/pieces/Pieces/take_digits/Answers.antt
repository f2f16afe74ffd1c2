use Rattle.std.proofs.Common.{◌≡◌, ◌∷◌, false, length, drop, sym, ap, ◌∙◌, rules}
use Rattle.net_base.specs.Number.{is_digit}
use Rattle.trace_text.proofs.Places.{last_digits, front_digits}
use Rattle.trace_text.proofs.pieces.Pieces.take_digits.Goals as goal

pub returns-in-None-clause-taken : goal.returns-in-None-clause-taken
returns-in-None-clause-taken c =
    let s = c.self.inside.separator in
    let other : is_digit s ≡ false = search rules in
    let none : length (drop c.in_ok-count.count c.in_ok-bytes.bytes.now) ≡ 0 = ap length (sym c.split_at.ensures.back) ∙ c.in-None.ensures.cases in
    let cut = last_digits s c.in_ok-count.count c.in_ok-count.value c.in_ok-bytes.bytes.now c.in_ok-count.ensures.value other none in
    search (rules, cut)

pub returns-in-Some-clause-taken : goal.returns-in-Some-clause-taken
returns-in-Some-clause-taken c =
    let s = c.self.inside.separator in
    let other : is_digit s ≡ false = search rules in
    let follows : drop c.in_ok-count.count c.in_ok-bytes.bytes.now ≡ s ∷ c.in-Some.after.now =
    sym c.split_at.ensures.back ∙ c.in-Some.ensures.cases.0 ∙ ap (λ b. b ∷ c.in-Some.after.now) c.if-next-self.true in
    let cut = front_digits s c.in_ok-count.count c.in_ok-count.value c.in_ok-bytes.bytes.now c.in-Some.after.now c.in_ok-count.ensures.value other follows in
    search (rules, cut)
