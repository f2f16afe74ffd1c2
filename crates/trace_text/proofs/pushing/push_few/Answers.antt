use Rattle.std.proofs.Common.{◌≡◌, ℕ, List, [], ◌∷◌, ◌++◌, ◌+◌, ◌/◌, ◌%◌, ◌<◌, ◌≤◌, decimal, ap, sym, ◌∙◌, arith}
use Rattle.std.proofs.lemmas.Fmt.{decimal_digit, decimal_step}
use Rattle.trace_text.proofs.pushing.push_few.Goals as goal

two : (n : ℕ) → 10 ≤ n → n < 100 → (48 + n / 10) ∷ (48 + n % 10) ∷ [] ≡ decimal n
two n many few =
    sym (decimal_step n many (omega arith) ∙ ap (λ (front : List ℕ). front ++ (48 + n % 10) ∷ []) (decimal_digit (n / 10) (omega arith)))

three : (n : ℕ) → 100 ≤ n → n < 1000 → (48 + n / 10 / 10) ∷ (48 + n / 10 % 10) ∷ (48 + n % 10) ∷ [] ≡ decimal n
three n many few =
    sym (decimal_step n (omega arith) (omega arith) ∙ ap (λ (front : List ℕ). front ++ (48 + n % 10) ∷ []) (sym (two (n / 10) (omega arith) (omega arith))))

pub returns-in_ok-extend_from_slice-clause-ok : goal.returns-in_ok-extend_from_slice-clause-ok
returns-in_ok-extend_from_slice-clause-ok c =
    c.in_ok-extend_from_slice.ensures.items
    ∙ ap (λ (digits : List ℕ). c.args.bytes.now.items ++ digits) (two c.args.number c.requires.two (omega (arith, c.if-front-lt10.true)))

pub returns-in_ok-extend_from_slice-2-clause-ok : goal.returns-in_ok-extend_from_slice-2-clause-ok
returns-in_ok-extend_from_slice-2-clause-ok c =
    c.in_ok-extend_from_slice-2.ensures.items
    ∙ ap (λ (digits : List ℕ). c.args.bytes.now.items ++ digits) (three c.args.number (omega (arith, c.if-front-lt10.false)) c.requires.three)
