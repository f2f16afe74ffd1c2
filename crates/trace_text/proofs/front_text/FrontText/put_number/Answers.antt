use Rattle.std.proofs.Common.{◌≡◌, ◌≤◌, ◌<◌, ◌+◌, ◌-◌, ◌/◌, ◌%◌, ◌^◌, [], ◌∷◌, ◌++◌, length, length-append, length-drop, length-set, append_assoc, decimal, drop, set, List, ℕ, ap, sym, ◌∙◌, arith}
use Rattle.std.proofs.lemmas.Fmt.{decimal_digit, decimal_step, decimal_nonempty}
use Rattle.std.proofs.lemmas.List.{drop-set}
use Rattle.trace_text.proofs.front_text.FrontText.put_number.Goals as goal

-- the last digit goes in front of what stands
digit_put : (n : ℕ) (bytes : List ℕ) (i : ℕ) → 10 ≤ n → n < 2 ^ 64 → i < length bytes →
    decimal (n / 10) ++ drop i (set bytes i (48 + n % 10)) ≡ decimal n ++ drop (i + 1) bytes
digit_put n bytes i many fits inside =
    ap (λ (xs : List ℕ). decimal (n / 10) ++ xs) (drop-set bytes i (48 + n % 10) inside)
    ∙ sym (append_assoc (decimal (n / 10)) ((48 + n % 10) ∷ []) (drop (i + 1) bytes))
    ∙ ap (λ (ds : List ℕ). ds ++ drop (i + 1) bytes) (sym (decimal_step n many fits))

-- and one digit less is left
digit_less : (n : ℕ) → 10 ≤ n → n < 2 ^ 64 → length (decimal (n / 10)) + 1 ≡ length (decimal n)
digit_less n many fits = sym (ap length (decimal_step n many fits) ∙ length-append (decimal (n / 10)) ((48 + n % 10) ∷ []))

pub overflow_sub-start : goal.overflow_sub-start
overflow_sub-start c =
    let held : length (drop c.self.inside.start c.self.inside.bytes) ≡ length c.args.self.now = ap length c.self.view_is in
    omega (arith, held, c.self.told, c.requires, decimal_nonempty c.args.number (omega arith), length-drop c.self.inside.start c.self.inside.bytes)

pub loop-rest-init : goal.loop-rest-init
loop-rest-init c =
    let held : length (drop c.self.inside.start c.self.inside.bytes) ≡ length c.args.self.now = ap length c.self.view_is in
    let some : 1 ≤ c.self.inside.start = overflow_sub-start c in
    let at : c.self.inside.start - 1 + 1 ≡ c.self.inside.start = omega (arith, some) in (
      ap (λ (n : ℕ). decimal c.args.number ++ drop n c.self.inside.bytes) at,
      omega (arith, at, held, c.self.told, c.requires, length-drop c.self.inside.start c.self.inside.bytes),
      omega (arith, some, c.self.invariant),
      c.self.told,
    )

pub overflow_sub-start-in-loop-rest : goal.overflow_sub-start-in-loop-rest
overflow_sub-start-in-loop-rest c =
    omega (arith, digit_less c.loop-rest.rest (omega arith) (omega arith), decimal_nonempty (c.loop-rest.rest / 10) (omega arith), c.loop-rest.invariant.1)

pub loop-rest-preserved : goal.loop-rest-preserved
loop-rest-preserved c =
    let some : 1 ≤ c.loop-rest.start = overflow_sub-start-in-loop-rest c in
    let at : c.loop-rest.start - 1 + 1 ≡ c.loop-rest.start = omega (arith, some) in (
      ap (λ (n : ℕ). decimal (c.loop-rest.rest / 10) ++ drop n (set c.loop-rest.self-inside.bytes c.loop-rest.start (48 + c.loop-rest.rest % 10))) at
          ∙ digit_put c.loop-rest.rest c.loop-rest.self-inside.bytes c.loop-rest.start (omega arith) (omega arith) (omega (arith, c.loop-rest.invariant))
          ∙ c.loop-rest.invariant.0,
      omega (arith, at, digit_less c.loop-rest.rest (omega arith) (omega arith), c.loop-rest.invariant.1),
      omega (arith, some, c.loop-rest.invariant.2),
      length-set c.loop-rest.self-inside.bytes c.loop-rest.start (48 + c.loop-rest.rest % 10) ∙ c.loop-rest.invariant.3,
    )

pub returns : goal.returns
returns c =
    drop-set c.loop-rest.self-inside.bytes c.loop-rest.start (48 + c.loop-rest.rest) (omega (arith, c.loop-rest.invariant))
    ∙ ap (λ (ds : List ℕ). ds ++ drop (c.loop-rest.start + 1) c.loop-rest.self-inside.bytes) (sym (decimal_digit c.loop-rest.rest (omega (arith, c.loop-rest-test.false))))
    ∙ c.loop-rest.invariant.0
    ∙ ap (λ (xs : List ℕ). decimal c.args.number ++ xs) c.self.view_is
