-- Lines of which none differs.
use Rattle.std.proofs.Common.{◌≡◌, ℕ, ◌+◌, Bool, true, false, cond, List, [], ◌∷◌, Option, refl}
use Rattle.io_edge.specs.Lines.{whole_lines, unfinished_line}
use Rattle.net_base.specs.declared.refusal.RefusalKind.TheVariants.{NoEnd}
use Rattle.line_run.specs.Meaning.{Meaning, goes_on, ends, differs, is_refused, is_too_many}
use Rattle.line_run.specs.Judgement.{differed, refused, too_long, silently, is_too_long, judged_by, judged_from, verdict_of}
use Rattle.line_run.specs.Runs.{Runs}
use Rattle.line_run.specs.declared.outcome.LineOutcome.TheVariants.{Differ}
use Rattle.line_run.proofs.Inputs.{verdict_differed}

abbrev pub NeverDiffers : {S : Type 0} → (S → List ℕ → Meaning S) → Type 0
NeverDiffers {S} means = (state : S) (line : List ℕ) (lines : List (List ℕ)) → means state line ≡ differs lines → ⊥

never_differed : {S : Type 0} (means : S → List ℕ → Meaning S) (number : ℕ) (state : S) (texts : List (List ℕ)) (rest : List ℕ) (line : ℕ) → NeverDiffers means →
    (judged_from means number state texts rest).verdict ≡ differed line → ⊥
unfolding judged_from
never_differed means number state [] rest line never e = by_length (is_too_long number rest) e
  where
    by_length : (b : Bool) → cond b (too_long number) (refused number NoEnd) ≡ differed line → ⊥
    by_length true e = absurd cc
    by_length false e = absurd cc
never_differed {S} means number state (text ∷ texts) rest line never e =
    by (is_too_long number text) (means state text) refl (λ next. never_differed means (number + 1) next texts rest line never) e
  where
    by : (b : Bool) (m : Meaning S) → means state text ≡ m → ((next : S) → (judged_from means (number + 1) next texts rest).verdict ≡ differed line → ⊥) →
        (cond b (silently (too_long number)) (judged_by number m (λ next. judged_from means (number + 1) next texts rest))).verdict ≡ differed line → ⊥
    by true m is later e = absurd cc
    by false (goes_on next lines) is later e = later next e
    by false (ends lines) is later e = absurd cc
    by false (differs lines) is later e = never state text lines is
    by false (is_refused kind) is later e = absurd cc
    by false is_too_many is later e = absurd cc

-- so no run over them ends at such a line
pub none_differs : {S : Type 0} (means : S → List ℕ → Meaning S) (start : S) (l0 l1 t0 t1 : Option (List ℕ)) (line : ℕ) → NeverDiffers means → Runs means start l0 l1 t0 t1 (Differ line) → ⊥
none_differs means start l0 l1 t0 t1 line never r =
    never_differed means 1 start (whole_lines r.seen) (unfinished_line r.seen) line never (verdict_differed (verdict_of means start r.seen) line r.is_outcome.0.told)
