-- What a line that is read by its words comes to.
use Rattle.std.proofs.Common.{◌≡◌, ℕ, List, [], ◌∷◌, ◌++◌, Result, Ok, Err, refl, sym, ap, ◌∙◌, subst}
use Rattle.std.proofs.lemmas.List.{append-nil}
use Rattle.trace_text.specs.Lines.{IsReading}
use Rattle.trace_text.specs.declared.line.LineRefusal.{LineRefusal}
use Rattle.trace_text.specs.declared.line.LineRefusal.TheVariants.{BadWord, BadNumber, BadTargets, OutOfOrder, OutOfMemory}
use Rattle.line_run.specs.Meaning.{Meaning, differs, Says, IsInterpreted}
use Rattle.line_run.specs.Refusals.{if_read, stop_of}
use Rattle.line_run.specs.declared.stop.Stop.{Stop}

-- a line is said alone
pub says_line : (before after text : List ℕ) → after ≡ before ++ (text ++ 10 ∷ []) → Says before after (text ∷ [])
says_line before after text is = is ∙ ap (λ (bytes : List ℕ). before ++ bytes) (sym (append-nil (text ++ 10 ∷ [])))

module _ {S A : Type 0} (read : Result A LineRefusal) (meaning : A → Meaning S) (next : S) where
  -- a line that is refused
  pub refused_interpreted : (refusal : LineRefusal) (pending : List ℕ) → IsReading {A = A} (Err refusal) read →
      IsInterpreted (if_read read meaning) next pending pending (Err (stop_of refusal))
  refused_interpreted (BadWord place) pending is = (ap (λ (r : Result A LineRefusal). if_read r meaning) (sym is), refl)
  refused_interpreted (BadNumber place) pending is = (ap (λ (r : Result A LineRefusal). if_read r meaning) (sym is), refl)
  refused_interpreted BadTargets pending is = (ap (λ (r : Result A LineRefusal). if_read r meaning) (sym is), refl)
  refused_interpreted OutOfOrder pending is = (ap (λ (r : Result A LineRefusal). if_read r meaning) (sym is), refl)
  refused_interpreted OutOfMemory pending is = refl

  -- a line that is read as this is interpreted as that is
  pub read_interpreted : (value : A) (before after : List ℕ) (result : Result (Unit {0}) Stop) → read ≡ Ok value →
      IsInterpreted (meaning value) next before after result → IsInterpreted (if_read read meaning) next before after result
  read_interpreted value before after result is done =
      subst (λ (m : Meaning S). IsInterpreted m next before after result) (sym (ap (λ (r : Result A LineRefusal). if_read r meaning) is)) done

  -- none differs by being read
  pub read_never_differs : (lines : List (List ℕ)) → ((value : A) → meaning value ≡ differs lines → ⊥) → if_read read meaning ≡ differs lines → ⊥
  read_never_differs lines never e = by read e
    where
      by : (r : Result A LineRefusal) → if_read r meaning ≡ differs lines → ⊥
      by (Ok value) e = never value e
      by (Err refusal) e = absurd cc
