-- Readings of a source, one after another.
use Rattle.std.proofs.Common.{◌≡◌, ℕ, List, [], ◌++◌, Option, Result, Ok, Err, refl, sym, ap, ◌∙◌, subst, ◌≤◌, arith}
use Rattle.std.proofs.lemmas.List.{append_assoc, append-nil}
use Rattle.io_edge.specs.declared.got.Got.{Got}
use Rattle.io_edge.specs.declared.got.Got.TheVariants.{Line, Over}
use Rattle.io_edge.specs.declared.line_fault.LineFault.{LineFault}
use Rattle.io_edge.specs.declared.line_fault.LineFault.TheVariants.{Failed, TooLong, OutOfMemory}
use Rattle.io_edge.specs.Lines.{FitsLine, IsPastLimit}
use Rattle.io_edge.specs.Told.{Gives}
use Rattle.io_edge.specs.Reading.{IsAnswer, ReadsLine, HasReadCause}
use Rattle.io_edge.proofs.LineLemmas.{FitsLine-front, IsPastLimit-append, IsPastLimit-not, IsPastLimit-not_line}
use Rattle.io_edge.proofs.ToldLemmas.{Gives-nothing, Gives-append}

-- readings without a fault have brought what was seen at first to what is seen now
pub record HasRead {S : Type 0} (left : S → Option (List ℕ)) (faults : S → ℕ) (first now : S) (seen_first seen : List ℕ) : Type 0 where
  pub taken : List ℕ
  pub gives : Gives (left first) (left now) taken
  pub seen_is : seen ≡ seen_first ++ taken
  pub calm : faults now ≡ faults first
  pub unasked : ¬ FitsLine seen_first → now ≡ first
  pub none_needed : ¬ FitsLine seen_first → taken ≡ []

pub HasRead-none : {S : Type 0} (left : S → Option (List ℕ)) (faults : S → ℕ) (source : S) (seen : List ℕ) → HasRead left faults source source seen seen
HasRead-none left faults source seen = record {
  taken = [];
  gives = Gives-nothing (left source);
  seen_is = sym (append-nil seen);
  calm = refl;
  unasked = λ _. refl;
  none_needed = λ _. refl;
}

-- what is seen is a front of a line, so what was seen at first is one
fits_first : {S : Type 0} (left : S → Option (List ℕ)) (faults : S → ℕ) (first now : S) (seen_first seen : List ℕ) → HasRead left faults first now seen_first seen → FitsLine seen → FitsLine seen_first
fits_first left faults first now seen_first seen read fits = FitsLine-front seen_first read.taken (subst FitsLine read.seen_is fits)

pub HasRead-more : {S : Type 0} (left : S → Option (List ℕ)) (faults : S → ℕ) (first now next : S) (seen_first seen bytes : List ℕ) → HasRead left faults first now seen_first seen → FitsLine seen → Gives (left now) (left next) bytes → faults next ≡ faults now → HasRead left faults first next seen_first (seen ++ bytes)
HasRead-more left faults first now next seen_first seen bytes read fits gives calm =
    let first_fits = fits_first left faults first now seen_first seen read fits in
    record {
      taken = read.taken ++ bytes;
      gives = Gives-append (left first) (left now) (left next) read.taken bytes read.gives gives;
      seen_is = ap (λ (xs : List ℕ). xs ++ bytes) read.seen_is ∙ append_assoc seen_first read.taken bytes;
      calm = calm ∙ read.calm;
      unasked = λ never. absurd (never first_fits);
      none_needed = λ never. absurd (never first_fits);
    }

-- the answer to what was seen is that of the whole call
pub ReadsLine-from : {S : Type 0} (left : S → Option (List ℕ)) (faults : S → ℕ) (first now : S) (seen_first seen kept : List ℕ) (answer : Result Got LineFault) → HasRead left faults first now seen_first seen → IsAnswer seen kept (left now) answer → ReadsLine (left first) (left now) seen_first kept answer
ReadsLine-from left faults first now seen_first seen kept answer read is = record {
  taken = read.taken;
  gives = read.gives;
  none_needed = read.none_needed;
  answer = subst (λ (xs : List ℕ). IsAnswer xs kept (left now) answer) read.seen_is is;
}

-- Once a line is too long, it is answered for good, and nothing more is taken.
pub ReadsLine-past : (before after : Option (List ℕ)) (kept left : List ℕ) (answer : Result Got LineFault) → ReadsLine before after kept left answer → IsPastLimit kept → (answer ≡ Err TooLong) × (left ≡ kept)
ReadsLine-past before after kept left (Ok (Line line)) read past =
    absurd (IsPastLimit-not_line line left read.answer.0 (subst IsPastLimit read.answer.1 (IsPastLimit-append kept read.taken past)))
ReadsLine-past before after kept left (Ok Over) read past =
    absurd (IsPastLimit-not (kept ++ read.taken) read.answer.0 (IsPastLimit-append kept read.taken past))
ReadsLine-past before after kept left (Err TooLong) read past =
    let never : ¬ FitsLine kept = λ fits. IsPastLimit-not kept fits past in
    (refl, read.answer.1 ∙ ap (λ (xs : List ℕ). kept ++ xs) (read.none_needed never) ∙ append-nil kept)
ReadsLine-past before after kept left (Err Failed) read past =
    absurd (IsPastLimit-not (kept ++ read.taken) read.answer.0 (IsPastLimit-append kept read.taken past))
ReadsLine-past before after kept left (Err OutOfMemory) read past =
    absurd (read.answer.0 (IsPastLimit-append kept read.taken past))

pub HasReadCause-later : (before now : ℕ) (answer : Result Got LineFault) → HasReadCause before now answer → before ≤ now
HasReadCause-later before now (Ok got) cause = omega arith
HasReadCause-later before now (Err TooLong) cause = omega arith
HasReadCause-later before now (Err OutOfMemory) cause = omega arith
HasReadCause-later before now (Err Failed) cause = cause.0
