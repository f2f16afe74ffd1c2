-- How a run that is on its way goes on, and what it has come to where it ends.
use Rattle.std.proofs.Common.{◌≡◌, ℕ, ◌+◌, ◌<◌, ◌≤◌, List, [], ◌∷◌, ◌++◌, length, All, Option, Result, Ok, Err, MatchResult, IfErr, refl, sym, ap, ◌∙◌, subst, arith}
use Rattle.std.specs.Io.KnownBytes.{IsAtEnd}
use Rattle.std.proofs.lemmas.List.{append_assoc, append-nil, length_push}
use Rattle.std.proofs.lemmas.List.Elements.{All-push, All-nil}
use Rattle.io_edge.specs.Lines.{HasNoLineFeed, whole_lines, ended_lines, FitsLine}
use Rattle.io_edge.specs.Reading.{ReadsLine}
use Rattle.io_edge.specs.Told.{Gives, Takes, TakesProperPrefix, TakesFront}
use Rattle.io_edge.specs.declared.got.Got.{Got}
use Rattle.io_edge.specs.declared.got.Got.TheVariants.{Line, Over}
use Rattle.io_edge.specs.declared.line_fault.LineFault.{LineFault}
use Rattle.io_edge.specs.declared.line_fault.LineFault.TheVariants.{Failed, TooLong as LineTooLong, OutOfMemory as NoMemory}
use Rattle.io_edge.proofs.LineLemmas.{whole_lines-ended, whole_lines-none, IsPastLimit-append, ended_lines-append, ended_lines_push}
use Rattle.io_edge.proofs.ToldLemmas.{Gives-nothing, Gives-append, Takes-nothing, Takes-append, TakesProperPrefix-after, TakesProperPrefix-more}
use Rattle.net_base.specs.declared.refusal.RefusalKind.TheVariants.{NoEnd}
use Rattle.line_run.specs.Meaning.{Meaning, goes_on}
use Rattle.line_run.specs.Judgement.{Verdict, ended, differed, refused, too_long, most_lines, Judgement, silently, behind, judged_by, judged, output_of, Lead}
use Rattle.line_run.specs.Runs.{outcome_of, AreDecisive, IsOutcome, Runs, HasWriteCount}
use Rattle.line_run.specs.LineRead.{line_told, IsLineRead}
use Rattle.line_run.specs.UnderWay.{HasSaid, IsUnderWay, IsEnding, IsLineNext, IsTurn, IsInterpretedAt}
use Rattle.line_run.specs.declared.outcome.LineOutcome.{LineOutcome}
use Rattle.line_run.specs.declared.outcome.LineOutcome.TheVariants.{Done, Differ, Refused, ReadFault, WriteFault, OutOfMemory, TooLong}
use Rattle.line_run.proofs.Judging.{seen_of, Begins, output_behind, Lead-none, Lead-more, Decides, line_decides, past_decides, most_decides, rest_refused}

-- Lines were read, with some bytes behind them, and what those lines give was written.
pub record HasRead {S : Type 0} (means : S → List ℕ → Meaning S) (start state : S) (texts lines : List (List ℕ)) (tail : List ℕ) (left_before left_now taken_before taken_now : Option (List ℕ)) : Type 0 where
  pub lead : Lead means start texts state lines
  pub whole : All HasNoLineFeed texts
  pub gives : Gives left_before left_now (seen_of texts tail)
  pub takes : Takes taken_before taken_now (ended_lines lines)

-- ---- bytes that decide

judged_now : {S : Type 0} (means : S → List ℕ → Meaning S) (start : S) (texts lines : List (List ℕ)) (tail : List ℕ) (last : Judgement) → Decides means start texts lines tail last →
    judged means start (seen_of texts tail) ≡ behind lines last
judged_now means start texts lines tail last decides =
    ap (λ (bytes : List ℕ). judged means start (seen_of texts bytes)) (sym (append-nil tail)) ∙ decides []

decisive : {S : Type 0} (means : S → List ℕ → Meaning S) (start : S) (texts lines : List (List ℕ)) (tail : List ℕ) (left : Option (List ℕ)) (last : Judgement) → Decides means start texts lines tail last →
    AreDecisive means start (seen_of texts tail) left (outcome_of last.verdict)
decisive means start texts lines tail left last decides =
    let now = judged_now means start texts lines tail last decides in
    record {
      told = ap (λ (j : Judgement). outcome_of j.verdict) (sym now);
      settled = λ more _. ap (judged means start) (append_assoc (ended_lines texts) tail more) ∙ decides more ∙ sym now;
    }

-- what is written, where it is judged so
output_judged : {S : Type 0} (means : S → List ℕ → Meaning S) (start : S) (seen : List ℕ) (lines : List (List ℕ)) (last : Judgement) → judged means start seen ≡ behind lines last →
    output_of means start seen ≡ ended_lines lines ++ ended_lines last.lines
output_judged means start seen lines last is = ap (λ (j : Judgement). ended_lines j.lines) is ∙ ended_lines-append lines last.lines

takes_silent : {S : Type 0} (means : S → List ℕ → Meaning S) (start : S) (seen : List ℕ) (lines : List (List ℕ)) (verdict : Verdict) (before now : Option (List ℕ)) →
    judged means start seen ≡ behind lines (silently verdict) → Takes before now (ended_lines lines) → Takes before now (output_of means start seen)
takes_silent means start seen lines verdict before now is takes =
    subst (λ (bytes : List ℕ). Takes before now bytes) (sym (output_judged means start seen lines (silently verdict) is ∙ append-nil (ended_lines lines))) takes

-- ---- what it has come to

-- what some bytes decide, with their output taken
decided : {S : Type 0} (means : S → List ℕ → Meaning S) (start : S) (verdict : Verdict) (seen : List ℕ) (left before now : Option (List ℕ)) →
    AreDecisive means start seen left (outcome_of verdict) → Takes before now (output_of means start seen) → IsOutcome means start (outcome_of verdict) seen left before now
decided means start ended seen left before now decisive takes = (decisive, takes)
decided means start (differed line) seen left before now decisive takes = (decisive, takes)
decided means start (refused line kind) seen left before now decisive takes = (decisive, takes)
decided means start (too_long line) seen left before now decisive takes = (decisive, takes)

decided_at : {S : Type 0} (means : S → List ℕ → Meaning S) (start : S) (texts lines : List (List ℕ)) (tail : List ℕ) (last : Judgement) (l0 l1 t0 t1 : Option (List ℕ)) → Gives l0 l1 (seen_of texts tail) →
    Decides means start texts lines tail last → Takes t0 t1 (ended_lines lines ++ ended_lines last.lines) → Runs means start l0 l1 t0 t1 (outcome_of last.verdict)
decided_at means start texts lines tail last l0 l1 t0 t1 gives decides takes = record {
  seen = seen_of texts tail;
  gives = gives;
  is_outcome = decided means start last.verdict (seen_of texts tail) l1 t0 t1 (decisive means start texts lines tail l1 last decides)
      (subst (λ (bytes : List ℕ). Takes t0 t1 bytes) (sym (output_judged means start (seen_of texts tail) lines last (judged_now means start texts lines tail last decides))) takes);
}

-- the same where nothing is written for what decides
silent_at : {S : Type 0} (means : S → List ℕ → Meaning S) (start state : S) (texts lines : List (List ℕ)) (tail : List ℕ) (verdict : Verdict) (l0 l1 t0 t1 : Option (List ℕ)) →
    HasRead means start state texts lines tail l0 l1 t0 t1 → Decides means start texts lines tail (silently verdict) → Runs means start l0 l1 t0 t1 (outcome_of verdict)
silent_at means start state texts lines tail verdict l0 l1 t0 t1 read decides =
    decided_at means start texts lines tail (silently verdict) l0 l1 t0 t1 read.gives decides (subst (λ (bytes : List ℕ). Takes t0 t1 bytes) (sym (append-nil (ended_lines lines))) read.takes)

-- the input is over
over_at : {S : Type 0} (means : S → List ℕ → Meaning S) (start state : S) (texts lines : List (List ℕ)) (tail : List ℕ) (l0 l1 t0 t1 : Option (List ℕ)) →
    HasRead means start state texts lines tail l0 l1 t0 t1 → FitsLine tail → IsAtEnd l1 → length texts + 1 ≤ most_lines → Runs means start l0 l1 t0 t1 (Refused (length texts + 1) NoEnd)
over_at means start state texts lines tail l0 l1 t0 t1 read fits at_end few =
    let now = rest_refused means start state texts lines tail read.lead read.whole few fits.one_line fits.short in
    record {
      seen = seen_of texts tail;
      gives = read.gives;
      is_outcome = (
        record {
          told = ap (λ (j : Judgement). outcome_of j.verdict) (sym now);
          settled = λ more is. ap (judged means start) (ap (λ (bytes : List ℕ). seen_of texts tail ++ bytes) (subst IsAtEnd is at_end) ∙ append-nil (seen_of texts tail));
        },
        takes_silent means start (seen_of texts tail) lines (refused (length texts + 1) NoEnd) t0 t1 now read.takes,
      );
    }

-- the source failed within a line
failed_at : {S : Type 0} (means : S → List ℕ → Meaning S) (start state : S) (texts lines : List (List ℕ)) (tail : List ℕ) (l0 l1 t0 t1 : Option (List ℕ)) →
    HasRead means start state texts lines tail l0 l1 t0 t1 → FitsLine tail → length texts + 1 ≤ most_lines → Runs means start l0 l1 t0 t1 ReadFault
failed_at means start state texts lines tail l0 l1 t0 t1 read fits few =
    let now = rest_refused means start state texts lines tail read.lead read.whole few fits.one_line fits.short in
    let whole : whole_lines (seen_of texts tail) ≡ texts =
    whole_lines-ended texts tail read.whole ∙ ap (λ (ls : List (List ℕ)). texts ++ ls) (whole_lines-none tail fits.one_line) ∙ append-nil texts in
    record {
      seen = seen_of texts tail;
      gives = read.gives;
      is_outcome = (
        ap (λ (j : Judgement). j.verdict) now ∙ ap (λ (ls : List (List ℕ)). refused (length ls + 1) NoEnd) (sym whole),
        takes_silent means start (seen_of texts tail) lines (refused (length texts + 1) NoEnd) t0 t1 now read.takes,
      );
    }

-- memory is wanting
memory_at : {S : Type 0} (means : S → List ℕ → Meaning S) (start state : S) (texts lines : List (List ℕ)) (tail : List ℕ) (l0 l1 t0 t1 : Option (List ℕ)) →
    HasRead means start state texts lines tail l0 l1 t0 t1 → Runs means start l0 l1 t0 t1 OutOfMemory
memory_at means start state texts lines tail l0 l1 t0 t1 read = record {
  seen = seen_of texts tail;
  gives = read.gives;
  is_outcome = record { texts = texts; rest = tail; split = refl; whole = read.whole; state = state; lines = lines; lead = read.lead; taken = read.takes };
}

-- ---- what is pending

said_taken : (t0 t1 t2 : Option (List ℕ)) (pending said : List ℕ) → HasSaid t0 t1 pending said → Takes t1 t2 pending → Takes t0 t2 said
said_taken t0 t1 t2 pending said so takes = subst (λ (bytes : List ℕ). Takes t0 t2 bytes) (sym so.all) (Takes-append t0 t1 t2 so.written pending so.taken takes)

said_part : (t0 t1 t2 : Option (List ℕ)) (pending said : List ℕ) → HasSaid t0 t1 pending said → TakesProperPrefix t1 t2 pending → TakesProperPrefix t0 t2 said
said_part t0 t1 t2 pending said so part =
    subst (λ (bytes : List ℕ). TakesProperPrefix t0 t2 bytes) (sym so.all) (TakesProperPrefix-after t0 t1 t2 so.written pending so.taken part)

-- more is said
said_more : (t0 t1 : Option (List ℕ)) (pending later said more : List ℕ) → HasSaid t0 t1 pending said → later ≡ pending ++ more → HasSaid t0 t1 later (said ++ more)
said_more t0 t1 pending later said more so is = record {
  written = so.written;
  taken = so.taken;
  all = ap (λ (bytes : List ℕ). bytes ++ more) so.all ∙ append_assoc so.written pending more ∙ ap (λ (bytes : List ℕ). so.written ++ bytes) (sym is);
}

-- once what is pending is taken
all_taken : {S : Type 0} (means : S → List ℕ → Meaning S) (start : S) (number : ℕ) (state : S) (kept pending : List ℕ) (l0 l1 t0 t1 t2 : Option (List ℕ)) →
    (way : IsUnderWay means start number state kept pending l0 l1 t0 t1) → Takes t1 t2 pending → HasRead means start state way.texts way.lines kept l0 l1 t0 t2
all_taken means start number state kept pending l0 l1 t0 t1 t2 way takes = record {
  lead = way.lead;
  whole = way.whole;
  gives = way.gives;
  takes = said_taken t0 t1 t2 pending (ended_lines way.lines) way.said takes;
}

-- a front of the output was taken, and not all of it
cut_of : {S : Type 0} (means : S → List ℕ → Meaning S) (start : S) (seen said : List ℕ) (l0 l1 t0 t1 : Option (List ℕ)) → Gives l0 l1 seen → Begins (output_of means start seen) said →
    TakesProperPrefix t0 t1 said → Runs means start l0 l1 t0 t1 WriteFault
cut_of means start seen said l0 l1 t0 t1 gives begins part = record {
  seen = seen;
  gives = gives;
  is_outcome = subst (λ (bytes : List ℕ). TakesProperPrefix t0 t1 bytes) (sym begins.split) (TakesProperPrefix-more t0 t1 said begins.rest part);
}

pub way_cut : {S : Type 0} (means : S → List ℕ → Meaning S) (start : S) (number : ℕ) (state : S) (kept pending : List ℕ) (l0 l1 t0 t1 t2 : Option (List ℕ)) →
    IsUnderWay means start number state kept pending l0 l1 t0 t1 → TakesProperPrefix t1 t2 pending → Runs means start l0 l1 t0 t2 WriteFault
way_cut means start number state kept pending l0 l1 t0 t1 t2 way part =
    cut_of means start (seen_of way.texts kept) (ended_lines way.lines) l0 l1 t0 t2 way.gives (output_behind means start state way.texts way.lines kept way.lead way.whole)
    (said_part t0 t1 t2 pending (ended_lines way.lines) way.said part)

-- it ends, once what is pending is taken
ending : {S : Type 0} (means : S → List ℕ → Meaning S) (start : S) (number : ℕ) (state : S) (kept pending : List ℕ) (l0 l1 t0 t1 : Option (List ℕ)) (outcome : LineOutcome) →
    (way : IsUnderWay means start number state kept pending l0 l1 t0 t1) →
    ((t2 : Option (List ℕ)) → HasRead means start state way.texts way.lines kept l0 l1 t0 t2 → Runs means start l0 l1 t0 t2 outcome) →
    IsEnding means start l0 l1 t0 t1 pending outcome
ending means start number state kept pending l0 l1 t0 t1 outcome way come = record {
  whole = λ t2 takes. come t2 (all_taken means start number state kept pending l0 l1 t0 t1 t2 way takes);
  part = λ t2 part. way_cut means start number state kept pending l0 l1 t0 t1 t2 way part;
}

same_pending : {S : Type 0} (means : S → List ℕ → Meaning S) (start : S) (number : ℕ) (state : S) (kept pending later : List ℕ) (l0 l1 t0 t1 : Option (List ℕ)) →
    IsUnderWay means start number state kept pending l0 l1 t0 t1 → later ≡ pending → IsUnderWay means start number state kept later l0 l1 t0 t1
same_pending means start number state kept pending later l0 l1 t0 t1 way same = record {
  texts = way.texts;
  lines = way.lines;
  lead = way.lead;
  number_is = way.number_is;
  whole = way.whole;
  gives = way.gives;
  said = subst (λ (bytes : List ℕ). HasSaid t0 t1 bytes (ended_lines way.lines)) (sym same) way.said;
}

-- ---- a line was read and interpreted

-- a line that goes on
goes_at : {S : Type 0} (means : S → List ℕ → Meaning S) (start : S) (number : ℕ) (state next : S) (line kept pending later : List ℕ) (said : List (List ℕ)) (l0 l1 t0 t1 : Option (List ℕ)) →
    number ≤ most_lines → FitsLine line → IsUnderWay means start number state (line ++ 10 ∷ kept) pending l0 l1 t0 t1 → means state line ≡ goes_on next said →
    later ≡ pending ++ ended_lines said → IsUnderWay means start (number + 1) next kept later l0 l1 t0 t1
goes_at means start number state next line kept pending later said l0 l1 t0 t1 few fits way is says = record {
  texts = way.texts ++ line ∷ [];
  lines = way.lines ++ said;
  lead = Lead-more means start state next way.texts way.lines line said way.lead (omega (arith, way.number_is, few)) fits.short is;
  number_is = ap (λ n. n + 1) (way.number_is ∙ sym (length_push way.texts line));
  whole = All-push HasNoLineFeed way.texts line way.whole fits.one_line;
  gives = subst (λ (bytes : List ℕ). Gives l0 l1 bytes) (seen_further way.texts line kept) way.gives;
  said = subst (λ (bytes : List ℕ). HasSaid t0 t1 later bytes) (sym (ended_lines-append way.lines said))
      (said_more t0 t1 pending later (ended_lines way.lines) (ended_lines said) way.said says);
}
  where
    -- the line joins those before it
    seen_further : (texts : List (List ℕ)) (line kept : List ℕ) → seen_of texts (line ++ 10 ∷ kept) ≡ seen_of (texts ++ line ∷ []) kept
    seen_further texts line kept =
        ap (λ (bytes : List ℕ). ended_lines texts ++ bytes) (sym (append_assoc line (10 ∷ []) kept))
        ∙ sym (append_assoc (ended_lines texts) (line ++ 10 ∷ []) kept)
        ∙ ap (λ (bytes : List ℕ). bytes ++ kept) (sym (ended_lines_push texts line))

-- a line that decides
decides_at : {S : Type 0} (means : S → List ℕ → Meaning S) (start : S) (number : ℕ) (state : S) (line kept pending : List ℕ) (last : Judgement) (l0 l1 t0 t1 : Option (List ℕ)) →
    number ≤ most_lines → FitsLine line → (way : IsUnderWay means start number state (line ++ 10 ∷ kept) pending l0 l1 t0 t1) →
    ((later : S → Judgement) → judged_by number (means state line) later ≡ last) → Decides means start way.texts way.lines (line ++ 10 ∷ kept) last
decides_at means start number state line kept pending last l0 l1 t0 t1 few fits way decides =
    line_decides means start state way.texts way.lines line kept last way.lead way.whole (omega (arith, way.number_is, few)) fits.one_line fits.short
    (λ later. ap (λ n. judged_by n (means state line) later) (sym way.number_is) ∙ decides later)

-- it ends there, with what is said for the line
ending_at : {S : Type 0} (means : S → List ℕ → Meaning S) (start : S) (number : ℕ) (state : S) (line kept pending later : List ℕ) (last : Judgement) (l0 l1 t0 t1 : Option (List ℕ)) →
    number ≤ most_lines → FitsLine line → IsUnderWay means start number state (line ++ 10 ∷ kept) pending l0 l1 t0 t1 →
    ((behind_it : S → Judgement) → judged_by number (means state line) behind_it ≡ last) → later ≡ pending ++ ended_lines last.lines → IsEnding means start l0 l1 t0 t1 later (outcome_of last.verdict)
ending_at means start number state line kept pending later last l0 l1 t0 t1 few fits way is says =
    let decides = decides_at means start number state line kept pending last l0 l1 t0 t1 few fits way is in
    let all = said_more t0 t1 pending later (ended_lines way.lines) (ended_lines last.lines) way.said says in
    let seen = seen_of way.texts (line ++ 10 ∷ kept) in
    record {
      whole = λ t2 takes. decided_at means start way.texts way.lines (line ++ 10 ∷ kept) last l0 l1 t0 t2 way.gives decides (said_taken t0 t1 t2 later _ all takes);
      part = λ t2 part. cut_of means start seen (ended_lines way.lines ++ ended_lines last.lines) l0 l1 t0 t2 way.gives
          (record {
            rest = [];
            split = output_judged means start seen way.lines last (judged_now means start way.texts way.lines (line ++ 10 ∷ kept) last decides)
                ∙ sym (append-nil (ended_lines way.lines ++ ended_lines last.lines));
          })
          (said_part t0 t1 t2 later _ all part);
    }

line_turn : {S : Type 0} (means : S → List ℕ → Meaning S) (start : S) (number : ℕ) (state next : S) (line kept pending later : List ℕ) (l0 l1 t0 t1 : Option (List ℕ)) (result : Result (Unit {0}) LineOutcome) →
    number ≤ most_lines → FitsLine line → IsUnderWay means start number state (line ++ 10 ∷ kept) pending l0 l1 t0 t1 →
    IsInterpretedAt number (means state line) next pending later result → IsTurn means start number next kept later l0 l1 t0 t1 result
unfolding same_pending
line_turn means start number state next line kept pending later l0 l1 t0 t1 (Ok done) few fits way is =
    goes_at means start number state next line kept pending later is.0 l0 l1 t0 t1 few fits way is.1 is.2
line_turn means start number state next line kept pending later l0 l1 t0 t1 (Err Done) few fits way is =
    ending_at means start number state line kept pending later (record { lines = is.0; verdict = ended }) l0 l1 t0 t1 few fits way (λ behind_it. ap (λ m. judged_by number m behind_it) is.1) is.2
line_turn means start number state next line kept pending later l0 l1 t0 t1 (Err (Differ n)) few fits way is =
    ending_at means start number state line kept pending later (record { lines = is.1; verdict = differed n }) l0 l1 t0 t1 few fits way
    (λ behind_it. ap (λ m. judged_by number m behind_it) is.2 ∙ ap (λ (k : ℕ). record { lines = is.1; verdict = differed k }) (sym is.0)) is.3
line_turn means start number state next line kept pending later l0 l1 t0 t1 (Err (Refused n kind)) few fits way is =
    ending_at means start number state line kept pending later (silently (refused n kind)) l0 l1 t0 t1 few fits way
    (λ behind_it. ap (λ m. judged_by number m behind_it) is.1 ∙ ap (λ k. silently (refused k kind)) (sym is.0)) (is.2 ∙ sym (append-nil pending))
line_turn means start number state next line kept pending later l0 l1 t0 t1 (Err (TooLong n)) few fits way is =
    ending_at means start number state line kept pending later (silently (too_long n)) l0 l1 t0 t1 few fits way
    (λ behind_it. ap (λ m. judged_by number m behind_it) is.1 ∙ ap (λ k. silently (too_long k)) (sym is.0)) (is.2 ∙ sym (append-nil pending))
line_turn means start number state next line kept pending later l0 l1 t0 t1 (Err OutOfMemory) few fits way is =
    ending means start number state (line ++ 10 ∷ kept) later l0 l1 t0 t1 OutOfMemory (same_pending means start number state _ pending later l0 l1 t0 t1 way is)
    (λ t2 read. memory_at means start state _ _ (line ++ 10 ∷ kept) l0 l1 t0 t2 read)
line_turn means start number state next line kept pending later l0 l1 t0 t1 (Err WriteFault) few fits way is = absurd is
line_turn means start number state next line kept pending later l0 l1 t0 t1 (Err ReadFault) few fits way is = absurd is

pub line_played : {S : Type 0} (means : S → List ℕ → Meaning S) (start : S) (number : ℕ) (state next : S) (line kept pending later : List ℕ) (l0 l1 t0 t1 : Option (List ℕ)) (result : Result (Unit {0}) LineOutcome) →
    number ≤ most_lines → FitsLine line × IsUnderWay means start number state (line ++ 10 ∷ kept) pending l0 l1 t0 t1 →
    IsInterpretedAt number (means state line) next pending later result → IsTurn means start number next kept later l0 l1 t0 t1 result
line_played means start number state next line kept pending later l0 l1 t0 t1 result few there said =
    line_turn means start number state next line kept pending later l0 l1 t0 t1 result few there.0 there.1 said

-- ---- what is pending is put on the way

pub way_front : {S : Type 0} (means : S → List ℕ → Meaning S) (start : S) (number : ℕ) (state : S) (kept pending rest : List ℕ) (l0 l1 t0 t1 t2 : Option (List ℕ)) →
    IsUnderWay means start number state kept pending l0 l1 t0 t1 → TakesFront t1 t2 pending rest → IsUnderWay means start number state kept rest l0 l1 t0 t2
way_front means start number state kept pending rest l0 l1 t0 t1 t2 way front = record {
  texts = way.texts;
  lines = way.lines;
  lead = way.lead;
  number_is = way.number_is;
  whole = way.whole;
  gives = way.gives;
  said = record {
    written = way.said.written ++ front.front;
    taken = Takes-append t0 t1 t2 way.said.written front.front way.said.taken front.taken;
    all = way.said.all ∙ ap (λ (bytes : List ℕ). way.said.written ++ bytes) front.split ∙ sym (append_assoc way.said.written front.front rest);
  };
}

-- a front of what is pending is put behind a line
pub turn_put : {S : Type 0} (means : S → List ℕ → Meaning S) (start : S) (number : ℕ) (next : S) (kept pending rest : List ℕ) (l0 l1 t0 t1 t2 : Option (List ℕ)) (result : Result (Unit {0}) LineOutcome) →
    IsUnderWay means start (number + 1) next kept pending l0 l1 t0 t1 → TakesFront t1 t2 pending rest → IfErr result (λ outcome. TakesProperPrefix t1 t2 pending) →
    IfErr result (λ outcome. outcome ≡ WriteFault) → IsTurn means start number next kept rest l0 l1 t0 t2 result
turn_put means start number next kept pending rest l0 l1 t0 t1 t2 (Ok done) way front part fault = way_front means start (number + 1) next kept pending rest l0 l1 t0 t1 t2 way front
turn_put means start number next kept pending rest l0 l1 t0 t1 t2 (Err outcome) way front part fault = rw fault (way_cut means start (number + 1) next kept pending l0 l1 t0 t1 t2 way part)

-- a line is there under another name
pub line_there : {S : Type 0} (means : S → List ℕ → Meaning S) (start : S) (number : ℕ) (state : S) (line text kept pending : List ℕ) (l0 l1 t0 t1 : Option (List ℕ)) → text ≡ line →
    FitsLine line × IsUnderWay means start number state (line ++ 10 ∷ kept) pending l0 l1 t0 t1 → FitsLine text × IsUnderWay means start number state (text ++ 10 ∷ kept) pending l0 l1 t0 t1
line_there means start number state line text kept pending l0 l1 t0 t1 same there =
    subst (λ (bytes : List ℕ). FitsLine bytes × IsUnderWay means start number state (bytes ++ 10 ∷ kept) pending l0 l1 t0 t1) (sym same) there

-- ---- counts of faults

writes_same : (before now : ℕ) (outcome : LineOutcome) → now ≡ before → HasWriteCount before before outcome → HasWriteCount before now outcome
writes_same before now outcome same count = subst (λ (n : ℕ). HasWriteCount before n outcome) (sym same) count

pub writes_calm : {A : Type 0} (before now : ℕ) (result : Result A LineOutcome) → now ≡ before → IfErr result (HasWriteCount before before) →
    MatchResult result (λ x. now ≡ before) (HasWriteCount before now)
writes_calm before now (Ok x) same count = same
writes_calm before now (Err outcome) same count = writes_same before now outcome same count

-- ---- the next line

pub kept_next : {S : Type 0} (means : S → List ℕ → Meaning S) (start : S) (number : ℕ) (state : S) (kept next line pending : List ℕ) (l0 l1 t0 t1 : Option (List ℕ)) →
    IsUnderWay means start number state kept pending l0 l1 t0 t1 → FitsLine line × (kept ≡ line ++ 10 ∷ next) → IsLineNext means start number state next pending l0 l1 t0 t1 (Ok line)
kept_next means start number state kept next line pending l0 l1 t0 t1 way found =
    (found.0, subst (λ (bytes : List ℕ). IsUnderWay means start number state bytes pending l0 l1 t0 t1) found.1 way)

pub memory_next : {S : Type 0} (means : S → List ℕ → Meaning S) (start : S) (number : ℕ) (state : S) (kept pending : List ℕ) (l0 l1 t0 t1 : Option (List ℕ)) →
    IsUnderWay means start number state kept pending l0 l1 t0 t1 → IsEnding means start l0 l1 t0 t1 pending OutOfMemory
memory_next means start number state kept pending l0 l1 t0 t1 way =
    ending means start number state kept pending l0 l1 t0 t1 OutOfMemory way (λ t2 read. memory_at means start state _ _ kept l0 l1 t0 t2 read)

-- more was read behind what was kept
way_further : {S : Type 0} (means : S → List ℕ → Meaning S) (start : S) (number : ℕ) (state : S) (kept bytes : List ℕ) (l0 l1 l2 t0 t1 : Option (List ℕ)) →
    IsUnderWay means start number state kept [] l0 l1 t0 t1 → Gives l1 l2 bytes → IsUnderWay means start number state (kept ++ bytes) [] l0 l2 t0 t1
way_further means start number state kept bytes l0 l1 l2 t0 t1 way gives = record {
  texts = way.texts;
  lines = way.lines;
  lead = way.lead;
  number_is = way.number_is;
  whole = way.whole;
  gives = subst (λ (xs : List ℕ). Gives l0 l2 xs) (append_assoc (ended_lines way.texts) kept bytes) (Gives-append l0 l1 l2 (seen_of way.texts kept) bytes way.gives gives);
  said = way.said;
}

line_next : {S : Type 0} (means : S → List ℕ → Meaning S) (start : S) (number : ℕ) (state : S) (kept next line : List ℕ) (l0 l1 l2 t0 t1 : Option (List ℕ)) →
    IsUnderWay means start number state kept [] l0 l1 t0 t1 → ReadsLine l1 l2 kept next (Ok (Line line)) → IsLineNext means start number state next [] l0 l2 t0 t1 (Ok line)
line_next means start number state kept next line l0 l1 l2 t0 t1 way read =
    kept_next means start number state (kept ++ read.taken) next line [] l0 l2 t0 t1 (way_further means start number state kept read.taken l0 l1 l2 t0 t1 way read.gives) read.answer

over_next : {S : Type 0} (means : S → List ℕ → Meaning S) (start : S) (number : ℕ) (state : S) (kept next : List ℕ) (l0 l1 l2 t0 t1 : Option (List ℕ)) → number ≤ most_lines →
    IsUnderWay means start number state kept [] l0 l1 t0 t1 → ReadsLine l1 l2 kept next (Ok Over) → IsEnding means start l0 l2 t0 t1 [] (Refused number NoEnd)
unfolding way_further
over_next means start number state kept next l0 l1 l2 t0 t1 few way read =
    ending means start number state (kept ++ read.taken) [] l0 l2 t0 t1 (Refused number NoEnd) (way_further means start number state kept read.taken l0 l1 l2 t0 t1 way read.gives)
    (λ t2 all. subst (λ n. Runs means start l0 l2 t0 t2 (Refused n NoEnd)) (sym way.number_is)
    (over_at means start state way.texts way.lines (kept ++ read.taken) l0 l2 t0 t2 all read.answer.0 read.answer.2 (omega (arith, way.number_is, few))))

failed_next : {S : Type 0} (means : S → List ℕ → Meaning S) (start : S) (number : ℕ) (state : S) (kept next : List ℕ) (l0 l1 l2 t0 t1 : Option (List ℕ)) → number ≤ most_lines →
    IsUnderWay means start number state kept [] l0 l1 t0 t1 → ReadsLine l1 l2 kept next (Err Failed) → Runs means start l0 l2 t0 t1 ReadFault
unfolding way_further
failed_next means start number state kept next l0 l1 l2 t0 t1 few way read =
    failed_at means start state way.texts way.lines (kept ++ read.taken) l0 l2 t0 t1
    (all_taken means start number state (kept ++ read.taken) [] l0 l2 t0 t1 t1 (way_further means start number state kept read.taken l0 l1 l2 t0 t1 way read.gives) (Takes-nothing t1))
    read.answer.0 (omega (arith, way.number_is, few))

too_long_next : {S : Type 0} (means : S → List ℕ → Meaning S) (start : S) (number : ℕ) (state : S) (kept next : List ℕ) (l0 l1 l2 t0 t1 : Option (List ℕ)) →
    IsUnderWay means start number state kept [] l0 l1 t0 t1 → ReadsLine l1 l2 kept next (Err LineTooLong) → IsEnding means start l0 l2 t0 t1 [] (TooLong number)
unfolding way_further
too_long_next means start number state kept next l0 l1 l2 t0 t1 way read =
    ending means start number state (kept ++ read.taken) [] l0 l2 t0 t1 (TooLong number) (way_further means start number state kept read.taken l0 l1 l2 t0 t1 way read.gives)
    (λ t2 all. subst (λ n. Runs means start l0 l2 t0 t2 (TooLong n)) (sym way.number_is)
    (silent_at means start state way.texts way.lines (kept ++ read.taken) (too_long (length way.texts + 1)) l0 l2 t0 t2 all
    (past_decides means start state way.texts way.lines (kept ++ read.taken) way.lead way.whole (λ more. IsPastLimit-append (kept ++ read.taken) more read.answer.0))))

no_memory_next : {S : Type 0} (means : S → List ℕ → Meaning S) (start : S) (number : ℕ) (state : S) (kept next : List ℕ) (l0 l1 l2 t0 t1 : Option (List ℕ)) →
    IsUnderWay means start number state kept [] l0 l1 t0 t1 → ReadsLine l1 l2 kept next (Err NoMemory) → IsEnding means start l0 l2 t0 t1 [] OutOfMemory
no_memory_next means start number state kept next l0 l1 l2 t0 t1 way read =
    memory_next means start number state _ [] l0 l2 t0 t1 (way_further means start number state kept read.taken l0 l1 l2 t0 t1 way read.gives)

-- the line with a number was read, or it is told why not
pub read_next : {S : Type 0} (means : S → List ℕ → Meaning S) (start : S) (number : ℕ) (state : S) (kept next : List ℕ) (l0 l1 l2 t0 t1 : Option (List ℕ)) (result : Result (List ℕ) LineOutcome) → number ≤ most_lines →
    IsUnderWay means start number state kept [] l0 l1 t0 t1 → IsLineRead number kept next l1 l2 result → IsLineNext means start number state next [] l0 l2 t0 t1 result
read_next means start number state kept next l0 l1 l2 t0 t1 result few way read =
    subst (λ (r : Result (List ℕ) LineOutcome). IsLineNext means start number state next [] l0 l2 t0 t1 r) (sym read.told) (by_got read.got read.reads)
  where
    by_got : (got : Result Got LineFault) → ReadsLine l1 l2 kept next got → IsLineNext means start number state next [] l0 l2 t0 t1 (line_told number got)
    by_got (Ok (Line line)) reads = line_next means start number state kept next line l0 l1 l2 t0 t1 way reads
    by_got (Ok Over) reads = over_next means start number state kept next l0 l1 l2 t0 t1 few way reads
    by_got (Err Failed) reads = failed_next means start number state kept next l0 l1 l2 t0 t1 few way reads
    by_got (Err LineTooLong) reads = too_long_next means start number state kept next l0 l1 l2 t0 t1 way reads
    by_got (Err NoMemory) reads = no_memory_next means start number state kept next l0 l1 l2 t0 t1 way reads

-- as many lines as an input may have were read, and none of them was the last
pub most_read : {S : Type 0} (means : S → List ℕ → Meaning S) (start : S) (number : ℕ) (state : S) (kept pending : List ℕ) (l0 l1 t0 t1 : Option (List ℕ)) → most_lines < number →
    IsUnderWay means start number state kept pending l0 l1 t0 t1 → IsEnding means start l0 l1 t0 t1 pending (TooLong number)
most_read means start number state kept pending l0 l1 t0 t1 most way =
    ending means start number state kept pending l0 l1 t0 t1 (TooLong number) way
    (λ t2 all. subst (λ n. Runs means start l0 l1 t0 t2 (TooLong n)) (sym way.number_is)
    (silent_at means start state way.texts way.lines kept (too_long (length way.texts + 1)) l0 l1 t0 t2 all
    (most_decides means start state way.texts way.lines kept way.lead way.whole (omega (arith, way.number_is, most)))))

-- before any line
pub way_none : {S : Type 0} (means : S → List ℕ → Meaning S) (start : S) (left taken : Option (List ℕ)) → IsUnderWay means start 1 start [] [] left left taken taken
way_none means start left taken = record {
  texts = [];
  lines = [];
  lead = Lead-none means start;
  number_is = refl;
  whole = All-nil HasNoLineFeed;
  gives = Gives-nothing left;
  said = record { written = []; taken = Takes-nothing taken; all = refl };
}

-- memory is wanting before anything was read
pub no_memory : {S : Type 0} (means : S → List ℕ → Meaning S) (start : S) (left taken : Option (List ℕ)) → Runs means start left left taken taken OutOfMemory
no_memory means start left taken =
    memory_at means start start [] [] [] left left taken taken (record { lead = Lead-none means start; whole = All-nil HasNoLineFeed; gives = Gives-nothing left; takes = Takes-nothing taken })
