-- What a line comes to that is compared with what is due.
use Rattle.std.proofs.Common.{◌≡◌, ℕ, ◌+◌, ◌<◌, Bool, true, false, cond, List, [], ◌++◌, length, drop, Option, Some, None, OnOk, Result, Ok, Err, refl, sym, ap, ◌∙◌, subst}
use Rattle.std.specs.Prelude.{bytes_eq}
use Rattle.std.proofs.lemmas.Bool.{lt-leb}
use Rattle.std.proofs.lemmas.List.{append-nil}
use Rattle.std.proofs.lemmas.Slice.Eq.{bytes_eq-Decides}
use Rattle.io_edge.specs.Lines.{ended_lines}
use Rattle.io_edge.specs.Pending.{front_line}
use Rattle.line_run.specs.Judgement.{most_lines}
use Rattle.line_run.specs.Meaning.{Meaning, goes_on, ends, IsInterpreted}
use Rattle.line_run.specs.declared.stop.Stop.{Stop}
use Rattle.trace_play.specs.Checking.{Agreed, agreed, is_another, passing, ending, actions_before, compared, checked}
use Rattle.trace_play.specs.Playback.{Kept, events_taken}
use Rattle.trace_play.specs.Played.{played}
use Rattle.trace_play.proofs.Playing.{last_none}

-- it is another one
pub passing_another : (lines : ℕ) (next : Kept) (text due : List ℕ) (first : Option (List ℕ)) → ¬ (first ≡ Some text) → passing lines next text due first ≡ is_another lines text first
passing_another lines next text due None another = refl
passing_another lines next text due (Some line) another = by_test (bytes_eq line text) refl
  where
    by_test : (b : Bool) → bytes_eq line text ≡ b →
        cond b (goes_on (agreed next (lines + 1) (drop (length text + 1) due)) []) (is_another lines text (Some line)) ≡ is_another lines text (Some line)
    by_test true same = absurd (another (ap (λ (l : List ℕ). Some l) ((bytes_eq-Decides line text).0 same)))
    by_test false other = refl

-- what is kept behind one that isn't
pub passing_kept : (P : Kept → ℕ → Type 0) (lines : ℕ) (played : Kept) (text due : List ℕ) (first : Option (List ℕ)) (next : Agreed) (pending later : List ℕ) (result : Result (Unit {0}) Stop) →
    P played (lines + 1) → IsInterpreted (passing lines played text due first) next pending later result → OnOk result (P next.playback next.lines)
passing_kept P lines played text due first next pending later (Err stop) at is = tt
passing_kept P lines played text due None next pending later (Ok done) at is = let none = is.1 in absurd cc
passing_kept P lines played text due (Some line) next pending later (Ok done) at is = by_test (bytes_eq line text) is.1
  where
    by_test : (b : Bool) → cond b (goes_on (agreed played (lines + 1) (drop (length text + 1) due)) []) (is_another lines text (Some line)) ≡ goes_on next is.0 → P next.playback next.lines
    by_test true e = let same : agreed played (lines + 1) (drop (length text + 1) due) ≡ next = cc in subst (λ (a : Agreed). P a.playback a.lines) same at
    by_test false e = absurd cc

-- no line goes on behind `end`
pub ending_stops : (P : Type 0) (lines events actions : ℕ) (first : Option (List ℕ)) (next : Agreed) (pending later : List ℕ) (result : Result (Unit {0}) Stop) →
    IsInterpreted (ending lines events actions first) next pending later result → OnOk result P
ending_stops P lines events actions first next pending later (Err stop) is = tt
ending_stops P lines events actions None next pending later (Ok done) is = let none = is.1 in absurd cc
ending_stops P lines events actions (Some line) next pending later (Ok done) is = let none = is.1 in absurd cc

-- it is `end`
pub checked_ending : (before next : Agreed) (text due pending later : List ℕ) (said : List (List ℕ)) (events actions : ℕ) (result : Result (Unit {0}) Stop) → before.lines < most_lines →
    played [] before.playback text ≡ ends said → due ≡ before.due ++ ended_lines said → events ≡ events_taken before.playback.engine → actions ≡ actions_before before →
    IsInterpreted (ending before.lines events actions (front_line due)) next pending later result → IsInterpreted (checked before text) next pending later result
checked_ending before next text due pending later said events actions result few is says events_are actions_are =
    let still : due ≡ before.due = says ∙ ap (λ (ls : List (List ℕ)). before.due ++ ended_lines ls) (last_none before.playback text said is) ∙ append-nil before.due in
    let meant : ending before.lines events actions (front_line due) ≡ checked before text =
    rw (still, events_are, actions_are, lt-leb most_lines before.lines few) (sym (ap (compared before text) is)) in
    subst (λ (m : Meaning Agreed). IsInterpreted m next pending later result) meant
