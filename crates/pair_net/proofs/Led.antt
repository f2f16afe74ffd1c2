-- The pair that lines lead to is one that steps lead to.
use Rattle.std.proofs.Common.{◌≡◌, ℕ, ◌<◌, ◌^◌, leb, decimal, List, [], ◌∷◌, take, Result, Ok, Err, refl, sym, subst, arith, inl, inr, lit<}
use Rattle.std.specs.Prelude.{codes}
use Rattle.std.proofs.lemmas.Bool.{cases_Bool}
use Rattle.hs_message.specs.declared.info.VersionInfo.{VersionInfo}
use Rattle.io_edge.specs.Lines.{whole_lines}
use Rattle.line_run.specs.Meaning.{goes_on}
use Rattle.line_run.specs.Refusals.{if_read}
use Rattle.net_base.specs.Number.{number_up_to}
use Rattle.trace_text.specs.declared.line.LineRefusal.{LineRefusal}
use Rattle.trace_text.specs.declared.line.LineRefusal.TheVariants.{BadWord, BadNumber}
use Rattle.trace_text.specs.Reading.{◌>>=◌, from_least, next_read, next_number, no_more, this_word}
use Rattle.trace_text.specs.Words.{Unread, words_of}
use Rattle.trace_text.proofs.Binds.{bound}
use Rattle.trace_text.proofs.Spelled.{IsBetween, numbers, next_only}
use Rattle.pair_net.specs.Law.{CanOffer, IsReached}
use Rattle.pair_net.specs.Lines.{opening_line, info_of, info_line, later_line}
use Rattle.pair_net.specs.Pair.{PairState, fresh_pair}
use Rattle.pair_net.specs.Replay.{most_steps, step_means, line_means, led_by, led_through, progress_after, IsLawfulSoFar}
use Rattle.pair_net.specs.Steps.{stepped}
use Rattle.pair_net.specs.declared.pair_line.PairLine.{PairLine}
use Rattle.pair_net.specs.declared.pair_line.PairLine.TheVariants.{Step, Skipped, End}
use Rattle.pair_net.specs.declared.pair_replay.Progress.{Progress}
use Rattle.pair_net.specs.declared.pair_replay.Progress.TheVariants.{Opening, Left, Right, Steps}
use Rattle.pair_net.proofs.Reached.{reached_step, reached_alike}
use Rattle.pair_net.proofs.Refusals.{agreements_are_heard, refusals_are_told}
use Rattle.pair_net.proofs.Rightly.{agree_rightly}
use Rattle.pair_net.specs.Law.{AgreesRightly}

-- ---- what an end says of itself

a_magic : (unread rest : Unread) (n : ℕ) → next_number 0 4294967295 unread ≡ Ok (n, rest) → n < 2 ^ 32
a_magic unread rest n h =
    let most = (next_only (λ word. from_least 0 (number_up_to 4294967295 word)) BadNumber decimal (IsBetween 0 4294967295) (numbers 0 4294967295 (lit< tt)) unread rest n h).fits.1 in
    omega (arith, most)

same_info : (said info : VersionInfo) → ◌≡◌ {A = Result VersionInfo LineRefusal} (Ok said) (Ok info) → said ≡ info
same_info said info h = cc

info_can : (name : List ℕ) (unread : Unread) (info : VersionInfo) → info_line name unread ≡ Ok info → CanOffer info
info_can name unread info h =
    let e = bound (next_read (this_word name) BadWord unread)
    (λ r. next_number 0 4294967295 r.1 >>= λ m. next_number 0 1 m.1 >>= λ o. next_number 0 1 o.1 >>= λ s. no_more s.1 >>= λ over. Ok (info_of m.0 o.0 s.0)) info h in
    let m = bound (next_number 0 4294967295 e.value.1) (λ m. next_number 0 1 m.1 >>= λ o. next_number 0 1 o.1 >>= λ s. no_more s.1 >>= λ over. Ok (info_of m.0 o.0 s.0)) info e.after in
    let o = bound (next_number 0 1 m.value.1) (λ o. next_number 0 1 o.1 >>= λ s. no_more s.1 >>= λ over. Ok (info_of m.value.0 o.0 s.0)) info m.after in
    let s = bound (next_number 0 1 o.value.1) (λ s. no_more s.1 >>= λ over. Ok (info_of m.value.0 o.value.0 s.0)) info o.after in
    let over = bound (no_more s.value.1) (λ over. Ok (info_of m.value.0 o.value.0 s.value.0)) info s.after in
    subst CanOffer (same_info (info_of m.value.0 o.value.0 s.value.0) info over.after)
    (record { offers = refl; magic = a_magic e.value.1 m.value.1 m.value.0 m.before })

-- ---- the lines

abbrev IsLed : Progress → Type 0
IsLed Opening = Unit {0}
IsLed Left = Unit {0}
IsLed (Right left) = CanOffer left
IsLed (Steps pair count) = IsReached pair

led_opening : (text : List ℕ) (read : Result (Unit {0}) LineRefusal) → IsLed (led_by (if_read read (λ _. goes_on Left (text ∷ []))) Opening)
led_opening text (Ok over) = tt
led_opening text (Err refusal) = tt

led_left : (text : List ℕ) (read : Result VersionInfo LineRefusal) → ((info : VersionInfo) → read ≡ Ok info → CanOffer info)
    → IsLed (led_by (if_read read (λ left. goes_on (Right left) (text ∷ []))) Left)
led_left text (Ok info) can = can info refl
led_left text (Err refusal) can = tt

led_right : (left : VersionInfo) (text : List ℕ) (read : Result VersionInfo LineRefusal) → CanOffer left → ((info : VersionInfo) → read ≡ Ok info → CanOffer info)
    → IsLed (led_by (if_read read (λ right. goes_on (Steps (fresh_pair left right) 0) (text ∷ []))) (Right left))
led_right left text (Ok right) offers can = record { left = left; right = right; steps = []; left_offers = offers; right_offers = can right refl; leads = refl }
led_right left text (Err refusal) offers can = offers

led_steps : (pair : PairState) (count : ℕ) (text : List ℕ) (read : Result PairLine LineRefusal) → IsReached pair → IsLed (led_by (if_read read (step_means pair count text)) (Steps pair count))
led_steps pair count text (Err refusal) reached = reached
led_steps pair count text (Ok Skipped) reached = reached
led_steps pair count text (Ok End) reached = reached
led_steps pair count text (Ok (Step step)) reached = elim (cases_Bool (leb most_steps count)) [
  | inl many ↦ rw many reached
  | inr few ↦ rw few (reached_step pair (stepped step pair).pair step reached refl)
]

led_line : (text : List ℕ) (progress : Progress) → IsLed progress → IsLed (led_by (line_means progress text) progress)
led_line text Opening led = led_opening text (opening_line (words_of text))
led_line text Left led = led_left text (info_line (codes "left") (words_of text)) (info_can (codes "left") (words_of text))
led_line text (Right left) led = led_right left text (info_line (codes "right") (words_of text)) led (info_can (codes "right") (words_of text))
led_line text (Steps pair count) led = led_steps pair count text (later_line text) led

led_on : (texts : List (List ℕ)) (progress : Progress) → IsLed progress → IsLed (led_through texts progress)
led_on [] progress led = led
led_on (text ∷ texts) progress led = led_on texts (led_by (line_means progress text) progress) (led_line text progress led)

rightly : (p : PairState) (r : IsReached p) → AgreesRightly r.left r.right p
rightly p r = subst (AgreesRightly r.left r.right) (sym r.leads) (agree_rightly r.left r.right r.steps r.left_offers r.right_offers)

lawful_so_far : (progress : Progress) → IsLed progress → IsLawfulSoFar progress
lawful_so_far Opening led = tt
lawful_so_far Left led = tt
lawful_so_far (Right left) led = tt
lawful_so_far (Steps pair count) led = record { reached = led; alike = reached_alike pair led; rightly = rightly pair led; told = refusals_are_told pair; by_word = agreements_are_heard pair }

pub lawful_after : (input : List ℕ) (count : ℕ) → IsLawfulSoFar (progress_after count input)
lawful_after input count = lawful_so_far (progress_after count input) (led_on (take count (whole_lines input)) Opening tt)
