-- A printed head is cut into its lines, and they are read as the settings.
use Rattle.std.proofs.Common.{◌≡◌, ◌≢◌, ℕ, ◌+◌, ◌^◌, ◌<◌, true, false, not, eqb, leb, List, [], ◌∷◌, ◌++◌, Option, Some, decimal, refl, ap, ◌∙◌, arith, lit<, inl, inr, if◌then◌else◌}
use Rattle.std.specs.Prelude.{codes, Result, Ok, Err}
use Rattle.std.specs.Option.{ok_or}
use Rattle.std.specs.List.{All, AllByRecursion, list_all, flat_map, join_with_byte}
use Rattle.std.specs.Fmt.{digits}
use Rattle.std.proofs.lemmas.Bool.{and_parts, cases_eq}
use Rattle.std.proofs.lemmas.List.{append_assoc}
use Rattle.std.proofs.lemmas.List.Elements.{All-from_recursion}
use Rattle.std.proofs.lemmas.List.Splits.{slice_split_at}
use Rattle.net_base.specs.Bounds.{within, settings_tests, AreSound}
use Rattle.net_base.specs.Number.{number_up_to}
use Rattle.net_base.specs.declared.address.Addr.{Addr}
use Rattle.net_base.specs.declared.settings.Settings.{Settings}
use Rattle.trace_text.specs.declared.line.HeadLine.TheVariants.{Trace, Own, Set}
use Rattle.trace_text.specs.declared.line.Line.{Line}
use Rattle.trace_text.specs.declared.line.Line.TheVariants.{Head}
use Rattle.trace_text.specs.declared.line.LineRefusal.{LineRefusal}
use Rattle.trace_text.specs.declared.line.LineRefusal.TheVariants.{BadWord, OutOfOrder}
use Rattle.trace_text.specs.declared.stage.Stage.{Stage}
use Rattle.trace_text.specs.Addresses.{IsAddress, knows_family, printed_address}
use Rattle.trace_text.specs.HeadTexts.{AreRead, ended, head_lines, head_said, printed_head, printed_setting, printed_settings, settings_said}
use Rattle.trace_text.specs.Lines.{line_of, second_line, setting_line, later_line}
use Rattle.trace_text.specs.Settings.{AreInRange, Setting, setting, setting_of, settings_under, setting_values}
use Rattle.trace_text.specs.Stages.{first_stage}
use Rattle.trace_text.specs.Reading.{◌>>=◌, from_least}
use Rattle.trace_text.specs.Words.{Unread, pieces_of}
use Rattle.trace_text.proofs.Apart.{IsApart, from_test, number_apart, address_apart}
use Rattle.trace_text.proofs.Cutting.{pieces_of-join}
use Rattle.trace_text.proofs.PrintedEvents.{OneWord, text_word, number_word, address_word, tested}
use Rattle.trace_text.proofs.Printed.{all_join, tested_apart}
use Rattle.trace_text.proofs.SettingLaws.{check_within, all_pass, range_of}
use Rattle.trace_text.proofs.Spelled.{IsBetween, numbers, addresses}

-- ---- lines

-- no line feed
abbrev OneLine : List ℕ → Type 0
OneLine = IsApart 10 (omega arith)

text_line : (bytes : List ℕ) → list_all (λ b. not (eqb b 10)) bytes ≡ true → OneLine bytes
text_line = from_test 10 (omega arith)

joined_line : (words : List (List ℕ)) → AllByRecursion OneLine words → OneLine (join_with_byte 32 words)
joined_line = all_join (λ b. b ≢ 10) 32 (λ e. omega arith)

setting_lines : (rows : List Setting) (values : List ℕ) → list_all (λ row. list_all (λ b. not (eqb b 10)) row.name) rows ≡ true → AllByRecursion OneLine (printed_settings rows values)
setting_lines [] values h = tt
setting_lines (row ∷ rows) [] h = tt
setting_lines (row ∷ rows) (value ∷ values) h =
    let p = and_parts (list_all (λ b. not (eqb b 10)) row.name) (list_all (λ row. list_all (λ b. not (eqb b 10)) row.name) rows) h in
    (joined_line (codes "set" ∷ row.name ∷ decimal value ∷ []) (text_line (codes "set") refl, (text_line row.name p.0, (number_apart 10 (omega arith) 10 value, tt))), setting_lines rows values p.1)

one_lines : (s : Settings) → AllByRecursion OneLine (head_lines s)
one_lines s = (
  joined_line (codes "trace" ∷ decimal s.version ∷ []) (text_line (codes "trace") refl, (number_apart 10 (omega arith) 10 s.version, tt)),
  (
    joined_line (codes "own" ∷ printed_address s.own ∷ []) (text_line (codes "own") refl, (address_apart 10 (omega arith) s.own, tt)),
    setting_lines (settings_under s.hard) (setting_values s) refl,
  ),
)

-- each line in another form: the test fails at each byte
lines_tested : (lines : List (List ℕ)) → AllByRecursion OneLine lines → AllByRecursion (All (λ b. eqb b 10 ≡ false)) lines
lines_tested [] h = tt
lines_tested (line ∷ lines) h = (tested_apart 10 line h.0, lines_tested lines h.1)

-- no line feed stands in a line of a head
pub head_lines-no_feed : (s : Settings) → All (All (λ b. eqb b 10 ≡ false)) (head_lines s)
head_lines-no_feed s = All-from_recursion (All (λ b. eqb b 10 ≡ false)) (head_lines s) (lines_tested (head_lines s) (one_lines s))

cut_lines : (lines : List (List ℕ)) → AllByRecursion OneLine lines → pieces_of 10 (flat_map ended lines) ≡ lines ++ [] ∷ []
cut_lines [] h = refl
cut_lines (line ∷ lines) h =
    ap (pieces_of 10) (append_assoc line (10 ∷ []) (flat_map ended lines))
    ∙ slice_split_at (λ c. eqb c 10) line 10 (flat_map ended lines) (tested_apart 10 line h.0) refl
    ∙ ap (λ (others : List (List ℕ)). line ∷ others) (cut_lines lines h.1)

pub cut_head : (s : Settings) → pieces_of 10 (printed_head s) ≡ head_lines s ++ [] ∷ []
cut_head s = cut_lines (head_lines s) (one_lines s)

-- ---- what the lines say

pub first_again : (version : ℕ) → IsBetween 1 2 version → line_of first_stage (join_with_byte 32 (codes "trace" ∷ decimal version ∷ [])) ≡ Ok (Head (Trace version))
unfolding digits
first_again version h = elim (cases_eq version 1) [
  | inl one ↦ rw one refl
  | inr other ↦ let two : version ≡ 2 = omega (arith, h.0, h.1) in rw two refl
]

-- a stage of the head
abbrev at_stage : ℕ → ℕ → ℕ → ℕ → Stage
at_stage version seen last hard = record { version = version; seen = seen; last = last; hard = hard; events = false }

pub second_again : (version : ℕ) (own : Addr) → IsAddress own → knows_family version own.ip ≡ true →
    line_of (at_stage version 1 0 512) (join_with_byte 32 (codes "own" ∷ printed_address own ∷ [])) ≡ Ok (Head (Own own))
second_again version own fits family =
    ap (λ (words : List (List ℕ)). second_line version (record { words = words; place = 1 }))
    (pieces_of-join 32 (codes "own") (printed_address own ∷ []) (tested (codes "own" ∷ printed_address own ∷ []) (text_word (codes "own") refl, (address_word own, tt))))
    ∙ rw ((addresses version).again own (fits, family)) refl

module _ (stage : Stage) where
  abbrev behind_name : (ℕ × Setting) × Unread → Result Line LineRefusal
  behind_name r = if leb r.0.0 stage.last then Err OutOfOrder else setting_line r.0.0 r.0.1.least r.0.1.most r.1

  found_again : (o : Option (ℕ × Setting)) (name : List ℕ) (place least most : ℕ) (value : ℕ) → o ≡ Some (place, setting name least most) → leb place stage.last ≡ false →
      from_least least (number_up_to most (decimal value)) ≡ Some value →
      ((ok_or o (BadWord 2) >>= λ found. Ok (found, record { words = decimal value ∷ []; place = 3 })) >>= behind_name) ≡ Ok (Head (Set place value))
  found_again o name place least most value found after read = rw (found, after, read) refl

pub set_again : (version last hard : ℕ) (name : List ℕ) (place least most value : ℕ) → OneWord name → setting_of hard name ≡ Some (place, setting name least most) → leb place last ≡ false →
    most < 2 ^ 64 → IsBetween least most value → line_of (at_stage version 2 last hard) (printed_setting name value) ≡ Ok (Head (Set place value))
set_again version last hard name place least most value one found after fits h =
    ap (λ (words : List (List ℕ)). later_line (at_stage version 2 last hard) (record { words = words; place = 1 }))
    (pieces_of-join 32 (codes "set") (name ∷ decimal value ∷ []) (tested (codes "set" ∷ name ∷ decimal value ∷ []) (text_word (codes "set") refl, (one, (number_word value, tt)))))
    ∙ found_again (at_stage version 2 last hard) (setting_of hard name) name place least most value found after ((numbers least most fits).again value h)

module _ (s : Settings) where
  -- a setting at its place, behind the one before it
  said : (hard : ℕ) (name : List ℕ) (place least most value : ℕ) → OneWord name → setting_of hard name ≡ Some (place + 1, setting name least most) → leb (place + 1) place ≡ false →
      most < 2 ^ 64 → IsBetween least most value → line_of (at_stage s.version 2 place hard) (printed_setting name value) ≡ Ok (Head (Set (place + 1) value))
  said hard name place least most value = set_again s.version place hard name (place + 1) least most value

  -- the usual hard limit is in force up to the line that sets it
  settings_again : s.hard < 2 ^ 64 → AreInRange (settings_under s.hard) (setting_values s) →
      AreRead (at_stage s.version 2 0 512) (printed_settings (settings_under s.hard) (setting_values s)) (settings_said 1 (setting_values s))
  settings_again fits h = (
    said 512 (codes "magic") 0 0 4294967295 s.magic (text_word (codes "magic") refl) refl refl (lit< tt) (h.0, h.1),
    (
      said 512 (codes "initiatoronly") 1 0 1 s.initiator_only (text_word (codes "initiatoronly") refl) refl refl (lit< tt) (h.2.0, h.2.1),
      (
        said 512 (codes "sharing") 2 0 1 s.sharing (text_word (codes "sharing") refl) refl refl (lit< tt) (h.2.2.0, h.2.2.1),
        (
          said 512 (codes "hard") 3 1 10000 s.hard (text_word (codes "hard") refl) refl refl (lit< tt) (h.2.2.2.0, h.2.2.2.1),
          (
            said s.hard (codes "soft") 4 0 s.hard s.soft (text_word (codes "soft") refl) refl refl fits (h.2.2.2.2.0, h.2.2.2.2.1),
            (
              said s.hard (codes "delay") 5 1 86400000 s.delay (text_word (codes "delay") refl) refl refl (lit< tt) (h.2.2.2.2.2.0, h.2.2.2.2.2.1),
              (
                said s.hard (codes "idle") 6 1 86400000 s.idle (text_word (codes "idle") refl) refl refl (lit< tt) (h.2.2.2.2.2.2.0, h.2.2.2.2.2.2.1),
                (
                  said s.hard (codes "timewait") 7 1 86400000 s.timewait (text_word (codes "timewait") refl) refl refl (lit< tt) (h.2.2.2.2.2.2.2.0, h.2.2.2.2.2.2.2.1),
                  (
                    said s.hard (codes "handshake") 8 1 86400000 s.handshake (text_word (codes "handshake") refl) refl refl (lit< tt) (h.2.2.2.2.2.2.2.2.0, h.2.2.2.2.2.2.2.2.1),
                    (
                      said s.hard (codes "reply") 9 1 86400000 s.reply (text_word (codes "reply") refl) refl refl (lit< tt) (h.2.2.2.2.2.2.2.2.2.0, h.2.2.2.2.2.2.2.2.2.1),
                      (
                        said s.hard (codes "backoff") 10 1 86400000 s.backoff (text_word (codes "backoff") refl) refl refl (lit< tt) (h.2.2.2.2.2.2.2.2.2.2.0, h.2.2.2.2.2.2.2.2.2.2.1),
                        (
                          said s.hard (codes "sharegap") 11 1 86400000 s.sharegap (text_word (codes "sharegap") refl) refl refl (lit< tt) (h.2.2.2.2.2.2.2.2.2.2.2.0, h.2.2.2.2.2.2.2.2.2.2.2.1),
                          (
                            said s.hard (codes "shares") 12 0 8 s.shares (text_word (codes "shares") refl) refl refl (lit< tt) (h.2.2.2.2.2.2.2.2.2.2.2.2.0, h.2.2.2.2.2.2.2.2.2.2.2.2.1),
                            tt,
                          ),
                        ),
                      ),
                    ),
                  ),
                ),
              ),
            ),
          ),
        ),
      ),
    ),
  )

  pub head_again : AreSound s → IsAddress s.own → knows_family s.version s.own.ip ≡ true → AreRead first_stage (head_lines s) (head_said s)
  head_again sound fits family =
      let version = and_parts (within 1 2 s.version) _ (all_pass (settings_tests s) sound) in
      let h = check_within s sound in
      let hard : s.hard < 2 ^ 64 = omega (arith, h.2.2.2.1) in
      (first_again s.version (range_of 1 2 s.version version.0), (second_again s.version s.own fits family, settings_again hard h))
