-- An event that is printed is read as itself.
use Rattle.std.proofs.Common.{◌≡◌, ℕ, ◌^◌, ◌≤◌, Bool, true, false, ◌&&◌, eqb, leb, not, List, [], ◌∷◌, length, map, Some, None, decimal, refl, sym, ap, ◌∙◌, arith, lit<}
use Rattle.std.specs.Prelude.{codes, Result, Ok}
use Rattle.std.specs.List.{All, AllByRecursion, list_all, flat_map, join_with_byte}
use Rattle.std.proofs.lemmas.Bool.{and_parts, eq-eqb, leb-true}
use Rattle.std.proofs.lemmas.List.{append-nil}
use Rattle.std.proofs.lemmas.List.Elements.{recursion_from_All}
use Rattle.hex.specs.Hex.{encode_lower, lower_digits}
use Rattle.net_base.specs.Bounds.{targets_fault, big_targets_fault}
use Rattle.net_base.specs.Limits.{IsWithinLimits, HasValencies, ServesAnInterval}
use Rattle.net_base.specs.declared.address.Addr.{Addr}
use Rattle.net_base.specs.declared.event.Event.{Event}
use Rattle.net_base.specs.declared.event.Event.TheVariants.{Now, Govern, Accepted, Dialed, Bytes, Closed, Aims, Locals, Roots, BigAims, Bigs}
use Rattle.net_base.specs.declared.event.Group.{Group}
use Rattle.net_base.specs.declared.event.RootAnswer.{RootAnswer}
use Rattle.net_base.specs.declared.event.RootAnswer.TheVariants.{Found, Failed}
use Rattle.net_base.specs.declared.settings.Field.{Field}
use Rattle.net_base.specs.declared.settings.Field.TheVariants as fields
use Rattle.net_base.specs.declared.targets.BigTargets.{BigTargets}
use Rattle.net_base.specs.declared.targets.Targets.{Targets}
use Rattle.trace_text.specs.declared.line.Line.{Line}
use Rattle.trace_text.specs.declared.line.Line.TheVariants.{Happen}
use Rattle.trace_text.specs.declared.line.LineRefusal.{LineRefusal}
use Rattle.trace_text.specs.Addresses.{printed_address}
use Rattle.trace_text.specs.EventTexts.{IsEventIn, IsKnownIn, AreKnownIn, IsAnswerIn, event_of, event_words, printed_event, outcome_word, sign_word, group_words, answer_words}
use Rattle.trace_text.specs.Events.{id_most, word_most, interval_most, addresses_from, event_line}
use Rattle.net_base.specs.Number.{number_up_to}
use Rattle.trace_text.specs.Reading.{◌>>=◌, from_least, next_word}
use Rattle.trace_text.specs.Words.{pieces_of}
use Rattle.trace_text.proofs.Apart.{IsApart, from_test, number_apart, address_apart, hex_apart}
use Rattle.trace_text.proofs.Cutting.{pieces_of-join}
use Rattle.trace_text.proofs.GroupLaws.{addresses_again, groups_again}
use Rattle.trace_text.proofs.HexPieces.{piece_again}
use Rattle.trace_text.proofs.Printed.{all_append, all_map, tested_apart}
use Rattle.trace_text.proofs.SettingLaws.{all_pass, range_of}
use Rattle.trace_text.proofs.Spelled.{numbers, addresses, outcomes}

-- ---- words without spaces

-- no space
abbrev pub OneWord : List ℕ → Type 0
OneWord = IsApart 32 (omega arith)

pub text_word : (bytes : List ℕ) → list_all (λ b. not (eqb b 32)) bytes ≡ true → OneWord bytes
text_word = from_test 32 (omega arith)

pub number_word : (n : ℕ) → OneWord (decimal n)
number_word = number_apart 32 (omega arith) 10

pub address_word : (address : Addr) → OneWord (printed_address address)
address_word = address_apart 32 (omega arith)

addresses_words : (members : List Addr) → AllByRecursion OneWord (map printed_address members)
addresses_words = all_map OneWord printed_address address_word

hex_word : (bytes : List ℕ) → OneWord (encode_lower bytes)
hex_word bytes = hex_apart 32 (omega arith) lower_digits bytes (λ e. omega arith) (text_word lower_digits refl)

outcome_one : (opened : Bool) → OneWord (outcome_word opened)
outcome_one true = text_word (codes "ok") refl
outcome_one false = text_word (codes "failed") refl

sign_one : (advertise : Bool) → OneWord (sign_word advertise)
sign_one true = text_word (codes "+") refl
sign_one false = text_word (codes "-") refl

groups_words : (groups : List Group) → AllByRecursion OneWord (flat_map group_words groups)
groups_words [] = tt
groups_words (group ∷ groups) =
    all_append OneWord (group_words group) (flat_map group_words groups)
    (text_word (codes "/") refl, (number_word group.hot, (number_word group.warm, (sign_one group.advertise, addresses_words group.members))))
    (groups_words groups)

answer_one : (answer : RootAnswer) → AllByRecursion OneWord (answer_words answer)
answer_one (Found ttl members) = (outcome_one true, (number_word ttl, addresses_words members))
answer_one Failed = (outcome_one false, tt)

pub words_one : (event : Event) → AllByRecursion OneWord (event_words event)
words_one (Now t) = (text_word (codes "now") refl, (number_word t, tt))
words_one (Govern word) = (text_word (codes "govern") refl, (number_word word, tt))
words_one (Accepted address) = (text_word (codes "accepted") refl, (address_word address, tt))
words_one (Dialed cid opened) = (text_word (codes "dialed") refl, (number_word cid.0, (outcome_one opened, tt)))
words_one (Bytes cid bytes) = (text_word (codes "bytes") refl, (number_word cid.0, (hex_word bytes, tt)))
words_one (Closed cid) = (text_word (codes "closed") refl, (number_word cid.0, tt))
words_one (Aims t) = (text_word (codes "targets") refl, (number_word t.root, (number_word t.known, (number_word t.established, (number_word t.active, tt)))))
words_one (Locals groups) = (text_word (codes "locals") refl, groups_words groups)
words_one (Roots job answer) = (text_word (codes "roots") refl, (number_word job.0, answer_one answer))
words_one (BigAims t) = (text_word (codes "bigtargets") refl, (number_word t.known, (number_word t.established, (number_word t.active, tt))))
words_one (Bigs members) = (text_word (codes "bigs") refl, addresses_words members)

-- each word in another form: the test fails at each byte
pub tested : (words : List (List ℕ)) → AllByRecursion OneWord words → AllByRecursion (All (λ c. eqb c 32 ≡ false)) words
tested [] h = tt
tested (word ∷ words) h = (tested_apart 32 word h.0, tested words h.1)

-- ---- targets in their bounds are numbers that may stand in a line

-- the tests of all targets but the root one
abbrev big_tests : ℕ → ℕ → ℕ → List (Field × Bool)
big_tests known established active =
    (fields.Known, leb known 10000)
    ∷ (fields.Established, leb established 1000 && leb established known)
    ∷ (fields.Active, leb active 100 && leb active established) ∷ []

record AreSmall (k e a : ℕ) : Type 0 where
  known : k ≤ 2 ^ 48
  established : e ≤ 2 ^ 48
  active : a ≤ 2 ^ 48

small_numbers : (known established active : ℕ) →
    list_all (λ t. t.1) (big_tests known established active) ≡ true → AreSmall known established active
small_numbers known established active h =
    let (first, others) = and_parts (leb known 10000) _ h in
    let (second, third) = and_parts (leb established 1000 && leb established known) _ others in
    let e = leb-true established 1000 (and_parts (leb established 1000) (leb established known) second).0 in
    let a = leb-true active 100 (and_parts (leb active 100) (leb active established) (and_parts (leb active 100 && leb active established) true third).0).0 in
    record { known = omega (arith, leb-true known 10000 first); established = omega (arith, e); active = omega (arith, a) }

small_targets : (t : Targets) → targets_fault t ≡ None → (t.root ≤ 2 ^ 48) × AreSmall t.known t.established t.active
small_targets t h =
    let (root, others) = and_parts (leb t.root t.known) _ (all_pass ((fields.Root, leb t.root t.known) ∷ big_tests t.known t.established t.active) h) in
    let small = small_numbers t.known t.established t.active others in
    (omega (arith, leb-true t.root t.known root, small.known), small)

small_big_targets : (t : BigTargets) → big_targets_fault t ≡ None → AreSmall t.known t.established t.active
small_big_targets t h = small_numbers t.known t.established t.active (all_pass (big_tests t.known t.established t.active) h)

-- ---- lines

id_again : (n : ℕ) → n ≤ 2 ^ 48 → from_least 0 (number_up_to id_most (decimal n)) ≡ Some n
id_again n h = (numbers 0 id_most (lit< tt)).again n (omega arith, h)

module _ (version : ℕ) where
  -- what is read behind the name
  abbrev ReadAs : List ℕ → List (List ℕ) → Event → Type 0
  ReadAs name words event = event_line version name (record { words = words; place = 2 }) ≡ Ok (Happen event)

  members_again : (members : List Addr) (place : ℕ) → AreKnownIn version members → (after : ℕ) × (addresses_from version place (map printed_address members) ≡ Ok (members, record { words = []; place = after }))
  members_again members place h =
      let r = addresses_again version members [] place (recursion_from_All (IsKnownIn version) members h) refl in
      (r.0, ap (addresses_from version place) (sym (append-nil (map printed_address members))) ∙ r.1)

  known_groups : (groups : List Group) → AllByRecursion (λ group. AreKnownIn version group.members) groups → AllByRecursion (λ group. AllByRecursion (IsKnownIn version) group.members) groups
  known_groups [] h = tt
  known_groups (group ∷ groups) h = (recursion_from_All (IsKnownIn version) group.members h.0, known_groups groups h.1)

  answer_again : (job : ℕ) (answer : RootAnswer) → job ≤ 2 ^ 48 → ServesAnInterval answer → IsAnswerIn version answer →
      ReadAs (codes "roots") (decimal job ∷ answer_words answer) (Roots (record { 0 = job }) answer)
  answer_again job (Found ttl members) small serves known =
      let n = (numbers 1 interval_most (lit< tt)).again ttl (range_of 1 interval_most ttl serves) in
      let m = members_again members 5 known in
      rw (id_again job small, n, m.1) refl
  answer_again job Failed small serves known = rw (id_again job small) refl

  abbrev read_words : List (List ℕ) → Result Line LineRefusal
  read_words words = next_word (record { words = words; place = 1 }) >>= λ r. event_line version r.0 r.1

  pub again : (event : Event) → IsWithinLimits event → IsEventIn version event → read_words (event_words event) ≡ Ok (Happen event)
  again (Now t) limits known = rw (id_again t limits) refl
  again (Govern word) limits known = rw ((numbers 0 word_most (lit< tt)).again word (omega arith, omega (arith, known))) refl
  again (Accepted address) limits known = rw ((addresses version).again address known) refl
  again (Dialed cid opened) limits known = rw (id_again cid.0 limits, outcomes.again opened tt) refl
  again (Bytes cid bytes) limits known = rw (id_again cid.0 limits.0, piece_again bytes (record { piece = limits.1; below = known })) refl
  again (Closed cid) limits known = rw (id_again cid.0 limits) refl
  again (Aims t) limits known =
      let s = small_targets t limits in
      rw (id_again t.root s.0, id_again t.known s.1.known, id_again t.established s.1.established, id_again t.active s.1.active, limits) refl
  again (Locals groups) limits known =
      rw (groups_again version (length (flat_map group_words groups)) groups 2 (recursion_from_All HasValencies groups limits) (known_groups groups (recursion_from_All (λ group. AreKnownIn version group.members) groups known)) (omega arith)) refl
  again (Roots job answer) limits known = answer_again job.0 answer limits.0 limits.1 known
  again (BigAims t) limits known =
      let s = small_big_targets t limits in
      rw (eq-eqb version 2 known, id_again t.known s.known, id_again t.established s.established, id_again t.active s.active, limits) refl
  again (Bigs members) limits known = let m = members_again members 2 known.1 in rw (eq-eqb version 2 known.0, m.1) refl

  -- words that are joined are cut into themselves, where they are read at all
  pub pieces_again : (words : List (List ℕ)) (event : Event) → AllByRecursion OneWord words → read_words words ≡ Ok (Happen event) → pieces_of 32 (join_with_byte 32 words) ≡ words
  pieces_again [] event apart h = absurd cc
  pieces_again (word ∷ words) event apart h = pieces_of-join 32 word words (tested (word ∷ words) apart)

  pub printed_again : (event : Event) → IsWithinLimits event → IsEventIn version event → event_of version (printed_event event) ≡ Ok (Happen event)
  printed_again event limits known =
      let read = again event limits known in
      ap read_words (pieces_again (event_words event) event (words_one event) read) ∙ read
