-- The scan of items is their grammar.
use Rattle.std.proofs.Common.{◌≡◌, ◌≢◌, ℕ, ◌-◌, ◌≤◌, ◌<◌, Bool, true, false, eqb, ltb, ◌&&◌, ◌||◌, MatchBool, List, [], ◌∷◌, ◌++◌, length, take, drop, replicate, Ok, Err, refl, sym, ap, subst, ◌∙◌, append_assoc, arith, inl, inr, lit<}
use Rattle.std.proofs.lemmas.Bool.{ltb-true, ltb-false, le-ltb, eqb-true, eq-eqb, ne_eqb, and_parts, and_from, or_cases}
use Rattle.std.proofs.lemmas.List.{length-append, length-take, length-replicate, take-append-drop, drop_at}
use Rattle.std.proofs.lemmas.List.Elements.{All-replicate}
use Rattle.cbor_items.specs.declared.head.Head.{Head}
use Rattle.cbor_items.specs.declared.stop.Stop.{Stop}
use Rattle.cbor_items.specs.declared.stop.Stop.TheVariants.{More, Bad}
use Rattle.cbor_items.specs.Reading.{◌>>=◌}
use Rattle.cbor_items.specs.Head.{major_of, info_of, argument_len, may_begin, head_of, IsHead, argument_at}
use Rattle.cbor_items.specs.Item.{Begins, IsPair, IsRow, IsRowToBreak, is_string, IsString}
use Rattle.cbor_items.specs.Scan.{Skip, skip_bytes, skip_pair, skip_chunk, skip_flat_content, skip_nested_content}
use Rattle.cbor_items.proofs.Skips.{HasFront, Skips, AreBytes-nil, AreBytes-append, bind_ok, bind_err, chosen, skips_pair, skips_same, skips_cond, example_cond, skips_nothing, skips_never, row_example, skips_row, StartsPlain, break_alone, skips_to_break, skips_equal, IsLed, skip_led, skips_led}
use Rattle.cbor_items.proofs.Heads.{argument_found, initial_is, argument_reads, argument_more, argument_stays}

-- ---- so many bytes

pub bytes_example : (n : ℕ) → Begins (λ x. length x ≡ n) []
bytes_example n = record { missing = replicate n 0; are_bytes = All-replicate (λ byte. byte < 256) n 0 (lit< tt); is = length-replicate n 0 }

bytes_found : (n : ℕ) (bytes rest : List ℕ) → skip_bytes n bytes ≡ Ok rest → HasFront (λ x. length x ≡ n) bytes rest
bytes_found n bytes rest e =
    elim (chosen (ltb (length bytes) n) (Err More) (Ok (drop n bytes)) (Ok rest) e) [
      | inl (short, read) ↦ absurd cc
      | inr (long, read) ↦
          let fits : n ≤ length bytes = ltb-false _ _ long in
          let rest-is : drop n bytes ≡ rest = cc in
          record { front = take n bytes; joined = rw (← rest-is) (sym (take-append-drop n bytes)); is = omega (arith, length-take n bytes) }
    ]

bytes_again : (n : ℕ) (front rest : List ℕ) → length front ≡ n → skip_bytes n (front ++ rest) ≡ Ok rest
bytes_again n front rest len =
    let long : ltb (length (front ++ rest)) n ≡ false = le-ltb _ _ (omega (arith, length-append front rest)) in
    rw (long, drop_at front rest n len) refl

bytes_more : (n : ℕ) (bytes : List ℕ) → skip_bytes n bytes ≡ Err More → Begins (λ x. length x ≡ n) bytes
bytes_more n bytes e =
    elim (chosen (ltb (length bytes) n) (Err More) (Ok (drop n bytes)) (Err More) e) [
      | inl (short, read) ↦
          let fill = bytes_example (n - length bytes) in
          let lt : length bytes < n = ltb-true _ _ short in
          record { missing = fill.missing; are_bytes = fill.are_bytes; is = omega (arith, length-append bytes fill.missing, fill.is) }
      | inr (long, read) ↦ absurd cc
    ]

bytes_stays : (n : ℕ) (bytes after : List ℕ) (stop : Stop) → stop ≢ More → skip_bytes n bytes ≡ Err stop → skip_bytes n (bytes ++ after) ≡ Err stop
bytes_stays n bytes after stop known e =
    elim (chosen (ltb (length bytes) n) (Err More) (Ok (drop n bytes)) (Err stop) e) [
      | inl (short, read) ↦ absurd (known cc)
      | inr (long, read) ↦ absurd cc
    ]

pub skips_bytes : (n : ℕ) → Skips (λ x. length x ≡ n) (skip_bytes n)
skips_bytes n = record { found = bytes_found n; again = bytes_again n; more = bytes_more n; stays = bytes_stays n }

-- ---- what stands behind an initial byte: an argument, and what its head announces

pub record IsBehind (Content : Head → List ℕ → Type 0) (initial : ℕ) (bytes : List ℕ) : Type 0 where
  pub head : Head
  pub argument : List ℕ
  pub content : List ℕ
  pub joined : bytes ≡ argument ++ content
  pub is_head : IsHead head (initial ∷ argument)
  pub is_content : Content head content

abbrev pub skip_behind : (Head → Skip) → ℕ → Skip
skip_behind content initial bytes = argument_at initial bytes >>= λ read. content read.0 read.1

module _ (Content : Head → List ℕ → Type 0) (content : Head → Skip) (skips : (head : Head) → Skips (Content head) (content head))
    (initial : ℕ) (begins : may_begin initial ≡ true)
    (example : 0 < argument_len (info_of initial) → (head : Head) (argument : List ℕ) → IsHead head (initial ∷ argument) → Begins (Content head) []) where
  behind_found : (bytes rest : List ℕ) → skip_behind content initial bytes ≡ Ok rest → HasFront (IsBehind Content initial) bytes rest
  behind_found bytes rest e =
      let b = bind_ok (argument_at initial bytes) (λ read. content read.0 read.1) rest e in
      let a = argument_found initial bytes b.0.0 b.0.1 begins b.1 in
      let c = (skips b.0.0).found b.0.1 rest b.2 in
      record {
        front = a.front ++ c.front;
        joined = a.joined ∙ ap (λ (x : List ℕ). a.front ++ x) c.joined ∙ sym (append_assoc a.front c.front rest);
        is = record { head = b.0.0; argument = a.front; content = c.front; joined = refl; is_head = a.is; is_content = c.is };
      }

  behind_again : (front rest : List ℕ) → IsBehind Content initial front → skip_behind content initial (front ++ rest) ≡ Ok rest
  behind_again front rest b =
      let after = b.content ++ rest in
      let regrouped : front ++ rest ≡ b.argument ++ after = ap (λ (x : List ℕ). x ++ rest) b.joined ∙ append_assoc b.argument b.content rest in
      let read = argument_reads initial b.argument b.head b.is_head after in
      ap (skip_behind content initial) regrouped ∙ ap (λ r. r >>= λ read. content read.0 read.1) read ∙ (skips b.head).again b.content rest b.is_content

  behind_more : (bytes : List ℕ) → skip_behind content initial bytes ≡ Err More → Begins (IsBehind Content initial) bytes
  behind_more bytes e =
      elim (bind_err (argument_at initial bytes) (λ read. content read.0 read.1) More e) [
        | inl short ↦
            let a = argument_more initial bytes begins short in
            let c = example a.some a.head (bytes ++ a.begun.missing) a.begun.is in
            record {
              missing = a.begun.missing ++ c.missing;
              are_bytes = AreBytes-append a.begun.missing c.missing a.begun.are_bytes c.are_bytes;
              is = record {
                head = a.head;
                argument = bytes ++ a.begun.missing;
                content = c.missing;
                joined = sym (append_assoc bytes a.begun.missing c.missing);
                is_head = a.begun.is;
                is_content = c.is;
              };
            }
        | inr then ↦
            let a = argument_found initial bytes then.read.0 then.read.1 begins then.is in
            let c = (skips then.read.0).more then.read.1 then.then in
            record {
              missing = c.missing;
              are_bytes = c.are_bytes;
              is = record {
                head = then.read.0;
                argument = a.front;
                content = then.read.1 ++ c.missing;
                joined = ap (λ (x : List ℕ). x ++ c.missing) a.joined ∙ append_assoc a.front then.read.1 c.missing;
                is_head = a.is;
                is_content = c.is;
              };
            }
      ]

  behind_stays : (bytes after : List ℕ) (stop : Stop) → stop ≢ More → skip_behind content initial bytes ≡ Err stop → skip_behind content initial (bytes ++ after) ≡ Err stop
  behind_stays bytes after stop known e =
      elim (bind_err (argument_at initial bytes) (λ read. content read.0 read.1) stop e) [
        | inl refused ↦ ap (λ r. r >>= λ read. content read.0 read.1) (argument_stays initial bytes after stop known refused)
        | inr then ↦
            let a = argument_found initial bytes then.read.0 then.read.1 begins then.is in
            let regrouped : bytes ++ after ≡ a.front ++ (then.read.1 ++ after) = ap (λ (x : List ℕ). x ++ after) a.joined ∙ append_assoc a.front then.read.1 after in
            let read = argument_reads initial a.front then.read.0 a.is (then.read.1 ++ after) in
            ap (skip_behind content initial) regrouped ∙ ap (λ r. r >>= λ read. content read.0 read.1) read ∙ (skips then.read.0).stays then.read.1 after stop known then.then
      ]

  pub skips_behind : Skips (IsBehind Content initial) (skip_behind content initial)
  skips_behind = record { found = behind_found; again = behind_again; more = behind_more; stays = behind_stays }

-- ---- chunks

abbrev pub IsLength : Head → List ℕ → Type 0
IsLength head bytes = length bytes ≡ head.value

abbrev pub begins_chunk : ℕ → ℕ → Bool
begins_chunk major initial = eqb (major_of initial) major && ltb (info_of initial) 28

pub chunk_begins : (major initial : ℕ) → begins_chunk major initial ≡ true → may_begin initial ≡ true
chunk_begins major initial e = rw ((and_parts (eqb (major_of initial) major) (ltb (info_of initial) 28) e).1) refl

-- definite strings begin so, and what begins so is one
chunk_to : (major initial : ℕ) (behind : List ℕ) → begins_chunk major initial ≡ true → IsBehind IsLength initial behind → IsString major (initial ∷ behind)
chunk_to major initial behind e b =
    let parts = and_parts (eqb (major_of initial) major) (ltb (info_of initial) 28) e in
    let i = initial_is initial b.argument b.head b.is_head in
    let info : info_of initial < 28 = ltb-true _ _ parts.1 in
    record {
      head = b.head;
      spelled = initial ∷ b.argument;
      content = b.content;
      joined = ap (λ (x : List ℕ). initial ∷ x) b.joined;
      is_head = b.is_head;
      is_major = ap (λ (h : Head). h.major) b.is_head.is ∙ ap major_of i.0 ∙ eqb-true _ _ parts.0;
      definite = ap (λ (h : Head). h.indefinite) b.is_head.is ∙ rw i.0 (ne_eqb (info_of initial) 31 (λ same. absurd (omega arith)));
      is_content = b.is_content;
    }

pub only_left : (a b c : Bool) → (a || (b && c)) ≡ true → b ≡ false → a ≡ true
only_left true b c e f = refl
only_left false true c e f = absurd cc
only_left false false c e f = e

chunk_back : (major : ℕ) (x : List ℕ) → IsString major x → (initial : ℕ) × (behind : List ℕ) × (x ≡ initial ∷ behind) × (begins_chunk major initial ≡ true) × IsBehind IsLength initial behind
chunk_back major x s =
    let h = s.is_head in
    let major-is : major_of h.initial ≡ major = sym (ap (λ (h : Head). h.major) h.is) ∙ s.is_major in
    let not_31 : eqb (info_of h.initial) 31 ≡ false = sym (ap (λ (h : Head). h.indefinite) h.is) ∙ s.definite in
    let below : ltb (info_of h.initial) 28 ≡ true = only_left _ _ _ h.begins not_31 in (
      h.initial,
      h.argument ++ s.content,
      s.joined ∙ ap (λ (x : List ℕ). x ++ s.content) h.joined,
      and_from _ _ (eq-eqb _ _ major-is) below,
      record { head = s.head; argument = h.argument; content = s.content; joined = refl; is_head = subst (IsHead s.head) h.joined h; is_content = s.is_content },
    )

abbrev pub skip_string : ℕ → Skip
skip_string = skip_behind (λ head. skip_bytes head.value)

-- the empty string
string_example : (major : ℕ) → is_string major ≡ true → Begins (IsString major) []
string_example major e =
    elim (or_cases (eqb major 2) (eqb major 3) e) [
      | inl two ↦ subst (λ (m : ℕ). Begins (IsString m) []) (sym (eqb-true _ _ two)) (record {
        missing = 0x40 ∷ [];
        are_bytes = All-replicate (λ byte. byte < 256) 1 0x40 (lit< tt);
        is = record {
          head = head_of 0x40 [];
          spelled = 0x40 ∷ [];
          content = [];
          joined = refl;
          is_head = record { initial = 0x40; argument = []; joined = refl; begins = refl; whole = refl; follows = refl; is = refl };
          is_major = refl;
          definite = refl;
          is_content = refl;
        };
      })
      | inr three ↦ subst (λ (m : ℕ). Begins (IsString m) []) (sym (eqb-true _ _ three)) (record {
        missing = 0x60 ∷ [];
        are_bytes = All-replicate (λ byte. byte < 256) 1 0x60 (lit< tt);
        is = record {
          head = head_of 0x60 [];
          spelled = 0x60 ∷ [];
          content = [];
          joined = refl;
          is_head = record { initial = 0x60; argument = []; joined = refl; begins = refl; whole = refl; follows = refl; is = refl };
          is_major = refl;
          definite = refl;
          is_content = refl;
        };
      })
    ]

pub string_from_led : (major : ℕ) (x : List ℕ) → IsLed (begins_chunk major) (IsBehind IsLength) x → IsString major x
string_from_led major x led = subst (IsString major) (sym led.joined) (chunk_to major led.first led.behind led.passed led.is)

pub led_from_string : (major : ℕ) (x : List ℕ) → IsString major x → IsLed (begins_chunk major) (IsBehind IsLength) x
led_from_string major x s = let b = chunk_back major x s in record { first = b.0; behind = b.1; joined = b.2; passed = b.3; is = b.4 }

pub chunk_is_led : (major : ℕ) (bytes : List ℕ) → skip_chunk major bytes ≡ skip_led (begins_chunk major) skip_string bytes
unfolding skip_chunk
chunk_is_led major [] = refl
chunk_is_led major (initial ∷ rest) = refl

pub skips_chunk : (major : ℕ) → is_string major ≡ true → Skips (IsString major) (skip_chunk major)
skips_chunk major text =
    let example = string_example major text in
    let some : Begins (IsLed (begins_chunk major) (IsBehind IsLength)) [] = record {
      missing = example.missing;
      are_bytes = example.are_bytes;
      is = led_from_string major example.missing example.is;
    } in
    skips_equal (skip_chunk major) (chunk_is_led major)
    (skips_same (string_from_led major) (led_from_string major)
    (skips_led (begins_chunk major) (IsBehind IsLength) skip_string
    (λ initial begins. skips_behind IsLength (λ head. skip_bytes head.value) (λ head. skips_bytes head.value) initial
    (chunk_begins major initial begins) (λ some head argument is. bytes_example head.value))
    some))

-- ---- no item begins as a break

pub head_is_plain : (head : Head) (spelled content : List ℕ) → IsHead head spelled → (head.major ≡ 7 → head.indefinite ≡ true → ⊥) → StartsPlain (spelled ++ content)
head_is_plain head spelled content is other = record {
  first = is.initial;
  rest = is.argument ++ content;
  joined = ap (λ (x : List ℕ). x ++ content) is.joined;
  no_break = λ same. other
      (ap (λ (h : Head). h.major) is.is ∙ ap major_of same)
      (ap (λ (h : Head). h.indefinite) is.is ∙ ap (λ (i : ℕ). eqb (info_of i) 31) same);
}

pub plain_same : (x y : List ℕ) → x ≡ y → StartsPlain y → StartsPlain x
plain_same x y e plain = subst StartsPlain (sym e) plain

pub string_is_plain : (major : ℕ) (x : List ℕ) → IsString major x → StartsPlain x
string_is_plain major x s =
    plain_same x (s.spelled ++ s.content) s.joined (head_is_plain s.head s.spelled s.content s.is_head (λ seven break. absurd cc))

pub pair_is_plain : (First Second : List ℕ → Type 0) → ((x : List ℕ) → First x → StartsPlain x) → (x : List ℕ) → IsPair First Second x → StartsPlain x
pair_is_plain First Second plain x p =
    let f = plain p.first p.is_first in
    record { first = f.first; rest = f.rest ++ p.second; joined = p.joined ∙ ap (λ (y : List ℕ). y ++ p.second) f.joined; no_break = f.no_break }

-- ---- an item that holds no other

abbrev pub FlatContent : Head → List ℕ → Type 0
FlatContent head x = MatchBool (is_string head.major)
    (MatchBool head.indefinite (IsRowToBreak (IsString head.major) x) (length x ≡ head.value))
    (MatchBool head.indefinite ⊥ (x ≡ []))

pub skips_flat_content : (head : Head) → Skips (FlatContent head) (skip_flat_content head)
unfolding skip_flat_content
skips_flat_content head =
    skips_cond (is_string head.major)
    (λ text. skips_cond head.indefinite
    (λ _. skips_to_break (IsString head.major) (skip_chunk head.major) (skips_chunk head.major text) (string_is_plain head.major))
    (λ _. skips_bytes head.value))
    (λ _. skips_cond head.indefinite (λ _. skips_never Bad (λ e. absurd cc)) (λ _. skips_nothing))

nothing_example : Begins (λ x. x ≡ []) []
nothing_example = record { missing = []; are_bytes = AreBytes-nil; is = refl }

pub flat_example : (initial : ℕ) → 0 < argument_len (info_of initial) → (head : Head) (argument : List ℕ) → IsHead head (initial ∷ argument) → Begins (FlatContent head) []
flat_example initial some head argument is =
    example_cond (is_string head.major)
    (λ text. example_cond head.indefinite (λ _. break_alone (IsString head.major)) (λ _. bytes_example head.value))
    (λ _. example_cond head.indefinite
    (λ break.
    let endless : eqb (info_of is.initial) 31 ≡ true = sym (ap (λ (h : Head). h.indefinite) is.is) ∙ break in
    let info : info_of initial ≡ 31 = ap info_of (sym (initial_is initial argument head is).0) ∙ eqb-true _ _ endless in
    let none : argument_len (info_of initial) ≡ 0 = rw info refl in
    absurd (omega arith))
    (λ _. nothing_example))

-- ---- an array, a map or a tag

abbrev pub NestedContent : (List ℕ → Type 0) → Head → List ℕ → Type 0
NestedContent Item head x = MatchBool (eqb head.major 4)
    (MatchBool head.indefinite (IsRowToBreak Item x) (IsRow Item head.value x))
    (MatchBool (eqb head.major 5)
    (MatchBool head.indefinite (IsRowToBreak (IsPair Item Item) x) (IsRow (IsPair Item Item) head.value x))
    (Item x))

module _ (Item : List ℕ → Type 0) (some : Begins Item []) where
  pub pair_example : Begins (IsPair Item Item) []
  pair_example = record {
    missing = some.missing ++ some.missing;
    are_bytes = AreBytes-append some.missing some.missing some.are_bytes some.are_bytes;
    is = record { first = some.missing; second = some.missing; joined = refl; is_first = some.is; is_second = some.is };
  }

  pub nested_example : (head : Head) → Begins (NestedContent Item head) []
  nested_example head =
      example_cond (eqb head.major 4)
      (λ _. example_cond head.indefinite (λ _. break_alone Item) (λ _. row_example Item some head.value))
      (λ _. example_cond (eqb head.major 5)
      (λ _. example_cond head.indefinite (λ _. break_alone (IsPair Item Item)) (λ _. row_example (IsPair Item Item) pair_example head.value))
      (λ _. some))

  pub skips_entry : (item : Skip) → Skips Item item → Skips (IsPair Item Item) (skip_pair item item)
  skips_entry item s = skips_pair Item Item item item s s some

  module _ (item : Skip) (s : Skips Item item) (plain : (x : List ℕ) → Item x → StartsPlain x) where
    pub skips_nested_content : (head : Head) → Skips (NestedContent Item head) (skip_nested_content item head)
    unfolding skip_nested_content
    skips_nested_content head =
        skips_cond (eqb head.major 4)
        (λ _. skips_cond head.indefinite (λ _. skips_to_break Item item s plain) (λ _. skips_row Item item s some head.value))
        (λ _. skips_cond (eqb head.major 5)
        (λ _. skips_cond head.indefinite
        (λ _. skips_to_break (IsPair Item Item) (skip_pair item item) (skips_entry item s) (pair_is_plain Item Item plain))
        (λ _. skips_row (IsPair Item Item) (skip_pair item item) (skips_entry item s) pair_example head.value))
        (λ _. s))
