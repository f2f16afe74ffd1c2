-- Items of every depth: their productions by the initial byte, and the scan.
use Rattle.std.proofs.Common.{◌≡◌, ℕ, zero, suc, ◌<◌, Bool, true, false, cond, eqb, ◌||◌, MatchBool, ◌⊎◌, List, [], ◌∷◌, ◌++◌, length, Result, Ok, Err, refl, sym, ap, subst, ◌∙◌, inl, inr, lit<}
use Rattle.std.proofs.lemmas.Bool.{eqb-true, or_cases, or_parts, or_from, not-true, not_from_false}
use Rattle.std.proofs.lemmas.List.{append-nil}
use Rattle.std.proofs.lemmas.List.Elements.{All-replicate}
use Rattle.cbor_items.specs.declared.head.Head.{Head}
use Rattle.cbor_items.specs.declared.stop.Stop.{Stop}
use Rattle.cbor_items.specs.declared.stop.Stop.TheVariants.{Bad, Deep}
use Rattle.cbor_items.specs.Reading.{◌>>=◌}
use Rattle.cbor_items.specs.Head.{major_of, may_begin, head_of, IsHead}
use Rattle.cbor_items.specs.Item.{Begins, IsPair, IsRow, IsRowToBreak, is_string, holds_items, IsString, IsFlat, alone, string, chunks, IsNested, array, open_array, map, open_map, tag, IsItem}
use Rattle.cbor_items.specs.Scan.{Skip, skip_flat_content, skip_nested_content, skip_flat, skip_nested, is_nested, skip_either, skip_item}
use Rattle.cbor_items.proofs.Skips.{Skips, skips_same, skips_cond, skips_never, skips_equal, StartsPlain, IsLed, skip_led, skips_led}
use Rattle.cbor_items.proofs.Heads.{initial_is}
use Rattle.cbor_items.proofs.Items.{IsBehind, skips_behind, FlatContent, NestedContent, skips_flat_content, flat_example, skips_nested_content, nested_example, head_is_plain, plain_same}

-- ---- the productions, by the head

-- a head and what it announces
pub record IsHeaded (Content : Head → List ℕ → Type 0) (bytes : List ℕ) : Type 0 where
  pub head : Head
  pub spelled : List ℕ
  pub content : List ℕ
  pub joined : bytes ≡ spelled ++ content
  pub is_head : IsHead head spelled
  pub is_content : Content head content

flat_cases : (head : Head) (spelled content : List ℕ) (text endless : Bool) → IsHead head spelled → holds_items head.major ≡ false
    → is_string head.major ≡ text → head.indefinite ≡ endless
    → MatchBool text (MatchBool endless (IsRowToBreak (IsString head.major) content) (length content ≡ head.value)) (MatchBool endless ⊥ (content ≡ []))
    → IsFlat (spelled ++ content)
flat_cases head spelled content true true is others text endless row = chunks spelled content is text endless row
flat_cases head spelled content true false is others text endless len =
    string text (record { head = head; spelled = spelled; content = content; joined = refl; is_head = is; is_major = refl; definite = endless; is_content = len })
flat_cases head spelled content false true is others text endless never = absurd never
flat_cases head spelled content false false is others text endless none =
    let e : spelled ++ content ≡ spelled = ap (λ (x : List ℕ). spelled ++ x) none ∙ append-nil spelled in
    subst IsFlat (sym e) (alone is (not_from_false _ (or_from _ _ text others)) endless)

last_of : (a b c : Bool) → (a || b || c) ≡ true → a ≡ false → b ≡ false → c ≡ true
last_of true b c e f g = absurd cc
last_of false true c e f g = absurd cc
last_of false false c e f g = e

nested_cases : (Item : List ℕ → Type 0) (head : Head) (spelled content : List ℕ) (four five endless : Bool) → IsHead head spelled → holds_items head.major ≡ true
    → eqb head.major 4 ≡ four → eqb head.major 5 ≡ five → head.indefinite ≡ endless
    → MatchBool four (MatchBool endless (IsRowToBreak Item content) (IsRow Item head.value content))
    (MatchBool five (MatchBool endless (IsRowToBreak (IsPair Item Item) content) (IsRow (IsPair Item Item) head.value content)) (Item content))
    → IsNested Item (spelled ++ content)
nested_cases Item head spelled content true five true is holds a b e c = open_array spelled content is (eqb-true _ _ a) e c
nested_cases Item head spelled content true five false is holds a b e c = array spelled content is (eqb-true _ _ a) e c
nested_cases Item head spelled content false true true is holds a b e c = open_map spelled content is (eqb-true _ _ b) e c
nested_cases Item head spelled content false true false is holds a b e c = map spelled content is (eqb-true _ _ b) e c
nested_cases Item head spelled content false false endless is holds a b e c =
    tag spelled content is (eqb-true _ _ (last_of _ _ _ holds a b)) c

-- ---- and back

string_holds_nothing : (major : ℕ) → is_string major ≡ true → holds_items major ≡ false
string_holds_nothing major text =
    elim (or_cases (eqb major 2) (eqb major 3) text) [
      | inl two ↦ rw (eqb-true _ _ two) refl
      | inr three ↦ rw (eqb-true _ _ three) refl
    ]

flat_headed : (x : List ℕ) → IsFlat x → (h : IsHeaded FlatContent x) × (holds_items h.head.major ≡ false)
flat_headed x (alone {head} {spelled} is stands definite) =
    let parts : (is_string head.major ≡ false) × (holds_items head.major ≡ false) = or_parts (is_string head.major) (holds_items head.major) (not-true _ stands) in (
      record { head = head; spelled = spelled; content = []; joined = sym (append-nil spelled); is_head = is; is_content = rw (parts.0, definite) refl },
      parts.1,
    )
flat_headed x (string {major} text s) =
    let text' : is_string s.head.major ≡ true = ap is_string s.is_major ∙ text in (
      record { head = s.head; spelled = s.spelled; content = s.content; joined = s.joined; is_head = s.is_head; is_content = rw (text', s.definite) s.is_content },
      string_holds_nothing s.head.major text',
    )
flat_headed x (chunks {head} spelled content is text endless row) = (
  record { head = head; spelled = spelled; content = content; joined = refl; is_head = is; is_content = rw (text, endless) row },
  string_holds_nothing head.major text,
)

nested_headed : (Item : List ℕ → Type 0) (x : List ℕ) → IsNested Item x → (h : IsHeaded (NestedContent Item) x) × (holds_items h.head.major ≡ true)
nested_headed Item x (array {head} spelled content is four definite row) =
    (record { head = head; spelled = spelled; content = content; joined = refl; is_head = is; is_content = rw (four, definite) row }, rw four refl)
nested_headed Item x (open_array {head} spelled content is four endless row) =
    (record { head = head; spelled = spelled; content = content; joined = refl; is_head = is; is_content = rw (four, endless) row }, rw four refl)
nested_headed Item x (map {head} spelled content is five definite row) =
    (record { head = head; spelled = spelled; content = content; joined = refl; is_head = is; is_content = rw (five, definite) row }, rw five refl)
nested_headed Item x (open_map {head} spelled content is five endless row) =
    (record { head = head; spelled = spelled; content = content; joined = refl; is_head = is; is_content = rw (five, endless) row }, rw five refl)
nested_headed Item x (tag {head} spelled content is six item) =
    (record { head = head; spelled = spelled; content = content; joined = refl; is_head = is; is_content = rw six item }, rw six refl)

-- ---- by the initial byte

abbrev pub BehindItem : (ℕ → List ℕ → Type 0) → ℕ → List ℕ → Type 0
BehindItem Nested initial behind = MatchBool (is_nested initial) (Nested initial behind) (IsBehind FlatContent initial behind)

headed_behind : (Content : Head → List ℕ → Type 0) (x : List ℕ) (h : IsHeaded Content x) → IsBehind Content h.is_head.initial (h.is_head.argument ++ h.content)
headed_behind Content x h = record {
  head = h.head;
  argument = h.is_head.argument;
  content = h.content;
  joined = refl;
  is_head = subst (IsHead h.head) h.is_head.joined h.is_head;
  is_content = h.is_content;
}

headed_joined : (Content : Head → List ℕ → Type 0) (x : List ℕ) (h : IsHeaded Content x) → x ≡ h.is_head.initial ∷ (h.is_head.argument ++ h.content)
headed_joined Content x h = h.joined ∙ ap (λ (y : List ℕ). y ++ h.content) h.is_head.joined

headed_major : (Content : Head → List ℕ → Type 0) (x : List ℕ) (h : IsHeaded Content x) → h.head.major ≡ major_of h.is_head.initial
headed_major Content x h = ap (λ (y : Head). y.major) h.is_head.is

pub flat_led : (Nested : ℕ → List ℕ → Type 0) (x : List ℕ) → IsFlat x → IsLed may_begin (BehindItem Nested) x
flat_led Nested x flat =
    let f = flat_headed x flat in
    let h = f.0 in
    let others : is_nested h.is_head.initial ≡ false = ap holds_items (sym (headed_major FlatContent x h)) ∙ f.1 in
    record {
      first = h.is_head.initial;
      behind = h.is_head.argument ++ h.content;
      joined = headed_joined FlatContent x h;
      passed = h.is_head.begins;
      is = rw others (headed_behind FlatContent x h);
    }

abbrev pub NestedBehind : (List ℕ → Type 0) → ℕ → List ℕ → Type 0
NestedBehind Item = IsBehind (NestedContent Item)

nested_led : (Item : List ℕ → Type 0) (x : List ℕ) → IsNested Item x → IsLed may_begin (BehindItem (NestedBehind Item)) x
nested_led Item x nested =
    let f = nested_headed Item x nested in
    let h = f.0 in
    let holds : is_nested h.is_head.initial ≡ true = ap holds_items (sym (headed_major (NestedContent Item) x h)) ∙ f.1 in
    record {
      first = h.is_head.initial;
      behind = h.is_head.argument ++ h.content;
      joined = headed_joined (NestedContent Item) x h;
      passed = h.is_head.begins;
      is = rw holds (headed_behind (NestedContent Item) x h);
    }

behind_major : (Content : Head → List ℕ → Type 0) (initial : ℕ) (behind : List ℕ) (b : IsBehind Content initial behind) → b.head.major ≡ major_of initial
behind_major Content initial behind b = ap (λ (y : Head). y.major) b.is_head.is ∙ ap major_of (initial_is initial b.argument b.head b.is_head).0

flat_from_behind : (initial : ℕ) (behind : List ℕ) → is_nested initial ≡ false → IsBehind FlatContent initial behind → IsFlat (initial ∷ behind)
flat_from_behind initial behind others b =
    subst IsFlat (ap (λ (y : List ℕ). initial ∷ y) (sym b.joined))
    (flat_cases b.head (initial ∷ b.argument) b.content (is_string b.head.major) b.head.indefinite b.is_head
    (ap holds_items (behind_major FlatContent initial behind b) ∙ others) refl refl b.is_content)

nested_from_behind : (Item : List ℕ → Type 0) (initial : ℕ) (behind : List ℕ) → is_nested initial ≡ true → NestedBehind Item initial behind → IsNested Item (initial ∷ behind)
nested_from_behind Item initial behind holds b =
    subst (IsNested Item) (ap (λ (y : List ℕ). initial ∷ y) (sym b.joined))
    (nested_cases Item b.head (initial ∷ b.argument) b.content (eqb b.head.major 4) (eqb b.head.major 5) b.head.indefinite b.is_head
    (ap holds_items (behind_major (NestedContent Item) initial behind b) ∙ holds) refl refl refl b.is_content)

led_cases : (Nested : ℕ → List ℕ → Type 0) (b : Bool) (initial : ℕ) (behind : List ℕ) → MatchBool b (Nested initial behind) (IsBehind FlatContent initial behind)
    → is_nested initial ≡ b → ((b ≡ false) × IsFlat (initial ∷ behind)) ⊎ ((b ≡ true) × Nested initial behind)
led_cases Nested true initial behind is e = inr (refl, is)
led_cases Nested false initial behind is e = inl (refl, flat_from_behind initial behind e is)

-- ---- the scan is the grammar

abbrev pub NoneBehind : ℕ → List ℕ → Type 0
NoneBehind initial behind = ⊥

pub item_led : (depth : ℕ) (x : List ℕ) → IsItem (suc depth) x → IsLed may_begin (BehindItem (NestedBehind (IsItem depth))) x
unfolding IsItem
item_led depth x (inl flat) = flat_led (NestedBehind (IsItem depth)) x flat
item_led depth x (inr nested) = nested_led (IsItem depth) x nested

pub led_item : (depth : ℕ) (x : List ℕ) → IsLed may_begin (BehindItem (NestedBehind (IsItem depth))) x → IsItem (suc depth) x
unfolding IsItem
led_item depth x led =
    elim (led_cases (NestedBehind (IsItem depth)) (is_nested led.first) led.first led.behind led.is refl) [
      | inl (others, flat) ↦ inl (subst IsFlat (sym led.joined) flat)
      | inr (holds, nested) ↦ inr (subst (IsNested (IsItem depth)) (sym led.joined) (nested_from_behind (IsItem depth) led.first led.behind holds nested))
    ]

pub led_flat : (x : List ℕ) → IsLed may_begin (BehindItem NoneBehind) x → IsFlat x
led_flat x led =
    elim (led_cases NoneBehind (is_nested led.first) led.first led.behind led.is refl) [
      | inl (others, flat) ↦ subst IsFlat (sym led.joined) flat
      | inr (holds, never) ↦ absurd never
    ]

-- the number 0
zero_is_flat : IsFlat (0 ∷ [])
zero_is_flat = alone {head = head_of 0 []} (record { initial = 0; argument = []; joined = refl; begins = refl; whole = refl; follows = refl; is = refl }) refl refl

pub item_example : (depth : ℕ) → Begins (IsItem depth) []
unfolding IsItem
item_example zero = record { missing = 0 ∷ []; are_bytes = All-replicate (λ byte. byte < 256) 1 0 (lit< tt); is = zero_is_flat }
item_example (suc depth) = record { missing = 0 ∷ []; are_bytes = All-replicate (λ byte. byte < 256) 1 0 (lit< tt); is = inl zero_is_flat }

flat_is_plain : (x : List ℕ) → IsFlat x → StartsPlain x
flat_is_plain x flat =
    let h = (flat_headed x flat).0 in
    plain_same x (h.spelled ++ h.content) h.joined
    (head_is_plain h.head h.spelled h.content h.is_head (λ seven endless. let never : ⊥ = rw (seven, endless) at h.is_content in never))

nested_is_plain : (Item : List ℕ → Type 0) (x : List ℕ) → IsNested Item x → StartsPlain x
nested_is_plain Item x nested =
    let f = nested_headed Item x nested in
    let h = f.0 in
    plain_same x (h.spelled ++ h.content) h.joined
    (head_is_plain h.head h.spelled h.content h.is_head (λ seven endless. let never : holds_items 7 ≡ true = rw seven at f.1 in absurd cc))

pub item_is_plain : (depth : ℕ) (x : List ℕ) → IsItem depth x → StartsPlain x
unfolding IsItem
item_is_plain zero x flat = flat_is_plain x flat
item_is_plain (suc depth) x (inl flat) = flat_is_plain x flat
item_is_plain (suc depth) x (inr nested) = nested_is_plain (IsItem depth) x nested

abbrev pub skip_behind_item : (ℕ → Skip) → ℕ → Skip
skip_behind_item nested initial behind = cond (is_nested initial) (nested initial behind) (skip_flat initial behind)

bind_cond : {A B : Type 0} (b : Bool) (x : A) (stop : Stop) (f : A → Result B Stop) → (cond b (Ok x) (Err stop) >>= f) ≡ cond b (f x) (Err stop)
bind_cond true x stop f = refl
bind_cond false x stop f = refl

pub either_is_led : (nested : ℕ → Skip) (bytes : List ℕ) → skip_either nested bytes ≡ skip_led may_begin (skip_behind_item nested) bytes
either_is_led nested [] = refl
either_is_led nested (initial ∷ rest) = bind_cond (may_begin initial) (initial, rest) Bad (λ (read : ℕ × List ℕ). skip_behind_item nested read.0 read.1)

skips_either : (Nested : ℕ → List ℕ → Type 0) (nested : ℕ → Skip) → ((initial : ℕ) → may_begin initial ≡ true → Skips (Nested initial) (nested initial))
    → Skips (IsLed may_begin (BehindItem Nested)) (skip_either nested)
skips_either Nested nested skips =
    let some : Begins (IsLed may_begin (BehindItem Nested)) [] = record {
      missing = 0 ∷ [];
      are_bytes = All-replicate (λ byte. byte < 256) 1 0 (lit< tt);
      is = flat_led Nested (0 ∷ []) zero_is_flat;
    } in
    skips_equal (skip_either nested) (either_is_led nested)
    (skips_led may_begin (BehindItem Nested) (skip_behind_item nested)
    (λ initial begins. skips_cond (is_nested initial) (λ _. skips initial begins)
    (λ _. skips_behind FlatContent skip_flat_content skips_flat_content initial begins (flat_example initial)))
    some)

pub skips_item : (depth : ℕ) → Skips (IsItem depth) (skip_item depth)
unfolding IsItem skip_item
skips_item zero =
    skips_same led_flat (flat_led NoneBehind) (skips_either NoneBehind (λ initial rest. Err Deep) (λ initial begins. skips_never Deep (λ e. absurd cc)))
skips_item (suc depth) =
    let Item = IsItem depth in
    skips_same (led_item depth) (item_led depth)
    (skips_either (NestedBehind Item) (skip_nested (skip_item depth))
    (λ initial begins. skips_behind (NestedContent Item) (skip_nested_content (skip_item depth))
    (skips_nested_content Item (item_example depth) (skip_item depth) (skips_item depth) (item_is_plain depth))
    initial begins (λ some head argument is. nested_example Item (item_example depth) head)))
