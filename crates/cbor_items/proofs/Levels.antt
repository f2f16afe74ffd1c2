-- Items with more levels: what an item is, what is no item, and what is too deep.
use Rattle.std.proofs.Common.{◌≡◌, ℕ, zero, suc, true, eqb, ltb, List, [], ◌++◌, length, drop, Ok, Err, refl, ap, inl, inr}
use Rattle.cbor_items.specs.declared.head.Head.{Head}
use Rattle.cbor_items.specs.declared.stop.Stop.TheVariants.{More, Bad, Deep}
use Rattle.cbor_items.specs.Reading.{◌>>=◌}
use Rattle.cbor_items.specs.Head.{may_begin}
use Rattle.cbor_items.specs.Item.{Begins, IsPair, is_string, IsString, IsItem}
use Rattle.cbor_items.specs.Scan.{Skip, skip_bytes, skip_pair, skip_chunk, skip_flat_content, skip_nested_content, skip_nested, is_nested, skip_either, skip_item}
use Rattle.cbor_items.proofs.Skips.{Skips, AreBytes-append, chosen, StartsPlain, IsLed}
use Rattle.cbor_items.proofs.Heads.{every_argument}
use Rattle.cbor_items.proofs.Items.{IsBehind, IsLength, begins_chunk, chunk_begins, skip_string, string_from_led, led_from_string, chunk_is_led, skips_chunk, string_is_plain, pair_is_plain, FlatContent, NestedContent, pair_example, nested_example, skips_entry}
use Rattle.cbor_items.proofs.Grammar.{BehindItem, NestedBehind, NoneBehind, skip_behind_item, either_is_led, led_item, item_led, flat_led, item_example, item_is_plain, skips_item}
use Rattle.cbor_items.proofs.Deeper.{Deepens, deepens_same, deepens_flat, deepens_cond, deepens_pair, deepens_row, deepens_to_break, deepens_behind, deepens_led}

-- ---- items that hold no other

deepens_bytes : (n : ℕ) → Deepens (λ x. length x ≡ n) (skip_bytes n) (λ x. length x ≡ n) (skip_bytes n)
deepens_bytes n = deepens_flat (λ x. length x ≡ n) (skip_bytes n) (λ bytes e. elim (chosen (ltb (length bytes) n) (Err More) (Ok (drop n bytes)) (Err Deep) e) [
  | inl (short, read) ↦ absurd cc
  | inr (long, read) ↦ absurd cc
])

deepens_chunk : (major : ℕ) → Deepens (IsString major) (skip_chunk major) (IsString major) (skip_chunk major)
deepens_chunk major =
    deepens_same (skip_chunk major) (skip_chunk major) (led_from_string major) (string_from_led major) (chunk_is_led major) (chunk_is_led major)
    (deepens_led (begins_chunk major) (IsBehind IsLength) (IsBehind IsLength) skip_string skip_string
    (λ initial begins. deepens_behind IsLength IsLength (λ head. skip_bytes head.value) (λ head. skip_bytes head.value)
    (λ head. deepens_bytes head.value) initial (chunk_begins major initial begins)))

no_chunk : (major : ℕ) → skip_chunk major [] ≡ Err More
unfolding skip_chunk
no_chunk major = refl

deepens_flat_content : (head : Head) → Deepens (FlatContent head) (skip_flat_content head) (FlatContent head) (skip_flat_content head)
unfolding skip_flat_content
deepens_flat_content head =
    let major = head.major in
    deepens_cond (is_string major)
    (λ text. deepens_cond head.indefinite
    (λ _. deepens_to_break (IsString major) (IsString major) (skip_chunk major) (skip_chunk major) (skips_chunk major text) (skips_chunk major text)
    (deepens_chunk major) (string_is_plain major) (no_chunk major))
    (λ _. deepens_bytes head.value))
    (λ _. deepens_cond head.indefinite (λ _. deepens_flat (λ x. ⊥) (λ x. Err Bad) (λ bytes e. absurd cc)) (λ _. deepens_flat (λ x. x ≡ []) Ok (λ bytes e. absurd cc)))

-- ---- arrays, maps and tags

module _ (Item Item' : List ℕ → Type 0) (item item' : Skip) (s : Skips Item item) (s' : Skips Item' item') (d : Deepens Item item Item' item')
    (some : Begins Item []) (some' : Begins Item' []) (plain : (x : List ℕ) → Item x → StartsPlain x) (nothing : item [] ≡ Err More) where
  deepens_entry : Deepens (IsPair Item Item) (skip_pair item item) (IsPair Item' Item') (skip_pair item' item')
  deepens_entry = deepens_pair Item Item' Item Item' item item' item item' s s' d d some'

  no_entry : skip_pair item item [] ≡ Err More
  no_entry = ap (λ r. r >>= item) nothing

  deepens_nested_content : (head : Head) → Deepens (NestedContent Item head) (skip_nested_content item head) (NestedContent Item' head) (skip_nested_content item' head)
  unfolding skip_nested_content
  deepens_nested_content head =
      deepens_cond (eqb head.major 4)
      (λ _. deepens_cond head.indefinite
      (λ _. deepens_to_break Item Item' item item' s s' d plain nothing)
      (λ _. deepens_row Item Item' item item' s s' d some' head.value))
      (λ _. deepens_cond (eqb head.major 5)
      (λ _. deepens_cond head.indefinite
      (λ _. deepens_to_break (IsPair Item Item) (IsPair Item' Item') (skip_pair item item) (skip_pair item' item')
      (skips_entry Item some item s) (skips_entry Item' some' item' s') deepens_entry (pair_is_plain Item Item plain) no_entry)
      (λ _. deepens_row (IsPair Item Item) (IsPair Item' Item') (skip_pair item item) (skip_pair item' item')
      (skips_entry Item some item s) (skips_entry Item' some' item' s') deepens_entry (pair_example Item' some') head.value))
      (λ _. d))

-- ---- items

behind_item : (Nested Nested' : ℕ → List ℕ → Type 0) (nested nested' : ℕ → Skip)
    → ((initial : ℕ) → may_begin initial ≡ true → Deepens (Nested initial) (nested initial) (Nested' initial) (nested' initial))
    → Deepens (IsLed may_begin (BehindItem Nested)) (skip_either nested) (IsLed may_begin (BehindItem Nested')) (skip_either nested')
behind_item Nested Nested' nested nested' d =
    deepens_same (skip_either nested) (skip_either nested') (λ x led. led) (λ x led. led) (either_is_led nested) (either_is_led nested')
    (deepens_led may_begin (BehindItem Nested) (BehindItem Nested') (skip_behind_item nested) (skip_behind_item nested')
    (λ initial begins. deepens_cond (is_nested initial) (λ _. d initial begins)
    (λ _. deepens_behind FlatContent FlatContent skip_flat_content skip_flat_content deepens_flat_content initial begins)))

no_item : (depth : ℕ) → skip_item depth [] ≡ Err More
unfolding skip_item
no_item zero = refl
no_item (suc depth) = refl

-- where no level is left each array, map and tag is too deep, and each begins one
too_deep : (Item : List ℕ → Type 0) (item : Skip) → Begins Item [] → (initial : ℕ) → may_begin initial ≡ true
    → Deepens (NoneBehind initial) (λ x. Err Deep) (NestedBehind Item initial) (skip_nested item initial)
too_deep Item item some initial begins =
    let a = every_argument initial begins in
    let c = nested_example Item some a.0 in
    record {
      wider = λ x never. absurd never;
      bad = λ bytes e. absurd cc;
      deep = λ bytes e. record {
        front = [];
        rest = bytes;
        joined = refl;
        is_deep = refl;
        begun = record {
          missing = a.1.missing ++ c.missing;
          are_bytes = AreBytes-append a.1.missing c.missing a.1.are_bytes c.are_bytes;
          is = record { head = a.0; argument = a.1.missing; content = c.missing; joined = refl; is_head = a.1.is; is_content = c.is };
        };
      };
    }

pub deepens_item : (depth : ℕ) → Deepens (IsItem depth) (skip_item depth) (IsItem (suc depth)) (skip_item (suc depth))
unfolding IsItem skip_item
deepens_item zero =
    deepens_same (skip_item 0) (skip_item 1) (flat_led NoneBehind) (led_item 0) (λ x. refl) (λ x. refl)
    (behind_item NoneBehind (NestedBehind (IsItem 0)) (λ initial rest. Err Deep) (skip_nested (skip_item 0)) (too_deep (IsItem 0) (skip_item 0) (item_example 0)))
deepens_item (suc depth) =
    let Item = IsItem depth in
    let Item' = IsItem (suc depth) in
    deepens_same (skip_item (suc depth)) (skip_item (suc (suc depth))) (item_led depth) (led_item (suc depth)) (λ x. refl) (λ x. refl)
    (behind_item (NestedBehind Item) (NestedBehind Item') (skip_nested (skip_item depth)) (skip_nested (skip_item (suc depth)))
    (λ initial begins. deepens_behind (NestedContent Item) (NestedContent Item') (skip_nested_content (skip_item depth)) (skip_nested_content (skip_item (suc depth)))
    (deepens_nested_content Item Item' (skip_item depth) (skip_item (suc depth)) (skips_item depth) (skips_item (suc depth)) (deepens_item depth)
    (item_example depth) (item_example (suc depth)) (item_is_plain depth) (no_item depth)) initial begins))
