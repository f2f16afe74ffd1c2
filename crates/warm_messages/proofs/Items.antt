-- What spells a message is an item, and the first number of an item.
use Rattle.std.proofs.Common.{◌≡◌, ℕ, zero, suc, Bool, true, false, MatchBool, List, [], ◌∷◌, ◌++◌, length, Option, Some, None, option_map, Ok, refl, sym, ap, subst, ◌∙◌, append_assoc, arith, inl, inr}
use Rattle.std.proofs.lemmas.List.{append-nil, append_cancel_right}
use Rattle.cbor_items.specs.declared.head.Head.{Head}
use Rattle.cbor_items.specs.Head.{IsHead, head_at}
use Rattle.cbor_items.specs.Definite.{IsNumber}
use Rattle.cbor_items.specs.Front.{number_at}
use Rattle.cbor_items.specs.Item.{IsPair, AreInTurn, IsRow, IsFlat, IsNested, IsItem, level_limit}
use Rattle.cbor_items.specs.Item.IsFlat.{alone, string, chunks}
use Rattle.cbor_items.specs.Item.IsNested.{array, open_array, map, open_map, tag}
use Rattle.cbor_items.specs.Scan.{skip_item, is_one_item}
use Rattle.cbor_items.proofs.Readers.{bind_some, reads_number, number_is_plain}
use Rattle.cbor_items.proofs.Turns.{number_is_item, in_turn_is_row}
use Rattle.cbor_items.proofs.Skips.{chosen}
use Rattle.cbor_items.proofs.Heads.{head_again}
use Rattle.cbor_items.proofs.Grammar.{skips_item}
use Rattle.cbor_items.proofs.Fronts.{one_is_item, item_is_one}
use Rattle.net_base.specs.declared.address.Addr.{Addr}
use Rattle.warm_messages.specs.declared.array.Length.{Length}
use Rattle.warm_messages.specs.declared.alive.Alive.{Alive}
use Rattle.warm_messages.specs.declared.share.Share.{Share}
use Rattle.warm_messages.specs.declared.share.Share.TheVariants as share
use Rattle.warm_messages.specs.Array.{IsNumbers, EndsArray, IsArray}
use Rattle.warm_messages.specs.Address.{SpellsAddress}
use Rattle.warm_messages.specs.Message.{alive_numbers, SpellsAlive, SpellsAddresses, SpellsShare}
use Rattle.warm_messages.specs.Reading.{length_of, opening_at}
use Rattle.warm_messages.specs.First.{HasFirstNumber, first_number_of, item_number_of}
use Rattle.warm_messages.proofs.Arrays.{some_pair, opening_found, opening_again}

-- ---- arrays are items

ended_array : (depth count : ℕ) (head : Head) (spelled content ending : List ℕ) (indefinite : Bool) → head.indefinite ≡ indefinite → IsHead head spelled → head.major ≡ 4
    → IsRow (IsItem depth) count content → MatchBool indefinite (ending ≡ 255 ∷ []) ((ending ≡ []) × (head.value ≡ count)) → IsNested (IsItem depth) (spelled ++ (content ++ ending))
ended_array depth count head spelled content ending true is-open is_head major row ends =
    open_array spelled (content ++ ending) is_head major is-open (record { count = count; things = content; joined = ap (λ (y : List ℕ). content ++ y) ends; is_row = row })
ended_array depth count head spelled content ending false is-open is_head major row ends =
    let same : spelled ++ content ≡ spelled ++ (content ++ ending) = ap (λ (y : List ℕ). spelled ++ y) (sym (ap (λ (y : List ℕ). content ++ y) ends.0 ∙ append-nil content)) in
    subst (IsNested (IsItem depth)) same (array spelled content is_head major is-open (subst (λ (n : ℕ). IsRow (IsItem depth) n content) (sym ends.1) row))

pub array_is_item : (depth count : ℕ) (Content : List ℕ → Type 0) (bytes : List ℕ) → ((content : List ℕ) → Content content → IsRow (IsItem depth) count content)
    → IsArray count Content bytes → IsItem (suc depth) bytes
unfolding IsItem
array_is_item depth count Content bytes rows is =
    inr (subst (IsNested (IsItem depth)) (sym is.joined)
    (ended_array depth count is.head is.spelled is.content is.ending is.head.indefinite refl is.is_head is.array (rows is.content is.is_content) is.ends))

list_is_item : {A : Type 0} (depth : ℕ) (Spells : A → List ℕ → Type 0) → ((x : A) (bytes : List ℕ) → Spells x bytes → IsItem depth bytes)
    → (xs : List A) (bytes : List ℕ) → IsArray (length xs) (AreInTurn Spells xs) bytes → IsItem (suc depth) bytes
list_is_item depth Spells items xs bytes is = array_is_item depth (length xs) (AreInTurn Spells xs) bytes (in_turn_is_row (IsItem depth) Spells items xs) is

numbers_are_item : (depth : ℕ) (numbers bytes : List ℕ) → IsNumbers numbers bytes → IsItem (suc depth) bytes
numbers_are_item depth numbers bytes is = list_is_item depth IsNumber (number_is_item depth) numbers bytes is

addresses_are_item : (depth : ℕ) (peers : List Addr) (bytes : List ℕ) → SpellsAddresses peers bytes → IsItem (suc (suc depth)) bytes
addresses_are_item depth peers bytes is =
    list_is_item (suc depth) SpellsAddress (λ addr address s. numbers_are_item depth s.numbers address s.spelled) peers bytes is

pub alive_is_item : (message : Alive) (bytes : List ℕ) → SpellsAlive message bytes → IsItem level_limit bytes
alive_is_item message bytes (fits, is) = numbers_are_item 63 (alive_numbers message) bytes is

pub share_is_item : (message : Share) (bytes : List ℕ) → SpellsShare message bytes → IsItem level_limit bytes
share_is_item (share.Request n) bytes is = numbers_are_item 63 (0 ∷ n ∷ []) bytes is
share_is_item (share.Peers peers) bytes is =
    array_is_item 63 2 _ bytes (λ content p. record {
      first = p.first;
      second = p.second;
      joined = p.joined;
      is_first = number_is_item 63 1 p.first p.is_first;
      is_second = record { first = p.second; second = []; joined = sym (append-nil p.second); is_first = addresses_are_item 61 peers p.second p.is_second; is_second = refl };
    }) is
share_is_item share.Done bytes is = numbers_are_item 63 (2 ∷ []) bytes is

-- ---- the first number

-- the head of what is opened is that of an array
opened_is_array : (head : Head) (spelled content : List ℕ) (size : Length) (inner : List ℕ) → IsHead head spelled → opening_at (spelled ++ content) ≡ Some (size, inner) → head.major ≡ 4
opened_is_array head spelled content size inner is opened =
    let o = opening_found (spelled ++ content) size inner opened in
    let one : head_at (spelled ++ content) ≡ Some head = head_again head spelled content is in
    let other : head_at (spelled ++ content) ≡ Some o.0 = ap head_at o.3.joined ∙ head_again o.0 o.3.front inner o.3.is in
    let same : Some head ≡ Some o.0 = sym one ∙ other in
    let head-is : head ≡ o.0 = cc in
    ap (λ (h : Head). h.major) head-is ∙ o.1

opened_alone : (head : Head) (spelled : List ℕ) (size : Length) (inner : List ℕ) → IsHead head spelled → opening_at spelled ≡ Some (size, inner) → head.major ≡ 4
opened_alone head spelled size inner is opened = opened_is_array head spelled [] size inner is (ap opening_at (append-nil spelled) ∙ opened)

flat_is_no_array : (bytes : List ℕ) (size : Length) (inner : List ℕ) → opening_at bytes ≡ Some (size, inner) → IsFlat bytes → ⊥
flat_is_no_array _ size inner opened (alone {head = head} {spelled = spelled} is stands definite) =
    let none : false ≡ true = rw (opened_alone head spelled size inner is opened) at stands in absurd cc
flat_is_no_array _ size inner opened (string {major = major} {bytes = bytes} a_string is) =
    let four = opened_is_array is.head is.spelled is.content size inner is.is_head (ap opening_at (sym is.joined) ∙ opened) in
    let none : false ≡ true = rw (sym is.is_major ∙ four) at a_string in absurd cc
flat_is_no_array _ size inner opened (chunks {head = head} spelled content is a_string indefinite row) =
    let none : false ≡ true = rw (opened_is_array head spelled content size inner is opened) at a_string in absurd cc

-- what stands behind the elements begins no number
abbrev BeginsNoNumber : List ℕ → Type 0
BeginsNoNumber after = (n : ℕ) (rest : List ℕ) → number_at after ≡ Some (n, rest) → ⊥

nothing_begins_no_number : BeginsNoNumber []
nothing_begins_no_number n rest e =
    let f = reads_number.found [] n rest e in
    let p = number_is_plain n f.front f.is in
    let none : [] ≡ p.first ∷ (p.rest ++ rest) = f.joined ∙ ap (λ (y : List ℕ). y ++ rest) p.joined in
    absurd cc

break_begins_no_number : BeginsNoNumber (255 ∷ [])
break_begins_no_number n rest e =
    let f = reads_number.found (255 ∷ []) n rest e in
    let p = number_is_plain n f.front f.is in
    let same : 255 ∷ [] ≡ p.first ∷ (p.rest ++ rest) = f.joined ∙ ap (λ (y : List ℕ). y ++ rest) p.joined in
    p.no_break cc

record HasFirst (n count : ℕ) (content : List ℕ) : Type 0 where
  others : ℕ
  more : count ≡ suc others
  is : IsPair (IsNumber n) (IsRow (IsItem 63) others) content

row_has_first : (count : ℕ) (content after : List ℕ) (n : ℕ) (rest : List ℕ) → BeginsNoNumber after → IsRow (IsItem 63) count content
    → number_at (content ++ after) ≡ Some (n, rest) → HasFirst n count content
row_has_first zero content after n rest none row e = absurd (none n rest (ap (λ (y : List ℕ). number_at (y ++ after)) (sym row) ∙ e))
row_has_first (suc others) content after n rest none row e =
    let number = reads_number.found (content ++ after) n rest e in
    let skips = skips_item 63 in
    let behind = row.second ++ after in
    let split : content ++ after ≡ row.first ++ behind = ap (λ (y : List ℕ). y ++ after) row.joined ∙ append_assoc row.first row.second after in
    let one = skips.again number.front rest (number_is_item 63 n number.front number.is) in
    let other = skips.again row.first behind row.is_first in
    let same : Ok rest ≡ Ok behind = sym one ∙ ap (skip_item 63) (sym number.joined ∙ split) ∙ other in
    let rest-is : rest ≡ behind = cc in
    let whole : content ++ after ≡ (number.front ++ row.second) ++ after =
    number.joined ∙ ap (λ (y : List ℕ). number.front ++ y) rest-is ∙ sym (append_assoc number.front row.second after) in
    record {
      others = others;
      more = refl;
      is = record { first = number.front; second = row.second; joined = append_cancel_right _ _ after whole; is_first = number.is; is_second = row.is_second };
    }

ends_by_number : (head : Head) (others : ℕ) → head.indefinite ≡ false → head.value ≡ suc others → EndsArray head (suc others) []
ends_by_number head others closed more = rw closed (refl, more)

ends_by_break : (head : Head) (count : ℕ) → head.indefinite ≡ true → EndsArray head count (255 ∷ [])
ends_by_break head count endless = rw endless refl

nested_has_first : (n : ℕ) (bytes : List ℕ) (size : Length) (inner rest : List ℕ) → opening_at bytes ≡ Some (size, inner) → number_at inner ≡ Some (n, rest)
    → IsNested (IsItem 63) bytes → HasFirstNumber n bytes
nested_has_first n _ size inner rest opened number (array {head = head} spelled content is major closed row) =
    let again = some_pair _ _ _ _ (sym opened ∙ opening_again head spelled content is major) in
    let read : number_at (content ++ []) ≡ Some (n, rest) = ap number_at (append-nil content ∙ sym again.1) ∙ number in
    let first = row_has_first head.value content [] n rest nothing_begins_no_number row read in
    record {
      others = first.others;
      is = record {
        head = head;
        spelled = spelled;
        content = content;
        ending = [];
        joined = ap (λ (y : List ℕ). spelled ++ y) (sym (append-nil content));
        is_head = is;
        array = major;
        is_content = first.is;
        ends = ends_by_number head first.others closed first.more;
      };
    }
nested_has_first n _ size inner rest opened number (open_array {head = head} spelled content is major endless row) =
    let again = some_pair _ _ _ _ (sym opened ∙ opening_again head spelled content is major) in
    let read : number_at (row.things ++ 255 ∷ []) ≡ Some (n, rest) = ap number_at (sym row.joined ∙ sym again.1) ∙ number in
    let first = row_has_first row.count row.things (255 ∷ []) n rest break_begins_no_number row.is_row read in
    record {
      others = first.others;
      is = record {
        head = head;
        spelled = spelled;
        content = row.things;
        ending = 255 ∷ [];
        joined = ap (λ (y : List ℕ). spelled ++ y) row.joined;
        is_head = is;
        array = major;
        is_content = first.is;
        ends = ends_by_break head (suc first.others) endless;
      };
    }
nested_has_first n _ size inner rest opened number (map {head = head} spelled content is major closed row) =
    let four = opened_is_array head spelled content size inner is opened in absurd (omega arith)
nested_has_first n _ size inner rest opened number (open_map {head = head} spelled content is major endless row) =
    let four = opened_is_array head spelled content size inner is opened in absurd (omega arith)
nested_has_first n _ size inner rest opened number (tag {head = head} spelled content is major item) =
    let four = opened_is_array head spelled content size inner is opened in absurd (omega arith)

array_has_first : (n : ℕ) (bytes : List ℕ) (size : Length) (inner rest : List ℕ) → opening_at bytes ≡ Some (size, inner) → number_at inner ≡ Some (n, rest)
    → IsItem 64 bytes → HasFirstNumber n bytes
unfolding IsItem
array_has_first n bytes size inner rest opened number (inl flat) = absurd (flat_is_no_array bytes size inner opened flat)
array_has_first n bytes size inner rest opened number (inr nested) = nested_has_first n bytes size inner rest opened number nested

pub first_spells : (n : ℕ) (bytes : List ℕ) → first_number_of bytes ≡ Some n → HasFirstNumber n bytes
unfolding first_number_of item_number_of
first_spells n bytes e =
    elim (chosen (is_one_item bytes) (item_number_of bytes) None (Some n) e) [
      | inl (is, read) ↦
          let item : IsItem 64 bytes = one_is_item bytes is in
          let o = bind_some (opening_at bytes) (λ (opened : Length × List ℕ). option_map (λ (one : ℕ × List ℕ). one.0) (number_at opened.1)) n read in
          let m = mapped (number_at o.0.1) n o.2 in
          array_has_first n bytes o.0.0 o.0.1 m.0 o.1 m.1 item
      | inr (other, none) ↦ absurd cc
    ]
  where
    mapped : (o : Option (ℕ × List ℕ)) (m : ℕ) → option_map (λ (one : ℕ × List ℕ). one.0) o ≡ Some m → (rest : List ℕ) × (o ≡ Some (m, rest))
    mapped (Some one) m e = let is : one.0 ≡ m = cc in (one.1, ap (λ (k : ℕ). Some (k, one.1)) is)
    mapped None m e = absurd cc

pub spelled_first : (n : ℕ) (bytes : List ℕ) → HasFirstNumber n bytes → first_number_of bytes ≡ Some n
unfolding first_number_of item_number_of
spelled_first n bytes first =
    let is = first.is in
    let pair = is.is_content in
    let item = array_is_item 63 (suc first.others) _ bytes (λ content p. record {
      first = p.first;
      second = p.second;
      joined = p.joined;
      is_first = number_is_item 63 n p.first p.is_first;
      is_second = p.is_second;
    }) is in
    let behind = pair.second ++ is.ending in
    let joined : bytes ≡ is.spelled ++ (pair.first ++ behind) =
    is.joined ∙ ap (λ (y : List ℕ). is.spelled ++ (y ++ is.ending)) pair.joined ∙ ap (λ (y : List ℕ). is.spelled ++ y) (append_assoc pair.first pair.second is.ending) in
    let opened : opening_at bytes ≡ Some (length_of is.head, pair.first ++ behind) = ap opening_at joined ∙ opening_again is.head is.spelled (pair.first ++ behind) is.is_head is.array in
    let number = reads_number.again n pair.first behind pair.is_first in
    rw (item_is_one bytes item, opened, number) refl

-- ---- the first number of an item, without a scan

pub item_is_first : (bytes : List ℕ) → IsItem level_limit bytes → item_number_of bytes ≡ first_number_of bytes
unfolding first_number_of
item_is_first bytes item = rw (item_is_one bytes item) refl
