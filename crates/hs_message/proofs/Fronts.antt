-- Reading parts: what is read stands at the front of the bytes, and what stands there is read, whatever follows it.
use Rattle.std.proofs.Common.{◌≡◌, ℕ, zero, suc, ◌≤◌, ◌<◌, Bool, true, false, cond, eqb, ltb, ◌⊎◌, List, [], ◌∷◌, ◌++◌, length, take, drop, Option, Some, None, refl, sym, ap, subst, ◌∙◌, append_assoc, arith, inl, inr}
use Rattle.std.specs.Option.{option_or}
use Rattle.std.proofs.lemmas.Bool.{ltb-false, le-ltb, eqb-true, eq-eqb, ne_eqb}
use Rattle.std.proofs.lemmas.List.{length-append, length-take, take-append-drop, take_at, drop_at}
use Rattle.cbor_items.specs.declared.scan.Scan.{Scan}
use Rattle.cbor_items.specs.declared.scan.Scan.TheVariants as scan
use Rattle.cbor_items.specs.Head.{major_of}
use Rattle.cbor_items.specs.Definite.{IsDefinite, IsNumber}
use Rattle.cbor_items.specs.Front.{Reader, ◌>>=◌, definite_at, number_at}
use Rattle.cbor_items.specs.Item.{IsPair, AreInTurn, IsItem, level_limit}
use Rattle.cbor_items.specs.Scan.{scan_of}
use Rattle.cbor_items.proofs.Skips.{HasFront, StartsPlain, chosen}
use Rattle.cbor_items.proofs.Readers.{Reads, bind_some, guard_some, some_is, reads_definite, reads_number, definite_starts}
use Rattle.cbor_items.proofs.Fronts.{scan_found, scan_again}
use Rattle.hs_message.specs.Parts.{IsText, flag_byte, IsFlag}
use Rattle.hs_message.specs.Info.{IsSharing}
use Rattle.hs_message.specs.declared.tag.Tag.{Tag}
use Rattle.hs_message.specs.Reading.{definite_array_at, flag_at, bit_at, sharing_at, text_at, front_of, item_at, row_at, row_to_break_at, tag_at, noted_at}

-- ---- tests, and one thing behind another

-- a test that did fail
pub guard_not : {A : Type 0} (b : Bool) (x y : A) → cond b None (Some x) ≡ Some y → (b ≡ false) × (x ≡ y)
guard_not true x y e = absurd cc
guard_not false x y e = (refl, cc)

pub pair_front : {First Second : List ℕ → Type 0} {bytes mid rest : List ℕ} → HasFront First bytes mid → HasFront Second mid rest → HasFront (IsPair First Second) bytes rest
pair_front {First} {Second} {bytes} {mid} {rest} one two = record {
  front = one.front ++ two.front;
  joined = one.joined ∙ ap (λ (x : List ℕ). one.front ++ x) two.joined ∙ sym (append_assoc one.front two.front rest);
  is = record { first = one.front; second = two.front; joined = refl; is_first = one.is; is_second = two.is };
}

-- the same, where the second is followed by a third
pub front_before : {First Second Third : List ℕ → Type 0} {bytes mid rest : List ℕ} → HasFront First bytes mid → HasFront (IsPair Second Third) mid rest
    → HasFront (IsPair (IsPair First Second) Third) bytes rest
front_before {First} {Second} {Third} {bytes} {mid} {rest} one two = record {
  front = one.front ++ two.front;
  joined = one.joined ∙ ap (λ (x : List ℕ). one.front ++ x) two.joined ∙ sym (append_assoc one.front two.front rest);
  is = record {
    first = one.front ++ two.is.first;
    second = two.is.second;
    joined = ap (λ (x : List ℕ). one.front ++ x) two.is.joined ∙ sym (append_assoc one.front two.is.first two.is.second);
    is_first = record { first = one.front; second = two.is.first; joined = refl; is_first = one.is; is_second = two.is.is_first };
    is_second = two.is.is_second;
  };
}

pub front_as : {Thing Other : List ℕ → Type 0} {bytes rest : List ℕ} → ((x : List ℕ) → Thing x → Other x) → HasFront Thing bytes rest → HasFront Other bytes rest
front_as {Thing} {Other} {bytes} {rest} to one = record { front = one.front; joined = one.joined; is = to one.front one.is }

pub pair_parts : {First Second : List ℕ → Type 0} {front : List ℕ} (p : IsPair First Second front) (rest : List ℕ) → front ++ rest ≡ p.first ++ (p.second ++ rest)
pair_parts {First} {Second} {front} p rest = ap (λ (x : List ℕ). x ++ rest) p.joined ∙ append_assoc p.first p.second rest

-- ---- arrays

-- a definite array of so many elements
pub array_found : (count : ℕ) (bytes rest : List ℕ) → definite_array_at count bytes ≡ Some rest → HasFront (IsDefinite 4 count) bytes rest
unfolding definite_array_at
array_found count bytes rest e =
    let b = bind_some (definite_at 4 bytes) (λ (read : ℕ × List ℕ). cond (eqb read.0 count) (Some read.1) None) rest e in
    let g = guard_some (eqb b.0.0 count) b.0.1 rest b.2 in
    let h = (reads_definite 4).found bytes b.0.0 b.0.1 b.1 in
    subst (λ (n : ℕ). HasFront (IsDefinite 4 n) bytes rest) (eqb-true _ _ g.0) (subst (HasFront (IsDefinite 4 b.0.0) bytes) g.1 h)

pub array_again : (count : ℕ) (front rest : List ℕ) → IsDefinite 4 count front → definite_array_at count (front ++ rest) ≡ Some rest
unfolding definite_array_at
array_again count front rest d = rw ((reads_definite 4).again count front rest d, eq-eqb count count refl) refl

-- ---- flags

flag_found : (bytes : List ℕ) (flag : Bool) (rest : List ℕ) → flag_at bytes ≡ Some (flag, rest) → HasFront (IsFlag flag) bytes rest
unfolding flag_at
flag_found [] flag rest e = absurd cc
flag_found (byte ∷ bytes) flag rest e =
    let read : Bool → Bool × List ℕ = λ b. (b, bytes) in
    let at = λ (b : Bool) (is : byte ≡ flag_byte b) (same : read b ≡ (flag, rest)).
    let stands : HasFront (IsFlag b) (byte ∷ bytes) bytes = record { front = byte ∷ []; joined = refl; is = ap (λ (n : ℕ). n ∷ []) is } in
    subst (λ (p : Bool × List ℕ). HasFront (IsFlag p.0) (byte ∷ bytes) p.1) same stands in
    elim (chosen (eqb byte 244) (Some (read false)) (cond (eqb byte 245) (Some (read true)) None) (Some (flag, rest)) e) [
      | inl (low, is) ↦ at false (eqb-true _ _ low) (some_is (read false) (flag, rest) is)
      | inr (other, is) ↦ let g = guard_some (eqb byte 245) (read true) (flag, rest) is in at true (eqb-true _ _ g.0) g.1
    ]

flag_again : (flag : Bool) (front rest : List ℕ) → IsFlag flag front → flag_at (front ++ rest) ≡ Some (flag, rest)
unfolding flag_at
flag_again false front rest e = rw e refl
flag_again true front rest e = rw e refl

pub reads_flag : Reads IsFlag flag_at
reads_flag = record { found = flag_found; again = flag_again }

-- the number 0 or 1
abbrev pub IsBit : Bool → List ℕ → Type 0
IsBit bit bytes = IsNumber (cond bit 1 0) bytes

bit_found : (bytes : List ℕ) (bit : Bool) (rest : List ℕ) → bit_at bytes ≡ Some (bit, rest) → HasFront (IsBit bit) bytes rest
unfolding bit_at
bit_found bytes bit rest e =
    let b = bind_some (number_at bytes) (λ (read : ℕ × List ℕ). cond (eqb read.0 0) (Some (false, read.1)) (cond (eqb read.0 1) (Some (true, read.1)) None)) (bit, rest) e in
    let n = reads_number.found bytes b.0.0 b.0.1 b.1 in
    let read : Bool → Bool × List ℕ = λ x. (x, b.0.1) in
    let at = λ (x : Bool) (is : b.0.0 ≡ cond x 1 0) (same : read x ≡ (bit, rest)).
    subst (λ (p : Bool × List ℕ). HasFront (IsBit p.0) bytes p.1) same (subst (λ (v : ℕ). HasFront (IsNumber v) bytes b.0.1) is n) in
    elim (chosen (eqb b.0.0 0) (Some (read false)) (cond (eqb b.0.0 1) (Some (read true)) None) (Some (bit, rest)) b.2) [
      | inl (none, is) ↦ at false (eqb-true _ _ none) (some_is (read false) (bit, rest) is)
      | inr (other, is) ↦ let g = guard_some (eqb b.0.0 1) (read true) (bit, rest) is in at true (eqb-true _ _ g.0) g.1
    ]

bit_again : (bit : Bool) (front rest : List ℕ) → IsBit bit front → bit_at (front ++ rest) ≡ Some (bit, rest)
unfolding bit_at
bit_again false front rest n = rw (reads_number.again 0 front rest n) refl
bit_again true front rest n = rw (reads_number.again 1 front rest n) refl

or_some : {A : Type 0} (p q : Option A) (x : A) → option_or p q ≡ Some x → (p ≡ Some x) ⊎ ((p ≡ None) × (q ≡ Some x))
or_some None q x e = inr (refl, e)
or_some (Some y) q x e = inl e

sharing_found : (bytes : List ℕ) (sharing : Bool) (rest : List ℕ) → sharing_at bytes ≡ Some (sharing, rest) → HasFront (IsSharing sharing) bytes rest
sharing_found bytes sharing rest e =
    elim (or_some (flag_at bytes) (bit_at bytes) (sharing, rest) e) [
      | inl flag ↦ front_as {Other = IsSharing sharing} (λ x is. inr is) (flag_found bytes sharing rest flag)
      | inr (none, bit) ↦ front_as {Other = IsSharing sharing} (λ x is. inl is) (bit_found bytes sharing rest bit)
    ]

-- a number begins as no flag does
number_is_no_flag : (n : ℕ) (front rest : List ℕ) → IsNumber n front → flag_at (front ++ rest) ≡ None
unfolding flag_at
number_is_no_flag n front rest d =
    let s = definite_starts 0 n front d in
    let low : eqb s.first 244 ≡ false = ne_eqb s.first 244 (λ is. let seven : major_of 244 ≡ 0 = ap major_of (sym is) ∙ s.is_major in absurd cc) in
    let high : eqb s.first 245 ≡ false = ne_eqb s.first 245 (λ is. let seven : major_of 245 ≡ 0 = ap major_of (sym is) ∙ s.is_major in absurd cc) in
    rw (s.joined, low, high) refl

sharing_again : (sharing : Bool) (front rest : List ℕ) → IsSharing sharing front → sharing_at (front ++ rest) ≡ Some (sharing, rest)
sharing_again sharing front rest (inl bit) = rw (number_is_no_flag (cond sharing 1 0) front rest bit) (bit_again sharing front rest bit)
sharing_again sharing front rest (inr flag) = rw (flag_again sharing front rest flag) refl

pub reads_sharing : Reads IsSharing sharing_at
reads_sharing = record { found = sharing_found; again = sharing_again }

-- ---- texts

pub reads_text : Reads IsText text_at
unfolding text_at
reads_text = record {
  found = λ bytes text rest e.
      let b = bind_some (definite_at 3 bytes) (λ (read : ℕ × List ℕ). cond (ltb (length read.1) read.0) None (Some (take read.0 read.1, drop read.0 read.1))) (text, rest) e in
      let n = b.0.0 in
      let behind = b.0.1 in
      let made : List ℕ × List ℕ = (take n behind, drop n behind) in
      let g = guard_not (ltb (length behind) n) made (text, rest) b.2 in
      let fits : n ≤ length behind = ltb-false _ _ g.0 in
      let len : n ≡ length (take n behind) = omega (arith, length-take n behind) in
      let h = subst (λ (k : ℕ). HasFront (IsDefinite 3 k) bytes behind) len ((reads_definite 3).found bytes n behind b.1) in
      let content : HasFront (λ x. x ≡ take n behind) behind (drop n behind) = record { front = take n behind; joined = sym (take-append-drop n behind); is = refl } in
      subst (λ (p : List ℕ × List ℕ). HasFront (IsText p.0) bytes p.1) g.1 (pair_front h content);
  again = λ text front rest p.
      let long : ltb (length (text ++ rest)) (length text) ≡ false = le-ltb _ _ (omega (arith, length-append text rest)) in
      let regrouped : front ++ rest ≡ p.first ++ (text ++ rest) = pair_parts p rest ∙ ap (λ (x : List ℕ). p.first ++ (x ++ rest)) p.is_second in
      ap text_at regrouped ∙ rw ((reads_definite 3).again (length text) p.first (text ++ rest) p.is_first, long, take_at text rest (length text) refl, drop_at text rest (length text) refl) refl;
}

-- ---- items

-- the bytes are this item
abbrev pub IsThisItem : List ℕ → List ℕ → Type 0
IsThisItem item bytes = (bytes ≡ item) × IsItem level_limit bytes

item_found : (bytes item rest : List ℕ) (answer : Scan) → scan_of bytes ≡ answer → front_of bytes answer ≡ Some (item, rest) → HasFront (IsThisItem item) bytes rest
item_found bytes item rest (scan.Whole n) is e =
    let made : List ℕ × List ℕ = (take n bytes, drop n bytes) in
    let stands : HasFront (IsThisItem (take n bytes)) bytes (drop n bytes) = record {
      front = take n bytes;
      joined = sym (take-append-drop n bytes);
      is = (refl, (scan_found bytes n is).1);
    } in
    subst (λ (p : List ℕ × List ℕ). HasFront (IsThisItem p.0) bytes p.1) (some_is made (item, rest) e) stands
item_found bytes item rest scan.More is e = absurd cc
item_found bytes item rest scan.Bad is e = absurd cc
item_found bytes item rest scan.Deep is e = absurd cc

pub reads_item : Reads IsThisItem item_at
reads_item = record {
  found = λ bytes item rest e. item_found bytes item rest (scan_of bytes) refl e;
  again = λ item front rest is.
      ap (λ (x : List ℕ). item_at (x ++ rest)) is.0
      ∙ rw (scan_again item rest (subst (IsItem level_limit) is.0 is.1), take_at item rest (length item) refl, drop_at item rest (length item) refl) refl;
}

-- ---- rows

module _ {X : Type 0} (Thing : X → List ℕ → Type 0) (thing : Reader X) (reads : Reads Thing thing) where
  pub row_found : (n : ℕ) (bytes : List ℕ) (xs : List X) (rest : List ℕ) → row_at thing n bytes ≡ Some (xs, rest) → (length xs ≡ n) × HasFront (AreInTurn Thing xs) bytes rest
  unfolding row_at
  row_found zero bytes xs rest e =
      let made : List X × List ℕ = ([], bytes) in
      let stands : HasFront (AreInTurn Thing []) bytes bytes = record { front = []; joined = refl; is = refl } in
      subst (λ (p : List X × List ℕ). (length p.0 ≡ 0) × HasFront (AreInTurn Thing p.0) bytes p.1) (some_is made (xs, rest) e) (refl, stands)
  row_found (suc n) bytes xs rest e =
      let a = bind_some (thing bytes) (λ (first : X × List ℕ). row_at thing n first.1 >>= λ others. Some (first.0 ∷ others.0, others.1)) (xs, rest) e in
      let b = bind_some (row_at thing n a.0.1) (λ (others : List X × List ℕ). Some (a.0.0 ∷ others.0, others.1)) (xs, rest) a.2 in
      let first = reads.found bytes a.0.0 a.0.1 a.1 in
      let others = row_found n a.0.1 b.0.0 b.0.1 b.1 in
      let made : List X × List ℕ = (a.0.0 ∷ b.0.0, b.0.1) in
      subst (λ (p : List X × List ℕ). (length p.0 ≡ suc n) × HasFront (AreInTurn Thing p.0) bytes p.1) (some_is made (xs, rest) b.2)
      (ap suc others.0, pair_front first others.1)

  pub row_again : (xs : List X) (front rest : List ℕ) → AreInTurn Thing xs front → row_at thing (length xs) (front ++ rest) ≡ Some (xs, rest)
  unfolding row_at
  row_again [] front rest is = ap (λ (x : List ℕ). Some ([], x ++ rest)) is
  row_again (x ∷ xs) front rest p =
      ap (row_at thing (suc (length xs))) (pair_parts p rest)
      ∙ rw (reads.again x p.first (p.second ++ rest) p.is_first, row_again xs p.second rest p.is_second) refl

  -- ---- up to a break
  abbrev pub IsClosed : List X → List ℕ → Type 0
  IsClosed xs bytes = IsPair (AreInTurn Thing xs) (λ end. end ≡ 0xff ∷ []) bytes

  pub closed_found : (n : ℕ) (bytes : List ℕ) (xs : List X) (rest : List ℕ) → row_to_break_at thing n bytes ≡ Some (xs, rest) → HasFront (IsClosed xs) bytes rest
  unfolding row_to_break_at
  closed_found zero bytes xs rest e = absurd cc
  closed_found (suc n) [] xs rest e = absurd cc
  closed_found (suc n) (byte ∷ bytes) xs rest e =
      let next : X × List ℕ → Option (List X × List ℕ) = λ first. row_to_break_at thing n first.1 >>= λ others. Some (first.0 ∷ others.0, others.1) in
      let ended : List X × List ℕ = ([], bytes) in
      elim (chosen (eqb byte 255) (Some ended) (thing (byte ∷ bytes) >>= next) (Some (xs, rest)) e) [
        | inl (break, is) ↦
            let stands : HasFront (IsClosed []) (byte ∷ bytes) bytes = record {
              front = byte ∷ [];
              joined = refl;
              is = record { first = []; second = byte ∷ []; joined = refl; is_first = refl; is_second = ap (λ (b : ℕ). b ∷ []) (eqb-true _ _ break) };
            } in
            subst (λ (p : List X × List ℕ). HasFront (IsClosed p.0) (byte ∷ bytes) p.1) (some_is ended (xs, rest) is) stands
        | inr (other, is) ↦
            let a = bind_some (thing (byte ∷ bytes)) next (xs, rest) is in
            let b = bind_some (row_to_break_at thing n a.0.1) (λ (others : List X × List ℕ). Some (a.0.0 ∷ others.0, others.1)) (xs, rest) a.2 in
            let first = reads.found (byte ∷ bytes) a.0.0 a.0.1 a.1 in
            let others : HasFront (IsClosed b.0.0) a.0.1 b.0.1 = closed_found n a.0.1 b.0.0 b.0.1 b.1 in
            let made : List X × List ℕ = (a.0.0 ∷ b.0.0, b.0.1) in
            subst (λ (p : List X × List ℕ). HasFront (IsClosed p.0) (byte ∷ bytes) p.1) (some_is made (xs, rest) b.2) (front_before first others)
      ]

  module _ (plain : (x : X) (bytes : List ℕ) → Thing x bytes → StartsPlain bytes) where
    -- each thing takes a byte at least
    pub list_is_long : (xs : List X) (bytes : List ℕ) → AreInTurn Thing xs bytes → length xs ≤ length bytes
    list_is_long [] bytes is = omega arith
    list_is_long (x ∷ xs) bytes p =
        let s = plain x p.first p.is_first in
        let others = list_is_long xs p.second p.is_second in
        omega (arith, ap length p.joined, length-append p.first p.second, ap length s.joined)

    row_closes : (xs : List X) (n : ℕ) (front end rest : List ℕ) → length xs < n → AreInTurn Thing xs front → end ≡ 0xff ∷ []
        → row_to_break_at thing n (front ++ (end ++ rest)) ≡ Some (xs, rest)
    unfolding row_to_break_at
    row_closes xs zero front end rest lt is is_end = absurd (omega arith)
    row_closes [] (suc n) front end rest lt is is_end = rw (is, is_end) refl
    row_closes (x ∷ xs) (suc n) front end rest lt p is_end =
        let s = plain x p.first p.is_first in
        let after = p.second ++ (end ++ rest) in
        let regrouped : front ++ (end ++ rest) ≡ s.first ∷ (s.rest ++ after) = pair_parts p (end ++ rest) ∙ ap (λ (y : List ℕ). y ++ after) s.joined in
        let read : thing (s.first ∷ (s.rest ++ after)) ≡ Some (x, after) = ap (λ (y : List ℕ). thing (y ++ after)) (sym s.joined) ∙ reads.again x p.first after p.is_first in
        ap (row_to_break_at thing (suc n)) regrouped
        ∙ rw (ne_eqb s.first 255 s.no_break, read, row_closes xs n p.second end rest (omega arith) p.is_second is_end) refl

    pub closed_again : (xs : List X) (front rest : List ℕ) → IsClosed xs front → row_to_break_at thing (length (front ++ rest)) (front ++ rest) ≡ Some (xs, rest)
    closed_again xs front rest p =
        let long = list_is_long xs p.first p.is_first in
        let lt : length xs < length (front ++ rest) =
        omega (arith, ap length p.joined, length-append p.first p.second, ap length p.is_second, length-append front rest) in
        ap (row_to_break_at thing (length (front ++ rest))) (pair_parts p rest) ∙ row_closes xs (length (front ++ rest)) p.first p.second rest lt p.is_first p.is_second

-- ---- two parts

-- how many elements an array has, and the number that is the first one
abbrev pub IsTag : Tag → List ℕ → Type 0
IsTag tag bytes = IsPair (IsDefinite 4 tag.elements) (IsNumber tag.number) bytes

abbrev pub tag_with : ℕ → ℕ → Tag
tag_with elements number = record { elements = elements; number = number }

pub reads_tag : Reads IsTag tag_at
unfolding tag_at
reads_tag = record {
  found = λ bytes tag rest e.
      let a = bind_some (definite_at 4 bytes) (λ (elements : ℕ × List ℕ). number_at elements.1 >>= λ number. Some (tag_with elements.0 number.0, number.1)) (tag, rest) e in
      let b = bind_some (number_at a.0.1) (λ (number : ℕ × List ℕ). Some (tag_with a.0.0 number.0, number.1)) (tag, rest) a.2 in
      let made : Tag × List ℕ = (tag_with a.0.0 b.0.0, b.0.1) in
      subst (λ (p : Tag × List ℕ). HasFront (IsTag p.0) bytes p.1) (some_is made (tag, rest) b.2)
      (pair_front ((reads_definite 4).found bytes a.0.0 a.0.1 a.1) (reads_number.found a.0.1 b.0.0 b.0.1 b.1));
  again = λ tag front rest p.
      ap tag_at (pair_parts p rest)
      ∙ rw ((reads_definite 4).again tag.elements p.first (p.second ++ rest) p.is_first, reads_number.again tag.number p.second rest p.is_second) refl;
}

abbrev pub IsNoted : ℕ × List ℕ → List ℕ → Type 0
IsNoted noted bytes = IsPair (IsNumber noted.0) (IsText noted.1) bytes

pub reads_noted : Reads IsNoted noted_at
unfolding noted_at
reads_noted = record {
  found = λ bytes noted rest e.
      let a = bind_some (number_at bytes) (λ (version : ℕ × List ℕ). text_at version.1 >>= λ text. Some ((version.0, text.0), text.1)) (noted, rest) e in
      let b = bind_some (text_at a.0.1) (λ (text : List ℕ × List ℕ). Some ((a.0.0, text.0), text.1)) (noted, rest) a.2 in
      let made : (ℕ × List ℕ) × List ℕ = ((a.0.0, b.0.0), b.0.1) in
      subst (λ (p : (ℕ × List ℕ) × List ℕ). HasFront (IsNoted p.0) bytes p.1) (some_is made (noted, rest) b.2)
      (pair_front (reads_number.found bytes a.0.0 a.0.1 a.1) (reads_text.found a.0.1 b.0.0 b.0.1 b.1));
  again = λ noted front rest p.
      ap noted_at (pair_parts p rest)
      ∙ rw (reads_number.again noted.0 p.first (p.second ++ rest) p.is_first, reads_text.again noted.1 p.second rest p.is_second) refl;
}
