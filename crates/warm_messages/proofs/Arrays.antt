-- Reading finds a thing exactly where the bytes spell it: numbers, and arrays of things.
use Rattle.std.proofs.Common.{◌≡◌, ◌≢◌, ℕ, zero, suc, ◌+◌, ◌≤◌, Bool, true, false, cond, eqb, MatchBool, List, [], ◌∷◌, ◌++◌, length, Option, Some, None, refl, sym, ap, subst, ◌∙◌, append_assoc, arith, inl, inr, ◌⊎◌}
use Rattle.std.proofs.lemmas.Bool.{eqb-true, ne_eqb, eq-eqb}
use Rattle.cbor_items.specs.declared.head.Head.{Head}
use Rattle.cbor_items.specs.Head.{IsHead}
use Rattle.cbor_items.specs.Front.{Reader, ◌>>=◌, any_head_at, definite_at, number_at}
use Rattle.cbor_items.specs.Item.{AreInTurn}
use Rattle.cbor_items.proofs.Skips.{HasFront, StartsPlain}
use Rattle.cbor_items.proofs.Readers.{Reads, bind_some, guard_some, reads_any_head}
use Rattle.cbor_items.proofs.Items.{head_is_plain, plain_same}
use Rattle.warm_messages.specs.declared.array.Length.{Length}
use Rattle.warm_messages.specs.declared.array.Length.TheVariants.{Of, ToBreak}
use Rattle.warm_messages.specs.Array.{IsArray}
use Rattle.warm_messages.specs.Reading.{length_of, opening_at, behind_break, ending_at, ended, elements_at, array_at}

-- ---- heads

-- a head that is no break
pub type_is_plain : (head : Head) (spelled content : List ℕ) → IsHead head spelled → head.major ≢ 7 → StartsPlain (spelled ++ content)
type_is_plain head spelled content is other = head_is_plain head spelled content is (λ seven break. other seven)

-- what begins with the head of an array is no number
pub array_is_no_number : (head : Head) (spelled rest : List ℕ) → IsHead head spelled → head.major ≡ 4 → number_at (spelled ++ rest) ≡ None
unfolding definite_at
array_is_no_number head spelled rest is array = rw (reads_any_head.again head spelled rest is, array) refl

-- ---- the length of an array

pub opening_again : (head : Head) (spelled rest : List ℕ) → IsHead head spelled → head.major ≡ 4 → opening_at (spelled ++ rest) ≡ Some (length_of head, rest)
unfolding opening_at
opening_again head spelled rest is array = rw (reads_any_head.again head spelled rest is, array) refl

pub opening_found : (bytes : List ℕ) (size : Length) (rest : List ℕ) → opening_at bytes ≡ Some (size, rest)
    → (head : Head) × (head.major ≡ 4) × (length_of head ≡ size) × HasFront (IsHead head) bytes rest
unfolding opening_at
opening_found bytes size rest e =
    let b = bind_some (any_head_at bytes) (λ (read : Head × List ℕ). cond {A = Option (Length × List ℕ)} (eqb read.0.major 4) (Some (length_of read.0, read.1)) None) (size, rest) e in
    let g = guard_some (eqb b.0.0.major 4) (length_of b.0.0, b.0.1) (size, rest) b.2 in
    let size-is : length_of b.0.0 ≡ size = ap (λ (p : Length × List ℕ). p.0) g.1 in
    let rest-is : b.0.1 ≡ rest = ap (λ (p : Length × List ℕ). p.1) g.1 in
    (b.0.0, eqb-true _ _ g.0, size-is, subst (HasFront (IsHead b.0.0) bytes) rest-is (reads_any_head.found bytes b.0.0 b.0.1 b.1))

-- what ends an array of a length
abbrev pub IsEnding : Length → ℕ → List ℕ → Type 0
IsEnding (Of n) count ending = (ending ≡ []) × (n ≡ count)
IsEnding ToBreak count ending = ending ≡ 255 ∷ []

pub ends_array : (indefinite : Bool) (n count : ℕ) (ending : List ℕ) → IsEnding (cond indefinite ToBreak (Of n)) count ending
    → MatchBool indefinite (ending ≡ 255 ∷ []) ((ending ≡ []) × (n ≡ count))
ends_array true n count ending is = is
ends_array false n count ending is = is

pub is_ending : (indefinite : Bool) (n count : ℕ) (ending : List ℕ) → MatchBool indefinite (ending ≡ 255 ∷ []) ((ending ≡ []) × (n ≡ count))
    → IsEnding (cond indefinite ToBreak (Of n)) count ending
is_ending true n count ending is = is
is_ending false n count ending is = is

pub break_found : (bytes rest : List ℕ) → behind_break bytes ≡ Some rest → bytes ≡ 255 ∷ rest
break_found [] rest e = absurd cc
break_found (byte ∷ bytes) rest e =
    let c = guard_some (eqb byte 255) bytes rest e in
    rw (eqb-true _ _ c.0, c.1) refl

pub ending_found : (size : Length) (count : ℕ) (bytes rest : List ℕ) → ending_at size count bytes ≡ Some rest → HasFront (IsEnding size count) bytes rest
ending_found (Of n) count bytes rest e =
    let c = guard_some (eqb n count) bytes rest e in
    record { front = []; joined = c.1; is = (refl, eqb-true _ _ c.0) }
ending_found ToBreak count bytes rest e = record { front = 255 ∷ []; joined = break_found bytes rest e; is = refl }

pub ending_again : (size : Length) (count : ℕ) (ending rest : List ℕ) → IsEnding size count ending → ending_at size count (ending ++ rest) ≡ Some rest
ending_again (Of n) count ending rest is = rw (is.0, eq-eqb _ _ is.1) refl
ending_again ToBreak count ending rest is = rw is refl

-- where elements are missing and something begins that is no break, the array goes on
abbrev pub IsMissing : Length → ℕ → Type 0
IsMissing (Of n) count = n ≢ count
IsMissing ToBreak count = Unit {0}

pub missing_some : (size : Length) (count more : ℕ) (ending : List ℕ) → IsEnding size (count + suc more) ending → IsMissing size count
missing_some (Of n) count more ending is = λ e. absurd (omega (arith, is.1))
missing_some ToBreak count more ending is = tt

no_break : (bytes : List ℕ) → StartsPlain bytes → behind_break bytes ≡ None
no_break bytes plain = rw (plain.joined, ne_eqb plain.first 255 plain.no_break) refl

pub goes_on : (size : Length) (count : ℕ) (bytes : List ℕ) → IsMissing size count → StartsPlain bytes → ending_at size count bytes ≡ None
goes_on (Of n) count bytes missing plain = rw (ne_eqb n count missing) refl
goes_on ToBreak count bytes missing plain = no_break bytes plain

-- ---- the elements

-- the elements stand at the front, and behind them what ends the array
pub record HasElements {A : Type 0} (Spells : A → List ℕ → Type 0) (size : Length) (count : ℕ) (xs : List A) (bytes rest : List ℕ) : Type 0 where
  pub content : List ℕ
  pub ending : List ℕ
  pub joined : bytes ≡ content ++ (ending ++ rest)
  pub is_content : AreInTurn Spells xs content
  pub ends : IsEnding size (count + length xs) ending

no_elements : {A : Type 0} (Spells : A → List ℕ → Type 0) (size : Length) (count : ℕ) (bytes rest : List ℕ) → ending_at size count bytes ≡ Some rest
    → HasElements Spells size count [] bytes rest
no_elements Spells size count bytes rest e =
    let f = ending_found size count bytes rest e in
    let same : count ≡ count + 0 = omega arith in
    record { content = []; ending = f.front; joined = f.joined; is_content = refl; ends = subst (λ (n : ℕ). IsEnding size n f.front) same f.is }

pub some_pair : {A B : Type 0} (a c : A) (b d : B) → ◌≡◌ {A = Option (A × B)} (Some (a, b)) (Some (c, d)) → (a ≡ c) × (b ≡ d)
some_pair {A} {B} a c b d e =
    let is : ◌≡◌ {A = A × B} (a, b) (c, d) = cc in
    (ap (λ (p : A × B). p.0) is, ap (λ (p : A × B). p.1) is)

none_is : {A : Type 0} (end : Option (List ℕ)) (xs : List A) (rest : List ℕ) → ended end None ≡ Some (xs, rest) → (xs ≡ []) × (end ≡ Some rest)
none_is (Some behind) xs rest e = let is = some_pair [] xs behind rest e in (sym is.0, ap Some is.1)
none_is None xs rest e = absurd cc

ended_is : {A : Type 0} (end : Option (List ℕ)) (more : Option (List A × List ℕ)) (xs : List A) (rest : List ℕ) → ended end more ≡ Some (xs, rest)
    → ((xs ≡ []) × (end ≡ Some rest)) ⊎ ((end ≡ None) × (more ≡ Some (xs, rest)))
ended_is (Some behind) more xs rest e = let is = some_pair [] xs behind rest e in inl (sym is.0, ap Some is.1)
ended_is None more xs rest e = inr (refl, e)

abbrev others_at : {A : Type 0} → Reader A → Length → ℕ → ℕ → (A × List ℕ) → Option (List A × List ℕ)
others_at thing size count most one = elements_at thing size (count + 1) most one.1 >>= λ others. Some (one.0 ∷ others.0, others.1)

module _ {A : Type 0} (Spells : A → List ℕ → Type 0) (thing : Reader A) (reads : Reads Spells thing) where
  pub elements_found : (most : ℕ) (size : Length) (count : ℕ) (bytes : List ℕ) (xs : List A) (rest : List ℕ)
      → elements_at thing size count most bytes ≡ Some (xs, rest) → HasElements Spells size count xs bytes rest
  unfolding elements_at
  elements_found zero size count bytes xs rest e =
      let n = none_is (ending_at size count bytes) xs rest e in
      rw n.0 (no_elements Spells size count bytes rest n.1)
  elements_found (suc most) size count bytes xs rest e =
      elim (ended_is (ending_at size count bytes) (thing bytes >>= others_at thing size count most) xs rest e) [
        | inl (none, end) ↦ rw none (no_elements Spells size count bytes rest end)
        | inr (on, more) ↦
            let one = bind_some (thing bytes) (others_at thing size count most) (xs, rest) more in
            let x = one.0.0 in
            let after = one.0.1 in
            let others = bind_some (elements_at thing size (count + 1) most after) (λ (o : List A × List ℕ). Some (x ∷ o.0, o.1)) (xs, rest) one.2 in
            let ys = others.0.0 in
            let is = some_pair (x ∷ ys) xs others.0.1 rest others.2 in
            let first = reads.found bytes x after one.1 in
            let next = elements_found most size (count + 1) after ys others.0.1 others.1 in
            let longer : count + 1 + length ys ≡ count + length (x ∷ ys) = omega arith in
            let found : HasElements Spells size count (x ∷ ys) bytes others.0.1 = record {
              content = first.front ++ next.content;
              ending = next.ending;
              joined = first.joined ∙ ap (λ (y : List ℕ). first.front ++ y) next.joined ∙ sym (append_assoc first.front next.content (next.ending ++ others.0.1));
              is_content = record { first = first.front; second = next.content; joined = refl; is_first = first.is; is_second = next.is_content };
              ends = subst (λ (n : ℕ). IsEnding size n next.ending) longer next.ends;
            } in
            subst (λ (r : List ℕ). HasElements Spells size count xs bytes r) is.1
            (subst (λ (zs : List A). HasElements Spells size count zs bytes others.0.1) is.0 found)
      ]

  module _ (plain : (x : A) (front : List ℕ) → Spells x front → StartsPlain front) where
    pub elements_again : (xs : List A) (most : ℕ) (size : Length) (count : ℕ) (content ending rest : List ℕ) → length xs ≤ most
        → AreInTurn Spells xs content → IsEnding size (count + length xs) ending → elements_at thing size count most (content ++ (ending ++ rest)) ≡ Some (xs, rest)
    unfolding elements_at
    elements_again [] zero size count content ending rest fits is ends =
        let end = ending_again size (count + 0) ending rest ends in
        let same : count + 0 ≡ count = omega arith in
        rw (is, ← same, end) refl
    elements_again [] (suc most) size count content ending rest fits is ends =
        let end = ending_again size (count + 0) ending rest ends in
        let same : count + 0 ≡ count = omega arith in
        rw (is, ← same, end) refl
    elements_again (x ∷ xs) zero size count content ending rest fits is ends = absurd (omega arith)
    elements_again (x ∷ xs) (suc most) size count content ending rest fits is ends =
        let all = content ++ (ending ++ rest) in
        let after = is.second ++ (ending ++ rest) in
        let joined : all ≡ is.first ++ after = ap (λ (y : List ℕ). y ++ (ending ++ rest)) is.joined ∙ append_assoc is.first is.second (ending ++ rest) in
        let first-plain = plain x is.first is.is_first in
        let starts : StartsPlain all = record {
          first = first-plain.first;
          rest = first-plain.rest ++ after;
          joined = joined ∙ ap (λ (y : List ℕ). y ++ after) first-plain.joined;
          no_break = first-plain.no_break;
        } in
        let on : ending_at size count all ≡ None = goes_on size count all (missing_some size count (length xs) ending ends) starts in
        let one : thing all ≡ Some (x, after) = ap thing joined ∙ reads.again x is.first after is.is_first in
        let longer : count + length (x ∷ xs) ≡ count + 1 + length xs = omega arith in
        let others = elements_again xs most size (count + 1) is.second ending rest (omega arith) is.is_second (subst (λ (n : ℕ). IsEnding size n ending) longer ends) in
        rw (on, one, others) refl

-- ---- whole arrays

module _ {A : Type 0} (Spells : A → List ℕ → Type 0) (thing : Reader A) (reads : Reads Spells thing) where
  pub array_found : (most : ℕ) (bytes : List ℕ) (xs : List A) (rest : List ℕ) → array_at thing most bytes ≡ Some (xs, rest)
      → HasFront (IsArray (length xs) (AreInTurn Spells xs)) bytes rest
  array_found most bytes xs rest e =
      let b = bind_some (opening_at bytes) (λ (opened : Length × List ℕ). elements_at thing opened.0 0 most opened.1) (xs, rest) e in
      let o = opening_found bytes b.0.0 b.0.1 b.1 in
      let f = elements_found Spells thing reads most b.0.0 0 b.0.1 xs rest b.2 in
      let same : 0 + length xs ≡ length xs = omega arith in
      let ends = subst (λ (n : ℕ). IsEnding b.0.0 n f.ending) same f.ends in
      record {
        front = o.3.front ++ (f.content ++ f.ending);
        joined = o.3.joined ∙ ap (λ (y : List ℕ). o.3.front ++ y) (f.joined ∙ sym (append_assoc f.content f.ending rest)) ∙ sym (append_assoc o.3.front (f.content ++ f.ending) rest);
        is = record {
          head = o.0;
          spelled = o.3.front;
          content = f.content;
          ending = f.ending;
          joined = refl;
          is_head = o.3.is;
          array = o.1;
          is_content = f.is_content;
          ends = ends_array o.0.indefinite o.0.value (length xs) f.ending (subst (λ (size : Length). IsEnding size (length xs) f.ending) (sym o.2) ends);
        };
      }

  pub array_again : (plain : (x : A) (front : List ℕ) → Spells x front → StartsPlain front) (most : ℕ) (xs : List A) (front rest : List ℕ) → length xs ≤ most
      → IsArray (length xs) (AreInTurn Spells xs) front → array_at thing most (front ++ rest) ≡ Some (xs, rest)
  array_again plain most xs front rest fits is =
      let inner = is.content ++ (is.ending ++ rest) in
      let joined : front ++ rest ≡ is.spelled ++ inner =
      ap (λ (y : List ℕ). y ++ rest) is.joined ∙ append_assoc is.spelled (is.content ++ is.ending) rest ∙ ap (λ (y : List ℕ). is.spelled ++ y) (append_assoc is.content is.ending rest) in
      let opened = opening_again is.head is.spelled inner is.is_head is.array in
      let ends = is_ending is.head.indefinite is.head.value (length xs) is.ending is.ends in
      let same : length xs ≡ 0 + length xs = omega arith in
      let elements = elements_again Spells thing reads plain xs most (length_of is.head) 0 is.content is.ending rest fits is.is_content
      (subst (λ (n : ℕ). IsEnding (length_of is.head) n is.ending) same ends) in
      ap (array_at thing most) joined ∙ rw (opened, elements) refl

pub array_is_plain : (count : ℕ) (Content : List ℕ → Type 0) (front : List ℕ) → IsArray count Content front → StartsPlain front
array_is_plain count Content front is = plain_same front _ is.joined (type_is_plain is.head is.spelled (is.content ++ is.ending) is.is_head (λ seven. let four = is.array in absurd (omega arith)))
