-- A number that is spelled by its digits, each between separators, has one spelling.
use Rattle.std.proofs.Common.{◌≡◌, ℕ, suc, ◌/◌, ◌%◌, ◌^◌, ◌<◌, Bool, true, false, cond, eqb, List, [], ◌∷◌, length, map, Option, Some, None, refl, sym, ap, subst, ◌∙◌}
use Rattle.std.specs.Option.{option_map}
use Rattle.std.specs.List.{All, AllByRecursion, join_with_byte}
use Rattle.std.specs.Int.Digits.{number_from_digits, AllBelowBase}
use Rattle.std.proofs.lemmas.Bool.{eqb-true, eq-eqb, cond-true}
use Rattle.std.proofs.lemmas.Option.{same_Some}
use Rattle.std.proofs.lemmas.Int.Digits.{number_lt}
use Rattle.std.proofs.lemmas.List.Splits.{join_with_byte-slice_split}
use Rattle.std.proofs.lemmas.List.{length-map}
use Rattle.trace_text.specs.Words.{pieces_of}
use Rattle.trace_text.specs.Addresses.{◌>>=◌, all_read, number_read, number_in_pieces, low_digits}
use Rattle.trace_text.proofs.Cutting.{pieces_of-join}
use Rattle.trace_text.proofs.Digits.{length-low_digits, below-low_digits, number-low_digits, low_digits-number}

-- what is printed of each number below a base is read as that number, and nothing else is
pub record IsInverse {A : Type 0} (base : ℕ) (read : A → Option ℕ) (print : ℕ → A) : Type 0 where
  pub again : (n : ℕ) → n < base → read (print n) ≡ Some n
  pub only : (x : A) (n : ℕ) → read x ≡ Some n → (x ≡ print n) × (n < base)

-- the words of the digits of a base, none of which holds the separator
pub record IsSpelling (separator base : ℕ) (read : List ℕ → Option ℕ) (print : ℕ → List ℕ) : Type 0 where
  pub inverse : IsInverse base read print
  pub apart : (n : ℕ) → n < base → All (λ c. eqb c separator ≡ false) (print n)

-- the value of a step that gave one
pub bind_some : {A B : Type 0} (o : Option A) (f : A → Option B) (y : B) → (o >>= f) ≡ Some y → (x : A) × (o ≡ Some x) × (f x ≡ Some y)
bind_some (Some x) f y e = (x, refl, e)
bind_some None f y e = absurd cc

pub map_some : {A B : Type 0} (o : Option A) (f : A → B) (y : B) → option_map f o ≡ Some y → (x : A) × (o ≡ Some x) × (f x ≡ y)
map_some (Some x) f y e = (x, refl, same_Some (f x) y e)
map_some None f y e = absurd cc

pub cond_same : {A : Type 0} (b : Bool) (o : Option A) (x : A) → cond b o None ≡ Some x → (b ≡ true) × (o ≡ Some x)
cond_same true o x e = (refl, e)
cond_same false o x e = absurd cc

module _ {A : Type 0} (base : ℕ) (read : A → Option ℕ) (print : ℕ → A) (inverse : IsInverse base read print) where
  pub all_read-map : (ns : List ℕ) → AllBelowBase base ns → all_read read (map print ns) ≡ Some ns
  all_read-map [] h = refl
  all_read-map (n ∷ ns) h = rw (inverse.again n h.0, all_read-map ns h.1) refl

  pub record AreRead (xs : List A) (ns : List ℕ) : Type 0 where
    pub printed : xs ≡ map print ns
    pub below : AllBelowBase base ns
    pub len : length ns ≡ length xs

  more_read : (x : A) (xs : List A) (n : ℕ) (ns : List ℕ) → (x ≡ print n) × (n < base) → AreRead xs ns → AreRead (x ∷ xs) (n ∷ ns)
  more_read x xs n ns first later = record {
    printed = ap (λ (y : A). y ∷ xs) first.0 ∙ ap (λ (ys : List A). print n ∷ ys) later.printed;
    below = (first.1, later.below);
    len = ap suc later.len;
  }

  pub all_read_only : (xs : List A) (ns : List ℕ) → all_read read xs ≡ Some ns → AreRead xs ns
  all_read_only [] ns e = subst (AreRead []) (same_Some [] ns e) (record { printed = refl; below = tt; len = refl })
  all_read_only (x ∷ xs) ns e =
      let p = bind_some (read x) (λ n. all_read read xs >>= λ ns. Some (n ∷ ns)) ns e in
      let q = bind_some (all_read read xs) (λ ns. Some (p.0 ∷ ns)) ns p.2 in
      subst (AreRead (x ∷ xs)) (same_Some (p.0 ∷ q.0) ns q.2) (more_read x xs p.0 q.0 (inverse.only x p.0 p.1) (all_read_only xs q.0 q.1))

module _ (separator base : ℕ) (read : List ℕ → Option ℕ) (print : ℕ → List ℕ) (spelling : IsSpelling separator base read print) where
  printed_apart : (ns : List ℕ) → AllBelowBase base ns → AllByRecursion (All (λ c. eqb c separator ≡ false)) (map print ns)
  printed_apart [] h = tt
  printed_apart (n ∷ ns) h = (spelling.apart n h.0, printed_apart ns h.1)

  -- the text that spells a number
  abbrev pub spelled : ℕ → ℕ → List ℕ
  spelled count n = join_with_byte separator (map print (low_digits base count n))

  pub reads_again : (count n : ℕ) → 0 < base → n < base ^ suc count → number_in_pieces (suc count) base read (pieces_of separator (spelled (suc count) n)) ≡ Some n
  reads_again count n some fits =
      let digits = low_digits base (suc count) n in
      let below = below-low_digits base (suc count) n some in
      let pieces = pieces_of-join separator (print (n / base ^ count % base)) (map print (low_digits base count n)) (printed_apart digits below) in
      let enough : length (map print digits) ≡ suc count = length-map digits print ∙ length-low_digits base (suc count) n in
      ap (number_in_pieces (suc count) base read) pieces
      ∙ cond-true (eqb (length (map print digits)) (suc count)) (number_read base read (map print digits)) None (eq-eqb _ _ enough)
      ∙ ap (option_map (number_from_digits base)) (all_read-map base read print spelling.inverse digits below)
      ∙ ap Some (number-low_digits base (suc count) n some fits)

  pub reads_only : (count n : ℕ) (text : List ℕ) → number_in_pieces count base read (pieces_of separator text) ≡ Some n → (text ≡ spelled count n) × (n < base ^ count)
  reads_only count n text e =
      let pieces = pieces_of separator text in
      let p = cond_same (eqb (length pieces) count) (number_read base read pieces) n e in
      let q = map_some (all_read read pieces) (number_from_digits base) n p.1 in
      let r = all_read_only base read print spelling.inverse pieces q.0 q.1 in
      let long : length q.0 ≡ count = r.len ∙ eqb-true _ _ p.0 in
      let digits : low_digits base count n ≡ q.0 = ap (low_digits base count) (sym q.2) ∙ low_digits-number base count q.0 long r.below in (
        sym (join_with_byte-slice_split separator text) ∙ ap (join_with_byte separator) r.printed ∙ ap (λ (ns : List ℕ). join_with_byte separator (map print ns)) (sym digits),
        subst (λ (m : ℕ). m < base ^ count) q.2 (subst (λ (k : ℕ). number_from_digits base q.0 < base ^ k) long (number_lt base q.0 r.below)),
      )
