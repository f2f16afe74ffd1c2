-- Where the first byte of a kind stands, by two parts of the bytes, and how digits stand before a separator.
use Rattle.std.proofs.Common.{◌≡◌, ℕ, ◌+◌, ◌*◌, ◌-◌, ◌<◌, ◌≤◌, Bool, true, false, not, eqb, List, [], ◌∷◌, ◌++◌, length, get_or, take, drop, fold, Option, Some, None, refl, sym, ap, subst, ◌∙◌, arith, ⊎_elim, if◌then◌else◌}
use Rattle.std.specs.Prelude.{position}
use Rattle.std.specs.List.{All, list_all, position_or_len}
use Rattle.std.proofs.lemmas.Bool.{false≢true, eqb-true, eq-eqb, cases_Bool, and_from, cond-true}
use Rattle.std.proofs.lemmas.Grind.{common_steps}
use Rattle.std.proofs.lemmas.List.{append-nil, nil_from_length, take-append-drop}
use Rattle.std.proofs.lemmas.List.Elements.{All-from_get_or, All-get_or}
use Rattle.std.proofs.lemmas.List.Folds.{prefix_len-append, list_all_more}
use Rattle.std.proofs.lemmas.List.Splits.{slice_split_none, slice_split_at}
use Rattle.std.proofs.lemmas.List.Sums.{fold_more, AllPass-from_list_all, prefix_len-le-length}
use Rattle.std.proofs.lemmas.Option.{same_Some}
use Rattle.net_base.specs.Number.{is_digit, decimal_value}
use Rattle.trace_text.specs.Views.{digits_value}
use Rattle.trace_text.specs.Words.{pieces_of}
use Rattle.trace_text.proofs.Spelling.{cond_same}

module _ (p : ℕ → Bool) where
  joined-len : (xs ys : List ℕ) → position_or_len p (xs ++ ys) ≡ (if eqb (position_or_len p xs) (length xs) then length xs + position_or_len p ys else position_or_len p xs)
  joined-len xs ys = prefix_len-append (λ x. not (p x)) xs ys

  in_front : (xs ys : List ℕ) (i : ℕ) → position p xs ≡ Some i → position p (xs ++ ys) ≡ Some i
  in_front xs ys i e = let both = joined-len xs ys in grind (arith, common_steps, both)

  past : (xs : List ℕ) → position p xs ≡ None → position_or_len p xs ≡ length xs
  past xs e = let most = prefix_len-le-length (λ x. not (p x)) xs in grind (arith, common_steps, most)

  behind : (xs ys : List ℕ) (i : ℕ) → position p xs ≡ None → position p ys ≡ Some i → position p (xs ++ ys) ≡ Some (length xs + i)
  behind xs ys i e f = let both = joined-len xs ys in let whole = past xs e in grind (arith, common_steps, both, whole)

  nowhere : (xs ys : List ℕ) → position p xs ≡ None → position p ys ≡ None → position p (xs ++ ys) ≡ None
  nowhere xs ys e f = let both = joined-len xs ys in let whole = past xs e in let all = past ys f in grind (arith, common_steps, both, whole, all)

  pub place_in_front : (n i : ℕ) (xs : List ℕ) → position p (take n xs) ≡ Some i → position p xs ≡ Some i
  place_in_front n i xs e = subst (λ ys. position p ys ≡ Some i) (take-append-drop n xs) (in_front (take n xs) (drop n xs) i e)

  pub place_behind : (n i : ℕ) (xs : List ℕ) → n ≤ length xs → position p (take n xs) ≡ None → position p (drop n xs) ≡ Some i → position p xs ≡ Some (n + i)
  place_behind n i xs inside e f =
      let size : length (take n xs) ≡ n = grind (arith, common_steps) in
      subst (λ ys. position p ys ≡ Some (n + i)) (take-append-drop n xs)
      (behind (take n xs) (drop n xs) i e f ∙ ap (λ m. Some (m + i)) size)

  pub place_nowhere : (n : ℕ) (xs : List ℕ) → position p (take n xs) ≡ None → position p (drop n xs) ≡ None → position p xs ≡ None
  place_nowhere n xs e f = subst (λ ys. position p ys ≡ None) (take-append-drop n xs) (nowhere (take n xs) (drop n xs) e f)

-- ---- bytes of a kind, of which the separator is none

apart : (q : ℕ → Bool) (s : ℕ) (xs : List ℕ) → list_all q xs ≡ true → q s ≡ false → All (λ c. eqb c s ≡ false) xs
apart q s xs all other = All-from_get_or (λ c. eqb c s ≡ false) xs 0 (λ i inside.
    let here : q (get_or xs i 0) ≡ true = All-get_or (λ c. q c ≡ true) xs i 0 inside (AllPass-from_list_all q xs all) in
    ⊎_elim (λ same. absurd (false≢true (sym other ∙ (ap q (sym (eqb-true _ s same)) ∙ here)))) (λ other. other) (cases_Bool (eqb (get_or xs i 0) s)))

pub whole_piece : (q : ℕ → Bool) (s : ℕ) (xs : List ℕ) → list_all q xs ≡ true → q s ≡ false → pieces_of s xs ≡ xs ∷ []
whole_piece q s xs all other = slice_split_none (λ c. eqb c s) xs (apart q s xs all other)

pub front_piece : (q : ℕ → Bool) (s : ℕ) (xs rest : List ℕ) → list_all q xs ≡ true → q s ≡ false → pieces_of s (xs ++ s ∷ rest) ≡ xs ∷ pieces_of s rest
front_piece q s xs rest all other = slice_split_at (λ c. eqb c s) xs s rest (apart q s xs all other) (eq-eqb s s refl)

-- ---- digits

pub are_digits : (xs : List ℕ) (v : ℕ) → digits_value xs ≡ Some v → list_all is_digit xs ≡ true
are_digits xs v e = (cond_same (list_all is_digit xs) (Some (decimal_value xs)) v e).0

value_of_digits : (xs : List ℕ) (v : ℕ) → digits_value xs ≡ Some v → decimal_value xs ≡ v
value_of_digits xs v e = same_Some _ _ (cond_same (list_all is_digit xs) (Some (decimal_value xs)) v e).1

pub one_digit_more : (xs : List ℕ) (i v : ℕ) → i < length xs → digits_value (take i xs) ≡ Some v → is_digit (get_or xs i 0) ≡ true →
    digits_value (take (i + 1) xs) ≡ Some (v * 10 + (get_or xs i 0 - 48))
one_digit_more xs i v inside e digit =
    let all : list_all is_digit (take (i + 1) xs) ≡ true = list_all_more is_digit xs i 0 inside ∙ and_from _ _ (are_digits (take i xs) v e) digit in
    let value : decimal_value (take (i + 1) xs) ≡ v * 10 + (get_or xs i 0 - 48) =
    fold_more (λ value c. value * 10 + (c - 48)) 0 xs i 0 inside ∙ ap (λ n. n * 10 + (get_or xs i 0 - 48)) (value_of_digits (take i xs) v e) in
    cond-true (list_all is_digit (take (i + 1) xs)) (Some (decimal_value (take (i + 1) xs))) None all ∙ ap Some value

-- digits at the front that are all, and digits that a separator follows
pub last_digits : (s n v : ℕ) (xs : List ℕ) → digits_value (take n xs) ≡ Some v → is_digit s ≡ false → length (drop n xs) ≡ 0 → pieces_of s xs ≡ take n xs ∷ []
last_digits s n v xs e other none =
    let same : take n xs ≡ xs = sym (append-nil (take n xs)) ∙ ap (λ ys. take n xs ++ ys) (sym (nil_from_length (drop n xs) none)) ∙ take-append-drop n xs in
    ap (pieces_of s) (sym same) ∙ whole_piece is_digit s (take n xs) (are_digits (take n xs) v e) other

pub front_digits : (s n v : ℕ) (xs rest : List ℕ) → digits_value (take n xs) ≡ Some v → is_digit s ≡ false → drop n xs ≡ s ∷ rest → pieces_of s xs ≡ take n xs ∷ pieces_of s rest
front_digits s n v xs rest e other follows =
    ap (pieces_of s) (sym (take-append-drop n xs) ∙ ap (λ ys. take n xs ++ ys) follows) ∙ front_piece is_digit s (take n xs) rest (are_digits (take n xs) v e) other
