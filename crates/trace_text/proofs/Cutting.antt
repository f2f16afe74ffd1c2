-- Cutting at the first separator, and at every one.
use Rattle.std.proofs.Common.{◌≡◌, ℕ, ◌+◌, ◌<◌, ◌≤◌, true, false, eqb, List, [], ◌∷◌, ◌++◌, length, get_or, take, drop, Option, Some, None, refl, sym, ap, ◌∙◌, arith, inl, inr}
use Rattle.std.specs.Prelude.{IsTrue, is_none}
use Rattle.std.specs.Borrow.{Bor}
use Rattle.std.specs.List.{All, AllByRecursion, join_with_byte, position_or_len, before_first, after_first}
use Rattle.std.proofs.lemmas.Bool.{false≢true, cases_lt, lt-ltb, le-ltb, eqb-true, eq-eqb}
use Rattle.std.proofs.lemmas.Option.{some_pair_parts}
use Rattle.std.proofs.lemmas.List.Elements.{All-from_get_or, All-get_or}
use Rattle.std.proofs.lemmas.List.{length-append, get_or_append_left, get_or_at, take_at, drop_at, drop-drop}
use Rattle.std.proofs.lemmas.List.Sums.{split_at_first, passes_at_first, fails_before_first, position_or_len_is}
use Rattle.std.proofs.lemmas.List.Splits.{slice_split_first, slice_split_none, slice_split_at, length-slice_split}
use Rattle.trace_text.specs.Words.{pieces_of, cut_at}
use Rattle.trace_text.specs.Views.{pieces_left}

abbrev place : ℕ → List ℕ → ℕ
place s xs = position_or_len (λ c. eqb c s) xs

-- a separator stands in the bytes: the first one
pub record IsCut (s : ℕ) (xs a b : List ℕ) : Type 0 where
  pub whole : xs ≡ a ++ s ∷ b
  pub first : pieces_of s xs ≡ a ∷ pieces_of s b

cut_at-within : (s : ℕ) (xs : List ℕ) → place s xs < length xs → cut_at s xs ≡ Some (before_first (λ c. eqb c s) xs, after_first (λ c. eqb c s) xs)
cut_at-within s xs h = rw (lt-ltb _ _ h) refl

cut_at-past : (s : ℕ) (xs : List ℕ) → length xs ≤ place s xs → cut_at s xs ≡ None
cut_at-past s xs h = rw (le-ltb _ _ h) refl

IsCut-within : (s : ℕ) (xs : List ℕ) → place s xs < length xs → IsCut s xs (before_first (λ c. eqb c s) xs) (after_first (λ c. eqb c s) xs)
IsCut-within s xs h = record {
  whole = split_at_first (λ c. eqb c s) xs 0 h ∙ ap (λ (c : ℕ). before_first (λ c. eqb c s) xs ++ c ∷ after_first (λ c. eqb c s) xs) (eqb-true _ s (passes_at_first (λ c. eqb c s) xs 0 h));
  first = slice_split_first (λ c. eqb c s) xs 0 h;
}

pub cut_at-Some : (s : ℕ) (xs a b : List ℕ) → cut_at s xs ≡ Some (a, b) → IsCut s xs a b
cut_at-Some s xs a b e =
    elim (cases_lt (place s xs) (length xs)) [
      | inl h ↦
          let p = some_pair_parts _ a _ b (sym (cut_at-within s xs h) ∙ e) in
          rw (p.0, p.1) at (IsCut-within s xs h)
      | inr h ↦ absurd (let n : None ≡ Some (a, b) = sym (cut_at-past s xs h) ∙ e in cc)
    ]

pub cut_at-None : (s : ℕ) (xs : List ℕ) → cut_at s xs ≡ None → pieces_of s xs ≡ xs ∷ []
cut_at-None s xs e =
    elim (cases_lt (place s xs) (length xs)) [
      | inl h ↦ absurd (let n : ◌≡◌ {A = Option (List ℕ × List ℕ)} None (Some (before_first (λ c. eqb c s) xs, after_first (λ c. eqb c s) xs)) = sym e ∙ cut_at-within s xs h in cc)
      | inr h ↦ slice_split_none (λ c. eqb c s) xs (All-from_get_or (λ c. eqb c s ≡ false) xs 0 (λ i l. fails_before_first (λ c. eqb c s) xs i 0 (omega arith)))
    ]

pub pieces_of-ne : (s : ℕ) (xs : List ℕ) → pieces_of s xs ≡ [] → ⊥
pieces_of-ne s xs e = let l = ap length e in omega (arith, length-slice_split (λ c. eqb c s) xs)

-- nothing is left exactly where the last piece was taken
pub none_left : (s : ℕ) (rest : Option (Bor (List ℕ))) → (IsTrue (is_none rest) → pieces_left s rest ≡ []) × (pieces_left s rest ≡ [] → IsTrue (is_none rest))
none_left s None = (λ _. refl, λ _. refl)
none_left s (Some rest) = (λ h. absurd (false≢true h), λ e. absurd (pieces_of-ne s rest.now e))

drop_past : (s : ℕ) (a b : List ℕ) → drop (length a + 1) (a ++ s ∷ b) ≡ b
drop_past s a b = sym (drop-drop 1 (length a) (a ++ s ∷ b)) ∙ ap (drop 1) (drop_at a (s ∷ b) (length a) refl)

-- the first separator stands at a place
pub cut_at-place : (s : ℕ) (xs : List ℕ) (i : ℕ) → i < length xs → ((k : ℕ) → k < i → eqb (get_or xs k 0) s ≡ false) → eqb (get_or xs i 0) s ≡ true
    → cut_at s xs ≡ Some (take i xs, drop (i + 1) xs)
cut_at-place s xs i inside before here =
    let at : position_or_len (λ c. eqb c s) xs ≡ i = position_or_len_is (λ c. eqb c s) xs i 0 (omega arith) before (λ h. here) in
    cut_at-within s xs (omega arith) ∙ ap (λ (i : ℕ). Some (take i xs, drop (i + 1) xs)) at

-- a separator behind bytes that are none
pub cut_at-append : (s : ℕ) (a b : List ℕ) → All (λ c. eqb c s ≡ false) a → cut_at s (a ++ s ∷ b) ≡ Some (a, b)
cut_at-append s a b apart =
    let xs : List ℕ = a ++ s ∷ b in
    let at : position_or_len (λ c. eqb c s) xs ≡ length a = position_or_len_is (λ c. eqb c s) xs (length a) 0 (omega (arith, length-append a (s ∷ b)))
    (λ k h. ap (λ (c : ℕ). eqb c s) (get_or_append_left a (s ∷ b) 0 k h) ∙ All-get_or (λ c. eqb c s ≡ false) a k 0 h apart)
    (λ h. eq-eqb _ s (get_or_at a s b 0 (length a) refl)) in
    cut_at-within s xs (omega (arith, length-append a (s ∷ b)))
    ∙ ap (λ (i : ℕ). Some (take i xs, drop (i + 1) xs)) at
    ∙ ap (λ (front : List ℕ). Some (front, drop (length a + 1) xs)) (take_at a (s ∷ b) (length a) refl)
    ∙ ap (λ (back : List ℕ). Some (a, back)) (drop_past s a b)

-- what is joined by a separator that no piece holds is cut into the pieces
pub pieces_of-join : (s : ℕ) (piece : List ℕ) (pieces : List (List ℕ)) → AllByRecursion (All (λ c. eqb c s ≡ false)) (piece ∷ pieces) →
    pieces_of s (join_with_byte s (piece ∷ pieces)) ≡ piece ∷ pieces
pieces_of-join s piece [] apart = slice_split_none (λ c. eqb c s) piece apart.0
pieces_of-join s piece (next ∷ pieces) apart =
    slice_split_at (λ c. eqb c s) piece s (join_with_byte s (next ∷ pieces)) apart.0 (eq-eqb s s refl)
    ∙ ap (λ (words : List (List ℕ)). piece ∷ words) (pieces_of-join s next pieces apart.1)
