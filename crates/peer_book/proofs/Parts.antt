-- A row in two parts.
use Rattle.std.proofs.Common.{◌≡◌, ℕ, zero, suc, ◌+◌, ◌<◌, ◌≤◌, Bool, true, false, nat_eq, min, List, [], ◌∷◌, ◌++◌, length, take, drop, get_or, slice_get, refl, sym, ap, ◌∙◌, length-append, inl, inr, arith}
use Rattle.std.specs.List.{AllByRecursion, prefix_len, insert, remove}
use Rattle.std.proofs.lemmas.Bool.{cases_Bool, cases_lt}
use Rattle.std.proofs.lemmas.List.{drop-append-le, drop_min, get_or-drop, get_or-take, length-drop, length-take, take-append-le}
use Rattle.std.proofs.lemmas.Option.{slice_get_past, slice_get_read}
use Rattle.std.proofs.Math.Seq.{drop-append-add, take-length}
use Rattle.net_base.specs.declared.address.Addr.{Addr}
use Rattle.peer_book.specs.Order.{IsRising}

all_front : {X : Type 0} (P : X → Type 0) (xs ys : List X) → AllByRecursion P (xs ++ ys) → AllByRecursion P xs
all_front P [] ys h = tt
all_front P (x ∷ xs) ys h = (h.0, all_front P xs ys h.1)

pub rises_front : {X : Type 0} (key : X → Addr) (xs ys : List X) → IsRising key (xs ++ ys) → IsRising key xs
rises_front key [] ys h = tt
rises_front key (x ∷ xs) ys h = (all_front _ xs ys h.0, rises_front key xs ys h.1)

pub rises_back : {X : Type 0} (key : X → Addr) (xs ys : List X) → IsRising key (xs ++ ys) → IsRising key ys
rises_back key [] ys h = h
rises_back key (x ∷ xs) ys h = rises_back key xs ys h.1

module _ {X : Type 0} where
  -- ---- a place in the first part, or behind it

  pub place_in_front : (p : X → Bool) (xs ys : List X) → prefix_len p xs < length xs → prefix_len p (xs ++ ys) ≡ prefix_len p xs
  place_in_front p [] ys h = absurd (omega (arith, h))
  place_in_front p (x ∷ xs) ys h = elim (cases_Bool (p x)) [
    | inl passes ↦
        let fewer : 1 + prefix_len p xs < suc (length xs) = rw passes at h in
        rw passes (ap (λ n. 1 + n) (place_in_front p xs ys (omega (arith, fewer))))
    | inr fails ↦ rw fails refl
  ]

  pub place_behind : (p : X → Bool) (xs ys : List X) → length xs ≤ prefix_len p xs → prefix_len p (xs ++ ys) ≡ prefix_len p xs + prefix_len p ys
  place_behind p [] ys h = omega arith
  place_behind p (x ∷ xs) ys h = elim (cases_Bool (p x)) [
    | inl passes ↦
        let all : suc (length xs) ≤ 1 + prefix_len p xs = rw passes at h in
        rw passes (omega (arith, place_behind p xs ys (omega (arith, all))))
    | inr fails ↦
        let none : suc (length xs) ≤ 0 = rw fails at h in
        absurd (omega (arith, none))
  ]

  -- ---- what stands together from a place on

  pub run_in_front : (xs ys run : List X) (place : ℕ) → place ≤ length xs → run ≡ take (length run) (drop place xs) →
      run ≡ take (length run) (drop place (xs ++ ys))
  run_in_front xs ys run place upto is =
      let within : length run ≤ length (drop place xs) = omega (arith, ap length is, length-take (length run) (drop place xs)) in
      is ∙ sym (ap (take (length run)) (drop-append-le place xs ys upto) ∙ take-append-le (length run) (drop place xs) ys within)

  pub run_behind : (xs ys run : List X) (place behind : ℕ) → place ≡ length xs + behind → run ≡ drop (min behind (length ys)) ys →
      run ≡ take (length run) (drop place (xs ++ ys))
  run_behind xs ys run place behind at is =
      let rest : run ≡ drop place (xs ++ ys) = is ∙ (drop_min behind ys ∙ sym (ap (λ n. drop n (xs ++ ys)) at ∙ drop-append-add xs ys behind)) in
      sym (ap (take (length run)) (sym rest) ∙ take-length run)

  pub some_behind : (xs ys run : List X) (place behind : ℕ) → place ≡ length xs + behind → run ≡ drop (min behind (length ys)) ys →
      place < length (xs ++ ys) → 0 < length run
  some_behind xs ys run place behind at is inside =
      omega (arith, at, ap length (is ∙ drop_min behind ys), length-drop behind ys, inside, length-append xs ys)

  -- ---- the first of what stands together

  pub first_of_run : (xs run : List X) (place : ℕ) → run ≡ take (length run) (drop place xs) → (place < length xs → 0 < length run) →
      slice_get run 0 ≡ slice_get xs place
  first_of_run xs [] place front some = elim (cases_lt place (length xs)) [
    | inl inside ↦ absurd (omega (arith, some inside))
    | inr past ↦ sym (slice_get_past xs place past)
  ]
  first_of_run xs (r ∷ run) place front some =
      let n : ℕ = suc (length run) in
      let inside : place < length xs = omega (arith, ap length front, length-take n (drop place xs), length-drop place xs) in
      let at : place + 0 ≡ place = omega arith in
      let is : r ≡ get_or xs place r =
      ap (λ l. get_or l 0 r) front ∙ (get_or-take n (drop place xs) 0 r (omega arith) ∙ (get_or-drop place xs 0 r ∙ ap (λ i. get_or xs i r) at)) in
      sym (slice_get_read xs (length xs) place r refl inside is)

  -- ---- the last of the first part goes behind it

  pub last_moved : (xs ys : List X) (last : ℕ) (x : X) → suc last ≡ length xs → x ≡ get_or xs last x →
      remove xs last ++ insert ys 0 x ≡ xs ++ ys
  last_moved [] ys last x e is = absurd (omega (arith, e))
  last_moved (y ∷ []) ys zero x e is = rw is (first_in ys)
    where
      first_in : (zs : List X) → insert zs 0 y ≡ y ∷ zs
      first_in [] = refl
      first_in (z ∷ zs) = refl
  last_moved (y ∷ z ∷ xs) ys zero x e is = absurd (omega (arith, e))
  last_moved (y ∷ xs) ys (suc last) x e is = ap (λ l. y ∷ l) (last_moved xs ys last x (omega (arith, e)) is)

  -- ---- nothing

  pub not_empty : (xs ys : List X) → nat_eq (length xs) 0 ≡ false → xs ++ ys ≡ [] → false ≡ true
  not_empty [] ys some none = sym some
  not_empty (x ∷ xs) ys some none = cc
