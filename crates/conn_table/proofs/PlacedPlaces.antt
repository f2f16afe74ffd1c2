-- A rising list by the place of one in it: what an edit there leaves.
use Rattle.std.proofs.Common.{◌≡◌, ℕ, suc, zero, ◌<◌, ◌≤◌, ◌+◌, Bool, true, false, cond, List, [], ◌∷◌, length, get_or, None, refl, sym, subst, ap, ◌∙◌, inl, inr, arith}
use Rattle.std.specs.List.{AllByRecursion, prefix_len, find, filter, insert, remove}
use Rattle.std.specs.List.Sorted.{IsPartitionedBy, IsPartitionPoint}
use Rattle.std.proofs.lemmas.Bool.{cases_Bool, cases_order, false≢true, true≢false, false_from_ne_true}
use Rattle.std.proofs.lemmas.List.Elements.{All-from_recursion}
use Rattle.std.proofs.lemmas.List.Sums.{prefix_len_is}
use Rattle.conn_table.specs.Index.{placed_below, same_placed, IsRising, put_in, taken_out, stands}
use Rattle.conn_table.specs.declared.placed.Placed.{Placed}
use Rattle.conn_table.proofs.PlacedOrder.{placed_transitive, placed_connected, other_when_below, other_when_above, same_placed-is}

one_more : (n : ℕ) → 1 + n ≡ suc n
one_more n = omega arith

abbrev pub AllAbove : Placed → List Placed → Type 0
AllAbove p ps = AllByRecursion (λ q. placed_below p q ≡ true) ps

pub above_lower : (p q : Placed) (ps : List Placed) → placed_below p q ≡ true → AllAbove q ps → AllAbove p ps
above_lower p q [] lower h = tt
above_lower p q (r ∷ rs) lower h = (placed_transitive p q r lower h.0, above_lower p q rs lower h.1)

pub rising_pairs : (ps : List Placed) → IsRising ps → (i j : ℕ) (d : Placed) → i < j → j < length ps →
    placed_below (get_or ps i d) (get_or ps j d) ≡ true
rising_pairs [] rises i j d lt inside = absurd (omega (arith, inside))
rising_pairs (p ∷ ps) rises i zero d lt inside = absurd (omega (arith, lt))
rising_pairs (p ∷ ps) rises zero (suc j) d lt inside =
    All-from_recursion (λ q. placed_below p q ≡ true) ps rises.0 j d (omega arith)
rising_pairs (p ∷ ps) rises (suc i) (suc j) d lt inside = rising_pairs ps rises.1 i j d (omega arith) (omega arith)

-- A rising list is parted by whatever holds of all below one that it holds of.
pub parted : (under : Placed → Bool) → ((p q : Placed) → placed_below p q ≡ true → under q ≡ true → under p ≡ true) →
    (ps : List Placed) → IsRising ps → IsPartitionedBy under ps
parted under downward ps rises i j d upto inside holds = elim (cases_order i j) [
  | inl e ↦ subst (λ n. under (get_or ps n d) ≡ true) (sym e) holds
  | inr apart ↦ elim apart [
    | inl lt ↦ downward _ _ (rising_pairs ps rises i j d lt inside) holds
    | inr gt ↦ absurd (omega (arith, gt, upto))
  ]
]

pub place_is : {X : Type 0} (p : X → Bool) (xs : List X) (i : ℕ) → i ≤ length xs →
    IsPartitionPoint (λ x. p x ≡ true) (λ x. p x ≡ false) xs i → i ≡ prefix_len p xs
place_is p [] i upto point = omega arith
place_is p (x ∷ xs) i upto point =
    sym (prefix_len_is p (x ∷ xs) i x upto (λ k below. point.0 k x (omega arith) below) (λ inside. point.1 i x (omega arith) inside))

abbrev pub place : Placed → List Placed → ℕ
place new ps = prefix_len (λ p. placed_below p new) ps

-- ---- what is above one is another

pub find-above : (old : Placed) (ps : List Placed) → AllAbove old ps → find (λ p. same_placed p old) ps ≡ None
find-above old [] h = refl
find-above old (p ∷ ps) h = rw (other_when_above p old h.0) (find-above old ps h.1)

pub taken_out-above : (old : Placed) (ps : List Placed) → AllAbove old ps → taken_out old ps ≡ ps
taken_out-above old [] h = refl
taken_out-above old (p ∷ ps) h = rw (other_when_above p old h.0) (ap (λ l. p ∷ l) (taken_out-above old ps h.1))

above_when_same : (old p : Placed) (ps : List Placed) → same_placed p old ≡ true → AllAbove p ps → AllAbove old ps
above_when_same old p ps same h = subst (λ q. AllAbove q ps) (same_placed-is p old same) h

above_when_not_below : (new p : Placed) (ps : List Placed) → placed_below p new ≡ false → AllAbove p ps → AllAbove new ps
above_when_not_below new p ps over h = elim (cases_Bool (same_placed p new)) [
  | inl same ↦ above_when_same new p ps same h
  | inr other ↦ above_lower new p ps (placed_connected p new other over) h
]

-- ---- one put in

pub insert-place : (new : Placed) (ps : List Placed) → insert ps (place new ps) new ≡ put_in new ps
insert-place new [] = refl
insert-place new (p ∷ ps) = elim (cases_Bool (placed_below p new)) [
  | inl under ↦ rw (under, one_more (place new ps)) (ap (λ l. p ∷ l) (insert-place new ps))
  | inr over ↦ rw over refl
]

AllAbove-put_in : (p new : Placed) (ps : List Placed) → placed_below p new ≡ true → AllAbove p ps → AllAbove p (put_in new ps)
AllAbove-put_in p new [] h k = (h, tt)
AllAbove-put_in p new (q ∷ qs) h k = elim (cases_Bool (placed_below q new)) [
  | inl under ↦ rw under (k.0, AllAbove-put_in p new qs h k.1)
  | inr over ↦ rw over (h, k)
]

pub IsRising-put_in : (new : Placed) (ps : List Placed) → IsRising ps → stands new ps ≡ false → IsRising (put_in new ps)
IsRising-put_in new [] rises absent = (tt, tt)
IsRising-put_in new (p ∷ ps) rises absent = elim (cases_Bool (same_placed p new)) [
  | inl same ↦ absurd (true≢false (rw same at absent))
  | inr other ↦ elim (cases_Bool (placed_below p new)) [
    | inl under ↦ rw under (AllAbove-put_in p new ps under rises.0, IsRising-put_in new ps rises.1 (rw other at absent))
    | inr over ↦
        let below = placed_connected p new other over in
        rw over ((below, above_lower new p ps below rises.0), rises)
  ]
]

-- ---- one taken out

first_is_there : (old p : Placed) (ps : List Placed) → IsRising (p ∷ ps) → placed_below p old ≡ false →
    stands old (p ∷ ps) ≡ true → same_placed p old ≡ true
first_is_there old p ps rises over there = elim (cases_Bool (same_placed p old)) [
  | inl same ↦ same
  | inr other ↦
      let none : find (λ q. same_placed q old) ps ≡ None = find-above old ps (above_when_not_below old p ps over rises.0) in
      absurd (true≢false (sym there ∙ rw (other, none) refl))
]

stands_later : (old p : Placed) (ps : List Placed) → placed_below p old ≡ true → stands old (p ∷ ps) ≡ true → stands old ps ≡ true
stands_later old p ps under there = rw (other_when_below p old under) at there

pub place-inside : (old : Placed) (ps : List Placed) → IsRising ps → stands old ps ≡ true → place old ps < length ps
place-inside old [] rises there = absurd (false≢true there)
place-inside old (p ∷ ps) rises there = elim (cases_Bool (placed_below p old)) [
  | inl under ↦ rw under (omega (arith, place-inside old ps rises.1 (stands_later old p ps under there)))
  | inr over ↦ rw over (omega arith)
]

pub remove-place : (old : Placed) (ps : List Placed) → IsRising ps → stands old ps ≡ true → remove ps (place old ps) ≡ taken_out old ps
remove-place old [] rises there = absurd (false≢true there)
remove-place old (p ∷ ps) rises there = elim (cases_Bool (placed_below p old)) [
  | inl under ↦ rw (under, other_when_below p old under, one_more (place old ps))
      (ap (λ l. p ∷ l) (remove-place old ps rises.1 (stands_later old p ps under there)))
  | inr over ↦
      let same : same_placed p old ≡ true = first_is_there old p ps rises over there in
      rw (over, same) (sym (taken_out-above old ps (above_when_same old p ps same rises.0)))
]

-- ---- one put in, and another taken out

put_in-first : (new : Placed) (ps : List Placed) → AllByRecursion (λ p. placed_below p new ≡ false) ps → put_in new ps ≡ new ∷ ps
put_in-first new [] h = refl
put_in-first new (p ∷ ps) h = rw h.0 refl

not_under : (new p : Placed) (ps : List Placed) → placed_below p new ≡ false → AllAbove p ps → AllByRecursion (λ q. placed_below q new ≡ false) ps
not_under new p [] over h = tt
not_under new p (q ∷ qs) over h = (
  false_from_ne_true (placed_below q new) (λ k. false≢true (sym over ∙ placed_transitive p q new h.0 k)),
  not_under new p qs over h.1,
)

over-cond : (new : Placed) (b : Bool) (p : Placed) (ps : List Placed) → placed_below p new ≡ false → AllByRecursion (λ q. placed_below q new ≡ false) ps →
    AllByRecursion (λ q. placed_below q new ≡ false) (cond b (p ∷ ps) ps)
over-cond new true p ps h k = (h, k)
over-cond new false p ps h k = k

over-filter : (keep : Placed → Bool) (new : Placed) (ps : List Placed) → AllByRecursion (λ q. placed_below q new ≡ false) ps →
    AllByRecursion (λ q. placed_below q new ≡ false) (filter keep ps)
over-filter keep new [] h = tt
over-filter keep new (p ∷ ps) h = over-cond new (keep p) p (filter keep ps) h.0 (over-filter keep new ps h.1)

-- what is put in and kept
pub filter-put_in : (keep : Placed → Bool) (new : Placed) (ps : List Placed) → IsRising ps → keep new ≡ true →
    filter keep (put_in new ps) ≡ put_in new (filter keep ps)
filter-put_in keep new [] rises kept = rw kept refl
filter-put_in keep new (p ∷ ps) rises kept = elim (cases_Bool (placed_below p new)) [
  | inl under ↦ elim (cases_Bool (keep p)) [
    | inl here ↦ rw (under, here, under) (ap (λ l. p ∷ l) (filter-put_in keep new ps rises.1 kept))
    | inr gone ↦ rw (under, gone) (filter-put_in keep new ps rises.1 kept)
  ]
  | inr over ↦ rw (over, kept)
      (sym (put_in-first new (filter keep (p ∷ ps)) (over-filter keep new (p ∷ ps) (over, not_under new p ps over rises.0))))
]

-- what is put in and taken out again
pub taken_out-put_in : (new : Placed) (ps : List Placed) → same_placed new new ≡ true → stands new ps ≡ false → taken_out new (put_in new ps) ≡ ps
taken_out-put_in new [] itself absent = rw itself refl
taken_out-put_in new (p ∷ ps) itself absent = elim (cases_Bool (same_placed p new)) [
  | inl same ↦ absurd (true≢false (rw same at absent))
  | inr other ↦
      let later : stands new ps ≡ false = rw other at absent in
      elim (cases_Bool (placed_below p new)) [
        | inl under ↦ rw (under, other) (ap (λ l. p ∷ l) (taken_out-put_in new ps itself later))
        | inr over ↦ rw (over, itself, other) (ap (λ l. p ∷ l) (taken_out-absent new ps later))
      ]
]
  where
    taken_out-absent : (old : Placed) (ps : List Placed) → stands old ps ≡ false → taken_out old ps ≡ ps
    taken_out-absent old [] absent = refl
    taken_out-absent old (p ∷ ps) absent = elim (cases_Bool (same_placed p old)) [
      | inl same ↦ absurd (true≢false (rw same at absent))
      | inr other ↦ rw other (ap (λ l. p ∷ l) (taken_out-absent old ps (rw other at absent)))
    ]
