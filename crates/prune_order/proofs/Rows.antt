-- The leaves after a change, and the rows that they are.
use Rattle.std.proofs.Common.{◌≡◌, ℕ, ◌+◌, ◌<◌, ◌≤◌, Bool, true, false, ◌||◌, cond, List, [], ◌∷◌, ◌++◌, length, set, Option, Some, None, nat_lt, refl, sym, ap, subst, ◌∙◌, inl, inr, arith}
use Rattle.std.specs.List.{AllByRecursion, cons_option, list_any, prefix_len}
use Rattle.std.proofs.lemmas.List.{length-map, length_push}
use Rattle.std.proofs.lemmas.List.Elements.{filter_map-append}
use Rattle.std.proofs.lemmas.Bool.{cases_Bool, or_parts, false≢true, true≢false}
use Rattle.std.proofs.lemmas.Bool.Decides.{nat_tests}
use Rattle.net_base.specs.declared.connection.Cid.{Cid}
use Rattle.timer_queue.specs.Order.{IsRising}
use Rattle.timer_queue.specs.Timers.{same_cid, cid_below}
use Rattle.timer_queue.proofs.Orders.{cid_order, same_cid-is}
use Rattle.timer_queue.proofs.Rising.{set-place, place-inside, above_when_same, map-replaced, IsRising-map, IsRising-from_map, IsRising-filter, any-above}
use Rattle.prune_order.specs.Kept.{AreRising, AreUpTo, AreOfWord, IsOfWord}
use Rattle.prune_order.specs.Leaves.{is_there, ranked, row_by, row_of, rows_of, with_leaf, standing_by, those_there}
use Rattle.prune_order.specs.Order.{stands, with_rank, without}
use Rattle.prune_order.specs.declared.leaf.Leaf.{Leaf}
use Rattle.prune_order.specs.declared.leaf.Standing.{Standing}
use Rattle.prune_order.specs.declared.leaf.Standing.TheVariants.{Gone, Kept, MayGo}
use Rattle.prune_order.specs.declared.ranked.Ranked.{Ranked}

-- ---- a row of one that came

-- whoever stands came
pub stands-leaves : (cid : Cid) (leaves : List Leaf) → stands cid (rows_of leaves) ≡ true → list_any (λ l. same_cid l.cid cid) leaves ≡ true
stands-leaves cid [] h = h
stands-leaves cid (l ∷ ls) h = by l.standing (stands-leaves cid ls) h
  where
    or_true : (b : Bool) → (b || true) ≡ true
    or_true true = refl
    or_true false = refl

    one_of : (b : Bool) → (stands cid (rows_of ls) ≡ true → list_any (λ l. same_cid l.cid cid) ls ≡ true) → (b || stands cid (rows_of ls)) ≡ true →
        (b || list_any (λ l. same_cid l.cid cid) ls) ≡ true
    one_of true later e = refl
    one_of false later e = later e

    by : (s : Standing) → (stands cid (rows_of ls) ≡ true → list_any (λ l. same_cid l.cid cid) ls ≡ true) →
        stands cid (cons_option (row_by s l) (rows_of ls)) ≡ true → (same_cid l.cid cid || list_any (λ l. same_cid l.cid cid) ls) ≡ true
    by Gone later k = rw (later k) (or_true (same_cid l.cid cid))
    by Kept later k = one_of (same_cid l.cid cid) later k
    by (MayGo rank) later k = one_of (same_cid l.cid cid) later k

-- ---- one comes

row-new : (cid : Cid) (rank : Option ℕ) → rows_of (record { cid = cid; standing = standing_by rank } ∷ []) ≡ record { cid = cid; rank = rank } ∷ []
row-new cid None = refl
row-new cid (Some rank) = refl

pub rows-push : (leaves : List Leaf) (cid : Cid) (rank : Option ℕ) →
    rows_of (leaves ++ record { cid = cid; standing = standing_by rank } ∷ []) ≡ rows_of leaves ++ record { cid = cid; rank = rank } ∷ []
rows-push leaves cid rank =
    filter_map-append row_of leaves (record { cid = cid; standing = standing_by rank } ∷ []) ∙ ap (λ rs. rows_of leaves ++ rs) (row-new cid rank)

below_last : (a last cid : ℕ) → a ≤ last → last < cid → nat_lt a cid ≡ true
below_last a last cid h k = grind (arith, nat_tests)

all-push : (P : Leaf → Type 0) (leaves : List Leaf) (new : Leaf) → AllByRecursion P leaves → P new → AllByRecursion P (leaves ++ new ∷ [])
all-push P [] new h k = (k, tt)
all-push P (l ∷ ls) new h k = (h.0, all-push P ls new h.1 k)

pub rise-push : (leaves : List Leaf) (last : Cid) (new : Leaf) → AreRising leaves → AreUpTo last leaves → last.0 < new.cid.0 → AreRising (leaves ++ new ∷ [])
rise-push [] last new rise up_to above = (tt, tt)
rise-push (l ∷ ls) last new rise up_to above =
    (all-push (λ y. cid_below l.cid y.cid ≡ true) ls new rise.0 (below_last l.cid.0 last.0 new.cid.0 up_to.0 above), rise-push ls last new rise.1 up_to.1 above)

higher : (leaves : List Leaf) (last cid : Cid) → AreUpTo last leaves → last.0 < cid.0 → AreUpTo cid leaves
higher [] last cid h above = tt
higher (l ∷ ls) last cid h above = (omega (arith, h.0, above), higher ls last cid h.1 above)

pub up_to-push : (leaves : List Leaf) (last : Cid) (new : Leaf) → AreUpTo last leaves → last.0 < new.cid.0 → AreUpTo new.cid (leaves ++ new ∷ [])
up_to-push leaves last new up_to above = all-push (λ l. l.cid.0 ≤ new.cid.0) leaves new (higher leaves last new.cid up_to above) (omega arith)

-- ---- one stands otherwise

pub rise-with_leaf : (new : Leaf) (leaves : List Leaf) → AreRising leaves → AreRising (with_leaf new leaves)
rise-with_leaf new leaves rise =
    IsRising-from_map cid_below same_cid cid_order (λ l. l.cid) (with_leaf new leaves)
    (subst (IsRising cid_below (λ c. c)) (sym (map-replaced cid_below same_cid cid_order (λ l. l.cid) new.cid new leaves refl))
    (IsRising-map cid_below same_cid cid_order (λ l. l.cid) leaves rise))

pub up_to-with_leaf : (new : Leaf) (leaves : List Leaf) (last : Cid) → AreUpTo last leaves → AreUpTo last (with_leaf new leaves)
up_to-with_leaf new [] last h = tt
up_to-with_leaf new (l ∷ ls) last h = elim (cases_Bool (same_cid l.cid new.cid)) [
  | inl here ↦ rw here (subst (λ (c : Cid). c.0 ≤ last.0) (same_cid-is l.cid new.cid here) h.0, up_to-with_leaf new ls last h.1)
  | inr other ↦ rw other (h.0, up_to-with_leaf new ls last h.1)
]

-- of one that goes
gone-here : (cid : Cid) (s : Standing) (l : Leaf) (rows : List Ranked) → same_cid l.cid cid ≡ true → without cid (cons_option (row_by s l) rows) ≡ without cid rows
gone-here cid Gone l rows here = refl
gone-here cid Kept l rows here = rw here refl
gone-here cid (MayGo rank) l rows here = rw here refl

gone-other : (cid : Cid) (s : Standing) (l : Leaf) (rows : List Ranked) → same_cid l.cid cid ≡ false →
    without cid (cons_option (row_by s l) rows) ≡ cons_option (row_by s l) (without cid rows)
gone-other cid Gone l rows other = refl
gone-other cid Kept l rows other = rw other refl
gone-other cid (MayGo rank) l rows other = rw other refl

pub rows-gone : (cid : Cid) (leaves : List Leaf) → rows_of (with_leaf (record { cid = cid; standing = Gone }) leaves) ≡ without cid (rows_of leaves)
rows-gone cid [] = refl
rows-gone cid (l ∷ ls) = elim (cases_Bool (same_cid l.cid cid)) [
  | inl here ↦ rw here (rows-gone cid ls ∙ sym (gone-here cid l.standing l (rows_of ls) here))
  | inr other ↦ rw other (ap (cons_option (row_of l)) (rows-gone cid ls) ∙ sym (gone-other cid l.standing l (rows_of ls) other))
]

-- of one that has another rank
abbrev NoneGone : Cid → List Leaf → Type 0
NoneGone cid leaves = AllByRecursion (λ l. same_cid l.cid cid ≡ true → is_there l.standing ≡ true) leaves

turned-here : (cid : Cid) (rank : Option ℕ) (s : Standing) (l : Leaf) (rows : List Ranked) → same_cid l.cid cid ≡ true → is_there s ≡ true →
    record { cid = cid; rank = rank } ∷ with_rank cid rank rows ≡ with_rank cid rank (cons_option (row_by s l) rows)
turned-here cid rank Gone l rows here there = absurd (false≢true there)
turned-here cid rank Kept l rows here there = rw here refl
turned-here cid rank (MayGo r) l rows here there = rw here refl

turned-other : (cid : Cid) (rank : Option ℕ) (s : Standing) (l : Leaf) (rows : List Ranked) → same_cid l.cid cid ≡ false →
    cons_option (row_by s l) (with_rank cid rank rows) ≡ with_rank cid rank (cons_option (row_by s l) rows)
turned-other cid rank Gone l rows other = refl
turned-other cid rank Kept l rows other = rw other refl
turned-other cid rank (MayGo r) l rows other = rw other refl

new-row : (cid : Cid) (rank : Option ℕ) (rows : List Ranked) →
    cons_option (row_of (record { cid = cid; standing = standing_by rank })) rows ≡ record { cid = cid; rank = rank } ∷ rows
new-row cid None rows = refl
new-row cid (Some rank) rows = refl

turned-rows : (cid : Cid) (rank : Option ℕ) (leaves : List Leaf) → NoneGone cid leaves →
    rows_of (with_leaf (record { cid = cid; standing = standing_by rank }) leaves) ≡ with_rank cid rank (rows_of leaves)
turned-rows cid rank [] none = refl
turned-rows cid rank (l ∷ ls) none = elim (cases_Bool (same_cid l.cid cid)) [
  | inl here ↦ rw here (new-row cid rank _ ∙ (ap (λ rs. record { cid = cid; rank = rank } ∷ rs) (turned-rows cid rank ls none.1)
      ∙ turned-here cid rank l.standing l (rows_of ls) here (none.0 here)))
  | inr other ↦ rw other (ap (cons_option (row_of l)) (turned-rows cid rank ls none.1) ∙ turned-other cid rank l.standing l (rows_of ls) other)
]

none_above : (cid : Cid) (leaves : List Leaf) → list_any (λ l. same_cid l.cid cid) leaves ≡ false → NoneGone cid leaves
none_above cid [] h = tt
none_above cid (l ∷ ls) h =
    let parts = or_parts (same_cid l.cid cid) (list_any (λ l. same_cid l.cid cid) ls) h in
    (λ here. absurd (true≢false (sym here ∙ parts.0)), none_above cid ls parts.1)

none_gone : (cid : Cid) (leaves : List Leaf) → AreRising leaves → stands cid (rows_of leaves) ≡ true → NoneGone cid leaves
none_gone cid [] rise there = tt
none_gone cid (l ∷ ls) rise there = elim (cases_Bool (same_cid l.cid cid)) [
  | inl here ↦
      let none : list_any (λ l. same_cid l.cid cid) ls ≡ false =
      any-above cid_below same_cid cid_order (λ l. l.cid) cid ls (above_when_same cid_below same_cid cid_order (λ l. l.cid) cid l ls here rise.0) in
      (λ _. by l.standing none there, none_above cid ls none)
  | inr other ↦ (λ here. absurd (true≢false (sym here ∙ other)), none_gone cid ls rise.1 (later l.standing other there))
]
  where
    by : (s : Standing) → list_any (λ l. same_cid l.cid cid) ls ≡ false → stands cid (cons_option (row_by s l) (rows_of ls)) ≡ true → is_there s ≡ true
    by Gone none k = absurd (true≢false (sym (stands-leaves cid ls k) ∙ none))
    by Kept none k = refl
    by (MayGo rank) none k = refl

    later : (s : Standing) → same_cid l.cid cid ≡ false → stands cid (cons_option (row_by s l) (rows_of ls)) ≡ true → stands cid (rows_of ls) ≡ true
    later Gone other k = k
    later Kept other k = rw other at k
    later (MayGo rank) other k = rw other at k

pub rows-turned : (cid : Cid) (rank : Option ℕ) (leaves : List Leaf) → AreRising leaves → stands cid (rows_of leaves) ≡ true →
    rows_of (with_leaf (record { cid = cid; standing = standing_by rank }) leaves) ≡ with_rank cid rank (rows_of leaves)
rows-turned cid rank leaves rise there = turned-rows cid rank leaves (none_gone cid leaves rise there)

-- ---- the place of one

pub place-same : (cid : Cid) (place : ℕ) (seen leaves : List Leaf) → seen ≡ leaves → place ≡ prefix_len (λ l. cid_below l.cid cid) seen →
    place ≡ prefix_len (λ l. cid_below l.cid cid) leaves
place-same cid place seen leaves same e = e ∙ ap (prefix_len (λ l. cid_below l.cid cid)) same

pub inside-place : (cid : Cid) (leaves : List Leaf) (place : ℕ) → AreRising leaves → list_any (λ l. same_cid l.cid cid) leaves ≡ true →
    place ≡ prefix_len (λ l. cid_below l.cid cid) leaves → place < length leaves
inside-place cid leaves place rise there e = subst (λ n. n < length leaves) (sym e) (place-inside cid_below same_cid cid_order (λ l. l.cid) cid leaves rise there)

pub set-with_leaf : (new : Leaf) (leaves : List Leaf) (place : ℕ) → AreRising leaves → list_any (λ l. same_cid l.cid new.cid) leaves ≡ true →
    place ≡ prefix_len (λ l. cid_below l.cid new.cid) leaves → set leaves place new ≡ with_leaf new leaves
set-with_leaf new leaves place rise there e =
    ap (λ n. set leaves n new) e ∙ set-place cid_below same_cid cid_order (λ l. l.cid) new.cid new leaves rise there

-- ---- those that have gone are dropped

pub rows-dropped : (leaves : List Leaf) → rows_of (those_there leaves) ≡ rows_of leaves
rows-dropped [] = refl
rows-dropped (l ∷ ls) = by l.standing refl (rows-dropped ls)
  where
    by : (s : Standing) → l.standing ≡ s → rows_of (those_there ls) ≡ rows_of ls →
        rows_of (cond (is_there s) (l ∷ those_there ls) (those_there ls)) ≡ cons_option (row_by s l) (rows_of ls)
    by Gone e rest = rest
    by Kept e rest = ap (λ s. cons_option (row_by s l) (rows_of (those_there ls))) e ∙ ap (λ rs. ranked l ∷ rs) rest
    by (MayGo rank) e rest = ap (λ s. cons_option (row_by s l) (rows_of (those_there ls))) e ∙ ap (λ rs. ranked l ∷ rs) rest

pub rise-dropped : (leaves : List Leaf) → AreRising leaves → AreRising (those_there leaves)
rise-dropped leaves rise = IsRising-filter cid_below same_cid cid_order (λ l. l.cid) (λ l. is_there l.standing) leaves rise

pub up_to-dropped : (leaves : List Leaf) (last : Cid) → AreUpTo last leaves → AreUpTo last (those_there leaves)
up_to-dropped [] last h = tt
up_to-dropped (l ∷ ls) last h = by (is_there l.standing) (up_to-dropped ls last h.1)
  where
    by : (b : Bool) → AreUpTo last (those_there ls) → AreUpTo last (cond b (l ∷ those_there ls) (those_there ls))
    by true rest = (h.0, rest)
    by false rest = rest

pub length-with_leaf : (new : Leaf) (leaves : List Leaf) → length (with_leaf new leaves) ≡ length leaves
length-with_leaf new leaves = length-map leaves (λ l. cond (same_cid l.cid new.cid) new l)

pub pushed : (leaves : List Leaf) (new : Leaf) → length (leaves ++ new ∷ []) ≡ length leaves + 1
pushed leaves new = length_push leaves new

-- ---- words

pub words-with_leaf : (new : Leaf) (leaves : List Leaf) → IsOfWord new → AreOfWord leaves → AreOfWord (with_leaf new leaves)
words-with_leaf new [] of_new words = tt
words-with_leaf new (l ∷ ls) of_new words = elim (cases_Bool (same_cid l.cid new.cid)) [
  | inl here ↦ rw here (of_new, words-with_leaf new ls of_new words.1)
  | inr other ↦ rw other (words.0, words-with_leaf new ls of_new words.1)
]

pub words-push : (leaves : List Leaf) (new : Leaf) → IsOfWord new → AreOfWord leaves → AreOfWord (leaves ++ new ∷ [])
words-push leaves new of_new words = all-push IsOfWord leaves new words of_new

pub words-dropped : (leaves : List Leaf) → AreOfWord leaves → AreOfWord (those_there leaves)
words-dropped [] words = tt
words-dropped (l ∷ ls) words = by (is_there l.standing) (words-dropped ls words.1)
  where
    by : (b : Bool) → AreOfWord (those_there ls) → AreOfWord (cond b (l ∷ those_there ls) (those_there ls))
    by true rest = (words.0, rest)
    by false rest = rest
