-- The last leaf of the least rank is the connection that goes first.
use Rattle.std.proofs.Common.{◌≡◌, ℕ, zero, suc, ◌-◌, ◌<◌, ◌≤◌, ◌==◌, ◌||◌, ◌&&◌, nat_lt, Bool, true, false, List, [], ◌∷◌, ◌++◌, map, length, get_or, slice_get, replicate, Option, Some, None, IfSome, option_map, refl, sym, ap, subst, ◌∙◌, inl, inr, arith}
use Rattle.std.specs.List.{AllByRecursion, cons_option}
use Rattle.std.proofs.lemmas.Bool.{cases_Bool, cases_lt, ltb-true}
use Rattle.std.proofs.lemmas.Bool.Decides.{nat_tests}
use Rattle.std.proofs.lemmas.List.{length-append, length-map, length-replicate}
use lib.ListN.{get_or-append, get_or-replicate}
use lib.Seq.{get_or-append_right}
use Rattle.accept_gate.specs.declared.prune.Candidate.{Candidate}
use Rattle.accept_gate.specs.Prune.{goes_before, first_of, first_to_go, choice_of}
use Rattle.least_tree.specs.Numbers.{none, least_of, IsLastLeast}
use Rattle.least_tree.proofs.Roots.{least-upto}
use Rattle.least_tree.proofs.Sums.{least-bound, least-with_room}
use Rattle.net_base.specs.declared.connection.Cid.{Cid}
use Rattle.prune_order.specs.Kept.{AreOfWord, AreRising, IsOver, IsWord}
use Rattle.prune_order.specs.Leaves.{rank_in, row_by, rows_of}
use Rattle.prune_order.specs.Numbers.{number_by, number_in, numbers_in}
use Rattle.prune_order.specs.Order.{candidates}
use Rattle.prune_order.specs.declared.leaf.Leaf.{Leaf}
use Rattle.prune_order.specs.declared.leaf.Standing.{Standing}
use Rattle.prune_order.specs.declared.leaf.Standing.TheVariants.{Gone, Kept, MayGo}
use Rattle.timer_queue.specs.Timers.{cid_below}

abbrev join : Option Candidate → Option Candidate → Option Candidate
join None other = other
join (Some c) other = Some (first_of c other)

-- the candidate that a leaf is
abbrev candidate_by : Standing → Cid → Option Candidate
candidate_by Gone cid = None
candidate_by Kept cid = None
candidate_by (MayGo rank) cid = Some (record { cid = cid; rank = rank })

abbrev first_among : List Leaf → Option Candidate
first_among leaves = first_to_go (candidates (rows_of leaves))

first-none : first_to_go [] ≡ None
unfolding first_to_go
first-none = refl

first-cons : (c : Candidate) (cs : List Candidate) → first_to_go (c ∷ cs) ≡ Some (first_of c (first_to_go cs))
unfolding first_to_go
first-cons c cs = refl

first_among-cons : (l : Leaf) (ls : List Leaf) → first_among (l ∷ ls) ≡ join (candidate_by l.standing l.cid) (first_among ls)
first_among-cons l ls = by l.standing refl
  where
    by : (s : Standing) → l.standing ≡ s → first_to_go (candidates (cons_option (row_by s l) (rows_of ls))) ≡ join (candidate_by s l.cid) (first_among ls)
    by Gone e = refl
    by Kept e = ap (λ s. first_to_go (candidates (record { cid = l.cid; rank = rank_in s } ∷ rows_of ls))) e
    by (MayGo rank) e =
        ap (λ s. first_to_go (candidates (record { cid = l.cid; rank = rank_in s } ∷ rows_of ls))) e
        ∙ first-cons (record { cid = l.cid; rank = rank }) (candidates (rows_of ls))

abbrev IsNone : {X : Type 0} → Option X → Type 0
IsNone None = Unit {0}
IsNone (Some x) = ⊥

-- ---- none may go

none-first : (leaves : List Leaf) → AreOfWord leaves → least_of (numbers_in leaves) ≡ none → first_among leaves ≡ None
none-first [] words e = first-none
none-first (l ∷ ls) words e =
    first_among-cons l ls
    ∙ by l.standing words.0 (omega (arith, e, least-bound (numbers_in ls))) (none-first ls words.1 (omega (arith, e, least-bound (numbers_in ls))))
  where
    by : (s : Standing) → IsWord s → none ≤ number_by s → first_among ls ≡ None → join (candidate_by s l.cid) (first_among ls) ≡ None
    by Gone word h later = later
    by Kept word h later = later
    by (MayGo rank) word h later = absurd (omega (arith, word, h))

-- ---- one may go

lower : (rank : ℕ) (leaves : List Leaf) → AllByRecursion (λ l. rank < number_in l) leaves → IfSome (first_among leaves) (λ c. rank < c.rank)
lower rank [] h = subst (λ o. IfSome o (λ c. rank < c.rank)) (sym first-none) tt
lower rank (l ∷ ls) h = subst (λ o. IfSome o (λ c. rank < c.rank)) (sym (first_among-cons l ls)) (by l.standing h.0 (lower rank ls h.1))
  where
    joined : (c : Candidate) (o : Option Candidate) → rank < c.rank → IfSome o (λ c. rank < c.rank) → rank < (first_of c o).rank
    joined c None here later = here
    joined c (Some d) here later = elim (cases_Bool (goes_before d c)) [
      | inl before ↦ rw before later
      | inr behind ↦ rw behind here
    ]

    by : (s : Standing) → rank < number_by s → IfSome (first_among ls) (λ c. rank < c.rank) →
        IfSome (join (candidate_by s l.cid) (first_among ls)) (λ c. rank < c.rank)
    by Gone here later = later
    by Kept here later = later
    by (MayGo r) here later = joined (record { cid = l.cid; rank = r }) (first_among ls) here later

not_before : (rank other : ℕ) (b : Bool) → rank < other → (nat_lt other rank || (other == rank && b)) ≡ false
not_before rank other b h = grind (arith, nat_tests, h)

before : (rank cid other than : ℕ) → rank ≤ other → nat_lt than cid ≡ true → (nat_lt rank other || (rank == other && nat_lt than cid)) ≡ true
before rank cid other than h less = grind (arith, nat_tests, h, less)

stays : (c : Candidate) (o : Option Candidate) → IfSome o (λ d. c.rank < d.rank) → first_of c o ≡ c
stays c None h = refl
stays c (Some d) h = rw (not_before c.rank d.rank (nat_lt c.cid.0 d.cid.0) h) refl

all_behind : (rank : ℕ) (ls : List Leaf) → ((i : ℕ) → i < length ls → rank < get_or (numbers_in ls) i 0) → AllByRecursion (λ l. rank < number_in l) ls
all_behind rank [] each = tt
all_behind rank (l ∷ ls) each = (each 0 (omega arith), all_behind rank ls (λ i inside. each (suc i) (omega (arith, inside))))

all_at : (P : Leaf → Type 0) (ls : List Leaf) (i : ℕ) (leaf : Leaf) → AllByRecursion P ls → slice_get ls i ≡ Some leaf → P leaf
all_at P [] i leaf all here = absurd (subst IsNone here tt)
all_at P (l ∷ ls) zero leaf all here = subst (λ o. IfSome o P) here all.0
all_at P (l ∷ ls) (suc i) leaf all here = all_at P ls i leaf all.1 here

wins : (leaves : List Leaf) (place rank : ℕ) (leaf : Leaf) → AreRising leaves → slice_get leaves place ≡ Some leaf →
    get_or (numbers_in leaves) place 0 ≡ rank → rank < none → ((i : ℕ) → i < length leaves → rank ≤ get_or (numbers_in leaves) i 0) →
    ((i : ℕ) → place < i → i < length leaves → rank < get_or (numbers_in leaves) i 0) →
    first_among leaves ≡ Some (record { cid = leaf.cid; rank = rank })
wins [] place rank leaf rise here is some least behind = absurd (subst IsNone here tt)
wins (l ∷ ls) zero rank leaf rise here is some least behind =
    first_among-cons l ls
    ∙ (by l.standing is (subst (λ o. IfSome o (λ f. l.cid ≡ f.cid)) here refl))
  where
    above : IfSome (first_among ls) (λ c. rank < c.rank)
    above = lower rank ls (all_behind rank ls (λ i inside. behind (suc i) (omega arith) (omega (arith, inside))))

    by : (s : Standing) → number_by s ≡ rank → l.cid ≡ leaf.cid → join (candidate_by s l.cid) (first_among ls) ≡ Some (record { cid = leaf.cid; rank = rank })
    by Gone e same = absurd (omega (arith, e, some))
    by Kept e same = absurd (omega (arith, e, some))
    by (MayGo r) e same =
        ap (λ (c : Candidate). Some (first_of c (first_among ls)))
        (ap (λ n. record { cid = l.cid; rank = n }) e ∙ ap (λ i. record { cid = i; rank = rank }) same)
        ∙ ap Some (stays (record { cid = leaf.cid; rank = rank }) (first_among ls) above)
wins (l ∷ ls) (suc place) rank leaf rise here is some least behind =
    let later : first_among ls ≡ Some (record { cid = leaf.cid; rank = rank }) =
    wins ls place rank leaf rise.1 here is some (λ i inside. least (suc i) (omega (arith, inside)))
    (λ i after inside. behind (suc i) (omega (arith, after)) (omega (arith, inside))) in
    first_among-cons l ls ∙ (ap (join (candidate_by l.standing l.cid)) later ∙ by l.standing (least 0 (omega arith)))
  where
    lower_id : cid_below l.cid leaf.cid ≡ true
    lower_id = all_at (λ y. cid_below l.cid y.cid ≡ true) ls place leaf rise.0 here

    by : (s : Standing) → rank ≤ number_by s → join (candidate_by s l.cid) (Some (record { cid = leaf.cid; rank = rank })) ≡ Some (record { cid = leaf.cid; rank = rank })
    by Gone h = refl
    by Kept h = refl
    by (MayGo r) h = rw (before rank leaf.cid.0 r l.cid.0 h lower_id) refl

-- ---- by the tree

module _ (leaves : List Leaf) (ranks : List ℕ) (over : IsOver leaves ranks) where
  room : List ℕ
  room = replicate (length ranks - length leaves) none

  at_leaf : (i : ℕ) → i < length leaves → get_or ranks i 0 ≡ get_or (numbers_in leaves) i 0
  at_leaf i inside =
      ap (λ l. get_or l i 0) over
      ∙ get_or-append (numbers_in leaves) (replicate (length ranks - length leaves) none) 0 i (omega (arith, inside, length-map leaves number_in))

  in_room : (i : ℕ) → length leaves ≤ i → i < length ranks → get_or ranks i 0 ≡ none
  in_room i behind inside =
      ap (λ l. get_or l i 0) over
      ∙ (get_or-append_right (numbers_in leaves) (replicate (length ranks - length leaves) none) i 0 (omega (arith, behind, length-map leaves number_in))
      ∙ get_or-replicate (length ranks - length leaves) (i - length (numbers_in leaves)) none 0 (omega (arith, behind, inside, length-map leaves number_in)))

  pub is_leaf : (place : ℕ) → IsLastLeast ranks place → place < length leaves
  is_leaf place last = elim (cases_lt place (length leaves)) [
    | inl there ↦ there
    | inr beyond ↦ absurd (omega (arith, in_room place beyond last.inside, last.least, last.some))
  ]

  pub none-goes : AreOfWord leaves → least_of ranks ≡ none → None ≡ choice_of (candidates (rows_of leaves))
  none-goes words nobody =
      let same : least_of ranks ≡ least_of (numbers_in leaves) = ap least_of over ∙ least-with_room (numbers_in leaves) (length ranks - length leaves) in
      sym (ap (option_map (λ (c : Candidate). c.cid)) (none-first leaves words (sym same ∙ nobody)))

  pub last-goes : (place : ℕ) (leaf : Leaf) → AreRising leaves → IsLastLeast ranks place → length leaves ≤ length ranks → slice_get leaves place ≡ Some leaf →
      Some leaf.cid ≡ choice_of (candidates (rows_of leaves))
  last-goes place leaf rise last fit here =
      let first = wins leaves place (least_of ranks) leaf rise here
      (sym (at_leaf place (is_leaf place last)) ∙ last.least) last.some
      (λ i inside. omega (arith, at_leaf i inside, least-upto ranks i (omega (arith, inside, fit))))
      (λ i after inside. omega (arith, at_leaf i inside, last.behind i after (omega (arith, inside, fit)))) in
      sym (ap (option_map (λ (c : Candidate). c.cid)) first)
