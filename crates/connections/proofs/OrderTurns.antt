-- Which connection goes first, after a change of one.
use Rattle.std.proofs.Common.{◌≡◌, ℕ, zero, suc, ◌+◌, ◌<◌, ◌≤◌, nat_eq, true, false, if◌then◌else◌, List, [], ◌∷◌, ◌++◌, map, length, slice_get, Option, Some, None, refl, sym, ap, subst, ◌∙◌, inl, inr, arith}
use Rattle.std.specs.List.{AllByRecursion, filter_map, cons_option}
use Rattle.std.specs.Option.{option_eq}
use Rattle.std.proofs.lemmas.Bool.{cases_Bool, false≢true, true≢false}
use Rattle.std.proofs.lemmas.Bool.Decides.{nat_tests}
use Rattle.std.proofs.lemmas.List.{map-append}
use Rattle.std.proofs.lemmas.Option.{same_Some, slice_get_within, none-some}
use Rattle.accept_gate.specs.Prune.{rank_of}
use Rattle.conn_state.specs.Use.{has_id, facts_at}
use Rattle.conn_table.specs.Conditions.{CanStep, after_step}
use Rattle.conn_table.specs.Rosters.{facts_kept}
use Rattle.conn_table.specs.Table.{IdsRise, moved_at, without_at}
use Rattle.conn_table.specs.declared.roster.Roster.{Roster}
use Rattle.conn_table.specs.declared.step.Step.{Step}
use Rattle.conn_table.proofs.IdPlaces.{found_here, found_later, found_id}
use Rattle.machine.specs.Connections.{candidate_of}
use Rattle.net_base.proofs.AddressOrder.{same_number}
use Rattle.net_base.specs.declared.connection.Cid.{Cid}
use Rattle.net_base.specs.declared.connection.Facts.{Facts}
use Rattle.prune_order.specs.Order.{Order, candidates, stands, with_rank, without}
use Rattle.timer_queue.proofs.Orders.{same_cid-is}
use Rattle.connections.specs.Kept.{IsWhole}
use Rattle.connections.specs.Ordered.{row_of, rows_in, IsOrdered, reranked}
use Rattle.connections.specs.declared.kept.Kept.{Kept}
use Rattle.connections.proofs.Stepping.{FoundIn, keeps_id}
use Rattle.connections.proofs.TalkTurns.{Any}

-- ---- the candidates are those of the facts

pub candidates_kept : (fs : List Facts) → candidates (rows_in fs) ≡ filter_map candidate_of fs
candidates_kept [] = refl
candidates_kept (f ∷ fs) = ap (cons_option (candidate_of f)) (candidates_kept fs)

-- ---- nothing changes

pub ordered_same : (fs news : List Facts) (given now : ℕ) (order new : Order) → IsOrdered fs given order → news ≡ fs → now ≡ given →
    new.rows ≡ order.rows → new.last ≡ order.last → IsOrdered news now new
ordered_same fs news given now order new is facts count rows last = record {
  rows = rows ∙ (is.rows ∙ ap rows_in (sym facts));
  last = subst (λ (c : Cid). c.0 ≤ now) (sym last) (omega (arith, is.last, count));
}

-- ---- one comes

pub ordered_come : (f : Facts) (fs news : List Facts) (given now : ℕ) (order new : Order) → IsOrdered fs given order → news ≡ fs ++ f ∷ [] →
    now ≡ given + 1 → f.cid.0 ≡ given + 1 → new.rows ≡ order.rows ++ row_of f ∷ [] → new.last ≡ f.cid → IsOrdered news now new
ordered_come f fs news given now order new is facts count next rows last = record {
  rows = rows ∙ (ap (λ rs. rs ++ row_of f ∷ []) is.rows ∙ (sym (map-append row_of fs (f ∷ [])) ∙ ap rows_in (sym facts)));
  last = subst (λ (c : Cid). c.0 ≤ now) (sym last) (omega (arith, next, count));
}

-- ---- the one with an id

pub stands_by : (cid : Cid) (fs : List Facts) (f : Facts) → facts_at cid.0 fs ≡ Some f → stands cid (rows_in fs) ≡ true
stands_by cid [] f found = absurd (none-some f found)
stands_by cid (g ∷ gs) f found = elim (cases_Bool (has_id cid.0 g)) [
  | inl here ↦ rw here refl
  | inr other ↦ rw other (stands_by cid gs f (found_later cid.0 g f gs found other))
]

-- whoever has the id is this one
abbrev IsOnly : ℕ → Facts → List Facts → Type 0
IsOnly cid f fs = AllByRecursion (λ g. has_id cid g ≡ true → g ≡ f) fs

higher : (cid : ℕ) (f : Facts) → cid < f.cid.0 → has_id cid f ≡ false
higher cid f h = grind (arith, nat_tests)

at_most : (cid : ℕ) (f : Facts) → has_id cid f ≡ true → cid ≤ f.cid.0
at_most cid f h = grind (arith, nat_tests)

none_higher : (cid above most : ℕ) (f : Facts) (fs : List Facts) → IdsRise above most fs → cid ≤ above → IsOnly cid f fs
none_higher cid above most f [] rises le = tt
none_higher cid above most f (g ∷ gs) rises le =
    (λ here. absurd (true≢false (sym here ∙ higher cid g (omega (arith, rises.0, le)))), none_higher cid g.cid.0 most f gs rises.1 (omega (arith, rises.0, le)))

only : (cid above most : ℕ) (f : Facts) (fs : List Facts) → IdsRise above most fs → facts_at cid fs ≡ Some f → IsOnly cid f fs
only cid above most f [] rises found = tt
only cid above most f (g ∷ gs) rises found = elim (cases_Bool (has_id cid g)) [
  | inl here ↦ (λ _. found_here cid g f gs found here, none_higher cid g.cid.0 most f gs rises.1 (at_most cid g here))
  | inr other ↦ (λ here. absurd (true≢false (sym here ∙ other)), only cid g.cid.0 most f gs rises.1 (found_later cid g f gs found other))
]

-- ---- it moves

rows-moved : (cid : Cid) (move : Facts → Facts) (f : Facts) (fs : List Facts) → ((g : Facts) → (move g).cid ≡ g.cid) → IsOnly cid.0 f fs →
    rows_in (moved_at cid.0 move fs) ≡ with_rank cid (rank_of (move f)) (rows_in fs)
rows-moved cid move f [] keeps one = refl
rows-moved cid move f (g ∷ gs) keeps one = elim (cases_Bool (has_id cid.0 g)) [
  | inl here ↦
      let own : (move g).cid ≡ cid = keeps g ∙ same_cid-is g.cid cid here in
      let rank : rank_of (move g) ≡ rank_of (move f) = ap (λ h. rank_of (move h)) (one.0 here) in
      rw here (ap (λ rs. row_of (move g) ∷ rs) (rows-moved cid move f gs keeps one.1)
      ∙ (λ i. record { cid = own i; rank = rank i } ∷ with_rank cid (rank_of (move f)) (rows_in gs)))
  | inr other ↦ rw other (ap (λ rs. row_of g ∷ rs) (rows-moved cid move f gs keeps one.1))
]

rows-same : (cid : Cid) (rank : Option ℕ) (f : Facts) (fs : List Facts) → IsOnly cid.0 f fs → rank_of f ≡ rank → with_rank cid rank (rows_in fs) ≡ rows_in fs
rows-same cid rank f [] one e = refl
rows-same cid rank f (g ∷ gs) one e = elim (cases_Bool (has_id cid.0 g)) [
  | inl here ↦
      let own : cid ≡ g.cid = sym (same_cid-is g.cid cid here) in
      let same : rank ≡ rank_of g = sym (ap rank_of (one.0 here) ∙ e) in
      rw here ((λ i. record { cid = own i; rank = same i } ∷ with_rank cid rank (rows_in gs)) ∙ ap (λ rs. row_of g ∷ rs) (rows-same cid rank f gs one.1 e))
  | inr other ↦ rw other (ap (λ rs. row_of g ∷ rs) (rows-same cid rank f gs one.1 e))
]

same_rank : (was is : Option ℕ) → option_eq nat_eq was is ≡ true → was ≡ is
same_rank None None e = refl
same_rank None (Some q) e = absurd (false≢true e)
same_rank (Some r) None e = absurd (false≢true e)
same_rank (Some r) (Some q) e = ap Some (same_number r q e)

rows-reranked : (cid : Cid) (move : Facts → Facts) (f : Facts) (fs : List Facts) → ((g : Facts) → (move g).cid ≡ g.cid) → IsOnly cid.0 f fs →
    rows_in (moved_at cid.0 move fs) ≡ reranked cid (rank_of f) (rank_of (move f)) (rows_in fs)
rows-reranked cid move f fs keeps one = elim (cases_Bool (option_eq nat_eq (rank_of f) (rank_of (move f)))) [
  | inl same ↦ rw same (rows-moved cid move f fs keeps one ∙ rows-same cid (rank_of (move f)) f fs one (same_rank (rank_of f) (rank_of (move f)) same))
  | inr other ↦ rw other (rows-moved cid move f fs keeps one)
]

-- what stands at its place afterwards
map_there : (change : Facts → Facts) (fs : List Facts) (place : ℕ) (f : Facts) → slice_get fs place ≡ Some f → slice_get (map change fs) place ≡ Some (change f)
map_there change [] place f e = absurd (none-some f e)
map_there change (g ∷ gs) zero f e = ap (λ h. Some (change h)) (same_Some g f e)
map_there change (g ∷ gs) (suc place) f e = map_there change gs place f e

itself : (f : Facts) → has_id f.cid.0 f ≡ true
itself f = grind (arith, nat_tests)

moved_itself : (move : Facts → Facts) (f : Facts) → (if has_id f.cid.0 f then move f else f) ≡ move f
moved_itself move f = rw (itself f) refl

pub moved_there : (step : Step) (place : ℕ) (was : Facts) (old new : Roster) → slice_get (facts_kept old) place ≡ Some was →
    facts_kept new ≡ moved_at was.cid.0 (after_step step) (facts_kept old) → slice_get (facts_kept new) place ≡ Some (after_step step was)
moved_there step place was old new at facts =
    ap (λ fs. slice_get fs place) facts
    ∙ (map_there (λ f. if has_id was.cid.0 f then after_step step f else f) (facts_kept old) place was at ∙ ap Some (moved_itself (after_step step) was))

pub still_inside : (step : Step) (place : ℕ) (was : Facts) (old new : Roster) → slice_get (facts_kept old) place ≡ Some was →
    facts_kept new ≡ moved_at was.cid.0 (after_step step) (facts_kept old) → place < length (facts_kept new)
still_inside step place was old new at facts = slice_get_within (facts_kept new) place (after_step step was) (moved_there step place was old new at facts)

own_found : (P : Facts → Type 0) (cid : ℕ) (kept : Kept) (was : Facts) → (it : FoundIn P cid kept) → was ≡ it.facts → facts_at was.cid.0 (facts_kept kept.roster) ≡ Some was
own_found P cid kept was it same =
    let own : was.cid.0 ≡ cid = ap (λ (f : Facts). f.cid.0) same ∙ found_id cid _ it.facts it.at.facts_there in
    ap (λ n. facts_at n (facts_kept kept.roster)) own ∙ (it.at.facts_there ∙ ap Some (sym same))

pub stands_in_order : (P : Facts → Type 0) (cid : ℕ) (kept : Kept) (was : Facts) → IsWhole kept → (it : FoundIn P cid kept) → was ≡ it.facts →
    stands was.cid kept.order.rows ≡ true
stands_in_order P cid kept was whole it same =
    ap (stands was.cid) whole.ordered.rows ∙ stands_by was.cid (facts_kept kept.roster) was (own_found P cid kept was it same)

pub stands_still : (cid : Cid) (kept : Kept) → IsWhole kept → (it : FoundIn Any cid.0 kept) → stands cid kept.order.rows ≡ true
stands_still cid kept whole it = ap (stands cid) whole.ordered.rows ∙ stands_by cid (facts_kept kept.roster) it.facts it.at.facts_there

pub ordered_turn : (step : Step) (cid place : ℕ) (kept : Kept) (roster : Roster) (new : Order) (was is : Facts) → IsWhole kept →
    (it : FoundIn (CanStep step) cid kept) → was ≡ it.facts → slice_get (facts_kept kept.roster) place ≡ Some was →
    facts_kept roster ≡ moved_at was.cid.0 (after_step step) (facts_kept kept.roster) → roster.given ≡ kept.roster.given →
    slice_get (facts_kept roster) place ≡ Some is →
    new.rows ≡ reranked was.cid (rank_of was) (rank_of is) kept.order.rows → new.last ≡ kept.order.last → IsOrdered (facts_kept roster) roster.given new
ordered_turn step cid place kept roster new was is whole it same at facts given now rows last =
    let fs = facts_kept kept.roster in
    let one = only was.cid.0 0 kept.roster.given was fs whole.roster_kept.ids_rise (own_found (CanStep step) cid kept was it same) in
    let moved : is ≡ after_step step was = same_Some is (after_step step was) (sym now ∙ moved_there step place was kept.roster roster at facts) in
    record {
      rows = rows ∙ (ap (λ f. reranked was.cid (rank_of was) (rank_of f) kept.order.rows) moved
          ∙ (ap (reranked was.cid (rank_of was) (rank_of (after_step step was))) whole.ordered.rows
          ∙ (sym (rows-reranked was.cid (after_step step) was fs (keeps_id step) one) ∙ ap rows_in (sym facts))));
      last = subst (λ (c : Cid). c.0 ≤ roster.given) (sym last) (omega (arith, given, whole.ordered.last));
    }

-- ---- it goes

rows-without : (cid : Cid) (fs : List Facts) → rows_in (without_at cid.0 fs) ≡ without cid (rows_in fs)
rows-without cid [] = refl
rows-without cid (f ∷ fs) = elim (cases_Bool (has_id cid.0 f)) [
  | inl here ↦ rw here (rows-without cid fs)
  | inr other ↦ rw other (ap (λ rs. row_of f ∷ rs) (rows-without cid fs))
]

pub ordered_gone : (cid : Cid) (own : ℕ) (kept : Kept) (roster : Roster) (new : Order) → IsWhole kept → own ≡ cid.0 →
    facts_kept roster ≡ without_at own (facts_kept kept.roster) → roster.given ≡ kept.roster.given →
    new.rows ≡ without cid kept.order.rows → new.last ≡ kept.order.last → IsOrdered (facts_kept roster) roster.given new
ordered_gone cid own kept roster new whole e facts given rows last = record {
  rows = rows ∙ (ap (without cid) whole.ordered.rows ∙ (sym (rows-without cid (facts_kept kept.roster)) ∙ ap rows_in (ap (λ n. without_at n (facts_kept kept.roster)) (sym e) ∙ sym facts)));
  last = subst (λ (c : Cid). c.0 ≤ roster.given) (sym last) (omega (arith, given, whole.ordered.last));
}
