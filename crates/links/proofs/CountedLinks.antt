-- The links by which the rules count, after a change of all links.
use Rattle.std.proofs.Common.{◌≡◌, ℕ, ◌<◌, Bool, true, false, not, ◌&&◌, cond, List, [], ◌∷◌, filter, slice_get, Option, Some, None, is_some, refl, sym, ap, ◌∙◌, inl, inr}
use Rattle.std.specs.List.{AllByRecursion}
use Rattle.std.proofs.Math.Bool.{and_comm}
use Rattle.std.proofs.lemmas.Bool.{cases_Bool, or_parts, true≢false, false≢true}
use Rattle.conn_table.specs.Index.{placed_below, same_placed}
use Rattle.conn_table.specs.declared.placed.Placed.{Placed}
use Rattle.govern_rules.specs.Lent.{is_counted}
use Rattle.govern_rules.specs.SortedLinks.{IsInOrder, link_below}
use Rattle.govern_rules.specs.declared.link.Link.{Link}
use Rattle.govern_rules.proofs.FoundMembers.{filter-twice, filter-same}
use Rattle.timer_queue.proofs.Rising.{never_both, below_is_other, any-above, taken_out-above, replaced-above, above_when_same, above_when_not_below, AllAbove-filter, found, find-place, any-find}
use Rattle.links.specs.Link.{place_of}
use Rattle.links.specs.Rows.{AreInOrder, stands_at, link_at, with_new, with_link, without_link, counted_anew}
use Rattle.links.proofs.LinkEdits.{placed_order, row_of, in_order-without}

abbrev AreAbove : Placed → List Link → Type 0
AreAbove placed links = AllByRecursion (λ l. placed_below placed (place_of l) ≡ true) links

-- ---- one more

in_front : (new : Link) (links : List Link) → AreAbove (place_of new) links → with_new new links ≡ new ∷ links
in_front new [] above = refl
in_front new (l ∷ ls) above = rw (never_both placed_below same_placed placed_order (place_of new) (place_of l) above.0) refl

filter-new : (p : Link → Bool) (new : Link) (links : List Link) → p new ≡ true → AreInOrder links → filter p (with_new new links) ≡ with_new new (filter p links)
filter-new p new [] passes rises = rw passes refl
filter-new p new (l ∷ ls) passes rises = elim (cases_Bool (placed_below (place_of l) (place_of new))) [
  | inl under ↦ elim (cases_Bool (p l)) [
    | inl kept ↦ rw (under, kept, under) (ap (λ k. l ∷ k) (filter-new p new ls passes rises.1))
    | inr gone ↦ rw (under, gone) (filter-new p new ls passes rises.1)
  ]
  | inr over ↦ elim (cases_Bool (p l)) [
    | inl kept ↦ rw (over, passes, kept, over) refl
    | inr gone ↦
        let above : AreAbove (place_of new) ls = above_when_not_below placed_below same_placed placed_order place_of (place_of new) l ls over rises.0 in
        rw (over, passes, gone)
        (sym (in_front new (filter p ls) (AllAbove-filter placed_below same_placed placed_order place_of p (place_of new) ls above)))
  ]
]

filter-none_new : (p : Link → Bool) (new : Link) (links : List Link) → p new ≡ false → filter p (with_new new links) ≡ filter p links
filter-none_new p new [] fails = rw fails refl
filter-none_new p new (l ∷ ls) fails = elim (cases_Bool (placed_below (place_of l) (place_of new))) [
  | inl under ↦ rw under (ap (λ k. cond (p l) (l ∷ k) k) (filter-none_new p new ls fails))
  | inr over ↦ rw (over, fails) refl
]

-- ---- one less

pub filter-without : (p : Link → Bool) (placed : Placed) (links : List Link) → filter p (without_link placed links) ≡ without_link placed (filter p links)
filter-without p placed links =
    let stays : Link → Bool = λ l. not (same_placed (place_of l) placed) in
    filter-twice p stays links
    ∙ (filter-same (λ l. stays l && p l) (λ l. p l && stays l) (λ l. and_comm (stays l) (p l)) links ∙ sym (filter-twice stays p links))

pub gone-stands : (placed : Placed) (links : List Link) → stands_at placed (without_link placed links) ≡ false
gone-stands placed [] = refl
gone-stands placed (l ∷ ls) = elim (cases_Bool (same_placed (place_of l) placed)) [
  | inl here ↦ rw here (gone-stands placed ls)
  | inr other ↦ rw (other, other) (gone-stands placed ls)
]

-- ---- one in place of another

put_again : (new : Link) (links : List Link) → AreInOrder links → stands_at (place_of new) links ≡ true →
    with_link new links ≡ with_new new (without_link (place_of new) links)
put_again new [] rises there = absurd (false≢true there)
put_again new (l ∷ ls) rises there = elim (cases_Bool (placed_below (place_of l) (place_of new))) [
  | inl under ↦
      let other : same_placed (place_of l) (place_of new) ≡ false = below_is_other placed_below same_placed placed_order (place_of l) (place_of new) under in
      rw (other, under) (ap (λ k. l ∷ k) (put_again new ls rises.1 (rw other at there)))
  | inr over ↦ elim (cases_Bool (same_placed (place_of l) (place_of new))) [
    | inl here ↦
        let above : AreAbove (place_of new) ls = above_when_same placed_below same_placed placed_order place_of (place_of new) l ls here rises.0 in
        rw here
        (ap (λ k. new ∷ k) (replaced-above placed_below same_placed placed_order place_of (place_of new) new ls above)
        ∙ sym (ap (with_new new) (taken_out-above placed_below same_placed placed_order place_of (place_of new) ls above) ∙ in_front new ls above))
    | inr other ↦
        let none : stands_at (place_of new) ls ≡ false =
        any-above placed_below same_placed placed_order place_of (place_of new) ls
        (above_when_not_below placed_below same_placed placed_order place_of (place_of new) l ls over rises.0) in
        absurd (true≢false (sym there ∙ rw (other, none) refl))
  ]
]

-- ---- what is kept

pub counted-left : (placed : Placed) (links counted : List Link) → counted ≡ filter is_counted links →
    without_link placed counted ≡ filter is_counted (without_link placed links)
counted-left placed links counted is = ap (without_link placed) is ∙ sym (filter-without is_counted placed links)

pub counted-absent : (placed : Placed) (links counted : List Link) → stands_at placed links ≡ false → counted ≡ filter is_counted links →
    stands_at placed counted ≡ false
counted-absent placed links counted absent is = ap (stands_at placed) is ∙ none links absent
  where
    none : (ls : List Link) → stands_at placed ls ≡ false → stands_at placed (filter is_counted ls) ≡ false
    none [] h = refl
    none (l ∷ ls) h =
        let parts = or_parts (same_placed (place_of l) placed) (stands_at placed ls) h in
        elim (cases_Bool (is_counted l)) [
          | inl counts ↦ rw (counts, parts.0) (none ls parts.1)
          | inr other ↦ rw other (none ls parts.1)
        ]

pub counted-entered : (new : Link) (links counted : List Link) → AreInOrder links → is_counted new ≡ true → counted ≡ filter is_counted links →
    with_new new counted ≡ filter is_counted (with_new new links)
counted-entered new links counted rises counts is = ap (with_new new) is ∙ sym (filter-new is_counted new links counts rises)

pub counted-passed : (new : Link) (links counted : List Link) → is_counted new ≡ false → counted ≡ filter is_counted links →
    counted ≡ filter is_counted (with_new new links)
counted-passed new links counted other is = is ∙ sym (filter-none_new is_counted new links other)

pub counted-set : (new : Link) (links counted : List Link) → AreInOrder links → stands_at (place_of new) links ≡ true → counted ≡ filter is_counted links →
    counted_anew new counted ≡ filter is_counted (with_link new links)
counted-set new links counted rises there is =
    let rest : List Link = without_link (place_of new) links in
    let same : without_link (place_of new) counted ≡ filter is_counted rest = counted-left (place_of new) links counted is in
    elim (cases_Bool (is_counted new)) [
      | inl counts ↦ rw counts
          (ap (with_new new) same
          ∙ sym (ap (filter is_counted) (put_again new links rises there) ∙ filter-new is_counted new rest counts (in_order-without (place_of new) links rises)))
      | inr other ↦ rw other (same ∙ sym (ap (filter is_counted) (put_again new links rises there) ∙ filter-none_new is_counted new rest other))
    ]

pub counted-twice : (links counted : List Link) → counted ≡ filter is_counted links → filter is_counted counted ≡ filter is_counted links
counted-twice links counted is =
    ap (filter is_counted) is
    ∙ (filter-twice is_counted is_counted links ∙ filter-same (λ l. is_counted l && is_counted l) is_counted (λ l. itself (is_counted l)) links)
  where
    itself : (b : Bool) → (b && b) ≡ b
    itself true = refl
    itself false = refl

-- ---- what a look at a place finds

pub found-in_row : (placed : Placed) (links : List Link) (n : ℕ) → AreInOrder links → n ≡ row_of placed links →
    is_some (link_at placed (slice_get links n)) ≡ stands_at placed links
found-in_row placed links n rises at =
    ap (λ k. is_some (link_at placed (slice_get links k))) at
    ∙ (by_option (slice_get links (row_of placed links))
    ∙ (ap is_some (sym (find-place placed_below same_placed placed_order place_of placed links rises))
    ∙ any-find placed_below same_placed placed_order place_of placed links))
  where
    by_option : (o : Option Link) → is_some (link_at placed o) ≡ is_some (found placed_below same_placed placed_order place_of placed o)
    by_option None = refl
    by_option (Some l) = refl

-- ---- the order that the rules know

pub in_order_too : (links : List Link) → AreInOrder links → IsInOrder links
in_order_too [] rises = tt
in_order_too (l ∷ ls) rises = (none_below l ls rises.0, in_order_too ls rises.1)
  where
    none_below : (l : Link) (ls : List Link) → AreAbove (place_of l) ls → AllByRecursion (λ k. link_below k l ≡ false) ls
    none_below l [] above = tt
    none_below l (k ∷ ks) above = (never_both placed_below same_placed placed_order (place_of l) (place_of k) above.0, none_below l ks above.1)
