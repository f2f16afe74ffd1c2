-- The list of links, after an edit: its order, and what some of them pass.
use Rattle.std.proofs.Common.{◌≡◌, ℕ, ◌<◌, Bool, true, false, not, ◌&&◌, ◌||◌, if◌then◌else◌, List, [], ◌∷◌, map, filter, length, set, Result, Ok, Err, OnOk, OnErr, refl, sym, ap, subst, ◌∙◌, inl, inr}
use Rattle.std.specs.List.{prefix_len, insert, remove, list_any}
use Rattle.std.proofs.lemmas.Bool.{cases_Bool, or_parts}
use Rattle.conn_table.specs.Index.{placed_below, same_placed}
use Rattle.conn_table.specs.declared.placed.Placed.{Placed}
use Rattle.conn_table.proofs.PlacedOrder.{placed_irreflexive, placed_transitive, placed_connected, same_placed-is, same_placed-itself}
use Rattle.govern_rules.specs.declared.link.Link.{Link}
use Rattle.timer_queue.specs.Order.{IsRising}
use Rattle.timer_queue.proofs.Orders.{IsOrder}
use Rattle.timer_queue.proofs.Rising.{insert-place, set-place, remove-place, place-inside, IsRising-put_in, IsRising-filter, IsRising-map, IsRising-from_map, map-replaced, any-put_in}
use Rattle.links.specs.Link.{place_of}
use Rattle.links.specs.Rows.{AreInOrder, stands_at, HaveSameLinks, with_new, with_link, without_link}

pub placed_order : IsOrder placed_below same_placed
placed_order = record {
  irreflexive = placed_irreflexive;
  transitive = placed_transitive;
  connected = placed_connected;
  same_is = same_placed-is;
  same_itself = same_placed-itself;
}

-- how many links are below a place
abbrev pub row_of : Placed → List Link → ℕ
row_of placed links = prefix_len (λ l. placed_below (place_of l) placed) links

pub row-inside : (placed : Placed) (links : List Link) → AreInOrder links → stands_at placed links ≡ true → row_of placed links < length links
row-inside placed links rises there = place-inside placed_below same_placed placed_order place_of placed links rises there

-- ---- what an edit at a row leaves

pub insert-row : (new : Link) (links : List Link) (n : ℕ) → n ≡ row_of (place_of new) links → insert links n new ≡ with_new new links
insert-row new links n e = ap (λ m. insert links m new) e ∙ insert-place placed_below same_placed placed_order place_of new links

pub set-row : (new : Link) (links : List Link) (n : ℕ) → AreInOrder links → stands_at (place_of new) links ≡ true → n ≡ row_of (place_of new) links →
    set links n new ≡ with_link new links
set-row new links n rises there e =
    ap (λ m. set links m new) e ∙ set-place placed_below same_placed placed_order place_of (place_of new) new links rises there

pub remove-row : (placed : Placed) (links : List Link) (n : ℕ) → AreInOrder links → stands_at placed links ≡ true → n ≡ row_of placed links →
    remove links n ≡ without_link placed links
remove-row placed links n rises there e =
    ap (remove links) e ∙ remove-place placed_below same_placed placed_order place_of placed links rises there

-- ---- the order afterwards

pub in_order-new : (new : Link) (links : List Link) → AreInOrder links → stands_at (place_of new) links ≡ false → AreInOrder (with_new new links)
in_order-new new links rises absent = IsRising-put_in placed_below same_placed placed_order place_of new links rises absent

-- where it may have been refused
pub in_order-tried : {T E : Type 0} (new : Link) (links after : List Link) (r : Result T E) → AreInOrder links → stands_at (place_of new) links ≡ false →
    OnOk r (after ≡ with_new new links) → OnErr r (after ≡ links) → AreInOrder after
in_order-tried new links after (Ok x) rises absent entered same = subst AreInOrder (sym entered) (in_order-new new links rises absent)
in_order-tried new links after (Err e) rises absent entered same = subst AreInOrder (sym same) rises

pub in_order-set : (new : Link) (links : List Link) → AreInOrder links → AreInOrder (with_link new links)
in_order-set new links rises =
    IsRising-from_map placed_below same_placed placed_order place_of (with_link new links)
    (subst (IsRising placed_below (λ p. p)) (sym (map-replaced placed_below same_placed placed_order place_of (place_of new) new links refl))
    (IsRising-map placed_below same_placed placed_order place_of links rises))

pub in_order-without : (placed : Placed) (links : List Link) → AreInOrder links → AreInOrder (without_link placed links)
in_order-without placed links rises =
    IsRising-filter placed_below same_placed placed_order place_of (λ l. not (same_placed (place_of l) placed)) links rises

-- ---- one comes, and goes again

itself : (placed : Placed) → same_placed placed placed ≡ true
itself placed = same_placed-itself placed

pub all_stay : (placed : Placed) (links : List Link) → stands_at placed links ≡ false → without_link placed links ≡ links
all_stay placed [] absent = refl
all_stay placed (l ∷ ls) absent =
    let parts = or_parts (same_placed (place_of l) placed) (stands_at placed ls) absent in
    rw parts.0 (ap (λ k. l ∷ k) (all_stay placed ls parts.1))

pub left_again : (new : Link) (links : List Link) → stands_at (place_of new) links ≡ false → without_link (place_of new) (with_new new links) ≡ links
left_again new [] absent = rw (itself (place_of new)) refl
left_again new (l ∷ ls) absent =
    let parts = or_parts (same_placed (place_of l) (place_of new)) (stands_at (place_of new) ls) absent in
    elim (cases_Bool (placed_below (place_of l) (place_of new))) [
      | inl under ↦ rw (under, parts.0) (ap (λ k. l ∷ k) (left_again new ls parts.1))
      | inr over ↦ rw (over, itself (place_of new), parts.0) (ap (λ k. l ∷ k) (all_stay (place_of new) ls parts.1))
    ]

-- ---- what some of them pass

pub any-new : (test : Link → Bool) (new : Link) (links : List Link) → list_any test (with_new new links) ≡ (test new || list_any test links)
any-new test new links = any-put_in placed_below same_placed placed_order place_of test new links

pub stands-new : (new : Link) (links : List Link) → stands_at (place_of new) (with_new new links) ≡ true
stands-new new links =
    any-new (λ l. same_placed (place_of l) (place_of new)) new links
    ∙ ap (λ b. b || stands_at (place_of new) links) (itself (place_of new))

any-filter : {X : Type 0} (keep test : X → Bool) (xs : List X) → list_any test (filter keep xs) ≡ list_any (λ x. keep x && test x) xs
any-filter keep test [] = refl
any-filter keep test (x ∷ xs) = elim (cases_Bool (keep x)) [
  | inl kept ↦ rw kept (ap (λ b. test x || b) (any-filter keep test xs))
  | inr gone ↦ rw gone (any-filter keep test xs)
]

any-replaced : {X : Type 0} (at test : X → Bool) (new : X) (xs : List X) →
    list_any test (map (λ x. if at x then new else x) xs) ≡ ((list_any at xs && test new) || list_any (λ x. not (at x) && test x) xs)
any-replaced at test new [] = refl
any-replaced at test new (x ∷ xs) =
    let rest = any-replaced at test new xs in
    elim (cases_Bool (at x)) [
      | inl here ↦ rw here (ap (λ b. test new || b) rest ∙ once (test new) (list_any at xs) _)
      | inr other ↦ rw other (ap (λ b. test x || b) rest ∙ swapped (test x) (list_any at xs && test new) _)
    ]
  where
    once : (t s r : Bool) → (t || ((s && t) || r)) ≡ (t || r)
    once true s r = refl
    once false true r = refl
    once false false r = refl

    swapped : (t s r : Bool) → (t || (s || r)) ≡ (s || (t || r))
    swapped true true r = refl
    swapped true false r = refl
    swapped false true r = refl
    swapped false false r = refl

pub any-with_link : (test : Link → Bool) (new : Link) (links : List Link) →
    list_any test (with_link new links)
    ≡ ((stands_at (place_of new) links && test new) || list_any (λ l. not (same_placed (place_of l) (place_of new)) && test l) links)
any-with_link test new links = any-replaced (λ l. same_placed (place_of l) (place_of new)) test new links

pub same-with_link : (new : Link) (links others : List Link) → HaveSameLinks links others → HaveSameLinks (with_link new links) (with_link new others)
same-with_link new links others same test =
    let rest : Link → Bool = λ l. not (same_placed (place_of l) (place_of new)) && test l in
    any-with_link test new links
    ∙ (ap (λ b. (b && test new) || list_any rest links) (same (λ l. same_placed (place_of l) (place_of new)))
    ∙ (ap (λ b. (stands_at (place_of new) others && test new) || b) (same rest) ∙ sym (any-with_link test new others)))

pub same-without_link : (placed : Placed) (links others : List Link) → HaveSameLinks links others →
    HaveSameLinks (without_link placed links) (without_link placed others)
same-without_link placed links others same test =
    let kept : Link → Bool = λ l. not (same_placed (place_of l) placed) in
    any-filter kept test links ∙ (same (λ l. kept l && test l) ∙ sym (any-filter kept test others))
