-- Parts in their places.
use Rattle.std.proofs.Common.{◌≡◌, ℕ, zero, suc, ◌+◌, ◌≤◌, ◌<◌, Bool, true, false, cond, eqb, List, [], ◌∷◌, ◌++◌, length, take, drop, get_or, Some, None, refl, sym, ap, ◌∙◌, arith, inl, inr}
use Rattle.std.specs.Prelude.{slice_get, insert, remove}
use Rattle.std.proofs.lemmas.Bool.{cases_lt, ne_eqb}
use Rattle.std.proofs.lemmas.List.Sums.{prefix_len-le-length}
use Rattle.std.proofs.lemmas.List.{at_drop_more, map-append, take-map, length-map}
use Rattle.net_base.specs.Shared.{Part}
use Rattle.mux_segment.specs.declared.part.Part.{Part as KeptPart}
use Rattle.mux_segment.specs.PartView.{part_view, parts_view}
use Rattle.mux_segment.specs.Parts.{comes_before, place_of, is_of, found_part, part_bytes, without_part, with_part}

-- the place counts the parts from the front
pub place_at : (side id i : ℕ) (parts : List KeptPart) (d : KeptPart) → i < length parts
    → place_of side id (parts_view (drop i parts)) ≡ cond (comes_before side id (part_view (get_or parts i d))) (1 + place_of side id (parts_view (drop (i + 1) parts))) 0
place_at side id i parts d lt = at_drop_more (λ (x : List KeptPart). place_of side id (parts_view x)) parts i d lt

view_there : (kept : List KeptPart) (n : ℕ) (d : KeptPart) → n < length kept → slice_get (parts_view kept) n ≡ Some (part_view (get_or kept n d))
view_there [] n d lt = absurd (omega arith)
view_there (part ∷ kept) zero d lt = refl
view_there (part ∷ kept) (suc n) d lt = view_there kept n d (omega arith)

view_past : (kept : List KeptPart) (n : ℕ) → length kept ≤ n → slice_get (parts_view kept) n ≡ None
view_past [] n past = refl
view_past (part ∷ kept) zero past = absurd (omega arith)
view_past (part ∷ kept) (suc n) past = view_past kept n (omega arith)

view_drop : (n : ℕ) (kept : List KeptPart) → drop n (parts_view kept) ≡ parts_view (drop n kept)
view_drop zero kept = refl
view_drop (suc n) [] = refl
view_drop (suc n) (part ∷ kept) = view_drop n kept

view_take : (n : ℕ) (kept : List KeptPart) → take n (parts_view kept) ≡ parts_view (take n kept)
view_take n kept = take-map part_view n kept

pub view_remove : (n : ℕ) (kept : List KeptPart) → remove (parts_view kept) n ≡ parts_view (remove kept n)
view_remove n kept =
    ap (λ (x : List Part). x ++ drop (suc n) (parts_view kept)) (view_take n kept)
    ∙ ap (λ (x : List Part). parts_view (take n kept) ++ x) (view_drop (suc n) kept)
    ∙ sym (map-append part_view (take n kept) (drop (suc n) kept))

pub view_insert : (n : ℕ) (kept : List KeptPart) (part : KeptPart) → insert (parts_view kept) n (part_view part) ≡ parts_view (insert kept n part)
view_insert n kept part =
    ap (λ (x : List Part). x ++ part_view part ∷ drop n (parts_view kept)) (view_take n kept)
    ∙ ap (λ (x : List Part). parts_view (take n kept) ++ part_view part ∷ x) (view_drop n kept)
    ∙ sym (map-append part_view (take n kept) (part ∷ drop n kept))

-- What a body knows of a part where it looks for one: the place and the test read the parts through two views of them.
pub stands : (side id : ℕ) {kept first second : List KeptPart} {n : ℕ} {answer : Bool} → first ≡ kept → second ≡ kept
    → n ≡ place_of side id (parts_view first) → answer ≡ is_of side id (slice_get (parts_view second) n)
    → (n ≡ place_of side id (parts_view kept)) × (is_of side id (slice_get (parts_view kept) n) ≡ answer)
stands side id {n = n} looked tested place test = (
  place ∙ ap (λ (x : List KeptPart). place_of side id (parts_view x)) looked,
  ap (λ (x : List KeptPart). is_of side id (slice_get (parts_view x) n)) (sym tested) ∙ sym test,
)

-- ---- a part that is there, and one that is not

module _ (side id : ℕ) (kept : List KeptPart) (n : ℕ) (place : n ≡ place_of side id (parts_view kept)) where
  pub absent_bytes : is_of side id (slice_get (parts_view kept) n) ≡ false → part_bytes side id (parts_view kept) ≡ []
  unfolding part_bytes
  absent_bytes none = let e : is_of side id (found_part side id (parts_view kept)) ≡ false = rw (← place) none in rw e refl

  pub absent_parts : is_of side id (slice_get (parts_view kept) n) ≡ false → without_part side id (parts_view kept) ≡ parts_view kept
  unfolding without_part
  absent_parts none = let e : is_of side id (found_part side id (parts_view kept)) ≡ false = rw (← place) none in rw e refl

  pub there_within : is_of side id (slice_get (parts_view kept) n) ≡ true → n < length kept
  there_within some =
      elim (cases_lt n (length kept)) [
        | inl lt ↦ lt
        | inr past ↦ let none : is_of side id (slice_get (parts_view kept) n) ≡ false = rw (view_past kept n past) refl in absurd cc
      ]

  pub there_bytes : (d : KeptPart) → is_of side id (slice_get (parts_view kept) n) ≡ true → part_bytes side id (parts_view kept) ≡ (get_or kept n d).bytes
  unfolding part_bytes
  there_bytes d some =
      let e : is_of side id (found_part side id (parts_view kept)) ≡ true = rw (← place) some in
      rw e (rw (← place) (rw (view_there kept n d (there_within some)) refl))

  pub there_parts : is_of side id (slice_get (parts_view kept) n) ≡ true → without_part side id (parts_view kept) ≡ parts_view (remove kept n)
  unfolding without_part
  there_parts some =
      let e : is_of side id (found_part side id (parts_view kept)) ≡ true = rw (← place) some in
      rw e (rw (← place) (view_remove n kept))

  pub put_parts : (part : KeptPart) → part.side ≡ side → part.id ≡ id → 0 < length part.bytes
      → with_part side id part.bytes (parts_view kept) ≡ parts_view (insert kept n part)
  unfolding with_part
  put_parts part s i some =
      let e : eqb (length part.bytes) 0 ≡ false = ne_eqb (length part.bytes) 0 (λ none. omega arith) in
      rw e (rw (← place, ← s, ← i) (view_insert n kept part))

pub put_nothing : (side id : ℕ) (bytes : List ℕ) (parts : List Part) → length bytes ≡ 0 → with_part side id bytes parts ≡ parts
unfolding with_part
put_nothing side id bytes parts none = rw none refl

pub place_within : (side id : ℕ) (kept : List KeptPart) → place_of side id (parts_view kept) ≤ length kept
place_within side id kept = omega (arith, prefix_len-le-length (comes_before side id) (parts_view kept), length-map kept part_view)
