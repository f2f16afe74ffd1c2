-- Passing over one thing after the other, as a loop does.
use Rattle.std.proofs.Common.{◌≡◌, ◌≢◌, ℕ, zero, suc, ◌+◌, ◌-◌, ◌≤◌, ◌<◌, true, false, List, [], ◌∷◌, length, Result, Ok, Err, refl, sym, ap, ◌∙◌, arith}
use Rattle.std.proofs.lemmas.Bool.{ne_eqb}
use Rattle.cbor_items.specs.declared.stop.Stop.{Stop}
use Rattle.cbor_items.specs.declared.stop.Stop.TheVariants.{More, Deep}
use Rattle.cbor_items.specs.Head.{initial_at}
use Rattle.cbor_items.specs.Scan.{Skip, skip_row, skip_to_break, is_nested, skip_flat, skip_nested, skip_item}

nothing_left : (thing : Skip) (n : ℕ) (bytes : List ℕ) → length bytes ≡ 0 → skip_to_break thing n bytes ≡ Err More
unfolding skip_to_break
nothing_left thing zero bytes e = refl
nothing_left thing (suc n) [] e = refl
nothing_left thing (suc n) (byte ∷ bytes) e = absurd (omega arith)

module _ (thing : Skip) (count i : ℕ) (bytes : List ℕ) (total : Result (List ℕ) Stop) where
  -- ---- so many things
  pub row_goes_on : (after : List ℕ) → i < count → thing bytes ≡ Ok after
      → skip_row thing (count - i) bytes ≡ total → skip_row thing (count - (i + 1)) after ≡ total
  unfolding skip_row
  row_goes_on after lt read so_far =
      let more : count - i ≡ suc (count - (i + 1)) = omega arith in
      let one : skip_row thing (count - i) bytes ≡ skip_row thing (count - (i + 1)) after = rw (more, read) refl in
      sym one ∙ so_far

  pub row_stops : (stop : Stop) → i < count → thing bytes ≡ Err stop
      → skip_row thing (count - i) bytes ≡ total → total ≡ Err stop
  unfolding skip_row
  row_stops stop lt read so_far =
      let more : count - i ≡ suc (count - (i + 1)) = omega arith in
      let one : skip_row thing (count - i) bytes ≡ Err stop = rw (more, read) refl in
      sym so_far ∙ one

  pub row_is_done : count ≤ i → skip_row thing (count - i) bytes ≡ total → total ≡ Ok bytes
  unfolding skip_row
  row_is_done le so_far =
      let no_more : count - i ≡ 0 = omega arith in
      let one : skip_row thing (count - i) bytes ≡ Ok bytes = rw no_more refl in
      sym so_far ∙ one

  -- ---- things up to a break
  pub break_is_missing : length bytes ≡ 0 → skip_to_break thing (count - i) bytes ≡ total → total ≡ Err More
  break_is_missing no_bytes so_far = sym so_far ∙ nothing_left thing (count - i) bytes no_bytes

  pub break_is_found : (first : ℕ) (after : List ℕ) → i < count → bytes ≡ first ∷ after → first ≡ 255
      → skip_to_break thing (count - i) bytes ≡ total → total ≡ Ok after
  unfolding skip_to_break
  break_is_found first after lt front is_break so_far =
      let more : count - i ≡ suc (count - (i + 1)) = omega arith in
      let one : skip_to_break thing (count - i) bytes ≡ Ok after = rw (more, front, is_break) refl in
      sym so_far ∙ one

  pub break_goes_on : (first : ℕ) (rest after : List ℕ) → i < count → bytes ≡ first ∷ rest → first ≢ 255 → thing bytes ≡ Ok after
      → skip_to_break thing (count - i) bytes ≡ total → skip_to_break thing (count - (i + 1)) after ≡ total
  unfolding skip_to_break
  break_goes_on first rest after lt front no_break read so_far =
      let more : count - i ≡ suc (count - (i + 1)) = omega arith in
      let read' : thing (first ∷ rest) ≡ Ok after = ap thing (sym front) ∙ read in
      let one : skip_to_break thing (count - i) bytes ≡ skip_to_break thing (count - (i + 1)) after = rw (more, front, ne_eqb first 255 no_break, read') refl in
      sym one ∙ so_far

  pub break_stops : (first : ℕ) (rest : List ℕ) (stop : Stop) → i < count → bytes ≡ first ∷ rest → first ≢ 255 → thing bytes ≡ Err stop
      → skip_to_break thing (count - i) bytes ≡ total → total ≡ Err stop
  unfolding skip_to_break
  break_stops first rest stop lt front no_break read so_far =
      let more : count - i ≡ suc (count - (i + 1)) = omega arith in
      let read' : thing (first ∷ rest) ≡ Err stop = ap thing (sym front) ∙ read in
      let one : skip_to_break thing (count - i) bytes ≡ Err stop = rw (more, front, ne_eqb first 255 no_break, read') refl in
      sym so_far ∙ one

  pub break_is_out : count ≤ i → skip_to_break thing (count - i) bytes ≡ total → total ≡ Err More
  unfolding skip_to_break
  break_is_out le so_far =
      let no_more : count - i ≡ 0 = omega arith in
      let one : skip_to_break thing (count - i) bytes ≡ Err More = rw no_more refl in
      sym so_far ∙ one

-- ---- an item by its initial byte
module _ (depth : ℕ) (bytes : List ℕ) (initial : ℕ) (rest : List ℕ) where
  pub item_is_flat : initial_at bytes ≡ Ok (initial, rest) → is_nested initial ≡ false → skip_item depth bytes ≡ skip_flat initial rest
  unfolding skip_item
  item_is_flat begins flat = elim depth as (λ d. skip_item d bytes ≡ skip_flat initial rest) [ zero ↦ rw (begins, flat) refl | suc d ↦ rw (begins, flat) refl ]

  pub item_is_nested : (inner : ℕ) → initial_at bytes ≡ Ok (initial, rest) → is_nested initial ≡ true → 1 ≤ depth → inner ≡ depth - 1
      → skip_item depth bytes ≡ skip_nested (skip_item inner) initial rest
  unfolding skip_item
  item_is_nested inner begins nested some below = let e : depth ≡ suc inner = omega arith in rw e (rw (begins, nested) refl)

  pub item_is_too_deep : initial_at bytes ≡ Ok (initial, rest) → is_nested initial ≡ true → depth < 1 → skip_item depth bytes ≡ Err Deep
  unfolding skip_item
  item_is_too_deep begins nested none = let e : depth ≡ 0 = omega arith in rw e (rw (begins, nested) refl)

pub item_stops : (depth : ℕ) (bytes : List ℕ) (stop : Stop) → initial_at bytes ≡ Err stop → skip_item depth bytes ≡ Err stop
unfolding skip_item
item_stops zero bytes stop e = rw e refl
item_stops (suc depth) bytes stop e = rw e refl
