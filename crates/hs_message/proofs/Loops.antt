-- Reading one thing after the other, as a loop does.
use Rattle.std.proofs.Common.{◌≡◌, ◌≢◌, ℕ, zero, suc, ◌+◌, ◌-◌, ◌≤◌, ◌<◌, List, [], ◌∷◌, ◌++◌, length, Option, Some, None, refl, sym, ap, ◌∙◌, append_assoc, arith}
use Rattle.std.proofs.lemmas.Bool.{ne_eqb}
use Rattle.std.proofs.lemmas.List.{append-nil}
use Rattle.cbor_items.specs.Front.{Reader, ◌>>=◌}
use Rattle.hs_message.specs.Reading.{row_at, row_to_break_at}

-- what was read before, and what is still read
abbrev pub with_front : {X : Type 0} → List X → Option (List X × List ℕ) → Option (List X × List ℕ)
with_front front read = read >>= λ x. Some (front ++ x.0, x.1)

regroup : {X : Type 0} (front : List X) (x : X) (read : Option (List X × List ℕ)) → with_front front (read >>= λ xs. Some (x ∷ xs.0, xs.1)) ≡ with_front (front ++ x ∷ []) read
regroup {X} front x (Some xs) = ap (λ (ys : List X). Some (ys, xs.1)) (simp append_assoc)
regroup front x None = refl

nothing_left : {X : Type 0} (thing : Reader X) (n : ℕ) (bytes : List ℕ) → length bytes ≡ 0 → row_to_break_at thing n bytes ≡ None
unfolding row_to_break_at
nothing_left thing zero bytes e = refl
nothing_left thing (suc n) [] e = refl
nothing_left thing (suc n) (byte ∷ bytes) e = absurd (omega arith)

module _ {X : Type 0} (thing : Reader X) (count i : ℕ) (bytes : List ℕ) (total : Option (List X × List ℕ)) (front : List X) where
  -- ---- so many things
  pub row_goes_on : (x : X) (after : List ℕ) → i < count → thing bytes ≡ Some (x, after)
      → with_front front (row_at thing (count - i) bytes) ≡ total → with_front (front ++ x ∷ []) (row_at thing (count - (i + 1)) after) ≡ total
  unfolding row_at
  row_goes_on x after lt read so_far =
      let more : count - i ≡ suc (count - (i + 1)) = omega arith in
      let one : with_front front (row_at thing (count - i) bytes) ≡ with_front (front ++ x ∷ []) (row_at thing (count - (i + 1)) after) =
      rw (more, read) (regroup front x (row_at thing (count - (i + 1)) after)) in
      sym one ∙ so_far

  pub row_stops : i < count → thing bytes ≡ None → with_front front (row_at thing (count - i) bytes) ≡ total → total ≡ None
  unfolding row_at
  row_stops lt read so_far =
      let more : count - i ≡ suc (count - (i + 1)) = omega arith in
      let one : with_front front (row_at thing (count - i) bytes) ≡ None = rw (more, read) refl in
      sym so_far ∙ one

  pub row_is_done : count ≤ i → with_front front (row_at thing (count - i) bytes) ≡ total → total ≡ Some (front, bytes)
  unfolding row_at
  row_is_done le so_far =
      let no_more : count - i ≡ 0 = omega arith in
      let one : with_front front (row_at thing (count - i) bytes) ≡ Some (front, bytes) = rw no_more (ap (λ (xs : List X). Some (xs, bytes)) (append-nil front)) in
      sym so_far ∙ one

  -- ---- things up to a break
  pub break_is_missing : length bytes ≡ 0 → with_front front (row_to_break_at thing (count - i) bytes) ≡ total → total ≡ None
  break_is_missing no_bytes so_far = sym so_far ∙ ap (with_front front) (nothing_left thing (count - i) bytes no_bytes)

  pub break_is_found : (first : ℕ) (after : List ℕ) → i < count → bytes ≡ first ∷ after → first ≡ 255
      → with_front front (row_to_break_at thing (count - i) bytes) ≡ total → total ≡ Some (front, after)
  unfolding row_to_break_at
  break_is_found first after lt begins is_break so_far =
      let more : count - i ≡ suc (count - (i + 1)) = omega arith in
      let one : with_front front (row_to_break_at thing (count - i) bytes) ≡ Some (front, after) =
      rw (more, begins, is_break) (ap (λ (xs : List X). Some (xs, after)) (append-nil front)) in
      sym so_far ∙ one

  pub break_goes_on : (first : ℕ) (rest : List ℕ) (x : X) (after : List ℕ) → i < count → bytes ≡ first ∷ rest → first ≢ 255 → thing bytes ≡ Some (x, after)
      → with_front front (row_to_break_at thing (count - i) bytes) ≡ total → with_front (front ++ x ∷ []) (row_to_break_at thing (count - (i + 1)) after) ≡ total
  unfolding row_to_break_at
  break_goes_on first rest x after lt begins no_break read so_far =
      let more : count - i ≡ suc (count - (i + 1)) = omega arith in
      let read' : thing (first ∷ rest) ≡ Some (x, after) = ap thing (sym begins) ∙ read in
      let one : with_front front (row_to_break_at thing (count - i) bytes) ≡ with_front (front ++ x ∷ []) (row_to_break_at thing (count - (i + 1)) after) =
      rw (more, begins, ne_eqb first 255 no_break, read') (regroup front x (row_to_break_at thing (count - (i + 1)) after)) in
      sym one ∙ so_far

  pub break_stops : (first : ℕ) (rest : List ℕ) → i < count → bytes ≡ first ∷ rest → first ≢ 255 → thing bytes ≡ None
      → with_front front (row_to_break_at thing (count - i) bytes) ≡ total → total ≡ None
  unfolding row_to_break_at
  break_stops first rest lt begins no_break read so_far =
      let more : count - i ≡ suc (count - (i + 1)) = omega arith in
      let read' : thing (first ∷ rest) ≡ None = ap thing (sym begins) ∙ read in
      let one : with_front front (row_to_break_at thing (count - i) bytes) ≡ None = rw (more, begins, ne_eqb first 255 no_break, read') refl in
      sym so_far ∙ one

  pub break_is_out : count ≤ i → with_front front (row_to_break_at thing (count - i) bytes) ≡ total → total ≡ None
  unfolding row_to_break_at
  break_is_out le so_far =
      let no_more : count - i ≡ 0 = omega arith in
      let one : with_front front (row_to_break_at thing (count - i) bytes) ≡ None = rw no_more refl in
      sym so_far ∙ one
