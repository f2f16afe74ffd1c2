-- The items from a spot to the end of its chunk.
use Rattle.std.proofs.Common.{◌≡◌, ℕ, zero, suc, ◌+◌, ◌<◌, ◌≤◌, List, [], ◌∷◌, ◌++◌, length, take, drop, get_or, sym, ap, ◌∙◌, length-append, arith}
use Rattle.std.proofs.Math.Seq.{drop-append-add, take-append_seam}
use Rattle.std.proofs.lemmas.List.{drop-append-le, get_or-drop, get_or-take, length-drop, length-take}
use Rattle.chunked_list.specs.Chunks.{items_in, joined}
use Rattle.chunked_list.specs.declared.chunk.Chunk.{Chunk}

module _ {T : Type 0} where
  -- the rest of the chunk stands before the chunks behind it
  behind : (cs : List (Chunk T)) (i at : ℕ) (d : Chunk T) → i < length cs → at ≤ length (items_in (get_or cs i d)) →
      drop (length (joined (take i cs)) + at) (joined cs) ≡ drop at (items_in (get_or cs i d)) ++ joined (drop (suc i) cs)
  behind [] i at d inside upto = absurd (omega (arith, inside))
  behind (c ∷ cs) zero at d inside upto = ap (λ n. drop n (items_in c ++ joined cs)) (none_more at) ∙ drop-append-le at (items_in c) (joined cs) upto
    where
      none_more : (n : ℕ) → 0 + n ≡ n
      none_more n = omega arith
  behind (c ∷ cs) (suc i) at d inside upto =
      ap (λ n. drop n (items_in c ++ joined cs)) (further (length (items_in c)) (length (joined (take i cs))) (length-append (items_in c) (joined (take i cs))))
      ∙ (drop-append-add (items_in c) (joined cs) (length (joined (take i cs)) + at) ∙ behind cs i at d (omega (arith, inside)) upto)
    where
      further : (a b : ℕ) → length (items_in c ++ joined (take i cs)) ≡ a + b → length (items_in c ++ joined (take i cs)) + at ≡ a + (b + at)
      further a b e = omega (arith, e)

  pub run_is : (cs : List (Chunk T)) (i at : ℕ) (d : Chunk T) → i < length cs → at ≤ length (items_in (get_or cs i d)) → (run : List T) →
      run ≡ drop at (items_in (get_or cs i d)) → run ≡ take (length run) (drop (length (joined (take i cs)) + at) (joined cs))
  run_is cs i at d inside upto run is =
      sym (ap (take (length run)) (behind cs i at d inside upto ∙ ap (λ l. l ++ joined (drop (suc i) cs)) (sym is)) ∙ take-append_seam run (joined (drop (suc i) cs)))

  -- an item of those from a place on
  pub run_at : (xs run : List T) (n i : ℕ) (d : T) → run ≡ take (length run) (drop n xs) → i < length run → get_or xs (n + i) d ≡ get_or run i d
  run_at xs run n i d front inside =
      sym (get_or-drop n xs i d) ∙ (sym (get_or-take (length run) (drop n xs) i d inside) ∙ ap (λ l. get_or l i d) (sym front))

  pub run_within : (xs run : List T) (n i : ℕ) → run ≡ take (length run) (drop n xs) → i < length run → n + i < length xs
  run_within xs run n i front inside = omega (arith, ap length front, length-take (length run) (drop n xs), length-drop n xs, inside)
