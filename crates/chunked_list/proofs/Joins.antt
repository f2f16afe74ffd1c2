-- Two chunks made one.
use Rattle.std.proofs.Common.{◌≡◌, ℕ, zero, suc, ◌+◌, ◌<◌, List, [], ◌∷◌, ◌++◌, length, get_or, set, refl, ap, sym, ◌∙◌, append_assoc, arith}
use Rattle.std.specs.List.{remove}
use Rattle.chunked_list.specs.Chunks.{items_in, joined}
use Rattle.chunked_list.specs.declared.chunk.Chunk.{Chunk}

next_is : (i : ℕ) → suc i ≡ i + 1
next_is i = omega arith

module _ {T : Type 0} where
  joined-both : (cs : List (Chunk T)) (i : ℕ) (both d : Chunk T) → suc i < length cs →
      items_in both ≡ items_in (get_or cs i d) ++ items_in (get_or cs (suc i) d) → joined (set (remove cs (suc i)) i both) ≡ joined cs
  joined-both [] i both d there is = absurd (omega (arith, there))
  joined-both (c ∷ []) zero both d there is = absurd (omega (arith, there))
  joined-both (c ∷ e ∷ cs) zero both d there is =
      ap (λ l. l ++ joined cs) is ∙ append_assoc (items_in c) (items_in e) (joined cs)
  joined-both (c ∷ cs) (suc i) both d there is = ap (λ l. items_in c ++ l) (joined-both cs i both d (omega arith) is)

  -- the first of the two is as it was
  get-first : (cs : List (Chunk T)) (i : ℕ) (d : Chunk T) → suc i < length cs → get_or (remove cs (suc i)) i d ≡ get_or cs i d
  get-first [] i d there = absurd (omega (arith, there))
  get-first (c ∷ cs) zero d there = refl
  get-first (c ∷ cs) (suc i) d there = get-first cs i d (omega arith)

  module _ (cs : List (Chunk T)) (i : ℕ) (there : i + 1 < length cs) where
    inside : suc i < length cs
    inside = omega (arith, there)

    pub same-first : (d : Chunk T) → get_or (remove cs (i + 1)) i d ≡ get_or cs i d
    same-first d = ap (λ n. get_or (remove cs n) i d) (sym (next_is i)) ∙ get-first cs i d inside

    pub joined-join : (both d : Chunk T) → items_in both ≡ items_in (get_or cs i d) ++ items_in (get_or cs (i + 1) d) →
        joined (set (remove cs (i + 1)) i both) ≡ joined cs
    joined-join both d is =
        ap (λ n. joined (set (remove cs n) i both)) (sym (next_is i))
        ∙ joined-both cs i both d inside (is ∙ ap (λ n. items_in (get_or cs i d) ++ items_in (get_or cs n d)) (sym (next_is i)))
