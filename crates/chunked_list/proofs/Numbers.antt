-- The numbers of items before the chunks.
use Rattle.std.proofs.Common.{◌≡◌, ℕ, zero, suc, ◌+◌, ◌-◌, ◌<◌, ◌≤◌, List, [], ◌∷◌, ◌++◌, length, take, get_or, set, refl, ap, sym, ◌∙◌, append-nil, append_assoc, length-append, arith}
use Rattle.std.specs.List.{insert, remove}
use Rattle.std.proofs.lemmas.List.{take_all}
use Rattle.std.proofs.lemmas.List.Edits.{insert_end}
use Rattle.chunked_list.proofs.Edits.{put_in_chunk}
use Rattle.chunked_list.specs.Chunks.{items_in, joined, starts, IsFilled, AreFilled}
use Rattle.chunked_list.specs.Firsts.{raised, lowered}
use Rattle.chunked_list.specs.declared.chunk.Chunk.{Chunk}

next_is : (i : ℕ) → suc i ≡ i + 1
next_is i = omega arith

module _ {T : Type 0} where
  pub length-starts : (n : ℕ) (cs : List (Chunk T)) → length (starts n cs) ≡ length cs
  length-starts n [] = refl
  length-starts n (c ∷ cs) = ap suc (length-starts (n + length (items_in c)) cs)

  start_at : (n : ℕ) (cs : List (Chunk T)) (i d : ℕ) → i < length cs → get_or (starts n cs) i d ≡ n + length (joined (take i cs))
  start_at n [] i d inside = absurd (omega (arith, inside))
  start_at n (c ∷ cs) zero d inside = omega arith
  start_at n (c ∷ cs) (suc i) d inside =
      omega (arith, start_at (n + length (items_in c)) cs i d (omega arith), length-append (items_in c) (joined (take i cs)))

  pub start_is : (cs : List (Chunk T)) (i d : ℕ) → i < length cs → get_or (starts 0 cs) i d ≡ length (joined (take i cs))
  start_is cs i d inside = omega (arith, start_at 0 cs i d inside)

  -- what stands before a chunk and in it stands before the next
  pub front-suc : (cs : List (Chunk T)) (i : ℕ) (d : Chunk T) → i < length cs →
      length (joined (take (suc i) cs)) ≡ length (joined (take i cs)) + length (items_in (get_or cs i d))
  front-suc [] i d inside = absurd (omega (arith, inside))
  front-suc (c ∷ cs) zero d inside = omega (arith, length-append (items_in c) [])
  front-suc (c ∷ cs) (suc i) d inside =
      omega (arith, front-suc cs i d (omega arith), length-append (items_in c) (joined (take (suc i) cs)), length-append (items_in c) (joined (take i cs)))

  pub front-next : (cs : List (Chunk T)) (i : ℕ) (d : Chunk T) → i < length cs →
      length (joined (take (i + 1) cs)) ≡ length (joined (take i cs)) + length (items_in (get_or cs i d))
  front-next cs i d inside = ap (λ m. length (joined (take m cs))) (sym (next_is i)) ∙ front-suc cs i d inside

  -- the items of one chunk more
  joined-suc : (cs : List (Chunk T)) (i : ℕ) (d : Chunk T) → i < length cs →
      joined (take (suc i) cs) ≡ joined (take i cs) ++ items_in (get_or cs i d)
  joined-suc [] i d inside = absurd (omega (arith, inside))
  joined-suc (c ∷ cs) zero d inside = append-nil (items_in c)
  joined-suc (c ∷ cs) (suc i) d inside =
      ap (λ l. items_in c ++ l) (joined-suc cs i d (omega arith)) ∙ sym (append_assoc (items_in c) (joined (take i cs)) (items_in (get_or cs i d)))

  pub joined-next : (cs : List (Chunk T)) (i : ℕ) (d : Chunk T) → i < length cs →
      joined (take (i + 1) cs) ≡ joined (take i cs) ++ items_in (get_or cs i d)
  joined-next cs i d inside = ap (λ m. joined (take m cs)) (sym (next_is i)) ∙ joined-suc cs i d inside

  pub front-upto : (cs : List (Chunk T)) (i : ℕ) → length (joined (take i cs)) ≤ length (joined cs)
  front-upto [] zero = omega arith
  front-upto [] (suc i) = omega arith
  front-upto (c ∷ cs) zero = omega arith
  front-upto (c ∷ cs) (suc i) =
      omega (arith, front-upto cs i, length-append (items_in c) (joined (take i cs)), length-append (items_in c) (joined cs))

  pub inside_bound : (cs : List (Chunk T)) (i : ℕ) (d : Chunk T) → i < length cs →
      length (joined (take i cs)) + length (items_in (get_or cs i d)) ≤ length (joined cs)
  inside_bound cs i d inside = omega (arith, front-next cs i d inside, front-upto cs (i + 1))

  pub front-rises : (cs : List (Chunk T)) (i j : ℕ) → i ≤ j → length (joined (take i cs)) ≤ length (joined (take j cs))
  front-rises [] zero j le = omega arith
  front-rises [] (suc i) zero le = omega arith
  front-rises [] (suc i) (suc j) le = omega arith
  front-rises (c ∷ cs) zero j le = omega arith
  front-rises (c ∷ cs) (suc i) zero le = absurd (omega (arith, le))
  front-rises (c ∷ cs) (suc i) (suc j) le =
      omega (arith, front-rises cs i j (omega arith), length-append (items_in c) (joined (take i cs)), length-append (items_in c) (joined (take j cs)))

  -- ---- a chunk of as many items in the place of another

  pub starts-same : (n : ℕ) (cs : List (Chunk T)) (i : ℕ) (new d : Chunk T) → i < length cs →
      length (items_in new) ≡ length (items_in (get_or cs i d)) → starts n (set cs i new) ≡ starts n cs
  starts-same n [] i new d inside same = refl
  starts-same n (c ∷ cs) zero new d inside same = ap (λ m. n ∷ starts (n + m) cs) same
  starts-same n (c ∷ cs) (suc i) new d inside same = ap (λ l. n ∷ l) (starts-same (n + length (items_in c)) cs i new d (omega arith) same)

  pub filled-set : (cs : List (Chunk T)) (i : ℕ) (new d : Chunk T) → i < length cs → AreFilled cs →
      length (items_in new) ≡ length (items_in (get_or cs i d)) → AreFilled (set cs i new)
  filled-set [] i new d inside h same = tt
  filled-set (c ∷ cs) zero new d inside h same = (record { some = omega (arith, h.0.some, same); few = omega (arith, h.0.few, same) }, h.1)
  filled-set (c ∷ cs) (suc i) new d inside h same = (h.0, filled-set cs i new d (omega arith) h.1 same)

  -- ---- the last chunk

  pub pushed_on_last : (cs : List (Chunk T)) (last : ℕ) (new d : Chunk T) (y : T) → last + 1 ≡ length cs →
      items_in new ≡ items_in (get_or cs last d) ++ y ∷ [] → joined (set cs last new) ≡ joined cs ++ y ∷ []
  pushed_on_last cs last new d y is edit =
      put_in_chunk cs last (length (items_in (get_or cs last d))) new d (omega (arith, is)) y (omega arith) (edit ∙ sym (insert_end (items_in (get_or cs last d)) y))
      ∙ (ap (λ n. insert (joined cs) n y) whole ∙ insert_end (joined cs) y)
    where
      whole : length (joined (take last cs)) + length (items_in (get_or cs last d)) ≡ length (joined cs)
      whole = omega (
        arith,
        front-suc cs last d (omega (arith, is)),
        ap (λ l. length (joined l)) (take_all (suc last) cs (omega (arith, is))),
      )

  pub starts-last : (n : ℕ) (cs : List (Chunk T)) (last : ℕ) (new : Chunk T) → last + 1 ≡ length cs → starts n (set cs last new) ≡ starts n cs
  starts-last n [] last new is = refl
  starts-last n (c ∷ []) zero new is = refl
  starts-last n (c ∷ e ∷ cs) zero new is = absurd (omega (arith, is))
  starts-last n (c ∷ cs) (suc last) new is = ap (λ l. n ∷ l) (starts-last (n + length (items_in c)) cs last new (omega (arith, is)))

  pub starts-append : (n : ℕ) (cs ds : List (Chunk T)) → starts n (cs ++ ds) ≡ starts n cs ++ starts (n + length (joined cs)) ds
  starts-append n [] ds = ap (λ m. starts m ds) (omega arith)
  starts-append n (c ∷ cs) ds =
      ap (λ l. n ∷ l)
      (starts-append (n + length (items_in c)) cs ds
      ∙ ap (λ m. starts (n + length (items_in c)) cs ++ starts m ds) (omega (arith, length-append (items_in c) (joined cs))))

  -- a chunk behind the others
  pub starts-pushed : (cs : List (Chunk T)) (c : Chunk T) (n : ℕ) → n ≡ length (joined cs) → starts 0 (cs ++ c ∷ []) ≡ starts 0 cs ++ n ∷ []
  starts-pushed cs c n is = starts-append 0 cs (c ∷ []) ∙ ap (λ m. starts 0 cs ++ m ∷ []) (omega (arith, is))

  -- ---- a chunk of one item more, or one less

  starts-raised_from : (n : ℕ) (cs : List (Chunk T)) → starts (n + 1) cs ≡ raised 0 (starts n cs)
  starts-raised_from n [] = refl
  starts-raised_from n (c ∷ cs) =
      ap (λ l. (n + 1) ∷ l)
      (ap (λ m. starts m cs) (more n (length (items_in c))) ∙ starts-raised_from (n + length (items_in c)) cs)
    where
      more : (a b : ℕ) → a + 1 + b ≡ a + b + 1
      more a b = omega arith

  pub starts-grown : (n : ℕ) (cs : List (Chunk T)) (i : ℕ) (new d : Chunk T) → i < length cs →
      length (items_in new) ≡ length (items_in (get_or cs i d)) + 1 → starts n (set cs i new) ≡ raised (i + 1) (starts n cs)
  starts-grown n cs i new d inside more = go n cs i inside more ∙ ap (λ k. raised k (starts n cs)) (next_is i)
    where
      go : (n : ℕ) (cs : List (Chunk T)) (i : ℕ) → i < length cs →
          length (items_in new) ≡ length (items_in (get_or cs i d)) + 1 → starts n (set cs i new) ≡ raised (suc i) (starts n cs)
      go n [] i inside more = absurd (omega (arith, inside))
      go n (c ∷ cs) zero inside more =
          ap (λ l. n ∷ l)
          (ap (λ m. starts m cs) (omega (arith, more)) ∙ starts-raised_from (n + length (items_in c)) cs)
      go n (c ∷ cs) (suc i) inside more = ap (λ l. n ∷ l) (go (n + length (items_in c)) cs i (omega arith) more)

  starts-lowered_from : (n m : ℕ) (cs : List (Chunk T)) → n ≡ m + 1 → starts m cs ≡ lowered 0 (starts n cs)
  starts-lowered_from n m [] is = refl
  starts-lowered_from n m (c ∷ cs) is =
      ap (λ k. k ∷ starts (m + length (items_in c)) cs) less
      ∙ ap (λ l. (n - 1) ∷ l) (starts-lowered_from (n + length (items_in c)) (m + length (items_in c)) cs (omega (arith, is)))
    where
      less : m ≡ n - 1
      less = omega (arith, is)

  pub starts-shrunk : (n : ℕ) (cs : List (Chunk T)) (i : ℕ) (new d : Chunk T) → i < length cs →
      length (items_in new) + 1 ≡ length (items_in (get_or cs i d)) → starts n (set cs i new) ≡ lowered (i + 1) (starts n cs)
  starts-shrunk n cs i new d inside less = go n cs i inside less ∙ ap (λ k. lowered k (starts n cs)) (next_is i)
    where
      go : (n : ℕ) (cs : List (Chunk T)) (i : ℕ) → i < length cs →
          length (items_in new) + 1 ≡ length (items_in (get_or cs i d)) → starts n (set cs i new) ≡ lowered (suc i) (starts n cs)
      go n [] i inside less = absurd (omega (arith, inside))
      go n (c ∷ cs) zero inside less =
          ap (λ l. n ∷ l) (starts-lowered_from (n + length (items_in c)) (n + length (items_in new)) cs (omega (arith, less)))
      go n (c ∷ cs) (suc i) inside less = ap (λ l. n ∷ l) (go (n + length (items_in c)) cs i (omega arith) less)

  -- ---- a chunk that goes

  -- an empty one
  pub starts-without_empty : (n : ℕ) (cs : List (Chunk T)) (i : ℕ) (d : Chunk T) → i < length cs → items_in (get_or cs i d) ≡ [] →
      starts n (remove cs i) ≡ remove (starts n cs) i
  starts-without_empty n [] i d inside empty = absurd (omega (arith, inside))
  starts-without_empty n (c ∷ cs) zero d inside empty = ap (λ m. starts m cs) (omega (arith, ap length empty))
  starts-without_empty n (c ∷ cs) (suc i) d inside empty =
      ap (λ l. n ∷ l) (starts-without_empty (n + length (items_in c)) cs i d (omega arith) empty)

  -- one that is joined with the one before it
  pub starts-joined : (cs : List (Chunk T)) (i : ℕ) (both d : Chunk T) → i + 1 < length cs →
      items_in both ≡ items_in (get_or cs i d) ++ items_in (get_or cs (i + 1) d) →
      starts 0 (set (remove cs (i + 1)) i both) ≡ remove (starts 0 cs) (i + 1)
  starts-joined cs i both d there is =
      ap (λ k. starts 0 (set (remove cs k) i both)) (sym (next_is i))
      ∙ (go 0 cs i (omega (arith, there)) (is ∙ ap (λ k. items_in (get_or cs i d) ++ items_in (get_or cs k d)) (sym (next_is i)))
      ∙ ap (λ k. remove (starts 0 cs) k) (next_is i))
    where
      go : (n : ℕ) (cs : List (Chunk T)) (i : ℕ) → suc i < length cs →
          items_in both ≡ items_in (get_or cs i d) ++ items_in (get_or cs (suc i) d) →
          starts n (set (remove cs (suc i)) i both) ≡ remove (starts n cs) (suc i)
      go n [] i there is = absurd (omega (arith, there))
      go n (c ∷ []) zero there is = absurd (omega (arith, there))
      go n (c ∷ e ∷ cs) zero there is =
          ap (λ m. n ∷ starts m cs) (omega (arith, ap length is, length-append (items_in c) (items_in e)))
      go n (c ∷ cs) (suc i) there is = ap (λ l. n ∷ l) (go (n + length (items_in c)) cs i (omega arith) is)

  -- ---- what the chunks still are

  filled-put : (cs : List (Chunk T)) (i : ℕ) (new : Chunk T) → AreFilled cs → IsFilled new → AreFilled (set cs i new)
  filled-put [] i new h is = tt
  filled-put (c ∷ cs) zero new h is = (is, h.1)
  filled-put (c ∷ cs) (suc i) new h is = (h.0, filled-put cs i new h.1 is)

  filled-without : (cs : List (Chunk T)) (i : ℕ) → AreFilled cs → AreFilled (remove cs i)
  filled-without [] zero h = tt
  filled-without [] (suc i) h = tt
  filled-without (c ∷ cs) zero h = h.1
  filled-without (c ∷ cs) (suc i) h = (h.0, filled-without cs i h.1)

  pub filled-join : (cs : List (Chunk T)) (i : ℕ) (both : Chunk T) → AreFilled cs → IsFilled both → AreFilled (set (remove cs (i + 1)) i both)
  filled-join cs i both h is = filled-put (remove cs (i + 1)) i both (filled-without cs (i + 1) h) is
