-- What an edit of one chunk leaves of the list.
use Rattle.std.proofs.Common.{◌≡◌, ℕ, zero, suc, ◌+◌, ◌-◌, ◌<◌, ◌≤◌, List, [], ◌∷◌, ◌++◌, length, take, drop, get_or, set, refl, ap, sym, ◌∙◌, append_assoc, arith}
use Rattle.std.specs.List.{insert, remove}
use Rattle.std.proofs.lemmas.List.{set-append_left, set-append_right, get_or_append_left, get_or-append_right}
use Rattle.std.proofs.lemmas.List.Concat.{flat_map-append}
use Rattle.std.proofs.lemmas.List.Edits.{insert-append_left, insert-append_right, remove-append_left, remove-append_right}
use Rattle.chunked_list.specs.Chunks.{items_in, joined}
use Rattle.chunked_list.specs.declared.chunk.Chunk.{Chunk}

-- ---- an edit in the middle one of three lists

module _ {X : Type 0} (fs xs bs : List X) (at place : ℕ) (place_is : length fs + at ≡ place) where
  at_is : place - length fs ≡ at
  at_is = omega arith

  insert-mid : (y : X) → at ≤ length xs → insert (fs ++ (xs ++ bs)) place y ≡ fs ++ (insert xs at y ++ bs)
  insert-mid y upto =
      insert-append_right fs (xs ++ bs) (length fs) place y refl (omega arith)
      ∙ (ap (λ n. fs ++ insert (xs ++ bs) n y) at_is ∙ ap (λ l. fs ++ l) (insert-append_left xs bs at y upto))

  remove-mid : at < length xs → remove (fs ++ (xs ++ bs)) place ≡ fs ++ (remove xs at ++ bs)
  remove-mid inside =
      remove-append_right fs (xs ++ bs) (length fs) place refl (omega arith)
      ∙ (ap (λ n. fs ++ remove (xs ++ bs) n) at_is ∙ ap (λ l. fs ++ l) (remove-append_left xs bs at inside))

  set-mid : (y : X) → at < length xs → set (fs ++ (xs ++ bs)) place y ≡ fs ++ (set xs at y ++ bs)
  set-mid y inside =
      set-append_right fs (xs ++ bs) (length fs) place y refl (omega arith)
      ∙ (ap (λ n. fs ++ set (xs ++ bs) n y) at_is ∙ ap (λ l. fs ++ l) (set-append_left xs bs at y inside))

  get-mid : (d : X) → at < length xs → get_or (fs ++ (xs ++ bs)) place d ≡ get_or xs at d
  get-mid d inside =
      get_or-append_right fs (xs ++ bs) (length fs) place d refl (omega arith)
      ∙ (ap (λ n. get_or (xs ++ bs) n d) at_is ∙ get_or_append_left xs bs d at inside)

module _ {T : Type 0} where
  pub joined-append : (cs ds : List (Chunk T)) → joined (cs ++ ds) ≡ joined cs ++ joined ds
  joined-append cs ds = flat_map-append items_in cs ds

  pub joined-parts : (cs : List (Chunk T)) (i : ℕ) (d : Chunk T) → i < length cs →
      joined cs ≡ joined (take i cs) ++ (items_in (get_or cs i d) ++ joined (drop (suc i) cs))
  joined-parts [] i d inside = absurd (omega (arith, inside))
  joined-parts (c ∷ cs) zero d inside = refl
  joined-parts (c ∷ cs) (suc i) d inside =
      ap (λ l. items_in c ++ l) (joined-parts cs i d (omega arith))
      ∙ sym (append_assoc (items_in c) (joined (take i cs)) (items_in (get_or cs i d) ++ joined (drop (suc i) cs)))

  pub joined-set : (cs : List (Chunk T)) (i : ℕ) (new : Chunk T) → i < length cs →
      joined (set cs i new) ≡ joined (take i cs) ++ (items_in new ++ joined (drop (suc i) cs))
  joined-set [] i new inside = absurd (omega (arith, inside))
  joined-set (c ∷ cs) zero new inside = refl
  joined-set (c ∷ cs) (suc i) new inside =
      ap (λ l. items_in c ++ l) (joined-set cs i new (omega arith))
      ∙ sym (append_assoc (items_in c) (joined (take i cs)) (items_in new ++ joined (drop (suc i) cs)))

  -- ---- a chunk with one item more, one less, or another

  module _ (cs : List (Chunk T)) (i at : ℕ) (new d : Chunk T) (inside : i < length cs) where
    pub put_in_chunk : (y : T) → at ≤ length (items_in (get_or cs i d)) → items_in new ≡ insert (items_in (get_or cs i d)) at y →
        joined (set cs i new) ≡ insert (joined cs) (length (joined (take i cs)) + at) y
    put_in_chunk y upto edit =
        joined-set cs i new inside
        ∙ (ap (λ l. joined (take i cs) ++ (l ++ joined (drop (suc i) cs))) edit
        ∙ (sym (insert-mid (joined (take i cs)) (items_in (get_or cs i d)) (joined (drop (suc i) cs)) at _ refl y upto)
        ∙ ap (λ l. insert l (length (joined (take i cs)) + at) y) (sym (joined-parts cs i d inside))))

    pub taken_from_chunk : at < length (items_in (get_or cs i d)) → items_in new ≡ remove (items_in (get_or cs i d)) at →
        joined (set cs i new) ≡ remove (joined cs) (length (joined (take i cs)) + at)
    taken_from_chunk within edit =
        joined-set cs i new inside
        ∙ (ap (λ l. joined (take i cs) ++ (l ++ joined (drop (suc i) cs))) edit
        ∙ (sym (remove-mid (joined (take i cs)) (items_in (get_or cs i d)) (joined (drop (suc i) cs)) at _ refl within)
        ∙ ap (λ l. remove l (length (joined (take i cs)) + at)) (sym (joined-parts cs i d inside))))

    pub set_in_chunk : (y : T) → at < length (items_in (get_or cs i d)) → items_in new ≡ set (items_in (get_or cs i d)) at y →
        joined (set cs i new) ≡ set (joined cs) (length (joined (take i cs)) + at) y
    set_in_chunk y within edit =
        joined-set cs i new inside
        ∙ (ap (λ l. joined (take i cs) ++ (l ++ joined (drop (suc i) cs))) edit
        ∙ (sym (set-mid (joined (take i cs)) (items_in (get_or cs i d)) (joined (drop (suc i) cs)) at _ refl y within)
        ∙ ap (λ l. set l (length (joined (take i cs)) + at) y) (sym (joined-parts cs i d inside))))

    pub same_in_chunk : items_in new ≡ items_in (get_or cs i d) → joined (set cs i new) ≡ joined cs
    same_in_chunk edit =
        joined-set cs i new inside
        ∙ (ap (λ l. joined (take i cs) ++ (l ++ joined (drop (suc i) cs))) edit ∙ sym (joined-parts cs i d inside))

  pub get_in_chunk : (cs : List (Chunk T)) (i at : ℕ) (d : Chunk T) (e : T) → i < length cs → at < length (items_in (get_or cs i d)) →
      get_or (joined cs) (length (joined (take i cs)) + at) e ≡ get_or (items_in (get_or cs i d)) at e
  get_in_chunk cs i at d e inside within =
      ap (λ l. get_or l (length (joined (take i cs)) + at) e) (joined-parts cs i d inside)
      ∙ get-mid (joined (take i cs)) (items_in (get_or cs i d)) (joined (drop (suc i) cs)) at _ refl e within

  -- an empty chunk that goes
  pub joined-without_empty : (cs : List (Chunk T)) (i : ℕ) (d : Chunk T) → i < length cs → items_in (get_or cs i d) ≡ [] →
      joined (remove cs i) ≡ joined cs
  joined-without_empty cs i d inside empty =
      joined-append (take i cs) (drop (suc i) cs)
      ∙ (ap (λ l. joined (take i cs) ++ (l ++ joined (drop (suc i) cs))) (sym empty) ∙ sym (joined-parts cs i d inside))
