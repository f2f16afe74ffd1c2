-- Words behind others, each with its space.
use Rattle.std.proofs.Common.{◌≡◌, ℕ, ◌+◌, ◌<◌, List, [], ◌∷◌, ◌++◌, length, map, take, get_or, decimal, refl, sym, ap, ◌∙◌}
use Rattle.std.specs.Prelude.{codes}
use Rattle.std.specs.List.{flat_map, join_with_byte}
use Rattle.std.proofs.lemmas.List.{append_assoc, append-nil, flat_map_more, take_more}
use Rattle.std.proofs.lemmas.List.Folds.{flat_map-map}
use Rattle.std.proofs.lemmas.Grind.{flat_map-append}
use Rattle.net_base.specs.declared.address.Addr.{Addr}
use Rattle.trace_text.specs.declared.head_text.SetText.{SetText}
use Rattle.trace_text.specs.Addresses.{printed_address}
use Rattle.trace_text.specs.EventTexts.{spaced}
use Rattle.trace_text.specs.HeadTexts.{ended, first_lines, set_text_line}

-- one item more of a text that is made item by item
pub items_more : {X : Type 0} (text : X → List ℕ) (xs : List X) (i : ℕ) (d : X) → i < length xs → flat_map text (take i xs) ++ text (get_or xs i d) ≡ flat_map text (take (i + 1) xs)
items_more text xs i d h = flat_map_more text [] (take i xs) (get_or xs i d) ∙ ap (flat_map text) (sym (take_more xs i d h))

pub spaced-map : {X : Type 0} (text : X → List ℕ) (xs : List X) → flat_map (λ x. 32 ∷ text x) xs ≡ spaced (map text xs)
spaced-map text [] = refl
spaced-map text (x ∷ xs) = ap (λ (bytes : List ℕ). 32 ∷ (text x ++ bytes)) (spaced-map text xs)

pub spaced-flat_map : {X : Type 0} (words : X → List (List ℕ)) (xs : List X) → flat_map (λ x. spaced (words x)) xs ≡ spaced (flat_map words xs)
spaced-flat_map words [] = refl
spaced-flat_map words (x ∷ xs) = ap (λ (bytes : List ℕ). spaced (words x) ++ bytes) (spaced-flat_map words xs) ∙ sym (flat_map-append (λ word. 32 ∷ word) (words x) (flat_map words xs))

-- words that are joined by spaces
pub join-spaced : (word : List ℕ) (words : List (List ℕ)) → join_with_byte 32 (word ∷ words) ≡ word ++ spaced words
join-spaced word [] = sym (append-nil word)
join-spaced word (next ∷ words) = ap (λ (bytes : List ℕ). word ++ 32 ∷ bytes) (join-spaced next words)

-- ---- a head

-- two words and a line feed
two_words : (name word rest : List ℕ) → ended (join_with_byte 32 (name ∷ word ∷ [])) ++ rest ≡ name ++ 32 ∷ (word ++ 10 ∷ rest)
two_words name word rest =
    append_assoc (name ++ 32 ∷ word) (10 ∷ []) rest ∙ append_assoc name (32 ∷ word) (10 ∷ rest)

pub head_text-is : (version : ℕ) (own : Addr) (texts : List SetText) →
    codes "trace" ++ 32 ∷ (decimal version ++ 10 ∷ (codes "own" ++ 32 ∷ (printed_address own ++ 10 ∷ flat_map (λ text. ended (set_text_line text)) texts)))
    ≡ flat_map ended (first_lines version own ++ map set_text_line texts)
head_text-is version own texts =
    let sets : flat_map (λ text. ended (set_text_line text)) texts ≡ flat_map ended (map set_text_line texts) = sym (flat_map-map ended set_text_line texts) in
    ap (λ (rest : List ℕ). codes "trace" ++ 32 ∷ (decimal version ++ 10 ∷ (codes "own" ++ 32 ∷ (printed_address own ++ 10 ∷ rest)))) sets
    ∙ ap (λ (rest : List ℕ). codes "trace" ++ 32 ∷ (decimal version ++ 10 ∷ rest)) (sym (two_words (codes "own") (printed_address own) (flat_map ended (map set_text_line texts))))
    ∙ sym (two_words (codes "trace") (decimal version) (ended (join_with_byte 32 (codes "own" ∷ printed_address own ∷ [])) ++ flat_map ended (map set_text_line texts)))
