-- Items whose bodies stand together.
use Rattle.std.proofs.Common.{◌≡◌, ℕ, suc, ◌+◌, ◌≤◌, ◌<◌, List, [], ◌∷◌, ◌++◌, length, take, drop, get_or, refl, sym, ap, ◌∙◌, append_assoc, append-nil, drop-cons, arith}
use Rattle.std.proofs.lemmas.List.{map-append, length-drop, take-append-le, drop-append-le, drop_at, drop_all, take_all}
use Rattle.std.proofs.lemmas.List.Elements.{All-head, All-tail}
use Rattle.mux_segment.specs.Packed.{packed_item, packed_items, AreWithin}
use Rattle.mux_segment.specs.Stream.{item_of}
use Rattle.mux_segment.specs.declared.item.Item.{Item}
use Rattle.mux_segment.specs.declared.packed.Head.{Head}

-- what stands there stays where more bodies come behind
item_stays : (bodies body : List ℕ) (h : Head) → h.from + h.size ≤ length bodies → packed_item (bodies ++ body) h ≡ packed_item bodies h
item_stays bodies body h within =
    ap (λ (xs : List ℕ). item_of h.side h.id (take h.size xs)) (drop-append-le h.from bodies body (omega (arith, within)))
    ∙ ap (item_of h.side h.id) (take-append-le h.size (drop h.from bodies) body (omega (arith, within, length-drop h.from bodies)))

items_stay : (bodies body : List ℕ) (heads : List Head) → AreWithin bodies heads → packed_items (bodies ++ body) heads ≡ packed_items bodies heads
items_stay bodies body [] within = refl
items_stay bodies body (h ∷ heads) within =
    let within_of : Head → Type 0 = λ (x : Head). x.from + x.size ≤ length bodies in
    ap (λ (x : Item). x ∷ packed_items (bodies ++ body) heads) (item_stays bodies body h (All-head within_of h heads within))
    ∙ ap (λ (xs : List Item). packed_item bodies h ∷ xs) (items_stay bodies body heads (All-tail within_of h heads within))

pub packed_pushed : (bodies body : List ℕ) (heads : List Head) (side id from : ℕ) → from ≡ length bodies → AreWithin bodies heads →
    packed_items (bodies ++ body) (heads ++ record { side = side; id = id; from = from; size = length body } ∷ []) ≡ packed_items bodies heads ++ item_of side id body ∷ []
packed_pushed bodies body heads side id from from-is within =
    let head : Head = record { side = side; id = id; from = from; size = length body } in
    let behind : drop from (bodies ++ body) ≡ body = drop_at bodies body from (sym from-is) in
    let last : packed_item (bodies ++ body) head ≡ item_of side id body =
    ap (λ (xs : List ℕ). item_of side id (take (length body) xs)) behind ∙ ap (item_of side id) (take_all (length body) body (omega arith)) in
    map-append (packed_item (bodies ++ body)) heads (head ∷ [])
    ∙ ap (λ (x : Item). packed_items (bodies ++ body) heads ++ x ∷ []) last
    ∙ ap (λ (xs : List Item). xs ++ item_of side id body ∷ []) (items_stay bodies body heads within)

-- ---- one after another copied

pub copied_more : (bodies : List ℕ) (heads : List Head) (items : List Item) (place : ℕ) (d x : Head) (item : Item) (all : List Item) → place < length heads →
    get_or heads place d ≡ x → item ≡ packed_item bodies x → items ++ packed_items bodies (drop place heads) ≡ all →
    (items ++ item ∷ []) ++ packed_items bodies (drop (place + 1) heads) ≡ all
copied_more bodies heads items place d x item all inside is same so_far =
    let next : suc place ≡ place + 1 = omega arith in
    let left : drop place heads ≡ x ∷ drop (place + 1) heads = drop-cons heads place d inside ∙ rw (is, next) refl in
    append_assoc items (item ∷ []) (packed_items bodies (drop (place + 1) heads))
    ∙ ap (λ (y : Item). items ++ y ∷ packed_items bodies (drop (place + 1) heads)) same
    ∙ ap (λ (xs : List Head). items ++ packed_items bodies xs) (sym left) ∙ so_far

pub copied_all : (bodies : List ℕ) (heads : List Head) (items : List Item) (place : ℕ) (all : List Item) → length heads ≤ place →
    items ++ packed_items bodies (drop place heads) ≡ all → items ≡ all
copied_all bodies heads items place all over so_far =
    sym (append-nil items) ∙ ap (λ (xs : List Head). items ++ packed_items bodies xs) (sym (drop_all place heads over)) ∙ so_far
