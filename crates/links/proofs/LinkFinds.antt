-- The last link of an address stands before the first above it.
use Rattle.std.proofs.Common.{◌≡◌, ℕ, zero, suc, ◌+◌, ◌<◌, length, Bool, true, cond, List, [], ◌∷◌, map, get_or, refl, sym, ap, subst, ◌∙◌, inl, inr, arith}
use Rattle.std.specs.List.{prefix_len}
use Rattle.std.specs.Option.{option_map}
use Rattle.std.specs.List.Sorted.{IsPartitionedBy}
use Rattle.std.proofs.lemmas.Bool.{cases_order}
use Rattle.std.proofs.lemmas.List.{length-map, get_or-map}
use Rattle.std.proofs.lemmas.Option.{slice_get-map}
use Rattle.conn_table.specs.Index.{IsRising as AreRising, placed_below, same_placed, up_to, before, found_at, last_at}
use Rattle.conn_table.specs.declared.placed.Placed.{Placed}
use Rattle.conn_table.proofs.LastAt.{up_to-earlier, last_at-found}
use Rattle.conn_table.proofs.PlacedPlaces.{rising_pairs}
use Rattle.govern_rules.specs.declared.link.Link.{Link}
use Rattle.net_base.specs.declared.address.Addr.{Addr}
use Rattle.timer_queue.specs.Order.{IsRising}
use Rattle.timer_queue.proofs.Rising.{IsRising-map}
use Rattle.links.specs.Link.{place_of}
use Rattle.links.specs.Rows.{AreInOrder, link_before}
use Rattle.links.proofs.LinkEdits.{placed_order}

rise : (ps : List Placed) → IsRising placed_below (λ p. p) ps → AreRising ps
rise [] h = tt
rise (p ∷ ps) h = (h.0, rise ps h.1)

-- the places of links in order rise
pub places-rise : (links : List Link) → AreInOrder links → AreRising (map place_of links)
places-rise links ordered = rise (map place_of links) (IsRising-map placed_below same_placed placed_order place_of links ordered)

abbrev pub is_up_to : Addr → Link → Bool
is_up_to addr l = up_to addr (place_of l)

earlier_below : (links : List Link) → AreInOrder links → (i j : ℕ) (d : Link) → i < j → j < length links →
    placed_below (place_of (get_or links i d)) (place_of (get_or links j d)) ≡ true
earlier_below links ordered i j d lt inside =
    let ps : List Placed = map place_of links in
    let first : get_or ps i (place_of d) ≡ place_of (get_or links i d) = get_or-map place_of links i d (place_of d) (omega (arith, lt, inside)) in
    let later : get_or ps j (place_of d) ≡ place_of (get_or links j d) = get_or-map place_of links j d (place_of d) inside in
    ap (λ p. placed_below p (place_of (get_or links j d))) (sym first)
    ∙ (ap (placed_below (get_or ps i (place_of d))) (sym later)
    ∙ rising_pairs ps (places-rise links ordered) i j (place_of d) lt (omega (arith, inside, length-map links place_of)))

pub parted : (addr : Addr) (links : List Link) → AreInOrder links → IsPartitionedBy (is_up_to addr) links
parted addr links ordered i j d upto inside holds = elim (cases_order i j) [
  | inl e ↦ subst (λ n. is_up_to addr (get_or links n d) ≡ true) (sym e) holds
  | inr apart ↦ elim apart [
    | inl lt ↦ up_to-earlier addr _ _ (earlier_below links ordered i j d lt inside) holds
    | inr gt ↦ absurd (omega (arith, gt, upto))
  ]
]

as_many : (addr : Addr) (links : List Link) → prefix_len (is_up_to addr) links ≡ prefix_len (up_to addr) (map place_of links)
as_many addr [] = refl
as_many addr (l ∷ links) = ap (λ n. cond (up_to addr (place_of l)) (1 + n) 0) (as_many addr links)

place_before : (n : ℕ) (links : List Link) → option_map place_of (link_before n links) ≡ before n (map place_of links)
place_before zero links = refl
place_before (suc n) links = sym (slice_get-map place_of links n)

pub last-found : (addr : Addr) (links : List Link) (n : ℕ) → AreInOrder links → n ≡ prefix_len (is_up_to addr) links →
    found_at addr (option_map place_of (link_before n links)) ≡ last_at addr (map place_of links)
last-found addr links n ordered is =
    ap (found_at addr) (place_before n links)
    ∙ (ap (λ m. found_at addr (before m (map place_of links))) (is ∙ as_many addr links)
    ∙ sym (last_at-found addr (map place_of links) (places-rise links ordered)))
