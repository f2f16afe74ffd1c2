-- Links in order of address and id, and what they say of an address.
use Rattle.std.proofs.Common.{◌≡◌, ℕ, suc, zero, ◌<◌, ◌≤◌, ◌+◌, Bool, true, false, ◌||◌, List, [], ◌∷◌, length, drop, get_or, refl, sym, ap, ◌∙◌, inl, inr, arith, rules}
use Rattle.std.specs.List.{AllByRecursion, prefix_len, list_any}
use Rattle.std.specs.List.Sorted.{IsPartitionedBy, IsSortedBy}
use Rattle.std.specs.Cmp.{IsTotalOrder, IsStrictWeakOrder}
use Rattle.std.specs.declared.cmp.Ordering.{Ordering}
use Rattle.std.specs.Ordering.{is_lt, then_cmp, on}
use Rattle.std.proofs.lemmas.Cmp.{then_total, on_total}
use Rattle.std.proofs.lemmas.Bool.{cases_Bool, false≢true, false_from_ne_true}
use Rattle.std.proofs.lemmas.List.{drop_more}
use Rattle.std.proofs.lemmas.List.Sorted.{ranks_by, sorted_far}
use Rattle.net_base.specs.Address.{same_address, address_below}
use Rattle.net_base.specs.contracts.address.AddrOrd.TheImpl.{ghosts}
use Rattle.net_base.specs.contracts.address.AddrOrd.TheImpl.Laws.{total-law}
use Rattle.net_base.specs.contracts.connection.CidOrd.TheImpl.{ghosts as ids}
use Rattle.net_base.specs.contracts.connection.CidOrd.TheImpl.Laws.{total-law as total-ids}
use Rattle.net_base.specs.declared.address.Addr.{Addr}
use Rattle.net_base.proofs.AddressOrder.{address_irreflexive, address_transitive, address_connected, same_address-is, other_when_below}
use Rattle.govern_rules.specs.Links.{some_link}
use Rattle.govern_rules.specs.Marks.{has_mark}
use Rattle.govern_rules.specs.SortedLinks.{AreNotBelow, IsInOrder, link_below, is_below, is_above_next, links_of}
use Rattle.govern_rules.specs.declared.link.Link.{Link}
use Rattle.govern_rules.specs.declared.mark.Mark.{Mark}

-- ---- the order of links

abbrev pub link_cmp : Link → Link → Ordering
link_cmp = then_cmp (on (λ l. l.addr) ghosts.cmp) (on (λ l. l.cid) ids.cmp)

link_total : IsTotalOrder link_cmp
link_total = then_total (on_total (λ l. l.addr) total-law) (on_total (λ l. l.cid) total-ids)

below_is : (l k : Link) → is_lt (link_cmp l k) ≡ link_below l k
below_is l k = search rules

link_order : IsStrictWeakOrder (λ l k. is_lt (link_cmp l k))
link_order = ranks_by link_total (λ l. l)

link_irreflexive : (l : Link) → link_below l l ≡ false
link_irreflexive l = false_from_ne_true (link_below l l)
    (λ h. let lt : is_lt (link_cmp l l) ≡ true = below_is l l ∙ h in false≢true (sym (link_order.one_way l l lt) ∙ lt))

-- what is not below one that is not below another
chain : (j k l : Link) → link_below j k ≡ false → link_below k l ≡ false → link_below j l ≡ false
chain j k l h g = sym (below_is j l) ∙ link_order.chain j k l (below_is j k ∙ h) (below_is k l ∙ g)

-- ---- by places

all_from_places : (P : Link → Type 0) (links : List Link) → ((i : ℕ) (d : Link) → i < length links → P (get_or links i d)) → AllByRecursion P links
all_from_places P [] h = tt
all_from_places P (l ∷ links) h = (h 0 l (omega arith), all_from_places P links (λ i d inside. h (suc i) d (omega arith)))

pub at_place : (P : Link → Type 0) (links : List Link) → AllByRecursion P links → (i : ℕ) (d : Link) → i < length links → P (get_or links i d)
at_place P [] h i d inside = absurd (omega (arith, inside))
at_place P (l ∷ links) h zero d inside = h.0
at_place P (l ∷ links) h (suc i) d inside = at_place P links h.1 i d (omega arith)

in_order_from_places : (links : List Link) → ((i j : ℕ) (d : Link) → i ≤ j → j < length links → link_below (get_or links j d) (get_or links i d) ≡ false) →
    IsInOrder links
in_order_from_places [] h = tt
in_order_from_places (l ∷ links) h = (
  all_from_places (λ k. link_below k l ≡ false) links (λ i d inside. h 0 (suc i) d (omega arith) (omega arith)),
  in_order_from_places links (λ i j d upto inside. h (suc i) (suc j) d (omega arith) (omega arith)),
)

-- what a sort by address and id leaves
pub in_order_from_sort : (links : List Link) → IsSortedBy (λ l k. is_lt (link_cmp l k)) links → IsInOrder links
in_order_from_sort links up = in_order_from_places links
    (λ i j d upto inside. sym (below_is (get_or links j d) (get_or links i d))
    ∙ sorted_far (λ l k. is_lt (link_cmp l k)) link_order links up i j d upto inside)

pub in_order-drop : (n : ℕ) (links : List Link) → IsInOrder links → IsInOrder (drop n links)
in_order-drop zero links h = h
in_order-drop (suc n) [] h = tt
in_order-drop (suc n) (l ∷ links) h = in_order-drop n links h.1

none_below : (l k : Link) (links : List Link) → link_below k l ≡ false → AllByRecursion (λ j. link_below j k ≡ false) links →
    AllByRecursion (λ j. link_below j l ≡ false) links
none_below l k [] upto h = tt
none_below l k (j ∷ links) upto h = (chain j k l h.0 upto, none_below l k links upto h.1)

-- one in front
pub in_order-front : (l : Link) (links : List Link) → is_above_next l links ≡ false → IsInOrder links → IsInOrder (l ∷ links)
in_order-front l [] upto h = (tt, tt)
in_order-front l (k ∷ links) upto h = ((upto, none_below l k links upto h.0), h)

-- ---- the order of their addresses

-- no address is below one before it
abbrev IsByAddress : List Link → Type 0
IsByAddress [] = Unit {0}
IsByAddress (l ∷ links) = AllByRecursion (λ k. address_below k.addr l.addr ≡ false) links × IsByAddress links

none_lower : (l : Link) (links : List Link) → AllByRecursion (λ k. link_below k l ≡ false) links →
    AllByRecursion (λ k. address_below k.addr l.addr ≡ false) links
none_lower l [] h = tt
none_lower l (k ∷ links) h = (grind (arith, h.0), none_lower l links h.1)

by_address : (links : List Link) → IsInOrder links → IsByAddress links
by_address [] h = tt
by_address (l ∷ links) h = (none_lower l links h.0, by_address links h.1)

in_order : (links : List Link) → IsByAddress links → (i j : ℕ) (d : Link) → i ≤ j → j < length links →
    address_below (get_or links j d).addr (get_or links i d).addr ≡ false
in_order [] h i j d upto inside = absurd (omega (arith, inside))
in_order (l ∷ links) h zero zero d upto inside = address_irreflexive l.addr
in_order (l ∷ links) h zero (suc j) d upto inside = at_place (λ k. address_below k.addr l.addr ≡ false) links h.0 j d (omega arith)
in_order (l ∷ links) h (suc i) zero d upto inside = absurd (omega (arith, upto))
in_order (l ∷ links) h (suc i) (suc j) d upto inside = in_order links h.1 i j d (omega arith) (omega arith)

-- ---- what is not above an address below another

pub under_lower : (a b addr : Addr) → address_below b a ≡ false → address_below b addr ≡ true → address_below a addr ≡ true
under_lower a b addr upto under = elim (cases_Bool (address_below a addr)) [
  | inl h ↦ h
  | inr over ↦ elim (cases_Bool (same_address a addr)) [
    | inl same ↦ absurd (false≢true (sym upto ∙ (ap (address_below b) (same_address-is a addr same) ∙ under)))
    | inr other ↦ absurd (false≢true (sym upto ∙ address_transitive b addr a under (address_connected a addr other over)))
  ]
]

pub partitioned : (addr : Addr) (links : List Link) → IsInOrder links → IsPartitionedBy (is_below addr) links
partitioned addr links h i j d upto inside under =
    under_lower (get_or links i d).addr (get_or links j d).addr addr (in_order links (by_address links h) i j d upto inside) under

-- ---- the links of an address

one_more : (n : ℕ) → 1 + n ≡ suc n
one_more n = omega arith

-- links that are above have another address
none_above : (addr : Addr) (l : Link) (links : List Link) → address_below addr l.addr ≡ true →
    AllByRecursion (λ k. address_below k.addr l.addr ≡ false) links → links_of addr links ≡ []
none_above addr l [] above h = refl
none_above addr l (k ∷ links) above h = rw (other k.addr h.0) (none_above addr l links above h.1)
  where
    other : (a : Addr) → address_below a l.addr ≡ false → same_address a addr ≡ false
    other a upto = false_from_ne_true (same_address a addr)
        (λ same. false≢true (sym upto ∙ (ap (λ x. address_below x l.addr) (same_address-is a addr same) ∙ above)))

over_from_first : (addr : Addr) (l : Link) (links : List Link) → address_below l.addr addr ≡ false → AllByRecursion (λ k. address_below k.addr l.addr ≡ false) links →
    AllByRecursion (λ k. address_below k.addr addr ≡ false) links
over_from_first addr l [] over h = tt
over_from_first addr l (k ∷ links) over h = (
  false_from_ne_true (address_below k.addr addr) (λ under. false≢true (sym over ∙ under_lower l.addr k.addr addr h.0 under)),
  over_from_first addr l links over h.1,
)

not_below_by_address : (addr : Addr) (links : List Link) → IsByAddress links → AreNotBelow addr (drop (prefix_len (is_below addr) links) links)
not_below_by_address addr [] h = tt
not_below_by_address addr (l ∷ links) h = elim (cases_Bool (address_below l.addr addr)) [
  | inl under ↦ rw (under, one_more (prefix_len (is_below addr) links)) (not_below_by_address addr links h.1)
  | inr over ↦ rw over (over, over_from_first addr l links over h.0)
]

-- from the first that is not below it on, none is
pub not_below : (addr : Addr) (links : List Link) → IsInOrder links → AreNotBelow addr (drop (prefix_len (is_below addr) links) links)
not_below addr links h = not_below_by_address addr links (by_address links h)

-- and behind a link none is below that
pub not_below-behind : (l : Link) (links : List Link) → IsInOrder (l ∷ links) → AreNotBelow l.addr links
not_below-behind l links h = (by_address (l ∷ links) h).0

-- they stand from there on
pub own_behind : (addr : Addr) (links : List Link) → links_of addr (drop (prefix_len (is_below addr) links) links) ≡ links_of addr links
own_behind addr [] = refl
own_behind addr (l ∷ links) = elim (cases_Bool (address_below l.addr addr)) [
  | inl under ↦ rw (under, one_more (prefix_len (is_below addr) links), other_when_below l.addr addr under) (own_behind addr links)
  | inr over ↦ rw over refl
]

-- up to the first of another address
pub none_behind : (addr : Addr) (l : Link) (links : List Link) → IsInOrder (l ∷ links) → address_below l.addr addr ≡ false → same_address l.addr addr ≡ false →
    links_of addr (l ∷ links) ≡ []
none_behind addr l links h over other =
    rw other (none_above addr l links (address_connected l.addr addr other over) (by_address (l ∷ links) h).0)

-- ---- the link at a place

pub first_at : (links : List Link) (place : ℕ) (l : Link) → place < length links → l ≡ get_or links place l → drop place links ≡ l ∷ drop (place + 1) links
first_at links place l inside is = drop_more links place l inside ∙ ap (λ k. k ∷ drop (place + 1) links) (sym is)

pub marked_first : (addr : Addr) (mark : Mark) (l : Link) (links : List Link) → same_address l.addr addr ≡ true → has_mark mark l ≡ true →
    list_any (has_mark mark) (links_of addr (l ∷ links)) ≡ true
marked_first addr mark l links same marked = rw (same, marked) refl

pub unmarked_first : (addr : Addr) (mark : Mark) (l : Link) (links : List Link) → same_address l.addr addr ≡ true → has_mark mark l ≡ false →
    list_any (has_mark mark) (links_of addr (l ∷ links)) ≡ list_any (has_mark mark) (links_of addr links)
unmarked_first addr mark l links same unmarked = rw (same, unmarked) refl

-- what they say is what all links say of the address
pub own_say : (test : Link → Bool) (addr : Addr) (links : List Link) → list_any test (links_of addr links) ≡ some_link test links addr
own_say test addr [] = refl
own_say test addr (l ∷ links) = elim (cases_Bool (same_address l.addr addr)) [
  | inl same ↦ rw same (ap (λ b. test l || b) (own_say test addr links))
  | inr other ↦ rw other (own_say test addr links)
]
