-- Walks past links in order of address.
use Rattle.std.proofs.Common.{◌≡◌, ℕ, zero, suc, ◌+◌, ◌-◌, ◌<◌, ◌≤◌, Bool, true, false, not, List, [], ◌∷◌, ◌++◌, length, take, drop, get_or, Option, Some, None, slice_get, refl, sym, ap, subst, ◌∙◌, inl, inr, arith}
use Rattle.std.specs.List.{AllByRecursion, prefix_len}
use Rattle.std.proofs.lemmas.Bool.{cases_Bool, cases_lt, false≢true}
use Rattle.std.proofs.lemmas.List.{drop-take, drop_all, drop_more, take_more, get_or-drop, get_or-take, length-drop, length-take}
use Rattle.std.proofs.lemmas.List.Sums.{prefix_len-drop_all, prefix_len-le-length, prefix_len_is, prefix_len_passes, prefix_len_stops}
use Rattle.std.proofs.lemmas.Option.{slice_get-get_or}
use Rattle.net_base.specs.Address.{same_address, address_below}
use Rattle.net_base.specs.declared.address.Addr.{Addr}
use Rattle.net_base.proofs.AddressOrder.{address_irreflexive, address_turned, never_both, same_address-is}
use Rattle.govern_rules.specs.SortedLinks.{IsInOrder, is_below, links_of}
use Rattle.govern_rules.specs.Walks.{IsRunFrom, HasCome, is_beyond, is_passed, is_before_at, is_below_at, has_address_at}
use Rattle.govern_rules.specs.declared.link.Link.{Link}
use Rattle.govern_rules.proofs.ByAddress.{at_place, in_order-drop, none_behind, own_behind, under_lower}

-- ---- what stands together from a place on

module _ {X : Type 0} where
  -- and from a later place on
  pub run-later : (items run : List X) (place passed : ℕ) → IsRunFrom place items run → passed ≤ length run → IsRunFrom (place + passed) items (drop passed run)
  run-later items run place passed front upto =
      let rest : List X = drop place items in
      let n : ℕ = length run - passed in
      let whole : length run ≡ passed + n = omega (arith, upto) in
      let len : length (drop passed run) ≡ n = length-drop passed run in
      ap (drop passed) (front ∙ ap (λ k. take k rest) whole)
      ∙ (drop-take passed n rest
      ∙ (ap (λ k. take k (drop passed rest)) (sym len)
      ∙ ap (take (length (drop passed run))) (later place passed items)))
    where
      one_more : (a b : ℕ) → suc a + b ≡ suc (a + b)
      one_more a b = omega arith

      later : (a b : ℕ) (xs : List X) → drop b (drop a xs) ≡ drop (a + b) xs
      later zero b xs = ap (λ n. drop n xs) (omega arith)
      later (suc a) b [] = drop_all b [] (omega arith) ∙ sym (drop_all (suc a + b) [] (omega arith))
      later (suc a) b (x ∷ xs) = later a b xs ∙ sym (ap (λ n. drop n (x ∷ xs)) (one_more a b))

  -- from the next place on stands what is behind the first
  pub run-next : (items run after : List X) (place : ℕ) → IsRunFrom place items run → 0 < length run → after ≡ drop 1 run → IsRunFrom (place + 1) items after
  run-next items run after place front some is = subst (IsRunFrom (place + 1) items) (sym is) (run-later items run place 1 front (omega (arith, some)))

  pub within : (items run : List X) (place : ℕ) → IsRunFrom place items run → length run ≤ length items - place
  within items run place front =
      omega (arith, ap length front, length-take (length run) (drop place items), length-drop place items)

  -- an item of it stands as much further among all
  pub run-item : (items run : List X) (place i : ℕ) (d : X) → IsRunFrom place items run → i < length run → get_or run i d ≡ get_or items (place + i) d
  run-item items run place i d front inside =
      ap (λ l. get_or l i d) front
      ∙ (get_or-take (length run) (drop place items) i d inside
      ∙ get_or-drop place items i d)

-- ---- past the links with an address below one

one_more : (n : ℕ) → 1 + n ≡ suc n
one_more n = omega arith

not_turned : (b : Bool) → not b ≡ true → b ≡ false
not_turned true h = absurd (false≢true h)
not_turned false h = refl

at_front : (P : Link → Type 0) (place : ℕ) (links : List Link) → place ≤ length links → AllByRecursion P (take place links) → (k : ℕ) (d : Link) → k < place →
    P (get_or links k d)
at_front P place links few all k d before =
    subst P (get_or-take place links k d before) (at_place P (take place links) all k d (omega (arith, before, length-take place links, few)))

below_beyond : (addr : Addr) (last : Option Addr) (l : Link) → is_beyond addr last ≡ true → is_passed last l ≡ true → is_below addr l ≡ true
below_beyond addr None l beyond passed = absurd (false≢true passed)
below_beyond addr (Some last) l beyond passed = under_lower l.addr last addr (not_turned (address_below last l.addr) passed) beyond

-- what was passed is below an address that is above the one that was come to last
passed_below : (addr : Addr) (links : List Link) (last : Option Addr) (place : ℕ) (run : List Link) → HasCome links last place run →
    is_beyond addr last ≡ true → (k : ℕ) (d : Link) → k < place → is_below addr (get_or links k d) ≡ true
passed_below addr links last place run come beyond k d before =
    below_beyond addr last (get_or links k d) beyond (at_front (λ l. is_passed last l ≡ true) place links come.few come.passed k d before)

passed_from : (addr : Addr) (links : List Link) (last : Option Addr) (place : ℕ) (run : List Link) (d : Link) → HasCome links last place run →
    is_beyond addr last ≡ true → is_below_at addr (slice_get run (length run - 1)) ≡ false →
    prefix_len (is_below addr) links ≡ place + prefix_len (is_below addr) run
passed_from addr links last place run d come beyond ends =
    let room = within links run place come.front in
    prefix_len_is (is_below addr) links (place + more) d (omega (arith, upto, room, come.few)) passes stops
  where
    more : ℕ
    more = prefix_len (is_below addr) run

    upto : more ≤ length run
    upto = prefix_len-le-length (is_below addr) run

    passes : (k : ℕ) → k < place + more → is_below addr (get_or links k d) ≡ true
    passes k before = elim (cases_lt k place) [
      | inl early ↦ passed_below addr links last place run come beyond k d early
      | inr late ↦
          let i : ℕ = k - place in
          let at : k ≡ place + i = omega (arith, late) in
          ap (λ n. is_below addr (get_or links n d)) at
          ∙ (ap (is_below addr) (sym (run-item links run place i d come.front (omega (arith, before, late, upto))))
          ∙ prefix_len_passes (is_below addr) run i d (omega (arith, before, late)))
    ]

    stops : place + more < length links → is_below addr (get_or links (place + more) d) ≡ false
    stops inside = elim (cases_lt more (length run)) [
      | inl few ↦ ap (is_below addr) (sym (run-item links run place more d come.front few)) ∙ prefix_len_stops (is_below addr) run d few
      | inr all ↦
          let some : 0 < length run = come.some (omega (arith, inside)) in
          let under = prefix_len_passes (is_below addr) run (length run - 1) d (omega (arith, some, all)) in
          let last_is = slice_get-get_or run (length run - 1) d (omega (arith, some)) in
          absurd (false≢true (sym ends ∙ (ap (is_below_at addr) last_is ∙ under)))
    ]

-- a walk goes on to an address
pub go_on : (addr : Addr) (links : List Link) (last : Option Addr) (place : ℕ) (run : List Link) → HasCome links last place run →
    is_beyond addr last ≡ true → is_below_at addr (slice_get run (length run - 1)) ≡ false →
    place + prefix_len (is_below addr) run ≡ prefix_len (is_below addr) links
go_on addr [] last place run come beyond ends =
    omega (arith, come.few, within [] run place come.front, prefix_len-le-length (is_below addr) run)
go_on addr (l ∷ links) last place run come beyond ends = sym (passed_from addr (l ∷ links) last place run l come beyond ends)

-- it has come to an address already, where the next link has it
pub come_already : (addr : Addr) (links : List Link) (last : Option Addr) (place : ℕ) (run : List Link) → HasCome links last place run →
    is_beyond addr last ≡ true → has_address_at addr (slice_get run 0) ≡ true → place ≡ prefix_len (is_below addr) links
come_already addr links last place [] come beyond same = absurd (false≢true same)
come_already addr links last place (f ∷ run) come beyond same =
    sym (prefix_len_is (is_below addr) links place f come.few (λ k before. passed_below addr links last place (f ∷ run) come beyond k f before) stops)
  where
    same_place : place + 0 ≡ place
    same_place = omega arith

    here : get_or links place f ≡ f
    here = ap (λ n. get_or links n f) (sym same_place) ∙ sym (run-item links (f ∷ run) place 0 f come.front (omega arith))

    stops : place < length links → is_below addr (get_or links place f) ≡ false
    stops inside = ap (is_below addr) here ∙ (ap (λ a. address_below a addr) (same_address-is f.addr addr same) ∙ address_irreflexive addr)

-- ---- what is passed then

-- those below the address
pub come_before : (addr : Addr) (links run : List Link) → IsInOrder links → IsRunFrom (prefix_len (is_below addr) links) links run →
    (prefix_len (is_below addr) links < length links → 0 < length run) → HasCome links (Some addr) (prefix_len (is_below addr) links) run
come_before addr links run ordered front some = record {
  ordered = ordered;
  few = prefix_len-le-length (is_below addr) links;
  passed = below_passed links;
  front = front;
  some = some;
}
  where
    below_passed : (ls : List Link) → AllByRecursion (λ l. is_passed (Some addr) l ≡ true) (take (prefix_len (is_below addr) ls) ls)
    below_passed [] = tt
    below_passed (l ∷ ls) = elim (cases_Bool (is_below addr l)) [
      | inl under ↦ rw (under, one_more (prefix_len (is_below addr) ls)) (ap not (never_both l.addr addr under), below_passed ls)
      | inr over ↦ rw over tt
    ]

-- and the first that has it
pub come_behind : (addr : Addr) (links run next : List Link) → IsInOrder links → IsRunFrom (prefix_len (is_below addr) links) links run →
    has_address_at addr (slice_get run 0) ≡ true → IsRunFrom (prefix_len (is_below addr) links + 1) links next →
    (prefix_len (is_below addr) links + 1 < length links → 0 < length next) → HasCome links (Some addr) (prefix_len (is_below addr) links + 1) next
come_behind addr links [] next ordered front same after some = absurd (false≢true same)
come_behind addr links (f ∷ run) next ordered front same after some = record {
  ordered = ordered;
  few = omega (arith, inside);
  passed = subst (AllByRecursion (λ l. is_passed (Some addr) l ≡ true)) (sym (take_more links place f inside))
      (all_and_one (λ l. is_passed (Some addr) l ≡ true) (take place links) (get_or links place f) (come_before addr links (f ∷ run) ordered front (λ h. omega arith)).passed it);
  front = after;
  some = some;
}
  where
    place : ℕ
    place = prefix_len (is_below addr) links

    inside : place < length links
    inside = omega (arith, within links (f ∷ run) place front, prefix_len-le-length (is_below addr) links)

    same_place : place + 0 ≡ place
    same_place = omega arith

    here : get_or links place f ≡ f
    here = ap (λ n. get_or links n f) (sym same_place) ∙ sym (run-item links (f ∷ run) place 0 f front (omega arith))

    it : is_passed (Some addr) (get_or links place f) ≡ true
    it = ap (λ l. not (address_below addr l.addr)) here ∙ (ap (λ a. not (address_below addr a)) (same_address-is f.addr addr same) ∙ ap not (address_irreflexive addr))

    all_and_one : (P : Link → Type 0) (ls : List Link) (l : Link) → AllByRecursion P ls → P l → AllByRecursion P (ls ++ l ∷ [])
    all_and_one P [] l all one = (one, tt)
    all_and_one P (k ∷ ls) l all one = (all.0, all_and_one P ls l all.1 one)

-- ---- where the first that is not below an address has another one, none has it

pub none_there : (addr : Addr) (links run : List Link) → IsInOrder links → IsRunFrom (prefix_len (is_below addr) links) links run →
    (prefix_len (is_below addr) links < length links → 0 < length run) → has_address_at addr (slice_get run 0) ≡ false → links_of addr links ≡ []
none_there addr [] run ordered front some other = refl
none_there addr (l ∷ links) run ordered front some other = elim (cases_lt place (length all)) [
  | inr past ↦ sym (own_behind addr all) ∙ ap (links_of addr) (drop_all place all past)
  | inl inside ↦
      let first : Link = get_or all place l in
      let from : drop place all ≡ first ∷ drop (place + 1) all = drop_more all place l inside in
      let same_place : place + 0 ≡ place = omega arith in
      let first_is : slice_get run 0 ≡ Some first =
      slice_get-get_or run 0 l (some inside) ∙ ap Some (run-item all run place 0 l front (some inside) ∙ ap (λ n. get_or all n l) same_place) in
      let elsewhere : same_address first.addr addr ≡ false = sym (ap (has_address_at addr) first_is) ∙ other in
      sym (own_behind addr all)
      ∙ (ap (links_of addr) from
      ∙ none_behind addr first (drop (place + 1) all) (subst IsInOrder from (in_order-drop place all ordered))
      (prefix_len_stops (is_below addr) all l inside) elsewhere)
]
  where
    all : List Link
    all = l ∷ links

    place : ℕ
    place = prefix_len (is_below addr) all

-- where the next link is behind an address that is above the last one, no link has it

pub passed_by_all : (addr : Addr) (links : List Link) (last : Option Addr) (place : ℕ) (run : List Link) → HasCome links last place run →
    is_beyond addr last ≡ true → is_before_at addr (slice_get run 0) ≡ true → links_of addr links ≡ []
passed_by_all addr [] last place run come beyond before = refl
passed_by_all addr (l ∷ links) last place run come beyond before =
    let at : prefix_len (is_below addr) all ≡ place =
    prefix_len_is (is_below addr) all place l come.few (λ k early. passed_below addr all last place run come beyond k l early) stops in
    none_there addr all run come.ordered (subst (λ n. IsRunFrom n all run) (sym at) come.front)
    (subst (λ n. n < length all → 0 < length run) (sym at) come.some) (elsewhere (slice_get run 0) before)
  where
    all : List Link
    all = l ∷ links

    stops : place < length all → is_below addr (get_or all place l) ≡ false
    stops inside =
        let some : 0 < length run = come.some inside in
        let same_place : place + 0 ≡ place = omega arith in
        let first_is : slice_get run 0 ≡ Some (get_or all place l) =
        slice_get-get_or run 0 l some ∙ ap Some (run-item all run place 0 l come.front some ∙ ap (λ n. get_or all n l) same_place) in
        never_both addr (get_or all place l).addr (sym (ap (is_before_at addr) first_is) ∙ before)

    elsewhere : (o : Option Link) → is_before_at addr o ≡ true → has_address_at addr o ≡ false
    elsewhere None before = refl
    elsewhere (Some f) before = address_turned f.addr addr before

-- ---- how many are passed of some

pub passed_all : (addr : Addr) (run : List Link) (i n : ℕ) → length run ≤ i → n + prefix_len (is_below addr) (drop i run) ≡ prefix_len (is_below addr) run →
    n ≡ prefix_len (is_below addr) run
passed_all addr run i n past is = omega (arith, prefix_len-drop_all (is_below addr) run i past, is)
