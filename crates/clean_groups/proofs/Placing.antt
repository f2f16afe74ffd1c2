-- The members of groups, and the places that are noted for them.
use Rattle.std.proofs.Common.{◌≡◌, ℕ, suc, ◌<◌, ◌≤◌, ◌+◌, Bool, true, false, ◌||◌, cond, List, [], ◌∷◌, ◌++◌, length, drop, get_or, Option, Some, None, is_some, refl, sym, ap, ◌∙◌, inl, inr, arith, append_assoc, add-one, add-zero, drop-cons}
use Rattle.std.proofs.Math.ListN.{drop_of_length-le}
use Rattle.std.proofs.lemmas.Bool.{cases_Bool, false≢true}
use Rattle.std.proofs.lemmas.List.{append-nil}
use Rattle.net_base.specs.Address.{same_address}
use Rattle.net_base.specs.declared.address.Addr.{Addr}
use Rattle.net_base.specs.declared.event.Group.{Group}
use Rattle.clean_groups.specs.Cleaned.{is_listed, first_places, cleaned_after, cleaned, members_of}
use Rattle.clean_groups.specs.Places.{placed_at, placed_from, place_of, addresses_in}

-- ---- look-ups

pub place_of-listed : (addr : Addr) (entries : List (Addr × ℕ)) → is_some (place_of addr entries) ≡ is_listed addr (addresses_in entries)
place_of-listed addr [] = refl
place_of-listed addr (e ∷ entries) = elim (cases_Bool (same_address addr e.0)) [
  | inl same ↦ rw same refl
  | inr other ↦ rw other (place_of-listed addr entries)
]

no_place : (o : Option ℕ) → is_some o ≡ false → o ≡ None
no_place None h = refl
no_place (Some n) h = absurd (false≢true (sym h))

pub place_of-new : (own addr : Addr) (entries : List (Addr × ℕ)) → is_listed addr (own ∷ addresses_in entries) ≡ false → place_of addr entries ≡ None
place_of-new own addr entries h =
    no_place (place_of addr entries) (place_of-listed addr entries ∙ later (same_address addr own) (is_listed addr (addresses_in entries)) h)
  where
    later : (b c : Bool) → (b || c) ≡ false → c ≡ false
    later true c h = absurd (false≢true (sym h))
    later false c h = h

-- ---- one member more

addresses_in-push : (entries : List (Addr × ℕ)) (addr : Addr) (place : ℕ) →
    addresses_in (entries ++ (addr, place) ∷ []) ≡ addresses_in entries ++ addr ∷ []
addresses_in-push [] addr place = refl
addresses_in-push (e ∷ entries) addr place = ap (λ l. e.0 ∷ l) (addresses_in-push entries addr place)

placed_at-push : (place : ℕ) (members : List Addr) (addr : Addr) →
    placed_at place (members ++ addr ∷ []) ≡ placed_at place members ++ (addr, place) ∷ []
placed_at-push place [] addr = refl
placed_at-push place (m ∷ members) addr = ap (λ l. (m, place) ∷ l) (placed_at-push place members addr)

-- how far a run over members has come
pub record HasKept (own : Addr) (place : ℕ) (before : List (Addr × ℕ)) (members kept : List Addr) (entries : List (Addr × ℕ)) (i : ℕ) : Type 0 where
  pub so_far : first_places (own ∷ addresses_in before) members ≡ kept ++ first_places (own ∷ addresses_in entries) (drop i members)
  pub noted : entries ≡ before ++ placed_at place kept

pub HasKept-none : (own : Addr) (place : ℕ) (before : List (Addr × ℕ)) (members : List Addr) → HasKept own place before members [] before 0
HasKept-none own place before members = record { so_far = refl; noted = sym (append-nil before) }

turn : (own addr : Addr) (place : ℕ) (members kept : List Addr) (entries : List (Addr × ℕ)) →
    let known : Bool = is_listed addr (own ∷ addresses_in entries) in
    kept ++ first_places (own ∷ addresses_in entries) (addr ∷ members)
    ≡ cond known kept (kept ++ addr ∷ []) ++ first_places (own ∷ addresses_in (cond known entries (entries ++ (addr, place) ∷ []))) members
unfolding first_places
turn own addr place members kept entries = elim (cases_Bool (is_listed addr (own ∷ addresses_in entries))) [
  | inl known ↦ rw known refl
  | inr new ↦ rw new (sym (append_assoc kept (addr ∷ []) (first_places (own ∷ (addresses_in entries ++ addr ∷ [])) members))
      ∙ ap (λ l. (kept ++ addr ∷ []) ++ first_places (own ∷ l) members) (sym (addresses_in-push entries addr place)))
]

turn_noted : (b : Bool) (addr : Addr) (place : ℕ) (before : List (Addr × ℕ)) (kept : List Addr) (entries : List (Addr × ℕ)) →
    entries ≡ before ++ placed_at place kept →
    cond b entries (entries ++ (addr, place) ∷ []) ≡ before ++ placed_at place (cond b kept (kept ++ addr ∷ []))
turn_noted true addr place before kept entries h = h
turn_noted false addr place before kept entries h =
    ap (λ l. l ++ (addr, place) ∷ []) h
    ∙ (append_assoc before (placed_at place kept) ((addr, place) ∷ []) ∙ ap (λ l. before ++ l) (sym (placed_at-push place kept addr)))

pub HasKept-more : (own : Addr) (place : ℕ) (before : List (Addr × ℕ)) (members kept next_kept : List Addr) (entries next : List (Addr × ℕ)) (i : ℕ) (d : Addr) →
    HasKept own place before members kept entries i → i < length members →
    next_kept ≡ cond (is_listed (get_or members i d) (own ∷ addresses_in entries)) kept (kept ++ get_or members i d ∷ []) →
    next ≡ cond (is_listed (get_or members i d) (own ∷ addresses_in entries)) entries (entries ++ (get_or members i d, place) ∷ []) →
    HasKept own place before members next_kept next (i + 1)
HasKept-more own place before members kept next_kept entries next i d held inside more_kept more = record {
  so_far = held.so_far
      ∙ (ap (λ l. kept ++ first_places (own ∷ addresses_in entries) l) (drop-cons members i d inside)
      ∙ (turn own (get_or members i d) place (drop (suc i) members) kept entries
      ∙ (ap (λ l. l ++ first_places (own ∷ addresses_in (cond (is_listed (get_or members i d) (own ∷ addresses_in entries)) entries (entries ++ (get_or members i d, place) ∷ []))) (drop (suc i) members)) (sym more_kept)
      ∙ (ap (λ l. next_kept ++ first_places (own ∷ addresses_in l) (drop (suc i) members)) (sym more)
      ∙ ap (λ n. next_kept ++ first_places (own ∷ addresses_in next) (drop n members)) (sym (add-one i))))));
  noted = more
      ∙ (turn_noted (is_listed (get_or members i d) (own ∷ addresses_in entries)) (get_or members i d) place before kept entries held.noted
      ∙ ap (λ l. before ++ placed_at place l) (sym more_kept));
}

pub HasKept-all : (own : Addr) (place : ℕ) (before : List (Addr × ℕ)) (members kept : List Addr) (entries : List (Addr × ℕ)) (i : ℕ) →
    HasKept own place before members kept entries i → length members ≤ i → kept ≡ first_places (own ∷ addresses_in before) members
unfolding first_places
HasKept-all own place before members kept entries i held past =
    sym (held.so_far
    ∙ (ap (λ l. kept ++ first_places (own ∷ addresses_in entries) l) (drop_of_length-le members {i = i} past) ∙ append-nil kept))

-- ---- one group more

members_of-push : (list : List Group) (group : Group) → members_of (list ++ group ∷ []) ≡ members_of list ++ group.members
members_of-push [] group = append-nil group.members
members_of-push (g ∷ list) group =
    ap (λ l. g.members ++ l) (members_of-push list group) ∙ sym (append_assoc g.members (members_of list) group.members)

placed_from-push : (first : ℕ) (list : List Group) (group : Group) →
    placed_from first (list ++ group ∷ []) ≡ placed_from first list ++ placed_at (first + length list) group.members
placed_from-push first [] group =
    append-nil (placed_at first group.members) ∙ ap (λ n. placed_at n group.members) (sym (add-zero first))
placed_from-push first (g ∷ list) group =
    let counted : first + 1 + length list ≡ first + length (g ∷ list) = omega arith in
    ap (λ l. placed_at first g.members ++ l) (placed_from-push (first + 1) list group
    ∙ ap (λ n. placed_from (first + 1) list ++ placed_at n group.members) counted)
    ∙ sym (append_assoc (placed_at first g.members) (placed_from (first + 1) list) (placed_at (first + length (g ∷ list)) group.members))

addresses_in-placed_at : (place : ℕ) (members : List Addr) → addresses_in (placed_at place members) ≡ members
addresses_in-placed_at place [] = refl
addresses_in-placed_at place (m ∷ members) = ap (λ l. m ∷ l) (addresses_in-placed_at place members)

addresses_in-append : (entries more : List (Addr × ℕ)) → addresses_in (entries ++ more) ≡ addresses_in entries ++ addresses_in more
addresses_in-append [] more = refl
addresses_in-append (e ∷ entries) more = ap (λ l. e.0 ∷ l) (addresses_in-append entries more)

-- how far a run over groups has come
pub record HasCleaned (own : Addr) (groups list : List Group) (places : List (Addr × ℕ)) (i : ℕ) : Type 0 where
  pub so_far : cleaned own groups ≡ list ++ cleaned_after (own ∷ addresses_in places) (drop i groups)
  pub noted : places ≡ placed_from 0 list

pub HasCleaned-none : (own : Addr) (groups : List Group) → HasCleaned own groups [] [] 0
HasCleaned-none own groups = record { so_far = refl; noted = refl }

pub HasCleaned-more : (own : Addr) (groups list next_list : List Group) (places next : List (Addr × ℕ)) (i : ℕ) (d new : Group) (members : List Addr) (place : ℕ) →
    HasCleaned own groups list places i → i < length groups → place ≡ length list →
    members ≡ first_places (own ∷ addresses_in places) (get_or groups i d).members →
    next ≡ places ++ placed_at place members →
    new ≡ record (get_or groups i d) { members = members } →
    next_list ≡ list ++ new ∷ [] →
    HasCleaned own groups next_list next (i + 1)
unfolding cleaned_after
HasCleaned-more own groups list next_list places next i d new members place held inside counted kept more made longer = record {
  so_far = held.so_far
      ∙ (ap (λ l. list ++ cleaned_after (own ∷ addresses_in places) l) (drop-cons groups i d inside)
      ∙ (ap (λ m. list ++ record (get_or groups i d) { members = m } ∷ cleaned_after ((own ∷ addresses_in places) ++ m) (drop (suc i) groups)) (sym kept)
      ∙ (ap (λ g. list ++ g ∷ cleaned_after ((own ∷ addresses_in places) ++ members) (drop (suc i) groups)) (sym made)
      ∙ (sym (append_assoc list (new ∷ []) (cleaned_after ((own ∷ addresses_in places) ++ members) (drop (suc i) groups)))
      ∙ (ap (λ l. l ++ cleaned_after ((own ∷ addresses_in places) ++ members) (drop (suc i) groups)) (sym longer)
      ∙ (ap (λ l. next_list ++ cleaned_after (own ∷ l) (drop (suc i) groups)) (sym addresses)
      ∙ ap (λ n. next_list ++ cleaned_after (own ∷ addresses_in next) (drop n groups)) (sym (add-one i))))))));
  noted = more
      ∙ (ap (λ l. l ++ placed_at place members) held.noted
      ∙ (ap (λ n. placed_from 0 list ++ placed_at n members) (counted ∙ from_zero (length list))
      ∙ (ap (λ m. placed_from 0 list ++ placed_at (0 + length list) m) (sym (ap (λ g. g.members) made))
      ∙ (sym (placed_from-push 0 list new) ∙ ap (placed_from 0) (sym longer)))));
}
  where
    from_zero : (n : ℕ) → n ≡ 0 + n
    from_zero n = omega arith

    addresses : addresses_in next ≡ addresses_in places ++ members
    addresses = ap addresses_in more ∙ (addresses_in-append places (placed_at place members) ∙ ap (λ l. addresses_in places ++ l) (addresses_in-placed_at place members))

pub HasCleaned-all : (own : Addr) (groups list : List Group) (places : List (Addr × ℕ)) (i : ℕ) →
    HasCleaned own groups list places i → length groups ≤ i → list ≡ cleaned own groups
unfolding cleaned_after
HasCleaned-all own groups list places i held past =
    sym (held.so_far
    ∙ (ap (λ l. list ++ cleaned_after (own ∷ addresses_in places) l) (drop_of_length-le groups {i = i} past) ∙ append-nil list))
