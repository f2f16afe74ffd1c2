-- Which connection of an address may be live: the last.
use Rattle.std.proofs.Common.{◌≡◌, ℕ, ◌+◌, ◌<◌, ◌≤◌, Bool, true, false, cond, List, [], ◌∷◌, ◌++◌, length, Option, Some, None, is_some, slice_get, refl, sym, subst, ap, ◌∙◌, inl, inr, ◌⊎◌, arith}
use Rattle.std.specs.List.{find, filter}
use Rattle.std.specs.Option.{option_map}
use Rattle.std.proofs.lemmas.Bool.{cases_Bool, true≢false, false≢true, and_parts}
use Rattle.std.proofs.lemmas.Bool.Decides.{nat_tests}
use Rattle.std.proofs.lemmas.Option.{slice_get_within}
use Rattle.net_base.specs.Address.{same_address}
use Rattle.net_base.specs.declared.address.Addr.{Addr}
use Rattle.net_base.specs.declared.connection.Facts.{Facts}
use Rattle.net_base.specs.declared.connection.Phase.{Phase}
use Rattle.net_base.specs.declared.connection.Phase.TheVariants.{Dialing, Greeting, Negotiated, Closing}
use Rattle.conn_state.specs.Use.{has_id, facts_at, is_live, live_phase, is_negotiated_phase, is_live_at, live_at, is_acquirable}
use Rattle.conn_table.specs.Answers.{has_address, any_at, any_acquirable, may_acquire}
use Rattle.conn_table.specs.Index.{placed_of}
use Rattle.conn_table.specs.declared.placed.Placed.{Placed}
use Rattle.conn_table.specs.Finds.{newest, if_live, id_place, StandsAt}
use Rattle.conn_table.specs.Rosters.{OnlyLastLives}
use Rattle.conn_table.specs.Table.{IdsRise, moved_at}
use Rattle.net_base.proofs.AddressOrder.{same_address-itself, same_address-is}
use Rattle.conn_table.proofs.IdPlaces.{found_here, found_later, get-place, moved_at-above, none_above}

-- ---- some connection of an address

pub any_at-newest : (addr : Addr) (fs : List Facts) → any_at addr fs ≡ is_some (newest addr fs)
any_at-newest addr [] = refl
any_at-newest addr (f ∷ fs) = elim (cases_Bool (has_address addr f)) [
  | inl here ↦ elim (cases_Bool (any_at addr fs)) [
    | inl later ↦ rw (here, later) (sym later ∙ any_at-newest addr fs)
    | inr none ↦ rw (here, none) refl
  ]
  | inr other ↦ elim (cases_Bool (any_at addr fs)) [
    | inl later ↦ rw (other, later) (sym later ∙ any_at-newest addr fs)
    | inr none ↦ rw (other, none) refl
  ]
]

any_at-moved : (addr : Addr) (cid : ℕ) (move : Facts → Facts) (fs : List Facts) → ((f : Facts) → (move f).addr ≡ f.addr) →
    any_at addr (moved_at cid move fs) ≡ any_at addr fs
any_at-moved addr cid move [] keeps = refl
any_at-moved addr cid move (f ∷ fs) keeps = elim (cases_Bool (has_id cid f)) [
  | inl here ↦ rw here (step _ _ (move f) f _ _ (ap (λ a. same_address a addr) (keeps f)) (any_at-moved addr cid move fs keeps))
  | inr other ↦ rw other (step _ _ f f _ _ refl (any_at-moved addr cid move fs keeps))
]
  where
    step : (b c : Bool) (g h : Facts) (gs hs : List Facts) → b ≡ c → any_at addr gs ≡ any_at addr hs →
        is_some (cond b (Some g) (find (has_address addr) gs)) ≡ is_some (cond c (Some h) (find (has_address addr) hs))
    step true true g h gs hs e rest = refl
    step true false g h gs hs e rest = absurd (true≢false e)
    step false true g h gs hs e rest = absurd (false≢true e)
    step false false g h gs hs e rest = rest

any_at-filter : (addr : Addr) (p : Facts → Bool) (fs : List Facts) → any_at addr fs ≡ false → any_at addr (filter p fs) ≡ false
any_at-filter addr p [] none = refl
any_at-filter addr p (f ∷ fs) none = elim (cases_Bool (has_address addr f)) [
  | inl here ↦ absurd (true≢false (rw here at none))
  | inr other ↦
      let later : any_at addr fs ≡ false = rw other at none in
      elim (cases_Bool (p f)) [
        | inl kept ↦ rw (kept, other) (any_at-filter addr p fs later)
        | inr gone ↦ rw gone (any_at-filter addr p fs later)
      ]
]

any_at-push : (addr : Addr) (fs : List Facts) (f : Facts) → any_at addr fs ≡ false → has_address addr f ≡ false → any_at addr (fs ++ f ∷ []) ≡ false
any_at-push addr [] f none other = rw other refl
any_at-push addr (g ∷ gs) f none other = elim (cases_Bool (has_address addr g)) [
  | inl here ↦ absurd (true≢false (rw here at none))
  | inr there ↦ rw there (any_at-push addr gs f (rw there at none) other)
]

-- ---- the last one alone lives

not_here : (addr : Addr) (g : Facts) (gs : List Facts) → live_at addr (g ∷ gs) ≡ None → is_live_at addr g ≡ false
not_here addr g gs none = elim (cases_Bool (is_live_at addr g)) [
  | inl here ↦ absurd (nothing (rw here at none))
  | inr other ↦ other
]
  where
    nothing : Some g ≡ None → ⊥
    nothing h = cc

other_address : (f g : Facts) → is_live_at f.addr g ≡ false → is_live g ≡ true → has_address g.addr f ≡ false
other_address f g none lives = elim (cases_Bool (has_address g.addr f)) [
  | inl same ↦
      let one : f.addr ≡ g.addr = same_address-is f.addr g.addr same in
      let here : is_live_at f.addr g ≡ true = rw (one, same_address-itself g.addr, lives) refl in
      absurd (true≢false (sym here ∙ none))
  | inr other ↦ other
]

pub OnlyLastLives-push : (fs : List Facts) (f : Facts) → OnlyLastLives fs → live_at f.addr fs ≡ None → OnlyLastLives (fs ++ f ∷ [])
OnlyLastLives-push [] f only none = ((λ lives. refl), tt)
OnlyLastLives-push (g ∷ gs) f only none =
    let here = not_here f.addr g gs none in (
      (λ lives. any_at-push g.addr gs f (only.0 lives) (other_address f g here lives)),
      OnlyLastLives-push gs f only.1 (rw here at none),
    )

pub OnlyLastLives-filter : (p : Facts → Bool) (fs : List Facts) → OnlyLastLives fs → OnlyLastLives (filter p fs)
OnlyLastLives-filter p [] only = tt
OnlyLastLives-filter p (f ∷ fs) only = elim (cases_Bool (p f)) [
  | inl kept ↦ rw kept ((λ lives. any_at-filter f.addr p fs (only.0 lives)), OnlyLastLives-filter p fs only.1)
  | inr gone ↦ rw gone (OnlyLastLives-filter p fs only.1)
]

pub OnlyLastLives-moved : (cid above most : ℕ) (move : Facts → Facts) (fs : List Facts) (f : Facts) → ((g : Facts) → (move g).addr ≡ g.addr) →
    IdsRise above most fs → facts_at cid fs ≡ Some f → is_live f ≡ true → OnlyLastLives fs → OnlyLastLives (moved_at cid move fs)
OnlyLastLives-moved cid above most move [] f keeps rises found lives only = tt
OnlyLastLives-moved cid above most move (g ∷ gs) f keeps rises found lives only = elim (cases_Bool (has_id cid g)) [
  | inl here ↦
      let same : g ≡ f = found_here cid g f gs found here in
      let rest : moved_at cid move gs ≡ gs = moved_at-above cid g.cid.0 most move gs rises.1 (at_most here) in
      rw (here, rest) ((λ still. rw (keeps g) (only.0 (ap is_live same ∙ lives))), only.1)
  | inr other ↦ rw other (
    (λ still. any_at-moved g.addr cid move gs keeps ∙ only.0 still),
    OnlyLastLives-moved cid g.cid.0 most move gs f keeps rises.1 (found_later cid g f gs found other) lives only.1,
  )
]
  where
    at_most : has_id cid g ≡ true → cid ≤ g.cid.0
    at_most h = grind (arith, nat_tests)

-- ---- the live connection of an address

pub none_live : (addr : Addr) (fs : List Facts) → any_at addr fs ≡ false → live_at addr fs ≡ None
none_live addr [] none = refl
none_live addr (f ∷ fs) none = elim (cases_Bool (has_address addr f)) [
  | inl here ↦ absurd (true≢false (rw here at none))
  | inr other ↦ rw other (none_live addr fs (rw other at none))
]

pub live_at-newest : (addr : Addr) (fs : List Facts) → OnlyLastLives fs → live_at addr fs ≡ if_live (newest addr fs)
live_at-newest addr [] only = refl
live_at-newest addr (f ∷ fs) only = elim (cases_Bool (any_at addr fs)) [
  | inl later ↦ elim (cases_Bool (has_address addr f)) [
    | inl here ↦
        let dead : is_live f ≡ false = ended later here in
        rw (later, here, dead) (live_at-newest addr fs only.1)
    | inr other ↦ rw (later, other) (live_at-newest addr fs only.1)
  ]
  | inr none ↦ elim (cases_Bool (has_address addr f)) [
    | inl here ↦ elim (cases_Bool (is_live f)) [
      | inl lives ↦ rw (none, here, lives) refl
      | inr dead ↦ rw (none, here, dead) (none_live addr fs none)
    ]
    | inr other ↦ rw (none, other) (none_live addr fs none)
  ]
]
  where
    ended : any_at addr fs ≡ true → has_address addr f ≡ true → is_live f ≡ false
    ended later here = elim (cases_Bool (is_live f)) [
      | inl lives ↦
          let one : f.addr ≡ addr = same_address-is f.addr addr here in
          absurd (true≢false (sym later ∙ subst (λ a. any_at a fs ≡ false) one (only.0 lives)))
      | inr dead ↦ dead
    ]

-- ---- what may be taken into use

none_acquirable : (addr : Addr) (fs : List Facts) → any_at addr fs ≡ false → any_acquirable addr fs ≡ false
none_acquirable addr [] none = refl
none_acquirable addr (f ∷ fs) none = elim (cases_Bool (has_address addr f)) [
  | inl here ↦ absurd (true≢false (rw here at none))
  | inr other ↦ rw other (none_acquirable addr fs (rw other at none))
]

negotiated_lives : (p : Phase) → is_negotiated_phase p ≡ true → live_phase p ≡ true
negotiated_lives Dialing h = refl
negotiated_lives (Greeting until) h = refl
negotiated_lives Negotiated h = refl
negotiated_lives (Closing until) h = absurd (false≢true h)

acquirable_lives : (f : Facts) → is_acquirable f ≡ true → is_live f ≡ true
acquirable_lives f h = negotiated_lives f.phase (and_parts _ _ (and_parts _ _ (and_parts _ _ h).0).0).0

pub may_acquire-live : (addr : Addr) (fs : List Facts) → OnlyLastLives fs → may_acquire (live_at addr fs) ≡ any_acquirable addr fs
may_acquire-live addr [] only = refl
may_acquire-live addr (f ∷ fs) only = elim (cases_Bool (has_address addr f)) [
  | inr other ↦ rw other (may_acquire-live addr fs only.1)
  | inl here ↦ elim (cases_Bool (is_acquirable f)) [
    | inl able ↦ rw (here, acquirable_lives f able, able) refl
    | inr unable ↦ elim (cases_Bool (is_live f)) [
      | inl lives ↦
          let one : f.addr ≡ addr = same_address-is f.addr addr here in
          rw (here, lives, unable) (sym (none_acquirable addr fs (subst (λ a. any_at a fs ≡ false) one (only.0 lives))))
      | inr dead ↦ rw (here, dead, unable) (may_acquire-live addr fs only.1)
    ]
  ]
]

-- the last of an address is found by its id
pub newest_found : (addr : Addr) (above most : ℕ) (fs : List Facts) (f : Facts) → IdsRise above most fs → newest addr fs ≡ Some f → facts_at f.cid.0 fs ≡ Some f
newest_found addr above most [] f rises found = cc
newest_found addr above most (g ∷ gs) f rises found = elim (cases_Bool (any_at addr gs)) [
  | inl later ↦ behind (newest_found addr g.cid.0 most gs f rises.1 (rw later at found)) (cases_Bool (has_id f.cid.0 g))
  | inr none ↦ elim (cases_Bool (has_address addr g)) [
    | inl here ↦ first (is_found (rw (none, here) at found))
    | inr other ↦ absurd (nothing (rw (none, other) at found))
  ]
]
  where
    nothing : None ≡ Some f → ⊥
    nothing h = cc

    is_found : Some g ≡ Some f → g ≡ f
    is_found h = cc

    itself : (h : Facts) → has_id h.cid.0 h ≡ true
    itself h = grind (arith, nat_tests)

    first : g ≡ f → facts_at f.cid.0 (g ∷ gs) ≡ Some f
    first same = rw (sym same) (rw (itself g) refl)

    at_most : has_id f.cid.0 g ≡ true → f.cid.0 ≤ g.cid.0
    at_most h = grind (arith, nat_tests)

    behind : facts_at f.cid.0 gs ≡ Some f → (has_id f.cid.0 g ≡ true) ⊎ (has_id f.cid.0 g ≡ false) → facts_at f.cid.0 (g ∷ gs) ≡ Some f
    behind later (inr other) = rw other later
    behind later (inl here) = absurd (nothing (sym (none_above f.cid.0 g.cid.0 most gs rises.1 (at_most here)) ∙ later))

pub none_newest : (found : Option Facts) → option_map placed_of found ≡ None → found ≡ None
none_newest None h = refl
none_newest (Some f) h = cc

pub newest_by_id : (addr : Addr) (above most : ℕ) (fs : List Facts) (p : Placed) → IdsRise above most fs → option_map placed_of (newest addr fs) ≡ Some p →
    facts_at p.cid.0 fs ≡ newest addr fs
newest_by_id addr above most fs p rises found = at (newest addr fs) refl found
  where
    is_placed : (q : Placed) → Some q ≡ Some p → q ≡ p
    is_placed q e = cc

    at : (o : Option Facts) → newest addr fs ≡ o → option_map placed_of o ≡ Some p → facts_at p.cid.0 fs ≡ o
    at None e h = cc
    at (Some f) e h = subst (λ q. facts_at q.cid.0 fs ≡ Some f) (is_placed (placed_of f) h) (newest_found addr above most fs f rises e)

-- ---- what is live at an address

is_found : (g f : Facts) → Some g ≡ Some f → g ≡ f
is_found g f e = cc

pub live_at-found : (addr : Addr) (fs : List Facts) (f : Facts) → live_at addr fs ≡ Some f → is_live_at addr f ≡ true
live_at-found addr [] f found = cc
live_at-found addr (g ∷ gs) f found = elim (cases_Bool (is_live_at addr g)) [
  | inl here ↦ subst (λ h. is_live_at addr h ≡ true) (is_found g f (rw here at found)) here
  | inr other ↦ live_at-found addr gs f (rw other at found)
]

pub length-rise : (above most : ℕ) (fs : List Facts) → IdsRise above most fs → above + length fs ≤ most
length-rise above most [] rises = omega (arith, rises)
length-rise above most (f ∷ fs) rises = omega (arith, rises.0, length-rise f.cid.0 most fs rises.1)

-- ---- where the last connection of an address stands

pub newest_stands : (addr : Addr) (most : ℕ) (fs : List Facts) (p : Placed) (place : ℕ) → IdsRise 0 most fs → option_map placed_of (newest addr fs) ≡ Some p →
    place ≡ id_place p.cid.0 fs → StandsAt fs (newest addr fs) (Some place)
newest_stands addr most fs p place rises found is_place = at (newest addr fs) found (newest_by_id addr 0 most fs p rises found)
  where
    at : (o : Option Facts) → option_map placed_of o ≡ Some p → facts_at p.cid.0 fs ≡ o → StandsAt fs o (Some place)
    at None h k = cc
    at (Some f) h k = ap (slice_get fs) is_place ∙ get-place p.cid.0 0 most fs f rises k

pub stands_inside : (fs : List Facts) (found : Option Facts) (place : ℕ) → StandsAt fs found (Some place) → place < length fs
stands_inside fs None place stands = absurd stands
stands_inside fs (Some f) place stands = slice_get_within fs place f stands

pub stands_found : (fs : List Facts) (found : Option Facts) (place : ℕ) (f : Facts) → StandsAt fs found (Some place) → slice_get fs place ≡ Some f →
    found ≡ Some f
stands_found fs None place f stands at = absurd stands
stands_found fs (Some g) place f stands at = sym stands ∙ at

stands_nowhere : (fs : List Facts) (found : Option Facts) → StandsAt fs found None → found ≡ None
stands_nowhere fs None stands = refl
stands_nowhere fs (Some f) stands = absurd stands

pub none_lives : (addr : Addr) (fs : List Facts) → OnlyLastLives fs → StandsAt fs (newest addr fs) None → StandsAt fs (live_at addr fs) None
none_lives addr fs only stands =
    subst (λ o. StandsAt fs o None) (sym (live_at-newest addr fs only ∙ ap if_live (stands_nowhere fs (newest addr fs) stands))) tt

pub one_lives : (addr : Addr) (fs : List Facts) (place : ℕ) (f : Facts) → OnlyLastLives fs → StandsAt fs (newest addr fs) (Some place) →
    slice_get fs place ≡ Some f → is_live f ≡ true → StandsAt fs (live_at addr fs) (Some place)
one_lives addr fs place f only stands at lives =
    subst (λ o. StandsAt fs o (Some place))
    (sym (live_at-newest addr fs only ∙ (ap if_live (stands_found fs (newest addr fs) place f stands at) ∙ ap (λ b. cond b (Some f) None) lives))) at

pub one_is_closed : (addr : Addr) (fs : List Facts) (place : ℕ) (f : Facts) → OnlyLastLives fs → StandsAt fs (newest addr fs) (Some place) →
    slice_get fs place ≡ Some f → is_live f ≡ false → StandsAt fs (live_at addr fs) None
one_is_closed addr fs place f only stands at closed =
    subst (λ o. StandsAt fs o None)
    (sym (live_at-newest addr fs only ∙ (ap if_live (stands_found fs (newest addr fs) place f stands at) ∙ ap (λ b. cond b (Some f) None) closed))) tt
