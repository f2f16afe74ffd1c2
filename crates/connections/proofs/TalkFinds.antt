-- Which connection a search finds, by its id.
use Rattle.std.proofs.Common.{◌≡◌, ℕ, ◌<◌, Bool, true, false, ◌&&◌, List, [], ◌∷◌, map, find, Option, Some, None, IfSome, refl, sym, ap, subst, ◌∙◌, inl, inr, arith, rules}
use Rattle.std.specs.Option.{option_map}
use Rattle.std.proofs.lemmas.Bool.{cases_Bool, true≢false, and_parts}
use Rattle.std.proofs.lemmas.Bool.Decides.{nat_tests}
use Rattle.std.proofs.lemmas.Option.{none-some, same_Some}
use Rattle.conn_state.specs.Use.{has_id, facts_at, is_live, live_phase, is_negotiated_phase, is_live_at, live_at, is_acquirable}
use Rattle.conn_table.specs.Answers.{any_at, has_address}
use Rattle.conn_table.specs.Rosters.{OnlyLastLives}
use Rattle.conn_table.specs.Table.{IdsRise}
use Rattle.net_base.proofs.AddressOrder.{same_address-itself, same_address-is}
use Rattle.conn_table.proofs.IdPlaces.{found_here, found_later}
use Rattle.machine.specs.Machine.{Entry}
use Rattle.net_base.specs.declared.address.Addr.{Addr}
use Rattle.net_base.specs.declared.connection.Cid.{Cid}
use Rattle.net_base.specs.declared.connection.Facts.{Facts}
use Rattle.net_base.specs.declared.connection.Phase.{Phase}
use Rattle.net_base.specs.declared.connection.Phase.TheVariants.{Dialing, Greeting, Negotiated, Closing}
use Rattle.connections.specs.Standing.{if_used}
use Rattle.connections.specs.Talks.{entries_of, AreTalksOf}
use Rattle.connections.specs.declared.talk.Talk.{Talk}
use Rattle.connections.proofs.TalkPairs.{facts_paired}

-- ---- what is found has its own id, and no other one has it

found_above : {X : Type 0} (facts : X → Facts) (p : X → Bool) (above most : ℕ) (xs : List X) (x : X) →
    IdsRise above most (map facts xs) → find p xs ≡ Some x → above < (facts x).cid.0
found_above facts p above most [] x rises found = absurd (none-some x found)
found_above facts p above most (y ∷ ys) x rises found = elim (cases_Bool (p y)) [
  | inl here ↦ subst (λ z. above < (facts z).cid.0) (same_Some y x (rw here at found)) rises.0
  | inr other ↦ omega (arith, rises.0, found_above facts p (facts y).cid.0 most ys x rises.1 (rw other at found))
]

found_by_id : {X : Type 0} (facts : X → Facts) (p : X → Bool) (above most : ℕ) (xs : List X) (x : X) →
    IdsRise above most (map facts xs) → find p xs ≡ Some x → find (λ y. has_id (facts x).cid.0 (facts y)) xs ≡ Some x
found_by_id facts p above most [] x rises found = absurd (none-some x found)
found_by_id facts p above most (y ∷ ys) x rises found = elim (cases_Bool (p y)) [
  | inl here ↦
      let same : y ≡ x = same_Some y x (rw here at found) in
      subst (λ z. find (λ w. has_id (facts z).cid.0 (facts w)) (y ∷ ys) ≡ Some z) same (rw (itself (facts y)) refl)
  | inr other ↦
      let later : find p ys ≡ Some x = rw other at found in
      rw (lower (found_above facts p (facts y).cid.0 most ys x rises.1 later)) (found_by_id facts p (facts y).cid.0 most ys x rises.1 later)
]
  where
    itself : (f : Facts) → has_id f.cid.0 f ≡ true
    itself f = grind (arith, nat_tests)

    lower : (facts y).cid.0 < (facts x).cid.0 → has_id (facts x).cid.0 (facts y) ≡ false
    lower h = grind (arith, nat_tests)

map_itself : (fs : List Facts) → map (λ f. f) fs ≡ fs
map_itself [] = refl
map_itself (f ∷ fs) = ap (λ gs. f ∷ gs) (map_itself fs)

facts_by_id : (p : Facts → Bool) (above most : ℕ) (fs : List Facts) (f : Facts) → IdsRise above most fs → find p fs ≡ Some f →
    facts_at f.cid.0 fs ≡ Some f
facts_by_id p above most fs f rises found =
    found_by_id (λ g. g) p above most fs f (subst (IdsRise above most) (sym (map_itself fs)) rises) found

if_some : {X : Type 0} (P : X → Type 0) (o : Option X) → ((x : X) → o ≡ Some x → P x) → IfSome o P
if_some P None h = tt
if_some P (Some x) h = h x refl

pub entry_by_id : (p : Entry → Bool) (above most : ℕ) (fs : List Facts) (ts : List Talk) → IdsRise above most fs → AreTalksOf fs ts →
    IfSome (find p (entries_of fs ts)) (λ e. find (λ x. has_id e.facts.cid.0 x.facts) (entries_of fs ts) ≡ Some e)
entry_by_id p above most fs ts rises are =
    if_some (λ e. find (λ x. has_id e.facts.cid.0 x.facts) (entries_of fs ts) ≡ Some e) (find p (entries_of fs ts))
    (λ e found. found_by_id (λ x. x.facts) p above most (entries_of fs ts) e
    (subst (IdsRise above most) (sym (facts_paired fs ts are)) rises) found)

-- ---- the live one of an address

pub none_of : (o : Option Facts) → option_map (λ f. f.cid) o ≡ None → o ≡ None
none_of None e = refl
none_of (Some f) e = cc

some_of : (o : Option Facts) (cid : Cid) → option_map (λ f. f.cid) o ≡ Some cid → (f : Facts) × (o ≡ Some f) × (f.cid ≡ cid)
some_of None cid e = absurd (none-some cid e)
some_of (Some f) cid e = (f, refl, same_Some f.cid cid e)

pub live_by_id : (addr : Addr) (most : ℕ) (fs : List Facts) (cid : Cid) → IdsRise 0 most fs →
    option_map (λ f. f.cid) (live_at addr fs) ≡ Some cid → facts_at cid.0 fs ≡ live_at addr fs
live_by_id addr most fs cid rises e =
    let found = some_of (live_at addr fs) cid e in
    subst (λ c. facts_at c.0 fs ≡ live_at addr fs) found.2
    (facts_by_id (is_live_at addr) 0 most fs found.0 rises found.1 ∙ sym found.1)

-- a connection that this side has not closed is the live one of its address
any_found : (cid : ℕ) (fs : List Facts) (f : Facts) → facts_at cid fs ≡ Some f → any_at f.addr fs ≡ true
any_found cid [] f found = absurd (none-some f found)
any_found cid (g ∷ gs) f found = elim (cases_Bool (has_address f.addr g)) [
  | inl at ↦ rw at refl
  | inr apart ↦ elim (cases_Bool (has_id cid g)) [
    | inl here ↦
        let same : g ≡ f = found_here cid g f gs found here in
        absurd (true≢false (sym (subst (λ h. has_address f.addr h ≡ true) (sym same) (same_address-itself f.addr)) ∙ apart))
    | inr other ↦ rw apart (any_found cid gs f (found_later cid g f gs found other))
  ]
]

pub live_there : (cid : ℕ) (fs : List Facts) (f : Facts) → OnlyLastLives fs → facts_at cid fs ≡ Some f → is_live f ≡ true →
    live_at f.addr fs ≡ Some f
live_there cid [] f only found lives = absurd (none-some f found)
live_there cid (g ∷ gs) f only found lives = elim (cases_Bool (has_id cid g)) [
  | inl here ↦
      let same : g ≡ f = found_here cid g f gs found here in
      subst (λ h. find (is_live_at f.addr) (h ∷ gs) ≡ Some f) (sym same) (rw (same_address-itself f.addr, lives) refl)
  | inr other ↦
      let later = found_later cid g f gs found other in
      elim (cases_Bool (is_live_at f.addr g)) [
        | inl both ↦
            let parts = and_parts _ _ both in
            let one : g.addr ≡ f.addr = same_address-is g.addr f.addr parts.0 in
            absurd (true≢false (sym (any_found cid gs f later) ∙ (ap (λ a. any_at a gs) (sym one) ∙ only.0 parts.1)))
        | inr neither ↦ rw neither (live_there cid gs f only.1 later lives)
      ]
]

negotiated_lives : (p : Phase) → is_negotiated_phase p ≡ true → live_phase p ≡ true
negotiated_lives Dialing h = refl
negotiated_lives (Greeting until) h = refl
negotiated_lives Negotiated h = refl
negotiated_lives (Closing until) h = absurd (true≢false (sym h))

pub acquirable_lives : (f : Facts) → is_acquirable f ≡ true → is_live f ≡ true
acquirable_lives f h = negotiated_lives f.phase (negotiated h)
  where
    negotiated : is_acquirable f ≡ true → is_negotiated_phase f.phase ≡ true
    negotiated k = search rules

-- ---- the one of an address that is in local use

abbrev pub used_at : Addr → List Facts → Option Facts
used_at addr fs = find (λ f. is_live_at addr f && f.local) fs

none_used : (addr : Addr) (fs : List Facts) → any_at addr fs ≡ false → used_at addr fs ≡ None
none_used addr [] none = refl
none_used addr (f ∷ fs) none = elim (cases_Bool (has_address addr f)) [
  | inl here ↦ absurd (true≢false (rw here at none))
  | inr other ↦ rw other (none_used addr fs (rw other at none))
]

pub used_at-live : (addr : Addr) (fs : List Facts) → OnlyLastLives fs → used_at addr fs ≡ if_used (live_at addr fs)
used_at-live addr [] only = refl
used_at-live addr (f ∷ fs) only = elim (cases_Bool (is_live_at addr f)) [
  | inl both ↦
      let parts = and_parts _ _ both in
      let one : f.addr ≡ addr = same_address-is f.addr addr parts.0 in
      let none : used_at addr fs ≡ None = none_used addr fs (ap (λ a. any_at a fs) (sym one) ∙ only.0 parts.1) in
      elim (cases_Bool f.local) [
        | inl used ↦ rw (parts.0, parts.1, used) refl
        | inr unused ↦ rw (parts.0, parts.1, unused) none
      ]
  | inr neither ↦ rw (neither) (used_at-live addr fs only.1)
]
