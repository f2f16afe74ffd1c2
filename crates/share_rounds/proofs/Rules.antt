-- What the rules come to.
use Rattle.std.proofs.Common.{◌≡◌, ℕ, zero, suc, ◌-◌, ◌≤◌, Bool, true, false, cond, ◌&&◌, not, List, [], ◌∷◌, ◌++◌, length, take, min, refl, sym, ◌∙◌, inl, inr, arith}
use Rattle.std.specs.List.{filter, All, AllByRecursion, IsDistinct}
use Rattle.std.proofs.lemmas.Bool.{cases_Bool, and_parts}
use Rattle.std.proofs.lemmas.List.{length-take}
use Rattle.std.proofs.lemmas.List.Elements.{All-from_recursion}
use Rattle.net_base.specs.Address.{same_address, address_below}
use Rattle.net_base.specs.declared.address.Addr.{Addr}
use Rattle.net_base.specs.declared.event.Group.{Group}
use Rattle.net_base.specs.declared.peer.Peer.{Peer}
use Rattle.peer_book.specs.Book.{addresses_of, known_of, most_peers}
use Rattle.peer_book.specs.Order.{IsRising}
use Rattle.root_groups.specs.Cleaned.{is_listed}
use Rattle.root_groups.proofs.Listed.{same_address-turn, listed-push}
use Rattle.share_rounds.specs.Law.{MayBeTold}
use Rattle.share_rounds.specs.Rounds.{is_advertised, most_told, served_to, is_new, taken_after, room_for, fresh_of}

-- ---- facts of each element

pub each_of_front : {X : Type 0} (P : X → Type 0) (n : ℕ) (xs : List X) → AllByRecursion P xs → AllByRecursion P (take n xs)
each_of_front P zero xs all = tt
each_of_front P (suc n) [] all = tt
each_of_front P (suc n) (x ∷ xs) all = (all.0, each_of_front P n xs all.1)

each_also : {X : Type 0} (P Q : X → Type 0) → ((x : X) → P x → Q x) → (xs : List X) → AllByRecursion P xs → AllByRecursion Q xs
each_also P Q weaker [] all = tt
each_also P Q weaker (x ∷ xs) all = (weaker x all.0, each_also P Q weaker xs all.1)

each_filtered : {X : Type 0} (P : X → Type 0) (test : X → Bool) (xs : List X) → AllByRecursion P xs → AllByRecursion P (filter test xs)
each_filtered P test [] all = tt
each_filtered P test (x ∷ xs) all = elim (cases_Bool (test x)) [
  | inl passes ↦ rw passes (all.0, each_filtered P test xs all.1)
  | inr fails ↦ rw fails (each_filtered P test xs all.1)
]

each_passes : {X : Type 0} (test : X → Bool) (xs : List X) → AllByRecursion (λ x. test x ≡ true) (filter test xs)
each_passes test [] = tt
each_passes test (x ∷ xs) = elim (cases_Bool (test x)) [
  | inl passes ↦ rw passes (passes, each_passes test xs)
  | inr fails ↦ rw fails (each_passes test xs)
]

-- ---- what is told

pub addresses_rise : (peers : List Peer) → IsRising (λ (p : Peer). p.addr) peers → IsRising (λ (a : Addr). a) (addresses_of peers)
addresses_rise [] rising = tt
addresses_rise (p ∷ peers) rising = (above peers rising.0, addresses_rise peers rising.1)
  where
    above : (ps : List Peer) → AllByRecursion (λ (q : Peer). address_below p.addr q.addr ≡ true) ps → AllByRecursion (λ a. address_below p.addr a ≡ true) (addresses_of ps)
    above [] all = tt
    above (q ∷ ps) all = (all.0, above ps all.1)

pub filtered_rise : (test : Addr → Bool) (addrs : List Addr) → IsRising (λ (a : Addr). a) addrs → IsRising (λ (a : Addr). a) (filter test addrs)
filtered_rise test [] rising = tt
filtered_rise test (addr ∷ addrs) rising = elim (cases_Bool (test addr)) [
  | inl passes ↦ rw passes (each_filtered _ test addrs rising.0, filtered_rise test addrs rising.1)
  | inr fails ↦ rw fails (filtered_rise test addrs rising.1)
]

front_rises : (n : ℕ) (addrs : List Addr) → IsRising (λ (a : Addr). a) addrs → IsRising (λ (a : Addr). a) (take n addrs)
front_rises zero addrs rising = tt
front_rises (suc n) [] rising = tt
front_rises (suc n) (addr ∷ addrs) rising = (each_of_front _ n addrs rising.0, front_rises n addrs rising.1)

pub told_are_few : (asker : Addr) (n : ℕ) (peers : List Peer) (groups : List Group) (publics : List Addr) → length (served_to asker n peers groups publics) ≤ min n most_told
told_are_few asker n peers groups publics =
    omega (arith, length-take (min n most_told) (filter (λ addr. is_advertised groups publics addr && not (same_address addr asker)) (addresses_of peers)))

pub told_may_be : (asker : Addr) (n : ℕ) (peers : List Peer) (groups : List Group) (publics : List Addr) → All (MayBeTold asker groups publics) (served_to asker n peers groups publics)
told_may_be asker n peers groups publics =
    let test = λ (addr : Addr). is_advertised groups publics addr && not (same_address addr asker) in
    let passes = each_of_front (λ (addr : Addr). test addr ≡ true) (min n most_told) (filter test (addresses_of peers)) (each_passes test (addresses_of peers)) in
    All-from_recursion (MayBeTold asker groups publics) _ (each_also (λ (addr : Addr). test addr ≡ true) (MayBeTold asker groups publics) may _ passes)
  where
    false_of : (b : Bool) → not b ≡ true → b ≡ false
    false_of true e = absurd cc
    false_of false e = refl

    may : (addr : Addr) → (is_advertised groups publics addr && not (same_address addr asker)) ≡ true → MayBeTold asker groups publics addr
    may addr e =
        let parts = and_parts (is_advertised groups publics addr) (not (same_address addr asker)) e in
        record { advertised = parts.0; other = false_of (same_address addr asker) parts.1 }

pub told_rise : (asker : Addr) (n : ℕ) (peers : List Peer) (groups : List Group) (publics : List Addr) → IsRising (λ (p : Peer). p.addr) peers
    → IsRising (λ (a : Addr). a) (served_to asker n peers groups publics)
told_rise asker n peers groups publics rising =
    front_rises (min n most_told) _ (filtered_rise (λ (addr : Addr). is_advertised groups publics addr && not (same_address addr asker)) _ (addresses_rise peers rising))

-- ---- what is taken

-- an address that may be taken, and was not before
record IsLater (before : List Addr) (may : Addr → Bool) (addr : Addr) : Type 0 where
  passes : may addr ≡ true
  later : is_listed addr before ≡ false

not_before : (a k : Addr) (before : List Addr) → is_listed a (before ++ k ∷ []) ≡ false → (same_address a k ≡ false) × (is_listed a before ≡ false)
not_before a k before e = by_cases (same_address a k) (is_listed a before) (sym (listed-push a k before) ∙ e)
  where
    by_cases : (b c : Bool) → cond b true c ≡ false → (b ≡ false) × (c ≡ false)
    by_cases true c e = absurd cc
    by_cases false c e = (refl, e)

taken_parts : (may : Addr → Bool) (before : List Addr) (addr : Addr) → (may addr && not (is_listed addr before)) ≡ true → IsLater before may addr
taken_parts may before addr e =
    let parts = and_parts (may addr) (not (is_listed addr before)) e in
    record { passes = parts.0; later = false_of (is_listed addr before) parts.1 }
  where
    false_of : (b : Bool) → not b ≡ true → b ≡ false
    false_of true e = absurd cc
    false_of false e = refl

each_is_later : (before : List Addr) (may : Addr → Bool) (told : List Addr) → AllByRecursion (IsLater before may) (taken_after before may told)
unfolding taken_after
each_is_later before may [] = tt
each_is_later before may (addr ∷ told) = elim (cases_Bool (may addr && not (is_listed addr before))) [
  | inl passes ↦ rw passes (
    taken_parts may before addr passes,
    each_also (IsLater (before ++ addr ∷ []) may) (IsLater before may)
        (λ a is. record { passes = is.passes; later = (not_before a addr before is.later).1 }) _ (each_is_later (before ++ addr ∷ []) may told),
  )
  | inr fails ↦ rw fails (each_is_later before may told)
]

taken_are_distinct : (before : List Addr) (may : Addr → Bool) (told : List Addr) → IsDistinct same_address (taken_after before may told)
unfolding taken_after IsDistinct
taken_are_distinct before may [] = tt
taken_are_distinct before may (addr ∷ told) = elim (cases_Bool (may addr && not (is_listed addr before))) [
  | inl passes ↦ rw passes (
    each_also (IsLater (before ++ addr ∷ []) may) (λ a. same_address addr a ≡ false)
        (λ a is. same_address-turn addr a ∙ (not_before a addr before is.later).0) _ (each_is_later (before ++ addr ∷ []) may told),
    taken_are_distinct (before ++ addr ∷ []) may told,
  )
  | inr fails ↦ rw fails (taken_are_distinct before may told)
]

front_is_distinct : (n : ℕ) (addrs : List Addr) → IsDistinct same_address addrs → IsDistinct same_address (take n addrs)
unfolding IsDistinct
front_is_distinct zero addrs distinct = tt
front_is_distinct (suc n) [] distinct = tt
front_is_distinct (suc n) (addr ∷ addrs) distinct = (each_of_front _ n addrs distinct.0, front_is_distinct n addrs distinct.1)

pub taken_within_target : (own : Addr) (target version : ℕ) (peers : List Peer) (told : List Addr) → length (fresh_of own target version peers told) ≤ target - known_of false peers
taken_within_target own target version peers told = omega (arith, length-take (room_for target peers) (taken_after [] (is_new own version peers) told))

pub taken_within_book : (own : Addr) (target version : ℕ) (peers : List Peer) (told : List Addr) → length (fresh_of own target version peers told) ≤ most_peers - length peers
taken_within_book own target version peers told = omega (arith, length-take (room_for target peers) (taken_after [] (is_new own version peers) told))

pub taken_are_new : (own : Addr) (target version : ℕ) (peers : List Peer) (told : List Addr)
    → All (λ addr. is_new own version peers addr ≡ true) (fresh_of own target version peers told)
taken_are_new own target version peers told =
    let may = is_new own version peers in
    let later = each_of_front (IsLater [] may) (room_for target peers) _ (each_is_later [] may told) in
    All-from_recursion (λ addr. may addr ≡ true) _ (each_also (IsLater [] may) (λ addr. may addr ≡ true) (λ addr is. is.passes) _ later)

pub taken_once : (own : Addr) (target version : ℕ) (peers : List Peer) (told : List Addr) → IsDistinct same_address (fresh_of own target version peers told)
taken_once own target version peers told = front_is_distinct (room_for target peers) _ (taken_are_distinct [] (is_new own version peers) told)
