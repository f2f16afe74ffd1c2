-- The group of an address by its place.
use Rattle.std.proofs.Common.{◌≡◌, ℕ, ◌<◌, Bool, ltb, List, length, get_or, slice_get, not, Option, Some, None, sym, ap, ◌∙◌, inl, inr, arith}
use Rattle.std.specs.List.{position, position_or_len}
use Rattle.std.specs.Option.{option_and_then}
use Rattle.std.proofs.lemmas.Bool.{ltb-true, cases_Bool}
use Rattle.std.proofs.lemmas.Option.{slice_get-get_or}
use Rattle.net_base.specs.declared.address.Addr.{Addr}
use Rattle.net_base.specs.declared.event.Group.{Group}
use Rattle.root_groups.specs.Cleaned.{group_of, is_listed}
use Rattle.share_rounds.specs.Rounds.{home_of, is_told_in, is_advertised}

placed : {X : Type 0} (p : X → Bool) (xs : List X) (place : ℕ) (d : X) → position p xs ≡ Some place → slice_get xs place ≡ Some (get_or xs place d)
placed p xs place d e =
    elim (cases_Bool (ltb (position_or_len p xs) (length xs))) [
      | inl within ↦
          let some : Some (position_or_len p xs) ≡ Some place = rw within at e in
          let is : position_or_len p xs ≡ place = cc in
          let low : place < length xs = omega (arith, ltb-true _ _ within) in
          slice_get-get_or xs place d low
      | inr past ↦ let none : None ≡ Some place = rw past at e in absurd cc
    ]

pub told_by_group : (addr : Addr) (groups : List Group) (publics : List Addr) (place : ℕ) (d : Group) → group_of addr groups ≡ Some place
    → (get_or groups place d).advertise ≡ is_advertised groups publics addr
told_by_group addr groups publics place d e =
    let home : home_of addr groups ≡ Some (get_or groups place d) =
    ap (option_and_then (slice_get groups)) e ∙ placed (λ group. is_listed addr group.members) groups place d e in
    ap (λ (o : Option Group). is_told_in o addr publics) (sym home)

pub told_by_roots : (addr : Addr) (groups : List Group) (publics : List Addr) → group_of addr groups ≡ None
    → not (is_listed addr publics) ≡ is_advertised groups publics addr
told_by_roots addr groups publics e =
    let home : home_of addr groups ≡ None = ap (option_and_then (slice_get groups)) e in
    ap (λ (o : Option Group). is_told_in o addr publics) (sym home)
