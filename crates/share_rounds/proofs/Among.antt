-- What is told out of the first that may be told to anyone.
use Rattle.std.proofs.Common.{◌≡◌, ℕ, zero, suc, ◌<◌, Bool, true, false, cond, ◌&&◌, not, List, [], ◌∷◌, take, min, refl, sym, ap, subst, ◌∙◌, inl, inr, arith, take-take}
use Rattle.std.specs.List.{filter, AllByRecursion}
use Rattle.std.proofs.lemmas.Bool.{cases_Bool}
use Rattle.net_base.specs.Address.{same_address, address_below}
use Rattle.net_base.specs.declared.address.Addr.{Addr}
use Rattle.net_base.proofs.AddressOrder.{same_address-is, address_turned}
use Rattle.peer_book.specs.Book.{addresses_of}
use Rattle.peer_book.specs.Order.{IsRising}
use Rattle.share_rounds.specs.Rounds.{is_advertised, most_told, most_tellable, told_among, IsServedFor}
use Rattle.share_rounds.proofs.Rules.{each_of_front, filtered_rise}

-- all but the one that asks
abbrev others : Addr → List Addr → List Addr
others asker = filter (λ addr. not (same_address addr asker))

-- above the one that asks nobody else is it
others_above : (asker addr : Addr) (above : List Addr) → same_address addr asker ≡ true → AllByRecursion (λ a. address_below addr a ≡ true) above
    → others asker above ≡ above
others_above asker addr [] same all = refl
others_above asker addr (a ∷ above) same all =
    let is : addr ≡ asker = same_address-is addr asker same in
    let below : address_below asker a ≡ true = subst (λ b. address_below b a ≡ true) is all.0 in
    let other : same_address a asker ≡ false = address_turned a asker below in
    rw other (ap (λ l. a ∷ l) (others_above asker addr above same all.1))

-- Of more than are wanted, so many are left without the one that asks.
front_of_others : (asker : Addr) (few many : ℕ) (addrs : List Addr) → few < many → IsRising (λ (a : Addr). a) addrs
    → take few (others asker (take many addrs)) ≡ take few (others asker addrs)
front_of_others asker zero many addrs more rising = refl
front_of_others asker (suc few) zero addrs more rising = absurd (omega (arith, more))
front_of_others asker (suc few) (suc many) [] more rising = refl
front_of_others asker (suc few) (suc many) (addr ∷ addrs) more rising =
    elim (cases_Bool (same_address addr asker)) [
      | inl same ↦
          let all : take (suc few) (others asker addrs) ≡ take (suc few) addrs = ap (take (suc few)) (others_above asker addr addrs same rising.0) in
          let front : take (suc few) (others asker (take many addrs)) ≡ take (suc few) (take many addrs) =
          ap (take (suc few)) (others_above asker addr (take many addrs) same (each_of_front _ many addrs rising.0)) in
          rw same (front ∙ take-take (suc few) many addrs (omega (arith, more)) ∙ sym all)
      | inr other ↦ rw other (ap (λ l. addr ∷ l) (front_of_others asker few many addrs (omega (arith, more)) rising.1))
    ]

-- two tests are one
both : (may : Addr → Bool) (asker : Addr) (addrs : List Addr) → others asker (filter may addrs) ≡ filter (λ addr. may addr && not (same_address addr asker)) addrs
both may asker [] = refl
both may asker (addr ∷ addrs) = elim (cases_Bool (may addr)) [
  | inl passes ↦ rw passes (ap (λ l. cond (not (same_address addr asker)) (addr ∷ l) l) (both may asker addrs))
  | inr fails ↦ rw fails (both may asker addrs)
]

-- what is told out of the addresses that are kept of a book is what is told out of that book
pub told_of_tellable : (asker : Addr) (n : ℕ) (addrs : List Addr) → IsServedFor asker n addrs (told_among asker n addrs)
told_of_tellable asker n addrs peers groups publics are =
    let may = is_advertised groups publics in
    let few : min n most_told < most_tellable = omega arith in
    let front : told_among asker n addrs ≡ take (min n most_told) (others asker (take most_tellable (filter may (addresses_of peers)))) =
    ap (told_among asker n) are.first in
    front ∙ front_of_others asker (min n most_told) most_tellable (filter may (addresses_of peers)) few (filtered_rise may (addresses_of peers) are.rising)
    ∙ ap (take (min n most_told)) (both may asker (addresses_of peers))
