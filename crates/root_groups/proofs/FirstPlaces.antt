-- The first places of addresses, one address after the other.
use Rattle.std.proofs.Common.{◌≡◌, ℕ, suc, zero, ◌<◌, ◌≤◌, ◌+◌, ◌-◌, List, [], ◌∷◌, ◌++◌, length, take, drop, get_or, refl, sym, ap, ◌∙◌, inl, inr, arith, append_assoc, add-one, drop-cons}
use Rattle.std.proofs.lemmas.Bool.{cases_Bool}
use Rattle.std.proofs.lemmas.List.{length_push, append-nil}
use Rattle.std.proofs.Math.ListN.{drop_of_length-le}
use Rattle.net_base.specs.declared.address.Addr.{Addr}
use Rattle.root_groups.specs.Cleaned.{is_listed, first_places}
use Rattle.root_groups.specs.RootAsk.{with_other, publics_of}

-- what is still to come, where some are there
abbrev pub to_come : Addr → ℕ → List Addr → List Addr → List Addr
to_come own target there addrs = take (target - length there) (first_places (own ∷ there) addrs)

pub so_far_none : (own : Addr) (target : ℕ) (addrs : List Addr) → publics_of own target addrs ≡ to_come own target [] addrs
so_far_none own target addrs =
    let all : target ≡ target - 0 = omega arith in
    ap (λ n. take n (first_places (own ∷ []) addrs)) all

pub so_far_more : (own : Addr) (target : ℕ) (there : List Addr) (addr : Addr) (addrs : List Addr) → length there < target →
    there ++ to_come own target there (addr ∷ addrs) ≡ with_other own addr there ++ to_come own target (with_other own addr there) addrs
unfolding first_places
so_far_more own target there addr addrs room = elim (cases_Bool (is_listed addr (own ∷ there))) [
  | inl listed ↦ rw listed refl
  | inr new ↦
      let rest : List Addr = first_places (own ∷ (there ++ addr ∷ [])) addrs in
      let one_less : target - length there ≡ suc (target - length (there ++ addr ∷ [])) = omega (arith, length_push there addr) in
      rw new (ap (λ n. there ++ take n (addr ∷ rest)) one_less
      ∙ sym (append_assoc there (addr ∷ []) (take (target - length (there ++ addr ∷ [])) rest)))
]

pub so_far_all : (own : Addr) (target : ℕ) (there : List Addr) → there ++ to_come own target there [] ≡ there
unfolding first_places
so_far_all own target there = ap (λ l. there ++ l) (take-nil (target - length there)) ∙ append-nil there
  where
    take-nil : (n : ℕ) → take {A = Addr} n [] ≡ []
    take-nil zero = refl
    take-nil (suc n) = refl

pub so_far_full : (own : Addr) (target : ℕ) (there addrs : List Addr) → target ≤ length there → there ++ to_come own target there addrs ≡ there
so_far_full own target there addrs full =
    let none : target - length there ≡ 0 = omega arith in
    ap (λ n. there ++ take n (first_places (own ∷ there) addrs)) none ∙ append-nil there

-- a turn of the loop over the addresses
pub so_far_step : (own : Addr) (target i : ℕ) (there next addrs whole : List Addr) (d : Addr) →
    whole ≡ there ++ to_come own target there (drop i addrs) → i < length addrs → length there < target →
    next ≡ with_other own (get_or addrs i d) there → whole ≡ next ++ to_come own target next (drop (i + 1) addrs)
so_far_step own target i there next addrs whole d so_far inside room more =
    so_far
    ∙ (ap (λ l. there ++ to_come own target there l) (drop-cons addrs i d inside)
    ∙ (so_far_more own target there (get_or addrs i d) (drop (suc i) addrs) room
    ∙ (ap (λ l. l ++ to_come own target l (drop (suc i) addrs)) (sym more)
    ∙ ap (λ n. next ++ to_come own target next (drop n addrs)) (sym (add-one i)))))

pub so_far_end : (own : Addr) (target i : ℕ) (there addrs whole : List Addr) →
    whole ≡ there ++ to_come own target there (drop i addrs) → length addrs ≤ i → there ≡ whole
so_far_end own target i there addrs whole so_far past =
    sym (so_far ∙ (ap (λ l. there ++ to_come own target there l) (drop_of_length-le addrs {i = i} past) ∙ so_far_all own target there))
