-- The least of several things are the least of a front that the others aren't below.
use Rattle.std.proofs.Common.{◌≡◌, ℕ, ◌<◌, ◌≤◌, Bool, true, false, cond, List, [], ◌∷◌, ◌++◌, map, length, slice_index_or, refl, ap, ◌∙◌, subst, inl, inr, ◌⊎◌, arith}
use Rattle.std.specs.List.{AllByRecursion, IsDistinct, count_by}
use Rattle.std.specs.List.Sorted.{IsPermutation, IsSplitAroundBy}
use Rattle.std.proofs.lemmas.List.Elements.{Contains-append_left, Contains-append_right, Contains-append_cases}
use Rattle.std.proofs.lemmas.List.Sums.{sum_by-cons, count_by-le-length}
use Rattle.net_base.proofs.AddressOrder.{other_address-turn}
use Rattle.net_base.specs.Address.{same_address}
use Rattle.net_base.specs.declared.address.Addr.{Addr}
use Rattle.pick_policy.specs.Least.{least_by}
use Rattle.pick_policy.proofs.Distinct.{AreComparable-from_distinct, Connects}
use Rattle.pick_policy.proofs.LeastLaws.{least_by-within, length-least_by, least_by-rises, least_by-members, least_by-number}
use Rattle.pick_policy.proofs.LeastLemmas.{IsStrict, AtMost, at_most_chain, same_members}
use Rattle.pick_policy.proofs.Members.{Has, Has-from_Contains, Contains-from_Has}
use Rattle.pick_policy.proofs.PickFacts.{AreApart, one_or_other}
use Rattle.pick_policy.proofs.RisingLeast.{least_by-first}

one_at_most : (b : Bool) → cond b 1 0 ≤ 1
one_at_most true = omega arith
one_at_most false = omega arith

-- one that isn't counted makes the count less
count_of_others : {X : Type 0} (p : X → Bool) (xs : List X) (x : X) → Has xs x → p x ≡ false → count_by p xs < length xs
count_of_others p [] x h e = absurd h
count_of_others p (y ∷ ys) x (inl same) e =
    omega (arith, sum_by-cons (λ z. cond (p z) 1 0) y ys, ap {B = ℕ} (λ b. cond b 1 0) (ap p same ∙ e), count_by-le-length p ys)
count_of_others p (y ∷ ys) x (inr h) e =
    omega (arith, sum_by-cons (λ z. cond (p z) 1 0) y ys, one_at_most (p y), count_of_others p ys x h e)

module _ {X : Type 0} (key : X → Addr) {below : X → X → Bool} (strict : IsStrict below) (connected : Connects key below) where
  at_most : (xs : List X) → AreApart key xs → (x y : X) → Has xs x → Has xs y → below y x ≡ false → AtMost below x y
  at_most xs apart x y h k under = elim (one_or_other key xs apart x y h k) [
    | inl e ↦ inl e
    | inr other ↦ inr (connected y x (other_address-turn (key x) (key y) other) under)
  ]

  among_or_above : (x : X) (S : List X) → ((s : X) → Has S s → AtMost below s x) → Has S x ⊎ AllByRecursion (λ s. below s x ≡ true) S
  among_or_above x [] each = inr tt
  among_or_above x (s ∷ S) each = elim (each s (inl refl)) [
    | inl e ↦ inl (inl e)
    | inr above ↦ elim (among_or_above x S (λ t h. each t (inr h))) [
      | inl h ↦ inl (inr h)
      | inr all ↦ inr (above, all)
    ]
  ]

  -- as many as there are of things are all of them
  least_by-whole : (xs : List X) → AreApart key xs → (x : X) → Has xs x → Has (least_by below (length xs) xs) x
  least_by-whole xs apart x h =
      (least_by-members strict (length xs) xs (AreComparable-from_distinct key below connected xs apart) x).1
      (h, count_of_others (λ y. below y x) xs x h (strict.irreflexive x))

  pub least_by-enough : (k : ℕ) (xs : List X) → AreApart key xs → length xs ≤ k → least_by below k xs ≡ least_by below (length xs) xs
  least_by-enough k xs apart enough = least_by-first strict k xs (least_by below (length xs) xs) (record {
    rising = least_by-rises strict (length xs) xs;
    number = omega (arith, length-least_by below (length xs) xs, enough);
    within = least_by-within below (length xs) xs;
    others = λ x h. inl (least_by-whole xs apart x h);
  })

  pub apart-front : (xs ys : List X) → AreApart key (xs ++ ys) → AreApart key xs
  unfolding IsDistinct
  apart-front [] ys apart = tt
  apart-front (x ∷ xs) ys apart = (others_of xs apart.0, apart-front xs ys apart.1)
    where
      others_of : (zs : List X) → AllByRecursion (λ a. same_address (key x) a ≡ false) (map key (zs ++ ys)) →
          AllByRecursion (λ a. same_address (key x) a ≡ false) (map key zs)
      others_of [] h = tt
      others_of (z ∷ zs) h = (h.0, others_of zs h.1)

  -- what `select_nth_unstable` tells of two things on either side of the selected one
  split_at_most : (front back : List X) (middle s y : X) → AreApart key (front ++ middle ∷ back) → IsSplitAroundBy below front middle back →
      Has front s → Has (middle ∷ back) y → AtMost below s y
  split_at_most front back middle s y apart split h k =
      let all : List X = front ++ middle ∷ back in
      let in_all : (x : X) → Has front x → Has all x = λ x q. Has-from_Contains all x (Contains-append_left front (middle ∷ back) x (Contains-from_Has front x q)) in
      let behind : (x : X) → Has (middle ∷ back) x → Has all x = λ x q. Has-from_Contains all x (Contains-append_right front (middle ∷ back) x (Contains-from_Has (middle ∷ back) x q)) in
      let place = Contains-from_Has front s h in
      let under : below middle s ≡ false = subst (λ v. below middle v ≡ false) place.2 (split.0 place.0 s place.1) in
      at_most_chain strict s middle y
      (at_most all apart s middle (in_all s h) (behind middle (inl refl)) under)
      (at_most_middle all apart behind split.1 y k)
    where
      at_most_middle : (all : List X) → AreApart key all → ((x : X) → Has (middle ∷ back) x → Has all x) →
          ((n : ℕ) (d : X) → n < length back → below (slice_index_or back n d) middle ≡ false) → (z : X) → Has (middle ∷ back) z → AtMost below middle z
      at_most_middle all apart behind over z (inl e) = inl e
      at_most_middle all apart behind over z (inr q) =
          let place = Contains-from_Has back z q in
          at_most all apart middle z (behind middle (inl refl)) (behind z (inr q))
          (subst (λ v. below v middle ≡ false) place.2 (over place.0 z place.1))

  pub least_by-selected : (xs front back : List X) (middle : X) → AreApart key xs → AreApart key (front ++ middle ∷ back) →
      IsPermutation xs (front ++ middle ∷ back) → IsSplitAroundBy below front middle back →
      least_by below (length front) xs ≡ least_by below (length front) front
  least_by-selected xs front back middle apart apart' moved split =
      let all : List X = front ++ middle ∷ back in
      let same = same_members xs all moved in
      let in_front : AreApart key front = apart-front front (middle ∷ back) apart' in
      let firsts : List X = least_by below (length front) front in
      let number : length firsts ≡ length front =
      least_by-number strict (length front) front (AreComparable-from_distinct key below connected front in_front) ∙ omega arith in
      least_by-first strict (length front) xs firsts (record {
        rising = least_by-rises strict (length front) front;
        number = omega (arith, number);
        within = λ x h. same.back x (Has-from_Contains all x
            (Contains-append_left front (middle ∷ back) x (Contains-from_Has front x (least_by-within below (length front) front x h))));
        others = λ x h. elim (Contains-append_cases front (middle ∷ back) x (Contains-from_Has all x (same.forth x h))) [
          | inl there ↦ inl (least_by-whole front in_front x (Has-from_Contains front x there))
          | inr behind ↦ elim (among_or_above x firsts (λ s q.
              split_at_most front back middle s x apart' split (least_by-within below (length front) front s q)
              (Has-from_Contains (middle ∷ back) x behind))) [
                | inl there ↦ inl there
                | inr all ↦ inr (all, number)
              ]
        ];
      })
