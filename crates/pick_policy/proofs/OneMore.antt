-- The least of several things and one more.
use Rattle.std.proofs.Common.{◌≡◌, ℕ, suc, zero, ◌+◌, ◌-◌, Bool, true, false, not, cond, List, [], ◌∷◌, ◌++◌, take, length, get_or, refl, sym, ap, ◌∙◌, subst, inl, inr, ◌⊎◌, arith}
use Rattle.std.specs.List.{AllByRecursion, best_of, filter, insert, position_or_len}
use Rattle.std.specs.List.Sorted.{IsPermutation}
use Rattle.std.proofs.lemmas.Bool.{false≢true, cases_Bool}
use Rattle.std.proofs.lemmas.List.{length-take}
use Rattle.std.proofs.lemmas.List.Sorted.{Contains-permutation}
use Rattle.net_base.specs.declared.address.Addr.{Addr}
use Rattle.pick_policy.specs.Least.{least_by}
use Rattle.pick_policy.proofs.Distinct.{AreComparable-from_distinct, Connects}
use Rattle.pick_policy.proofs.LeastLaws.{AreComparable, AreComparable-filter, least_by-within, least_by-rises, length-least_by, least_taken_out}
use Rattle.pick_policy.proofs.LeastLemmas.{IsStrict, Rises, best_is_in, best_is_least}
use Rattle.pick_policy.proofs.Members.{Has, Has-from_Contains, Contains-from_Has, Has-from_filter, Has-front, Has-last, Has-cases, All-at_Has, All-from_Has}
use Rattle.pick_policy.proofs.PickFacts.{AreApart}
use Rattle.pick_policy.proofs.RisingLeast.{AreFirst, least_by-first, Has-take, Rises-take, taken_or_above}
use Rattle.pick_policy.proofs.Selecting.{apart-front}

pub least_by-none : {X : Type 0} (below : X → X → Bool) (k : ℕ) → least_by below k [] ≡ []
unfolding least_by
least_by-none below zero = refl
least_by-none below (suc k) = refl

one_more : (n : ℕ) → 1 + n ≡ suc n
one_more n = omega arith

module _ {X : Type 0} {below : X → X → Bool} (strict : IsStrict below) where
  -- ---- the least of a list, as the first of it

  least_or_above : (k : ℕ) (xs : List X) → AreComparable below xs → (x : X) → Has xs x →
      Has (least_by below k xs) x ⊎ (AllByRecursion (λ y. below y x ≡ true) (least_by below k xs) × (length (least_by below k xs) ≡ k))
  unfolding least_by
  least_or_above zero xs told x h = inr (tt, refl)
  least_or_above (suc k) [] told x h = absurd h
  least_or_above (suc k) (z ∷ zs) told x h =
      let xs : List X = z ∷ zs in
      let b : X = best_of below z zs in
      let all : IsPermutation xs (b ∷ filter (below b) xs) = least_taken_out strict b xs told (best_is_in below z zs) (best_is_least strict z zs) in
      elim (Has-from_Contains (b ∷ filter (below b) xs) x (Contains-permutation xs _ x all (Contains-from_Has xs x h))) [
        | inl e ↦ inl (inl e)
        | inr later ↦ elim (least_or_above k (filter (below b) xs) (AreComparable-filter below (below b) xs told) x later) [
          | inl there ↦ inl (inr there)
          | inr above ↦ inr (((Has-from_filter (below b) xs x later).1, above.0), omega (arith, above.1))
        ]
      ]

  first_of : (k : ℕ) (xs : List X) → AreComparable below xs → AreFirst below k xs (least_by below k xs)
  first_of k xs told = record {
    rising = least_by-rises strict k xs;
    number = length-least_by below k xs;
    within = least_by-within below k xs;
    others = least_or_above k xs told;
  }

  -- ---- a list and one more, which stands in front of the first that isn't below it

  abbrev put_in : X → List X → List X
  put_in s [] = s ∷ []
  put_in s (a ∷ L) = cond (below a s) (a ∷ put_in s L) (s ∷ a ∷ L)

  -- it is told from each of them
  abbrev IsTold : X → List X → Type 0
  IsTold s L = (t : X) → Has L t → below t s ≡ false → below s t ≡ true

  insert-is : (s : X) (L : List X) → insert L (position_or_len (λ t. not (below t s)) L) s ≡ put_in s L
  insert-is s [] = refl
  insert-is s (a ∷ L) = elim (cases_Bool (below a s)) [
    | inl e ↦ rw e (ap (λ n. insert (a ∷ L) n s) (one_more (position_or_len (λ t. not (below t s)) L)) ∙ ap (λ l. a ∷ l) (insert-is s L))
    | inr e ↦ rw e refl
  ]

  length-put_in : (s : X) (L : List X) → length (put_in s L) ≡ suc (length L)
  length-put_in s [] = refl
  length-put_in s (a ∷ L) = elim (cases_Bool (below a s)) [
    | inl e ↦ rw e (omega (arith, length-put_in s L))
    | inr e ↦ rw e refl
  ]

  Has-put_in : (s : X) (L : List X) (x : X) → Has (put_in s L) x → (s ≡ x) ⊎ Has L x
  Has-put_in s [] x (inl e) = inl e
  Has-put_in s [] x (inr h) = absurd h
  Has-put_in s (a ∷ L) x h = in_either (below a s) (Has-put_in s L x) h
    where
      in_either : (b : Bool) → (Has (put_in s L) x → (s ≡ x) ⊎ Has L x) →
          Has (cond b (a ∷ put_in s L) (s ∷ a ∷ L)) x → (s ≡ x) ⊎ Has (a ∷ L) x
      in_either true rest (inl e) = inr (inl e)
      in_either true rest (inr k) = elim (rest k) [ inl e ↦ inl e | inr there ↦ inr (inr there) ]
      in_either false rest (inl e) = inl e
      in_either false rest (inr k) = inr k

  put_in-has : (s : X) (L : List X) → Has (put_in s L) s
  put_in-has s [] = inl refl
  put_in-has s (a ∷ L) = elim (below a s) as (λ b. Has (cond b (a ∷ put_in s L) (s ∷ a ∷ L)) s) [
    | true ↦ inr (put_in-has s L)
    | false ↦ inl refl
  ]

  put_in-keeps : (s : X) (L : List X) (x : X) → Has L x → Has (put_in s L) x
  put_in-keeps s [] x h = absurd h
  put_in-keeps s (a ∷ L) x h = elim (below a s) as (λ b. Has (cond b (a ∷ put_in s L) (s ∷ a ∷ L)) x) [
    | true ↦ elim h [ inl e ↦ inl e | inr k ↦ inr (put_in-keeps s L x k) ]
    | false ↦ inr h
  ]

  Rises-put_in : (s : X) (L : List X) → IsTold s L → Rises below L → Rises below (put_in s L)
  Rises-put_in s [] told rises = (tt, tt)
  Rises-put_in s (a ∷ L) told rises = elim (cases_Bool (below a s)) [
    | inl e ↦ rw e (
      All-from_Has (λ y. below a y ≡ true) (put_in s L) (λ y h. elim (Has-put_in s L y h) [
        | inl same ↦ subst (λ v. below a v ≡ true) same e
        | inr there ↦ All-at_Has (λ v. below a v ≡ true) L y rises.0 there
      ]),
      Rises-put_in s L (λ t h. told t (inr h)) rises.1,
    )
    | inr e ↦
        let first : below s a ≡ true = told a (inl refl) e in
        rw e (
          (first, All-from_Has (λ y. below s y ≡ true) L (λ y h. strict.transitive s a y first (All-at_Has (λ v. below a v ≡ true) L y rises.0 h))),
          rises,
        )
  ]

  -- what is above all of them is above all that are left of them with the one
  stays_above_all : (s x : X) (L : List X) → IsTold s L → AllByRecursion (λ y. below y x ≡ true) L →
      AllByRecursion (λ y. below y x ≡ true) (take (length L) (put_in s L))
  stays_above_all s x [] told above = tt
  stays_above_all s x (a ∷ L) told above = elim (cases_Bool (below a s)) [
    | inl e ↦ rw e (above.0, stays_above_all s x L (λ t h. told t (inr h)) above.1)
    | inr e ↦ rw e (
      strict.transitive s a x (told a (inl refl) e) above.0,
      All-from_Has (λ y. below y x ≡ true) (take (length L) (a ∷ L))
          (λ y h. All-at_Has (λ v. below v x ≡ true) (a ∷ L) y above (Has-take strict (length L) (a ∷ L) y h)),
    )
  ]

  first-put_in : (k : ℕ) (xs L : List X) (s : X) → IsTold s xs → AreFirst below k xs L →
      AreFirst below k (xs ++ s ∷ []) (take k (put_in s L))
  first-put_in k xs L s told first =
      let all : List X = put_in s L in
      let told' : IsTold s L = λ t h. told t (first.within t h) in
      let rises : Rises below all = Rises-put_in s L told' first.rising in
      record {
        rising = Rises-take strict k all rises;
        number = omega (arith, length-take k all);
        within = λ x h. elim (Has-put_in s L x (Has-take strict k all x h)) [
          | inl e ↦ subst (Has (xs ++ s ∷ [])) e (Has-last xs s)
          | inr there ↦ Has-front xs (s ∷ []) x (first.within x there)
        ];
        others = λ x h. elim (Has-cases xs s x h) [
          | inl there ↦ elim (first.others x there) [
            | inl among ↦ taken_or_above strict k all x rises (put_in-keeps s L x among)
            | inr above ↦ inr (
              subst (λ n. AllByRecursion (λ y. below y x ≡ true) (take n all)) above.1 (stays_above_all s x L told' above.0),
              omega (arith, length-take k all, length-put_in s L, above.1),
            )
          ]
          | inr e ↦ taken_or_above strict k all x rises (subst (Has all) e (put_in-has s L))
        ];
      }

  -- ---- one more that is above the last

  below_last : (L : List X) (n : ℕ) (s d : X) → Rises below L → n + 1 ≡ length L → below (get_or L n d) s ≡ true →
      AllByRecursion (λ y. below y s ≡ true) L
  below_last [] n s d rises last h = tt
  below_last (a ∷ []) zero s d rises last h = (h, tt)
  below_last (a ∷ []) (suc n) s d rises last h = absurd (omega (arith, last))
  below_last (a ∷ b ∷ L) zero s d rises last h = absurd (omega (arith, last))
  below_last (a ∷ b ∷ L) (suc n) s d rises last h =
      let rest : AllByRecursion (λ y. below y s ≡ true) (b ∷ L) = below_last (b ∷ L) n s d rises.1 (omega (arith, last)) h in
      (strict.transitive a b s rises.0.0 rest.0, rest)

  first-above : (k : ℕ) (xs L : List X) (s : X) → length L ≡ k → AllByRecursion (λ y. below y s ≡ true) L →
      AreFirst below k xs L → AreFirst below k (xs ++ s ∷ []) L
  first-above k xs L s full above first = record {
    rising = first.rising;
    number = first.number;
    within = λ x h. Has-front xs (s ∷ []) x (first.within x h);
    others = λ x h. elim (Has-cases xs s x h) [
      | inl there ↦ first.others x there
      | inr e ↦ inr (subst (λ v. AllByRecursion (λ y. below y v ≡ true) L) e above, full)
    ];
  }

  -- ---- things with distinct addresses

  told_from_last : (xs : List X) (s : X) → AreComparable below (xs ++ s ∷ []) → IsTold s xs
  told_from_last [] s told t h under = absurd h
  told_from_last (x ∷ xs) s told t (inl e) under =
      elim (All-at_Has (λ y. (below x y ≡ true) ⊎ (below y x ≡ true)) (xs ++ s ∷ []) s told.0 (Has-last xs s)) [
        | inl h ↦ absurd (false≢true (sym under ∙ subst (λ v. below v s ≡ true) e h))
        | inr h ↦ subst (λ v. below s v ≡ true) e h
      ]
  told_from_last (x ∷ xs) s told t (inr h) under = told_from_last xs s told.1 t h under

  module _ (key : X → Addr) (connected : Connects key below) where
    pub least_by-one_more : (k : ℕ) (xs : List X) (s : X) → AreApart key (xs ++ s ∷ []) →
        least_by below k (xs ++ s ∷ []) ≡ take k (insert (least_by below k xs) (position_or_len (λ t. not (below t s)) (least_by below k xs)) s)
    least_by-one_more k xs s apart =
        let front = AreComparable-from_distinct key below connected xs (apart-front key strict connected xs (s ∷ []) apart) in
        let told = told_from_last xs s (AreComparable-from_distinct key below connected (xs ++ s ∷ []) apart) in
        let L : List X = least_by below k xs in
        least_by-first strict k (xs ++ s ∷ []) (take k (put_in s L)) (first-put_in k xs L s told (first_of k xs front))
        ∙ ap (take k) (sym (insert-is s L))

    -- where there are so many, and the one is above the last of them
    pub least_by-above : (k : ℕ) (xs : List X) (s : X) → AreApart key (xs ++ s ∷ []) → length (least_by below k xs) ≡ k →
        below (get_or (least_by below k xs) (length (least_by below k xs) - 1) s) s ≡ true →
        least_by below k (xs ++ s ∷ []) ≡ least_by below k xs
    least_by-above k xs s apart full above =
        let front = AreComparable-from_distinct key below connected xs (apart-front key strict connected xs (s ∷ []) apart) in
        let L : List X = least_by below k xs in
        least_by-first strict k (xs ++ s ∷ []) L
        (first-above k xs L s full (above_all L (least_by-rises strict k xs) above) (first_of k xs front))
      where
        above_all : (L : List X) → Rises below L → below (get_or L (length L - 1) s) s ≡ true → AllByRecursion (λ y. below y s ≡ true) L
        above_all [] rises h = tt
        above_all (a ∷ L) rises h = below_last (a ∷ L) (length (a ∷ L) - 1) s s rises (omega arith) h
