-- Clients by id: who is found after one is taken out, put in or let go.
use Rattle.std.proofs.Common.{◌≡◌, ◌≢◌, ℕ, ◌<◌, Bool, true, false, cond, eqb, ltb, List, [], ◌∷◌, Option, Some, None, refl, sym, ap, ◌∙◌, arith, inl, inr}
use Rattle.std.specs.Prelude.{filter}
use Rattle.std.specs.List.{AllByRecursion}
use Rattle.std.specs.Ordering.{nat_cmp, is_eq}
use Rattle.std.specs.declared.cmp.Ordering.{Ordering}
use Rattle.std.proofs.lemmas.Bool.{cases_Bool, eqb-true, eqb-false, ne_eqb, eq-eqb, le-ltb, ltb-true, ltb-false}
use Rattle.local_clients.specs.Clients.{client_at, without, with_client}
use Rattle.local_clients.specs.Kept.{IdsRise}
use Rattle.local_clients.proofs.Lists.{below, above, compared, all_without, all_with, all_to, all_found}

-- no id is at another one
apart : (m n : ℕ) → m ≢ n → is_eq (nat_cmp m n) ≡ false
apart m n ne =
    elim (cases_Bool (ltb m n)) [
      | inl lt ↦ rw lt refl
      | inr ge ↦ rw (ge, ne_eqb m n ne) refl
    ]

at_itself : (m : ℕ) → is_eq (nat_cmp m m) ≡ true
at_itself m = rw (le-ltb m m (omega arith), eq-eqb m m refl) refl

module _ {X : Type 0} where
  -- ---- who is found

  absent_above : (id : ℕ) (es : List (ℕ × X)) → AllByRecursion (λ e. id < e.0) es → client_at id es ≡ None
  absent_above id [] all = refl
  absent_above id (e ∷ es) all = rw (apart id e.0 (λ is. absurd (omega (arith, is, all.0)))) (absent_above id es all.1)

  pub absent_below : (id : ℕ) (es : List (ℕ × X)) → AllByRecursion (λ e. e.0 < id) es → client_at id es ≡ None
  absent_below id [] all = refl
  absent_below id (e ∷ es) all = rw (apart id e.0 (λ is. absurd (omega (arith, is, all.0)))) (absent_below id es all.1)

  pub gone_without : (id : ℕ) (es : List (ℕ × X)) → IdsRise es → client_at id (without id es) ≡ None
  gone_without id [] rise = refl
  gone_without id (e ∷ es) rise =
      elim (compared id e.0) [
        | inl (same, equal) ↦ rw equal (absent_above id es (all_to (λ l. e.0 < l.0) (λ l. id < l.0) es (λ l lt. omega (arith, same, lt)) rise.0))
        | inr other ↦ rw (other, other) (gone_without id es rise.1)
      ]

  pub other_without : (q id : ℕ) (es : List (ℕ × X)) → q ≢ id → client_at q (without id es) ≡ client_at q es
  other_without q id [] ne = refl
  other_without q id (e ∷ es) ne =
      elim (compared id e.0) [
        | inl (same, equal) ↦ rw (equal, apart q e.0 (λ is. ne (is ∙ sym same))) refl
        | inr other ↦ rw other (ap (λ (o : Option X). cond (is_eq (nat_cmp q e.0)) (Some e.1) o) (other_without q id es ne))
      ]

  pub here_with : (id : ℕ) (x : X) (es : List (ℕ × X)) → client_at id (with_client id x es) ≡ Some x
  here_with id x [] = rw (at_itself id) refl
  here_with id x (e ∷ es) =
      elim (cases_Bool (ltb id e.0)) [
        | inl lt ↦ rw (lt, at_itself id) refl
        | inr ge ↦ elim (cases_Bool (eqb id e.0)) [
          | inl eq ↦ rw (ge, eq) (rw (ge, eq) refl)
          | inr ne ↦ rw (ge, ne) (rw (ge, ne) (here_with id x es))
        ]
      ]

  pub other_with : (q id : ℕ) (x : X) (es : List (ℕ × X)) → q ≢ id → client_at q (with_client id x es) ≡ client_at q es
  other_with q id x [] ne = rw (apart q id ne) refl
  other_with q id x (e ∷ es) ne =
      elim (cases_Bool (ltb id e.0)) [
        | inl lt ↦ rw lt (rw (apart q id ne) refl)
        | inr ge ↦ elim (cases_Bool (eqb id e.0)) [
          | inl eq ↦ rw (ge, eq) (rw (apart q e.0 (λ is. ne (is ∙ sym (eqb-true id e.0 eq)))) refl)
          | inr other ↦ rw (ge, other) (ap (λ (o : Option X). cond (is_eq (nat_cmp q e.0)) (Some e.1) o) (other_with q id x es ne))
        ]
      ]

  -- ---- who is taken out

  pub without_absent : (id : ℕ) (es : List (ℕ × X)) → client_at id es ≡ None → without id es ≡ es
  without_absent id [] none = refl
  without_absent id (e ∷ es) none =
      elim (cases_Bool (is_eq (nat_cmp id e.0))) [
        | inl at ↦ let found : Some e.1 ≡ None = ap (λ (b : Bool). cond b (Some e.1) (client_at id es)) (sym at) ∙ none in absurd cc
        | inr not_at ↦
            let later : client_at id es ≡ None = ap (λ (b : Bool). cond b (Some e.1) (client_at id es)) (sym not_at) ∙ none in
            rw not_at (ap (λ (l : List (ℕ × X)). e ∷ l) (without_absent id es later))
      ]

  -- one that was put in
  pub without_with : (id : ℕ) (x : X) (es : List (ℕ × X)) → client_at id es ≡ None → without id (with_client id x es) ≡ es
  without_with id x [] none = rw (at_itself id) refl
  without_with id x (e ∷ es) none =
      elim (cases_Bool (ltb id e.0)) [
        | inl lt ↦ rw lt (rw (at_itself id) refl)
        | inr ge ↦ elim (cases_Bool (eqb id e.0)) [
          | inl eq ↦
              let found : Some e.1 ≡ None = sym (rw (ge, eq) refl) ∙ none in
              absurd cc
          | inr ne ↦
              let not_at : is_eq (nat_cmp id e.0) ≡ false = rw (ge, ne) refl in
              let later : client_at id es ≡ None = ap (λ (b : Bool). cond b (Some e.1) (client_at id es)) (sym not_at) ∙ none in
              rw (ge, ne) (rw (ge, ne) (ap (λ (l : List (ℕ × X)). e ∷ l) (without_with id x es later)))
        ]
      ]

  first_with : (id : ℕ) (x : X) (es : List (ℕ × X)) → AllByRecursion (λ l. id < l.0) es → with_client id x es ≡ (id, x) ∷ es
  first_with id x [] all = refl
  first_with id x (e ∷ es) all = rw (below id e.0 all.0) refl

  -- one that is put back as it was
  pub back_again : (id : ℕ) (x : X) (es : List (ℕ × X)) → IdsRise es → client_at id es ≡ Some x → with_client id x (without id es) ≡ es
  back_again id x [] rise found = absurd cc
  back_again id x (e ∷ es) rise found =
      elim (compared id e.0) [
        | inl (same, equal) ↦
            let here : Some e.1 ≡ Some x = ap (λ (o : Ordering). cond (is_eq o) (Some e.1) (client_at id es)) (sym equal) ∙ found in
            let client : e.1 ≡ x = cc in
            let later = all_to (λ l. e.0 < l.0) (λ l. id < l.0) es (λ l lt. omega (arith, same, lt)) rise.0 in
            rw equal (first_with id x es later ∙ ap (λ (n : ℕ). (n, x) ∷ es) same ∙ ap (λ (y : X). (e.0, y) ∷ es) (sym client))
        | inr other ↦
            let later : client_at id es ≡ Some x = ap (λ (b : Bool). cond b (Some e.1) (client_at id es)) (sym other) ∙ found in
            let between : e.0 < id = all_found (λ l. e.0 < l.0) id x es rise.0 later in
            rw (other, above id e.0 between) (ap (λ (l : List (ℕ × X)). e ∷ l) (back_again id x es rise.1 later))
      ]

  pub absent_filter : (test : ℕ × X → Bool) (q : ℕ) (es : List (ℕ × X)) → client_at q es ≡ None → client_at q (filter test es) ≡ None
  absent_filter test q [] none = refl
  absent_filter test q (e ∷ es) none =
      elim (cases_Bool (is_eq (nat_cmp q e.0))) [
        | inl at ↦ let found : Some e.1 ≡ None = ap (λ (b : Bool). cond b (Some e.1) (client_at q es)) (sym at) ∙ none in absurd cc
        | inr not_at ↦
            let later : client_at q es ≡ None = ap (λ (b : Bool). cond b (Some e.1) (client_at q es)) (sym not_at) ∙ none in
            elim (cases_Bool (test e)) [
              | inl passes ↦ rw passes (rw not_at (absent_filter test q es later))
              | inr fails ↦ rw fails (absent_filter test q es later)
            ]
      ]

  -- ---- ids rise

  pub ids_without : (id : ℕ) (es : List (ℕ × X)) → IdsRise es → IdsRise (without id es)
  ids_without id [] rise = tt
  ids_without id (e ∷ es) rise =
      elim (cases_Bool (is_eq (nat_cmp id e.0))) [
        | inl at ↦ rw at rise.1
        | inr not_at ↦ rw not_at (all_without (λ l. e.0 < l.0) id es rise.0, ids_without id es rise.1)
      ]

  pub ids_with : (id : ℕ) (x : X) (es : List (ℕ × X)) → IdsRise es → IdsRise (with_client id x es)
  ids_with id x [] rise = (tt, tt)
  ids_with id x (e ∷ es) rise =
      elim (cases_Bool (ltb id e.0)) [
        | inl lt ↦
            let first : id < e.0 = ltb-true id e.0 lt in
            rw lt ((first, all_to (λ l. e.0 < l.0) (λ l. id < l.0) es (λ l later. omega (arith, first, later)) rise.0), rise)
        | inr ge ↦ elim (cases_Bool (eqb id e.0)) [
          | inl eq ↦ rw (ge, eq) rise
          | inr ne ↦
              let after : e.0 < id = omega (arith, ltb-false id e.0 ge, eqb-false id e.0 ne) in
              rw (ge, ne) (all_with (λ l. e.0 < l.0) id x es rise.0 after, ids_with id x es rise.1)
        ]
      ]
