-- Lists of clients by id: what holds of each, and how many there are.
use Rattle.std.proofs.Common.{Less, Equal, Greater, ◌≡◌, ℕ, ◌+◌, ◌≤◌, ◌<◌, Bool, false, cond, eqb, ltb, ◌⊎◌, List, [], ◌∷◌, length, Some, refl, sym, ap, subst, ◌∙◌, arith, inl, inr}
use Rattle.std.specs.Prelude.{filter}
use Rattle.std.specs.List.{AllByRecursion}
use Rattle.std.specs.declared.cmp.Ordering.{Ordering}
use Rattle.std.specs.Ordering.{nat_cmp, is_eq}
use Rattle.std.proofs.lemmas.Bool.{cases_Bool, eqb-true, ne_eqb, lt-ltb, le-ltb}
use Rattle.local_clients.specs.Clients.{client_at, without, with_client}

-- ---- how two ids compare

pub below : (m n : ℕ) → m < n → nat_cmp m n ≡ Less
below m n lt = rw (lt-ltb m n lt) refl

pub above : (m n : ℕ) → n < m → nat_cmp m n ≡ Greater
above m n lt = rw (le-ltb m n (omega arith), ne_eqb m n (λ e. absurd (omega (arith, e)))) refl

-- an id is another one, or the same
pub compared : (m n : ℕ) → ((m ≡ n) × (nat_cmp m n ≡ Equal)) ⊎ (is_eq (nat_cmp m n) ≡ false)
compared m n =
    elim (cases_Bool (ltb m n)) [
      | inl lt ↦ inr (rw lt refl)
      | inr ge ↦ elim (cases_Bool (eqb m n)) [
        | inl eq ↦ inl (eqb-true m n eq, rw (ge, eq) refl)
        | inr ne ↦ inr (rw (ge, ne) refl)
      ]
    ]

-- ---- a fact of each client

module _ {X : Type 0} where
  pub all_without : (P : ℕ × X → Type 0) (id : ℕ) (es : List (ℕ × X)) → AllByRecursion P es → AllByRecursion P (without id es)
  all_without P id [] all = tt
  all_without P id (e ∷ es) all =
      elim (cases_Bool (is_eq (nat_cmp id e.0))) [
        | inl at ↦ rw at all.1
        | inr not_at ↦ rw not_at (all.0, all_without P id es all.1)
      ]

  pub all_with : (P : ℕ × X → Type 0) (id : ℕ) (x : X) (es : List (ℕ × X)) → AllByRecursion P es → P (id, x) → AllByRecursion P (with_client id x es)
  all_with P id x [] all here = (here, tt)
  all_with P id x (e ∷ es) all here =
      elim (cases_Bool (ltb id e.0)) [
        | inl lt ↦ rw lt (here, all)
        | inr ge ↦ elim (cases_Bool (eqb id e.0)) [
          | inl eq ↦ let same : id ≡ e.0 = eqb-true id e.0 eq in rw (ge, eq) (subst (λ (k : ℕ). P (k, x)) same here, all.1)
          | inr ne ↦ rw (ge, ne) (all.0, all_with P id x es all.1 here)
        ]
      ]

  pub all_filter : (P : ℕ × X → Type 0) (test : ℕ × X → Bool) (es : List (ℕ × X)) → AllByRecursion P es → AllByRecursion P (filter test es)
  all_filter P test [] all = tt
  all_filter P test (e ∷ es) all =
      elim (cases_Bool (test e)) [
        | inl passes ↦ rw passes (all.0, all_filter P test es all.1)
        | inr fails ↦ rw fails (all_filter P test es all.1)
      ]

  pub all_to : (P Q : ℕ × X → Type 0) (es : List (ℕ × X)) → ((e : ℕ × X) → P e → Q e) → AllByRecursion P es → AllByRecursion Q es
  all_to P Q [] to all = tt
  all_to P Q (e ∷ es) to all = (to e all.0, all_to P Q es to all.1)

  -- what is found is one of them
  pub all_found : (P : ℕ × X → Type 0) (id : ℕ) (x : X) (es : List (ℕ × X)) → AllByRecursion P es → client_at id es ≡ Some x → P (id, x)
  all_found P id x [] all found = absurd cc
  all_found P id x (e ∷ es) all found =
      elim (compared id e.0) [
        | inl (same, equal) ↦
            let here : Some e.1 ≡ Some x = ap (λ (o : Ordering). cond (is_eq o) (Some e.1) (client_at id es)) (sym equal) ∙ found in
            let is : e.1 ≡ x = cc in
            subst (λ (k : ℕ). P (k, x)) (sym same) (subst (λ (y : X). P (e.0, y)) is all.0)
        | inr other ↦
            let later : client_at id es ≡ Some x = ap (λ (b : Bool). cond b (Some e.1) (client_at id es)) (sym other) ∙ found in
            all_found P id x es all.1 later
      ]

  -- ---- how many there are

  pub fewer_without : (id : ℕ) (es : List (ℕ × X)) → length (without id es) ≤ length es
  fewer_without id [] = omega arith
  fewer_without id (e ∷ es) =
      elim (cases_Bool (is_eq (nat_cmp id e.0))) [
        | inl at ↦ rw at (omega arith)
        | inr not_at ↦ rw not_at (omega (arith, fewer_without id es))
      ]

  -- one fewer, where it was there
  pub one_fewer : (id : ℕ) (x : X) (es : List (ℕ × X)) → client_at id es ≡ Some x → length (without id es) + 1 ≤ length es
  one_fewer id x [] found = absurd cc
  one_fewer id x (e ∷ es) found =
      elim (cases_Bool (is_eq (nat_cmp id e.0))) [
        | inl at ↦ rw at (omega arith)
        | inr not_at ↦
            let later : client_at id es ≡ Some x = ap (λ (b : Bool). cond b (Some e.1) (client_at id es)) (sym not_at) ∙ found in
            rw not_at (omega (arith, one_fewer id x es later))
      ]

  pub one_more : (id : ℕ) (x : X) (es : List (ℕ × X)) → length (with_client id x es) ≤ length es + 1
  one_more id x [] = omega arith
  one_more id x (e ∷ es) =
      elim (cases_Bool (ltb id e.0)) [
        | inl lt ↦ rw lt (omega arith)
        | inr ge ↦ elim (cases_Bool (eqb id e.0)) [
          | inl eq ↦ rw (ge, eq) (omega arith)
          | inr ne ↦ rw (ge, ne) (omega (arith, one_more id x es))
        ]
      ]

  pub fewer_filter : (test : ℕ × X → Bool) (es : List (ℕ × X)) → length (filter test es) ≤ length es
  fewer_filter test [] = omega arith
  fewer_filter test (e ∷ es) =
      elim (cases_Bool (test e)) [
        | inl passes ↦ rw passes (omega (arith, fewer_filter test es))
        | inr fails ↦ rw fails (omega (arith, fewer_filter test es))
      ]
