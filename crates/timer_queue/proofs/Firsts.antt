-- Which timer is the least.
use Rattle.std.proofs.Common.{◌≡◌, ◌↔◌, ℕ, ◌<◌, ◌≤◌, Bor, length, get_or, option_map, ◌==◌, ◌&&◌, true, false, List, [], ◌∷◌, Option, Some, None, slice_get, nat_lt, nat_le, refl, sym, ap, subst, ◌∙◌, inl, inr, arith}
use Rattle.std.specs.List.{All, AllByRecursion}
use Rattle.std.specs.Option.{IsSome, IsNone, IfSome, MatchOption}
use Rattle.std.proofs.lemmas.Bool.{cases_Bool, false≢true, true≢false, false_from_ne_true, or_right, or_cases, and_parts, ltb-true, eqb-true, leb-false, lt-leb}
use Rattle.std.proofs.lemmas.List.Elements.{All-from_recursion, recursion_from_All}
use Rattle.net_base.specs.Timer.{deadline_before}
use Rattle.net_base.specs.declared.connection.Cid.{Cid}
use Rattle.net_base.specs.declared.timer.Deadline.{Deadline}
use Rattle.net_base.specs.declared.timer.Kind.{Kind}
use Rattle.timer_queue.specs.Queue.{told}
use Rattle.timer_queue.specs.Timers.{same_timer, has_timer, IsInOrder, earlier, IsLeast, HaveSame, least, due_at, where_due}
use Rattle.timer_queue.proofs.Orders.{timer_order}
use Rattle.timer_queue.proofs.Rising.{never_both, IsRising-filter, has_first, has-filter}

-- of a list in order it is the first
pub least-first : (ds : List Deadline) → IsInOrder ds → least ds ≡ slice_get ds 0
least-first [] rises = refl
least-first (d ∷ []) rises = refl
least-first (d ∷ e ∷ ds) rises =
    ap (λ o. Some (earlier d o)) (least-first (e ∷ ds) rises.1)
    ∙ rw (never_both deadline_before same_timer timer_order d e rises.0.0) refl

-- no timer is before one of an earlier moment
pub before-at : (a b : Deadline) → deadline_before a b ≡ true → a.at ≤ b.at
before-at a b h = elim (or_cases (nat_lt a.at b.at) _ h) [
  | inl lower ↦ omega (arith, ltb-true a.at b.at lower)
  | inr tied ↦ omega (arith, eqb-true a.at b.at (and_parts (a.at == b.at) _ tied).0)
]

none_due : (now : ℕ) (d : Deadline) (ds : List Deadline) → nat_le d.at now ≡ false →
    AllByRecursion (λ e. deadline_before d e ≡ true) ds → due_at now ds ≡ []
none_due now d [] late h = refl
none_due now d (e ∷ es) late h =
    let later : nat_le e.at now ≡ false = lt-leb e.at now (omega (arith, leb-false d.at now late, before-at d e h.0)) in
    rw later (none_due now d es late h.1)

pub least-due_at : (now : ℕ) (ds : List Deadline) → IsInOrder ds → least (due_at now ds) ≡ where_due now (least ds)
least-due_at now [] rises = refl
least-due_at now (d ∷ ds) rises = elim (cases_Bool (nat_le d.at now)) [
  | inl due ↦
      let kept : due_at now (d ∷ ds) ≡ d ∷ due_at now ds = rw due refl in
      let in_order : IsInOrder (d ∷ due_at now ds) = subst IsInOrder kept
      (IsRising-filter deadline_before same_timer timer_order (λ e. e) (λ e. nat_le e.at now) (d ∷ ds) rises) in
      ap least kept ∙ (least-first (d ∷ due_at now ds) in_order ∙ (sym (rw due refl) ∙ ap (where_due now) (sym (least-first (d ∷ ds) rises))))
  | inr late ↦
      let gone : due_at now (d ∷ ds) ≡ [] = rw late (none_due now d ds late rises.0) in
      ap least gone ∙ (sym (rw late refl) ∙ ap (where_due now) (sym (least-first (d ∷ ds) rises)))
]

-- what a look at the front of a queue gives
pub front_is : (ds : List Deadline) (r : Option (Bor Deadline)) → (0 < length ds → IsSome r) → (IsSome r → 0 < length ds) →
    IfSome r (λ x. x.now ≡ get_or ds 0 x.now) → option_map (λ x. x.now) r ≡ slice_get ds 0
front_is [] None some inside at = refl
front_is [] (Some x) some inside at = absurd (omega (arith, inside refl))
front_is (d ∷ ds) None some inside at = absurd (false≢true (some (omega arith)))
front_is (d ∷ ds) (Some x) some inside at = ap Some at

-- ---- of any list

-- what isn't before one is before nothing that one isn't before
pub not_before : (a b c : Deadline) → deadline_before a b ≡ false → deadline_before b c ≡ false → deadline_before a c ≡ false
not_before a b c h k = false_from_ne_true (deadline_before a c) (λ lower. elim (cases_Bool (same_timer b c)) [
  | inl same ↦ false≢true (sym h ∙ (ap (deadline_before a) (timer_order.same_is b c same) ∙ lower))
  | inr other ↦ false≢true (sym h ∙ timer_order.transitive a c b lower (timer_order.connected b c other k))
])

-- where one stands before a list, a timer is that one or in the list
abbrev OfEither : Deadline → List Deadline → (Deadline → Type 0) → Type 0
OfEither d ds P = P d × ((e : Deadline) → has_timer e ds ≡ true → P e)

of_all : (P : Deadline → Type 0) (d : Deadline) (ds : List Deadline) → OfEither d ds P → (e : Deadline) → has_timer e (d ∷ ds) ≡ true → P e
of_all P d ds each e there = elim (cases_Bool (same_timer d e)) [
  | inl here ↦ subst P (timer_order.same_is d e here) each.0
  | inr gone ↦ each.1 e (rw gone at there)
]

first_of : (d : Deadline) (ds : List Deadline) → has_timer d (d ∷ ds) ≡ true
first_of d ds = has_first deadline_before same_timer timer_order d ds

earlier-is : (d : Deadline) (ds : List Deadline) (o : Option Deadline) → MatchOption o (ds ≡ []) (IsLeast ds) → IsLeast (d ∷ ds) (earlier d o)
earlier-is d ds None empty = record {
  among = first_of d ds;
  first = of_all (λ e. deadline_before e d ≡ false) d ds
      (timer_order.irreflexive d, λ e there. absurd (false≢true (ap (has_timer e) (sym empty) ∙ there)));
}
earlier-is d ds (Some m) h = elim (cases_Bool (deadline_before m d)) [
  | inl lower ↦
      let is : earlier d (Some m) ≡ m = rw lower refl in
      subst (IsLeast (d ∷ ds)) (sym is) record {
        among = or_right (same_timer d m) (has_timer m ds) h.among;
        first = of_all (λ e. deadline_before e m ≡ false) d ds (never_both deadline_before same_timer timer_order m d lower, h.first);
      }
  | inr upto ↦
      let is : earlier d (Some m) ≡ d = rw upto refl in
      subst (IsLeast (d ∷ ds)) (sym is) record {
        among = first_of d ds;
        first = of_all (λ e. deadline_before e d ≡ false) d ds
            (timer_order.irreflexive d, λ e there. not_before e m d (h.first e there) upto);
      }
]

pub least-is : (ds : List Deadline) → MatchOption (least ds) (ds ≡ []) (IsLeast ds)
least-is [] = refl
least-is (d ∷ ds) = earlier-is d ds (least ds) (least-is ds)

one_least : (ds : List Deadline) (a b : Deadline) → IsLeast ds a → IsLeast ds b → a ≡ b
one_least ds a b h k = elim (cases_Bool (same_timer a b)) [
  | inl same ↦ timer_order.same_is a b same
  | inr other ↦ absurd (false≢true (sym (h.first b k.among) ∙ timer_order.connected a b other (k.first a h.among)))
]

pub least-one : (ds : List Deadline) (d : Deadline) → IsLeast ds d → least ds ≡ Some d
least-one ds d h = is (least ds) (least-is ds)
  where
    is : (o : Option Deadline) → MatchOption o (ds ≡ []) (IsLeast ds) → o ≡ Some d
    is None empty = absurd (false≢true (ap (has_timer d) (sym empty) ∙ h.among))
    is (Some m) k = ap Some (one_least ds m d k h)

IsLeast-same : (xs ys : List Deadline) (d : Deadline) → HaveSame xs ys → IsLeast xs d → IsLeast ys d
IsLeast-same xs ys d same h = record {
  among = sym (same d) ∙ h.among;
  first = λ e there. h.first e (same e ∙ there);
}

nothing : (ds : List Deadline) → ((d : Deadline) → has_timer d ds ≡ false) → ds ≡ []
nothing [] h = refl
nothing (d ∷ ds) h = absurd (true≢false (sym (first_of d ds) ∙ h d))

pub least-same : (xs ys : List Deadline) → HaveSame xs ys → least xs ≡ least ys
least-same xs ys same = is (least xs) (least-is xs)
  where
    is : (o : Option Deadline) → MatchOption o (xs ≡ []) (IsLeast xs) → o ≡ least ys
    is None empty = sym (ap least (nothing ys (λ d. sym (same d) ∙ ap (has_timer d) empty)))
    is (Some d) h = sym (least-one ys d (IsLeast-same xs ys d same h))

pub HaveSame-due_at : (now : ℕ) (xs ys : List Deadline) → HaveSame xs ys → HaveSame (due_at now xs) (due_at now ys)
HaveSame-due_at now xs ys same d =
    has-filter deadline_before same_timer timer_order (λ e. nat_le e.at now) d xs
    ∙ (ap (λ b. b && nat_le d.at now) (same d) ∙ sym (has-filter deadline_before same_timer timer_order (λ e. nat_le e.at now) d ys))

-- ---- where there is none

pub none_when : (ds : List Deadline) (r : Option (ℕ × Cid × Kind)) → r ≡ told (least ds) → IsNone r ↔ (ds ≡ [])
none_when [] r e = (λ none. refl, λ empty. subst IsNone (sym e) refl)
none_when (d ∷ ds) r e = (
  λ none. let found : IsNone (told (least (d ∷ ds))) = subst IsNone e none in absurd (true≢false found),
  λ empty. cc,
)

all_later : (now : ℕ) (ds : List Deadline) → due_at now ds ≡ [] → AllByRecursion (λ d. now < d.at) ds
all_later now [] none = tt
all_later now (d ∷ ds) none = elim (cases_Bool (nat_le d.at now)) [
  | inl due ↦ let clash : d ∷ due_at now ds ≡ [] = sym (rw due refl) ∙ none in cc
  | inr late ↦ (leb-false d.at now late, all_later now ds (sym (rw late refl) ∙ none))
]

none_earlier : (now : ℕ) (ds : List Deadline) → AllByRecursion (λ d. now < d.at) ds → due_at now ds ≡ []
none_earlier now [] later = refl
none_earlier now (d ∷ ds) later = rw (lt-leb d.at now later.0) (none_earlier now ds later.1)

pub none_due_when : (now : ℕ) (ds : List Deadline) (r : Option (ℕ × Cid × Kind)) → r ≡ told (least (due_at now ds)) → IsNone r ↔ All (λ d. now < d.at) ds
none_due_when now ds r e =
    let when = none_when (due_at now ds) r e in (
      λ none. All-from_recursion (λ d. now < d.at) ds (all_later now ds (when.0 none)),
      λ later. when.1 (none_earlier now ds (recursion_from_All (λ d. now < d.at) ds later)),
    )
