-- What the lines of a head say, and the settings that they give.
use Rattle.std.proofs.Common.{◌≡◌, ◌≢◌, ℕ, zero, suc, ◌-◌, ◌<◌, ◌≤◌, min, Bool, true, false, cond, eqb, leb, List, [], ◌∷◌, ◌++◌, length, get_or, drop, Option, Some, None, ◌⊎◌, inl, inr, ⊎_elim, refl, sym, ap, ◌∙◌, subst, arith, eqb-true}
use Rattle.std.proofs.lemmas.Bool.{le-leb, and_from, eq-eqb, ne_eqb, eqb-false, cases_eq, cases_lt}
use Rattle.std.specs.Prelude.{codes, unwrap_or}
use Rattle.net_base.specs.Bounds.{within, is_interval, first_failing, settings_tests, AreSound}
use Rattle.net_base.specs.declared.address.Addr.{Addr}
use Rattle.net_base.specs.declared.settings.Field.{Field}
use Rattle.trace_text.specs.Settings.{Setting, setting, settings_under}
use Rattle.trace_text.specs.Stages.{first_stage, stage_after_head}
use Rattle.trace_text.specs.declared.line.HeadLine.{HeadLine}
use Rattle.trace_text.specs.declared.line.HeadLine.TheVariants.{Trace, Own, Set}
use Rattle.trace_text.specs.declared.stage.Stage.{Stage}
use Rattle.trace_meaning.specs.Heads.{AreHeads}
use Rattle.trace_meaning.specs.Settings.{version_in, set_in, set_or, settings_in}
use Rattle.trace_meaning.specs.Heads.{setting_at, IsInRange}
use Rattle.trace_meaning.proofs.Grammar.{IsSetAt, IsHeadAt}

pub AreHeads-none : AreHeads first_stage []
AreHeads-none = record {
  seen = omega arith;
  none_before = λ _. refl;
  version_least = omega arith;
  version_most = omega arith;
  hard = refl;
  none_later = λ place _. refl;
  in_range = λ place value e. absurd cc;
}

-- ---- one line more

version_in-own : (heads : List HeadLine) (address : Addr) → version_in (heads ++ Own address ∷ []) ≡ version_in heads
version_in-own [] address = refl
version_in-own (Trace version ∷ heads) address = refl
version_in-own (Own other ∷ heads) address = version_in-own heads address
version_in-own (Set place value ∷ heads) address = version_in-own heads address

version_in-set : (heads : List HeadLine) (p v : ℕ) → version_in (heads ++ Set p v ∷ []) ≡ version_in heads
version_in-set [] p v = refl
version_in-set (Trace version ∷ heads) p v = refl
version_in-set (Own other ∷ heads) p v = version_in-set heads p v
version_in-set (Set place value ∷ heads) p v = version_in-set heads p v

set_in-own : (place : ℕ) (heads : List HeadLine) (address : Addr) → set_in place (heads ++ Own address ∷ []) ≡ set_in place heads
set_in-own place [] address = refl
set_in-own place (Trace version ∷ heads) address = set_in-own place heads address
set_in-own place (Own other ∷ heads) address = set_in-own place heads address
set_in-own place (Set q w ∷ heads) address = ap (λ (o : Option ℕ). cond (eqb q place) (Some w) o) (set_in-own place heads address)

-- the place is set there, or nowhere before it
set_in-set_other : (place : ℕ) (heads : List HeadLine) (p v : ℕ) → p ≢ place → set_in place (heads ++ Set p v ∷ []) ≡ set_in place heads
set_in-set_other place [] p v other = rw (ne_eqb p place other) refl
set_in-set_other place (Trace version ∷ heads) p v other = set_in-set_other place heads p v other
set_in-set_other place (Own address ∷ heads) p v other = set_in-set_other place heads p v other
set_in-set_other place (Set q w ∷ heads) p v other = ap (λ (o : Option ℕ). cond (eqb q place) (Some w) o) (set_in-set_other place heads p v other)

set_in-set_same : (heads : List HeadLine) (p v : ℕ) → set_in p heads ≡ None → set_in p (heads ++ Set p v ∷ []) ≡ Some v
set_in-set_same [] p v none = rw (eq-eqb p p refl) refl
set_in-set_same (Trace version ∷ heads) p v none = set_in-set_same heads p v none
set_in-set_same (Own address ∷ heads) p v none = set_in-set_same heads p v none
set_in-set_same (Set q w ∷ heads) p v none = at_place (eqb q p) none (set_in-set_same heads p v)
  where
    at_place : (b : Bool) → cond b (Some w) (set_in p heads) ≡ None → (set_in p heads ≡ None → set_in p (heads ++ Set p v ∷ []) ≡ Some v) →
        cond b (Some w) (set_in p (heads ++ Set p v ∷ [])) ≡ Some v
    at_place true e later = absurd cc
    at_place false e later = later e

-- only the setting at one place depends on the hard limit
get_or-but_one : {A : Type 0} (xs : List A) (y z : A) (ys : List A) (k : ℕ) (d : A) → k ≢ length xs → get_or (xs ++ y ∷ ys) k d ≡ get_or (xs ++ z ∷ ys) k d
get_or-but_one [] y z ys zero d other = absurd (other refl)
get_or-but_one [] y z ys (suc k) d other = refl
get_or-but_one (x ∷ xs) y z ys zero d other = refl
get_or-but_one (x ∷ xs) y z ys (suc k) d other = get_or-but_one xs y z ys k d (λ e. other (ap suc e))

pub setting_at-hard : (hard other place : ℕ) → place - 1 ≢ 4 → setting_at hard place ≡ setting_at other place
unfolding setting_at
setting_at-hard hard other place not_soft =
    let front : List Setting = setting (codes "magic") 0 4294967295 ∷ setting (codes "initiatoronly") 0 1 ∷ setting (codes "sharing") 0 1 ∷ setting (codes "hard") 1 10000 ∷ [] in
    get_or-but_one front (setting (codes "soft") 0 hard) (setting (codes "soft") 0 other) (drop 5 (settings_under hard)) (place - 1) (setting [] 0 0) not_soft

IsInRange-hard : (hard other place value : ℕ) → place < 4 → IsInRange hard place value → IsInRange other place value
IsInRange-hard hard other place value low at =
    let same = setting_at-hard hard other place (omega arith) in
    record { placed = at.placed; known = at.known; least = rw (← same) at.least; most = rw (← same) at.most }

AreHeads-trace : (stage : Stage) (version : ℕ) → IsHeadAt stage (Trace version) → AreHeads stage [] → AreHeads (stage_after_head stage (Trace version)) (Trace version ∷ [])
AreHeads-trace stage version at h = record {
  seen = omega arith;
  none_before = λ e. absurd (omega arith);
  version_least = at.1;
  version_most = at.2;
  hard = h.hard;
  none_later = λ place _. refl;
  in_range = λ place value e. absurd cc;
}

AreHeads-own : (stage : Stage) (heads : List HeadLine) (address : Addr) → AreHeads stage heads → AreHeads (stage_after_head stage (Own address)) (heads ++ Own address ∷ [])
AreHeads-own stage heads address h = record {
  seen = omega arith;
  none_before = λ e. absurd (omega arith);
  version_least = omega (arith, h.version_least, version_in-own heads address);
  version_most = omega (arith, h.version_most, version_in-own heads address);
  hard = h.hard ∙ ap (λ o. unwrap_or o 512) (sym (set_in-own 4 heads address));
  none_later = λ place later. set_in-own place heads address ∙ h.none_later place later;
  in_range = λ place value e. h.in_range place value (sym (set_in-own place heads address) ∙ e);
}

-- the hard limit behind a setting
hard_after : ℕ → ℕ → ℕ → ℕ
hard_after hard p v = cond (eqb p 4) v hard

set_in-set : (stage : Stage) (heads : List HeadLine) (p v place value : ℕ) → AreHeads stage heads → stage.last < p →
    set_in place (heads ++ Set p v ∷ []) ≡ Some value → ((p ≡ place) × (v ≡ value)) ⊎ (set_in place heads ≡ Some value)
set_in-set stage heads p v place value h later e =
    ⊎_elim
    (λ same. inl (
      same,
      (let found = set_in-set_same heads p v (h.none_later p later) in
          let there : set_in p (heads ++ Set p v ∷ []) ≡ Some value = ap (λ q. set_in q (heads ++ Set p v ∷ [])) same ∙ e in
          cc),
    ))
    (λ other. inr (sym (set_in-set_other place heads p v other) ∙ e))
    (cases_eq p place)

-- what was set stands below the place of the last setting
set_in-low : (stage : Stage) (heads : List HeadLine) (place value : ℕ) → AreHeads stage heads → set_in place heads ≡ Some value → place ≤ stage.last
set_in-low stage heads place value h e =
    ⊎_elim (λ later. absurd (let none = h.none_later place later in cc)) (λ low. low) (cases_lt stage.last place)

set_in_range : (stage : Stage) (heads : List HeadLine) (p v place value : ℕ) (b : Bool) → AreHeads stage heads → eqb p 4 ≡ b → stage.last < p →
    IsInRange stage.hard p v → ((p ≡ place) × (v ≡ value)) ⊎ (set_in place heads ≡ Some value) → IsInRange (cond b v stage.hard) place value
set_in_range stage heads p v place value true h is later at (inl same) =
    let four : p ≡ 4 = eqb-true p 4 is in
    let ranged : IsInRange stage.hard 4 v = subst (λ q. IsInRange stage.hard q v) four at in
    let low = setting_at-hard stage.hard v 4 (omega arith) in
    let moved : IsInRange v 4 v = record { placed = ranged.placed; known = ranged.known; least = rw (← low) ranged.least; most = rw (← low) ranged.most } in
    subst (λ w. IsInRange v place w) same.1 (subst (λ q. IsInRange v q v) (sym four ∙ same.0) moved)
set_in_range stage heads p v place value false h is later at (inl same) =
    subst (λ w. IsInRange stage.hard place w) same.1 (subst (λ q. IsInRange stage.hard q v) same.0 at)
set_in_range stage heads p v place value true h is later at (inr e) =
    let four : p ≡ 4 = eqb-true p 4 is in
    let low = set_in-low stage heads place value h e in
    IsInRange-hard stage.hard v place value (omega arith) (h.in_range place value e)
set_in_range stage heads p v place value false h is later at (inr e) = h.in_range place value e

hard_set : (stage : Stage) (heads : List HeadLine) (p v : ℕ) (b : Bool) → AreHeads stage heads → eqb p 4 ≡ b → stage.last < p →
    cond b v stage.hard ≡ set_or 4 512 (heads ++ Set p v ∷ [])
hard_set stage heads p v true h is later =
    let four : p ≡ 4 = eqb-true p 4 is in
    let there : set_in p (heads ++ Set p v ∷ []) ≡ Some v = set_in-set_same heads p v (h.none_later p later) in
    sym (ap (λ o. unwrap_or o 512) (ap (λ q. set_in q (heads ++ Set p v ∷ [])) (sym four) ∙ there))
hard_set stage heads p v false h is later =
    h.hard ∙ ap (λ o. unwrap_or o 512) (sym (set_in-set_other 4 heads p v (eqb-false p 4 is)))

AreHeads-set : (stage : Stage) (heads : List HeadLine) (p v : ℕ) → IsSetAt stage p v → AreHeads stage heads → AreHeads (stage_after_head stage (Set p v)) (heads ++ Set p v ∷ [])
AreHeads-set stage heads p v at h = record {
  seen = h.seen;
  none_before = λ e. absurd (eqb-false stage.seen 0 at.behind.no_first e);
  version_least = omega (arith, h.version_least, version_in-set heads p v);
  version_most = omega (arith, h.version_most, version_in-set heads p v);
  hard = hard_set stage heads p v (eqb p 4) h refl at.later;
  none_later = λ place later. set_in-set_other place heads p v (omega arith) ∙ h.none_later place (omega (arith, at.later));
  in_range = λ place value e. set_in_range stage heads p v place value (eqb p 4) h refl at.later at.in_range
      (set_in-set stage heads p v place value h at.later e);
}

-- a line of the head that is read at the stage leaves heads that were read
pub AreHeads-more : (stage : Stage) (heads : List HeadLine) (head : HeadLine) → IsHeadAt stage head → AreHeads stage heads → AreHeads (stage_after_head stage head) (heads ++ head ∷ [])
AreHeads-more stage heads (Trace version) at h =
    let none : heads ≡ [] = h.none_before at.0 in
    subst (λ (xs : List HeadLine). AreHeads (stage_after_head stage (Trace version)) (xs ++ Trace version ∷ [])) (sym none)
    (AreHeads-trace stage version at (subst (λ (xs : List HeadLine). AreHeads stage xs) none h))
AreHeads-more stage heads (Own address) at h = AreHeads-own stage heads address h
AreHeads-more stage heads (Set p v) at h = AreHeads-set stage heads p v at h

-- ---- the settings

set_or-in : (P : ℕ → Type 0) (place usual : ℕ) (heads : List HeadLine) → P usual → ((value : ℕ) → set_in place heads ≡ Some value → P value) → P (set_or place usual heads)
set_or-in P place usual heads at_usual at_set = by_cases (set_in place heads) at_set
  where
    by_cases : (o : Option ℕ) → ((value : ℕ) → o ≡ Some value → P value) → P (unwrap_or o usual)
    by_cases None h = at_usual
    by_cases (Some value) h = h value refl

-- a setting is in the range of its place, where the usual value is
at_place : (stage : Stage) (heads : List HeadLine) (place least most usual : ℕ) → AreHeads stage heads →
    (setting_at stage.hard place).least ≡ least → (setting_at stage.hard place).most ≡ most → least ≤ usual → usual ≤ most →
    (least ≤ set_or place usual heads) × (set_or place usual heads ≤ most)
at_place stage heads place least most usual h l m low high =
    set_or-in (λ v. (least ≤ v) × (v ≤ most)) place usual heads (low, high)
    (λ value e. let at = h.in_range place value e in (omega (arith, at.least, l), omega (arith, at.most, m)))

-- each test passes
abbrev EachPasses : List (Field × Bool) → Type 0
EachPasses [] = Unit {0}
EachPasses (test ∷ tests) = (test.1 ≡ true) × EachPasses tests

first_failing-none : (tests : List (Field × Bool)) → EachPasses tests → first_failing tests ≡ None
first_failing-none [] h = refl
first_failing-none (test ∷ tests) h = rw h.0 (first_failing-none tests h.1)

both_within : (least most n : ℕ) → (least ≤ n) × (n ≤ most) → within least most n ≡ true
both_within least most n h = and_from (leb least n) (leb n most) (le-leb least n h.0) (le-leb n most h.1)

at_interval : (stage : Stage) (heads : List HeadLine) (place usual : ℕ) → AreHeads stage heads →
    (setting_at stage.hard place).least ≡ 1 → (setting_at stage.hard place).most ≡ 86400000 → 1 ≤ usual → usual ≤ 86400000 →
    is_interval (set_or place usual heads) ≡ true
at_interval stage heads place usual h l m low high =
    both_within 1 86400000 (set_or place usual heads) (at_place stage heads place 1 86400000 usual h l m low high)

-- the soft limit is at most the hard one
soft_below : (stage : Stage) (heads : List HeadLine) → AreHeads stage heads → set_or 5 (min 384 (set_or 4 512 heads)) heads ≤ set_or 4 512 heads
unfolding setting_at
soft_below stage heads h =
    let P : ℕ → Type 0 = λ v. v ≤ set_or 4 512 heads in
    set_or-in P 5 (min 384 (set_or 4 512 heads)) heads (omega arith)
    (λ value e. let most : value ≤ stage.hard = (h.in_range 5 value e).most in omega (arith, h.hard))

-- settings that a head gives pass the check
pub AreSound-heads : (stage : Stage) (heads : List HeadLine) → AreHeads stage heads → AreSound (settings_in heads)
unfolding setting_at
AreSound-heads stage heads h = first_failing-none (settings_tests (settings_in heads)) (
  both_within 1 2 (version_in heads) (h.version_least, h.version_most),
  (
    le-leb _ _ (at_place stage heads 1 0 4294967295 42 h refl refl (omega arith) (omega arith)).1,
    (
      le-leb _ _ (at_place stage heads 2 0 1 0 h refl refl (omega arith) (omega arith)).1,
      (
        le-leb _ _ (at_place stage heads 3 0 1 1 h refl refl (omega arith) (omega arith)).1,
        (
          both_within 1 10000 (set_or 4 512 heads) (at_place stage heads 4 1 10000 512 h refl refl (omega arith) (omega arith)),
          (
            le-leb _ _ (soft_below stage heads h),
            (
              at_interval stage heads 6 5000 h refl refl (omega arith) (omega arith),
              (
                at_interval stage heads 7 5000 h refl refl (omega arith) (omega arith),
                (
                  at_interval stage heads 8 60000 h refl refl (omega arith) (omega arith),
                  (
                    at_interval stage heads 9 10000 h refl refl (omega arith) (omega arith),
                    (
                      at_interval stage heads 10 10000 h refl refl (omega arith) (omega arith),
                      (
                        at_interval stage heads 11 5000 h refl refl (omega arith) (omega arith),
                        (
                          at_interval stage heads 12 900000 h refl refl (omega arith) (omega arith),
                          (
                            le-leb _ _ (at_place stage heads 13 0 8 2 h refl refl (omega arith) (omega arith)).1,
                            tt,
                          ),
                        ),
                      ),
                    ),
                  ),
                ),
              ),
            ),
          ),
        ),
      ),
    ),
  ),
)
