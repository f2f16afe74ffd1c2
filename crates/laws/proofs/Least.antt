-- The deadline that fires is the least of all.
use Rattle.std.proofs.Common.{ℕ, ◌≤◌, ◌≡◌, Bool, true, false, ◌&&◌, ◌||◌, ◌==◌, nat_lt, nat_le, if◌then◌else◌, List, [], ◌∷◌, filter, Some, refl, sym, subst, arith, leb-true, leb-false}
use Rattle.laws.proofs.Words.{All-from_recursion}
use Rattle.laws.specs.Words.{AllByRecursion, deadline_before, kind_place, Deadline, deadlines, due, earlier, least, Machine}
use Rattle.laws.specs.Parts.{IsLeastDue}
use Rattle.laws.proofs.Firing.{least-none, due-contains}
use Rattle.laws.specs.Steady.{IsOrdered}
use Rattle.laws.proofs.Each.{weaker}
use Rattle.laws.proofs.Moments.{due-waited}
use Rattle.laws.proofs.Cases.{by_bool, by_option, some_same}

abbrev lower : (a b i j x y : ℕ) → Bool
lower a b i j x y = nat_lt a b || (a == b && (nat_lt i j || (i == j && nat_lt x y)))

-- of three, where neither the first is before the second nor the second before the third: by one number, and then the rest
none_before : (a b c : ℕ) (p q r : Bool) → (nat_lt a b || (a == b && p)) ≡ false → (nat_lt b c || (b == c && q)) ≡ false → (p ≡ false → q ≡ false → r ≡ false) →
    (nat_lt a c || (a == c && r)) ≡ false
none_before a b c false false r one two rest = grind (arith, one, two, rest refl refl)
none_before a b c p q r one two rest = grind (arith, one, two)

none_lower : (a b c i j k x y z : ℕ) → lower a b i j x y ≡ false → lower b c j k y z ≡ false → lower a c i k x z ≡ false
none_lower a b c i j k x y z one two = none_before a b c _ _ _ one two (λ p q. none_before i j k _ _ _ p q (λ x y. grind (arith, x, y)))

one_lower : (a b i j x y : ℕ) → lower a b i j x y ≡ true → lower b a j i y x ≡ false
one_lower a b i j x y h = grind arith

not_before : (a b c : Deadline) → deadline_before a b ≡ false → deadline_before b c ≡ false → deadline_before a c ≡ false
not_before a b c one two = none_lower a.at b.at c.at a.cid.0 b.cid.0 c.cid.0 (kind_place a.kind) (kind_place b.kind) (kind_place c.kind) one two

before_other : (a b : Deadline) → deadline_before a b ≡ true → deadline_before b a ≡ false
before_other a b h = one_lower a.at b.at a.cid.0 b.cid.0 (kind_place a.kind) (kind_place b.kind) h

before_itself : (a : Deadline) → deadline_before a a ≡ false
before_itself a = grind arith

least-first : (ds : List Deadline) (d : Deadline) → least ds ≡ Some d → AllByRecursion (λ x. deadline_before x d ≡ false) ds
least-first [] d e = tt
least-first (x ∷ xs) d e = by_option (least xs)
    (λ o. ((y : Deadline) → o ≡ Some y → AllByRecursion (λ z. deadline_before z y ≡ false) xs) → Some (earlier x o) ≡ Some d → AllByRecursion (λ z. deadline_before z d ≡ false) (x ∷ xs))
    (λ is later same. subst (λ w. AllByRecursion (λ z. deadline_before z w ≡ false) (x ∷ xs)) (some_same x d same)
    (before_itself x, subst (AllByRecursion (λ z. deadline_before z x ≡ false)) (sym (least-none xs is)) tt))
    (λ y is later same. subst (λ w. AllByRecursion (λ z. deadline_before z w ≡ false) (x ∷ xs)) (some_same (earlier x (Some y)) d same) (by_bool (deadline_before y x)
    (λ b. AllByRecursion (λ z. deadline_before z (if b then y else x) ≡ false) (x ∷ xs))
    (λ before. (before_other y x before, later y refl))
    (λ after. (before_itself x, weaker xs (λ z h. not_before z y x h after) (later y refl))))) (least-first xs) e

-- one that is not due yet is not before one that is
later : (now : ℕ) (x d : Deadline) → d.at ≤ now → nat_le x.at now ≡ false → deadline_before x d ≡ false
later now x d due_by after = grind (arith, leb-false x.at now after)

not_due : (now : ℕ) (d : Deadline) → d.at ≤ now → (ds : List Deadline) → AllByRecursion (λ x. deadline_before x d ≡ false) (filter (λ x. nat_le x.at now) ds) →
    AllByRecursion (λ x. deadline_before x d ≡ false) ds
not_due now d due_by [] h = tt
not_due now d due_by (x ∷ ds) h = grind (arith, h, later now x d due_by, not_due now d due_by ds)

pub least-due : (m : Machine) (d : Deadline) → IsOrdered m → due m ≡ Some d → IsLeastDue m d
least-due m d h is =
    let known = due-contains m d is in
    let late : d.at ≤ m.now = leb-true d.at m.now known.1 in
    record {
      among = known.0;
      due = late;
      waited = due-waited m d h is;
      first = All-from_recursion (λ x. deadline_before x d ≡ false) (deadlines m)
          (not_due m.now d late (deadlines m) (least-first (filter (λ x. nat_le x.at m.now) (deadlines m)) d is));
    }
