-- Who stands in a queue in which no key stands twice.
use Rattle.std.proofs.Common.{◌≡◌, ℕ, Bool, true, false, cond, ◌==◌, ◌||◌, List, [], ◌∷◌, ◌++◌, refl, ap, ◌∙◌, arith, sym, subst}
use Rattle.std.proofs.lemmas.Bool.Decides.{nat_tests}
use Rattle.std.proofs.lemmas.List.Folds.{list_any-append}
use Rattle.socket_flow.specs.Turns.{has_turn, IsOnce}

has_turn-append : (queue : List ℕ) (key k : ℕ) → has_turn (queue ++ key ∷ []) k ≡ (has_turn queue k || (k == key || false))
has_turn-append queue key k = list_any-append (λ other. k == other) queue (key ∷ [])

or_cases : (a b : Bool) → (a || b) ≡ false → (a ≡ false) × (b ≡ false)
or_cases true b h = absurd (cc)
or_cases false b h = (refl, h)

apart : (k key : ℕ) (a : Bool) → a ≡ false → k == key ≡ false → (a || (k == key || false)) ≡ false
apart k key a h e = rw (h, e) refl

turned : (a b : ℕ) → a == b ≡ false → b == a ≡ false
turned a b h = grind (arith, nat_tests)

pub once-append : (queue : List ℕ) (key : ℕ) → IsOnce queue → has_turn queue key ≡ false → IsOnce (queue ++ key ∷ [])
once-append [] key once none = (refl, tt)
once-append (k ∷ queue) key once none =
    let parts = or_cases (key == k) (has_turn queue key) none in
    (rw (has_turn-append queue key k) (apart k key (has_turn queue k) once.0 (turned key k parts.0)), once-append queue key once.1 parts.1)

member_more : (same here : Bool) (k key : ℕ) → cond (key == k) true here ≡ (here || (k == key || false))
member_more same true k key = grind (arith, nat_tests)
member_more same false k key = grind (arith, nat_tests)

pub members-pushed : (queue : List ℕ) (key k : ℕ) (old new : Bool) → old ≡ has_turn queue k → new ≡ cond (key == k) true old → new ≡ has_turn (queue ++ key ∷ []) k
members-pushed queue key k old new was is = rw (is, was, has_turn-append queue key k) (member_more true (has_turn queue k) k key)

equal : (a b : ℕ) → a == b ≡ true → a ≡ b
equal a b h = grind (arith, nat_tests)

-- by whether the one taken out is the one asked for
popped : (queue : List ℕ) (key k : ℕ) (old new test : Bool) → key == k ≡ test → has_turn queue key ≡ false → old ≡ has_turn (key ∷ queue) k → new ≡ cond test false old → new ≡ has_turn queue k
popped queue key k old new true same none was is =
    is ∙ sym (subst (λ x. has_turn queue x ≡ false) (equal key k same) none)
popped queue key k old new false other none was is =
    is ∙ (was ∙ ap (λ b. b || has_turn queue k) (turned key k other))

pub members-popped : (queue : List ℕ) (key k : ℕ) (old new : Bool) → has_turn queue key ≡ false → old ≡ has_turn (key ∷ queue) k → new ≡ cond (key == k) false old → new ≡ has_turn queue k
members-popped queue key k old new none was is = popped queue key k old new (key == k) refl none was is
