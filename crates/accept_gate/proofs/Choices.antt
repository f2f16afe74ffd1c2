-- The candidate that goes first.
use Rattle.std.proofs.Common.{◌≡◌, ℕ, suc, ◌<◌, Bool, true, false, if◌then◌else◌, List, [], ◌∷◌, length, drop, get_or, Option, Some, None, All, Contains, refl, arith}
use Rattle.std.proofs.Math.Seq.{drop-cons}
use Rattle.std.proofs.lemmas.List.Elements.{All-cons, All-nil, All-weaker, Contains-append_right}
use Rattle.accept_gate.specs.declared.prune.Candidate.{Candidate}
use Rattle.accept_gate.specs.Prune.{goes_before, first_of, first_to_go}
use Rattle.accept_gate.specs.Law.{IsFirstToGo, GoesFirst}

-- from one place on, by what is known from the next place on
pub first_to_go-from : (cs : List Candidate) (place next : ℕ) (d found : Candidate) (first : Option Candidate) →
    place < length cs → next ≡ suc place → found ≡ first_of (get_or cs place d) first → first ≡ first_to_go (drop next cs) →
    Some found ≡ first_to_go (drop place cs)
unfolding first_to_go
first_to_go-from cs place next d found first lt is_next is_found so_far =
    rw (drop-cons cs place d lt, is_found, so_far, is_next) refl

irreflexive : (a : Candidate) → goes_before a a ≡ false
irreflexive a = grind arith

asymmetric : (a b : Candidate) → goes_before a b ≡ true → goes_before b a ≡ false
asymmetric a b h = grind arith

negatively_transitive : (a b c : Candidate) → goes_before a b ≡ false → goes_before b c ≡ false → goes_before a c ≡ false
negatively_transitive a b c h i = grind arith

abbrev IsBehind : Candidate → Candidate → Type 0
IsBehind c d = goes_before d c ≡ false

contains-head : (c : Candidate) (cs : List Candidate) → Contains (c ∷ cs) c
contains-head c cs = (0, omega arith, refl)

chosen : (b : Bool) (c d : Candidate) (cs : List Candidate) → goes_before d c ≡ b → Contains cs d → All (IsBehind d) cs →
    IsFirstToGo (Some (if b then d else c)) (c ∷ cs)
chosen true c d cs h has all = (Contains-append_right (c ∷ []) cs d has, All-cons (IsBehind d) c cs (asymmetric d c h) all)
chosen false c d cs h has all =
    (contains-head c cs, All-cons (IsBehind c) c cs (irreflexive c) (All-weaker (IsBehind d) (IsBehind c) (λ e g. negatively_transitive e d c g h) cs all))

with-rest : (c : Candidate) (cs : List Candidate) (first : Option Candidate) → IsFirstToGo first cs →
    IsFirstToGo (Some (first_of c first)) (c ∷ cs)
with-rest c cs None h = rw h (contains-head c [], All-cons (IsBehind c) c [] (irreflexive c) (All-nil (IsBehind c)))
with-rest c cs (Some d) h = chosen (goes_before d c) c d cs refl h.0 h.1

pub first_to_go-law : GoesFirst
unfolding first_to_go
first_to_go-law [] = refl
first_to_go-law (c ∷ cs) = with-rest c cs (first_to_go cs) (first_to_go-law cs)
