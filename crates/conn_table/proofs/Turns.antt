-- One state in place of another, or gone, as the list of facts sees it.
use Rattle.std.proofs.Common.{◌≡◌, ℕ, suc, zero, ◌+◌, ◌<◌, ◌≤◌, Bool, cond, List, [], ◌∷◌, ◌++◌, map, length, refl, ap, ◌∙◌, arith}
use Rattle.std.specs.List.{remove, count_by}
use Rattle.std.proofs.lemmas.List.Sums.{count_by-le-length, sum_by-append, sum_by-cons}
use Rattle.net_base.specs.declared.connection.Facts.{Facts}
use Rattle.conn_state.specs.State.{facts_of}
use Rattle.conn_state.specs.declared.state.ConnState.{ConnState}
use Rattle.conn_table.specs.Table.{IdsRise}
use Rattle.conn_table.proofs.Lives.{length-rise}

abbrev pub one_if : Bool → ℕ
one_if b = cond b 1 0

pub map-remove : (xs : List ConnState) (k : ℕ) → k < length xs → map facts_of (remove xs k) ≡ remove (map facts_of xs) k
map-remove [] k inside = absurd (omega (arith, inside))
map-remove (x ∷ xs) zero inside = refl
map-remove (x ∷ xs) (suc k) inside = ap (λ l. facts_of x ∷ l) (map-remove xs k (omega (arith, inside)))

-- as many are counted as there are ids at most
pub count_within : (p : Facts → Bool) (most : ℕ) (fs : List Facts) → IdsRise 0 most fs → count_by p fs ≤ most
count_within p most fs rises = omega (arith, count_by-le-length p fs, length-rise 0 most fs rises)

pub count-push : (p : Facts → Bool) (fs : List Facts) (f : Facts) → count_by p (fs ++ f ∷ []) ≡ count_by p fs + cond (p f) 1 0
count-push p fs f =
    sum_by-append (λ x. cond (p x) 1 0) fs (f ∷ [])
    ∙ ap (λ n. count_by p fs + n) (sum_by-cons (λ x. cond (p x) 1 0) f [] ∙ omega arith)
