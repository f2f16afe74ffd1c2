use Rattle.std.proofs.Common.{◌≡◌, ◌+◌, ◌<◌, ◌≤◌, nat_le, nat_lt, true, false, length, get_or, List, ℕ, ap, sym, ◌∙◌, arith}
use Rattle.std.proofs.lemmas.Bool.Decides.{nat_tests}
use Rattle.std.proofs.lemmas.Grind.{get_or_default_zero}
use Rattle.chunked_list.proofs.Points.{point_from_edges}
use Rattle.chunked_list.proofs.first.is_in.Goals as goal

at_most : (n m : ℕ) → n ≤ m → nat_le n m ≡ true
at_most n m h = grind (arith, nat_tests)

above : (n m : ℕ) → nat_lt m n ≡ true → nat_le n m ≡ false
above n m h = grind (arith, nat_tests)

pub returns-then-firsts-chunk : goal.returns-then-firsts-chunk
returns-then-firsts-chunk c below parted =
    let fs : List ℕ = c.args.firsts.now in
    let place : ℕ = c.args.place in
    let chunk : ℕ = c.args.chunk in
    point_from_edges (λ f. nat_le f place) fs (chunk + 1) (omega (arith, c.if-chunk-last.false, c.requires))
    (λ d some. ap (λ (n : ℕ). nat_le (get_or fs n d) place) (omega arith)
    ∙ ap (λ (f : ℕ). nat_le f place) (get_or_default_zero fs chunk d (omega (arith, c.if-chunk-last.false, c.requires)))
    ∙ at_most (get_or fs chunk 0) place c.if-firsts-chunk.true)
    (λ d more. ap (λ (f : ℕ). nat_le f place) (get_or_default_zero fs (chunk + 1) d more) ∙ above (get_or fs (chunk + 1) 0) place below)
    parted
