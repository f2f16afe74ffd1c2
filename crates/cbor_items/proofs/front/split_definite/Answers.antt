use Rattle.std.proofs.Common.{◌≡◌, ◌==◌, ◌-◌, true, false, Some, List, get_or, length, take, drop, sym, ap, ◌∙◌, arith, ℕ}
use Rattle.std.proofs.lemmas.Bool.Decides.{nat_tests}
use Rattle.cbor_items.specs.Head.{major_of, is_short}
use Rattle.cbor_items.proofs.Small.{definite_first, another_first}
use Rattle.cbor_items.proofs.front.split_definite.Goals as goal

pub returns-then-initial-major : goal.returns-then-initial-major
returns-then-initial-major c =
    let bytes : List ℕ = c.args.bytes.now in
    let short : is_short (get_or bytes 0 0) ≡ true = grind (arith, nat_tests, c.if-initial-lt24.true) in
    let its : (major_of (get_or bytes 0 0) == c.args.major) ≡ true = grind (arith, nat_tests, c.if-initial-major.true) in
    definite_first c.args.major bytes c.in-len1-up.len_at_least short its
    ∙ ap (λ n. Some (n, take (length bytes - 1) (drop 1 bytes))) (sym c.from.ensures)

pub returns-else-initial-major : goal.returns-else-initial-major
returns-else-initial-major c =
    let bytes : List ℕ = c.args.bytes.now in
    let short : is_short (get_or bytes 0 0) ≡ true = grind (arith, nat_tests, c.if-initial-lt24.true) in
    let other : (major_of (get_or bytes 0 0) == c.args.major) ≡ false = grind (arith, nat_tests, c.if-initial-major.false) in
    another_first c.args.major bytes c.in-len1-up.len_at_least short other
