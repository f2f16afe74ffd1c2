use Rattle.std.proofs.Common.{◌≡◌, false, true, is_some, slice_get, ◌∙◌, rules}
use Rattle.peer_book.specs.Order.{found_at}
use Rattle.govern_rules.proofs.Known.{first-alone, none-listed, some-first}
use Rattle.govern_rules.proofs.nearby.first_at.Goals as goal

pub returns-then-not-starts_at : goal.returns-then-not-starts_at
returns-then-not-starts_at c =
    let none : is_some (found_at (λ p. p.addr) c.args.addr.now (slice_get c.args.run.now 0)) ≡ false = search rules in
    none-listed (found_at (λ p. p.addr) c.args.addr.now (slice_get c.args.run.now 0)) none

pub split_at-requires : goal.split_at-requires
split_at-requires c =
    let there : is_some (found_at (λ p. p.addr) c.args.addr.now (slice_get c.args.run.now 0)) ≡ true = search rules in
    some-first c.args.addr.now c.args.run.now there

pub returns : goal.returns
returns c =
    let there : is_some (found_at (λ p. p.addr) c.args.addr.now (slice_get c.args.run.now 0)) ≡ true = search rules in
    c.split_at.ensures.front ∙ first-alone c.args.addr.now c.args.run.now there
