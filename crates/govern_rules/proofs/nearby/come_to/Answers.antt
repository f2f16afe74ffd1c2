use Rattle.std.proofs.Common.{sym, ◌∙◌}
use Rattle.std.specs.List.{prefix_len}
use Rattle.net_base.specs.Address.{address_below}
use Rattle.govern_rules.proofs.Known.{first-found, run-known}
use Rattle.govern_rules.proofs.nearby.come_to.Goals as goal

pub returns-then-starts_at-clause-first : goal.returns-then-starts_at-clause-first
returns-then-starts_at-clause-first c =
    first-found c.args.addr.now c.passed-ahead.result.now c.args.book.now (c.passed-ahead.ensures c.args.book.now c.requires)
    (sym c.starts_at.ensures ∙ c.if-starts_at.true)

pub returns-else-starts_at-clause-known : goal.returns-else-starts_at-clause-known
returns-else-starts_at-clause-known c =
    run-known c.args.book.now c.run_at.result.now (prefix_len (λ p. address_below p.addr c.args.addr.now) c.args.book.now) c.run_at.ensures.ordered c.run_at.ensures.front

pub returns-then-starts_at-clause-known : goal.returns-then-starts_at-clause-known
returns-then-starts_at-clause-known c = c.passed-ahead.ensures c.args.book.now c.requires
