use Rattle.std.proofs.Common.{◌≡◌, List, ℕ, subst, sym, rules}
use Rattle.std.specs.Prelude.{Contains}
use Rattle.trace_text.specs.Actions.{printed_action}
use Rattle.trace_text.proofs.ActionLaws.{no_feed}
use Rattle.trace_text.proofs.print.print_action.Goals as goal

pub returns-clause-one_line : goal.returns-clause-one_line
returns-clause-one_line c =
    let printed : c.from_vec.result ≡ printed_action c.args.action.now = search rules in
    subst (λ (line : List ℕ). Contains line 10 → ⊥) (sym printed) (no_feed c.args.action.now)
