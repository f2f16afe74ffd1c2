use Rattle.std.proofs.Common.{◌≡◌, List, ℕ, subst, sym, rules}
use Rattle.std.specs.Prelude.{Ok}
use Rattle.net_base.specs.Limits.{IsWithinLimits}
use Rattle.trace_text.specs.declared.line.Line.TheVariants.{Happen}
use Rattle.trace_text.specs.EventTexts.{IsEventIn, event_of, printed_event}
use Rattle.trace_text.proofs.PrintedEvents.{printed_again}
use Rattle.trace_text.proofs.event_text.print_event.Goals as goal

pub returns-clause-read : goal.returns-clause-read
returns-clause-read c =
    let event = c.args.event.now in
    let printed : c.from_vec.result ≡ printed_event event = search rules in
    subst (λ (line : List ℕ). (version : ℕ) → IsWithinLimits event → IsEventIn version event → event_of version line ≡ Ok (Happen event)) (sym printed) (λ version. printed_again version event)
