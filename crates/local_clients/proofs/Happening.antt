-- What a line comes to that says an event, and that no line differs.
use Rattle.std.proofs.Common.{◌≡◌, ℕ, ◌+◌, ◌<◌, Bool, true, false, cond, leb, List, ◌∷◌, ◌++◌, map, Ok, sym, ap, ◌∙◌}
use Rattle.std.proofs.lemmas.Bool.{lt-leb}
use Rattle.io_edge.specs.Lines.{ended_lines}
use Rattle.line_run.specs.Meaning.{goes_on, differs, is_too_many, IsInterpreted}
use Rattle.line_run.proofs.Differing.{NeverDiffers}
use Rattle.line_run.proofs.Meant.{read_never_differs}
use Rattle.local_clients.specs.declared.action.ClientAction.{ClientAction}
use Rattle.local_clients.specs.declared.client_line.ClientLine.{ClientLine}
use Rattle.local_clients.specs.declared.client_line.ClientLine.TheVariants.{Happen, Skipped, End}
use Rattle.local_clients.specs.declared.event.ClientEvent.{ClientEvent}
use Rattle.local_clients.specs.Clients.{ClientsState, stepped}
use Rattle.local_clients.specs.Lines.{client_line}
use Rattle.local_clients.specs.Replay.{most_events, event_means, said_means, line_means}
use Rattle.local_clients.specs.Texts.{printed_action}

pub event_done : (c next : ClientsState) (text : List ℕ) (event : ClientEvent) (actions : List ClientAction) (before after : List ℕ) → c.taken < most_events →
    next ≡ record { rules = c.rules; taken = c.taken + 1; table = (stepped c.rules event c.table).table } → actions ≡ (stepped c.rules event c.table).actions →
    after ≡ before ++ ended_lines (text ∷ map printed_action actions) → IsInterpreted (event_means c text event) next before after (Ok tt)
event_done c next text event actions before after few leads-to does said =
    let early : leb most_events c.taken ≡ false = lt-leb most_events c.taken few in
    let done = stepped c.rules event c.table in
    let to : ClientsState = record { rules = c.rules; taken = c.taken + 1; table = done.table } in
    let leads : goes_on to (text ∷ map printed_action done.actions) ≡ goes_on next (text ∷ map printed_action actions) =
    ap (λ (n : ClientsState). goes_on n (text ∷ map printed_action done.actions)) (sym leads-to)
    ∙ ap (λ (all : List ClientAction). goes_on next (text ∷ map printed_action all)) (sym does) in (
      text ∷ map printed_action actions,
      ap (λ (b : Bool). cond b is_too_many (goes_on to (text ∷ map printed_action done.actions))) early ∙ leads,
      said,
    )

-- no line differs
pub line_never_differs : NeverDiffers line_means
line_never_differs c text lines = read_never_differs (client_line text) (said_means c text) c lines by_line
  where
    by_many : (b : Bool) (next : ClientsState) (said : List (List ℕ)) → cond b is_too_many (goes_on next said) ≡ differs lines → ⊥
    by_many true next said e = absurd cc
    by_many false next said e = absurd cc

    by_line : (line : ClientLine) → said_means c text line ≡ differs lines → ⊥
    by_line (Happen event) e = by_many (leb most_events c.taken) _ _ e
    by_line Skipped e = absurd cc
    by_line End e = absurd cc
