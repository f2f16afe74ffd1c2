-- How actions are printed.
use Rattle.std.specs.Prelude.{ℕ, List, [], ◌∷◌, ◌++◌, codes, decimal}
use Rattle.std.specs.List.{join_with_byte}
use Rattle.trace_text.specs.Actions.{fault_words}
use Rattle.trace_text.specs.Bytes.{bytes_words}
use Rattle.local_clients.specs.declared.action.ClientAction.{ClientAction}
use Rattle.local_clients.specs.declared.action.ClientAction.TheVariants.{Admit, Turnaway, Send, Open, Close}
use Rattle.local_clients.specs.declared.action.ClientCause.{ClientCause}
use Rattle.local_clients.specs.declared.action.ClientCause.TheVariants.{Refused, Query, Fault}

abbrev pub cause_words : ClientCause → List ℕ
cause_words Refused = codes "refused"
cause_words Query = codes "query"
cause_words (Fault kind) = fault_words kind

abbrev pub action_words : ClientAction → List (List ℕ)
action_words (Admit id) = codes "admit" ∷ decimal id ∷ []
action_words Turnaway = codes "turnaway" ∷ []
action_words (Send id bytes) = bytes_words (codes "send") id bytes
action_words (Open id version) = codes "open" ∷ decimal id ∷ decimal version ∷ []
action_words (Close id cause) = codes "close" ∷ decimal id ∷ cause_words cause ∷ []

-- an action's line, without its line feed
abbrev pub printed_action : ClientAction → List ℕ
printed_action action = codes "> " ++ join_with_byte 32 (action_words action)
