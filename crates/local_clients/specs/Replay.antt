-- What each line means to the clients: an event is done, and written with its actions below it.
use Rattle.std.specs.Prelude.{ℕ, ◌+◌, nat_le, List, [], ◌∷◌, map, take, if◌then◌else◌, Option}
use Rattle.io_edge.specs.Lines.{whole_lines}
use Rattle.line_run.specs.Inputs.{IsRunOver}
use Rattle.line_run.specs.Judgement.{Verdict, verdict_of}
use Rattle.line_run.specs.Meaning.{Meaning, goes_on, ends, differs, is_refused, is_too_many}
use Rattle.line_run.specs.Refusals.{if_read}
use Rattle.line_run.specs.Runs.{Runs}
use Rattle.line_run.specs.declared.outcome.LineOutcome.{LineOutcome}
use Rattle.local_clients.specs.Clients.{ClientTable, ClientsState, no_clients, stepped}
use Rattle.local_clients.specs.Law.{AreLawful}
use Rattle.local_clients.specs.Lines.{client_line}
use Rattle.local_clients.specs.Rules.{AreInRange}
use Rattle.local_clients.specs.Texts.{printed_action}
use Rattle.local_clients.specs.declared.client_line.ClientLine.{ClientLine}
use Rattle.local_clients.specs.declared.client_line.ClientLine.TheVariants.{Happen, Skipped, End}
use Rattle.local_clients.specs.declared.event.ClientEvent.{ClientEvent}
use Rattle.local_clients.specs.declared.rules.ClientRules.{ClientRules}

-- how many events there may be
abbrev pub most_events : ℕ
most_events = 1000000

-- nobody has connected yet, and there was no event
abbrev pub nobody : ClientRules → ClientsState
nobody rules = record { rules = rules; taken = 0; table = no_clients }

abbrev pub event_means : ClientsState → List ℕ → ClientEvent → Meaning ClientsState
event_means c text event =
    if nat_le most_events c.taken then is_too_many
    else let done = stepped c.rules event c.table in
    goes_on (record { rules = c.rules; taken = c.taken + 1; table = done.table }) (text ∷ map printed_action done.actions)

-- an event is written as it was read, with its actions below it
abbrev pub said_means : ClientsState → List ℕ → ClientLine → Meaning ClientsState
said_means c text (Happen event) = event_means c text event
said_means c text Skipped = goes_on c []
said_means c text End = ends (text ∷ [])

abbrev pub line_means : ClientsState → List ℕ → Meaning ClientsState
line_means c text = if_read (client_line text) (said_means c text)

-- ---- a whole input

-- What a run over the lines has read and written, by its outcome.
abbrev pub ClientsRun : ClientRules → Option (List ℕ) → Option (List ℕ) → Option (List ℕ) → Option (List ℕ) → LineOutcome → Type 0
ClientsRun rules = Runs line_means (nobody rules)

-- The same in terms of an input that the source tells.
abbrev pub AreClientsOver : ClientRules → List ℕ → LineOutcome → Option (List ℕ) → Option (List ℕ) → Option (List ℕ) → Type 0
AreClientsOver rules = IsRunOver line_means (nobody rules)

-- how an input ends, and at which line
abbrev pub clients_verdict : ClientRules → List ℕ → Verdict
clients_verdict rules = verdict_of line_means (nobody rules)

-- ---- the clients on the way

-- where a line goes on, and else they stay
abbrev pub led_by : Meaning ClientsState → ClientsState → ClientsState
led_by (goes_on next lines) c = next
led_by (ends lines) c = c
led_by (differs lines) c = c
led_by (is_refused kind) c = c
led_by is_too_many c = c

abbrev pub led_through : List (List ℕ) → ClientsState → ClientsState
led_through [] c = c
led_through (text ∷ texts) c = led_through texts (led_by (line_means c text) c)

-- the clients behind so many lines of an input
abbrev pub clients_after : ClientRules → ℕ → List ℕ → ClientTable
clients_after rules count input = (led_through (take count (whole_lines input)) (nobody rules)).table

-- Every law holds of the clients behind any number of lines of an input, and at each event then.
abbrev pub LedAreLawful : Type 0
LedAreLawful = (rules : ClientRules) (input : List ℕ) (count : ℕ) → AreInRange rules → AreLawful rules (clients_after rules count input)
