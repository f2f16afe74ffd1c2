-- The clients, and what each event does.
use Rattle.std.specs.Prelude.{ℕ, ◌+◌, Bool, not, nat_le, List, [], ◌∷◌, ◌++◌, length, map, filter, if◌then◌else◌, Option, Some, None}
use Rattle.std.specs.Option.{option_map}
use Rattle.std.specs.Ordering.{nat_cmp}
use Rattle.std.specs.Map.{lookup, remove_entry}
use Rattle.std.specs.BTreeMap.{insert_entry, is_at}
use Rattle.mux_segment.specs.Segment.{cut_of}
use Rattle.net_base.specs.declared.action.FaultKind.TheVariants.{HandshakeWait}
use Rattle.local_clients.specs.declared.action.ClientAction.{ClientAction}
use Rattle.local_clients.specs.declared.action.ClientAction.TheVariants as action
use Rattle.local_clients.specs.declared.action.ClientCause.TheVariants.{Fault}
use Rattle.local_clients.specs.declared.client.GreetingClient.{GreetingClient}
use Rattle.local_clients.specs.declared.client.OpenClient.{OpenClient}
use Rattle.local_clients.specs.declared.event.ClientEvent.{ClientEvent}
use Rattle.local_clients.specs.declared.event.ClientEvent.TheVariants.{Now, Joined, Bytes, Gone}
use Rattle.local_clients.specs.declared.phase.Phase.{Phase}
use Rattle.local_clients.specs.declared.phase.Phase.TheVariants.{Greeting, Open}
use Rattle.local_clients.specs.declared.rules.ClientRules.{ClientRules}
use Rattle.local_clients.specs.Hearing.{heard}

-- the clients by id, in order: those that still greet, and those that are open
pub record ClientTable : Type 0 where
  pub moment : ℕ
  pub next_id : ℕ
  pub greeting : List (ℕ × GreetingClient)
  pub opened : List (ℕ × OpenClient)

abbrev pub no_clients : ClientTable
no_clients = record { moment = 0; next_id = 1; greeting = []; opened = [] }

-- how many clients there are
abbrev pub live : ClientTable → ℕ
live t = length t.greeting + length t.opened

-- ---- clients by id

abbrev pub client_at : {X : Type 0} → ℕ → List (ℕ × X) → Option X
client_at id clients = lookup (is_at (nat_cmp id)) clients

abbrev pub without : {X : Type 0} → ℕ → List (ℕ × X) → List (ℕ × X)
without id clients = remove_entry (is_at (nat_cmp id)) clients

abbrev pub with_client : {X : Type 0} → ℕ → X → List (ℕ × X) → List (ℕ × X)
with_client id client clients = insert_entry nat_cmp clients id client

abbrev pub version_of : Option OpenClient → Option ℕ
version_of None = None
version_of (Some client) = Some client.version

-- the version of an open client
abbrev pub open_version : ℕ → ClientTable → Option ℕ
open_version id t = version_of (client_at id t.opened)

-- ---- events

pub record Stepped : Type 0 where
  pub table : ClientTable
  pub actions : List ClientAction

abbrev pub nothing_done : ClientTable → Stepped
nothing_done t = record { table = t; actions = [] }

abbrev pub is_due : ℕ → ℕ × GreetingClient → Bool
is_due moment entry = nat_le entry.1.until moment

abbrev pub waited_too_long : ℕ × GreetingClient → ClientAction
waited_too_long entry = action.Close entry.0 (Fault HandshakeWait)

-- Those whose time is over are closed, in order of id. It is the order of their deadlines too, as all have the same time.
abbrev pub clock_shows : ℕ → ClientTable → Stepped
clock_shows moment t =
    if nat_le moment t.moment then nothing_done t
    else record {
      table = record { moment = moment; next_id = t.next_id; greeting = filter (λ entry. not (is_due moment entry)) t.greeting; opened = t.opened };
      actions = map waited_too_long (filter (is_due moment) t.greeting);
    }

-- one more client, under the next id
abbrev pub admitted : ℕ → ClientTable → ClientTable
admitted wait t = record {
  moment = t.moment;
  next_id = t.next_id + 1;
  greeting = with_client t.next_id (record { until = t.moment + wait; rest = []; part = [] }) t.greeting;
  opened = t.opened;
}

abbrev pub joins : ClientRules → ClientTable → Stepped
joins rules t =
    if nat_le rules.limit (live t) then record { table = t; actions = action.Turnaway ∷ [] }
    else record { table = admitted rules.wait t; actions = action.Admit t.next_id ∷ [] }

abbrev pub leaves : ℕ → ClientTable → ClientTable
leaves id t = record { moment = t.moment; next_id = t.next_id; greeting = without id t.greeting; opened = without id t.opened }

-- a client that was taken out is put back as far as it has come, with the bytes that are no whole segment yet
abbrev pub put_back : ℕ → Option (Phase × List ℕ) → ClientTable → ClientTable
put_back id None t = t
put_back id (Some (Greeting until part, rest)) t = record {
  moment = t.moment;
  next_id = t.next_id;
  greeting = with_client id (record { until = until; rest = rest; part = part }) t.greeting;
  opened = t.opened;
}
put_back id (Some (Open version, rest)) t = record {
  moment = t.moment;
  next_id = t.next_id;
  greeting = t.greeting;
  opened = with_client id (record { version = version; rest = rest }) t.opened;
}

-- Whole segments are taken in order off the stream of a client that was taken out.
abbrev pub hears : ClientRules → ℕ → Phase → List ℕ → ClientTable → Stepped
hears rules id phase stream t =
    let c = cut_of stream in
    let h = heard (record { client = id; magic = rules.magic; moment = t.moment }) phase c.segments in
    record { table = put_back id (option_map (λ next. (next, c.rest)) h.phase) t; actions = h.actions }

-- new bytes follow the rest
abbrev pub hears_client : ClientRules → ℕ → List ℕ → ClientTable → Option GreetingClient → Option OpenClient → Stepped
hears_client rules id bytes t (Some client) opened = hears rules id (Greeting client.until client.part) (client.rest ++ bytes) (leaves id t)
hears_client rules id bytes t None (Some client) = hears rules id (Open client.version) (client.rest ++ bytes) (leaves id t)
hears_client rules id bytes t None None = nothing_done t

abbrev pub bytes_come : ClientRules → ℕ → List ℕ → ClientTable → Stepped
bytes_come rules id bytes t = hears_client rules id bytes t (client_at id t.greeting) (client_at id t.opened)

abbrev pub stepped : ClientRules → ClientEvent → ClientTable → Stepped
stepped rules (Now moment) t = clock_shows moment t
stepped rules Joined t = joins rules t
stepped rules (Bytes id bytes) t = bytes_come rules id bytes t
stepped rules (Gone id) t = nothing_done (leaves id t)

-- ---- with what the node keeps to

pub record ClientsState : Type 0 where
  pub rules : ClientRules
  -- how many events there were
  pub taken : ℕ
  pub table : ClientTable
