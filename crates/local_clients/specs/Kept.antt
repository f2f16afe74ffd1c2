-- What stands of the clients after each event.
use Rattle.std.specs.Prelude.{◌≡◌, ℕ, ◌+◌, ◌^◌, ◌≤◌, ◌<◌, List, [], ◌∷◌, Option, Some, None}
use Rattle.std.specs.List.{AllByRecursion}
use Rattle.local_clients.specs.declared.client.GreetingClient.{GreetingClient}
use Rattle.local_clients.specs.declared.client.OpenClient.{OpenClient}
use Rattle.local_clients.specs.Rules.{AreInRange}
use Rattle.local_clients.specs.Clients.{ClientTable, ClientsState, live, client_at}

-- the ids rise
abbrev pub IdsRise : {X : Type 0} → List (ℕ × X) → Type 0
IdsRise [] = Unit {0}
IdsRise (entry ∷ entries) = AllByRecursion (λ later. entry.0 < later.0) entries × IdsRise entries

-- a client joined later, and may shake hands as long or longer
abbrev pub IsLater : ℕ × GreetingClient → ℕ × GreetingClient → Type 0
IsLater entry later = (entry.0 < later.0) × (entry.1.until ≤ later.1.until)

abbrev pub RiseInTime : List (ℕ × GreetingClient) → Type 0
RiseInTime [] = Unit {0}
RiseInTime (entry ∷ entries) = AllByRecursion (IsLater entry) entries × RiseInTime entries

-- nobody is first, or the time of the first is not over
abbrev pub IsFirstInTime : ℕ → List (ℕ × GreetingClient) → Type 0
IsFirstInTime now [] = Unit {0}
IsFirstInTime now (entry ∷ entries) = now < entry.1.until

-- The first client is taken out where its time is over, and nobody where it is not.
abbrev pub TakesLate : ℕ → List (ℕ × GreetingClient) → Option ℕ → List (ℕ × GreetingClient) → Type 0
TakesLate now old (Some id) new = (client : GreetingClient) × (old ≡ (id, client) ∷ new) × (client.until ≤ now)
TakesLate now old None new = (new ≡ old) × IsFirstInTime now old

-- what is known of a client that greets: its id was given, and its time ends soon
abbrev pub IsGiven : ℕ → ClientTable → ℕ × GreetingClient → Type 0
IsGiven wait t entry = (entry.0 < t.next_id) × (entry.1.until ≤ t.moment + wait)

-- no client that is open greets too
abbrev pub AreApart : ClientTable → Type 0
AreApart t = (id : ℕ) (client : OpenClient) → client_at id t.opened ≡ Some client → client_at id t.greeting ≡ None

pub record AreKept (c : ClientsState) : Type 0 where
  pub ranges : AreInRange c.rules
  pub few : c.taken ≤ 1000000
  pub moment : c.table.moment ≤ 2 ^ 48
  pub ids : c.table.next_id ≤ c.taken + 1
  pub limit : live c.table ≤ c.rules.limit
  pub given : AllByRecursion (IsGiven c.rules.wait c.table) c.table.greeting
  pub rise : RiseInTime c.table.greeting
  pub opened_given : AllByRecursion (λ entry. entry.0 < c.table.next_id) c.table.opened
  pub opened_rise : IdsRise c.table.opened
  pub apart : AreApart c.table
