-- Machines of clients that are refused: each breaks a law.
use Rattle.std.specs.Prelude.{ℕ, List, [], ◌∷◌, drop, Option, Some, None}
use Rattle.std.specs.Option.{option_map, option_or}
use Rattle.hs_message.specs.Reading.{client_message_of}
use Rattle.hs_message.specs.declared.message.Message.{Message}
use Rattle.hs_message.specs.declared.message.Message.TheVariants as message
use Rattle.hs_message.specs.declared.offer.Offer.{Offer}
use Rattle.net_base.specs.declared.action.FaultKind.TheVariants.{Protocol}
use Rattle.local_clients.specs.Agreement.{offer_of, decides_offer}
use Rattle.local_clients.specs.Clients.{ClientTable, Stepped, client_at, leaves, put_back, nothing_done, stepped}
use Rattle.local_clients.specs.Hearing.{decided}
use Rattle.local_clients.specs.Law.{Machine, GoneAreGone, FittingProposalsOpen, FaultsAreOfBytes}
use Rattle.local_clients.specs.declared.action.ClientAction.TheVariants.{Close}
use Rattle.local_clients.specs.declared.action.ClientCause.TheVariants.{Fault}
use Rattle.local_clients.specs.declared.client.GreetingClient.{GreetingClient}
use Rattle.local_clients.specs.declared.event.ClientEvent.TheVariants.{Now, Joined, Bytes, Gone}
use Rattle.local_clients.specs.declared.rules.ClientRules.{ClientRules}

-- ---- who is said to be gone stays

abbrev pub nobody_goes : Machine
nobody_goes rules (Now moment) t = stepped rules (Now moment) t
nobody_goes rules Joined t = stepped rules Joined t
nobody_goes rules (Bytes id bytes) t = stepped rules (Bytes id bytes) t
nobody_goes rules (Gone id) t = nothing_done t

abbrev pub NobodyGoes : Type 0
NobodyGoes = GoneAreGone nobody_goes → ⊥

-- ---- a proposal that comes in one segment opens with the least common version

abbrev pub least_in : List Offer → Option Offer
least_in table = option_or (offer_of 32784 table) (offer_of 32785 table)

abbrev pub answers_least : ClientRules → ℕ → List ℕ → ClientTable → Option Message → Stepped
answers_least rules id bytes t (Some (message.Propose table)) =
    let h = decided (record { client = id; magic = rules.magic; moment = t.moment }) [] (decides_offer rules.magic (least_in table)) in
    record { table = put_back id (option_map (λ next. (next, [])) h.phase) (leaves id t); actions = h.actions }
answers_least rules id bytes t said = stepped rules (Bytes id bytes) t

abbrev pub agrees_on_least : Machine
agrees_on_least rules (Now moment) t = stepped rules (Now moment) t
agrees_on_least rules Joined t = stepped rules Joined t
agrees_on_least rules (Bytes id bytes) t = answers_least rules id bytes t (client_message_of (drop 8 bytes))
agrees_on_least rules (Gone id) t = stepped rules (Gone id) t

abbrev pub OpensWithLeast : Type 0
OpensWithLeast = FittingProposalsOpen agrees_on_least → ⊥

-- ---- whatever a client says first is a fault

abbrev pub faults_if : ClientRules → ℕ → List ℕ → ClientTable → Option GreetingClient → Stepped
faults_if rules id bytes t (Some client) = record { table = leaves id t; actions = Close id (Fault Protocol) ∷ [] }
faults_if rules id bytes t None = stepped rules (Bytes id bytes) t

abbrev pub first_bytes_are_a_fault : Machine
first_bytes_are_a_fault rules (Now moment) t = stepped rules (Now moment) t
first_bytes_are_a_fault rules Joined t = stepped rules Joined t
first_bytes_are_a_fault rules (Bytes id bytes) t = faults_if rules id bytes t (client_at id t.greeting)
first_bytes_are_a_fault rules (Gone id) t = stepped rules (Gone id) t

-- a proposal that fits opens no more
abbrev pub FaultingFirstBytesOpens : Type 0
FaultingFirstBytesOpens = FittingProposalsOpen first_bytes_are_a_fault → ⊥

-- and the fault is none of the bytes
abbrev pub FaultingFirstBytesFaults : Type 0
FaultingFirstBytesFaults = FaultsAreOfBytes first_bytes_are_a_fault → ⊥
