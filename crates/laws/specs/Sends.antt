-- What is sent: what is due by each part of an event, and nothing else.
use Rattle.std.specs.Prelude.{ℕ, ◌%◌, ◌≤◌, ◌≡◌, Bool, true, false, ◌&&◌, ◌==◌, List, [], ◌∷◌, ◌++◌, find, filter, if◌then◌else◌, Option, Some, None}
use Rattle.laws.specs.Words.{AllByRecursion, Action, Close, agreed_sharing, is_acquirable, is_dialing, is_live_at, is_outbound, Order, Ask, Forget, Promote, Release, Activate, Deactivate, verdict_of, answer_of, proposal_of, Acceptor, Dialer, Verdict, message_of, Message, frame_of, Item, Addr, Facts, Phase, Dialing, Greeting, Negotiated, Closing, written_alive, written_request, Effect, Machine, Entry, entry_at, live_entry_at}
use Rattle.laws.specs.Words.verdict
use Rattle.laws.specs.Words.alive
use Rattle.laws.specs.Acts.{Act, carries, ends_dial, handles_item}
use Rattle.laws.specs.Ends.{offered, side_of}
use Rattle.laws.specs.Served.{Sent, sent_in}
use Rattle.laws.specs.Stages.{stage_at}

-- ---- messages of this node

-- on a connection, from the side that began a protocol (0) or that answers (1)
abbrev pub says : ℕ → ℕ → ℕ → List ℕ → Machine → List Sent
says cid side protocol message m = record { cid = cid; bytes = frame_of side protocol m.now message } ∷ []

-- once a connection comes into use; the cookies run with the ids through all that there are
abbrev pub keeps_alive : ℕ → Machine → List Sent
keeps_alive cid m = says cid 0 8 (written_alive (alive.Ask (cid % 65536))) m

-- [4, []] on chain-sync: where do the chains meet
abbrev pub asks_where_chains_meet : List ℕ
asks_where_chains_meet = 0x82 ∷ 0x04 ∷ 0x80 ∷ []

-- [7]: no more of chain-sync
abbrev pub no_more_headers : List ℕ
no_more_headers = 0x81 ∷ 0x07 ∷ []

-- [2]: no more of peer sharing
abbrev pub no_more_addresses : List ℕ
no_more_addresses = 0x81 ∷ 0x02 ∷ []

-- ---- by an order

abbrev pub on_one : Option Entry → (Entry → List Sent) → List Sent
on_one None messages = []
on_one (Some e) messages = messages e

-- the connection with an address that this node uses
abbrev pub used_with : Addr → Machine → Option Entry
used_with addr m = find (λ e. is_live_at addr e.facts && e.facts.local) m.connections

-- Who is released is told that nothing more comes on the protocols that this node began.
abbrev pub due_by_order : Order → Machine → List Sent
due_by_order (Ask addr n) m = on_one (used_with addr m) (λ e. says e.facts.cid.0 0 10 (written_request n) m)
due_by_order (Forget addr) m = []
due_by_order (Promote addr) m = on_one (live_entry_at addr m) (λ e. if is_acquirable e.facts then keeps_alive e.facts.cid.0 m else [])
due_by_order (Release addr) m = on_one (used_with addr m)
    (λ e. (if agreed_sharing e.facts.agreed then says e.facts.cid.0 0 10 no_more_addresses m else []) ++ says e.facts.cid.0 0 8 (written_alive alive.Done) m)
due_by_order (Activate addr) m = on_one (used_with addr m) (λ e. says e.facts.cid.0 0 2 asks_where_chains_meet m)
due_by_order (Deactivate addr) m = on_one (used_with addr m) (λ e. says e.facts.cid.0 0 2 no_more_headers m)

-- ---- in the handshake

abbrev pub answers : Option (List ℕ) → ℕ → Machine → List Sent
answers None cid m = []
answers (Some message) cid m = says cid 1 0 message m

abbrev pub comes_into_use : Verdict → Bool
comes_into_use (verdict.Accept agreed) = false
comes_into_use (verdict.Refuse why) = false
comes_into_use verdict.Query = false
comes_into_use (verdict.Agree agreed) = true
comes_into_use verdict.Refused = false
comes_into_use verdict.Wrong = false

-- The answer to a proposal; and where this node has dialed and both agree, the connection comes into use.
abbrev pub due_by_verdict : Verdict → ℕ → Machine → List Sent
due_by_verdict v cid m = answers (answer_of v (offered m.settings)) cid m ++ (if comes_into_use v then keeps_alive cid m else [])

abbrev pub by_message : Option Message → (Message → List Sent) → List Sent
by_message None due = []
by_message (Some message) due = due message

-- What is a fault is not answered.
abbrev pub due_of_acceptor : Item → ℕ → Machine → List Sent
due_of_acceptor item cid m =
    if item.side == 0 then by_message (message_of item.body) (λ message. due_by_verdict (verdict_of Acceptor (offered m.settings) message) cid m) else []

abbrev pub due_of_dialer : Item → ℕ → Machine → List Sent
due_of_dialer item cid m =
    by_message (message_of item.body)
    (λ message. if item.side == side_of message then due_by_verdict (verdict_of Dialer (offered m.settings) message) cid m else [])

abbrev pub due_in_greeting : Item → Facts → Machine → List Sent
due_in_greeting item f m =
    if item.id == 0 then (if is_outbound f then due_of_dialer item f.cid.0 m else due_of_acceptor item f.cid.0 m) else []

-- ---- each act

-- Once the handshake is done an answer is not answered, and nothing is said where the connection has ended. What else is
-- asked is answered as is told in another law.
pub record SendsInUse (item : Item) (e : Entry) (effect : Effect) : Type 0 where
  pub answer : (item.side == 0) ≡ false → sent_in effect.actions ≡ []
  pub gone : entry_at e.facts.cid.0 effect.machine ≡ None → sent_in effect.actions ≡ []

abbrev pub SendsByPhase : Phase → Item → Entry → Machine → Effect → Type 0
SendsByPhase Dialing item e before effect = sent_in effect.actions ≡ []
SendsByPhase (Greeting until) item e before effect = sent_in effect.actions ≡ due_in_greeting item e.facts before
SendsByPhase Negotiated item e before effect = SendsInUse item e effect
SendsByPhase (Closing until) item e before effect = sent_in effect.actions ≡ []

abbrev pub SendsOnItem : Option Entry → Item → Machine → Effect → Type 0
SendsOnItem None item before effect = sent_in effect.actions ≡ []
SendsOnItem (Some e) item before effect = SendsByPhase e.facts.phase item e before effect

-- To whom is dialed the node proposes. Nothing but an end of a dial, an order and an item is a cause to send.
abbrev pub SendsRight : Act → Machine → Effect → Type 0
SendsRight (ends_dial cid opened) before effect =
    sent_in effect.actions
    ≡ on_one (entry_at cid.0 before) (λ e. if is_dialing e.facts && opened then says e.facts.cid.0 0 0 (proposal_of (offered before.settings)) before else [])
SendsRight (carries order) before effect = sent_in effect.actions ≡ due_by_order order before
SendsRight (handles_item own item) before effect = SendsOnItem (entry_at own.0 before) item before effect
SendsRight other before effect = sent_in effect.actions ≡ []

-- ---- what is closed

-- those that are sent on a connection
abbrev pub sent_on : ℕ → List Sent → List Sent
sent_on cid sent = filter (λ s. s.cid == cid) sent

-- Behind the close of a connection nothing is sent on it.
abbrev pub ClosesLast : List Action → Type 0
ClosesLast [] = Unit {0}
ClosesLast (Close cid cause ∷ actions) = (sent_on cid.0 (sent_in actions) ≡ []) × ClosesLast actions
ClosesLast (other ∷ actions) = ClosesLast actions

-- What is said between a record and the one after it.
pub record Speaks (before : Machine) (effect : Effect) : Type 0 where
  -- it is said on a connection that is open, or that comes between them
  pub to_open : AllByRecursion (λ sent. stage_at sent.cid before ≤ 3) (sent_in effect.actions)
  pub closes_last : ClosesLast effect.actions
