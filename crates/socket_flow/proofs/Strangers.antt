-- No more sockets announce an address than are to, whatever is called.
use Rattle.std.proofs.Common.{◌≡◌, ◌⊎◌, inl, inr, ℕ, ◌+◌, ◌-◌, ◌^◌, ◌≤◌, ◌<◌, min, max, nat_lt, Bool, true, false, MatchBool, List, [], ◌∷◌, length, Option, Some, None, sym, ap, subst, ◌∙◌, arith}
use Rattle.net_base.specs.declared.action.Action.{Action}
use Rattle.net_base.specs.declared.action.Action.TheVariants.{Admit, Turnaway, Dial, Send, Close, Pause, AskRoots, State, Peer}
use Rattle.net_base.specs.declared.address.Addr.{Addr}
use Rattle.net_base.specs.declared.connection.Cid.{Cid}
use Rattle.net_base.specs.declared.event.Event.{Event}
use Rattle.socket_flow.specs.Acting.{OpensOn, DialsAt, SendsOn, PutsOn, ClosesOn, Does, is_free}
use Rattle.socket_flow.specs.Asks.{Asks, AsksForRoom, IsFirst, IsNextCaller}
use Rattle.socket_flow.specs.Bounds.{is_accept, lets_in, MayLetIn, AcceptsAsAsked, StrangersAreFew, WaitsAreBounded}
use Rattle.socket_flow.specs.Histories.{Call, PeerWaits, NobodyWaits, PeerIsGone, HasNoRoom, HasNoRoomToDial, MayBeReady, RoundBegins, PeerCame, DialCameTo, BytesCame, BytesWent, TakesNoMore, HasEnded, NodeDoes, NodeAsks, Makes, to_read, Runs}
use Rattle.socket_flow.specs.Table.{key_at, stage_at}
use Rattle.socket_flow.specs.Talk.{HasNoMoreStrangers, KeepsAll, Loses, Losing, MayLose, IsDialed}
use Rattle.socket_flow.specs.declared.ask.Ask.{Ask}
use Rattle.socket_flow.specs.declared.ask.Ask.TheVariants.{Close as CloseSocket, Connect, Check, Write, Accept, Read, Give, Govern, Wait}
use Rattle.socket_flow.specs.declared.ask.Dialed.{Dialed as Outcome}
use Rattle.socket_flow.specs.declared.ask.Dialed.TheVariants.{NotYet, Connected, Failed}
use Rattle.socket_flow.specs.declared.flow.SocketFlow.{SocketFlow}
use Rattle.socket_flow.specs.declared.socket.Stage.{Stage}
use Rattle.socket_flow.specs.declared.socket.Stage.TheVariants.{Dialing, Announcing, Waiting, Told, Open, Closing}
use Rattle.socket_flow.proofs.Losing.{as_many_strangers, strangers_then}

-- ---- no more than before

kept : (a b : SocketFlow) → KeepsAll a b → HasNoMoreStrangers a b
kept a b p = p.sockets.keys.strangers

losing : (keys : List ℕ) (a b : SocketFlow) → Losing keys a b → HasNoMoreStrangers a b
losing [] a b p = kept a b p
losing (key ∷ keys) a b p = strangers_then a p.0 b (kept a p.0 p.2) (strangers_then p.0 p.1 b p.3.keys.strangers (losing keys p.1 b p.4))

may_lose : (a b : SocketFlow) → MayLose a b → HasNoMoreStrangers a b
may_lose a b p = losing p.gone a b p.losing

dialed : (key : ℕ) (s : Option Stage) (outcome : Outcome) (a b : SocketFlow) → IsDialed s outcome key a b → HasNoMoreStrangers a b
dialed key None outcome a b p = kept a b p
dialed key (Some (Dialing id)) NotYet a b p = kept a b p
dialed key (Some (Dialing id)) Connected a b p = p.keys.strangers
dialed key (Some (Dialing id)) Failed a b p = p.keys.strangers
dialed key (Some (Announcing said)) outcome a b p = kept a b p
dialed key (Some (Waiting addr)) outcome a b p = kept a b p
dialed key (Some Told) outcome a b p = kept a b p
dialed key (Some (Open id)) outcome a b p = kept a b p
dialed key (Some Closing) outcome a b p = kept a b p

opens : (o : Option ℕ) (cid : Cid) (a b : SocketFlow) → OpensOn a b o cid → HasNoMoreStrangers a b
opens None cid a b p = kept a b p
opens (Some key) cid a b p = p.strangers

admits : (free : Bool) (cid : Cid) (a b : SocketFlow) → MatchBool free (OpensOn a b a.caller cid) (KeepsAll a b) → HasNoMoreStrangers a b
admits true cid a b p = opens a.caller cid a b p
admits false cid a b p = kept a b p

dials : (free : Bool) (key : ℕ) (cid : Cid) (addr : Addr) (a b : SocketFlow) → MatchBool free (DialsAt a b key cid addr) (KeepsAll a b) → HasNoMoreStrangers a b
dials true key cid addr a b p = p.strangers
dials false key cid addr a b p = kept a b p

sends_if : (much : Bool) (key : ℕ) (bytes : List ℕ) (a b : SocketFlow) → MatchBool much (Loses key a b) (PutsOn a b key bytes) → HasNoMoreStrangers a b
sends_if true key bytes a b p = p.keys.strangers
sends_if false key bytes a b p = p.rest.keys.strangers

sends : (o : Option ℕ) (bytes : List ℕ) (a b : SocketFlow) → SendsOn a b o bytes → HasNoMoreStrangers a b
sends None bytes a b p = kept a b p
sends (Some key) bytes a b p = sends_if (nat_lt 67108864 (min (a.unsent + length bytes) (2 ^ 64 - 1))) key bytes a b p

closes : (o : Option ℕ) (cid : Cid) (a b : SocketFlow) → ClosesOn a b o cid → HasNoMoreStrangers a b
closes None cid a b p = kept a b p
closes (Some key) cid a b p = p.keys.strangers

does : (action : Action) (a b : SocketFlow) → Does action a b → HasNoMoreStrangers a b
does (Admit cid addr) a b p = admits (is_free a cid.0) cid a b p
does (Turnaway away) a b p = may_lose a b p.1
does (Dial cid addr) a b p = dials (is_free a cid.0) a.table.next_key cid addr a b p
does (Send cid bytes) a b p = sends (key_at a.table cid.0) bytes a b p
does (Close cid cause) a b p = closes (key_at a.table cid.0) cid a b p.2
does (Pause time) a b p = as_many_strangers a b (ap (λ x. x.strangers) p) (ap (λ x. x.strangers_most) p)
does (AskRoots job) a b p = as_many_strangers a b (ap (λ x. x.strangers) p) (ap (λ x. x.strangers_most) p)
does (State cid name) a b p = as_many_strangers a b (ap (λ x. x.strangers) p) (ap (λ x. x.strangers_most) p)
does (Peer addr note) a b p = as_many_strangers a b (ap (λ x. x.strangers) p) (ap (λ x. x.strangers_most) p)

gives : (event : Event) (a b : SocketFlow) → IsFirst a b event ⊎ IsNextCaller a b event → HasNoMoreStrangers a b
gives event a b (inl p) = p.sockets.keys.strangers
gives event a b (inr p) = p.strangers

asks : (ask : Ask) (a b : SocketFlow) → Asks a b ask → HasNoMoreStrangers a b
asks (CloseSocket key) a b p = kept a b p.0
asks (Connect key addr) a b p = kept a b p.0
asks (Check key) a b p = kept a b p.0
asks (Write key) a b p = kept a b p.0
asks Accept a b p = kept a b p.0
asks (Read key most) a b p = kept a b p.0
asks (Give event) a b p = gives event a b p
asks Govern a b p = kept a b p.0
asks (Wait time) a b p = kept a b p.0

-- ---- room for one more

-- where a peer may be accepted, fewer than the most announce themselves
abbrev HasRoom : Bool → SocketFlow → Type 0
HasRoom true flow = flow.strangers < flow.strangers_most
HasRoom false flow = Unit {0}

room_asked : (ask : Ask) (flow : SocketFlow) → AsksForRoom flow ask → HasRoom (is_accept ask) flow
room_asked Accept flow p = p.1
room_asked (CloseSocket key) flow p = tt
room_asked (Connect key addr) flow p = tt
room_asked (Check key) flow p = tt
room_asked (Write key) flow p = tt
room_asked (Read key most) flow p = tt
room_asked (Give event) flow p = tt
room_asked Govern flow p = tt
room_asked (Wait time) flow p = tt

room_then : (call : Call) (a b : SocketFlow) → Makes call a b → HasRoom (lets_in call) b
room_then PeerWaits a b p = tt
room_then NobodyWaits a b p = tt
room_then PeerIsGone a b p = tt
room_then HasNoRoom a b p = tt
room_then (HasNoRoomToDial key addr) a b p = tt
room_then (MayBeReady key writable) a b p = tt
room_then (RoundBegins moment) a b p = tt
room_then (PeerCame addr key) a b p = tt
room_then (DialCameTo key outcome) a b p = tt
room_then (BytesCame key bytes event) a b p = tt
room_then (BytesWent key count bytes) a b p = tt
room_then (TakesNoMore key) a b p = tt
room_then (HasEnded key) a b p = tt
room_then (NodeDoes action) a b p = tt
room_then (NodeAsks ask) a b p = room_asked ask b p.room

-- ---- a history

-- as many as may announce themselves, and no more do
record AreFew (most : ℕ) (flow : SocketFlow) : Type 0 where
  most_is : flow.strangers_most ≡ most
  count : flow.strangers ≤ most

few_then : (most : ℕ) (a b : SocketFlow) → HasNoMoreStrangers a b → AreFew most a → AreFew most b
few_then most a b p f = record { most_is = p.most ∙ f.most_is; count = let now = p.count in let was = f.count in omega (arith, now, was) }

comes : (most : ℕ) (may : Bool) (addr : Addr) (key : ℕ) (a b : SocketFlow) → HasRoom may a → MayLetIn may (PeerCame addr key) → Makes (PeerCame addr key) a b → AreFew most a → AreFew most b
comes most false addr key a b room may p f = absurd may
comes most true addr key a b room may p f = record {
  most_is = p.3.most ∙ f.most_is;
  count = let now = p.3.strangers in let was = f.most_is in omega (arith, now, was, room);
}

step : (most : ℕ) (may : Bool) (call : Call) (a b : SocketFlow) → HasRoom may a → MayLetIn may call → Makes call a b → AreFew most a → AreFew most b
step most may PeerWaits a b room let_in p f = few_then most a b (kept a b p) f
step most may NobodyWaits a b room let_in p f = few_then most a b (kept a b p) f
step most may PeerIsGone a b room let_in p f = few_then most a b (kept a b p) f
step most may HasNoRoom a b room let_in p f = few_then most a b (kept a b p) f
step most may (HasNoRoomToDial key addr) a b room let_in p f = few_then most a b (may_lose a b p) f
step most may (MayBeReady key writable) a b room let_in p f = few_then most a b (kept a b p) f
step most may (RoundBegins moment) a b room let_in p f = few_then most a b (strangers_then a p.told b p.sockets.keys.strangers (may_lose p.told b p.loses)) f
step most may (PeerCame addr key) a b room let_in p f = comes most may addr key a b room let_in p f
step most may (DialCameTo key outcome) a b room let_in p f = few_then most a b (dialed key (stage_at a.table key) outcome a b p) f
step most may (BytesCame key bytes event) a b room let_in p f = few_then most a b p.2.keys.strangers f
step most may (BytesWent key count bytes) a b room let_in p f = few_then most a b p.2.keys.strangers f
step most may (TakesNoMore key) a b room let_in p f = few_then most a b p.1.keys.strangers f
step most may (HasEnded key) a b room let_in p f = few_then most a b p.keys.strangers f
step most may (NodeDoes action) a b room let_in p f = few_then most a b (does action a b p) f
step most may (NodeAsks ask) a b room let_in p f = few_then most a b (strangers_then a p.left b (may_lose a p.left p.loses) (asks ask p.left b p.asks)) f

history : (most : ℕ) (calls : List Call) (may : Bool) (reading : Option (ℕ × ℕ)) (first last : SocketFlow) → HasRoom may first → Runs reading calls first last → AcceptsAsAsked may calls → AreFew most first
    → AreFew most last
history most [] may reading first last room runs accepts f = subst (λ flow. AreFew most flow) (sym runs) f
history most (call ∷ calls) may reading first last room runs accepts f =
    history most calls (lets_in call) (to_read call) runs.1 last (room_then call first runs.1 runs.2) runs.3 accepts.1
    (step most may call first runs.1 room accepts.0 runs.2 f)

pub strangers_are_few : StrangersAreFew
strangers_are_few terms first last calls begins runs accepts keys once =
    let none = begins.strangers in
    let few = history (max terms.soft 1) calls false None first last tt runs accepts (record { most_is = begins.most; count = omega (arith, none) }) in
    let counted = last.announces keys once in
    let count = few.count in
    omega (arith, counted, count)

pub waits_are_bounded : WaitsAreBounded
waits_are_bounded flow keys once = flow.bounded keys once
