-- How many events wait, whatever is called.
use Rattle.std.proofs.Common.{◌≡◌, ◌⊎◌, inl, inr, ℕ, suc, ◌+◌, ◌-◌, ◌^◌, ◌≤◌, min, nat_lt, nat_le, ◌==◌, Bool, true, false, cond, eqb, MatchBool, List, [], ◌∷◌, ◌++◌, length, Option, Some, None, refl, sym, ap, subst, ◌∙◌, arith}
use Rattle.std.proofs.lemmas.Bool.{eq-eqb}
use Rattle.std.proofs.lemmas.List.{length-append}
use Rattle.std.proofs.lemmas.List.Sums.{sum_by-cons}
use Rattle.net_base.specs.declared.action.Action.{Action}
use Rattle.net_base.specs.declared.action.Action.TheVariants.{Admit, Turnaway, Dial, Send, Close, Pause, AskRoots, State, Peer}
use Rattle.net_base.specs.declared.address.Addr.{Addr}
use Rattle.net_base.specs.declared.connection.Cid.{Cid}
use Rattle.net_base.specs.declared.event.Event.{Event}
use Rattle.net_base.specs.declared.event.Event.TheVariants.{Dialed, Now, Roots as Answered}
use Rattle.net_base.specs.declared.event.Job.{Job}
use Rattle.net_base.specs.declared.event.RootAnswer.TheVariants.{Found}
use Rattle.socket_flow.specs.Acting.{IsOpenAs, OpensOn, DialsAt, SendsOn, PutsOn, IsClosing, ClosesOn, Does, is_free, answers}
use Rattle.socket_flow.specs.Asks.{Asks, comes_last, IsFirst, IsNextCaller, IsQuiet}
use Rattle.socket_flow.specs.Bounds.{untold_of, untold_at, more_of, more_by, more_in, NoneWaits, EventsAreBounded}
use Rattle.socket_flow.specs.Counts.{IsMost}
use Rattle.socket_flow.specs.Flow.{ending, endings, introduced, heard_on, after_bytes, after_going, after_full, newcomer}
use Rattle.socket_flow.specs.Announcement.{hearing}
use Rattle.socket_flow.specs.Histories.{Call, PeerWaits, NobodyWaits, PeerIsGone, HasNoRoom, HasNoRoomToDial, MayBeReady, RoundBegins, PeerCame, DialCameTo, BytesCame, BytesWent, TakesNoMore, HasEnded, NodeDoes, NodeAsks, Makes, to_read, Runs}
use Rattle.socket_flow.specs.Moments.{Times, moments_told, is_news, reached}
use Rattle.socket_flow.specs.Table.{socket_at, key_at, stage_at, stage_of, is_linked, Puts}
use Rattle.socket_flow.specs.Talk.{KeepsSockets, KeepsAll, Loses, Losing, MayLose, IsDialed}
use Rattle.socket_flow.specs.declared.announcement.Heard.{Heard}
use Rattle.socket_flow.specs.declared.announcement.Heard.TheVariants.{Front, Whole, Else}
use Rattle.socket_flow.specs.declared.ask.Ask.{Ask}
use Rattle.socket_flow.specs.declared.ask.Ask.TheVariants.{Close as CloseSocket, Connect, Check, Write, Accept, Read, Give, Govern, Wait}
use Rattle.socket_flow.specs.declared.ask.Dialed.{Dialed as Outcome}
use Rattle.socket_flow.specs.declared.ask.Dialed.TheVariants.{NotYet, Connected, Failed}
use Rattle.socket_flow.specs.declared.flow.SocketFlow.{SocketFlow}
use Rattle.socket_flow.specs.declared.roots.Roots.{Roots}
use Rattle.socket_flow.specs.declared.socket.Socket.{Socket}
use Rattle.socket_flow.specs.declared.socket.Stage.{Stage}
use Rattle.socket_flow.specs.declared.socket.Stage.TheVariants.{Dialing, Announcing, Waiting, Told, Open, Closing}
use Rattle.socket_flow.proofs.Bounded.{moved, falls}
use Rattle.socket_flow.proofs.Telling.{went, full}

-- ---- where none waits

quiet_last : (test : Bool) (flow : SocketFlow) → test ≡ true → MatchBool test (IsQuiet flow) (Unit {0}) → IsQuiet flow
quiet_last true flow is p = p
quiet_last false flow is p = absurd (cc)

pub quiet_where : (ask : Ask) (flow : SocketFlow) → comes_last ask ≡ true → MatchBool (comes_last ask) (IsQuiet flow) (Unit {0}) → IsQuiet flow
quiet_where ask flow is p = quiet_last (comes_last ask) flow is p

pub none_waits : NoneWaits
none_waits old new ask made last = (quiet_where ask new last made.quiet).events

-- ---- what is still to be told

at_most_two : (s : Option Stage) → untold_of s ≤ 2
at_most_two None = omega arith
at_most_two (Some (Dialing id)) = omega arith
at_most_two (Some (Announcing said)) = omega arith
at_most_two (Some (Waiting addr)) = omega arith
at_most_two (Some Told) = omega arith
at_most_two (Some (Open id)) = omega arith
at_most_two (Some Closing) = omega arith

-- so many events wait, and so many may be told of the sockets, together no more than this
pub record Owes (flow : SocketFlow) (most : ℕ) : Type 0 where
  left : ℕ
  untold : IsMost (untold_at flow.table) left
  sum : length flow.events + left ≤ most

eases : (flow : SocketFlow) (most more : ℕ) → most ≤ more → Owes flow most → Owes flow more
eases flow most more le o = record { left = o.left; untold = o.untold; sum = let was = o.sum in omega (arith, was, le) }

one_of : (size : ℕ → ℕ) (most key : ℕ) → IsMost size most → size key ≤ most
one_of size most key all =
    let one = all (key ∷ []) (refl, tt) in
    let sums = sum_by-cons size key [] in
    omega (arith, one, sums)

-- one socket tells some, and has more or less to tell
changes : (a b : SocketFlow) (key tells more most : ℕ) → ((k : ℕ) → eqb key k ≡ false → stage_at b.table k ≡ stage_at a.table k) → length b.events ≤ length a.events + tells
    → untold_at b.table key + tells ≤ untold_at a.table key + more → Owes a most → Owes b (most + more)
changes a b key tells more most others events counts o =
    let here = one_of (untold_at a.table) o.left key o.untold in
    let was = o.sum in
    record {
      left = (o.left + more) - tells;
      untold = moved key (untold_at a.table) (untold_at b.table) o.left ((o.left + more) - tells) (λ k apart. ap untold_of (others k apart)) (omega (arith, counts, here)) o.untold;
      sum = omega (arith, was, events, counts, here);
    }

-- each socket is for what it was, and so many more events wait
adds : (a b : SocketFlow) (more most : ℕ) → ((k : ℕ) → stage_at b.table k ≡ stage_at a.table k) → length b.events ≤ length a.events + more → Owes a most → Owes b (most + more)
adds a b more most same events o = record {
  left = o.left;
  untold = falls (untold_at a.table) (untold_at b.table) o.left o.left (λ k. let is = ap untold_of (same k) in omega (arith, is)) (omega arith) o.untold;
  sum = let was = o.sum in omega (arith, was, events);
}

plain : (flow : SocketFlow) (most : ℕ) → Owes flow (most + 0) → Owes flow most
plain flow most o = eases flow (most + 0) most (omega arith) o

stays : (a b : SocketFlow) (most : ℕ) → ((k : ℕ) → stage_at b.table k ≡ stage_at a.table k) → b.events ≡ a.events → Owes a most → Owes b most
stays a b most same events o = let size = ap length events in plain b most (adds a b 0 most same (omega (arith, size)) o)

keeps : (a b : SocketFlow) (most : ℕ) → KeepsAll a b → Owes a most → Owes b most
keeps a b most p o = stays a b most (λ k. (p.sockets.talk k).1) p.events o

-- a socket is put that has no more to tell
puts : (a b : SocketFlow) (key most : ℕ) (s : Option Socket) → Puts a.table b.table key s → b.events ≡ a.events → untold_of (stage_of s) ≤ untold_at a.table key → Owes a most → Owes b most
puts a b key most s put events less o =
    let size = ap length events in
    let here : untold_at b.table key ≡ untold_of (stage_of s) = ap (λ x. untold_of (stage_of x)) (subst (λ test. socket_at b.table key ≡ cond test s (socket_at a.table key)) (eq-eqb key key refl) (put key)) in
    plain b most (changes a b key 0 0 most (λ k apart. ap stage_of (subst (λ test. socket_at b.table k ≡ cond test s (socket_at a.table k)) apart (put k))) (omega (arith, size)) (omega (arith, here, less)) o)

-- ---- sockets go

ends : (socket : Socket) (stage : Stage) → socket.stage ≡ stage → length (ending stage) ≤ untold_of (Some stage)
ends socket (Dialing id) is = omega arith
ends socket (Announcing said) is = omega arith
ends socket (Waiting addr) is = omega arith
ends socket Told is = omega arith
ends socket (Open id) is = omega arith
ends socket Closing is = omega arith

endings_of : (s : Option Socket) → length (endings s) ≤ untold_of (stage_of s)
endings_of None = omega arith
endings_of (Some socket) = ends socket socket.stage refl

loses : (key : ℕ) (a b : SocketFlow) (most : ℕ) → Loses key a b → Owes a most → Owes b most
loses key a b most p o =
    let size = ap length p.events ∙ length-append a.events (endings (socket_at a.table key)) in
    let told = endings_of (socket_at a.table key) in
    let here : untold_at b.table key ≡ 0 = ap (λ x. untold_of (stage_of x)) (subst (λ test. socket_at b.table key ≡ cond test None (socket_at a.table key)) (eq-eqb key key refl) (p.gone key)) in
    plain b most
    (changes a b key (length (endings (socket_at a.table key))) 0 most (λ k apart. ap stage_of (subst (λ test. socket_at b.table k ≡ cond test None (socket_at a.table k)) apart (p.gone k)))
    (omega (arith, size)) (omega (arith, here, told)) o)

losing : (keys : List ℕ) (a b : SocketFlow) (most : ℕ) → Losing keys a b → Owes a most → Owes b most
losing [] a b most p o = keeps a b most p o
losing (key ∷ keys) a b most p o = losing keys p.1 b most p.4 (loses key p.0 p.1 most p.3 (keeps a p.0 most p.2 o))

may_lose : (a b : SocketFlow) (most : ℕ) → MayLose a b → Owes a most → Owes b most
may_lose a b most p o = losing p.gone a b most p.losing o

-- ---- a dial

dialed : (key : ℕ) (s : Option Stage) (outcome : Outcome) (a b : SocketFlow) (most : ℕ) → stage_at a.table key ≡ s → IsDialed s outcome key a b → Owes a most → Owes b most
dialed key None outcome a b most is p o = keeps a b most p o
dialed key (Some (Dialing id)) NotYet a b most is p o = keeps a b most p o
dialed key (Some (Dialing id)) Connected a b most is p o =
    let size = ap length p.events ∙ length-append a.events (Dialed id.cid true ∷ []) in
    let was : untold_at a.table key ≡ 2 = ap untold_of is in
    let now : untold_at b.table key ≡ 1 = ap untold_of p.stage in
    plain b most (changes a b key 1 0 most p.others (omega (arith, size)) (omega (arith, was, now)) o)
dialed key (Some (Dialing id)) Failed a b most is p o = loses key a b most p o
dialed key (Some (Announcing said)) outcome a b most is p o = keeps a b most p o
dialed key (Some (Waiting addr)) outcome a b most is p o = keeps a b most p o
dialed key (Some Told) outcome a b most is p o = keeps a b most p o
dialed key (Some (Open id)) outcome a b most is p o = keeps a b most p o
dialed key (Some Closing) outcome a b most is p o = keeps a b most p o

-- ---- what the node does

open_one : (cid : Cid) (s : Option Socket) (n : Option Stage) → IsOpenAs cid s n → untold_of n ≤ 1
open_one cid None n p = let none = ap untold_of p in omega (arith, none)
open_one cid (Some socket) None p = absurd p
open_one cid (Some socket) (Some (Dialing id)) p = absurd p
open_one cid (Some socket) (Some (Announcing said)) p = absurd p
open_one cid (Some socket) (Some (Waiting addr)) p = absurd p
open_one cid (Some socket) (Some Told) p = absurd p
open_one cid (Some socket) (Some (Open id)) p = omega arith
open_one cid (Some socket) (Some Closing) p = absurd p

more : (flow : SocketFlow) (most n : ℕ) → Owes flow most → Owes flow (most + n)
more flow most n o = eases flow most (most + n) (omega arith) o

opens : (who : Option ℕ) (cid : Cid) (a b : SocketFlow) (most : ℕ) → OpensOn a b who cid → Owes a most → Owes b (most + 1)
opens None cid a b most p o = more b most 1 (keeps a b most p o)
opens (Some key) cid a b most p o =
    let size = ap length p.events in
    let one = open_one cid (socket_at a.table key) (stage_at b.table key) p.stage in
    changes a b key 0 1 most (λ k apart. ap stage_of (p.others k apart)) (omega (arith, size)) (omega (arith, one)) o

admits : (free : Bool) (cid : Cid) (a b : SocketFlow) (most : ℕ) → MatchBool free (OpensOn a b a.caller cid) (KeepsAll a b) → Owes a most → Owes b (most + 1)
admits true cid a b most p o = opens a.caller cid a b most p o
admits false cid a b most p o = more b most 1 (keeps a b most p o)

dials : (free : Bool) (key : ℕ) (cid : Cid) (addr : Addr) (a b : SocketFlow) (most : ℕ) → MatchBool free (DialsAt a b key cid addr) (KeepsAll a b) → Owes a most → Owes b (most + 2)
dials true key cid addr a b most p o =
    let size = ap length p.events in
    let two = at_most_two (stage_at b.table key) in
    changes a b key 0 2 most (λ k apart. ap stage_of (p.others k apart)) (omega (arith, size)) (omega (arith, two)) o
dials false key cid addr a b most p o = more b most 2 (keeps a b most p o)

sends_if : (much : Bool) (key : ℕ) (bytes : List ℕ) (a b : SocketFlow) (most : ℕ) → MatchBool much (Loses key a b) (PutsOn a b key bytes) → Owes a most → Owes b most
sends_if true key bytes a b most p o = loses key a b most p o
sends_if false key bytes a b most p o = stays a b most p.stages p.rest.events o

sends : (who : Option ℕ) (bytes : List ℕ) (a b : SocketFlow) (most : ℕ) → SendsOn a b who bytes → Owes a most → Owes b most
sends None bytes a b most p o = keeps a b most p o
sends (Some key) bytes a b most p o = sends_if (nat_lt 67108864 (min (a.unsent + length bytes) (2 ^ 64 - 1))) key bytes a b most p o

closing_none : (n : Option Stage) → IsClosing n → untold_of n ≤ 0
closing_none None p = omega arith
closing_none (Some (Dialing id)) p = absurd p
closing_none (Some (Announcing said)) p = absurd p
closing_none (Some (Waiting addr)) p = absurd p
closing_none (Some Told) p = absurd p
closing_none (Some (Open id)) p = absurd p
closing_none (Some Closing) p = omega arith

closes_less : (linked : Bool) (s n : Option Stage) → MatchBool linked (IsClosing n) (n ≡ s) → untold_of n ≤ untold_of s
closes_less true s n p = let none = closing_none n p in omega (arith, none)
closes_less false s n p = let same = ap untold_of p in omega (arith, same)

closes : (who : Option ℕ) (cid : Cid) (a b : SocketFlow) (most : ℕ) → ClosesOn a b who cid → Owes a most → Owes b most
closes None cid a b most p o = keeps a b most p o
closes (Some key) cid a b most p o =
    let size = ap length p.events in
    let less = closes_less (is_linked (stage_at a.table key)) (stage_at a.table key) (stage_at b.table key) p.stage in
    plain b most (changes a b key 0 0 most (λ k apart. ap stage_of (p.others k apart)) (omega (arith, size)) (omega (arith, less)) o)

at_most_one : (test : Bool) (event : Event) → length (cond test (event ∷ []) []) ≤ 1
at_most_one true event = omega arith
at_most_one false event = omega arith

one_answer : (roots : Roots) (job : Job) → length (answers roots job) ≤ 1
one_answer roots job = at_most_one (nat_le job.0 (2 ^ 48)) (Answered job (Found roots.serve roots.publics))

roots_asked : (job : Job) (a b : SocketFlow) (most : ℕ) → b ≡ record a { events = a.events ++ answers a.roots job } → Owes a most → Owes b (most + 1)
roots_asked job a b most p o =
    let size = ap (λ flow. length flow.events) p ∙ length-append a.events (answers a.roots job) in
    let one = one_answer a.roots job in
    adds a b 1 most (λ k. ap (λ flow. stage_at flow.table k) p) (omega (arith, size, one)) o

does : (action : Action) (a b : SocketFlow) (most : ℕ) → Does action a b → Owes a most → Owes b (most + more_of action)
does (Admit cid addr) a b most p o = admits (is_free a cid.0) cid a b most p o
does (Turnaway away) a b most p o = more b most 0 (may_lose a b most p.1 o)
does (Dial cid addr) a b most p o = dials (is_free a cid.0) a.table.next_key cid addr a b most p o
does (Send cid bytes) a b most p o = more b most 0 (sends (key_at a.table cid.0) bytes a b most p o)
does (Close cid cause) a b most p o = more b most 0 (closes (key_at a.table cid.0) cid a b most p.2 o)
does (Pause time) a b most p o = more b most 0 (stays a b most (λ k. ap (λ flow. stage_at flow.table k) p) (ap (λ flow. flow.events) p) o)
does (AskRoots job) a b most p o = roots_asked job a b most p o
does (State cid name) a b most p o = more b most 0 (stays a b most (λ k. ap (λ flow. stage_at flow.table k) p) (ap (λ flow. flow.events) p) o)
does (Peer addr note) a b most p o = more b most 0 (stays a b most (λ k. ap (λ flow. stage_at flow.table k) p) (ap (λ flow. flow.events) p) o)

-- ---- what comes and goes

hears : (socket : Socket) (heard : Heard) (said : List ℕ) → untold_of (stage_of (introduced (record socket { stage = Announcing said }) heard)) ≤ 0
hears socket Front said = omega arith
hears socket (Whole addr) said = omega arith
hears socket Else said = omega arith

heard_less : (socket : Socket) (stage : Stage) (bytes : List ℕ) → socket.stage ≡ stage → untold_of (stage_of (heard_on socket stage bytes)) ≤ untold_of (Some stage)
heard_less socket (Dialing id) bytes is = let same = ap (λ s. untold_of (Some s)) is in omega (arith, same)
heard_less socket (Announcing said) bytes is = hears socket (hearing (said ++ bytes)) (said ++ bytes)
heard_less socket (Waiting addr) bytes is = let same = ap (λ s. untold_of (Some s)) is in omega (arith, same)
heard_less socket Told bytes is = let same = ap (λ s. untold_of (Some s)) is in omega (arith, same)
heard_less socket (Open id) bytes is = let same = ap (λ s. untold_of (Some s)) is in omega (arith, same)
heard_less socket Closing bytes is = let same = ap (λ s. untold_of (Some s)) is in omega (arith, same)

comes_less : (s : Option Socket) (bytes : List ℕ) → untold_of (stage_of (after_bytes s bytes)) ≤ untold_of (stage_of s)
comes_less None bytes = omega arith
comes_less (Some socket) bytes = heard_less socket socket.stage bytes refl

goes_less : (s n : Option Stage) → (n ≡ None) ⊎ (n ≡ s) → untold_of n ≤ untold_of s
goes_less s n (inl gone) = let none = ap untold_of gone in omega (arith, none)
goes_less s n (inr same) = let is = ap untold_of same in omega (arith, is)

welcomed_none : (none : Bool) (addr : Addr) → untold_of (Some (cond none (Waiting addr) (Announcing []))) ≤ 0
welcomed_none true addr = omega arith
welcomed_none false addr = omega arith

newcomer_none : (greeting : List ℕ) (addr : Addr) → untold_of (stage_of (Some (newcomer greeting addr))) ≤ 0
newcomer_none greeting addr = welcomed_none (length greeting == 0) addr

one_moment : (times : Times) (moment : ℕ) → length (moments_told times moment) ≤ 1
one_moment times moment = at_most_one (is_news (reached times moment)) (Now (reached times moment).moment)

begins : (moment : ℕ) (a told : SocketFlow) (most : ℕ) → KeepsSockets a told → told.events ≡ a.events ++ moments_told a.moments moment → Owes a most → Owes told (most + 1)
begins moment a told most p events o =
    let size = ap length events ∙ length-append a.events (moments_told a.moments moment) in
    let one = one_moment a.moments moment in
    adds a told 1 most (λ k. (p.talk k).1) (omega (arith, size, one)) o

-- ---- what is asked for

gives : (event : Event) (a b : SocketFlow) (most : ℕ) → IsFirst a b event ⊎ IsNextCaller a b event → Owes a most → Owes b most
gives event a b most (inl p) o =
    let size : length a.events ≡ suc (length b.events) = ap length p.first in
    plain b most (adds a b 0 most (λ k. (p.sockets.talk k).1) (omega (arith, size)) o)
gives event a b most (inr p) o =
    let before : length a.events ≡ 0 = ap length p.none in
    let after : length b.events ≡ 0 = ap length p.left in
    let now : untold_at b.table p.key ≡ 0 = ap untold_of p.now_told in
    plain b most (changes a b p.key 0 0 most p.others (omega (arith, before, after)) (omega (arith, now)) o)

asks : (ask : Ask) (a b : SocketFlow) (most : ℕ) → Asks a b ask → Owes a most → Owes b most
asks (CloseSocket key) a b most p o = keeps a b most p.0 o
asks (Connect key addr) a b most p o = keeps a b most p.0 o
asks (Check key) a b most p o = keeps a b most p.0 o
asks (Write key) a b most p o = keeps a b most p.0 o
asks Accept a b most p o = keeps a b most p.0 o
asks (Read key size) a b most p o = keeps a b most p.0 o
asks (Give event) a b most p o = gives event a b most p o
asks Govern a b most p o = keeps a b most p.0 o
asks (Wait time) a b most p o = keeps a b most p.0 o

step : (call : Call) (a b : SocketFlow) (most : ℕ) → Makes call a b → Owes a most → Owes b (most + more_by call)
step PeerWaits a b most p o = more b most 0 (keeps a b most p o)
step NobodyWaits a b most p o = more b most 0 (keeps a b most p o)
step PeerIsGone a b most p o = more b most 0 (keeps a b most p o)
step HasNoRoom a b most p o = more b most 0 (keeps a b most p o)
step (HasNoRoomToDial key addr) a b most p o = more b most 0 (may_lose a b most p o)
step (MayBeReady key writable) a b most p o = more b most 0 (keeps a b most p o)
step (RoundBegins moment) a b most p o = may_lose p.told b (most + 1) p.loses (begins moment a p.told most p.sockets p.last o)
step (PeerCame addr key) a b most p o =
    let none = newcomer_none a.greeting addr in
    more b most 0 (puts a b key most (Some (newcomer a.greeting addr)) p.0 p.1 (omega (arith, none)) o)
step (DialCameTo key outcome) a b most p o = more b most 0 (dialed key (stage_at a.table key) outcome a b most refl p o)
step (BytesCame key bytes event) a b most p o = more b most 0 (puts a b key most (after_bytes (socket_at a.table key) bytes) p.1 p.2.events (comes_less (socket_at a.table key) bytes) o)
step (BytesWent key count bytes) a b most p o =
    more b most 0 (puts a b key most (after_going (socket_at a.table key) count) p.1 p.2.events (goes_less (stage_at a.table key) (stage_of (after_going (socket_at a.table key) count)) (went [] key (socket_at a.table key) count)) o)
step (TakesNoMore key) a b most p o =
    more b most 0 (puts a b key most (after_full (socket_at a.table key)) p.0 p.1.events (goes_less (stage_at a.table key) (stage_of (after_full (socket_at a.table key))) (full [] key (socket_at a.table key))) o)
step (HasEnded key) a b most p o = more b most 0 (loses key a b most p o)
step (NodeDoes action) a b most p o = does action a b most p o
step (NodeAsks ask) a b most p o = more b most 0 (asks ask p.left b most p.asks (may_lose a p.left most p.loses o))

-- ---- a history

history : (calls : List Call) (reading : Option (ℕ × ℕ)) (a b : SocketFlow) (most : ℕ) → Runs reading calls a b → Owes a most → Owes b (most + more_in calls)
history [] reading a b most runs o = more b most 0 (subst (λ flow. Owes flow most) (sym runs) o)
history (call ∷ calls) reading a b most runs o =
    let done = history calls (to_read call) runs.1 b (most + more_by call) runs.3 (step call a runs.1 most runs.2 o) in
    eases b ((most + more_by call) + more_in calls) (most + (more_by call + more_in calls)) (omega arith) done

pub events_are_bounded : EventsAreBounded
events_are_bounded reading first last calls most none untold runs =
    let size : length first.events ≡ 0 = ap length none in
    let o = history calls reading first last most runs (record { left = most; untold = untold; sum = omega (arith, size) }) in
    let sum = o.sum in
    omega (arith, sum)
