-- Turns are shared over whole histories, and the node is told of one peer at a time, and of all.
use Rattle.std.proofs.Common.{◌≡◌, ◌≢◌, ◌⊎◌, inl, inr, ℕ, ◌==◌, Bool, true, false, ◌||◌, cond, List, [], ◌∷◌, ◌++◌, Option, Some, None, refl, sym, subst}
use Rattle.std.proofs.lemmas.Bool.{both_ways, eqb-true, eqb-false, eq-eqb}
use Rattle.net_base.specs.declared.action.Action.{Action}
use Rattle.net_base.specs.declared.action.Action.TheVariants.{Admit, Turnaway, Dial, Send, Close, Pause, AskRoots, State, Peer}
use Rattle.socket_flow.specs.Fairness.{OneIsTold, AllAreTold, Throughout, asks_to_read, is_read_in, TurnsAreShared}
use Rattle.socket_flow.specs.Histories.{Call, PeerWaits, NobodyWaits, PeerIsGone, HasNoRoom, HasNoRoomToDial, MayBeReady, RoundBegins, PeerCame, DialCameTo, BytesCame, BytesWent, TakesNoMore, HasEnded, NodeDoes, NodeAsks, to_read, Runs, QueuesBy, Queues}
use Rattle.socket_flow.specs.Rounds.{may_be_read, MayQueue, MayQueueAt, NoneMayBeRead, IsOutOfLine, turn_of, HasTurn}
use Rattle.socket_flow.specs.Table.{stage_at, is_waiting, is_open}
use Rattle.socket_flow.specs.Turns.{has_turn, Precedes}
use Rattle.socket_flow.specs.declared.ask.Ask.{Ask}
use Rattle.socket_flow.specs.declared.ask.Ask.TheVariants.{Close as CloseSocket, Connect, Check, Write, Accept, Read, Give, Govern, Wait}
use Rattle.socket_flow.specs.declared.flow.SocketFlow.{SocketFlow}
use Rattle.socket_flow.proofs.Fair.{precedes-queued}
use Rattle.socket_flow.proofs.Pending.{quiet_where}

-- ---- peers

pub one_is_told : OneIsTold
one_is_told flow key told = flow.alone key told

unless_true : (test : Bool) → (test ≡ true → ⊥) → test ≡ false
unless_true true p = absurd (p refl)
unless_true false p = refl

pub all_are_told : AllAreTold
all_are_told old new ask made last key =
    unless_true (is_waiting (stage_at new.table key)) (λ waits.
    both_ways false refl (subst (λ line. has_turn line key ≡ true) (quiet_where ask new last made.quiet).callers (new.in_line key waits)))

-- ---- who stands ahead in the line

apart_of : (a b : ℕ) → (a == b) ≡ false → b ≢ a
apart_of a b h same = eqb-false a b h (sym same)

ahead_at : (key other k : ℕ) (test : Bool) (line : List ℕ) → (other == k) ≡ test → (test || has_turn line other) ≡ true → (key == k) ≡ false → (has_turn line other ≡ true → Precedes other key line) → Precedes other key (k ∷ line)
ahead_at key other k true line is has apart rest = inl (sym (eqb-true other k is))
ahead_at key other k false line is has apart rest = inr (apart_of key k apart, rest has)

either_false : (a b : Bool) → (a || b) ≡ false → (a ≡ false) × (b ≡ false)
either_false true b h = absurd (cc)
either_false false b h = (refl, h)

-- whoever stands in a line in which another doesn't
ahead : (key other : ℕ) (line : List ℕ) → has_turn line other ≡ true → has_turn line key ≡ false → Precedes other key line
ahead key other [] has none = absurd (both_ways false refl has)
ahead key other (k ∷ line) has none =
    let parts = either_false (key == k) (has_turn line key) none in
    ahead_at key other k (other == k) line refl has parts.0 (λ rest. ahead key other line rest parts.1)

-- whoever may be read is not passed over
passes : (flow : SocketFlow) (key other : ℕ) (passed line : List ℕ) → may_be_read flow other ≡ true → NoneMayBeRead flow passed → Precedes other key (passed ++ line) → Precedes other key line
passes flow key other [] line may none p = p
passes flow key other (k ∷ passed) line may none (inl is) = absurd (both_ways (may_be_read flow k) none.0 (subst (λ j. may_be_read flow j ≡ true) (sym is) may))
passes flow key other (k ∷ passed) line may none (inr p) = passes flow key other passed line may none.1 p.1

-- ---- one call

may_queue : (key other k : ℕ) (old new : List ℕ) → MayQueue old new k → Precedes other key old → Precedes other key new
may_queue key other k old new (inl same) p = subst (λ line. Precedes other key line) (sym same) p
may_queue key other k old new (inr is) p = subst (λ line. Precedes other key line) (sym is) (precedes-queued other key old k p)

same_line : (key other : ℕ) (old new : List ℕ) → new ≡ old → Precedes other key old → Precedes other key new
same_line key other old new same p = subst (λ line. Precedes other key line) (sym same) p

may_queue_at : (key other : ℕ) (who : Option ℕ) (old new : List ℕ) → MayQueueAt old new who → Precedes other key old → Precedes other key new
may_queue_at key other None old new q p = same_line key other old new q p
may_queue_at key other (Some k) old new q p = may_queue key other k old new q p

does : (key other : ℕ) (action : Action) (old new : SocketFlow) → QueuesBy action old new → Precedes other key old.turns → Precedes other key new.turns
does key other (Admit cid addr) old new q p = may_queue_at key other old.caller old.turns new.turns q p
does key other (Turnaway away) old new q p = same_line key other old.turns new.turns q p
does key other (Dial cid addr) old new q p = same_line key other old.turns new.turns q p
does key other (Send cid bytes) old new q p = same_line key other old.turns new.turns q p
does key other (Close cid cause) old new q p = same_line key other old.turns new.turns q p
does key other (Pause time) old new q p = same_line key other old.turns new.turns q p
does key other (AskRoots job) old new q p = same_line key other old.turns new.turns q p
does key other (State cid name) old new q p = same_line key other old.turns new.turns q p
does key other (Peer addr note) old new q p = same_line key other old.turns new.turns q p

-- it is read, or still stands ahead
abbrev Waits : ℕ → ℕ → Call → List ℕ → Type 0
Waits key other call line = (asks_to_read other call ≡ true) ⊎ Precedes other key line

reads_at : (key other k most : ℕ) (talks : Bool) (line : List ℕ) → Precedes other key (cond talks (k ∷ []) [] ++ line) → Waits key other (NodeAsks (Read k most)) line
reads_at key other k most true line (inl is) = inl (eq-eqb k other is)
reads_at key other k most true line (inr p) = inr p.1
reads_at key other k most false line p = inr p

reads_by : (key other : ℕ) (ask : Ask) (new : SocketFlow) → Precedes other key (turn_of new.table ask ++ new.turns) → Waits key other (NodeAsks ask) new.turns
reads_by key other (CloseSocket k) new p = inr p
reads_by key other (Connect k addr) new p = inr p
reads_by key other (Check k) new p = inr p
reads_by key other (Write k) new p = inr p
reads_by key other Accept new p = inr p
reads_by key other (Read k most) new p = reads_at key other k most (is_open (stage_at new.table k)) new.turns p
reads_by key other (Give event) new p = inr p
reads_by key other Govern new p = inr p
reads_by key other (Wait time) new p = inr p

reads : (key other : ℕ) (ask : Ask) (old new : SocketFlow) → HasTurn old new ask → may_be_read new other ≡ true → Precedes other key old.turns → Waits key other (NodeAsks ask) new.turns
reads key other ask old new turn may p =
    reads_by key other ask new (passes new key other turn.passed.passed (turn_of new.table ask ++ new.turns) may turn.passed.none (subst (λ line. Precedes other key line) turn.passed.first p))

step : (key other : ℕ) (call : Call) (old new : SocketFlow) → Queues call old new → may_be_read new other ≡ true → Precedes other key old.turns → Waits key other call new.turns
step key other PeerWaits old new q may p = inr (same_line key other old.turns new.turns q p)
step key other NobodyWaits old new q may p = inr (same_line key other old.turns new.turns q p)
step key other PeerIsGone old new q may p = inr (same_line key other old.turns new.turns q p)
step key other HasNoRoom old new q may p = inr (same_line key other old.turns new.turns q p)
step key other (HasNoRoomToDial k addr) old new q may p = inr (same_line key other old.turns new.turns q p)
step key other (MayBeReady k writable) old new q may p = inr (may_queue key other k old.turns new.turns q p)
step key other (RoundBegins moment) old new q may p = inr (same_line key other old.turns new.turns q p)
step key other (PeerCame addr k) old new q may p = inr (same_line key other old.turns new.turns q p)
step key other (DialCameTo k outcome) old new q may p = inr (may_queue key other k old.turns new.turns q p)
step key other (BytesCame k bytes event) old new q may p = inr (may_queue key other k old.turns new.turns q p)
step key other (BytesWent k count bytes) old new q may p = inr (may_queue key other k old.turns new.turns q p)
step key other (TakesNoMore k) old new q may p = inr (same_line key other old.turns new.turns q p)
step key other (HasEnded k) old new q may p = inr (same_line key other old.turns new.turns q p)
step key other (NodeDoes action) old new q may p = inr (does key other action old new q p)
step key other (NodeAsks ask) old new q may p = reads key other ask old new q may p

-- ---- a history

or_left : (a b : Bool) → a ≡ true → (a || b) ≡ true
or_left true b p = refl
or_left false b p = absurd (both_ways false refl p)

or_right : (a b : Bool) → b ≡ true → (a || b) ≡ true
or_right true b p = refl
or_right false b p = p

begins : (holds : SocketFlow → Type 0) (reading : Option (ℕ × ℕ)) (calls : List Call) (old new : SocketFlow) (runs : Runs reading calls old new) → Throughout holds reading calls old new runs → holds old
begins holds reading [] old new runs all = all
begins holds reading (call ∷ calls) old new runs all = all.0

turn_here : (table_open : Bool) (k : ℕ) (line : List ℕ) (key other : ℕ) → table_open ≡ true → Precedes other key (cond table_open (k ∷ []) [] ++ line) → Precedes other key (k ∷ line)
turn_here true k line key other is p = p
turn_here false k line key other is p = absurd (cc)

first_is : (key other : ℕ) (line : List ℕ) → Precedes other key (key ∷ line) → other ≡ key
first_is key other line (inl is) = sym is
first_is key other line (inr p) = absurd (p.0 refl)

-- the last read is of the other, if that still stands ahead
last_read : (key other more : ℕ) (old new : SocketFlow) → HasTurn old new (Read key more) → may_be_read new other ≡ true → is_open (stage_at new.table key) ≡ true → Precedes other key old.turns → other ≡ key
last_read key other more old new turn may talks p =
    first_is key other new.turns (turn_here (is_open (stage_at new.table key)) key new.turns key other talks
    (passes new key other turn.passed.passed (turn_of new.table (Read key more) ++ new.turns) may turn.passed.none (subst (λ line. Precedes other key line) turn.passed.first p)))

read_or : (key other : ℕ) (call : Call) (between : List Call) (line : List ℕ) → Waits key other call line → (Precedes other key line → is_read_in other between ≡ true) → is_read_in other (call ∷ between) ≡ true
read_or key other call between line (inl read) rest = or_left (asks_to_read other call) (is_read_in other between) read
read_or key other call between line (inr waits) rest = or_right (asks_to_read other call) (is_read_in other between) (rest waits)

shared : (key other more : ℕ) (between : List Call) (reading : Option (ℕ × ℕ)) (old last : SocketFlow) (runs : Runs reading (between ++ NodeAsks (Read key more) ∷ []) old last)
    → Throughout (λ flow. may_be_read flow other ≡ true) reading (between ++ NodeAsks (Read key more) ∷ []) old last runs → is_open (stage_at last.table key) ≡ true → other ≢ key
    → Precedes other key old.turns → is_read_in other between ≡ true
shared key other more [] reading old last runs all talks apart p =
    absurd (apart (last_read key other more old runs.1 runs.4 all.1 (subst (λ flow. is_open (stage_at flow.table key) ≡ true) runs.3 talks) p))
shared key other more (call ∷ between) reading old last runs all talks apart p =
    let rest = between ++ NodeAsks (Read key more) ∷ [] in
    read_or key other call between runs.1.turns (step key other call old runs.1 runs.4 (begins (λ flow. may_be_read flow other ≡ true) (to_read call) rest runs.1 last runs.3 all.1) p)
    (λ waits. shared key other more between (to_read call) runs.1 last runs.3 all.1 talks apart waits)

out_of_line : (table_open : Bool) (key : ℕ) (line : List ℕ) → table_open ≡ true → IsOutOfLine line (cond table_open (key ∷ []) []) → has_turn line key ≡ false
out_of_line true key line is p = p.0
out_of_line false key line is p = absurd (cc)

pub turns_are_shared : TurnsAreShared
turns_are_shared reading old first last between key other most more read runs talks talks_still stands all =
    let turn = subst (λ flow. HasTurn old flow (Read key most)) (sym read.3) read.4 in
    let none = out_of_line (is_open (stage_at first.table key)) key first.turns talks turn.out in
    shared key other more between (Some (key, most)) first last runs all talks_still
    (λ same. both_ways (has_turn first.turns other) (subst (λ k. has_turn first.turns k ≡ false) (sym same) none) stands)
    (ahead key other first.turns stands none)
