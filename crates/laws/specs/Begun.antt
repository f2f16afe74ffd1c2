-- When a wait begins and when it ends, on the connection that a part of an event is about.
use Rattle.std.specs.Prelude.{ℕ, ◌≡◌, Bool, true, false, not, ◌&&◌, ◌||◌, ◌==◌, if◌then◌else◌, Option, Some, None, ◌+◌}
use Rattle.laws.specs.Words.{is_acquirable, is_dialing, is_duplex, is_for_remote, is_live, some_runs, Order, Ask, Forget, Promote, Release, Activate, Deactivate, Item, kind_place, Phase, Dialing, Greeting, Negotiated, Closing, Kind, Machine, Entry, entry_at}
use Rattle.laws.specs.Words.kind
use Rattle.laws.specs.Acts.{Act, fires_one, carries, ends_dial, handles_item}
use Rattle.laws.specs.Untouched.{is_about}
use Rattle.laws.specs.Waits.{until_of, length_of}

-- ---- one wait

abbrev pub is_kind : Kind → Kind → Bool
is_kind own other = kind_place other == kind_place own

-- the wait for what the other side is to answer on a protocol
abbrev pub is_reply_on : ℕ → Kind → Bool
is_reply_on protocol kind.Handshake = false
is_reply_on protocol kind.Grace = false
is_reply_on protocol kind.TimeWait = false
is_reply_on protocol kind.Reply2 = protocol == 2
is_reply_on protocol kind.Reply8 = protocol == 8
is_reply_on protocol kind.Reply10 = protocol == 10

-- from now on, for the whole length
abbrev pub anew : Kind → Machine → Option ℕ
anew sort m = Some (m.now + length_of sort m.settings)

-- it begins, or goes on as it did, if it did
abbrev pub begun_where : Bool → Kind → Entry → Machine → Option ℕ
begun_where begins sort e m = if begins then anew sort m else until_of sort e

-- it ends, or goes on as it did
abbrev pub ended_where : Bool → Kind → Entry → Option ℕ
ended_where ends sort e = if ends then None else until_of sort e

-- ---- a deadline

-- What has fired is over, and all else goes on. One that is closed waits to be gone, and for nothing else.
abbrev pub wait_fired : Kind → Kind → Entry → Entry → Machine → Option ℕ
wait_fired fired sort e f m =
    if is_live f.facts then ended_where (is_kind fired sort) sort e
    else if is_kind kind.TimeWait sort then anew sort m
    else None

-- ---- an order

-- An answer is awaited once something is asked on the connection in use: for addresses, where the chains meet, and, as it comes
-- into use, whether it is alive. One that is released is kept for this node, unless the other side uses it or it is kept for that.
abbrev pub wait_ordered : Order → Kind → Entry → Machine → Option ℕ
wait_ordered (Ask addr n) sort e m = begun_where (e.facts.local && is_reply_on 10 sort) sort e m
wait_ordered (Forget addr) sort e m = until_of sort e
wait_ordered (Promote addr) sort e m = begun_where (is_acquirable e.facts && is_reply_on 8 sort) sort e m
wait_ordered (Release addr) sort e m =
    begun_where (e.facts.local && not (some_runs e.facts.running || is_for_remote e.facts.grace) && is_kind kind.Grace sort) sort e m
wait_ordered (Activate addr) sort e m = begun_where (e.facts.local && is_reply_on 2 sort) sort e m
wait_ordered (Deactivate addr) sort e m = until_of sort e

-- ---- an item

-- A handshake that is done is waited for no more. Where the other side may use the connection, it is kept for it; where this node
-- does, that it is alive is to be answered.
abbrev pub wait_agreed : Kind → Entry → Entry → Machine → Option ℕ
wait_agreed kind.Handshake e f m = None
wait_agreed kind.Grace e f m = if f.facts.local && not (is_duplex f.facts) then None else anew kind.Grace m
wait_agreed kind.TimeWait e f m = None
wait_agreed kind.Reply2 e f m = until_of kind.Reply2 e
wait_agreed kind.Reply8 e f m = begun_where f.facts.local kind.Reply8 e m
wait_agreed kind.Reply10 e f m = until_of kind.Reply10 e

-- While a protocol of the other side runs no grace does, and one begins where none runs after it.
abbrev pub wait_asked : Kind → Entry → Entry → Machine → Option ℕ
wait_asked sort e f m = if is_kind kind.Grace sort then (if some_runs f.facts.running then None else anew sort m) else until_of sort e

-- What the other side has answered is waited for no more.
abbrev pub wait_talking : Item → Kind → Entry → Entry → Machine → Option ℕ
wait_talking item sort e f m = if item.side == 0 then wait_asked sort e f m else ended_where (is_reply_on item.id sort) sort e

abbrev pub wait_handled : Phase → Item → Kind → Entry → Entry → Machine → Option ℕ
wait_handled Dialing item sort e f m = until_of sort e
wait_handled (Greeting until) item sort e f m = wait_agreed sort e f m
wait_handled Negotiated item sort e f m = wait_talking item sort e f m
wait_handled (Closing until) item sort e f m = until_of sort e

-- ---- each act

-- until when a connection waits after an act, by what it was before and is after it; the handshake begins where its dial has opened
abbrev pub wait_after : Act → Kind → Entry → Entry → Machine → Option ℕ
wait_after (fires_one d) sort e f m = wait_fired d.kind sort e f m
wait_after (carries order) sort e f m = wait_ordered order sort e m
wait_after (ends_dial own opened) sort e f m = begun_where (is_dialing e.facts && opened && is_kind kind.Handshake sort) sort e m
wait_after (handles_item own item) sort e f m = wait_handled e.facts.phase item sort e f m
wait_after other sort e f m = until_of sort e

abbrev pub WhereStays : (Entry → Entry → Type 0) → Option Entry → Option Entry → Type 0
WhereStays law None after = Unit {0}
WhereStays law (Some e) None = Unit {0}
WhereStays law (Some e) (Some f) = law e f

-- On a connection that stays, each wait begins, goes on and ends exactly where it is to.
abbrev pub WaitsBegin : Act → Machine → Machine → Type 0
WaitsBegin act before after = (cid : ℕ) → is_about act before cid ≡ true →
    WhereStays (λ e f. (sort : Kind) → until_of sort f ≡ wait_after act sort e f before) (entry_at cid before) (entry_at cid after)
