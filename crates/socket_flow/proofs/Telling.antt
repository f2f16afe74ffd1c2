-- What came on a socket is told of one connection, whatever is called.
use Rattle.std.proofs.Common.{◌≡◌, ◌⊎◌, ℕ, ◌+◌, ◌-◌, ◌^◌, ◌==◌, ◌≤◌, min, nat_lt, Bool, true, false, not, cond, ◌&&◌, ◌||◌, eqb, MatchBool, List, [], ◌∷◌, ◌++◌, length, Option, Some, None, refl, sym, ap, subst, ◌∙◌, append_assoc, arith, inl, inr}
use Rattle.std.proofs.lemmas.Bool.{both_ways, eqb-true, eqb-false}
use Rattle.std.proofs.lemmas.List.{append-nil, length-append}
use Rattle.net_base.specs.declared.action.Action.{Action}
use Rattle.net_base.specs.declared.action.Action.TheVariants.{Admit, Turnaway, Dial, Send, Close, Pause, AskRoots, State, Peer}
use Rattle.net_base.specs.declared.address.Addr.{Addr}
use Rattle.net_base.specs.declared.connection.Cid.{Cid}
use Rattle.net_base.specs.declared.event.Event.{Event}
use Rattle.net_base.specs.declared.event.Event.TheVariants.{Bytes}
use Rattle.socket_flow.specs.Acting.{IsOpenAs, IsOpened, OpensOn, IsDialingAs, DialsAt, SendsOn, PutsOn, IsClosing, ClosesAt, ClosesOn, Does, is_free}
use Rattle.socket_flow.specs.Announcement.{announced_size, hearing}
use Rattle.socket_flow.specs.Asks.{Asks, IsFirst, IsNextCaller, MayRead}
use Rattle.socket_flow.specs.Flow.{told_bytes, told_of, introduced, heard_on, after_bytes, unless_over, after_going, blocked, after_full, welcomed, newcomer}
use Rattle.socket_flow.specs.Histories.{Call, PeerWaits, NobodyWaits, PeerIsGone, HasNoRoom, HasNoRoomToDial, MayBeReady, RoundBegins, PeerCame, DialCameTo, BytesCame, BytesWent, TakesNoMore, HasEnded, NodeDoes, NodeAsks, Makes, to_read_of, to_read, IsWithin, MayCall, Runs, if_on, came_by, came_on, event_if_on, told_by, told_on, is_accepted_by, is_accepted, AreBytesOf, bytes_of, all_bytes, size_at_most, IsSaid, IsAddress, IsAnnounced, IsTold, is_awaited, WhatCameIsTold}
use Rattle.socket_flow.specs.Stages.{still}
use Rattle.socket_flow.specs.Writing.{gone_by}
use Rattle.socket_flow.specs.Table.{socket_at, key_at, stage_at, stage_of, is_linked}
use Rattle.socket_flow.specs.Talk.{HasNoMoreStrangers, KeepsKeys, KeepsSockets, KeepsAll, Loses, Losing, MayLose, TakesIn, Connects, IsDialed, Begins, greeting_by}
use Rattle.socket_flow.specs.declared.announcement.Heard.{Heard}
use Rattle.socket_flow.specs.declared.announcement.Heard.TheVariants.{Front, Whole, Else}
use Rattle.socket_flow.specs.declared.ask.Ask.{Ask}
use Rattle.socket_flow.specs.declared.ask.Ask.TheVariants.{Close as CloseSocket, Connect, Check, Write, Accept, Read, Give, Govern, Wait}
use Rattle.socket_flow.specs.declared.ask.Dialed.{Dialed as Outcome}
use Rattle.socket_flow.specs.declared.ask.Dialed.TheVariants.{NotYet, Connected, Failed}
use Rattle.socket_flow.specs.declared.flow.SocketFlow.{SocketFlow}
use Rattle.socket_flow.specs.declared.id.Id.{Id}
use Rattle.socket_flow.specs.declared.socket.Socket.{Socket}
use Rattle.socket_flow.specs.declared.socket.Stage.{Stage}
use Rattle.socket_flow.specs.declared.socket.Stage.TheVariants.{Dialing, Announcing, Waiting, Told, Open, Closing}
use Rattle.socket_flow.specs.declared.socket_table.SocketTable.{SocketTable}
use Rattle.socket_flow.specs.declared.terms.Terms.{Terms}
use Rattle.socket_flow.proofs.Losing.{as_many_strangers}

-- ---- what a socket is for, and what came and was told

-- what was said before a socket is a connection
pub record IsKnown (a : Bool) (said : List ℕ) : Type 0 where
  no_more : IsSaid a said
  announced : IsAnnounced a said

pub record Talks (cid : Cid) (a : Bool) (c : List ℕ) (t : List Event) : Type 0 where
  said : List ℕ
  known : IsKnown a said
  events : AreBytesOf cid t
  bytes : c ≡ said ++ all_bytes t

abbrev pub Fits : Option Stage → Bool → List ℕ → List Event → Type 0
Fits None a c t = IsTold a c t
Fits (Some (Dialing id)) a c t = (a ≡ false) × (c ≡ []) × (t ≡ [])
Fits (Some (Announcing said)) a c t = (a ≡ true) × (c ≡ said) × (t ≡ []) × IsSaid true said
Fits (Some (Waiting addr)) a c t = (t ≡ []) × IsKnown a c
Fits (Some Told) a c t = (t ≡ []) × IsKnown a c
Fits (Some (Open id)) a c t = Talks id.cid a c t
Fits (Some Closing) a c t = IsTold a c t

-- the peer that the node was told of
abbrev pub IsCaller : Option Stage → Type 0
IsCaller None = Unit {0}
IsCaller (Some Told) = Unit {0}
IsCaller (Some stage) = ⊥

none_told : (a : Bool) (c : List ℕ) → IsSaid a c → IsTold a c []
none_told a c p = record { said = c; no_more = p; events = inl refl; bytes = sym (append-nil c) }

-- whatever it was for, it may go
over : (s : Option Stage) (a : Bool) (c : List ℕ) (t : List Event) → Fits s a c t → IsTold a c t
over None a c t p = p
over (Some (Dialing id)) a c t p =
    subst (λ x. IsTold x c t) (sym p.0) (subst (λ x. IsTold false x t) (sym p.1) (subst (λ x. IsTold false [] x) (sym p.2) (none_told false [] refl)))
over (Some (Announcing said)) a c t p =
    subst (λ x. IsTold x c t) (sym p.0) (subst (λ x. IsTold true x t) (sym p.1) (subst (λ x. IsTold true said x) (sym p.2) (none_told true said p.3)))
over (Some (Waiting addr)) a c t p = subst (λ x. IsTold a c x) (sym p.0) (none_told a c p.1.no_more)
over (Some Told) a c t p = subst (λ x. IsTold a c x) (sym p.0) (none_told a c p.1.no_more)
over (Some (Open id)) a c t p = record { said = p.said; no_more = p.known.no_more; events = inr (p.known.announced, (id.cid, p.events)); bytes = p.bytes }
over (Some Closing) a c t p = p

-- a dial, or a peer that the node was told of, becomes a connection
dial_opens : (cid : Cid) (a : Bool) (c : List ℕ) (t : List Event) → a ≡ false → c ≡ [] → t ≡ [] → Talks cid a c t
dial_opens cid a c t plain none nothing =
    subst (λ x. Talks cid x c t) (sym plain) (subst (λ x. Talks cid false x t) (sym none) (subst (λ x. Talks cid false [] x) (sym nothing)
    (record { said = []; known = record { no_more = refl; announced = tt }; events = tt; bytes = refl })))

peer_opens : (cid : Cid) (a : Bool) (c : List ℕ) (t : List Event) → t ≡ [] → IsKnown a c → Talks cid a c t
peer_opens cid a c t nothing known =
    subst (λ x. Talks cid a c x) (sym nothing) (record { said = c; known = known; events = tt; bytes = sym (append-nil c) })

opened_of : (stage : Stage) (id : Id) (a : Bool) (c : List ℕ) (t : List Event) → IsCaller (Some stage) → Fits (Some stage) a c t → Fits (Some (Open id)) a c t
opened_of (Dialing other) id a c t caller fits = absurd caller
opened_of (Announcing said) id a c t caller fits = absurd caller
opened_of (Waiting addr) id a c t caller fits = absurd caller
opened_of Told id a c t caller fits = peer_opens id.cid a c t fits.0 fits.1
opened_of (Open other) id a c t caller fits = absurd caller
opened_of Closing id a c t caller fits = absurd caller

-- ---- bytes come

all_snoc : (t : List Event) (cid : Cid) (bytes : List ℕ) → all_bytes (t ++ Bytes cid bytes ∷ []) ≡ all_bytes t ++ bytes
all_snoc [] cid bytes = append-nil bytes
all_snoc (event ∷ t) cid bytes = ap (λ x. bytes_of event ++ x) (all_snoc t cid bytes) ∙ sym (append_assoc (bytes_of event) (all_bytes t) bytes)

are_snoc : (t : List Event) (cid : Cid) (bytes : List ℕ) → AreBytesOf cid t → AreBytesOf cid (t ++ Bytes cid bytes ∷ [])
are_snoc [] cid bytes p = (refl, tt)
are_snoc (event ∷ t) cid bytes p = (p.0, are_snoc t cid bytes p.1)

talks_on : (cid : Cid) (a : Bool) (c : List ℕ) (t : List Event) (bytes : List ℕ) → Talks cid a c t → Talks cid a (c ++ bytes) (t ++ Bytes cid bytes ∷ [])
talks_on cid a c t bytes p = record {
  said = p.said;
  known = p.known;
  events = are_snoc t cid bytes p.events;
  bytes = ap (λ x. x ++ bytes) p.bytes ∙ (append_assoc p.said (all_bytes t) bytes ∙ ap (λ x. p.said ++ x) (sym (all_snoc t cid bytes)));
}

seven_if : (four six : Bool) → 7 ≤ size_at_most (cond four (Some 7) (cond six (Some 19) None))
seven_if true six = omega arith
seven_if false true = omega arith
seven_if false false = omega arith

seven : (bytes : List ℕ) → 7 ≤ size_at_most (announced_size bytes)
seven [] = omega arith
seven (family ∷ rest) = seven_if (family == 4) (family == 6)

within : (size : Option ℕ) (n m : ℕ) (said : List ℕ) → n ≡ length said → n ≤ size_at_most size → m ≤ still size said → n + m ≤ size_at_most size
within (Some size) n m said is first more = omega (arith, is, first, more)
within None n m said is first more = omega (arith, first, more)

none_yet : (m : ℕ) (bytes : List ℕ) → m ≤ 7 - 0 → m ≤ size_at_most (announced_size bytes)
none_yet m bytes more = let least = seven bytes in omega (arith, least, more)

said_more : (said bytes : List ℕ) → IsSaid true said → length bytes ≤ still (announced_size said) said → IsSaid true (said ++ bytes)
said_more [] bytes first more = none_yet (length bytes) bytes more
said_more (family ∷ said) bytes first more =
    subst (λ n. n ≤ size_at_most (announced_size (family ∷ said))) (sym (length-append (family ∷ said) bytes))
    (within (announced_size (family ∷ said)) (length (family ∷ said)) (length bytes) (family ∷ said) refl first more)

hears : (socket : Socket) (said bytes : List ℕ) (a : Bool) (c : List ℕ) (t : List Event) (heard : Heard) → hearing (said ++ bytes) ≡ heard
    → a ≡ true → c ≡ said → t ≡ [] → IsSaid true (said ++ bytes)
    → Fits (stage_of (introduced (record socket { stage = Announcing (said ++ bytes) }) heard)) a (c ++ bytes) (t ++ [])
hears socket said bytes a c t Front is awaited front nothing more = (awaited, ap (λ x. x ++ bytes) front, ap (λ x. x ++ []) nothing, more)
hears socket said bytes a c t (Whole addr) is awaited front nothing more = (
  ap (λ x. x ++ []) nothing,
  subst (λ x. IsKnown x (c ++ bytes)) (sym awaited) (subst (λ x. IsKnown true (x ++ bytes)) (sym front) (record { no_more = more; announced = subst IsAddress (sym is) tt })),
)
hears socket said bytes a c t Else is awaited front nothing more =
    subst (λ x. IsTold x (c ++ bytes) (t ++ [])) (sym awaited) (subst (λ x. IsTold true (x ++ bytes) (t ++ [])) (sym front)
    (subst (λ x. IsTold true (said ++ bytes) (x ++ [])) (sym nothing) (none_told true (said ++ bytes) more)))

comes_at : (socket : Socket) (stage : Stage) (bytes : List ℕ) (most : ℕ) (a : Bool) (c : List ℕ) (t : List Event) → socket.stage ≡ stage
    → MayRead (Some stage) most → length bytes ≤ most → Fits (Some stage) a c t
    → Fits (stage_of (heard_on socket stage bytes)) a (c ++ bytes) (t ++ event_if_on true (told_bytes stage bytes))
comes_at socket (Dialing id) bytes most a c t is may le fits = absurd may
comes_at socket (Announcing said) bytes most a c t is may le fits =
    hears socket said bytes a c t (hearing (said ++ bytes)) refl fits.0 fits.1 fits.2 (said_more said bytes fits.3 (subst (λ n. length bytes ≤ n) may le))
comes_at socket (Waiting addr) bytes most a c t is may le fits = absurd may
comes_at socket Told bytes most a c t is may le fits = absurd may
comes_at socket (Open id) bytes most a c t is may le fits =
    subst (λ s. Fits (Some s) a (c ++ bytes) (t ++ Bytes id.cid bytes ∷ [])) (sym is) (talks_on id.cid a c t bytes fits)
comes_at socket Closing bytes most a c t is may le fits = absurd may

comes : (s : Option Socket) (bytes : List ℕ) (most : ℕ) (a : Bool) (c : List ℕ) (t : List Event)
    → MayRead (stage_of s) most → length bytes ≤ most → Fits (stage_of s) a c t
    → Fits (stage_of (after_bytes s bytes)) a (c ++ bytes) (t ++ event_if_on true (told_of s bytes))
comes None bytes most a c t may le fits = absurd may
comes (Some socket) bytes most a c t may le fits = comes_at socket socket.stage bytes most a c t refl may le fits

-- ---- what one call makes of one socket

or_false : (acc : Bool) → acc ≡ (acc || false)
or_false true = refl
or_false false = refl

abbrev Stands : Option Stage → Type 0
Stands None = ⊥
Stands (Some stage) = Unit {0}

abbrev Named : Option ℕ → Type 0
Named None = ⊥
Named (Some key) = Unit {0}

nobody : (o : Option ℕ) (key : ℕ) → o ≡ None → o ≡ Some key → ⊥
nobody o key none some = subst Named none (subst Named (sym some) tt)

pub gone_stands : (s : Option Stage) (stage : Stage) → s ≡ None → s ≡ Some stage → ⊥
gone_stands s stage none some = subst Stands none (subst Stands (sym some) tt)

abbrev key_in : ℕ → Option ℕ → ℕ
key_in other None = other
key_in other (Some key) = key

same_key : (o : Option ℕ) (k key : ℕ) → o ≡ Some k → o ≡ Some key → k ≡ key
same_key o k key one two = ap (key_in k) (sym one ∙ two)

-- what a socket and the peer that the node was told of are, in the midst of a history
pub record Follows (greeting : List ℕ) (key : ℕ) (flow : SocketFlow) (acc : Bool) (c : List ℕ) (t : List Event) : Type 0 where
  pub greets : flow.greeting ≡ greeting
  pub fits : Fits (stage_at flow.table key) (acc && not (length greeting == 0)) c t
  pub fresh : flow.table.next_key ≤ key → (acc ≡ false) × (c ≡ []) × (t ≡ []) × (stage_at flow.table key ≡ None)
  pub given : flow.caller ≡ Some key → flow.table.next_key ≤ key → ⊥
  pub caller : flow.caller ≡ Some key → IsCaller (stage_at flow.table key)

module _ (greeting : List ℕ) (key : ℕ) where
  abbrev pub awaits : Bool → Bool
  awaits acc = acc && not (length greeting == 0)

  stays : (old new : SocketFlow) (acc : Bool) (c : List ℕ) (t : List Event) → KeepsKeys old new
      → (stage_at new.table key ≡ None) ⊎ (stage_at new.table key ≡ stage_at old.table key)
      → Follows greeting key old acc c t → Follows greeting key new acc c t
  stays old new acc c t keys (inl gone) f = record {
    greets = keys.greeting ∙ f.greets;
    fits = subst (λ s. Fits s (awaits acc) c t) (sym gone) (over (stage_at old.table key) (awaits acc) c t f.fits);
    fresh = λ le. let q = f.fresh (subst (λ n. n ≤ key) keys.next le) in (q.0, q.1, q.2, gone);
    given = λ is le. f.given (keys.caller key is) (subst (λ n. n ≤ key) keys.next le);
    caller = λ is. subst IsCaller (sym gone) tt;
  }
  stays old new acc c t keys (inr same) f = record {
    greets = keys.greeting ∙ f.greets;
    fits = subst (λ s. Fits s (awaits acc) c t) (sym same) f.fits;
    fresh = λ le. let q = f.fresh (subst (λ n. n ≤ key) keys.next le) in (q.0, q.1, q.2, same ∙ q.3);
    given = λ is le. f.given (keys.caller key is) (subst (λ n. n ≤ key) keys.next le);
    caller = λ is. subst IsCaller (sym same) (f.caller (keys.caller key is));
  }

  keeps : (old new : SocketFlow) (acc : Bool) (c : List ℕ) (t : List Event) → KeepsSockets old new
      → Follows greeting key old acc c t → Follows greeting key new acc c t
  keeps old new acc c t p f = stays old new acc c t p.keys (inr (p.talk key).1) f

  put : (k : ℕ) (test : Bool) (table : SocketTable) (n x : Option Socket) → eqb k key ≡ test → n ≡ cond test x (socket_at table key)
      → (stage_of x ≡ None) ⊎ (stage_of x ≡ stage_at table k) → (stage_of n ≡ None) ⊎ (stage_of n ≡ stage_at table key)
  put k true table n x is e (inl gone) = inl (ap stage_of e ∙ gone)
  put k true table n x is e (inr same) = inr (ap stage_of e ∙ (same ∙ ap (λ j. stage_at table j) (eqb-true k key is)))
  put k false table n x is e either = inr (ap stage_of e)

  loses : (k : ℕ) (old new : SocketFlow) (acc : Bool) (c : List ℕ) (t : List Event) → Loses k old new
      → Follows greeting key old acc c t → Follows greeting key new acc c t
  loses k old new acc c t p f = stays old new acc c t p.keys (put k (eqb k key) old.table (socket_at new.table key) None refl (p.gone key) (inl refl)) f

  losing : (keys : List ℕ) (old new : SocketFlow) (acc : Bool) (c : List ℕ) (t : List Event) → Losing keys old new
      → Follows greeting key old acc c t → Follows greeting key new acc c t
  losing [] old new acc c t p f = keeps old new acc c t p.sockets f
  losing (k ∷ keys) old new acc c t p f =
      losing keys p.1 new acc c t p.4 (loses k p.0 p.1 acc c t p.3 (keeps old p.0 acc c t p.2.sockets f))

  may_lose : (old new : SocketFlow) (acc : Bool) (c : List ℕ) (t : List Event) → MayLose old new
      → Follows greeting key old acc c t → Follows greeting key new acc c t
  may_lose old new acc c t p f = losing p.gone old new acc c t p.losing f

  -- a dial is answered

  connects_here : (id : Id) (old new : SocketFlow) (acc : Bool) (c : List ℕ) (t : List Event) → KeepsKeys old new
      → stage_at old.table key ≡ Some (Dialing id) → stage_at new.table key ≡ Some (Open id)
      → Follows greeting key old acc c t → Follows greeting key new acc c t
  connects_here id old new acc c t keys was is f =
      let dial = subst (λ s. Fits s (awaits acc) c t) was f.fits in record {
        greets = keys.greeting ∙ f.greets;
        fits = subst (λ s. Fits s (awaits acc) c t) (sym is) (dial_opens id.cid (awaits acc) c t dial.0 dial.1 dial.2);
        fresh = λ le. absurd (gone_stands (stage_at old.table key) (Dialing id) (f.fresh (subst (λ n. n ≤ key) keys.next le)).3 was);
        given = λ now le. f.given (keys.caller key now) (subst (λ n. n ≤ key) keys.next le);
        caller = λ now. absurd (subst IsCaller was (f.caller (keys.caller key now)));
      }

  connects : (k : ℕ) (test : Bool) (id : Id) (old new : SocketFlow) (acc : Bool) (c : List ℕ) (t : List Event) → eqb k key ≡ test
      → stage_at old.table k ≡ Some (Dialing id) → Connects k id old new
      → Follows greeting key old acc c t → Follows greeting key new acc c t
  connects k true id old new acc c t is was p f =
      let here = eqb-true k key is in
      connects_here id old new acc c t p.keys (subst (λ j. stage_at old.table j ≡ Some (Dialing id)) here was) (subst (λ j. stage_at new.table j ≡ Some (Open id)) here p.stage) f
  connects k false id old new acc c t is was p f = stays old new acc c t p.keys (inr (p.others key is)) f

  dialed : (k : ℕ) (stage : Option Stage) (outcome : Outcome) (old new : SocketFlow) (acc : Bool) (c : List ℕ) (t : List Event)
      → stage_at old.table k ≡ stage → IsDialed stage outcome k old new
      → Follows greeting key old acc c t → Follows greeting key new acc c t
  dialed k None outcome old new acc c t is p f = keeps old new acc c t p.sockets f
  dialed k (Some (Dialing id)) NotYet old new acc c t is p f = keeps old new acc c t p.sockets f
  dialed k (Some (Dialing id)) Connected old new acc c t is p f = connects k (eqb k key) id old new acc c t refl is p f
  dialed k (Some (Dialing id)) Failed old new acc c t is p f = loses k old new acc c t p f
  dialed k (Some (Announcing said)) outcome old new acc c t is p f = keeps old new acc c t p.sockets f
  dialed k (Some (Waiting addr)) outcome old new acc c t is p f = keeps old new acc c t p.sockets f
  dialed k (Some Told) outcome old new acc c t is p f = keeps old new acc c t p.sockets f
  dialed k (Some (Open id)) outcome old new acc c t is p f = keeps old new acc c t p.sockets f
  dialed k (Some Closing) outcome old new acc c t is p f = keeps old new acc c t p.sockets f

  -- a key is given

  other_taken : (k : ℕ) (old new : SocketFlow) (acc : Bool) (c : List ℕ) (t : List Event) → TakesIn k old new
      → stage_at new.table key ≡ stage_at old.table key
      → Follows greeting key old acc c t → Follows greeting key new acc c t
  other_taken k old new acc c t p same f =
      let more : new.table.next_key ≤ key → old.table.next_key ≤ key = λ le. omega (arith, p.was, p.next, le) in record {
        greets = p.greeting ∙ f.greets;
        fits = subst (λ s. Fits s (awaits acc) c t) (sym same) f.fits;
        fresh = λ le. let q = f.fresh (more le) in (q.0, q.1, q.2, same ∙ q.3);
        given = λ is le. f.given (sym p.caller ∙ is) (more le);
        caller = λ is. subst IsCaller (sym same) (f.caller (sym p.caller ∙ is));
      }

  taken : (old new : SocketFlow) (acc now : Bool) (c : List ℕ) (t : List Event) → TakesIn key old new
      → (acc ≡ false → c ≡ [] → t ≡ [] → Fits (stage_at new.table key) (awaits now) c t)
      → Follows greeting key old acc c t → Follows greeting key new now c t
  taken old new acc now c t p fits f =
      let first : old.table.next_key ≤ key = omega (arith, p.was) in
      let q = f.fresh first in
      let late : new.table.next_key ≤ key → ⊥ = λ le. omega (arith, p.next, le) in record {
        greets = p.greeting ∙ f.greets;
        fits = fits q.0 q.1 q.2;
        fresh = λ le. absurd (late le);
        given = λ is le. late le;
        caller = λ is. absurd (f.given (sym p.caller ∙ is) first);
      }

  dialing : (s : Option Stage) (cid : Cid) (acc : Bool) (c : List ℕ) (t : List Event) → IsDialingAs cid s → acc ≡ false → c ≡ [] → t ≡ [] → Fits s (awaits acc) c t
  dialing None cid acc c t p plain none nothing = absurd p
  dialing (Some (Dialing id)) cid acc c t p plain none nothing = (ap awaits plain, none, nothing)
  dialing (Some (Announcing said)) cid acc c t p plain none nothing = absurd p
  dialing (Some (Waiting addr)) cid acc c t p plain none nothing = absurd p
  dialing (Some Told) cid acc c t p plain none nothing = absurd p
  dialing (Some (Open id)) cid acc c t p plain none nothing = absurd p
  dialing (Some Closing) cid acc c t p plain none nothing = absurd p

  dials : (k : ℕ) (test : Bool) (cid : Cid) (addr : Addr) (old new : SocketFlow) (acc : Bool) (c : List ℕ) (t : List Event) → eqb k key ≡ test
      → DialsAt old new k cid addr → Follows greeting key old acc c t → Follows greeting key new acc c t
  dials k true cid addr old new acc c t is p f =
      let here = eqb-true k key is in
      taken old new acc acc c t (subst (λ j. TakesIn j old new) here p.taken)
      (dialing (stage_at new.table key) cid acc c t (subst (λ j. IsDialingAs cid (stage_at new.table j)) here p.stage)) f
  dials k false cid addr old new acc c t is p f = other_taken k old new acc c t p.taken (ap stage_of (p.others key is)) f

  welcome : (plain : Bool) (addr : Addr) → Fits (Some (cond plain (Waiting addr) (Announcing []))) (not plain) [] []
  welcome true addr = (refl, record { no_more = refl; announced = tt })
  welcome false addr = (refl, refl, refl, omega arith)

  arrives : (k : ℕ) (test : Bool) (addr : Addr) (old new : SocketFlow) (acc : Bool) (c : List ℕ) (t : List Event) → eqb k key ≡ test
      → socket_at new.table key ≡ cond test (Some (newcomer old.greeting addr)) (socket_at old.table key) → TakesIn k old new
      → Follows greeting key old acc c t → Follows greeting key new (acc || test) c t
  arrives k true addr old new acc c t is put p f =
      taken old new acc (acc || true) c t (subst (λ j. TakesIn j old new) (eqb-true k key is) p)
      (λ plain none nothing. subst (λ x. Fits x (awaits (acc || true)) c t) (sym (ap stage_of put))
      (subst (λ x. Fits (Some (welcomed x addr)) (awaits (acc || true)) c t) (sym f.greets)
      (subst (λ x. Fits (Some (welcomed greeting addr)) (awaits (x || true)) c t) (sym plain)
      (subst (λ x. Fits (Some (welcomed greeting addr)) (awaits true) x t) (sym none)
      (subst (λ x. Fits (Some (welcomed greeting addr)) (awaits true) [] x) (sym nothing)
      (welcome (length greeting == 0) addr))))))
      f
  arrives k false addr old new acc c t is put p f =
      subst (λ x. Follows greeting key new x c t) (or_false acc) (other_taken k old new acc c t p (ap stage_of put) f)

  -- what the node does

  opened_here : (s : Option Socket) (n : Option Stage) (cid : Cid) (a : Bool) (c : List ℕ) (t : List Event) → IsOpenAs cid s n → IsCaller (stage_of s) → Fits (stage_of s) a c t → Fits n a c t
  opened_here None n cid a c t e caller fits = subst (λ s. Fits s a c t) (sym e) fits
  opened_here (Some socket) None cid a c t e caller fits = absurd e
  opened_here (Some socket) (Some (Dialing id)) cid a c t e caller fits = absurd e
  opened_here (Some socket) (Some (Announcing said)) cid a c t e caller fits = absurd e
  opened_here (Some socket) (Some (Waiting addr)) cid a c t e caller fits = absurd e
  opened_here (Some socket) (Some Told) cid a c t e caller fits = absurd e
  opened_here (Some socket) (Some (Open id)) cid a c t e caller fits = opened_of socket.stage id a c t caller fits
  opened_here (Some socket) (Some Closing) cid a c t e caller fits = absurd e

  opens_here : (cid : Cid) (old new : SocketFlow) (acc : Bool) (c : List ℕ) (t : List Event) → old.caller ≡ Some key → IsOpened old new key cid
      → Follows greeting key old acc c t → Follows greeting key new acc c t
  opens_here cid old new acc c t is p f = record {
    greets = p.greeting ∙ f.greets;
    fits = opened_here (socket_at old.table key) (stage_at new.table key) cid (awaits acc) c t p.stage (f.caller is) f.fits;
    fresh = λ le. absurd (f.given is (subst (λ n. n ≤ key) p.next le));
    given = λ now le. f.given is (subst (λ n. n ≤ key) p.next le);
    caller = λ now. absurd (nobody new.caller key p.caller now);
  }

  opens_at : (k : ℕ) (test : Bool) (cid : Cid) (old new : SocketFlow) (acc : Bool) (c : List ℕ) (t : List Event) → eqb k key ≡ test → old.caller ≡ Some k
      → IsOpened old new k cid → Follows greeting key old acc c t → Follows greeting key new acc c t
  opens_at k true cid old new acc c t is caller p f =
      let here = eqb-true k key is in
      opens_here cid old new acc c t (subst (λ j. old.caller ≡ Some j) here caller) (subst (λ j. IsOpened old new j cid) here p) f
  opens_at k false cid old new acc c t is caller p f =
      stays old new acc c t (record { next = p.next; greeting = p.greeting; caller = λ j now. absurd (nobody new.caller j p.caller now); strangers = p.strangers })
      (inr (ap stage_of (p.others key is))) f

  opens : (o : Option ℕ) (cid : Cid) (old new : SocketFlow) (acc : Bool) (c : List ℕ) (t : List Event) → old.caller ≡ o → OpensOn old new o cid
      → Follows greeting key old acc c t → Follows greeting key new acc c t
  opens None cid old new acc c t is p f = keeps old new acc c t p.sockets f
  opens (Some k) cid old new acc c t is p f = opens_at k (eqb k key) cid old new acc c t refl is p f

  admits : (free : Bool) (cid : Cid) (old new : SocketFlow) (acc : Bool) (c : List ℕ) (t : List Event)
      → MatchBool free (OpensOn old new old.caller cid) (KeepsAll old new) → Follows greeting key old acc c t → Follows greeting key new acc c t
  admits true cid old new acc c t p f = opens old.caller cid old new acc c t refl p f
  admits false cid old new acc c t p f = keeps old new acc c t p.sockets f

  dials_if : (free : Bool) (k : ℕ) (cid : Cid) (addr : Addr) (old new : SocketFlow) (acc : Bool) (c : List ℕ) (t : List Event)
      → MatchBool free (DialsAt old new k cid addr) (KeepsAll old new) → Follows greeting key old acc c t → Follows greeting key new acc c t
  dials_if true k cid addr old new acc c t p f = dials k (eqb k key) cid addr old new acc c t refl p f
  dials_if false k cid addr old new acc c t p f = keeps old new acc c t p.sockets f

  sends_if : (much : Bool) (k : ℕ) (bytes : List ℕ) (old new : SocketFlow) (acc : Bool) (c : List ℕ) (t : List Event)
      → MatchBool much (Loses k old new) (PutsOn old new k bytes) → Follows greeting key old acc c t → Follows greeting key new acc c t
  sends_if true k bytes old new acc c t p f = loses k old new acc c t p f
  sends_if false k bytes old new acc c t p f = stays old new acc c t p.rest.keys (inr (p.stages key)) f

  sends : (o : Option ℕ) (bytes : List ℕ) (old new : SocketFlow) (acc : Bool) (c : List ℕ) (t : List Event) → SendsOn old new o bytes
      → Follows greeting key old acc c t → Follows greeting key new acc c t
  sends None bytes old new acc c t p f = keeps old new acc c t p.sockets f
  sends (Some k) bytes old new acc c t p f = sends_if (nat_lt 67108864 (min (old.unsent + length bytes) (2 ^ 64 - 1))) k bytes old new acc c t p f

  closing : (n : Option Stage) → IsClosing n → (a : Bool) (c : List ℕ) (t : List Event) → IsTold a c t → Fits n a c t
  closing None p a c t told = told
  closing (Some (Dialing id)) p a c t told = absurd p
  closing (Some (Announcing said)) p a c t told = absurd p
  closing (Some (Waiting addr)) p a c t told = absurd p
  closing (Some Told) p a c t told = absurd p
  closing (Some (Open id)) p a c t told = absurd p
  closing (Some Closing) p a c t told = told

  linked_stands : (s : Option Stage) → is_linked s ≡ true → s ≡ None → ⊥
  linked_stands s linked none = both_ways false refl (subst (λ x. is_linked x ≡ true) none linked)

  linked_calls : (s : Option Stage) → is_linked s ≡ true → IsCaller s → ⊥
  linked_calls None linked caller = both_ways false refl linked
  linked_calls (Some (Dialing id)) linked caller = absurd caller
  linked_calls (Some (Announcing said)) linked caller = absurd caller
  linked_calls (Some (Waiting addr)) linked caller = absurd caller
  linked_calls (Some Told) linked caller = both_ways false refl linked
  linked_calls (Some (Open id)) linked caller = absurd caller
  linked_calls (Some Closing) linked caller = absurd caller

  closes_here : (linked : Bool) (old new : SocketFlow) (acc : Bool) (c : List ℕ) (t : List Event) → is_linked (stage_at old.table key) ≡ linked
      → MatchBool linked (IsClosing (stage_at new.table key)) (stage_at new.table key ≡ stage_at old.table key) → KeepsKeys old new
      → Follows greeting key old acc c t → Follows greeting key new acc c t
  closes_here true old new acc c t is p keys f = record {
    greets = keys.greeting ∙ f.greets;
    fits = closing (stage_at new.table key) p (awaits acc) c t (over (stage_at old.table key) (awaits acc) c t f.fits);
    fresh = λ le. absurd (linked_stands (stage_at old.table key) is (f.fresh (subst (λ n. n ≤ key) keys.next le)).3);
    given = λ now le. f.given (keys.caller key now) (subst (λ n. n ≤ key) keys.next le);
    caller = λ now. absurd (linked_calls (stage_at old.table key) is (f.caller (keys.caller key now)));
  }
  closes_here false old new acc c t is p keys f = stays old new acc c t keys (inr p) f

  closes_at : (k : ℕ) (test : Bool) (cid : Cid) (old new : SocketFlow) (acc : Bool) (c : List ℕ) (t : List Event) → eqb k key ≡ test
      → ClosesAt old new k cid → Follows greeting key old acc c t → Follows greeting key new acc c t
  closes_at k true cid old new acc c t is p f =
      closes_here (is_linked (stage_at old.table key)) old new acc c t refl
      (subst (λ j. MatchBool (is_linked (stage_at old.table j)) (IsClosing (stage_at new.table j)) (stage_at new.table j ≡ stage_at old.table j)) (eqb-true k key is) p.stage) p.keys f
  closes_at k false cid old new acc c t is p f = stays old new acc c t p.keys (inr (ap stage_of (p.others key is))) f

  closes : (o : Option ℕ) (cid : Cid) (old new : SocketFlow) (acc : Bool) (c : List ℕ) (t : List Event) → ClosesOn old new o cid
      → Follows greeting key old acc c t → Follows greeting key new acc c t
  closes None cid old new acc c t p f = keeps old new acc c t p.sockets f
  closes (Some k) cid old new acc c t p f = closes_at k (eqb k key) cid old new acc c t refl p f

  -- what is said of all that a call leaves as it is
  untouched : (old new : SocketFlow) (acc : Bool) (c : List ℕ) (t : List Event) → new.table ≡ old.table → new.greeting ≡ old.greeting → new.caller ≡ old.caller → HasNoMoreStrangers old new
      → Follows greeting key old acc c t → Follows greeting key new acc c t
  untouched old new acc c t table same caller strangers f =
      stays old new acc c t (record { next = ap (λ x. x.next_key) table; greeting = same; caller = λ k is. sym caller ∙ is; strangers = strangers }) (inr (ap (λ x. stage_at x key) table)) f

  does : (action : Action) (old new : SocketFlow) (acc : Bool) (c : List ℕ) (t : List Event) → Does action old new
      → Follows greeting key old acc c t → Follows greeting key new acc c t
  does (Admit cid addr) old new acc c t p f = admits (is_free old cid.0) cid old new acc c t p f
  does (Turnaway away) old new acc c t p f = may_lose old new acc c t p.1 f
  does (Dial cid addr) old new acc c t p f = dials_if (is_free old cid.0) old.table.next_key cid addr old new acc c t p f
  does (Send cid bytes) old new acc c t p f = sends (key_at old.table cid.0) bytes old new acc c t p f
  does (Close cid cause) old new acc c t p f = closes (key_at old.table cid.0) cid old new acc c t p.2 f
  does (Pause time) old new acc c t p f = untouched old new acc c t (ap (λ x. x.table) p) (ap (λ x. x.greeting) p) (ap (λ x. x.caller) p) (as_many_strangers old new (ap (λ x. x.strangers) p) (ap (λ x. x.strangers_most) p)) f
  does (AskRoots job) old new acc c t p f = untouched old new acc c t (ap (λ x. x.table) p) (ap (λ x. x.greeting) p) (ap (λ x. x.caller) p) (as_many_strangers old new (ap (λ x. x.strangers) p) (ap (λ x. x.strangers_most) p)) f
  does (State cid name) old new acc c t p f = untouched old new acc c t (ap (λ x. x.table) p) (ap (λ x. x.greeting) p) (ap (λ x. x.caller) p) (as_many_strangers old new (ap (λ x. x.strangers) p) (ap (λ x. x.strangers_most) p)) f
  does (Peer addr note) old new acc c t p f = untouched old new acc c t (ap (λ x. x.table) p) (ap (λ x. x.greeting) p) (ap (λ x. x.caller) p) (as_many_strangers old new (ap (λ x. x.strangers) p) (ap (λ x. x.strangers_most) p)) f

  -- what is asked for

  tells_here : (addr : Addr) (old new : SocketFlow) (acc : Bool) (c : List ℕ) (t : List Event) → stage_at old.table key ≡ Some (Waiting addr) → stage_at new.table key ≡ Some Told
      → new.table.next_key ≡ old.table.next_key → new.greeting ≡ old.greeting → Follows greeting key old acc c t → Follows greeting key new acc c t
  tells_here addr old new acc c t was is next same f =
      let late : new.table.next_key ≤ key → ⊥ = λ le. gone_stands (stage_at old.table key) (Waiting addr) (f.fresh (subst (λ n. n ≤ key) next le)).3 was in record {
        greets = same ∙ f.greets;
        fits = subst (λ s. Fits s (awaits acc) c t) (sym is) (subst (λ s. Fits s (awaits acc) c t) was f.fits);
        fresh = λ le. absurd (late le);
        given = λ now le. late le;
        caller = λ now. subst IsCaller (sym is) tt;
      }

  tells : (k : ℕ) (test : Bool) (addr : Addr) (old new : SocketFlow) (acc : Bool) (c : List ℕ) (t : List Event) → eqb k key ≡ test
      → stage_at old.table k ≡ Some (Waiting addr) → stage_at new.table k ≡ Some Told → new.caller ≡ Some k
      → (eqb k key ≡ false → stage_at new.table key ≡ stage_at old.table key)
      → new.table.next_key ≡ old.table.next_key → new.greeting ≡ old.greeting → Follows greeting key old acc c t → Follows greeting key new acc c t
  tells k true addr old new acc c t test was is caller others next same f =
      let here = eqb-true k key test in
      tells_here addr old new acc c t (subst (λ j. stage_at old.table j ≡ Some (Waiting addr)) here was) (subst (λ j. stage_at new.table j ≡ Some Told) here is) next same f
  tells k false addr old new acc c t test was is caller others next same f =
      let apart : new.caller ≡ Some key → ⊥ = λ now. eqb-false k key test (same_key new.caller k key caller now) in record {
        greets = same ∙ f.greets;
        fits = subst (λ s. Fits s (awaits acc) c t) (sym (others test)) f.fits;
        fresh = λ le. let q = f.fresh (subst (λ n. n ≤ key) next le) in (q.0, q.1, q.2, others test ∙ q.3);
        given = λ now le. apart now;
        caller = λ now. absurd (apart now);
      }

  gives : (event : Event) (old new : SocketFlow) (acc : Bool) (c : List ℕ) (t : List Event) → IsFirst old new event ⊎ IsNextCaller old new event
      → Follows greeting key old acc c t → Follows greeting key new acc c t
  gives event old new acc c t (inl p) f = keeps old new acc c t p.sockets f
  gives event old new acc c t (inr p) f = tells p.key (eqb p.key key) p.addr old new acc c t refl p.waits p.now_told p.caller (p.others key) p.next p.greeting f

  asks : (ask : Ask) (old new : SocketFlow) (acc : Bool) (c : List ℕ) (t : List Event) → Asks old new ask
      → Follows greeting key old acc c t → Follows greeting key new acc c t
  asks (CloseSocket k) old new acc c t p f = keeps old new acc c t p.0.sockets f
  asks (Connect k addr) old new acc c t p f = keeps old new acc c t p.0.sockets f
  asks (Check k) old new acc c t p f = keeps old new acc c t p.0.sockets f
  asks (Write k) old new acc c t p f = keeps old new acc c t p.0.sockets f
  asks Accept old new acc c t p f = keeps old new acc c t p.0.sockets f
  asks (Read k most) old new acc c t p f = keeps old new acc c t p.0.sockets f
  asks (Give event) old new acc c t p f = gives event old new acc c t p f
  asks Govern old new acc c t p f = keeps old new acc c t p.0.sockets f
  asks (Wait time) old new acc c t p f = keeps old new acc c t p.0.sockets f

  -- what is written

  went_stage : (socket : Socket) (stage : Stage) (out : List ℕ) → (stage_of (unless_over socket stage out) ≡ None) ⊎ (stage_of (unless_over socket stage out) ≡ Some socket.stage)
  went_stage socket (Dialing id) out = inr refl
  went_stage socket (Announcing said) out = inr refl
  went_stage socket (Waiting addr) out = inr refl
  went_stage socket Told out = inr refl
  went_stage socket (Open id) out = inr refl
  went_stage socket Closing [] = inl refl
  went_stage socket Closing (byte ∷ out) = inr refl

  pub went : (s : Option Socket) (count : ℕ) → (stage_of (after_going s count) ≡ None) ⊎ (stage_of (after_going s count) ≡ stage_of s)
  went None count = inl refl
  went (Some socket) count =
      went_stage (record socket { out = gone_by socket.out count; has_taken = true; is_held = false }) socket.stage (gone_by socket.out count)

  full_stage : (socket : Socket) (stage : Stage) → (stage_of (blocked socket stage) ≡ None) ⊎ (stage_of (blocked socket stage) ≡ Some socket.stage)
  full_stage socket (Dialing id) = inr refl
  full_stage socket (Announcing said) = inr refl
  full_stage socket (Waiting addr) = inr refl
  full_stage socket Told = inr refl
  full_stage socket (Open id) = inr refl
  full_stage socket Closing = inl refl

  pub full : (s : Option Socket) → (stage_of (after_full s) ≡ None) ⊎ (stage_of (after_full s) ≡ stage_of s)
  full None = inl refl
  full (Some socket) = full_stage socket socket.stage

  -- what comes

  pub reads_none : (s : Option Stage) (most : ℕ) → MayRead s most → s ≡ None → ⊥
  reads_none s most may none = subst (λ x. MayRead x most) none may

  reads_calls : (s : Option Stage) (most : ℕ) → MayRead s most → IsCaller s → ⊥
  reads_calls None most may caller = absurd may
  reads_calls (Some (Dialing id)) most may caller = absurd may
  reads_calls (Some (Announcing said)) most may caller = absurd caller
  reads_calls (Some (Waiting addr)) most may caller = absurd may
  reads_calls (Some Told) most may caller = absurd may
  reads_calls (Some (Open id)) most may caller = absurd caller
  reads_calls (Some Closing) most may caller = absurd may

  comes_here : (bytes : List ℕ) (most : ℕ) (event : Option Event) (old new : SocketFlow) (acc : Bool) (c : List ℕ) (t : List Event)
      → MayRead (stage_at old.table key) most → length bytes ≤ most → event ≡ told_of (socket_at old.table key) bytes
      → socket_at new.table key ≡ after_bytes (socket_at old.table key) bytes → KeepsKeys old new
      → Follows greeting key old acc c t → Follows greeting key new (acc || false) (c ++ bytes) (t ++ event_if_on true event)
  comes_here bytes most event old new acc c t may le told after keys f =
      subst (λ x. Follows greeting key new x (c ++ bytes) (t ++ event_if_on true event)) (or_false acc) (record {
        greets = keys.greeting ∙ f.greets;
        fits = subst (λ s. Fits s (awaits acc) (c ++ bytes) (t ++ event_if_on true event)) (sym (ap stage_of after))
            (subst (λ e. Fits (stage_of (after_bytes (socket_at old.table key) bytes)) (awaits acc) (c ++ bytes) (t ++ event_if_on true e)) (sym told)
            (comes (socket_at old.table key) bytes most (awaits acc) c t may le f.fits));
        fresh = λ first. absurd (reads_none (stage_at old.table key) most may (f.fresh (subst (λ n. n ≤ key) keys.next first)).3);
        given = λ now first. f.given (keys.caller key now) (subst (λ n. n ≤ key) keys.next first);
        caller = λ now. absurd (reads_calls (stage_at old.table key) most may (f.caller (keys.caller key now)));
      })

  padded : (flow : SocketFlow) (acc : Bool) (c : List ℕ) (t : List Event) → Follows greeting key flow acc c t → Follows greeting key flow (acc || false) (c ++ []) (t ++ [])
  padded flow acc c t f =
      subst (λ x. Follows greeting key flow x (c ++ []) (t ++ [])) (or_false acc)
      (subst (λ x. Follows greeting key flow acc x (t ++ [])) (sym (append-nil c)) (subst (λ x. Follows greeting key flow acc c x) (sym (append-nil t)) f))

  comes_on : (k : ℕ) (test : Bool) (bytes : List ℕ) (most : ℕ) (event : Option Event) (old new : SocketFlow) (acc : Bool) (c : List ℕ) (t : List Event) → eqb k key ≡ test
      → MayRead (stage_at old.table k) most → length bytes ≤ most → event ≡ told_of (socket_at old.table k) bytes
      → socket_at new.table key ≡ cond test (after_bytes (socket_at old.table k) bytes) (socket_at old.table key) → KeepsKeys old new
      → Follows greeting key old acc c t → Follows greeting key new (acc || false) (c ++ if_on test bytes) (t ++ event_if_on test event)
  comes_on k true bytes most event old new acc c t is may le told after keys f =
      let here = eqb-true k key is in
      comes_here bytes most event old new acc c t (subst (λ j. MayRead (stage_at old.table j) most) here may) le
      (subst (λ j. event ≡ told_of (socket_at old.table j) bytes) here told) (subst (λ j. socket_at new.table key ≡ after_bytes (socket_at old.table j) bytes) here after) keys f
  comes_on k false bytes most event old new acc c t is may le told after keys f = padded new acc c t (stays old new acc c t keys (inr (ap stage_of after)) f)

  -- ---- a history

  abbrev pub IsReady : Option (ℕ × ℕ) → SocketFlow → Type 0
  IsReady None flow = Unit {0}
  IsReady (Some reading) flow = MayRead (stage_at flow.table reading.0) reading.1

  comes_read : (reading : Option (ℕ × ℕ)) (k : ℕ) (bytes : List ℕ) (event : Option Event) (old new : SocketFlow) (acc : Bool) (c : List ℕ) (t : List Event)
      → IsReady reading old → IsWithin reading k bytes → Makes (BytesCame k bytes event) old new
      → Follows greeting key old acc c t → Follows greeting key new (acc || false) (c ++ if_on (eqb k key) bytes) (t ++ event_if_on (eqb k key) event)
  comes_read None k bytes event old new acc c t ready within_it p f = absurd within_it
  comes_read (Some reading) k bytes event old new acc c t ready within_it p f =
      comes_on k (eqb k key) bytes reading.1 event old new acc c t refl (subst (λ j. MayRead (stage_at old.table j) reading.1) (sym within_it.0) ready) within_it.1 p.0 (p.1 key) p.2.keys f

  pub step : (call : Call) (reading : Option (ℕ × ℕ)) (old new : SocketFlow) (acc : Bool) (c : List ℕ) (t : List Event)
      → IsReady reading old → MayCall reading call → Makes call old new → Follows greeting key old acc c t
      → Follows greeting key new (acc || is_accepted_by key call) (c ++ came_by key call) (t ++ told_by key call)
  step PeerWaits reading old new acc c t ready may p f = padded new acc c t (keeps old new acc c t p.sockets f)
  step NobodyWaits reading old new acc c t ready may p f = padded new acc c t (keeps old new acc c t p.sockets f)
  step PeerIsGone reading old new acc c t ready may p f = padded new acc c t (keeps old new acc c t p.sockets f)
  step HasNoRoom reading old new acc c t ready may p f = padded new acc c t (keeps old new acc c t p.sockets f)
  step (HasNoRoomToDial k addr) reading old new acc c t ready may p f = padded new acc c t (may_lose old new acc c t p f)
  step (MayBeReady k writable) reading old new acc c t ready may p f = padded new acc c t (keeps old new acc c t p.sockets f)
  step (RoundBegins moment) reading old new acc c t ready may p f =
      padded new acc c t (may_lose p.told new acc c t p.loses (keeps old p.told acc c t p.sockets f))
  step (PeerCame addr k) reading old new acc c t ready may p f =
      subst (λ x. Follows greeting key new (acc || eqb k key) x (t ++ [])) (sym (append-nil c)) (subst (λ x. Follows greeting key new (acc || eqb k key) c x) (sym (append-nil t))
      (arrives k (eqb k key) addr old new acc c t refl (p.0 key) p.3 f))
  step (DialCameTo k outcome) reading old new acc c t ready may p f = padded new acc c t (dialed k (stage_at old.table k) outcome old new acc c t refl p f)
  step (BytesCame k bytes event) reading old new acc c t ready may p f = comes_read reading k bytes event old new acc c t ready may p f
  step (BytesWent k count bytes) reading old new acc c t ready may p f =
      padded new acc c t (stays old new acc c t p.2.keys (put k (eqb k key) old.table (socket_at new.table key) (after_going (socket_at old.table k) count) refl (p.1 key) (went (socket_at old.table k) count)) f)
  step (TakesNoMore k) reading old new acc c t ready may p f =
      padded new acc c t (stays old new acc c t p.1.keys (put k (eqb k key) old.table (socket_at new.table key) (after_full (socket_at old.table k)) refl (p.0 key) (full (socket_at old.table k))) f)
  step (HasEnded k) reading old new acc c t ready may p f = padded new acc c t (loses k old new acc c t p f)
  step (NodeDoes action) reading old new acc c t ready may p f = padded new acc c t (does action old new acc c t p f)
  step (NodeAsks ask) reading old new acc c t ready may p f = padded new acc c t (asks ask p.left new acc c t p.asks (may_lose old p.left acc c t p.loses f))

  ready_to_read : (ask : Ask) (old new : SocketFlow) → Asks old new ask → IsReady (to_read_of ask) new
  ready_to_read (CloseSocket k) old new p = tt
  ready_to_read (Connect k addr) old new p = tt
  ready_to_read (Check k) old new p = tt
  ready_to_read (Write k) old new p = tt
  ready_to_read Accept old new p = tt
  ready_to_read (Read k most) old new p = p.1
  ready_to_read (Give event) old new p = tt
  ready_to_read Govern old new p = tt
  ready_to_read (Wait time) old new p = tt

  pub ready_then : (call : Call) (old new : SocketFlow) → Makes call old new → IsReady (to_read call) new
  ready_then PeerWaits old new p = tt
  ready_then NobodyWaits old new p = tt
  ready_then PeerIsGone old new p = tt
  ready_then HasNoRoom old new p = tt
  ready_then (HasNoRoomToDial k addr) old new p = tt
  ready_then (MayBeReady k writable) old new p = tt
  ready_then (RoundBegins moment) old new p = tt
  ready_then (PeerCame addr k) old new p = tt
  ready_then (DialCameTo k outcome) old new p = tt
  ready_then (BytesCame k bytes event) old new p = tt
  ready_then (BytesWent k count bytes) old new p = tt
  ready_then (TakesNoMore k) old new p = tt
  ready_then (HasEnded k) old new p = tt
  ready_then (NodeDoes action) old new p = tt
  ready_then (NodeAsks ask) old new p = ready_to_read ask p.left new p.asks

  pub or_again : (a b c : Bool) → ((a || b) || c) ≡ (a || (b || c))
  or_again true b c = refl
  or_again false b c = refl

  history : (calls : List Call) (reading : Option (ℕ × ℕ)) (old new : SocketFlow) (acc : Bool) (c : List ℕ) (t : List Event)
      → IsReady reading old → Runs reading calls old new → Follows greeting key old acc c t
      → Follows greeting key new (acc || is_accepted key calls) (c ++ came_on key calls) (t ++ told_on key calls)
  history [] reading old new acc c t ready runs f = padded new acc c t (subst (λ x. Follows greeting key x acc c t) (sym runs) f)
  history (call ∷ calls) reading old new acc c t ready runs f =
      let next = runs.1 in
      let after = step call reading old next acc c t ready runs.0 runs.2 f in
      let done = history calls (to_read call) next new (acc || is_accepted_by key call) (c ++ came_by key call) (t ++ told_by key call) (ready_then call old next runs.2) runs.3 after in
      subst (λ x. Follows greeting key new x (c ++ came_on key (call ∷ calls)) (t ++ told_on key (call ∷ calls))) (or_again acc (is_accepted_by key call) (is_accepted key calls))
      (subst (λ x. Follows greeting key new ((acc || is_accepted_by key call) || is_accepted key calls) x (t ++ told_on key (call ∷ calls))) (append_assoc c (came_by key call) (came_on key calls))
      (subst (λ x. Follows greeting key new ((acc || is_accepted_by key call) || is_accepted key calls) ((c ++ came_by key call) ++ came_on key calls) x)
      (append_assoc t (told_by key call) (told_on key calls)) done))

pub at_first : (terms : Terms) (flow : SocketFlow) (key : ℕ) → Begins terms flow → Follows (greeting_by terms) key flow false [] []
at_first terms flow key b = record {
  greets = b.greeting;
  fits = subst (λ s. Fits s false [] []) (sym (ap stage_of (b.sockets key))) (none_told false [] refl);
  fresh = λ le. (refl, refl, refl, ap stage_of (b.sockets key));
  given = λ is le. nobody flow.caller key b.caller is;
  caller = λ is. absurd (nobody flow.caller key b.caller is);
}

pub what_came_is_told : WhatCameIsTold
what_came_is_told terms first last calls begins runs key =
    let f = history (greeting_by terms) key calls None first last false [] [] tt runs (at_first terms first key begins) in
    over (stage_at last.table key) (is_awaited terms key calls) (came_on key calls) (told_on key calls) f.fits
