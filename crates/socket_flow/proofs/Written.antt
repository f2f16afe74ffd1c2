-- What is written on a socket was sent to its connection, whatever is called: what is still to be written and told of a socket,
-- by what it is for.
use Rattle.std.proofs.Common.{◌≡◌, ◌⊎◌, ℕ, ◌+◌, ◌-◌, ◌^◌, ◌≤◌, min, nat_lt, nat_le, Bool, true, false, cond, ◌==◌, eqb, MatchBool, List, [], ◌∷◌, ◌++◌, length, take, Option, Some, None, refl, sym, ap, subst, ◌∙◌, append_assoc, arith, inl, inr}
use Rattle.std.proofs.Math.Seq.{take-nil}
use Rattle.std.proofs.lemmas.Bool.{eqb-true, eqb-false}
use Rattle.std.proofs.lemmas.List.{take-append-drop}
use Rattle.net_base.specs.declared.action.Action.{Action}
use Rattle.net_base.specs.declared.action.Action.TheVariants.{Admit, Turnaway, Dial, Send, Close, Pause, AskRoots, State, Peer}
use Rattle.net_base.specs.declared.address.Addr.{Addr}
use Rattle.net_base.specs.declared.connection.Cid.{Cid}
use Rattle.net_base.specs.declared.event.Event.{Event}
use Rattle.socket_flow.specs.Acting.{IsOpenAs, IsOpened, OpensOn, IsDialingAs, DialsAt, SendsOn, PutsOn, put_on, IsClosing, OutStays, ClosesAt, ClosesOn, Does, is_free}
use Rattle.socket_flow.specs.Announcement.{hearing}
use Rattle.socket_flow.specs.Asks.{Asks, IsFirst, IsNextCaller}
use Rattle.socket_flow.specs.Flow.{told_bytes, told_of, introduced, heard_on, after_bytes, unless_over, after_going, blocked, after_full, newcomer}
use Rattle.socket_flow.specs.Histories.{Call, PeerWaits, NobodyWaits, PeerIsGone, HasNoRoom, HasNoRoomToDial, MayBeReady, RoundBegins, PeerCame, DialCameTo, BytesCame, BytesWent, TakesNoMore, HasEnded, NodeDoes, NodeAsks, Makes, to_read, Runs, if_on, event_if_on, told_by, told_on, AreBytesOf}
use Rattle.socket_flow.specs.Sending.{written_by, written_on, sent_by, sent_to, begun_with, IsFront, IsFrontOf, IsSentSince, IsOfOne, IsIdle, WhatIsWrittenWasSent}
use Rattle.socket_flow.specs.Table.{socket_at, key_at, out_at, out_of, stage_at, stage_of, is_linked}
use Rattle.socket_flow.specs.Talk.{KeepsSockets, KeepsAll, Loses, Losing, MayLose, TakesIn, Connects, IsDialed, greeting_by}
use Rattle.socket_flow.specs.Writing.{gone_by}
use Rattle.socket_flow.specs.declared.announcement.Heard.{Heard}
use Rattle.socket_flow.specs.declared.announcement.Heard.TheVariants.{Front, Whole, Else}
use Rattle.socket_flow.specs.declared.ask.Ask.{Ask}
use Rattle.socket_flow.specs.declared.ask.Ask.TheVariants.{Close as CloseSocket, Connect, Check, Write, Accept, Read, Give, Govern, Wait}
use Rattle.socket_flow.specs.declared.ask.Dialed.{Dialed as Outcome}
use Rattle.socket_flow.specs.declared.ask.Dialed.TheVariants.{NotYet, Connected, Failed}
use Rattle.socket_flow.specs.declared.flow.SocketFlow.{SocketFlow}
use Rattle.socket_flow.specs.declared.id.Id.{Id}
use Rattle.socket_flow.specs.declared.socket.Socket.{Socket}
use Rattle.socket_flow.specs.declared.socket.Stage.{Stage}
use Rattle.socket_flow.specs.declared.socket.Stage.TheVariants.{Dialing, Announcing, Waiting, Told, Open, Closing}
use Rattle.socket_flow.proofs.Names.{IsNamed, IsCaller, IsBare, is_conn, Orderly, gone_stands, false_true, same_key, nobody, eqb_same, keeps, loses, makes, at_first}

-- ---- fronts

front_none : (whole : List ℕ) → IsFront [] whole
front_none whole = (whole, refl)

front_on : (a whole written : List ℕ) → IsFront written whole → IsFront (a ++ written) (a ++ whole)
front_on a whole written p = (p.0, ap (λ x. a ++ x) p.1 ∙ sym (append_assoc a written p.0))

front_more : (written whole more : List ℕ) → IsFront written whole → IsFront written (whole ++ more)
front_more written whole more p = (p.0 ++ more, ap (λ x. x ++ more) p.1 ∙ append_assoc written p.0 more)

-- ---- what is still to come of a socket

none_front : (count : ℕ) → take {A = ℕ} (min count 0) [] ≡ []
none_front count = take-nil (min count 0)

module _ (greeting : List ℕ) (key : ℕ) where
  -- nothing of it, or all of one connection that is still to begin
  abbrev pub Starts : List Call → Type 0
  Starts calls = IsIdle (written_on key calls) (told_on key calls) ⊎ IsOfOne greeting calls (written_on key calls) (told_on key calls)

  -- what waits and what is sent, and nothing of another
  pub record Speaks (cid : Cid) (out : List ℕ) (calls : List Call) : Type 0 where
    pub told : AreBytesOf cid (told_on key calls)
    pub written : IsFront (written_on key calls) (out ++ sent_to cid calls)

  pub record Ends (out : List ℕ) (calls : List Call) : Type 0 where
    pub told : told_on key calls ≡ []
    pub written : IsFront (written_on key calls) out

  abbrev pub Comes : Option Stage → List ℕ → List Call → Type 0
  Comes None out calls = Starts calls
  Comes (Some (Dialing id)) out calls = Speaks id.cid out calls
  Comes (Some (Announcing said)) out calls = Starts calls
  Comes (Some (Waiting addr)) out calls = Starts calls
  Comes (Some Told) out calls = Starts calls
  Comes (Some (Open id)) out calls = Speaks id.cid out calls
  Comes (Some Closing) out calls = Ends out calls

  pub record Foresees (flow : SocketFlow) (calls : List Call) : Type 0 where
    pub comes : Comes (stage_at flow.table key) (out_at flow.table key) calls
    pub gone : (flow.table.next_key ≤ key → ⊥) → stage_at flow.table key ≡ None → IsIdle (written_on key calls) (told_on key calls)

  -- nothing comes of a socket that goes
  idle_comes : (s : Option Stage) (out : List ℕ) (calls : List Call) → IsIdle (written_on key calls) (told_on key calls) → Comes s out calls
  idle_comes None out calls p = inl p
  idle_comes (Some (Dialing id)) out calls p = record { told = subst (λ t. AreBytesOf id.cid t) (sym p.1) tt; written = subst (λ w. IsFront w (out ++ sent_to id.cid calls)) (sym p.0) (front_none (out ++ sent_to id.cid calls)) }
  idle_comes (Some (Announcing said)) out calls p = inl p
  idle_comes (Some (Waiting addr)) out calls p = inl p
  idle_comes (Some Told) out calls p = inl p
  idle_comes (Some (Open id)) out calls p = record { told = subst (λ t. AreBytesOf id.cid t) (sym p.1) tt; written = subst (λ w. IsFront w (out ++ sent_to id.cid calls)) (sym p.0) (front_none (out ++ sent_to id.cid calls)) }
  idle_comes (Some Closing) out calls p = record { told = p.1; written = subst (λ w. IsFront w out) (sym p.0) (front_none out) }

  -- ---- moves of sockets, and no call

  same : (old new : SocketFlow) (calls : List Call) → new.table.next_key ≡ old.table.next_key → stage_at new.table key ≡ stage_at old.table key → out_at new.table key ≡ out_at old.table key
      → Foresees new calls → Foresees old calls
  same old new calls next stage out f = record {
    comes = subst (λ s. Comes s (out_at old.table key) calls) stage (subst (λ x. Comes (stage_at new.table key) x calls) out f.comes);
    gone = λ late none. f.gone (λ le. late (subst (λ n. n ≤ key) next le)) (stage ∙ none);
  }

  keeps_back : (old new : SocketFlow) (calls : List Call) → KeepsSockets old new → Foresees new calls → Foresees old calls
  keeps_back old new calls p f = same old new calls p.keys.next (p.talk key).1 (p.talk key).0 f

  -- the key was given before, or it never was
  given_or : (given : Bool) (old : SocketFlow) → nat_le old.table.next_key key ≡ given → (old.table.next_key ≤ key) ⊎ (old.table.next_key ≤ key → ⊥)
  given_or true old is = inl (grind (arith, is))
  given_or false old is = inr (λ le. grind (arith, is, le))

  goes_if : (old new : SocketFlow) (calls : List Call) → (old.table.next_key ≤ key) ⊎ (old.table.next_key ≤ key → ⊥) → new.table.next_key ≡ old.table.next_key
      → stage_at new.table key ≡ None → Orderly greeting old → Foresees new calls → Foresees old calls
  goes_if old new calls (inl fresh) next none o f = record {
    comes = subst (λ s. Comes s (out_at old.table key) calls) (sym (o.fresh key fresh)) (subst (λ s. Comes s (out_at new.table key) calls) none f.comes);
    gone = λ late was. absurd (late fresh);
  }
  goes_if old new calls (inr late) next none o f =
      let idle = f.gone (λ le. late (subst (λ n. n ≤ key) next le)) none in record {
        comes = idle_comes (stage_at old.table key) (out_at old.table key) calls idle;
        gone = λ late_too was. idle;
      }

  goes : (old new : SocketFlow) (calls : List Call) → new.table.next_key ≡ old.table.next_key → stage_at new.table key ≡ None → Orderly greeting old → Foresees new calls → Foresees old calls
  goes old new calls next none o f = goes_if old new calls (given_or (nat_le old.table.next_key key) old refl) next none o f

  loses_if : (k : ℕ) (test : Bool) (old new : SocketFlow) (calls : List Call) → eqb k key ≡ test → socket_at new.table key ≡ cond test None (socket_at old.table key) → new.table.next_key ≡ old.table.next_key
      → Orderly greeting old → Foresees new calls → Foresees old calls
  loses_if k true old new calls is e next o f = goes old new calls next (ap stage_of e) o f
  loses_if k false old new calls is e next o f = same old new calls next (ap stage_of e) (ap out_of e) f

  loses_back : (k : ℕ) (old new : SocketFlow) (calls : List Call) → Loses k old new → Orderly greeting old → Foresees new calls → Foresees old calls
  loses_back k old new calls p o f = loses_if k (eqb k key) old new calls refl (p.gone key) p.keys.next o f

  losing_back : (keys : List ℕ) (old new : SocketFlow) (calls : List Call) → Losing keys old new → Orderly greeting old → Foresees new calls → Foresees old calls
  losing_back [] old new calls p o f = keeps_back old new calls p.sockets f
  losing_back (k ∷ keys) old new calls p o f =
      let before = keeps greeting old p.0 p.2.sockets o in
      let after = loses greeting k p.0 p.1 p.3 before in
      keeps_back old p.0 calls p.2.sockets (loses_back k p.0 p.1 calls p.3 before (losing_back keys p.1 new calls p.4 after f))

  may_lose_back : (old new : SocketFlow) (calls : List Call) → MayLose old new → Orderly greeting old → Foresees new calls → Foresees old calls
  may_lose_back old new calls p o f = losing_back p.gone old new calls p.losing o f

  -- what a socket becomes that is the same to what is still to come
  alters : (old new : SocketFlow) (calls : List Call) (a b : Stage) → stage_at old.table key ≡ Some a → stage_at new.table key ≡ Some b
      → (Comes (Some b) (out_at new.table key) calls → Comes (Some a) (out_at old.table key) calls) → Foresees new calls → Foresees old calls
  alters old new calls a b was is back f = record {
    comes = subst (λ s. Comes s (out_at old.table key) calls) (sym was) (back (subst (λ s. Comes s (out_at new.table key) calls) is f.comes));
    gone = λ late none. absurd (gone_stands (stage_at old.table key) a none was);
  }

  connects_back : (k : ℕ) (test : Bool) (id : Id) (old new : SocketFlow) (calls : List Call) → eqb k key ≡ test → stage_at old.table k ≡ Some (Dialing id) → Connects k id old new → Foresees new calls → Foresees old calls
  connects_back k true id old new calls is was p f =
      let here = eqb-true k key is in
      alters old new calls (Dialing id) (Open id) (subst (λ j. stage_at old.table j ≡ Some (Dialing id)) here was) (subst (λ j. stage_at new.table j ≡ Some (Open id)) here p.stage)
      (λ c. subst (λ x. Speaks id.cid x calls) (p.outs key) c) f
  connects_back k false id old new calls is was p f = same old new calls p.keys.next (p.others key is) (p.outs key) f

  dialed_back : (k : ℕ) (stage : Option Stage) (outcome : Outcome) (old new : SocketFlow) (calls : List Call) → stage_at old.table k ≡ stage → IsDialed stage outcome k old new
      → Orderly greeting old → Foresees new calls → Foresees old calls
  dialed_back k None outcome old new calls is p o f = keeps_back old new calls p.sockets f
  dialed_back k (Some (Dialing id)) NotYet old new calls is p o f = keeps_back old new calls p.sockets f
  dialed_back k (Some (Dialing id)) Connected old new calls is p o f = connects_back k (eqb k key) id old new calls refl is p f
  dialed_back k (Some (Dialing id)) Failed old new calls is p o f = loses_back k old new calls p o f
  dialed_back k (Some (Announcing said)) outcome old new calls is p o f = keeps_back old new calls p.sockets f
  dialed_back k (Some (Waiting addr)) outcome old new calls is p o f = keeps_back old new calls p.sockets f
  dialed_back k (Some Told) outcome old new calls is p o f = keeps_back old new calls p.sockets f
  dialed_back k (Some (Open id)) outcome old new calls is p o f = keeps_back old new calls p.sockets f
  dialed_back k (Some Closing) outcome old new calls is p o f = keeps_back old new calls p.sockets f

  tells_back : (k : ℕ) (test : Bool) (addr : Addr) (old new : SocketFlow) (calls : List Call) → eqb k key ≡ test → stage_at old.table k ≡ Some (Waiting addr) → stage_at new.table k ≡ Some Told
      → (eqb k key ≡ false → stage_at new.table key ≡ stage_at old.table key) → out_at new.table key ≡ out_at old.table key → new.table.next_key ≡ old.table.next_key → Foresees new calls → Foresees old calls
  tells_back k true addr old new calls test was is others out next f =
      let here = eqb-true k key test in
      alters old new calls (Waiting addr) Told (subst (λ j. stage_at old.table j ≡ Some (Waiting addr)) here was) (subst (λ j. stage_at new.table j ≡ Some Told) here is) (λ c. c) f
  tells_back k false addr old new calls test was is others out next f = same old new calls next (others test) out f

  gives_back : (event : Event) (old new : SocketFlow) (calls : List Call) → IsFirst old new event ⊎ IsNextCaller old new event → Foresees new calls → Foresees old calls
  gives_back event old new calls (inl p) f = keeps_back old new calls p.sockets f
  gives_back event old new calls (inr p) f = tells_back p.key (eqb p.key key) p.addr old new calls refl p.waits p.now_told (p.others key) (p.outs key) p.next f

  asks_back : (ask : Ask) (old new : SocketFlow) (calls : List Call) → Asks old new ask → Foresees new calls → Foresees old calls
  asks_back (CloseSocket k) old new calls p f = keeps_back old new calls p.0.sockets f
  asks_back (Connect k addr) old new calls p f = keeps_back old new calls p.0.sockets f
  asks_back (Check k) old new calls p f = keeps_back old new calls p.0.sockets f
  asks_back (Write k) old new calls p f = keeps_back old new calls p.0.sockets f
  asks_back Accept old new calls p f = keeps_back old new calls p.0.sockets f
  asks_back (Read k most) old new calls p f = keeps_back old new calls p.0.sockets f
  asks_back (Give event) old new calls p f = gives_back event old new calls p f
  asks_back Govern old new calls p f = keeps_back old new calls p.0.sockets f
  asks_back (Wait time) old new calls p f = keeps_back old new calls p.0.sockets f

  -- a key that is given had no socket
  fresh_back : (k : ℕ) (old new : SocketFlow) (calls : List Call) → eqb k key ≡ true → TakesIn k old new → Orderly greeting old → Starts calls → Foresees old calls
  fresh_back k old new calls is p o starts =
      let here = eqb-true k key is in
      let first : old.table.next_key ≤ key = omega (arith, p.was, here) in record {
        comes = subst (λ s. Comes s (out_at old.table key) calls) (sym (o.fresh key first)) starts;
        gone = λ late none. absurd (late first);
      }

  apart_back : (k : ℕ) (old new : SocketFlow) (calls : List Call) → eqb k key ≡ false → TakesIn k old new → socket_at new.table key ≡ socket_at old.table key → Foresees new calls → Foresees old calls
  apart_back k old new calls is p e f =
      let never : k ≡ key → ⊥ = eqb-false k key is in record {
        comes = subst (λ s. Comes s (out_at old.table key) calls) (ap stage_of e) (subst (λ x. Comes (stage_at new.table key) x calls) (ap out_of e) f.comes);
        gone = λ late none. f.gone (λ le. late (omega (arith, p.was, p.next, le))) (ap stage_of e ∙ none);
      }

  welcome : (plain : Bool) (addr : Addr) (calls : List Call) → Comes (Some (cond plain (Waiting addr) (Announcing []))) [] calls → Starts calls
  welcome true addr calls c = c
  welcome false addr calls c = c

  arrives_back : (k : ℕ) (test : Bool) (addr : Addr) (old new : SocketFlow) (calls : List Call) → eqb k key ≡ test → socket_at new.table key ≡ cond test (Some (newcomer old.greeting addr)) (socket_at old.table key)
      → TakesIn k old new → Orderly greeting old → Foresees new calls → Foresees old calls
  arrives_back k true addr old new calls is e p o f =
      fresh_back k old new calls is p o (welcome (length old.greeting == 0) addr calls (subst (λ s. Comes (stage_of s) (out_of s) calls) e f.comes))
  arrives_back k false addr old new calls is e p o f = apart_back k old new calls is p e f

  -- ---- a call that is none of this socket

  -- the node sends nothing by it to the connection of the socket
  abbrev IsUnsent : Option Stage → Call → Type 0
  IsUnsent (Some (Dialing id)) call = sent_by id.cid call ≡ []
  IsUnsent (Some (Open id)) call = sent_by id.cid call ≡ []
  IsUnsent _ call = Unit {0}

  record IsQuiet (call : Call) : Type 0 where
    written : written_by key call ≡ []
    told : told_by key call ≡ []

  quiet_idle : (call : Call) (calls : List Call) → IsQuiet call → IsIdle (written_on key calls) (told_on key calls) → IsIdle (written_on key (call ∷ calls)) (told_on key (call ∷ calls))
  quiet_idle call calls q p = (ap (λ x. x ++ written_on key calls) q.written ∙ p.0, ap (λ x. x ++ told_on key calls) q.told ∙ p.1)

  quiet_starts : (call : Call) (calls : List Call) → IsQuiet call → Starts calls → Starts (call ∷ calls)
  quiet_starts call calls q (inl p) = inl (quiet_idle call calls q p)
  quiet_starts call calls q (inr p) = inr (record {
    cid = p.cid;
    told_of = subst (λ t. AreBytesOf p.cid (t ++ told_on key calls)) (sym q.told) p.told_of;
    sent = inr (subst (λ w. IsSentSince greeting p.cid (w ++ written_on key calls) calls) (sym q.written) p.sent);
  })

  quiet_speaks : (cid : Cid) (out : List ℕ) (call : Call) (calls : List Call) → IsQuiet call → sent_by cid call ≡ [] → Speaks cid out calls → Speaks cid out (call ∷ calls)
  quiet_speaks cid out call calls q none p = record {
    told = subst (λ t. AreBytesOf cid (t ++ told_on key calls)) (sym q.told) p.told;
    written = subst (λ w. IsFront (w ++ written_on key calls) (out ++ (sent_by cid call ++ sent_to cid calls))) (sym q.written)
        (subst (λ x. IsFront (written_on key calls) (out ++ (x ++ sent_to cid calls))) (sym none) p.written);
  }

  quiet_comes : (s : Option Stage) (out : List ℕ) (call : Call) (calls : List Call) → IsQuiet call → IsUnsent s call → Comes s out calls → Comes s out (call ∷ calls)
  quiet_comes None out call calls q none c = quiet_starts call calls q c
  quiet_comes (Some (Dialing id)) out call calls q none c = quiet_speaks id.cid out call calls q none c
  quiet_comes (Some (Announcing said)) out call calls q none c = quiet_starts call calls q c
  quiet_comes (Some (Waiting addr)) out call calls q none c = quiet_starts call calls q c
  quiet_comes (Some Told) out call calls q none c = quiet_starts call calls q c
  quiet_comes (Some (Open id)) out call calls q none c = quiet_speaks id.cid out call calls q none c
  quiet_comes (Some Closing) out call calls q none c = record {
    told = ap (λ x. x ++ told_on key calls) q.told ∙ c.told;
    written = subst (λ w. IsFront (w ++ written_on key calls) out) (sym q.written) c.written;
  }

  quiet : (flow : SocketFlow) (call : Call) (calls : List Call) → IsQuiet call → IsUnsent (stage_at flow.table key) call → Foresees flow calls → Foresees flow (call ∷ calls)
  quiet flow call calls q none f = record {
    comes = quiet_comes (stage_at flow.table key) (out_at flow.table key) call calls q none f.comes;
    gone = λ late was. quiet_idle call calls q (f.gone late was);
  }

  -- a call by which nothing is sent
  unsent : (s : Option Stage) (call : Call) → ((cid : Cid) → sent_by cid call ≡ []) → IsUnsent s call
  unsent None call none = tt
  unsent (Some (Dialing id)) call none = none id.cid
  unsent (Some (Announcing said)) call none = tt
  unsent (Some (Waiting addr)) call none = tt
  unsent (Some Told) call none = tt
  unsent (Some (Open id)) call none = none id.cid
  unsent (Some Closing) call none = tt

  silently : (flow : SocketFlow) (call : Call) (calls : List Call) → written_by key call ≡ [] → told_by key call ≡ [] → ((cid : Cid) → sent_by cid call ≡ []) → Foresees flow calls → Foresees flow (call ∷ calls)
  silently flow call calls written told none f = quiet flow call calls (record { written = written; told = told }) (unsent (stage_at flow.table key) call none) f

  -- ---- bytes come

  heard_back : (socket : Socket) (more : List ℕ) (heard : Heard) (n : Option Socket) (old new : SocketFlow) (calls : List Call) → stage_of n ≡ stage_of (introduced (record socket { stage = Announcing more }) heard)
      → Comes (stage_of n) (out_of n) calls → (stage_of n ≡ None → IsIdle (written_on key calls) (told_on key calls)) → Starts calls
  heard_back socket more Front n old new calls e c gone = subst (λ s. Comes s (out_of n) calls) e c
  heard_back socket more (Whole addr) n old new calls e c gone = subst (λ s. Comes s (out_of n) calls) e c
  heard_back socket more Else n old new calls e c gone = inl (gone e)

  -- what came of a socket that stands is told of its connection
  came_at : (socket : Socket) (stage : Stage) (bytes : List ℕ) (n : Option Socket) (old new : SocketFlow) (call : Call) (calls : List Call)
      → socket.stage ≡ stage → n ≡ heard_on socket stage bytes → written_by key call ≡ [] → told_by key call ≡ event_if_on true (told_bytes stage bytes) → ((cid : Cid) → sent_by cid call ≡ [])
      → Comes (stage_of n) (out_of n) calls → (stage_of n ≡ None → IsIdle (written_on key calls) (told_on key calls)) → Comes (Some stage) socket.out (call ∷ calls)
  came_at socket (Dialing id) bytes n old new call calls is e written told none c gone =
      quiet_comes (Some (Dialing id)) socket.out call calls (record { written = written; told = told }) (none id.cid)
      (subst (λ s. Comes (Some s) socket.out calls) is (subst (λ x. Comes (stage_of x) (out_of x) calls) e c))
  came_at socket (Announcing said) bytes n old new call calls is e written told none c gone =
      quiet_starts call calls (record { written = written; told = told }) (heard_back socket (said ++ bytes) (hearing (said ++ bytes)) n old new calls (ap stage_of e) c gone)
  came_at socket (Waiting addr) bytes n old new call calls is e written told none c gone =
      quiet_comes (Some (Waiting addr)) socket.out call calls (record { written = written; told = told }) tt
      (subst (λ s. Comes (Some s) socket.out calls) is (subst (λ x. Comes (stage_of x) (out_of x) calls) e c))
  came_at socket Told bytes n old new call calls is e written told none c gone =
      quiet_comes (Some Told) socket.out call calls (record { written = written; told = told }) tt
      (subst (λ s. Comes (Some s) socket.out calls) is (subst (λ x. Comes (stage_of x) (out_of x) calls) e c))
  came_at socket (Open id) bytes n old new call calls is e written told none c gone =
      let was : Speaks id.cid socket.out calls = subst (λ s. Comes (Some s) socket.out calls) is (subst (λ x. Comes (stage_of x) (out_of x) calls) e c) in record {
        told = subst (λ t. AreBytesOf id.cid (t ++ told_on key calls)) (sym told) (refl, was.told);
        written = subst (λ w. IsFront (w ++ written_on key calls) (socket.out ++ (sent_by id.cid call ++ sent_to id.cid calls))) (sym written)
            (subst (λ x. IsFront (written_on key calls) (socket.out ++ (x ++ sent_to id.cid calls))) (sym (none id.cid)) was.written);
      }
  came_at socket Closing bytes n old new call calls is e written told none c gone =
      quiet_comes (Some Closing) socket.out call calls (record { written = written; told = told }) tt
      (subst (λ s. Comes (Some s) socket.out calls) is (subst (λ x. Comes (stage_of x) (out_of x) calls) e c))

  came_here : (s n : Option Socket) (bytes : List ℕ) (old new : SocketFlow) (call : Call) (calls : List Call) → socket_at old.table key ≡ s → socket_at new.table key ≡ n → n ≡ after_bytes s bytes
      → new.table.next_key ≡ old.table.next_key → written_by key call ≡ [] → told_by key call ≡ event_if_on true (told_of s bytes) → ((cid : Cid) → sent_by cid call ≡ []) → Orderly greeting old
      → Foresees new calls → Foresees old (call ∷ calls)
  came_here None n bytes old new call calls was is e next written told none o f =
      silently old call calls written told none (goes old new calls next (ap stage_of (is ∙ e)) o f)
  came_here (Some socket) n bytes old new call calls was is e next written told none o f =
      let given : old.table.next_key ≤ key → ⊥ = λ le. gone_stands (stage_at old.table key) socket.stage (o.fresh key le) (ap stage_of was) in record {
        comes = subst (λ s. Comes (stage_of s) (out_of s) (call ∷ calls)) (sym was)
            (came_at socket socket.stage bytes n old new call calls refl e written told none (subst (λ s. Comes (stage_of s) (out_of s) calls) is f.comes)
            (λ over. f.gone (λ le. given (subst (λ n. n ≤ key) next le)) (ap stage_of is ∙ over)));
        gone = λ late over. absurd (gone_stands (stage_at old.table key) socket.stage over (ap stage_of was));
      }

  -- ---- bytes go

  went_front : (out rest whole written : List ℕ) (count : ℕ) → rest ≡ gone_by out count → IsFront written (rest ++ whole) → IsFront (take (min count (length out)) out ++ written) (out ++ whole)
  went_front out rest whole written count e p =
      let size = min count (length out) in
      let q = front_on (take size out) (rest ++ whole) written p in
      subst (λ x. IsFront (take size out ++ written) x)
      (sym (append_assoc (take size out) rest whole) ∙ ap (λ x. x ++ whole) (ap (λ x. take size out ++ x) e ∙ take-append-drop size out)) q

  front_of_nothing : (out rest written : List ℕ) (count : ℕ) → rest ≡ gone_by out count → IsFront written rest → IsFront (take (min count (length out)) out ++ written) out
  front_of_nothing out rest written count e p =
      let size = min count (length out) in
      let q = front_on (take size out) rest written p in
      subst (λ x. IsFront (take size out ++ written) x) (ap (λ x. take size out ++ x) e ∙ take-append-drop size out) q

  none_taken : (out : List ℕ) (count : ℕ) → out ≡ [] → take (min count (length out)) out ≡ []
  none_taken out count none = ap (λ x. take (min count (length x)) x) none ∙ none_front count

  went_speaks : (cid : Cid) (out rest : List ℕ) (count : ℕ) (call : Call) (calls : List Call) → rest ≡ gone_by out count → written_by key call ≡ take (min count (length out)) out → told_by key call ≡ []
      → sent_by cid call ≡ [] → Speaks cid rest calls → Speaks cid out (call ∷ calls)
  went_speaks cid out rest count call calls left written told none p = record {
    told = subst (λ t. AreBytesOf cid (t ++ told_on key calls)) (sym told) p.told;
    written = subst (λ w. IsFront (w ++ written_on key calls) (out ++ (sent_by cid call ++ sent_to cid calls))) (sym written)
        (subst (λ x. IsFront (take (min count (length out)) out ++ written_on key calls) (out ++ (x ++ sent_to cid calls))) (sym none)
        (went_front out rest (sent_to cid calls) (written_on key calls) count left p.written));
  }

  went_last : (socket : Socket) (out rest : List ℕ) (count : ℕ) (n : Option Socket) (call : Call) (calls : List Call) → rest ≡ gone_by out count → n ≡ unless_over socket Closing rest → socket.stage ≡ Closing
      → socket.out ≡ gone_by out count → written_by key call ≡ take (min count (length out)) out → told_by key call ≡ []
      → Comes (stage_of n) (out_of n) calls → (stage_of n ≡ None → IsIdle (written_on key calls) (told_on key calls)) → Ends out (call ∷ calls)
  went_last socket out [] count n call calls r e is left written told c gone =
      let idle = gone (ap stage_of e) in record {
        told = ap (λ x. x ++ told_on key calls) told ∙ idle.1;
        written = subst (λ w. IsFront (w ++ written_on key calls) out) (sym written) (front_of_nothing out [] (written_on key calls) count r (subst (λ w. IsFront w []) (sym idle.0) (front_none [])));
      }
  went_last socket out (byte ∷ rest) count n call calls r e is left written told c gone =
      let ends : Ends socket.out calls = subst (λ s. Comes (Some s) socket.out calls) is (subst (λ x. Comes (stage_of x) (out_of x) calls) e c) in record {
        told = ap (λ x. x ++ told_on key calls) told ∙ ends.told;
        written = subst (λ w. IsFront (w ++ written_on key calls) out) (sym written) (front_of_nothing out socket.out (written_on key calls) count left ends.written);
      }

  -- what went out of a socket that stands
  went_at : (socket : Socket) (stage : Stage) (out : List ℕ) (count : ℕ) (n : Option Socket) (call : Call) (calls : List Call)
      → n ≡ unless_over socket stage (gone_by out count) → socket.stage ≡ stage → socket.out ≡ gone_by out count → IsBare (Some stage) out
      → written_by key call ≡ take (min count (length out)) out → told_by key call ≡ [] → ((cid : Cid) → sent_by cid call ≡ [])
      → Comes (stage_of n) (out_of n) calls → (stage_of n ≡ None → IsIdle (written_on key calls) (told_on key calls)) → Comes (Some stage) out (call ∷ calls)
  went_at socket (Dialing id) out count n call calls e is left bare written told none c gone =
      went_speaks id.cid out socket.out count call calls left written told (none id.cid) (subst (λ s. Comes (Some s) socket.out calls) is (subst (λ x. Comes (stage_of x) (out_of x) calls) e c))
  went_at socket (Announcing said) out count n call calls e is left bare written told none c gone =
      quiet_starts call calls (record { written = written ∙ none_taken out count bare; told = told }) (subst (λ s. Comes (Some s) socket.out calls) is (subst (λ x. Comes (stage_of x) (out_of x) calls) e c))
  went_at socket (Waiting addr) out count n call calls e is left bare written told none c gone =
      quiet_starts call calls (record { written = written ∙ none_taken out count bare; told = told }) (subst (λ s. Comes (Some s) socket.out calls) is (subst (λ x. Comes (stage_of x) (out_of x) calls) e c))
  went_at socket Told out count n call calls e is left bare written told none c gone =
      quiet_starts call calls (record { written = written ∙ none_taken out count bare; told = told }) (subst (λ s. Comes (Some s) socket.out calls) is (subst (λ x. Comes (stage_of x) (out_of x) calls) e c))
  went_at socket (Open id) out count n call calls e is left bare written told none c gone =
      went_speaks id.cid out socket.out count call calls left written told (none id.cid) (subst (λ s. Comes (Some s) socket.out calls) is (subst (λ x. Comes (stage_of x) (out_of x) calls) e c))
  went_at socket Closing out count n call calls e is left bare written told none c gone =
      went_last socket out (gone_by out count) count n call calls refl e is left written told c gone

  going_at : (socket : Socket) (count : ℕ) (n : Option Socket) (call : Call) (calls : List Call) → n ≡ after_going (Some socket) count → IsBare (Some socket.stage) socket.out
      → written_by key call ≡ take (min count (length socket.out)) socket.out → told_by key call ≡ [] → ((cid : Cid) → sent_by cid call ≡ [])
      → Comes (stage_of n) (out_of n) calls → (stage_of n ≡ None → IsIdle (written_on key calls) (told_on key calls)) → Comes (Some socket.stage) socket.out (call ∷ calls)
  going_at socket count n call calls e bare written told none c gone =
      went_at (record socket { out = gone_by socket.out count; has_taken = true; is_held = false }) socket.stage socket.out count n call calls e refl refl bare written told none c gone

  went_here : (s n : Option Socket) (count : ℕ) (old new : SocketFlow) (call : Call) (calls : List Call) → socket_at old.table key ≡ s → socket_at new.table key ≡ n → n ≡ after_going s count
      → new.table.next_key ≡ old.table.next_key → written_by key call ≡ take (min count (length (out_of s))) (out_of s) → told_by key call ≡ [] → ((cid : Cid) → sent_by cid call ≡ []) → Orderly greeting old
      → Foresees new calls → Foresees old (call ∷ calls)
  went_here None n count old new call calls was is e next written told none o f =
      silently old call calls (written ∙ none_front count) told none (goes old new calls next (ap stage_of (is ∙ e)) o f)
  went_here (Some socket) n count old new call calls was is e next written told none o f =
      let given : old.table.next_key ≤ key → ⊥ = λ le. gone_stands (stage_at old.table key) socket.stage (o.fresh key le) (ap stage_of was) in record {
        comes = subst (λ s. Comes (stage_of s) (out_of s) (call ∷ calls)) (sym was)
            (going_at socket count n call calls e (subst (λ s. IsBare (stage_of s) (out_of s)) was (o.bare key)) written told none (subst (λ s. Comes (stage_of s) (out_of s) calls) is f.comes)
            (λ over. f.gone (λ le. given (subst (λ n. n ≤ key) next le)) (ap stage_of is ∙ over)));
        gone = λ late over. absurd (gone_stands (stage_at old.table key) socket.stage over (ap stage_of was));
      }

  blocked_at : (socket : Socket) (stage : Stage) → (stage_of (blocked socket stage) ≡ None) ⊎ ((stage_of (blocked socket stage) ≡ Some socket.stage) × (out_of (blocked socket stage) ≡ socket.out))
  blocked_at socket (Dialing id) = inr (refl, refl)
  blocked_at socket (Announcing said) = inr (refl, refl)
  blocked_at socket (Waiting addr) = inr (refl, refl)
  blocked_at socket Told = inr (refl, refl)
  blocked_at socket (Open id) = inr (refl, refl)
  blocked_at socket Closing = inl refl

  full_at : (s : Option Socket) → (stage_of (after_full s) ≡ None) ⊎ ((stage_of (after_full s) ≡ stage_of s) × (out_of (after_full s) ≡ out_of s))
  full_at None = inl refl
  full_at (Some socket) = blocked_at socket socket.stage

  full_back : (k : ℕ) (test : Bool) (old new : SocketFlow) (calls : List Call) → eqb k key ≡ test → socket_at new.table key ≡ cond test (after_full (socket_at old.table k)) (socket_at old.table key)
      → (stage_of (after_full (socket_at old.table k)) ≡ None) ⊎ ((stage_of (after_full (socket_at old.table k)) ≡ stage_at old.table k) × (out_of (after_full (socket_at old.table k)) ≡ out_at old.table k))
      → new.table.next_key ≡ old.table.next_key → Orderly greeting old → Foresees new calls → Foresees old calls
  full_back k true old new calls is e (inl gone) next o f = goes old new calls next (ap stage_of e ∙ gone) o f
  full_back k true old new calls is e (inr kept) next o f =
      let here = eqb-true k key is in
      same old new calls next (ap stage_of e ∙ (kept.0 ∙ ap (λ j. stage_at old.table j) here)) (ap out_of e ∙ (kept.1 ∙ ap (λ j. out_at old.table j) here)) f
  full_back k false old new calls is e either next o f = same old new calls next (ap stage_of e) (ap out_of e) f

  -- ---- what the node does

  idle_back : (old : SocketFlow) (call : Call) (calls : List Call) → IsQuiet call → IsIdle (written_on key calls) (told_on key calls) → Foresees old (call ∷ calls)
  idle_back old call calls q idle = record {
    comes = idle_comes (stage_at old.table key) (out_at old.table key) (call ∷ calls) (quiet_idle call calls q idle);
    gone = λ late none. quiet_idle call calls q idle;
  }

  -- a connection begins
  begins : (said : List ℕ) (cid : Cid) (call : Call) (calls : List Call) → begun_with greeting cid call ≡ Some said → IsQuiet call → Speaks cid said calls → Starts (call ∷ calls)
  begins said cid call calls begun q p = inr (record {
    cid = cid;
    told_of = subst (λ t. AreBytesOf cid (t ++ told_on key calls)) (sym q.told) p.told;
    sent = inl (subst (λ b. IsFrontOf (written_by key call ++ written_on key calls) b (sent_to cid calls)) (sym begun)
        (subst (λ w. IsFront (w ++ written_on key calls) (said ++ sent_to cid calls)) (sym q.written) p.written));
  })

  if_same : (cid : Cid) (said : List ℕ) → cond (eqb cid.0 cid.0) (Some said) None ≡ Some said
  if_same cid said = ap (λ test. cond test (Some said) None) (eqb_same cid.0 cid.0 refl)

  dialing_speaks : (s : Option Stage) (cid : Cid) (out : List ℕ) (calls : List Call) → IsDialingAs cid s → Comes s out calls → Speaks cid out calls
  dialing_speaks None cid out calls p c = absurd p
  dialing_speaks (Some (Dialing id)) cid out calls p c = subst (λ x. Speaks x out calls) p c
  dialing_speaks (Some (Announcing said)) cid out calls p c = absurd p
  dialing_speaks (Some (Waiting addr)) cid out calls p c = absurd p
  dialing_speaks (Some Told) cid out calls p c = absurd p
  dialing_speaks (Some (Open id)) cid out calls p c = absurd p
  dialing_speaks (Some Closing) cid out calls p c = absurd p

  dials_back : (k : ℕ) (test : Bool) (cid : Cid) (addr : Addr) (old new : SocketFlow) (calls : List Call) → eqb k key ≡ test → DialsAt old new k cid addr → Orderly greeting old → Foresees new calls → Foresees old (NodeDoes (Dial cid addr) ∷ calls)
  dials_back k true cid addr old new calls is p o f =
      let here = eqb-true k key is in
      let said : out_at new.table key ≡ greeting = subst (λ j. out_at new.table j ≡ old.greeting) here p.out ∙ o.greets in
      let speaks = dialing_speaks (stage_at new.table key) cid (out_at new.table key) calls (subst (λ j. IsDialingAs cid (stage_at new.table j)) here p.stage) f.comes in
      fresh_back k old new (NodeDoes (Dial cid addr) ∷ calls) is p.taken o
      (begins greeting cid (NodeDoes (Dial cid addr)) calls (if_same cid greeting) (record { written = refl; told = refl }) (subst (λ x. Speaks cid x calls) said speaks))
  dials_back k false cid addr old new calls is p o f =
      silently old (NodeDoes (Dial cid addr)) calls refl refl (λ c. refl) (apart_back k old new calls is p.taken (p.others key is) f)

  dials_if : (free : Bool) (k : ℕ) (cid : Cid) (addr : Addr) (old new : SocketFlow) (calls : List Call) → MatchBool free (DialsAt old new k cid addr) (KeepsAll old new)
      → Orderly greeting old → Foresees new calls → Foresees old (NodeDoes (Dial cid addr) ∷ calls)
  dials_if true k cid addr old new calls p o f = dials_back k (eqb k key) cid addr old new calls refl p o f
  dials_if false k cid addr old new calls p o f = silently old (NodeDoes (Dial cid addr)) calls refl refl (λ c. refl) (keeps_back old new calls p.sockets f)

  opened_speaks : (socket : Socket) (n : Option Stage) (cid : Cid) (out : List ℕ) (calls : List Call) → IsOpenAs cid (Some socket) n → Comes n out calls → Speaks cid out calls
  opened_speaks socket None cid out calls p c = absurd p
  opened_speaks socket (Some (Dialing id)) cid out calls p c = absurd p
  opened_speaks socket (Some (Announcing said)) cid out calls p c = absurd p
  opened_speaks socket (Some (Waiting addr)) cid out calls p c = absurd p
  opened_speaks socket (Some Told) cid out calls p c = absurd p
  opened_speaks socket (Some (Open id)) cid out calls p c = subst (λ x. Speaks x out calls) p c
  opened_speaks socket (Some Closing) cid out calls p c = absurd p

  -- a peer that was told of is on a socket on which nothing waits
  caller_bare : (stage : Stage) (out : List ℕ) → IsCaller (Some stage) → IsBare (Some stage) out → out ≡ []
  caller_bare (Dialing id) out caller bare = absurd caller
  caller_bare (Announcing said) out caller bare = absurd caller
  caller_bare (Waiting addr) out caller bare = absurd caller
  caller_bare Told out caller bare = bare
  caller_bare (Open id) out caller bare = absurd caller
  caller_bare Closing out caller bare = absurd caller

  caller_comes : (stage : Stage) (out : List ℕ) (calls : List Call) → IsCaller (Some stage) → Starts calls → Comes (Some stage) out calls
  caller_comes (Dialing id) out calls caller c = absurd caller
  caller_comes (Announcing said) out calls caller c = absurd caller
  caller_comes (Waiting addr) out calls caller c = absurd caller
  caller_comes Told out calls caller c = c
  caller_comes (Open id) out calls caller c = absurd caller
  caller_comes Closing out calls caller c = absurd caller

  opens_here : (s : Option Socket) (cid : Cid) (addr : Addr) (old new : SocketFlow) (calls : List Call) → socket_at old.table key ≡ s → IsOpenAs cid s (stage_at new.table key)
      → IsCaller (stage_of s) → IsBare (stage_of s) (out_of s) → out_at new.table key ≡ out_of s → new.table.next_key ≡ old.table.next_key → Orderly greeting old → Foresees new calls → Foresees old (NodeDoes (Admit cid addr) ∷ calls)
  opens_here None cid addr old new calls was p caller bare out next o f = silently old (NodeDoes (Admit cid addr)) calls refl refl (λ c. refl) (goes old new calls next p o f)
  opens_here (Some socket) cid addr old new calls was p caller bare out next o f =
      let empty : out_at new.table key ≡ [] = out ∙ caller_bare socket.stage socket.out caller bare in
      let speaks = opened_speaks socket (stage_at new.table key) cid (out_at new.table key) calls p f.comes in
      record {
        comes = subst (λ s. Comes (stage_of s) (out_of s) (NodeDoes (Admit cid addr) ∷ calls)) (sym was) (caller_comes socket.stage socket.out (NodeDoes (Admit cid addr) ∷ calls) caller
            (begins [] cid (NodeDoes (Admit cid addr)) calls (if_same cid []) (record { written = refl; told = refl }) (subst (λ x. Speaks cid x calls) empty speaks)));
        gone = λ late none. absurd (gone_stands (stage_at old.table key) socket.stage none (ap stage_of was));
      }

  opens_back : (k : ℕ) (test : Bool) (cid : Cid) (addr : Addr) (old new : SocketFlow) (calls : List Call) → eqb k key ≡ test → old.caller ≡ Some k → IsOpened old new k cid
      → Orderly greeting old → Foresees new calls → Foresees old (NodeDoes (Admit cid addr) ∷ calls)
  opens_back k true cid addr old new calls is calls_it p o f =
      let here = eqb-true k key is in
      opens_here (socket_at old.table key) cid addr old new calls refl (subst (λ j. IsOpenAs cid (socket_at old.table j) (stage_at new.table j)) here p.stage)
      (subst (λ j. IsCaller (stage_at old.table j)) here (o.caller k calls_it)) (o.bare key) (subst (λ j. out_at new.table j ≡ out_at old.table j) here p.out) p.next o f
  opens_back k false cid addr old new calls is calls_it p o f =
      silently old (NodeDoes (Admit cid addr)) calls refl refl (λ c. refl) (same old new calls p.next (ap stage_of (p.others key is)) (ap out_of (p.others key is)) f)

  opens_on : (c : Option ℕ) (cid : Cid) (addr : Addr) (old new : SocketFlow) (calls : List Call) → old.caller ≡ c → OpensOn old new c cid → Orderly greeting old → Foresees new calls → Foresees old (NodeDoes (Admit cid addr) ∷ calls)
  opens_on None cid addr old new calls is p o f = silently old (NodeDoes (Admit cid addr)) calls refl refl (λ c. refl) (keeps_back old new calls p.sockets f)
  opens_on (Some k) cid addr old new calls is p o f = opens_back k (eqb k key) cid addr old new calls refl is p o f

  admits_if : (free : Bool) (cid : Cid) (addr : Addr) (old new : SocketFlow) (calls : List Call) → MatchBool free (OpensOn old new old.caller cid) (KeepsAll old new)
      → Orderly greeting old → Foresees new calls → Foresees old (NodeDoes (Admit cid addr) ∷ calls)
  admits_if true cid addr old new calls p o f = opens_on old.caller cid addr old new calls refl p o f
  admits_if false cid addr old new calls p o f = silently old (NodeDoes (Admit cid addr)) calls refl refl (λ c. refl) (keeps_back old new calls p.sockets f)

  -- what is sent to another is none of this socket
  off : (test : Bool) (bytes : List ℕ) → (test ≡ true → ⊥) → if_on test bytes ≡ []
  off true bytes never = absurd (never refl)
  off false bytes never = refl

  unsent_other : (s : Option Stage) (cid : Cid) (bytes : List ℕ) → (is_conn s cid.0 ≡ true → ⊥) → IsUnsent s (NodeDoes (Send cid bytes))
  unsent_other None cid bytes never = tt
  unsent_other (Some (Dialing id)) cid bytes never = off (eqb cid.0 id.cid.0) bytes (λ is. never (eqb_same id.cid.0 cid.0 (sym (eqb-true cid.0 id.cid.0 is))))
  unsent_other (Some (Announcing said)) cid bytes never = tt
  unsent_other (Some (Waiting addr)) cid bytes never = tt
  unsent_other (Some Told) cid bytes never = tt
  unsent_other (Some (Open id)) cid bytes never = off (eqb cid.0 id.cid.0) bytes (λ is. never (eqb_same id.cid.0 cid.0 (sym (eqb-true cid.0 id.cid.0 is))))
  unsent_other (Some Closing) cid bytes never = tt

  sent_speaks : (id : Id) (cid : Cid) (bytes out : List ℕ) (calls : List Call) → eqb id.cid.0 cid.0 ≡ true → Speaks id.cid (out ++ bytes) calls → Speaks id.cid out (NodeDoes (Send cid bytes) ∷ calls)
  sent_speaks id cid bytes out calls is p = record {
    told = p.told;
    written = subst (λ x. IsFront (written_on key calls) (out ++ (if_on x bytes ++ sent_to id.cid calls))) (sym (eqb_same cid.0 id.cid.0 (sym (eqb-true id.cid.0 cid.0 is))))
        (subst (λ x. IsFront (written_on key calls) x) (append_assoc out bytes (sent_to id.cid calls)) p.written);
  }

  sent_at : (stage : Stage) (cid : Cid) (bytes out : List ℕ) (calls : List Call) → IsNamed (Some stage) cid.0 → Comes (Some stage) (out ++ bytes) calls → Comes (Some stage) out (NodeDoes (Send cid bytes) ∷ calls)
  sent_at (Dialing id) cid bytes out calls named c = sent_speaks id cid bytes out calls named c
  sent_at (Announcing said) cid bytes out calls named c = false_true false refl named
  sent_at (Waiting addr) cid bytes out calls named c = false_true false refl named
  sent_at Told cid bytes out calls named c = false_true false refl named
  sent_at (Open id) cid bytes out calls named c = sent_speaks id cid bytes out calls named c
  sent_at Closing cid bytes out calls named c = false_true false refl named

  puts_here : (s : Option Socket) (cid : Cid) (bytes : List ℕ) (old new : SocketFlow) (calls : List Call) → socket_at old.table key ≡ s → (old.table.next_key ≤ key → ⊥) → IsNamed (stage_of s) cid.0
      → out_at new.table key ≡ put_on s bytes → stage_at new.table key ≡ stage_of s → new.table.next_key ≡ old.table.next_key → Foresees new calls → Foresees old (NodeDoes (Send cid bytes) ∷ calls)
  puts_here None cid bytes old new calls was given named out stage next f =
      idle_back old (NodeDoes (Send cid bytes)) calls (record { written = refl; told = refl }) (f.gone (λ le. given (subst (λ n. n ≤ key) next le)) stage)
  puts_here (Some socket) cid bytes old new calls was given named out stage next f = record {
    comes = subst (λ s. Comes (stage_of s) (out_of s) (NodeDoes (Send cid bytes) ∷ calls)) (sym was) (sent_at socket.stage cid bytes socket.out calls named
        (subst (λ x. Comes (Some socket.stage) x calls) out (subst (λ s. Comes s (out_at new.table key) calls) stage f.comes)));
    gone = λ late none. absurd (gone_stands (stage_at old.table key) socket.stage none (ap stage_of was));
  }

  -- whose id is found elsewhere is not this socket's
  not_here : (k : ℕ) (cid : Cid) (old : SocketFlow) → eqb k key ≡ false → key_at old.table cid.0 ≡ Some k → Orderly greeting old → is_conn (stage_at old.table key) cid.0 ≡ true → ⊥
  not_here k cid old is found o conn = eqb-false k key is (same_key (key_at old.table cid.0) k key found (o.named key cid.0 conn))

  sends_at : (much test : Bool) (k : ℕ) (cid : Cid) (bytes : List ℕ) (old new : SocketFlow) (calls : List Call) → eqb k key ≡ test → key_at old.table cid.0 ≡ Some k
      → MatchBool much (Loses k old new) (PutsOn old new k bytes) → Orderly greeting old → Foresees new calls → Foresees old (NodeDoes (Send cid bytes) ∷ calls)
  sends_at true true k cid bytes old new calls is found p o f =
      let here = eqb-true k key is in
      let given : old.table.next_key ≤ key → ⊥ = o.given key cid.0 (subst (λ j. key_at old.table cid.0 ≡ Some j) here found) in
      let over : stage_at new.table key ≡ None = ap stage_of (subst (λ test. socket_at new.table key ≡ cond test None (socket_at old.table key)) is (p.gone key)) in
      idle_back old (NodeDoes (Send cid bytes)) calls (record { written = refl; told = refl }) (f.gone (λ le. given (subst (λ n. n ≤ key) p.keys.next le)) over)
  sends_at false true k cid bytes old new calls is found p o f =
      let here = eqb-true k key is in
      let mine = subst (λ j. key_at old.table cid.0 ≡ Some j) here found in
      puts_here (socket_at old.table key) cid bytes old new calls refl (o.given key cid.0 mine) (o.holds key cid.0 mine)
      (subst (λ j. out_at new.table key ≡ put_on (socket_at old.table j) bytes) here (subst (λ test. out_at new.table key ≡ cond test (put_on (socket_at old.table k) bytes) (out_at old.table key)) is (p.outs key)))
      (p.stages key) p.rest.keys.next f
  sends_at true false k cid bytes old new calls is found p o f =
      quiet old (NodeDoes (Send cid bytes)) calls (record { written = refl; told = refl }) (unsent_other (stage_at old.table key) cid bytes (not_here k cid old is found o)) (loses_back k old new calls p o f)
  sends_at false false k cid bytes old new calls is found p o f =
      quiet old (NodeDoes (Send cid bytes)) calls (record { written = refl; told = refl }) (unsent_other (stage_at old.table key) cid bytes (not_here k cid old is found o))
      (same old new calls p.rest.keys.next (p.stages key) (subst (λ test. out_at new.table key ≡ cond test (put_on (socket_at old.table k) bytes) (out_at old.table key)) is (p.outs key)) f)

  sends_on : (c : Option ℕ) (cid : Cid) (bytes : List ℕ) (old new : SocketFlow) (calls : List Call) → key_at old.table cid.0 ≡ c → SendsOn old new c bytes
      → Orderly greeting old → Foresees new calls → Foresees old (NodeDoes (Send cid bytes) ∷ calls)
  sends_on None cid bytes old new calls is p o f =
      quiet old (NodeDoes (Send cid bytes)) calls (record { written = refl; told = refl })
      (unsent_other (stage_at old.table key) cid bytes (λ conn. nobody (key_at old.table cid.0) key is (o.named key cid.0 conn))) (keeps_back old new calls p.sockets f)
  sends_on (Some k) cid bytes old new calls is p o f =
      sends_at (nat_lt 67108864 (min (old.unsent + length bytes) (2 ^ 64 - 1))) (eqb k key) k cid bytes old new calls refl is p o f

  -- nothing more is told of a connection that the node closes, and no more is written than what waits
  ends_speak : (cid : Cid) (out : List ℕ) (calls : List Call) → Ends out calls → Speaks cid out calls
  ends_speak cid out calls p = record { told = subst (λ t. AreBytesOf cid t) (sym p.told) tt; written = front_more (written_on key calls) out (sent_to cid calls) p.written }

  closing_speaks : (n : Option Stage) (cid : Cid) (a b : List ℕ) (calls : List Call) → IsClosing n → OutStays n a b → Comes n b calls → (n ≡ None → IsIdle (written_on key calls) (told_on key calls)) → Speaks cid a calls
  closing_speaks None cid a b calls p out c gone =
      let idle = gone refl in
      record { told = subst (λ t. AreBytesOf cid t) (sym idle.1) tt; written = subst (λ w. IsFront w (a ++ sent_to cid calls)) (sym idle.0) (front_none (a ++ sent_to cid calls)) }
  closing_speaks (Some (Dialing id)) cid a b calls p out c gone = absurd p
  closing_speaks (Some (Announcing said)) cid a b calls p out c gone = absurd p
  closing_speaks (Some (Waiting addr)) cid a b calls p out c gone = absurd p
  closing_speaks (Some Told) cid a b calls p out c gone = absurd p
  closing_speaks (Some (Open id)) cid a b calls p out c gone = absurd p
  closing_speaks (Some Closing) cid a b calls p out c gone = ends_speak cid a calls (subst (λ x. Ends x calls) out c)

  stays_comes : (n s : Option Stage) (a b : List ℕ) (calls : List Call) → n ≡ s → OutStays n a b → Comes n b calls → Comes s a calls
  stays_comes None s a b calls e out c = subst (λ x. Comes x a calls) e c
  stays_comes (Some stage) s a b calls e out c = subst (λ x. Comes x a calls) e (subst (λ x. Comes (Some stage) x calls) out c)

  closed_comes : (s n : Option Stage) (a b : List ℕ) (calls : List Call) → MatchBool (is_linked s) (IsClosing n) (n ≡ s) → OutStays n a b → Comes n b calls
      → (n ≡ None → IsIdle (written_on key calls) (told_on key calls)) → Comes s a calls
  closed_comes None n a b calls p out c gone = stays_comes n None a b calls p out c
  closed_comes (Some (Dialing id)) n a b calls p out c gone = closing_speaks n id.cid a b calls p out c gone
  closed_comes (Some (Announcing said)) n a b calls p out c gone = stays_comes n (Some (Announcing said)) a b calls p out c
  closed_comes (Some (Waiting addr)) n a b calls p out c gone = stays_comes n (Some (Waiting addr)) a b calls p out c
  closed_comes (Some Told) n a b calls p out c gone = stays_comes n (Some Told) a b calls p out c
  closed_comes (Some (Open id)) n a b calls p out c gone = closing_speaks n id.cid a b calls p out c gone
  closed_comes (Some Closing) n a b calls p out c gone = stays_comes n (Some Closing) a b calls p out c

  closed_none : (s n : Option Stage) → MatchBool (is_linked s) (IsClosing n) (n ≡ s) → s ≡ None → n ≡ None
  closed_none None n p none = p
  closed_none (Some stage) n p none = absurd (gone_stands (Some stage) stage none refl)

  closes_back : (k : ℕ) (test : Bool) (cid : Cid) (old new : SocketFlow) (calls : List Call) → eqb k key ≡ test → key_at old.table cid.0 ≡ Some k → ClosesAt old new k cid → Orderly greeting old → Foresees new calls → Foresees old calls
  closes_back k true cid old new calls is found p o f =
      let here = eqb-true k key is in
      let given : old.table.next_key ≤ key → ⊥ = o.given key cid.0 (subst (λ j. key_at old.table cid.0 ≡ Some j) here found) in
      let gone : stage_at new.table key ≡ None → IsIdle (written_on key calls) (told_on key calls) = λ none. f.gone (λ le. given (subst (λ n. n ≤ key) p.keys.next le)) none in
      let stage = subst (λ j. MatchBool (is_linked (stage_at old.table j)) (IsClosing (stage_at new.table j)) (stage_at new.table j ≡ stage_at old.table j)) here p.stage in record {
        comes = closed_comes (stage_at old.table key) (stage_at new.table key) (out_at old.table key) (out_at new.table key) calls stage
            (subst (λ j. OutStays (stage_at new.table j) (out_at old.table j) (out_at new.table j)) here p.out) f.comes gone;
        gone = λ late none. gone (closed_none (stage_at old.table key) (stage_at new.table key) stage none);
      }
  closes_back k false cid old new calls is found p o f = same old new calls p.keys.next (ap stage_of (p.others key is)) (ap out_of (p.others key is)) f

  closes_on : (c : Option ℕ) (cid : Cid) (old new : SocketFlow) (calls : List Call) → key_at old.table cid.0 ≡ c → ClosesOn old new c cid → Orderly greeting old → Foresees new calls → Foresees old calls
  closes_on None cid old new calls is p o f = keeps_back old new calls p.sockets f
  closes_on (Some k) cid old new calls is p o f = closes_back k (eqb k key) cid old new calls refl is p o f

  untouched : (old new : SocketFlow) (calls : List Call) → new.table ≡ old.table → Foresees new calls → Foresees old calls
  untouched old new calls table f = same old new calls (ap (λ t. t.next_key) table) (ap (λ t. stage_at t key) table) (ap (λ t. out_at t key) table) f

  does : (action : Action) (old new : SocketFlow) (calls : List Call) → Does action old new → Orderly greeting old → Foresees new calls → Foresees old (NodeDoes action ∷ calls)
  does (Admit cid addr) old new calls p o f = admits_if (is_free old cid.0) cid addr old new calls p o f
  does (Turnaway away) old new calls p o f = silently old (NodeDoes (Turnaway away)) calls refl refl (λ c. refl) (may_lose_back old new calls p.1 o f)
  does (Dial cid addr) old new calls p o f = dials_if (is_free old cid.0) old.table.next_key cid addr old new calls p o f
  does (Send cid bytes) old new calls p o f = sends_on (key_at old.table cid.0) cid bytes old new calls refl p o f
  does (Close cid cause) old new calls p o f = silently old (NodeDoes (Close cid cause)) calls refl refl (λ c. refl) (closes_on (key_at old.table cid.0) cid old new calls refl p.2 o f)
  does (Pause time) old new calls p o f = silently old (NodeDoes (Pause time)) calls refl refl (λ c. refl) (untouched old new calls (ap (λ x. x.table) p) f)
  does (AskRoots job) old new calls p o f = silently old (NodeDoes (AskRoots job)) calls refl refl (λ c. refl) (untouched old new calls (ap (λ x. x.table) p) f)
  does (State cid name) old new calls p o f = silently old (NodeDoes (State cid name)) calls refl refl (λ c. refl) (untouched old new calls (ap (λ x. x.table) p) f)
  does (Peer addr note) old new calls p o f = silently old (NodeDoes (Peer addr note)) calls refl refl (λ c. refl) (untouched old new calls (ap (λ x. x.table) p) f)

  -- ---- a call

  came_back : (k : ℕ) (test : Bool) (bytes : List ℕ) (event : Option Event) (old new : SocketFlow) (calls : List Call) → eqb k key ≡ test → event ≡ told_of (socket_at old.table k) bytes
      → socket_at new.table key ≡ cond test (after_bytes (socket_at old.table k) bytes) (socket_at old.table key) → new.table.next_key ≡ old.table.next_key
      → Orderly greeting old → Foresees new calls → Foresees old (BytesCame k bytes event ∷ calls)
  came_back k true bytes event old new calls is told e next o f =
      let here = eqb-true k key is in
      came_here (socket_at old.table key) (socket_at new.table key) bytes old new (BytesCame k bytes event) calls refl refl
      (subst (λ j. socket_at new.table key ≡ after_bytes (socket_at old.table j) bytes) here e) next refl
      (ap (λ x. event_if_on x event) is ∙ ap (λ x. event_if_on true x) (subst (λ j. event ≡ told_of (socket_at old.table j) bytes) here told)) (λ c. refl) o f
  came_back k false bytes event old new calls is told e next o f =
      silently old (BytesCame k bytes event) calls refl (ap (λ x. event_if_on x event) is) (λ c. refl) (same old new calls next (ap stage_of e) (ap out_of e) f)

  went_back : (k : ℕ) (test : Bool) (count : ℕ) (bytes : List ℕ) (old new : SocketFlow) (calls : List Call) → eqb k key ≡ test → bytes ≡ take (min count (length (out_at old.table k))) (out_at old.table k)
      → socket_at new.table key ≡ cond test (after_going (socket_at old.table k) count) (socket_at old.table key) → new.table.next_key ≡ old.table.next_key
      → Orderly greeting old → Foresees new calls → Foresees old (BytesWent k count bytes ∷ calls)
  went_back k true count bytes old new calls is went e next o f =
      let here = eqb-true k key is in
      went_here (socket_at old.table key) (socket_at new.table key) count old new (BytesWent k count bytes) calls refl refl
      (subst (λ j. socket_at new.table key ≡ after_going (socket_at old.table j) count) here e) next
      (ap (λ x. if_on x bytes) is ∙ subst (λ j. bytes ≡ take (min count (length (out_at old.table j))) (out_at old.table j)) here went) refl (λ c. refl) o f
  went_back k false count bytes old new calls is went e next o f =
      silently old (BytesWent k count bytes) calls (ap (λ x. if_on x bytes) is) refl (λ c. refl) (same old new calls next (ap stage_of e) (ap out_of e) f)

  step : (call : Call) (old new : SocketFlow) (calls : List Call) → Makes call old new → Orderly greeting old → Foresees new calls → Foresees old (call ∷ calls)
  step PeerWaits old new calls p o f = silently old PeerWaits calls refl refl (λ c. refl) (keeps_back old new calls p.sockets f)
  step NobodyWaits old new calls p o f = silently old NobodyWaits calls refl refl (λ c. refl) (keeps_back old new calls p.sockets f)
  step PeerIsGone old new calls p o f = silently old PeerIsGone calls refl refl (λ c. refl) (keeps_back old new calls p.sockets f)
  step HasNoRoom old new calls p o f = silently old HasNoRoom calls refl refl (λ c. refl) (keeps_back old new calls p.sockets f)
  step (HasNoRoomToDial k addr) old new calls p o f = silently old (HasNoRoomToDial k addr) calls refl refl (λ c. refl) (may_lose_back old new calls p o f)
  step (MayBeReady k writable) old new calls p o f = silently old (MayBeReady k writable) calls refl refl (λ c. refl) (keeps_back old new calls p.sockets f)
  step (RoundBegins moment) old new calls p o f =
      silently old (RoundBegins moment) calls refl refl (λ c. refl) (keeps_back old p.told calls p.sockets (may_lose_back p.told new calls p.loses (keeps greeting old p.told p.sockets o) f))
  step (PeerCame addr k) old new calls p o f = silently old (PeerCame addr k) calls refl refl (λ c. refl) (arrives_back k (eqb k key) addr old new calls refl (p.0 key) p.3 o f)
  step (DialCameTo k outcome) old new calls p o f =
      silently old (DialCameTo k outcome) calls refl refl (λ c. refl) (dialed_back k (stage_at old.table k) outcome old new calls refl p o f)
  step (BytesCame k bytes event) old new calls p o f = came_back k (eqb k key) bytes event old new calls refl p.0 (p.1 key) p.2.keys.next o f
  step (BytesWent k count bytes) old new calls p o f = went_back k (eqb k key) count bytes old new calls refl p.0 (p.1 key) p.2.keys.next o f
  step (TakesNoMore k) old new calls p o f =
      silently old (TakesNoMore k) calls refl refl (λ c. refl) (full_back k (eqb k key) old new calls refl (p.0 key) (full_at (socket_at old.table k)) p.1.keys.next o f)
  step (HasEnded k) old new calls p o f = silently old (HasEnded k) calls refl refl (λ c. refl) (loses_back k old new calls p o f)
  step (NodeDoes action) old new calls p o f = does action old new calls p o f
  step (NodeAsks ask) old new calls p o f = silently old (NodeAsks ask) calls refl refl (λ c. refl) (may_lose_back old p.left calls p.loses o (asks_back ask p.left new calls p.asks f))

  pub history : (calls : List Call) (reading : Option (ℕ × ℕ)) (old last : SocketFlow) → Runs reading calls old last → Orderly greeting old → Foresees old calls
  history [] reading old last runs o = record { comes = idle_comes (stage_at old.table key) (out_at old.table key) [] (refl, refl); gone = λ late none. (refl, refl) }
  history (call ∷ calls) reading old last runs o =
      step call old runs.1 calls runs.2 o (history calls (to_read call) runs.1 last runs.3 (makes greeting call old runs.1 runs.2 o))

pub what_is_written_was_sent : WhatIsWrittenWasSent
what_is_written_was_sent terms first last calls begins runs key =
    let f = history (greeting_by terms) key calls None first last runs (at_first terms first begins) in
    subst (λ s. Comes (greeting_by terms) key (stage_of s) (out_at first.table key) calls) (begins.sockets key) f.comes
