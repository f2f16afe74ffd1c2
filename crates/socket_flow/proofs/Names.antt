-- Which socket is whose, whatever is called: each connection has one socket, by its id, and what it was told is on none waits.
use Rattle.std.proofs.Common.{◌≡◌, ◌⊎◌, ℕ, ◌+◌, ◌-◌, ◌^◌, ◌≤◌, min, nat_lt, nat_le, Bool, true, false, not, cond, ◌&&◌, ◌==◌, eqb, is_some, MatchBool, List, [], ◌∷◌, ◌++◌, length, Option, Some, None, refl, sym, ap, subst, ◌∙◌, arith, inl, inr}
use Rattle.std.proofs.lemmas.Bool.{both_ways, eqb-true, eqb-false}
use Rattle.std.proofs.lemmas.List.{drop_all}
use Rattle.net_base.specs.declared.action.Action.{Action}
use Rattle.net_base.specs.declared.action.Action.TheVariants.{Admit, Turnaway, Dial, Send, Close, Pause, AskRoots, State, Peer}
use Rattle.net_base.specs.declared.address.Addr.{Addr}
use Rattle.net_base.specs.declared.connection.Cid.{Cid}
use Rattle.net_base.specs.declared.event.Event.{Event}
use Rattle.socket_flow.specs.Acting.{IsOpenAs, IsOpened, OpensOn, IsDialingAs, DialsAt, SendsOn, PutsOn, put_on, IsClosing, OutStays, ClosesAt, ClosesOn, Does, is_free}
use Rattle.socket_flow.specs.Asks.{Asks, IsFirst, IsNextCaller}
use Rattle.socket_flow.specs.Flow.{introduced, heard_on, after_bytes, unless_over, after_going, blocked, after_full, newcomer}
use Rattle.socket_flow.specs.Announcement.{hearing}
use Rattle.socket_flow.specs.Histories.{Call, PeerWaits, NobodyWaits, PeerIsGone, HasNoRoom, HasNoRoomToDial, MayBeReady, RoundBegins, PeerCame, DialCameTo, BytesCame, BytesWent, TakesNoMore, HasEnded, NodeDoes, NodeAsks, Makes}
use Rattle.socket_flow.specs.Table.{socket_at, key_at, out_at, out_of, stage_at, stage_of, is_connection, is_of, is_linked}
use Rattle.socket_flow.specs.Talk.{HasNoMoreStrangers, KeepsSockets, KeepsAll, Loses, Losing, MayLose, TakesIn, Connects, IsDialed, Begins, greeting_by}
use Rattle.socket_flow.specs.Writing.{gone_by}
use Rattle.socket_flow.specs.declared.announcement.Heard.{Heard}
use Rattle.socket_flow.specs.declared.announcement.Heard.TheVariants.{Front, Whole, Else}
use Rattle.socket_flow.specs.declared.ask.Ask.{Ask}
use Rattle.socket_flow.specs.declared.ask.Ask.TheVariants.{Close as CloseSocket, Connect, Check, Write, Accept, Read, Give, Govern, Wait}
use Rattle.socket_flow.specs.declared.ask.Dialed.{Dialed as Outcome}
use Rattle.socket_flow.specs.declared.ask.Dialed.TheVariants.{NotYet, Connected, Failed}
use Rattle.socket_flow.specs.declared.flow.SocketFlow.{SocketFlow}
use Rattle.socket_flow.specs.declared.id.Id.{Id}
use Rattle.socket_flow.specs.declared.socket.Socket.{Socket}
use Rattle.socket_flow.specs.declared.socket.Stage.{Stage}
use Rattle.socket_flow.specs.declared.socket.Stage.TheVariants.{Dialing, Announcing, Waiting, Told, Open, Closing}
use Rattle.socket_flow.specs.declared.terms.Terms.{Terms}
use Rattle.socket_flow.proofs.Losing.{as_many_strangers}

-- ---- what is asked of one socket

-- whether what a socket is for is this connection
abbrev pub is_conn : Option Stage → ℕ → Bool
is_conn (Some stage) cid = is_connection stage cid
is_conn None cid = false

-- where there is a socket, it is that of the connection
abbrev pub IsNamed : Option Stage → ℕ → Type 0
IsNamed (Some stage) cid = is_connection stage cid ≡ true
IsNamed None cid = Unit {0}

-- the peer that the node was told of
abbrev pub IsCaller : Option Stage → Type 0
IsCaller None = Unit {0}
IsCaller (Some Told) = Unit {0}
IsCaller (Some stage) = ⊥

-- nothing waits on a socket that is no connection yet
abbrev pub IsBare : Option Stage → List ℕ → Type 0
IsBare None out = Unit {0}
IsBare (Some (Dialing id)) out = Unit {0}
IsBare (Some (Announcing said)) out = out ≡ []
IsBare (Some (Waiting addr)) out = out ≡ []
IsBare (Some Told) out = out ≡ []
IsBare (Some (Open id)) out = Unit {0}
IsBare (Some Closing) out = Unit {0}

abbrev pub Stands : Option Stage → Type 0
Stands None = ⊥
Stands (Some stage) = Unit {0}

pub gone_stands : (s : Option Stage) (stage : Stage) → s ≡ None → s ≡ Some stage → ⊥
gone_stands s stage none some = subst Stands none (subst Stands (sym some) tt)

abbrev Has : Option ℕ → Type 0
Has None = ⊥
Has (Some key) = Unit {0}

pub nobody : (o : Option ℕ) (key : ℕ) → o ≡ None → o ≡ Some key → ⊥
nobody o key none some = subst Has none (subst Has (sym some) tt)

abbrev key_in : ℕ → Option ℕ → ℕ
key_in other None = other
key_in other (Some key) = key

pub same_key : (o : Option ℕ) (k key : ℕ) → o ≡ Some k → o ≡ Some key → k ≡ key
same_key o k key one two = ap (key_in k) (sym one ∙ two)

pub of_stage : (s : Option Socket) (cid : ℕ) → is_of s cid ≡ is_conn (stage_of s) cid
of_stage None cid = refl
of_stage (Some socket) cid = refl

is_true : (t : Bool) → (t ≡ false → ⊥) → t ≡ true
is_true true never = refl
is_true false never = absurd (never refl)

is_false : (t : Bool) → (t ≡ true → ⊥) → t ≡ false
is_false true never = absurd (never refl)
is_false false never = refl

pub eqb_same : (a b : ℕ) → a ≡ b → eqb a b ≡ true
eqb_same a b e = is_true (eqb a b) (λ is. eqb-false a b is e)

pub false_true : {A : Type 0} (b : Bool) → b ≡ false → b ≡ true → A
false_true b is_not is = absurd (both_ways b is_not is)

-- a connection has one id
one_id : (stage : Stage) (a b : ℕ) → is_connection stage a ≡ true → is_connection stage b ≡ true → a ≡ b
one_id (Dialing id) a b p q = sym (eqb-true id.cid.0 a p) ∙ eqb-true id.cid.0 b q
one_id (Announcing said) a b p q = false_true false refl p
one_id (Waiting addr) a b p q = false_true false refl p
one_id Told a b p q = false_true false refl p
one_id (Open id) a b p q = sym (eqb-true id.cid.0 a p) ∙ eqb-true id.cid.0 b q
one_id Closing a b p q = false_true false refl p

no_caller : (stage : Stage) (cid : ℕ) → IsCaller (Some stage) → is_connection stage cid ≡ true → ⊥
no_caller (Dialing id) cid caller named = caller
no_caller (Announcing said) cid caller named = caller
no_caller (Waiting addr) cid caller named = caller
no_caller Told cid caller named = false_true false refl named
no_caller (Open id) cid caller named = caller
no_caller Closing cid caller named = caller

closing_conn : (n : Option Stage) (cid : ℕ) → IsClosing n → is_conn n cid ≡ false
closing_conn None cid p = refl
closing_conn (Some (Dialing id)) cid p = absurd p
closing_conn (Some (Announcing said)) cid p = absurd p
closing_conn (Some (Waiting addr)) cid p = absurd p
closing_conn (Some Told) cid p = absurd p
closing_conn (Some (Open id)) cid p = absurd p
closing_conn (Some Closing) cid p = refl

closing_bare : (n : Option Stage) (out : List ℕ) → IsClosing n → IsBare n out
closing_bare None out p = tt
closing_bare (Some (Dialing id)) out p = absurd p
closing_bare (Some (Announcing said)) out p = absurd p
closing_bare (Some (Waiting addr)) out p = absurd p
closing_bare (Some Told) out p = absurd p
closing_bare (Some (Open id)) out p = absurd p
closing_bare (Some Closing) out p = tt

unlinked_conn : (s : Option Stage) (cid : ℕ) → is_linked s ≡ false → is_conn s cid ≡ false
unlinked_conn None cid p = refl
unlinked_conn (Some (Dialing id)) cid p = false_true true p refl
unlinked_conn (Some (Announcing said)) cid p = refl
unlinked_conn (Some (Waiting addr)) cid p = refl
unlinked_conn (Some Told) cid p = refl
unlinked_conn (Some (Open id)) cid p = false_true true p refl
unlinked_conn (Some Closing) cid p = refl

linked_ids : (s : Option Stage) (a b : ℕ) → is_linked s ≡ true → IsNamed s a → IsNamed s b → eqb a b ≡ false → ⊥
linked_ids None a b is p q apart = false_true false refl is
linked_ids (Some stage) a b is p q apart = eqb-false a b apart (one_id stage a b p q)

linked_calls : (s : Option Stage) → is_linked s ≡ true → IsCaller s → ⊥
linked_calls None is p = false_true false refl is
linked_calls (Some (Dialing id)) is p = p
linked_calls (Some (Announcing said)) is p = p
linked_calls (Some (Waiting addr)) is p = p
linked_calls (Some Told) is p = false_true false refl is
linked_calls (Some (Open id)) is p = p
linked_calls (Some Closing) is p = p

same_bare : (n s : Option Stage) (a b : List ℕ) → n ≡ s → OutStays n a b → IsBare s a → IsBare n b
same_bare None s a b same out bare = tt
same_bare (Some stage) s a b same out bare = subst (λ x. IsBare x b) (sym same) (subst (λ x. IsBare s x) (sym out) bare)

heard_conn : (socket : Socket) (more : List ℕ) (heard : Heard) (cid : ℕ) → is_conn (stage_of (introduced (record socket { stage = Announcing more }) heard)) cid ≡ false
heard_conn socket more Front cid = refl
heard_conn socket more (Whole addr) cid = refl
heard_conn socket more Else cid = refl

heard_bare : (socket : Socket) (more : List ℕ) (heard : Heard) → socket.out ≡ []
    → IsBare (stage_of (introduced (record socket { stage = Announcing more }) heard)) (out_of (introduced (record socket { stage = Announcing more }) heard))
heard_bare socket more Front none = none
heard_bare socket more (Whole addr) none = none
heard_bare socket more Else none = tt

less_bare : (stage : Stage) (a b : List ℕ) → (a ≡ [] → b ≡ []) → IsBare (Some stage) a → IsBare (Some stage) b
less_bare (Dialing id) a b less p = tt
less_bare (Announcing said) a b less p = less p
less_bare (Waiting addr) a b less p = less p
less_bare Told a b less p = less p
less_bare (Open id) a b less p = tt
less_bare Closing a b less p = tt

none_gone : (count : ℕ) → gone_by [] count ≡ []
none_gone count = drop_all (min count 0) [] (omega arith)

-- ---- what stands between two calls

pub record Orderly (greeting : List ℕ) (flow : SocketFlow) : Type 0 where
  pub greets : flow.greeting ≡ greeting
  -- the socket of a connection is found by its id
  pub named : (k cid : ℕ) → is_conn (stage_at flow.table k) cid ≡ true → key_at flow.table cid ≡ Some k
  pub holds : (k cid : ℕ) → key_at flow.table cid ≡ Some k → IsNamed (stage_at flow.table k) cid
  pub fresh : (k : ℕ) → flow.table.next_key ≤ k → stage_at flow.table k ≡ None
  pub given : (k cid : ℕ) → key_at flow.table cid ≡ Some k → flow.table.next_key ≤ k → ⊥
  pub caller : (k : ℕ) → flow.caller ≡ Some k → IsCaller (stage_at flow.table k)
  pub called : (k : ℕ) → flow.caller ≡ Some k → flow.table.next_key ≤ k → ⊥
  pub bare : (k : ℕ) → IsBare (stage_at flow.table k) (out_at flow.table k)

-- a connection has one socket
pub one_socket : (greeting : List ℕ) (flow : SocketFlow) (k other cid : ℕ) → Orderly greeting flow → is_conn (stage_at flow.table k) cid ≡ true → is_conn (stage_at flow.table other) cid ≡ true → k ≡ other
one_socket greeting flow k other cid o p q = same_key (key_at flow.table cid) k other (o.named k cid p) (o.named other cid q)

module _ (greeting : List ℕ) where
  -- ---- all sockets are for what they were

  -- what a socket has become that is no other connection, and is none where there was none
  record IsMild (old new : Option Stage) (before after : List ℕ) : Type 0 where
    conn : (cid : ℕ) → is_conn new cid ≡ is_conn old cid
    named : (cid : ℕ) → IsNamed old cid → IsNamed new cid
    none : old ≡ None → new ≡ None
    caller : IsCaller old → IsCaller new
    bare : IsBare old before → IsBare new after

  alike : (old new : Option Stage) (before after : List ℕ) → new ≡ old → after ≡ before → IsMild old new before after
  alike old new before after stage out = record {
    conn = λ cid. ap (λ s. is_conn s cid) stage;
    named = λ cid p. subst (λ s. IsNamed s cid) (sym stage) p;
    none = λ none. stage ∙ none;
    caller = λ p. subst IsCaller (sym stage) p;
    bare = λ p. subst (λ s. IsBare s after) (sym stage) (subst (λ x. IsBare old x) (sym out) p);
  }

  mildly : (old new : SocketFlow) → new.greeting ≡ old.greeting → new.table.next_key ≡ old.table.next_key → ((k : ℕ) → new.caller ≡ Some k → old.caller ≡ Some k)
      → ((cid : ℕ) → key_at new.table cid ≡ key_at old.table cid)
      → ((k : ℕ) → IsMild (stage_at old.table k) (stage_at new.table k) (out_at old.table k) (out_at new.table k))
      → Orderly greeting old → Orderly greeting new
  mildly old new greets next caller names mild o = record {
    greets = greets ∙ o.greets;
    named = λ k cid p. names cid ∙ o.named k cid (sym ((mild k).conn cid) ∙ p);
    holds = λ k cid p. (mild k).named cid (o.holds k cid (sym (names cid) ∙ p));
    fresh = λ k le. (mild k).none (o.fresh k (subst (λ n. n ≤ k) next le));
    given = λ k cid p le. o.given k cid (sym (names cid) ∙ p) (subst (λ n. n ≤ k) next le);
    caller = λ k p. (mild k).caller (o.caller k (caller k p));
    called = λ k p le. o.called k (caller k p) (subst (λ n. n ≤ k) next le);
    bare = λ k. (mild k).bare (o.bare k);
  }

  pub keeps : (old new : SocketFlow) → KeepsSockets old new → Orderly greeting old → Orderly greeting new
  keeps old new p o = mildly old new p.keys.greeting p.keys.next p.keys.caller p.names (λ k. alike (stage_at old.table k) (stage_at new.table k) (out_at old.table k) (out_at new.table k) (p.talk k).1 (p.talk k).0) o

  -- a socket is put at a key
  put : (k0 k : ℕ) (test : Bool) (x : Option Socket) (old new : SocketFlow) → eqb k0 k ≡ test → socket_at new.table k ≡ cond test x (socket_at old.table k)
      → IsMild (stage_at old.table k0) (stage_of x) (out_at old.table k0) (out_of x) → IsMild (stage_at old.table k) (stage_at new.table k) (out_at old.table k) (out_at new.table k)
  put k0 k true x old new is e mild =
      subst (λ j. IsMild (stage_at old.table j) (stage_at new.table k) (out_at old.table j) (out_at new.table k)) (eqb-true k0 k is)
      (subst (λ s. IsMild (stage_at old.table k0) (stage_of s) (out_at old.table k0) (out_of s)) (sym e) mild)
  put k0 k false x old new is e mild = alike (stage_at old.table k) (stage_at new.table k) (out_at old.table k) (out_at new.table k) (ap stage_of e) (ap out_of e)

  -- ---- a socket goes

  loses_named : (k0 k cid : ℕ) (test of : Bool) (old new : SocketFlow) → eqb k0 k ≡ test → is_of (socket_at old.table k0) cid ≡ of
      → socket_at new.table k ≡ cond test None (socket_at old.table k) → key_at new.table cid ≡ cond of None (key_at old.table cid)
      → Orderly greeting old → is_conn (stage_at new.table k) cid ≡ true → key_at new.table cid ≡ Some k
  loses_named k0 k cid true of old new is was e names o p = false_true (is_conn (stage_at new.table k) cid) (ap (λ s. is_conn (stage_of s) cid) e) p
  loses_named k0 k cid false true old new is was e names o p =
      absurd (eqb-false k0 k is (one_socket greeting old k0 k cid o (sym (of_stage (socket_at old.table k0) cid) ∙ was) (sym (ap (λ s. is_conn (stage_of s) cid) e) ∙ p)))
  loses_named k0 k cid false false old new is was e names o p = names ∙ o.named k cid (sym (ap (λ s. is_conn (stage_of s) cid) e) ∙ p)

  loses_key : (k cid : ℕ) (of : Bool) (old new : SocketFlow) → key_at new.table cid ≡ cond of None (key_at old.table cid) → key_at new.table cid ≡ Some k → key_at old.table cid ≡ Some k
  loses_key k cid true old new names p = absurd (nobody (key_at new.table cid) k names p)
  loses_key k cid false old new names p = sym names ∙ p

  gone_if : (k0 k : ℕ) (test : Bool) (old new : SocketFlow) → eqb k0 k ≡ test → socket_at new.table k ≡ cond test None (socket_at old.table k)
      → (stage_at new.table k ≡ None) ⊎ ((stage_at new.table k ≡ stage_at old.table k) × (out_at new.table k ≡ out_at old.table k))
  gone_if k0 k true old new is e = inl (ap stage_of e)
  gone_if k0 k false old new is e = inr (ap stage_of e, ap out_of e)

  still_named : (s n : Option Stage) (cid : ℕ) (a b : List ℕ) → (n ≡ None) ⊎ ((n ≡ s) × (b ≡ a)) → IsNamed s cid → IsNamed n cid
  still_named s n cid a b (inl gone) p = subst (λ x. IsNamed x cid) (sym gone) tt
  still_named s n cid a b (inr same) p = subst (λ x. IsNamed x cid) (sym same.0) p

  still_caller : (s n : Option Stage) (a b : List ℕ) → (n ≡ None) ⊎ ((n ≡ s) × (b ≡ a)) → IsCaller s → IsCaller n
  still_caller s n a b (inl gone) p = subst IsCaller (sym gone) tt
  still_caller s n a b (inr same) p = subst IsCaller (sym same.0) p

  still_bare : (s n : Option Stage) (a b : List ℕ) → (n ≡ None) ⊎ ((n ≡ s) × (b ≡ a)) → IsBare s a → IsBare n b
  still_bare s n a b (inl gone) p = subst (λ x. IsBare x b) (sym gone) tt
  still_bare s n a b (inr same) p = subst (λ x. IsBare x b) (sym same.0) (subst (λ x. IsBare s x) (sym same.1) p)

  still_none : (s n : Option Stage) (a b : List ℕ) → (n ≡ None) ⊎ ((n ≡ s) × (b ≡ a)) → s ≡ None → n ≡ None
  still_none s n a b (inl gone) p = gone
  still_none s n a b (inr same) p = same.0 ∙ p

  pub loses : (k0 : ℕ) (old new : SocketFlow) → Loses k0 old new → Orderly greeting old → Orderly greeting new
  loses k0 old new p o =
      let either : (k : ℕ) → (stage_at new.table k ≡ None) ⊎ ((stage_at new.table k ≡ stage_at old.table k) × (out_at new.table k ≡ out_at old.table k))
      = λ k. gone_if k0 k (eqb k0 k) old new refl (p.gone k) in
      let kept : (k cid : ℕ) → key_at new.table cid ≡ Some k → key_at old.table cid ≡ Some k = λ k cid q. loses_key k cid (is_of (socket_at old.table k0) cid) old new (p.names cid) q in
      record {
        greets = p.keys.greeting ∙ o.greets;
        named = λ k cid q. loses_named k0 k cid (eqb k0 k) (is_of (socket_at old.table k0) cid) old new refl refl (p.gone k) (p.names cid) o q;
        holds = λ k cid q. still_named (stage_at old.table k) (stage_at new.table k) cid (out_at old.table k) (out_at new.table k) (either k) (o.holds k cid (kept k cid q));
        fresh = λ k le. still_none (stage_at old.table k) (stage_at new.table k) (out_at old.table k) (out_at new.table k) (either k) (o.fresh k (subst (λ n. n ≤ k) p.keys.next le));
        given = λ k cid q le. o.given k cid (kept k cid q) (subst (λ n. n ≤ k) p.keys.next le);
        caller = λ k q. still_caller (stage_at old.table k) (stage_at new.table k) (out_at old.table k) (out_at new.table k) (either k) (o.caller k (p.keys.caller k q));
        called = λ k q le. o.called k (p.keys.caller k q) (subst (λ n. n ≤ k) p.keys.next le);
        bare = λ k. still_bare (stage_at old.table k) (stage_at new.table k) (out_at old.table k) (out_at new.table k) (either k) (o.bare k);
      }

  losing : (keys : List ℕ) (old new : SocketFlow) → Losing keys old new → Orderly greeting old → Orderly greeting new
  losing [] old new p o = keeps old new p.sockets o
  losing (k ∷ keys) old new p o = losing keys p.1 new p.4 (loses k p.0 p.1 p.3 (keeps old p.0 p.2.sockets o))

  pub may_lose : (old new : SocketFlow) → MayLose old new → Orderly greeting old → Orderly greeting new
  may_lose old new p o = losing p.gone old new p.losing o

  -- ---- a dial is answered

  connects_mild : (id : Id) (s n : Option Stage) (a b : List ℕ) → s ≡ Some (Dialing id) → n ≡ Some (Open id) → IsMild s n a b
  connects_mild id s n a b was is = record {
    conn = λ cid. ap (λ x. is_conn x cid) is ∙ sym (ap (λ x. is_conn x cid) was);
    named = λ cid p. subst (λ x. IsNamed x cid) (sym is) (subst (λ x. IsNamed x cid) was p);
    none = λ none. absurd (gone_stands s (Dialing id) none was);
    caller = λ p. absurd (subst IsCaller was p);
    bare = λ p. subst (λ x. IsBare x b) (sym is) tt;
  }

  connects_at : (k0 k : ℕ) (test : Bool) (id : Id) (old new : SocketFlow) → eqb k0 k ≡ test → stage_at old.table k0 ≡ Some (Dialing id) → Connects k0 id old new
      → IsMild (stage_at old.table k) (stage_at new.table k) (out_at old.table k) (out_at new.table k)
  connects_at k0 k true id old new is was p =
      let here = eqb-true k0 k is in
      connects_mild id (stage_at old.table k) (stage_at new.table k) (out_at old.table k) (out_at new.table k)
      (subst (λ j. stage_at old.table j ≡ Some (Dialing id)) here was) (subst (λ j. stage_at new.table j ≡ Some (Open id)) here p.stage)
  connects_at k0 k false id old new is was p = alike (stage_at old.table k) (stage_at new.table k) (out_at old.table k) (out_at new.table k) (p.others k is) (p.outs k)

  pub connects : (k0 : ℕ) (id : Id) (old new : SocketFlow) → stage_at old.table k0 ≡ Some (Dialing id) → Connects k0 id old new → Orderly greeting old → Orderly greeting new
  connects k0 id old new was p o = mildly old new p.keys.greeting p.keys.next p.keys.caller p.names (λ k. connects_at k0 k (eqb k0 k) id old new refl was p) o

  dialed : (k : ℕ) (stage : Option Stage) (outcome : Outcome) (old new : SocketFlow) → stage_at old.table k ≡ stage → IsDialed stage outcome k old new → Orderly greeting old → Orderly greeting new
  dialed k None outcome old new is p o = keeps old new p.sockets o
  dialed k (Some (Dialing id)) NotYet old new is p o = keeps old new p.sockets o
  dialed k (Some (Dialing id)) Connected old new is p o = connects k id old new is p o
  dialed k (Some (Dialing id)) Failed old new is p o = loses k old new p o
  dialed k (Some (Announcing said)) outcome old new is p o = keeps old new p.sockets o
  dialed k (Some (Waiting addr)) outcome old new is p o = keeps old new p.sockets o
  dialed k (Some Told) outcome old new is p o = keeps old new p.sockets o
  dialed k (Some (Open id)) outcome old new is p o = keeps old new p.sockets o
  dialed k (Some Closing) outcome old new is p o = keeps old new p.sockets o

  -- ---- a key is given to who connects

  plain_at : (k0 k : ℕ) (test : Bool) (cid : ℕ) (x : Socket) (old new : SocketFlow) → eqb k0 k ≡ test → socket_at new.table k ≡ cond test (Some x) (socket_at old.table k)
      → is_connection x.stage cid ≡ false → Orderly greeting old → ((c : ℕ) → key_at new.table c ≡ key_at old.table c)
      → is_conn (stage_at new.table k) cid ≡ true → key_at new.table cid ≡ Some k
  plain_at k0 k true cid x old new is e none o names p = false_true (is_conn (stage_at new.table k) cid) (ap (λ s. is_conn (stage_of s) cid) e ∙ none) p
  plain_at k0 k false cid x old new is e none o names p = names cid ∙ o.named k cid (sym (ap (λ s. is_conn (stage_of s) cid) e) ∙ p)

  welcome_plain : (plain : Bool) (addr : Addr) (cid : ℕ) → is_connection (cond plain (Waiting addr) (Announcing [])) cid ≡ false
  welcome_plain true addr cid = refl
  welcome_plain false addr cid = refl

  welcome_bare : (plain : Bool) (addr : Addr) → IsBare (Some (cond plain (Waiting addr) (Announcing []))) []
  welcome_bare true addr = refl
  welcome_bare false addr = refl

  -- a key that is given is none that stood before
  apart : (k0 k : ℕ) (old : SocketFlow) → old.table.next_key ≡ k0 → (old.table.next_key ≤ k → ⊥) → eqb k0 k ≡ false
  apart k0 k old was late = is_false (eqb k0 k) (λ is. let here = eqb-true k0 k is in let le : old.table.next_key ≤ k = omega (arith, was, here) in late le)

  later : (k0 k : ℕ) (old new : SocketFlow) → TakesIn k0 old new → new.table.next_key ≤ k → (old.table.next_key ≤ k) × (eqb k0 k ≡ false)
  later k0 k old new p le =
      let more : old.table.next_key ≤ k = omega (arith, p.was, p.next, le) in
      let never : eqb k0 k ≡ true → ⊥ = λ is. let here = eqb-true k0 k is in omega (arith, p.was, p.next, le, here) in
      (more, is_false (eqb k0 k) never)

  other : (k0 k : ℕ) (x : Option Socket) (old new : SocketFlow) → eqb k0 k ≡ false → socket_at new.table k ≡ cond (eqb k0 k) x (socket_at old.table k) → socket_at new.table k ≡ socket_at old.table k
  other k0 k x old new is e = subst (λ t. socket_at new.table k ≡ cond t x (socket_at old.table k)) is e

  arrives_bare : (k0 k : ℕ) (test : Bool) (x : Socket) (old new : SocketFlow) → eqb k0 k ≡ test → socket_at new.table k ≡ cond test (Some x) (socket_at old.table k)
      → IsBare (Some x.stage) x.out → IsBare (stage_at old.table k) (out_at old.table k) → IsBare (stage_at new.table k) (out_at new.table k)
  arrives_bare k0 k true x old new is e bare was = subst (λ s. IsBare (stage_of s) (out_of s)) (sym e) bare
  arrives_bare k0 k false x old new is e bare was = subst (λ s. IsBare (stage_of s) (out_of s)) (sym e) was

  pub arrives : (k0 : ℕ) (addr : Addr) (old new : SocketFlow) → ((k : ℕ) → socket_at new.table k ≡ cond (eqb k0 k) (Some (newcomer old.greeting addr)) (socket_at old.table k))
      → ((c : ℕ) → key_at new.table c ≡ key_at old.table c) → TakesIn k0 old new → Orderly greeting old → Orderly greeting new
  arrives k0 addr old new sockets names p o =
      let x = newcomer old.greeting addr in
      let first : old.table.next_key ≤ k0 = omega (arith, p.was) in
      let same : (k : ℕ) → (old.table.next_key ≤ k → ⊥) → stage_at new.table k ≡ stage_at old.table k = λ k late. ap stage_of (other k0 k (Some x) old new (apart k0 k old p.was late) (sockets k)) in
      record {
        greets = p.greeting ∙ o.greets;
        named = λ k cid q. plain_at k0 k (eqb k0 k) cid x old new refl (sockets k) (welcome_plain (length old.greeting == 0) addr cid) o names q;
        holds = λ k cid q. let was = sym (names cid) ∙ q in subst (λ s. IsNamed s cid) (sym (same k (o.given k cid was))) (o.holds k cid was);
        fresh = λ k le. let q = later k0 k old new p le in ap stage_of (other k0 k (Some x) old new q.1 (sockets k)) ∙ o.fresh k q.0;
        given = λ k cid q le. o.given k cid (sym (names cid) ∙ q) (later k0 k old new p le).0;
        caller = λ k q. let was = sym p.caller ∙ q in subst IsCaller (sym (same k (o.called k was))) (o.caller k was);
        called = λ k q le. o.called k (sym p.caller ∙ q) (later k0 k old new p le).0;
        bare = λ k. arrives_bare k0 k (eqb k0 k) x old new refl (sockets k) (welcome_bare (length old.greeting == 0) addr) (o.bare k);
      }

  -- ---- an id is used

  free_none : (o : Option ℕ) (most : Bool) → (not (is_some o) && most) ≡ true → o ≡ None
  free_none None most p = refl
  free_none (Some k) most p = false_true false refl p

  named_then : (k0 k cid0 cid : ℕ) (here by : Bool) (old new : SocketFlow) → eqb k0 k ≡ here → eqb cid0 cid ≡ by → key_at old.table cid0 ≡ None
      → key_at new.table cid ≡ cond by (Some k0) (key_at old.table cid)
      → (eqb k0 k ≡ true → is_conn (stage_at new.table k) cid ≡ true → eqb cid0 cid ≡ true)
      → (eqb k0 k ≡ false → stage_at new.table k ≡ stage_at old.table k)
      → Orderly greeting old → is_conn (stage_at new.table k) cid ≡ true → key_at new.table cid ≡ Some k
  named_then k0 k cid0 cid true true old new here by free names own others o p = names ∙ ap (λ j. Some j) (eqb-true k0 k here)
  named_then k0 k cid0 cid true false old new here by free names own others o p = false_true (eqb cid0 cid) by (own here p)
  named_then k0 k cid0 cid false true old new here by free names own others o p =
      absurd (nobody (key_at old.table cid0) k free (subst (λ c. key_at old.table c ≡ Some k) (sym (eqb-true cid0 cid by)) (o.named k cid (sym (ap (λ s. is_conn s cid) (others here)) ∙ p))))
  named_then k0 k cid0 cid false false old new here by free names own others o p = names ∙ o.named k cid (sym (ap (λ s. is_conn s cid) (others here)) ∙ p)

  some_key : (a b : ℕ) → Some a ≡ Some b → a ≡ b
  some_key a b e = ap (key_in a) e

  holds_then : (k0 k cid0 cid : ℕ) (here by : Bool) (old new : SocketFlow) → eqb k0 k ≡ here → eqb cid0 cid ≡ by
      → key_at new.table cid ≡ cond by (Some k0) (key_at old.table cid)
      → (eqb cid0 cid ≡ true → IsNamed (stage_at new.table k0) cid)
      → (eqb k0 k ≡ true → IsNamed (stage_at old.table k) cid → key_at old.table cid ≡ Some k → IsNamed (stage_at new.table k) cid)
      → (eqb k0 k ≡ false → stage_at new.table k ≡ stage_at old.table k)
      → Orderly greeting old → key_at new.table cid ≡ Some k → IsNamed (stage_at new.table k) cid
  holds_then k0 k cid0 cid here true old new is by names own kept others o p =
      subst (λ j. IsNamed (stage_at new.table j) cid) (some_key k0 k (sym names ∙ p)) (own by)
  holds_then k0 k cid0 cid true false old new is by names own kept others o p = let was = sym names ∙ p in kept is (o.holds k cid was) was
  holds_then k0 k cid0 cid false false old new is by names own kept others o p = subst (λ s. IsNamed s cid) (sym (others is)) (o.holds k cid (sym names ∙ p))

  given_then : (k0 k cid0 cid : ℕ) (by : Bool) (old new : SocketFlow) → key_at new.table cid ≡ cond by (Some k0) (key_at old.table cid)
      → (new.table.next_key ≤ k0 → ⊥) → old.table.next_key ≤ new.table.next_key → Orderly greeting old → key_at new.table cid ≡ Some k → new.table.next_key ≤ k → ⊥
  given_then k0 k cid0 cid true old new names late more o p le = late (subst (λ j. new.table.next_key ≤ j) (sym (some_key k0 k (sym names ∙ p))) le)
  given_then k0 k cid0 cid false old new names late more o p le = let first : old.table.next_key ≤ k = omega (arith, more, le) in o.given k cid (sym names ∙ p) first

  -- the node dials

  dialing_named : (s : Option Stage) (cid0 : Cid) (cid : ℕ) → IsDialingAs cid0 s → is_conn s cid ≡ eqb cid0.0 cid
  dialing_named None cid0 cid p = absurd p
  dialing_named (Some (Dialing id)) cid0 cid p = ap (λ c. eqb c.0 cid) p
  dialing_named (Some (Announcing said)) cid0 cid p = absurd p
  dialing_named (Some (Waiting addr)) cid0 cid p = absurd p
  dialing_named (Some Told) cid0 cid p = absurd p
  dialing_named (Some (Open id)) cid0 cid p = absurd p
  dialing_named (Some Closing) cid0 cid p = absurd p

  dialing_holds : (s : Option Stage) (cid0 : Cid) (cid : ℕ) → IsDialingAs cid0 s → eqb cid0.0 cid ≡ true → IsNamed s cid
  dialing_holds None cid0 cid p is = absurd p
  dialing_holds (Some (Dialing id)) cid0 cid p is = ap (λ c. eqb c.0 cid) p ∙ is
  dialing_holds (Some (Announcing said)) cid0 cid p is = absurd p
  dialing_holds (Some (Waiting addr)) cid0 cid p is = absurd p
  dialing_holds (Some Told) cid0 cid p is = absurd p
  dialing_holds (Some (Open id)) cid0 cid p is = absurd p
  dialing_holds (Some Closing) cid0 cid p is = absurd p

  dialing_bare : (s : Option Stage) (cid : Cid) (out : List ℕ) → IsDialingAs cid s → IsBare s out
  dialing_bare None cid out p = absurd p
  dialing_bare (Some (Dialing id)) cid out p = tt
  dialing_bare (Some (Announcing said)) cid out p = absurd p
  dialing_bare (Some (Waiting addr)) cid out p = absurd p
  dialing_bare (Some Told) cid out p = absurd p
  dialing_bare (Some (Open id)) cid out p = absurd p
  dialing_bare (Some Closing) cid out p = absurd p

  dials_bare : (k0 k : ℕ) (test : Bool) (cid : Cid) (old new : SocketFlow) → eqb k0 k ≡ test → IsDialingAs cid (stage_at new.table k0)
      → (eqb k0 k ≡ false → socket_at new.table k ≡ socket_at old.table k) → IsBare (stage_at old.table k) (out_at old.table k) → IsBare (stage_at new.table k) (out_at new.table k)
  dials_bare k0 k true cid old new is p others bare = dialing_bare (stage_at new.table k) cid (out_at new.table k) (subst (λ j. IsDialingAs cid (stage_at new.table j)) (eqb-true k0 k is) p)
  dials_bare k0 k false cid old new is p others bare = subst (λ s. IsBare (stage_of s) (out_of s)) (sym (others is)) bare

  pub dials_at : (k0 : ℕ) (cid : Cid) (addr : Addr) (old new : SocketFlow) → key_at old.table cid.0 ≡ None → DialsAt old new k0 cid addr → Orderly greeting old → Orderly greeting new
  dials_at k0 cid addr old new free p o =
      let others : (k : ℕ) → eqb k0 k ≡ false → stage_at new.table k ≡ stage_at old.table k = λ k is. ap stage_of (p.others k is) in
      let late : new.table.next_key ≤ k0 → ⊥ = let was = p.taken.was in let next = p.taken.next in λ le. omega (arith, was, next, le) in
      let more : old.table.next_key ≤ new.table.next_key = let was = p.taken.was in let next = p.taken.next in omega (arith, was, next) in
      record {
        greets = p.taken.greeting ∙ o.greets;
        named = λ k c q. named_then k0 k cid.0 c (eqb k0 k) (eqb cid.0 c) old new refl refl free (p.names c)
            (λ here is. sym (dialing_named (stage_at new.table k) cid c (subst (λ j. IsDialingAs cid (stage_at new.table j)) (eqb-true k0 k here) p.stage)) ∙ is) (others k) o q;
        holds = λ k c q. holds_then k0 k cid.0 c (eqb k0 k) (eqb cid.0 c) old new refl refl (p.names c)
            (λ by. dialing_holds (stage_at new.table k0) cid c p.stage by)
            (λ here was found. false_true (eqb k0 k) (apart k0 k old p.taken.was (o.given k c found)) here) (others k) o q;
        fresh = λ k le. let q = later k0 k old new p.taken le in others k q.1 ∙ o.fresh k q.0;
        given = λ k c q le. given_then k0 k cid.0 c (eqb cid.0 c) old new (p.names c) late more o q le;
        caller = λ k q. let was = sym p.taken.caller ∙ q in subst IsCaller (sym (others k (apart k0 k old p.taken.was (o.called k was)))) (o.caller k was);
        called = λ k q le. o.called k (sym p.taken.caller ∙ q) (later k0 k old new p.taken le).0;
        bare = λ k. dials_bare k0 k (eqb k0 k) cid old new refl p.stage (p.others k) (o.bare k);
      }

  dials : (free : Bool) (cid : Cid) (addr : Addr) (old new : SocketFlow) → is_free old cid.0 ≡ free → MatchBool free (DialsAt old new old.table.next_key cid addr) (KeepsAll old new) → Orderly greeting old → Orderly greeting new
  dials true cid addr old new is p o = dials_at old.table.next_key cid addr old new (free_none (key_at old.table cid.0) (nat_le cid.0 (2 ^ 48)) is) p o
  dials false cid addr old new is p o = keeps old new p.sockets o

  -- a peer is let in

  opened_named : (s : Option Socket) (n : Option Stage) (cid0 : Cid) (cid : ℕ) → IsOpenAs cid0 s n → is_conn n cid ≡ true → eqb cid0.0 cid ≡ true
  opened_named None n cid0 cid p is = false_true (is_conn n cid) (ap (λ x. is_conn x cid) p) is
  opened_named (Some socket) None cid0 cid p is = absurd p
  opened_named (Some socket) (Some (Dialing id)) cid0 cid p is = absurd p
  opened_named (Some socket) (Some (Announcing said)) cid0 cid p is = absurd p
  opened_named (Some socket) (Some (Waiting addr)) cid0 cid p is = absurd p
  opened_named (Some socket) (Some Told) cid0 cid p is = absurd p
  opened_named (Some socket) (Some (Open id)) cid0 cid p is = ap (λ c. eqb c.0 cid) (sym p) ∙ is
  opened_named (Some socket) (Some Closing) cid0 cid p is = absurd p

  opened_holds : (s : Option Socket) (n : Option Stage) (cid0 : Cid) (cid : ℕ) → IsOpenAs cid0 s n → eqb cid0.0 cid ≡ true → IsNamed n cid
  opened_holds None n cid0 cid p is = subst (λ x. IsNamed x cid) (sym p) tt
  opened_holds (Some socket) None cid0 cid p is = absurd p
  opened_holds (Some socket) (Some (Dialing id)) cid0 cid p is = absurd p
  opened_holds (Some socket) (Some (Announcing said)) cid0 cid p is = absurd p
  opened_holds (Some socket) (Some (Waiting addr)) cid0 cid p is = absurd p
  opened_holds (Some socket) (Some Told) cid0 cid p is = absurd p
  opened_holds (Some socket) (Some (Open id)) cid0 cid p is = ap (λ c. eqb c.0 cid) p ∙ is
  opened_holds (Some socket) (Some Closing) cid0 cid p is = absurd p

  opened_bare : (s : Option Socket) (n : Option Stage) (cid : Cid) (out : List ℕ) → IsOpenAs cid s n → IsBare n out
  opened_bare None n cid out p = subst (λ x. IsBare x out) (sym p) tt
  opened_bare (Some socket) None cid out p = absurd p
  opened_bare (Some socket) (Some (Dialing id)) cid out p = absurd p
  opened_bare (Some socket) (Some (Announcing said)) cid out p = absurd p
  opened_bare (Some socket) (Some (Waiting addr)) cid out p = absurd p
  opened_bare (Some socket) (Some Told) cid out p = absurd p
  opened_bare (Some socket) (Some (Open id)) cid out p = tt
  opened_bare (Some socket) (Some Closing) cid out p = absurd p

  -- whoever was only told of has no id
  caller_none : (s : Option Socket) (n : Option Stage) (cid0 : Cid) (cid : ℕ) → IsOpenAs cid0 s n → IsCaller (stage_of s) → IsNamed (stage_of s) cid → IsNamed n cid
  caller_none None n cid0 cid p caller named = subst (λ x. IsNamed x cid) (sym p) tt
  caller_none (Some socket) n cid0 cid p caller named = absurd (no_caller socket.stage cid caller named)

  opens_bare : (k0 k : ℕ) (test : Bool) (cid : Cid) (old new : SocketFlow) → eqb k0 k ≡ test → IsOpened old new k0 cid → IsBare (stage_at old.table k) (out_at old.table k) → IsBare (stage_at new.table k) (out_at new.table k)
  opens_bare k0 k true cid old new is p bare =
      opened_bare (socket_at old.table k) (stage_at new.table k) cid (out_at new.table k) (subst (λ j. IsOpenAs cid (socket_at old.table j) (stage_at new.table j)) (eqb-true k0 k is) p.stage)
  opens_bare k0 k false cid old new is p bare = subst (λ s. IsBare (stage_of s) (out_of s)) (sym (p.others k is)) bare

  pub opened_none : (cid : Cid) (s : Option Socket) (n : Option Stage) → IsOpenAs cid s n → stage_of s ≡ None → n ≡ None
  opened_none cid None n p none = p
  opened_none cid (Some socket) n p none = absurd (gone_stands (stage_of (Some socket)) socket.stage none refl)

  opens_none : (k0 k : ℕ) (test : Bool) (cid : Cid) (old new : SocketFlow) → eqb k0 k ≡ test → IsOpened old new k0 cid → stage_at old.table k ≡ None → stage_at new.table k ≡ None
  opens_none k0 k true cid old new is p none =
      opened_none cid (socket_at old.table k) (stage_at new.table k) (subst (λ j. IsOpenAs cid (socket_at old.table j) (stage_at new.table j)) (eqb-true k0 k is) p.stage) none
  opens_none k0 k false cid old new is p none = ap stage_of (p.others k is) ∙ none

  pub opens_at : (k0 : ℕ) (cid : Cid) (old new : SocketFlow) → key_at old.table cid.0 ≡ None → old.caller ≡ Some k0 → IsOpened old new k0 cid → Orderly greeting old → Orderly greeting new
  opens_at k0 cid old new free calls p o =
      let others : (k : ℕ) → eqb k0 k ≡ false → stage_at new.table k ≡ stage_at old.table k = λ k is. ap stage_of (p.others k is) in
      let late : new.table.next_key ≤ k0 → ⊥ = λ le. o.called k0 calls (subst (λ n. n ≤ k0) p.next le) in
      let more : old.table.next_key ≤ new.table.next_key = let next = p.next in omega (arith, next) in
      let here_is : (k : ℕ) → eqb k0 k ≡ true → IsOpenAs cid (socket_at old.table k) (stage_at new.table k) = λ k here. subst (λ j. IsOpenAs cid (socket_at old.table j) (stage_at new.table j)) (eqb-true k0 k here) p.stage in
      record {
        greets = p.greeting ∙ o.greets;
        named = λ k c q. named_then k0 k cid.0 c (eqb k0 k) (eqb cid.0 c) old new refl refl free (p.names c)
            (λ here is. opened_named (socket_at old.table k) (stage_at new.table k) cid c (here_is k here) is) (others k) o q;
        holds = λ k c q. holds_then k0 k cid.0 c (eqb k0 k) (eqb cid.0 c) old new refl refl (p.names c)
            (λ by. opened_holds (socket_at old.table k0) (stage_at new.table k0) cid c p.stage by)
            (λ here was found. caller_none (socket_at old.table k) (stage_at new.table k) cid c (here_is k here) (subst (λ j. IsCaller (stage_at old.table j)) (eqb-true k0 k here) (o.caller k0 calls)) was) (others k) o q;
        fresh = λ k le. opens_none k0 k (eqb k0 k) cid old new refl p (o.fresh k (subst (λ n. n ≤ k) p.next le));
        given = λ k c q le. given_then k0 k cid.0 c (eqb cid.0 c) old new (p.names c) late more o q le;
        caller = λ k q. absurd (nobody new.caller k p.caller q);
        called = λ k q le. nobody new.caller k p.caller q;
        bare = λ k. opens_bare k0 k (eqb k0 k) cid old new refl p (o.bare k);
      }

  opens : (c : Option ℕ) (cid : Cid) (old new : SocketFlow) → old.caller ≡ c → key_at old.table cid.0 ≡ None → OpensOn old new c cid → Orderly greeting old → Orderly greeting new
  opens None cid old new is free p o = keeps old new p.sockets o
  opens (Some k) cid old new is free p o = opens_at k cid old new free is p o

  admits : (free : Bool) (cid : Cid) (old new : SocketFlow) → is_free old cid.0 ≡ free → MatchBool free (OpensOn old new old.caller cid) (KeepsAll old new) → Orderly greeting old → Orderly greeting new
  admits true cid old new is p o = opens old.caller cid old new refl (free_none (key_at old.table cid.0) (nat_le cid.0 (2 ^ 48)) is) p o
  admits false cid old new is p o = keeps old new p.sockets o

  -- ---- what is sent

  sent_bare : (s : Option Stage) (cid : ℕ) (out : List ℕ) → IsNamed s cid → IsBare s out
  sent_bare None cid out p = tt
  sent_bare (Some (Dialing id)) cid out p = tt
  sent_bare (Some (Announcing said)) cid out p = false_true false refl p
  sent_bare (Some (Waiting addr)) cid out p = false_true false refl p
  sent_bare (Some Told) cid out p = false_true false refl p
  sent_bare (Some (Open id)) cid out p = tt
  sent_bare (Some Closing) cid out p = tt

  puts_mild : (k0 k : ℕ) (test : Bool) (cid : ℕ) (x : List ℕ) (old new : SocketFlow) → eqb k0 k ≡ test → IsNamed (stage_at old.table k0) cid
      → out_at new.table k ≡ cond test x (out_at old.table k) → stage_at new.table k ≡ stage_at old.table k
      → IsMild (stage_at old.table k) (stage_at new.table k) (out_at old.table k) (out_at new.table k)
  puts_mild k0 k true cid x old new is named e same =
      let bare = sent_bare (stage_at old.table k) cid (out_at new.table k) (subst (λ j. IsNamed (stage_at old.table j) cid) (eqb-true k0 k is) named) in record {
        conn = λ c. ap (λ s. is_conn s c) same;
        named = λ c p. subst (λ s. IsNamed s c) (sym same) p;
        none = λ none. same ∙ none;
        caller = λ p. subst IsCaller (sym same) p;
        bare = λ p. subst (λ s. IsBare s (out_at new.table k)) (sym same) bare;
      }
  puts_mild k0 k false cid x old new is named e same = alike (stage_at old.table k) (stage_at new.table k) (out_at old.table k) (out_at new.table k) same e

  sends_if : (much : Bool) (k : ℕ) (cid : Cid) (bytes : List ℕ) (old new : SocketFlow) → key_at old.table cid.0 ≡ Some k → MatchBool much (Loses k old new) (PutsOn old new k bytes) → Orderly greeting old → Orderly greeting new
  sends_if true k cid bytes old new is p o = loses k old new p o
  sends_if false k cid bytes old new is p o =
      mildly old new p.rest.keys.greeting p.rest.keys.next p.rest.keys.caller p.rest.names
      (λ j. puts_mild k j (eqb k j) cid.0 (put_on (socket_at old.table k) bytes) old new refl (o.holds k cid.0 is) (p.outs j) (p.stages j)) o

  sends : (c : Option ℕ) (cid : Cid) (bytes : List ℕ) (old new : SocketFlow) → key_at old.table cid.0 ≡ c → SendsOn old new c bytes → Orderly greeting old → Orderly greeting new
  sends None cid bytes old new is p o = keeps old new p.sockets o
  sends (Some k) cid bytes old new is p o = sends_if (nat_lt 67108864 (min (old.unsent + length bytes) (2 ^ 64 - 1))) k cid bytes old new is p o

  -- ---- the node closes a connection

  -- where it was that of this id, it is that of none
  closed_conn : (linked : Bool) (s n : Option Stage) (cid : ℕ) → is_linked s ≡ linked → MatchBool linked (IsClosing n) (n ≡ s) → is_conn n cid ≡ false
  closed_conn true s n cid is p = closing_conn n cid p
  closed_conn false s n cid is p = ap (λ x. is_conn x cid) p ∙ unlinked_conn s cid is

  closed_named : (linked : Bool) (s n : Option Stage) (c cid : ℕ) → is_linked s ≡ linked → MatchBool linked (IsClosing n) (n ≡ s) → IsNamed s c → IsNamed s cid → eqb c cid ≡ false → IsNamed n cid
  closed_named true s n c cid is p one other differ = absurd (linked_ids s c cid is one other differ)
  closed_named false s n c cid is p one other differ = subst (λ x. IsNamed x cid) (sym p) other

  closed_none : (linked : Bool) (s n : Option Stage) → is_linked s ≡ linked → MatchBool linked (IsClosing n) (n ≡ s) → s ≡ None → n ≡ None
  closed_none true s n is p none = false_true (is_linked s) (ap is_linked none) is
  closed_none false s n is p none = p ∙ none

  closed_caller : (linked : Bool) (s n : Option Stage) → is_linked s ≡ linked → MatchBool linked (IsClosing n) (n ≡ s) → IsCaller s → IsCaller n
  closed_caller true s n is p caller = absurd (linked_calls s is caller)
  closed_caller false s n is p caller = subst IsCaller (sym p) caller

  closed_bare : (linked : Bool) (s n : Option Stage) (a b : List ℕ) → is_linked s ≡ linked → MatchBool linked (IsClosing n) (n ≡ s) → OutStays n a b → IsBare s a → IsBare n b
  closed_bare true s n a b is p out bare = closing_bare n b p
  closed_bare false s n a b is p out bare = same_bare n s a b p out bare

  closes_named : (k0 k c cid : ℕ) (here by : Bool) (old new : SocketFlow) → eqb k0 k ≡ here → eqb c cid ≡ by → key_at old.table c ≡ Some k0
      → key_at new.table cid ≡ cond by None (key_at old.table cid)
      → (eqb k0 k ≡ true → is_conn (stage_at new.table k) cid ≡ false)
      → (eqb k0 k ≡ false → stage_at new.table k ≡ stage_at old.table k)
      → Orderly greeting old → is_conn (stage_at new.table k) cid ≡ true → key_at new.table cid ≡ Some k
  closes_named k0 k c cid true by old new here is found names own others o p = false_true (is_conn (stage_at new.table k) cid) (own here) p
  closes_named k0 k c cid false true old new here is found names own others o p =
      let was = o.named k cid (sym (ap (λ s. is_conn s cid) (others here)) ∙ p) in
      absurd (eqb-false k0 k here (same_key (key_at old.table cid) k0 k (subst (λ x. key_at old.table x ≡ Some k0) (eqb-true c cid is) found) was))
  closes_named k0 k c cid false false old new here is found names own others o p = names ∙ o.named k cid (sym (ap (λ s. is_conn s cid) (others here)) ∙ p)

  closes_holds : (k0 k c cid : ℕ) (here by : Bool) (old new : SocketFlow) → eqb k0 k ≡ here → eqb c cid ≡ by
      → key_at new.table cid ≡ cond by None (key_at old.table cid)
      → (eqb k0 k ≡ true → eqb c cid ≡ false → IsNamed (stage_at old.table k) cid → IsNamed (stage_at new.table k) cid)
      → (eqb k0 k ≡ false → stage_at new.table k ≡ stage_at old.table k)
      → Orderly greeting old → key_at new.table cid ≡ Some k → IsNamed (stage_at new.table k) cid
  closes_holds k0 k c cid here true old new is by names own others o p = absurd (nobody (key_at new.table cid) k names p)
  closes_holds k0 k c cid true false old new is by names own others o p = own is by (o.holds k cid (sym names ∙ p))
  closes_holds k0 k c cid false false old new is by names own others o p = subst (λ s. IsNamed s cid) (sym (others is)) (o.holds k cid (sym names ∙ p))

  closes_given : (k cid : ℕ) (by : Bool) (old new : SocketFlow) → key_at new.table cid ≡ cond by None (key_at old.table cid) → key_at new.table cid ≡ Some k → key_at old.table cid ≡ Some k
  closes_given k cid by old new names p = loses_key k cid by old new names p

  -- what is said of the one that is closed, and of each other
  closes_each : (k0 k : ℕ) (test : Bool) (cid : Cid) (P : Option Stage → List ℕ → Type 0) (old new : SocketFlow) → eqb k0 k ≡ test → ClosesAt old new k0 cid
      → (eqb k0 k ≡ true → P (stage_at old.table k) (out_at old.table k) → P (stage_at new.table k) (out_at new.table k)) → P (stage_at old.table k) (out_at old.table k) → P (stage_at new.table k) (out_at new.table k)
  closes_each k0 k true cid P old new is p own was = own is was
  closes_each k0 k false cid P old new is p own was = subst (λ s. P (stage_of s) (out_of s)) (sym (p.others k is)) was

  pub closes_at : (k0 : ℕ) (cid : Cid) (old new : SocketFlow) → key_at old.table cid.0 ≡ Some k0 → ClosesAt old new k0 cid → Orderly greeting old → Orderly greeting new
  closes_at k0 cid old new found p o =
      let others : (k : ℕ) → eqb k0 k ≡ false → stage_at new.table k ≡ stage_at old.table k = λ k is. ap stage_of (p.others k is) in
      let stage : (k : ℕ) → eqb k0 k ≡ true → MatchBool (is_linked (stage_at old.table k)) (IsClosing (stage_at new.table k)) (stage_at new.table k ≡ stage_at old.table k)
      = λ k is. subst (λ j. MatchBool (is_linked (stage_at old.table j)) (IsClosing (stage_at new.table j)) (stage_at new.table j ≡ stage_at old.table j)) (eqb-true k0 k is) p.stage in
      let out : (k : ℕ) → eqb k0 k ≡ true → OutStays (stage_at new.table k) (out_at old.table k) (out_at new.table k)
      = λ k is. subst (λ j. OutStays (stage_at new.table j) (out_at old.table j) (out_at new.table j)) (eqb-true k0 k is) p.out in
      record {
        greets = p.keys.greeting ∙ o.greets;
        named = λ k c q. closes_named k0 k cid.0 c (eqb k0 k) (eqb cid.0 c) old new refl refl found (p.names c)
            (λ here. closed_conn (is_linked (stage_at old.table k)) (stage_at old.table k) (stage_at new.table k) c refl (stage k here)) (others k) o q;
        holds = λ k c q. closes_holds k0 k cid.0 c (eqb k0 k) (eqb cid.0 c) old new refl refl (p.names c)
            (λ here apart was. closed_named (is_linked (stage_at old.table k)) (stage_at old.table k) (stage_at new.table k) cid.0 c refl (stage k here)
            (o.holds k cid.0 (subst (λ j. key_at old.table cid.0 ≡ Some j) (eqb-true k0 k here) found)) was apart) (others k) o q;
        fresh = λ k le. closes_each k0 k (eqb k0 k) cid (λ s x. s ≡ None) old new refl p
            (λ here none. closed_none (is_linked (stage_at old.table k)) (stage_at old.table k) (stage_at new.table k) refl (stage k here) none) (o.fresh k (subst (λ n. n ≤ k) p.keys.next le));
        given = λ k c q le. o.given k c (closes_given k c (eqb cid.0 c) old new (p.names c) q) (subst (λ n. n ≤ k) p.keys.next le);
        caller = λ k q. closes_each k0 k (eqb k0 k) cid (λ s x. IsCaller s) old new refl p
            (λ here was. closed_caller (is_linked (stage_at old.table k)) (stage_at old.table k) (stage_at new.table k) refl (stage k here) was) (o.caller k (p.keys.caller k q));
        called = λ k q le. o.called k (p.keys.caller k q) (subst (λ n. n ≤ k) p.keys.next le);
        bare = λ k. closes_each k0 k (eqb k0 k) cid (λ s x. IsBare s x) old new refl p
            (λ here was. closed_bare (is_linked (stage_at old.table k)) (stage_at old.table k) (stage_at new.table k) (out_at old.table k) (out_at new.table k) refl (stage k here) (out k here) was) (o.bare k);
      }

  closes : (c : Option ℕ) (cid : Cid) (old new : SocketFlow) → key_at old.table cid.0 ≡ c → ClosesOn old new c cid → Orderly greeting old → Orderly greeting new
  closes None cid old new is p o = keeps old new p.sockets o
  closes (Some k) cid old new is p o = closes_at k cid old new is p o

  -- ---- what the node does

  untouched : (old new : SocketFlow) → new.table ≡ old.table → new.greeting ≡ old.greeting → new.caller ≡ old.caller → HasNoMoreStrangers old new → Orderly greeting old → Orderly greeting new
  untouched old new table greets caller strangers o =
      keeps old new (record {
        talk = λ k. (ap (λ t. out_at t k) table, ap (λ t. stage_at t k) table);
        names = λ cid. ap (λ t. key_at t cid) table;
        keys = record { next = ap (λ t. t.next_key) table; greeting = greets; caller = λ k is. sym caller ∙ is; strangers = strangers };
      }) o

  does : (action : Action) (old new : SocketFlow) → Does action old new → Orderly greeting old → Orderly greeting new
  does (Admit cid addr) old new p o = admits (is_free old cid.0) cid old new refl p o
  does (Turnaway away) old new p o = may_lose old new p.1 o
  does (Dial cid addr) old new p o = dials (is_free old cid.0) cid addr old new refl p o
  does (Send cid bytes) old new p o = sends (key_at old.table cid.0) cid bytes old new refl p o
  does (Close cid cause) old new p o = closes (key_at old.table cid.0) cid old new refl p.2 o
  does (Pause time) old new p o = untouched old new (ap (λ x. x.table) p) (ap (λ x. x.greeting) p) (ap (λ x. x.caller) p) (as_many_strangers old new (ap (λ x. x.strangers) p) (ap (λ x. x.strangers_most) p)) o
  does (AskRoots job) old new p o = untouched old new (ap (λ x. x.table) p) (ap (λ x. x.greeting) p) (ap (λ x. x.caller) p) (as_many_strangers old new (ap (λ x. x.strangers) p) (ap (λ x. x.strangers_most) p)) o
  does (State cid name) old new p o = untouched old new (ap (λ x. x.table) p) (ap (λ x. x.greeting) p) (ap (λ x. x.caller) p) (as_many_strangers old new (ap (λ x. x.strangers) p) (ap (λ x. x.strangers_most) p)) o
  does (Peer addr note) old new p o = untouched old new (ap (λ x. x.table) p) (ap (λ x. x.greeting) p) (ap (λ x. x.caller) p) (as_many_strangers old new (ap (λ x. x.strangers) p) (ap (λ x. x.strangers_most) p)) o

  -- ---- what is asked for

  -- the node is told of a peer
  told_mild : (addr : Addr) (s n : Option Stage) (a b : List ℕ) → s ≡ Some (Waiting addr) → n ≡ Some Told → b ≡ a → IsMild s n a b
  told_mild addr s n a b was is out = record {
    conn = λ cid. ap (λ x. is_conn x cid) is ∙ sym (ap (λ x. is_conn x cid) was);
    named = λ cid p. false_true false refl (subst (λ x. IsNamed x cid) was p);
    none = λ none. absurd (gone_stands s (Waiting addr) none was);
    caller = λ p. absurd (subst IsCaller was p);
    bare = λ p. subst (λ x. IsBare x b) (sym is) (out ∙ subst (λ x. IsBare x a) was p);
  }

  tells_at : (k : ℕ) (test : Bool) (event : Event) (old new : SocketFlow) (p : IsNextCaller old new event) → eqb p.key k ≡ test → IsMild (stage_at old.table k) (stage_at new.table k) (out_at old.table k) (out_at new.table k)
  tells_at k true event old new p is =
      let here = eqb-true p.key k is in
      told_mild p.addr (stage_at old.table k) (stage_at new.table k) (out_at old.table k) (out_at new.table k) (subst (λ j. stage_at old.table j ≡ Some (Waiting p.addr)) here p.waits)
      (subst (λ j. stage_at new.table j ≡ Some Told) here p.now_told) (p.outs k)
  tells_at k false event old new p is = alike (stage_at old.table k) (stage_at new.table k) (out_at old.table k) (out_at new.table k) (p.others k is) (p.outs k)

  pub tells : (event : Event) (old new : SocketFlow) → IsNextCaller old new event → Orderly greeting old → Orderly greeting new
  tells event old new p o =
      let mild : (k : ℕ) → IsMild (stage_at old.table k) (stage_at new.table k) (out_at old.table k) (out_at new.table k) = λ k. tells_at k (eqb p.key k) event old new p refl in
      record {
        greets = p.greeting ∙ o.greets;
        named = λ k cid q. p.names cid ∙ o.named k cid (sym ((mild k).conn cid) ∙ q);
        holds = λ k cid q. (mild k).named cid (o.holds k cid (sym (p.names cid) ∙ q));
        fresh = λ k le. (mild k).none (o.fresh k (subst (λ n. n ≤ k) p.next le));
        given = λ k cid q le. o.given k cid (sym (p.names cid) ∙ q) (subst (λ n. n ≤ k) p.next le);
        caller = λ k q. subst (λ j. IsCaller (stage_at new.table j)) (same_key new.caller p.key k p.caller q) (subst IsCaller (sym p.now_told) tt);
        called = λ k q le. gone_stands (stage_at old.table k) (Waiting p.addr) (o.fresh k (subst (λ n. n ≤ k) p.next le))
            (subst (λ j. stage_at old.table j ≡ Some (Waiting p.addr)) (same_key new.caller p.key k p.caller q) p.waits);
        bare = λ k. (mild k).bare (o.bare k);
      }

  gives : (event : Event) (old new : SocketFlow) → IsFirst old new event ⊎ IsNextCaller old new event → Orderly greeting old → Orderly greeting new
  gives event old new (inl p) o = keeps old new p.sockets o
  gives event old new (inr p) o = tells event old new p o

  asks : (ask : Ask) (old new : SocketFlow) → Asks old new ask → Orderly greeting old → Orderly greeting new
  asks (CloseSocket k) old new p o = keeps old new p.0.sockets o
  asks (Connect k addr) old new p o = keeps old new p.0.sockets o
  asks (Check k) old new p o = keeps old new p.0.sockets o
  asks (Write k) old new p o = keeps old new p.0.sockets o
  asks Accept old new p o = keeps old new p.0.sockets o
  asks (Read k most) old new p o = keeps old new p.0.sockets o
  asks (Give event) old new p o = gives event old new p o
  asks Govern old new p o = keeps old new p.0.sockets o
  asks (Wait time) old new p o = keeps old new p.0.sockets o

  -- ---- bytes come and go

  heard_mild : (socket : Socket) (said more : List ℕ) (heard : Heard) → socket.stage ≡ Announcing said
      → IsMild (Some socket.stage) (stage_of (introduced (record socket { stage = Announcing more }) heard)) socket.out (out_of (introduced (record socket { stage = Announcing more }) heard))
  heard_mild socket said more heard is =
      let was : Some socket.stage ≡ Some (Announcing said) = ap (λ s. Some s) is in record {
        conn = λ cid. heard_conn socket more heard cid ∙ sym (ap (λ x. is_conn x cid) was);
        named = λ cid p. false_true false refl (subst (λ x. IsNamed x cid) was p);
        none = λ none. absurd (gone_stands (Some socket.stage) socket.stage none refl);
        caller = λ p. absurd (subst IsCaller was p);
        bare = λ p. heard_bare socket more heard (subst (λ x. IsBare x socket.out) was p);
      }

  comes_mild : (socket : Socket) (stage : Stage) (bytes : List ℕ) → socket.stage ≡ stage → IsMild (Some socket.stage) (stage_of (heard_on socket stage bytes)) socket.out (out_of (heard_on socket stage bytes))
  comes_mild socket (Dialing id) bytes is = alike (Some socket.stage) (Some socket.stage) socket.out socket.out refl refl
  comes_mild socket (Announcing said) bytes is = heard_mild socket said (said ++ bytes) (hearing (said ++ bytes)) is
  comes_mild socket (Waiting addr) bytes is = alike (Some socket.stage) (Some socket.stage) socket.out socket.out refl refl
  comes_mild socket Told bytes is = alike (Some socket.stage) (Some socket.stage) socket.out socket.out refl refl
  comes_mild socket (Open id) bytes is = alike (Some socket.stage) (Some socket.stage) socket.out socket.out refl refl
  comes_mild socket Closing bytes is = alike (Some socket.stage) (Some socket.stage) socket.out socket.out refl refl

  after_mild : (s : Option Socket) (bytes : List ℕ) → IsMild (stage_of s) (stage_of (after_bytes s bytes)) (out_of s) (out_of (after_bytes s bytes))
  after_mild None bytes = alike None None [] [] refl refl
  after_mild (Some socket) bytes = comes_mild socket socket.stage bytes refl

  -- a socket on which less waits, or that is over once it was closed
  over_mild : (a : List ℕ) (n : Option Stage) (b : List ℕ) → (n ≡ None) ⊎ (n ≡ Some Closing) → IsMild (Some Closing) n a b
  over_mild a n b (inl gone) = record {
    conn = λ cid. ap (λ x. is_conn x cid) gone;
    named = λ cid p. false_true false refl p;
    none = λ none. gone;
    caller = λ p. absurd p;
    bare = λ p. subst (λ x. IsBare x b) (sym gone) tt;
  }
  over_mild a n b (inr same) = record {
    conn = λ cid. ap (λ x. is_conn x cid) same;
    named = λ cid p. false_true false refl p;
    none = λ none. absurd (gone_stands (Some Closing) Closing none refl);
    caller = λ p. absurd p;
    bare = λ p. subst (λ x. IsBare x b) (sym same) tt;
  }

  less_mild : (stage : Stage) (a b : List ℕ) → (a ≡ [] → b ≡ []) → IsMild (Some stage) (Some stage) a b
  less_mild stage a b less = record {
    conn = λ cid. refl;
    named = λ cid p. p;
    none = λ none. none;
    caller = λ p. p;
    bare = λ p. less_bare stage a b less p;
  }

  kept_mild : (socket : Socket) (stage : Stage) (was : List ℕ) → socket.stage ≡ stage → (was ≡ [] → socket.out ≡ []) → IsMild (Some stage) (Some socket.stage) was socket.out
  kept_mild socket stage was is less = subst (λ x. IsMild (Some stage) (Some x) was socket.out) (sym is) (less_mild stage was socket.out less)

  went_mild : (socket : Socket) (stage : Stage) (out was : List ℕ) → socket.stage ≡ stage → (was ≡ [] → socket.out ≡ [])
      → IsMild (Some stage) (stage_of (unless_over socket stage out)) was (out_of (unless_over socket stage out))
  went_mild socket (Dialing id) out was is less = kept_mild socket (Dialing id) was is less
  went_mild socket (Announcing said) out was is less = kept_mild socket (Announcing said) was is less
  went_mild socket (Waiting addr) out was is less = kept_mild socket (Waiting addr) was is less
  went_mild socket Told out was is less = kept_mild socket Told was is less
  went_mild socket (Open id) out was is less = kept_mild socket (Open id) was is less
  went_mild socket Closing [] was is less = over_mild was None [] (inl refl)
  went_mild socket Closing (byte ∷ out) was is less = over_mild was (Some socket.stage) socket.out (inr (ap (λ x. Some x) is))

  going_mild : (s : Option Socket) (count : ℕ) → IsMild (stage_of s) (stage_of (after_going s count)) (out_of s) (out_of (after_going s count))
  going_mild None count = alike None None [] [] refl refl
  going_mild (Some socket) count =
      went_mild (record socket { out = gone_by socket.out count; has_taken = true; is_held = false }) socket.stage (gone_by socket.out count) socket.out refl
      (λ none. ap (λ x. gone_by x count) none ∙ none_gone count)

  blocked_mild : (socket : Socket) (stage : Stage) → socket.stage ≡ stage → IsMild (Some stage) (stage_of (blocked socket stage)) socket.out (out_of (blocked socket stage))
  blocked_mild socket (Dialing id) is = kept_mild socket (Dialing id) socket.out is (λ none. none)
  blocked_mild socket (Announcing said) is = kept_mild socket (Announcing said) socket.out is (λ none. none)
  blocked_mild socket (Waiting addr) is = kept_mild socket (Waiting addr) socket.out is (λ none. none)
  blocked_mild socket Told is = kept_mild socket Told socket.out is (λ none. none)
  blocked_mild socket (Open id) is = kept_mild socket (Open id) socket.out is (λ none. none)
  blocked_mild socket Closing is = over_mild socket.out None [] (inl refl)

  full_mild : (s : Option Socket) → IsMild (stage_of s) (stage_of (after_full s)) (out_of s) (out_of (after_full s))
  full_mild None = alike None None [] [] refl refl
  full_mild (Some socket) = blocked_mild socket socket.stage refl

  -- ---- a call

  pub makes : (call : Call) (old new : SocketFlow) → Makes call old new → Orderly greeting old → Orderly greeting new
  makes PeerWaits old new p o = keeps old new p.sockets o
  makes NobodyWaits old new p o = keeps old new p.sockets o
  makes PeerIsGone old new p o = keeps old new p.sockets o
  makes HasNoRoom old new p o = keeps old new p.sockets o
  makes (HasNoRoomToDial k addr) old new p o = may_lose old new p o
  makes (MayBeReady k writable) old new p o = keeps old new p.sockets o
  makes (RoundBegins moment) old new p o = may_lose p.told new p.loses (keeps old p.told p.sockets o)
  makes (PeerCame addr k) old new p o = arrives k addr old new p.0 p.2 p.3 o
  makes (DialCameTo k outcome) old new p o = dialed k (stage_at old.table k) outcome old new refl p o
  makes (BytesCame k bytes event) old new p o =
      mildly old new p.2.keys.greeting p.2.keys.next p.2.keys.caller p.2.names
      (λ j. put k j (eqb k j) (after_bytes (socket_at old.table k) bytes) old new refl (p.1 j) (after_mild (socket_at old.table k) bytes)) o
  makes (BytesWent k count bytes) old new p o =
      mildly old new p.2.keys.greeting p.2.keys.next p.2.keys.caller p.2.names
      (λ j. put k j (eqb k j) (after_going (socket_at old.table k) count) old new refl (p.1 j) (going_mild (socket_at old.table k) count)) o
  makes (TakesNoMore k) old new p o =
      mildly old new p.1.keys.greeting p.1.keys.next p.1.keys.caller p.1.names
      (λ j. put k j (eqb k j) (after_full (socket_at old.table k)) old new refl (p.0 j) (full_mild (socket_at old.table k))) o
  makes (HasEnded k) old new p o = loses k old new p o
  makes (NodeDoes action) old new p o = does action old new p o
  makes (NodeAsks ask) old new p o = asks ask p.left new p.asks (may_lose old p.left p.loses o)

pub at_first : (terms : Terms) (flow : SocketFlow) → Begins terms flow → Orderly (greeting_by terms) flow
at_first terms flow b = record {
  greets = b.greeting;
  named = λ k cid p. false_true (is_conn (stage_at flow.table k) cid) (ap (λ s. is_conn (stage_of s) cid) (b.sockets k)) p;
  holds = λ k cid p. absurd (nobody (key_at flow.table cid) k (b.names cid) p);
  fresh = λ k le. ap stage_of (b.sockets k);
  given = λ k cid p le. nobody (key_at flow.table cid) k (b.names cid) p;
  caller = λ k p. absurd (nobody flow.caller k b.caller p);
  called = λ k p le. nobody flow.caller k b.caller p;
  bare = λ k. subst (λ s. IsBare (stage_of s) (out_of s)) (sym (b.sockets k)) tt;
}
