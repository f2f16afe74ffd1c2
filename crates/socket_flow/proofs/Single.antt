-- A connection has one socket, whatever is called.
use Rattle.std.proofs.Common.{◌≡◌, ◌⊎◌, ℕ, Bool, true, false, cond, eqb, List, [], ◌∷◌, ◌++◌, Option, Some, None, refl, sym, ap, subst, ◌∙◌, inl, inr}
use Rattle.net_base.specs.declared.action.Action.{Action}
use Rattle.net_base.specs.declared.action.Action.TheVariants.{Admit, Dial}
use Rattle.net_base.specs.declared.connection.Cid.{Cid}
use Rattle.net_base.specs.declared.event.Event.{Event}
use Rattle.net_base.specs.declared.event.Event.TheVariants.{Dialed, Bytes, Closed}
use Rattle.socket_flow.specs.Flow.{told_bytes, told_of}
use Rattle.socket_flow.specs.Histories.{Call, PeerWaits, NobodyWaits, PeerIsGone, HasNoRoom, HasNoRoomToDial, MayBeReady, RoundBegins, PeerCame, DialCameTo, BytesCame, BytesWent, TakesNoMore, HasEnded, NodeDoes, NodeAsks, Makes, to_read, IsWithin, MayCall, Runs, event_if_on, told_by, told_on, AreBytesOf}
use Rattle.socket_flow.specs.Lives.{Life, Unused, Unanswered, Talking, Over, Reused, Wrong, after_answer, after_coming, after_end, after_event, used_as, after_action, after_given, after_came, after_call, after_calls, IsRight, IsFirstUse, IsToldOf, HasOneSocket}
use Rattle.socket_flow.specs.Sending.{written_on, sent_to, opened_with, begun_with, IsFrontOf, IsSentSince}
use Rattle.socket_flow.specs.Table.{socket_at, stage_at, out_at, stage_of}
use Rattle.socket_flow.specs.Talk.{greeting_by}
use Rattle.socket_flow.specs.declared.ask.Ask.{Ask}
use Rattle.socket_flow.specs.declared.ask.Ask.TheVariants.{Give}
use Rattle.socket_flow.specs.declared.flow.SocketFlow.{SocketFlow}
use Rattle.socket_flow.specs.declared.socket.Socket.{Socket}
use Rattle.socket_flow.specs.declared.socket.Stage.{Stage}
use Rattle.socket_flow.specs.declared.socket.Stage.TheVariants.{Dialing, Announcing, Waiting, Told, Open, Closing}
use Rattle.socket_flow.proofs.Names.{is_conn, Orderly, one_socket, eqb_same, makes, at_first}
use Rattle.socket_flow.proofs.Living.{lives, Lives, Fits, IsLived, IsSilent, step, silent_then, history as right_history, at_unused}
use Rattle.socket_flow.proofs.Written.{Comes, Starts, history as foreseen}

-- ---- what is told of an id

agree : (events : List Event) (a b : Cid) → AreBytesOf a events → IsToldOf b events → a ≡ b
agree [] a b p q = absurd q
agree (Bytes cid bytes ∷ events) a b p (inl is) = sym p.0 ∙ is
agree (_ ∷ events) a b p (inl is) = absurd p.0
agree (event ∷ events) a b p (inr more) = agree events a b p.1 more

either_more : (event : Event) (first rest : List Event) (cid : Cid) → IsToldOf cid first ⊎ IsToldOf cid rest → IsToldOf cid (event ∷ first) ⊎ IsToldOf cid rest
either_more event first rest cid (inl p) = inl (inr p)
either_more event first rest cid (inr p) = inr p

told_either : (first rest : List Event) (cid : Cid) → IsToldOf cid (first ++ rest) → IsToldOf cid first ⊎ IsToldOf cid rest
told_either [] rest cid p = inr p
told_either (event ∷ first) rest cid (inl is) = inl (inl is)
told_either (event ∷ first) rest cid (inr more) = either_more event first rest cid (told_either first rest cid more)

-- ---- an id that was used

module _ (cid : Cid) where
  abbrev IsUsed : Life → Type 0
  IsUsed Unused = ⊥
  IsUsed _ = Unit {0}

  -- the id was used once more, or what was told is wrong
  abbrev IsSpent : Life → Type 0
  IsSpent Reused = Unit {0}
  IsSpent Wrong = Unit {0}
  IsSpent _ = ⊥

  spent_answer : (life : Life) (opens : Bool) → IsSpent life → IsSpent (after_answer life opens)
  spent_answer Reused opens p = tt
  spent_answer Wrong opens p = tt
  spent_answer Unused opens p = absurd p
  spent_answer Unanswered opens p = absurd p
  spent_answer Talking opens p = absurd p
  spent_answer Over opens p = absurd p

  spent_coming : (life : Life) → IsSpent life → IsSpent (after_coming life)
  spent_coming Reused p = tt
  spent_coming Wrong p = tt
  spent_coming Unused p = absurd p
  spent_coming Unanswered p = absurd p
  spent_coming Talking p = absurd p
  spent_coming Over p = absurd p

  spent_end : (life : Life) → IsSpent life → IsSpent (after_end life)
  spent_end Reused p = tt
  spent_end Wrong p = tt
  spent_end Unused p = absurd p
  spent_end Unanswered p = absurd p
  spent_end Talking p = absurd p
  spent_end Over p = absurd p

  spent_used : (life first : Life) → IsSpent life → IsSpent (used_as life first)
  spent_used Reused first p = tt
  spent_used Wrong first p = tt
  spent_used Unused first p = absurd p
  spent_used Unanswered first p = absurd p
  spent_used Talking first p = absurd p
  spent_used Over first p = absurd p

  if_spent : (test : Bool) (a b : Life) → IsSpent a → IsSpent b → IsSpent (cond test a b)
  if_spent true a b p q = p
  if_spent false a b p q = q

  spent_event : (life : Life) (event : Event) → IsSpent life → IsSpent (after_event cid life event)
  spent_event life (Dialed other opens) p = if_spent (eqb other.0 cid.0) (after_answer life opens) life (spent_answer life opens p) p
  spent_event life (Bytes other bytes) p = if_spent (eqb other.0 cid.0) (after_coming life) life (spent_coming life p) p
  spent_event life (Closed other) p = if_spent (eqb other.0 cid.0) (after_end life) life (spent_end life p) p
  spent_event life _ p = p

  spent_action : (life : Life) (action : Action) → IsSpent life → IsSpent (after_action cid life action)
  spent_action life (Dial other addr) p = if_spent (eqb other.0 cid.0) (used_as life Unanswered) life (spent_used life Unanswered p) p
  spent_action life (Admit other addr) p = if_spent (eqb other.0 cid.0) (used_as life Talking) life (spent_used life Talking p) p
  spent_action life _ p = p

  spent_given : (life : Life) (ask : Ask) → IsSpent life → IsSpent (after_given cid life ask)
  spent_given life (Give event) p = spent_event life event p
  spent_given life _ p = p

  spent_came : (life : Life) (event : Option Event) → IsSpent life → IsSpent (after_came cid life event)
  spent_came life (Some event) p = spent_event life event p
  spent_came life None p = p

  spent_call : (life : Life) (call : Call) → IsSpent life → IsSpent (after_call cid life call)
  spent_call life (BytesCame key bytes event) p = spent_came life event p
  spent_call life (NodeDoes action) p = spent_action life action p
  spent_call life (NodeAsks ask) p = spent_given life ask p
  spent_call life _ p = p

  spent_calls : (life : Life) (calls : List Call) → IsSpent life → IsSpent (after_calls cid life calls)
  spent_calls life [] p = p
  spent_calls life (call ∷ calls) p = spent_calls (after_call cid life call) calls (spent_call life call p)

  -- once used it stays so
  used_answer : (life : Life) (opens : Bool) → IsUsed (after_answer life opens)
  used_answer Unanswered true = tt
  used_answer Unanswered false = tt
  used_answer Reused opens = tt
  used_answer Unused opens = tt
  used_answer Talking opens = tt
  used_answer Over opens = tt
  used_answer Wrong opens = tt

  used_coming : (life : Life) → IsUsed (after_coming life)
  used_coming Talking = tt
  used_coming Reused = tt
  used_coming Unused = tt
  used_coming Unanswered = tt
  used_coming Over = tt
  used_coming Wrong = tt

  used_end : (life : Life) → IsUsed (after_end life)
  used_end Talking = tt
  used_end Reused = tt
  used_end Unused = tt
  used_end Unanswered = tt
  used_end Over = tt
  used_end Wrong = tt

  -- a use of an id that was used spends it
  spends : (life first : Life) → IsUsed life → IsSpent (used_as life first)
  spends Unused first p = absurd p
  spends Unanswered first p = tt
  spends Talking first p = tt
  spends Over first p = tt
  spends Reused first p = tt
  spends Wrong first p = tt

  used_spent : (life : Life) → IsSpent life → IsUsed life
  used_spent Reused p = tt
  used_spent Wrong p = tt
  used_spent Unused p = absurd p
  used_spent Unanswered p = absurd p
  used_spent Talking p = absurd p
  used_spent Over p = absurd p

  if_used : (test : Bool) (a b : Life) → IsUsed a → IsUsed b → IsUsed (cond test a b)
  if_used true a b p q = p
  if_used false a b p q = q

  used_event : (life : Life) (event : Event) → IsUsed life → IsUsed (after_event cid life event)
  used_event life (Dialed other opens) p = if_used (eqb other.0 cid.0) (after_answer life opens) life (used_answer life opens) p
  used_event life (Bytes other bytes) p = if_used (eqb other.0 cid.0) (after_coming life) life (used_coming life) p
  used_event life (Closed other) p = if_used (eqb other.0 cid.0) (after_end life) life (used_end life) p
  used_event life _ p = p

  used_action : (life : Life) (action : Action) → IsUsed life → IsUsed (after_action cid life action)
  used_action life (Dial other addr) p = if_used (eqb other.0 cid.0) (used_as life Unanswered) life (used_spent (used_as life Unanswered) (spends life Unanswered p)) p
  used_action life (Admit other addr) p = if_used (eqb other.0 cid.0) (used_as life Talking) life (used_spent (used_as life Talking) (spends life Talking p)) p
  used_action life _ p = p

  used_given : (life : Life) (ask : Ask) → IsUsed life → IsUsed (after_given cid life ask)
  used_given life (Give event) p = used_event life event p
  used_given life _ p = p

  used_came : (life : Life) (event : Option Event) → IsUsed life → IsUsed (after_came cid life event)
  used_came life (Some event) p = used_event life event p
  used_came life None p = p

  used_call : (life : Life) (call : Call) → IsUsed life → IsUsed (after_call cid life call)
  used_call life (BytesCame key bytes event) p = used_came life event p
  used_call life (NodeDoes action) p = used_action life action p
  used_call life (NodeAsks ask) p = used_given life ask p
  used_call life _ p = p

  -- a connection that begins is a use of its id
  begins_if : (test : Bool) (life first : Life) (said written sent : List ℕ) → IsFrontOf written (cond test (Some said) None) sent → IsUsed life → IsSpent (cond test (used_as life first) life)
  begins_if true life first said written sent p q = spends life first q
  begins_if false life first said written sent p q = absurd p

  begins_by : (greeting : List ℕ) (life : Life) (action : Action) (written sent : List ℕ) → IsFrontOf written (opened_with greeting cid action) sent → IsUsed life → IsSpent (after_action cid life action)
  begins_by greeting life (Dial other addr) written sent p q = begins_if (eqb other.0 cid.0) life Unanswered greeting written sent p q
  begins_by greeting life (Admit other addr) written sent p q = begins_if (eqb other.0 cid.0) life Talking [] written sent p q
  begins_by greeting life _ written sent p q = absurd p

  begins_call : (greeting : List ℕ) (life : Life) (call : Call) (written sent : List ℕ) → IsFrontOf written (begun_with greeting cid call) sent → IsUsed life → IsSpent (after_call cid life call)
  begins_call greeting life (NodeDoes action) written sent p q = begins_by greeting life action written sent p q
  begins_call greeting life _ written sent p q = absurd p

  begins_later : (greeting : List ℕ) (life : Life) (calls : List Call) (written : List ℕ) → IsSentSince greeting cid written calls → IsUsed life → IsSpent (after_calls cid life calls)
  begins_later greeting life [] written p q = absurd p
  begins_later greeting life (call ∷ calls) written (inl here) q = spent_calls (after_call cid life call) calls (begins_call greeting life call written (sent_to cid calls) here q)
  begins_later greeting life (call ∷ calls) written (inr later) q = begins_later greeting (after_call cid life call) calls written later (used_call life call q)

  -- ---- of a used id is told what comes on its socket

  never_spent : (life : Life) → IsFirstUse life → IsRight life → IsSpent life → ⊥
  never_spent Reused first right spent = first
  never_spent Wrong first right spent = right
  never_spent Unused first right spent = spent
  never_spent Unanswered first right spent = spent
  never_spent Talking first right spent = spent
  never_spent Over first right spent = spent

  module _ (greeting : List ℕ) where
    starts_never : (key : ℕ) (life : Life) (calls : List Call) → Starts greeting key calls → IsToldOf cid (told_on key calls) → IsUsed life → IsFirstUse (after_calls cid life calls) → IsRight (after_calls cid life calls) → ⊥
    starts_never key life calls (inl idle) told used first right = subst (λ t. IsToldOf cid t) idle.1 told
    starts_never key life calls (inr one) told used first right =
        let is = agree (told_on key calls) one.cid cid one.told_of told in
        never_spent (after_calls cid life calls) first right (begins_later greeting life calls (written_on key calls) (subst (λ c. IsSentSince greeting c (written_on key calls) calls) is one.sent) used)

    is_its : (key : ℕ) (s : Option Stage) (out : List ℕ) (life : Life) (calls : List Call) → Comes greeting key s out calls → IsToldOf cid (told_on key calls) → IsUsed life → IsFirstUse (after_calls cid life calls)
        → IsRight (after_calls cid life calls) → is_conn s cid.0 ≡ true
    is_its key None out life calls c told used first right = absurd (starts_never key life calls c told used first right)
    is_its key (Some (Dialing id)) out life calls c told used first right = eqb_same id.cid.0 cid.0 (ap (λ x. x.0) (agree (told_on key calls) id.cid cid c.told told))
    is_its key (Some (Announcing said)) out life calls c told used first right = absurd (starts_never key life calls c told used first right)
    is_its key (Some (Waiting addr)) out life calls c told used first right = absurd (starts_never key life calls c told used first right)
    is_its key (Some Told) out life calls c told used first right = absurd (starts_never key life calls c told used first right)
    is_its key (Some (Open id)) out life calls c told used first right = eqb_same id.cid.0 cid.0 (ap (λ x. x.0) (agree (told_on key calls) id.cid cid c.told told))
    is_its key (Some Closing) out life calls c told used first right = absurd (subst (λ t. IsToldOf cid t) c.told told)

    -- ---- of an id that was not used nothing is told

    unused_at : (stage : Stage) (bytes : List ℕ) → IsLived cid (Some stage) Unused → IsToldOf cid (event_if_on true (told_bytes stage bytes)) → ⊥
    unused_at (Dialing id) bytes p told = told
    unused_at (Announcing said) bytes p told = told
    unused_at (Waiting addr) bytes p told = told
    unused_at Told bytes p told = told
    unused_at (Open id) bytes p (inl is) = subst IsUsed (sym (p (eqb_same id.cid.0 cid.0 (ap (λ x. x.0) is)))) tt
    unused_at (Open id) bytes p (inr more) = more
    unused_at Closing bytes p told = told

    unused_of : (s : Option Socket) (bytes : List ℕ) → IsLived cid (stage_of s) Unused → IsToldOf cid (event_if_on true (told_of s bytes)) → ⊥
    unused_of None bytes p told = told
    unused_of (Some socket) bytes p told = unused_at socket.stage bytes p told

    unused_on : (k key : ℕ) (test : Bool) (bytes : List ℕ) (event : Option Event) (old : SocketFlow) → IsLived cid (stage_at old.table k) Unused → event ≡ told_of (socket_at old.table k) bytes
        → IsToldOf cid (event_if_on test event) → ⊥
    unused_on k key true bytes event old p is told = unused_of (socket_at old.table k) bytes p (subst (λ e. IsToldOf cid (event_if_on true e)) is told)
    unused_on k key false bytes event old p is told = told

    unused_lived : (old : SocketFlow) (k : ℕ) → Fits cid old Unused → IsLived cid (stage_at old.table k) Unused
    unused_lived old k (inl is) = absurd (subst IsUsed (sym is) tt)
    unused_lived old k (inr own) = own.sockets k

    unused_read : (reading : Option (ℕ × ℕ)) (k key : ℕ) (bytes : List ℕ) (event : Option Event) (old new : SocketFlow) → IsSilent cid reading old → IsWithin reading k bytes → Makes (BytesCame k bytes event) old new
        → Lives cid Unused old → IsToldOf cid (event_if_on (eqb k key) event) → ⊥
    unused_read None k key bytes event old new silent within p f told = within
    unused_read (Some reading) k key bytes event old new silent within p f told =
        unused_on k key (eqb k key) bytes event old (unused_lived old k (subst (λ q. Fits cid old (lives cid Unused q)) silent f)) p.0 told

    unused_by : (call : Call) (key : ℕ) (reading : Option (ℕ × ℕ)) (old new : SocketFlow) → IsSilent cid reading old → MayCall reading call → Makes call old new → Lives cid Unused old → IsToldOf cid (told_by key call) → ⊥
    unused_by (BytesCame k bytes event) key reading old new silent may p f told = unused_read reading k key bytes event old new silent may p f told
    unused_by PeerWaits key reading old new silent may p f told = told
    unused_by NobodyWaits key reading old new silent may p f told = told
    unused_by PeerIsGone key reading old new silent may p f told = told
    unused_by HasNoRoom key reading old new silent may p f told = told
    unused_by (HasNoRoomToDial k addr) key reading old new silent may p f told = told
    unused_by (MayBeReady k writable) key reading old new silent may p f told = told
    unused_by (RoundBegins moment) key reading old new silent may p f told = told
    unused_by (PeerCame addr k) key reading old new silent may p f told = told
    unused_by (DialCameTo k outcome) key reading old new silent may p f told = told
    unused_by (BytesWent k count bytes) key reading old new silent may p f told = told
    unused_by (TakesNoMore k) key reading old new silent may p f told = told
    unused_by (HasEnded k) key reading old new silent may p f told = told
    unused_by (NodeDoes action) key reading old new silent may p f told = told
    unused_by (NodeAsks ask) key reading old new silent may p f told = told

    later : (a b : List Event) → (IsToldOf cid a → ⊥) → IsToldOf cid a ⊎ IsToldOf cid b → IsToldOf cid b
    later a b never (inl first) = absurd (never first)
    later a b never (inr rest) = rest

    -- ---- a history

    -- by whether the id is used by then
    used_or : (life : Life) → (life ≡ Unused) ⊎ IsUsed life
    used_or Unused = inl refl
    used_or Unanswered = inr tt
    used_or Talking = inr tt
    used_or Over = inr tt
    used_or Reused = inr tt
    used_or Wrong = inr tt

    single_then : (calls : List Call) (reading : Option (ℕ × ℕ)) (life : Life) (old last : SocketFlow) (key other : ℕ) → (life ≡ Unused) ⊎ IsUsed life
        → (Lives cid Unused old → IsFirstUse (after_calls cid Unused calls) → key ≡ other)
        → IsSilent cid reading old → Runs reading calls old last → Orderly greeting old → Lives cid life old
        → IsFirstUse (after_calls cid life calls) → IsToldOf cid (told_on key calls) → IsToldOf cid (told_on other calls) → key ≡ other
    single_then calls reading life old last key other (inl is) again silent runs o f first told also =
        again (subst (λ x. Lives cid x old) is f) (subst (λ x. IsFirstUse (after_calls cid x calls)) is first)
    single_then calls reading life old last key other (inr used) again silent runs o f first told also =
        let right = right_history cid greeting calls reading life old last silent runs o f in
        one_socket greeting old key other cid.0 o
        (is_its key (stage_at old.table key) (out_at old.table key) life calls (foreseen greeting key calls reading old last runs o).comes told used first right)
        (is_its other (stage_at old.table other) (out_at old.table other) life calls (foreseen greeting other calls reading old last runs o).comes also used first right)

    single : (calls : List Call) (reading : Option (ℕ × ℕ)) (old last : SocketFlow) (key other : ℕ) → IsSilent cid reading old → Runs reading calls old last → Orderly greeting old → Lives cid Unused old
        → IsFirstUse (after_calls cid Unused calls) → IsToldOf cid (told_on key calls) → IsToldOf cid (told_on other calls) → key ≡ other
    single [] reading old last key other silent runs o f first told also = absurd told
    single (call ∷ calls) reading old last key other silent runs o f first told also =
        let next = runs.1 in
        let silent_now = silent_then cid call old next runs.2 in
        let orderly = makes greeting call old next runs.2 o in
        let here = later (told_by key call) (told_on key calls) (unused_by call key reading old next silent runs.0 runs.2 f) (told_either (told_by key call) (told_on key calls) cid told) in
        let there = later (told_by other call) (told_on other calls) (unused_by call other reading old next silent runs.0 runs.2 f) (told_either (told_by other call) (told_on other calls) cid also) in
        single_then calls (to_read call) (after_call cid Unused call) next last key other (used_or (after_call cid Unused call))
        (λ unused once. single calls (to_read call) next last key other silent_now runs.3 orderly unused once here there)
        silent_now runs.3 orderly (step cid greeting call reading Unused old next silent runs.0 runs.2 o f) first here there

pub has_one_socket : HasOneSocket
has_one_socket terms first last calls begins runs cid once key other told also =
    single cid (greeting_by terms) calls None first last key other tt runs (at_first terms first begins) (at_unused cid terms first begins) once told also
