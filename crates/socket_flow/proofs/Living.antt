-- What a node is told of a connection is right from its first use to its end, whatever is called.
use Rattle.std.proofs.Common.{◌≡◌, ◌⊎◌, ℕ, ◌+◌, ◌-◌, ◌^◌, min, nat_lt, nat_le, ◌==◌, Bool, true, false, cond, eqb, MatchBool, List, [], ◌∷◌, ◌++◌, length, Option, Some, None, refl, sym, ap, subst, ◌∙◌, inl, inr}
use Rattle.std.proofs.lemmas.Bool.{eqb-true, eqb-false}
use Rattle.std.proofs.lemmas.List.{append-nil}
use Rattle.net_base.specs.declared.action.Action.{Action}
use Rattle.net_base.specs.declared.action.Action.TheVariants.{Admit, Turnaway, Dial, Send, Close, Pause, AskRoots, State, Peer}
use Rattle.net_base.specs.declared.address.Addr.{Addr}
use Rattle.net_base.specs.declared.connection.Cid.{Cid}
use Rattle.net_base.specs.declared.event.Event.{Event}
use Rattle.net_base.specs.declared.event.Event.TheVariants.{Dialed, Bytes, Closed}
use Rattle.net_base.specs.declared.event.Job.{Job}
use Rattle.socket_flow.specs.Acting.{IsOpenAs, IsOpened, OpensOn, IsDialingAs, DialsAt, SendsOn, PutsOn, IsClosing, ClosesAt, ClosesOn, answers, Does, is_free}
use Rattle.socket_flow.specs.Announcement.{hearing}
use Rattle.socket_flow.specs.Asks.{Asks, IsFirst, IsNextCaller}
use Rattle.socket_flow.specs.Flow.{ending, endings, told_bytes, told_of, introduced, heard_on, after_bytes, unless_over, after_going, blocked, after_full, newcomer}
use Rattle.socket_flow.specs.Histories.{Call, PeerWaits, NobodyWaits, PeerIsGone, HasNoRoom, HasNoRoomToDial, MayBeReady, RoundBegins, PeerCame, DialCameTo, BytesCame, BytesWent, TakesNoMore, HasEnded, NodeDoes, NodeAsks, Makes, to_read_of, to_read, IsWithin, MayCall, Runs}
use Rattle.socket_flow.specs.Lives.{Life, Unused, Unanswered, Talking, Over, Reused, Wrong, after_answer, after_coming, after_end, after_event, used_as, after_action, after_given, after_came, after_call, after_calls, IsRight, LivesAreRight}
use Rattle.socket_flow.specs.Moments.{moments_told, is_news, reached}
use Rattle.socket_flow.specs.Table.{socket_at, key_at, stage_at, stage_of, is_connection, is_linked}
use Rattle.socket_flow.specs.Talk.{KeepsSockets, KeepsAll, Loses, Losing, MayLose, Connects, IsDialed, Begins, greeting_by}
use Rattle.socket_flow.specs.Writing.{gone_by}
use Rattle.socket_flow.specs.declared.announcement.Heard.{Heard}
use Rattle.socket_flow.specs.declared.announcement.Heard.TheVariants.{Front, Whole, Else}
use Rattle.socket_flow.specs.declared.ask.Ask.{Ask}
use Rattle.socket_flow.specs.declared.ask.Ask.TheVariants.{Close as CloseSocket, Connect, Check, Write, Accept, Read, Give, Govern, Wait}
use Rattle.socket_flow.specs.declared.ask.Dialed.{Dialed as Outcome}
use Rattle.socket_flow.specs.declared.ask.Dialed.TheVariants.{NotYet, Connected, Failed}
use Rattle.socket_flow.specs.declared.flow.SocketFlow.{SocketFlow}
use Rattle.socket_flow.specs.declared.id.Id.{Id}
use Rattle.socket_flow.specs.declared.roots.Roots.{Roots}
use Rattle.socket_flow.specs.declared.socket.Socket.{Socket}
use Rattle.socket_flow.specs.declared.socket.Stage.{Stage}
use Rattle.socket_flow.specs.declared.socket.Stage.TheVariants.{Dialing, Announcing, Waiting, Told, Open, Closing}
use Rattle.socket_flow.specs.declared.terms.Terms.{Terms}
use Rattle.socket_flow.proofs.Names.{is_conn, Orderly, one_socket, false_true, keeps, loses, makes, at_first}

-- ---- lives

same_if : (test : Bool) (life : Life) → cond test life life ≡ life
same_if true life = refl
same_if false life = refl

abbrev IsUnused : Life → Type 0
IsUnused Unused = Unit {0}
IsUnused _ = ⊥

module _ (cid : Cid) where
  reused_event : (event : Event) → after_event cid Reused event ≡ Reused
  reused_event (Dialed other true) = same_if (eqb other.0 cid.0) Reused
  reused_event (Dialed other false) = same_if (eqb other.0 cid.0) Reused
  reused_event (Bytes other bytes) = same_if (eqb other.0 cid.0) Reused
  reused_event (Closed other) = same_if (eqb other.0 cid.0) Reused
  reused_event _ = refl

  wrong_event : (event : Event) → after_event cid Wrong event ≡ Wrong
  wrong_event (Dialed other true) = same_if (eqb other.0 cid.0) Wrong
  wrong_event (Dialed other false) = same_if (eqb other.0 cid.0) Wrong
  wrong_event (Bytes other bytes) = same_if (eqb other.0 cid.0) Wrong
  wrong_event (Closed other) = same_if (eqb other.0 cid.0) Wrong
  wrong_event _ = refl

  -- what the node will know once it was told of these
  abbrev pub lives : Life → List Event → Life
  lives life [] = life
  lives life (event ∷ events) = lives (after_event cid life event) events

  lives_append : (life : Life) (events more : List Event) → lives life (events ++ more) ≡ lives (lives life events) more
  lives_append life [] more = refl
  lives_append life (event ∷ events) more = lives_append (after_event cid life event) events more

  lives_reused : (events : List Event) → lives Reused events ≡ Reused
  lives_reused [] = refl
  lives_reused (event ∷ events) = ap (λ life. lives life events) (reused_event event) ∙ lives_reused events

  lives_wrong : (events : List Event) → lives Wrong events ≡ Wrong
  lives_wrong [] = refl
  lives_wrong (event ∷ events) = ap (λ life. lives life events) (wrong_event event) ∙ lives_wrong events

  right_before : (life : Life) (events : List Event) → IsRight (lives life events) → IsRight life
  right_before Unused events p = tt
  right_before Unanswered events p = tt
  right_before Talking events p = tt
  right_before Over events p = tt
  right_before Reused events p = tt
  right_before Wrong events p = subst IsRight (lives_wrong events) p

  -- where nobody was told of an id, nothing of it waits
  abbrev IsNone : List Event → Type 0
  IsNone events = (life : Life) → lives life events ≡ life

  none_if : (event : Event) (events : List Event) → ((life : Life) → after_event cid life event ≡ life) ⊎ (after_event cid Unused event ≡ Wrong)
      → (IsRight (lives Unused events) → IsNone events) → IsRight (lives Unused (event ∷ events)) → IsNone (event ∷ events)
  none_if event events (inl other) rest p =
      let none = rest (subst (λ life. IsRight (lives life events)) (other Unused) p) in
      λ life. ap (λ x. lives x events) (other life) ∙ none life
  none_if event events (inr mine) rest p = absurd (subst IsRight (lives_wrong events) (subst (λ life. IsRight (lives life events)) mine p))

  answer_or : (test is_open : Bool) → ((life : Life) → cond test (after_answer life is_open) life ≡ life) ⊎ (cond test (after_answer Unused is_open) Unused ≡ Wrong)
  answer_or true is_open = inr refl
  answer_or false is_open = inl (λ life. refl)

  coming_or : (test : Bool) → ((life : Life) → cond test (after_coming life) life ≡ life) ⊎ (cond test (after_coming Unused) Unused ≡ Wrong)
  coming_or true = inr refl
  coming_or false = inl (λ life. refl)

  end_or : (test : Bool) → ((life : Life) → cond test (after_end life) life ≡ life) ⊎ (cond test (after_end Unused) Unused ≡ Wrong)
  end_or true = inr refl
  end_or false = inl (λ life. refl)

  event_or : (event : Event) → ((life : Life) → after_event cid life event ≡ life) ⊎ (after_event cid Unused event ≡ Wrong)
  event_or (Dialed other is_open) = answer_or (eqb other.0 cid.0) is_open
  event_or (Bytes other bytes) = coming_or (eqb other.0 cid.0)
  event_or (Closed other) = end_or (eqb other.0 cid.0)
  event_or _ = inl (λ life. refl)

  unused_none : (events : List Event) → IsRight (lives Unused events) → IsNone events
  unused_none [] p = λ life. refl
  unused_none (event ∷ events) p = none_if event events (event_or event) (unused_none events) p

  -- ---- what stands between two calls

  abbrev pub IsLived : Option Stage → Life → Type 0
  IsLived None life = Unit {0}
  IsLived (Some (Dialing id)) life = eqb id.cid.0 cid.0 ≡ true → life ≡ Unanswered
  IsLived (Some (Announcing said)) life = Unit {0}
  IsLived (Some (Waiting addr)) life = Unit {0}
  IsLived (Some Told) life = Unit {0}
  IsLived (Some (Open id)) life = eqb id.cid.0 cid.0 ≡ true → life ≡ Talking
  IsLived (Some Closing) life = Unit {0}

  -- whoever is another connection lives any life
  other_lived : (s : Option Stage) (life : Life) → (is_conn s cid.0 ≡ true → ⊥) → IsLived s life
  other_lived None life never = tt
  other_lived (Some (Dialing id)) life never = λ is. absurd (never is)
  other_lived (Some (Announcing said)) life never = tt
  other_lived (Some (Waiting addr)) life never = tt
  other_lived (Some Told) life never = tt
  other_lived (Some (Open id)) life never = λ is. absurd (never is)
  other_lived (Some Closing) life never = tt

  pub record IsOwn (flow : SocketFlow) (life : Life) : Type 0 where
    pub right : IsRight life
    pub sockets : (k : ℕ) → IsLived (stage_at flow.table k) life

  abbrev pub Fits : SocketFlow → Life → Type 0
  Fits flow life = (life ≡ Reused) ⊎ IsOwn flow life

  -- what the node knows, once it was told all that waits
  abbrev pub Lives : Life → SocketFlow → Type 0
  Lives life flow = Fits flow (lives life flow.events)

  fits_then : (old new : SocketFlow) (before after : Life) → after ≡ before → ((k : ℕ) → IsLived (stage_at old.table k) before → IsLived (stage_at new.table k) before) → Fits old before → Fits new after
  fits_then old new before after e still (inl is) = inl (e ∙ is)
  fits_then old new before after e still (inr own) = inr (record { right = subst IsRight (sym e) own.right; sockets = λ k. subst (λ x. IsLived (stage_at new.table k) x) (sym e) (still k (own.sockets k)) })

  -- nothing of it is told besides, and no socket of it is another
  moves : (life : Life) (old new : SocketFlow) (more : List Event) → new.events ≡ old.events ++ more → IsNone more → ((k : ℕ) (x : Life) → IsLived (stage_at old.table k) x → IsLived (stage_at new.table k) x)
      → Lives life old → Lives life new
  moves life old new more events none still f =
      fits_then old new (lives life old.events) (lives life new.events) (ap (λ q. lives life q) events ∙ (lives_append life old.events more ∙ none (lives life old.events)))
      (λ k. still k (lives life old.events)) f

  stays : (life : Life) (old new : SocketFlow) → new.events ≡ old.events → ((k : ℕ) (x : Life) → IsLived (stage_at old.table k) x → IsLived (stage_at new.table k) x) → Lives life old → Lives life new
  stays life old new events still f = moves life old new [] (events ∙ sym (append-nil old.events)) (λ x. refl) still f

  same_lived : (s n : Option Stage) (x : Life) → n ≡ s → IsLived s x → IsLived n x
  same_lived s n x e p = subst (λ y. IsLived y x) (sym e) p

  keeps_sockets : (life : Life) (old new : SocketFlow) (more : List Event) → new.events ≡ old.events ++ more → IsNone more → KeepsSockets old new → Lives life old → Lives life new
  keeps_sockets life old new more events none p f = moves life old new more events none (λ k x. same_lived (stage_at old.table k) (stage_at new.table k) x (p.talk k).1) f

  keeps_all : (life : Life) (old new : SocketFlow) → KeepsAll old new → Lives life old → Lives life new
  keeps_all life old new p f = stays life old new p.events (λ k x. same_lived (stage_at old.table k) (stage_at new.table k) x (p.sockets.talk k).1) f

  -- a socket is put at a key, in a life in which it may be
  put_lived : (k0 k : ℕ) (test : Bool) (n : Option Socket) (old new : SocketFlow) (x : Life) → eqb k0 k ≡ test → socket_at new.table k ≡ cond test n (socket_at old.table k)
      → (IsLived (stage_at old.table k0) x → IsLived (stage_of n) x) → IsLived (stage_at old.table k) x → IsLived (stage_at new.table k) x
  put_lived k0 k true n old new x is e own p = subst (λ s. IsLived (stage_of s) x) (sym e) (own (subst (λ j. IsLived (stage_at old.table j) x) (sym (eqb-true k0 k is)) p))
  put_lived k0 k false n old new x is e own p = same_lived (stage_at old.table k) (stage_at new.table k) x (ap stage_of e) p

  -- ---- a socket goes

  -- its end is of another, or it is the end of this
  fails : (test : Bool) (life : Life) → (test ≡ true → life ≡ Unanswered) → (cond test (after_answer life false) life ≡ life) ⊎ ((test ≡ true) × (cond test (after_answer life false) life ≡ Over))
  fails true life p = inr (refl, ap (λ x. after_answer x false) (p refl))
  fails false life p = inl refl

  closes_it : (test : Bool) (life : Life) → (test ≡ true → life ≡ Talking) → (cond test (after_end life) life ≡ life) ⊎ ((test ≡ true) × (cond test (after_end life) life ≡ Over))
  closes_it true life p = inr (refl, ap after_end (p refl))
  closes_it false life p = inl refl

  ends : (stage : Stage) (life : Life) → IsLived (Some stage) life → (lives life (ending stage) ≡ life) ⊎ ((is_connection stage cid.0 ≡ true) × (lives life (ending stage) ≡ Over))
  ends (Dialing id) life p = fails (eqb id.cid.0 cid.0) life p
  ends (Announcing said) life p = inl refl
  ends (Waiting addr) life p = inl refl
  ends Told life p = inl refl
  ends (Open id) life p = closes_it (eqb id.cid.0 cid.0) life p
  ends Closing life p = inl refl

  ends_of : (s : Option Socket) (life : Life) → IsLived (stage_of s) life → (lives life (endings s) ≡ life) ⊎ ((is_conn (stage_of s) cid.0 ≡ true) × (lives life (endings s) ≡ Over))
  ends_of None life p = inl refl
  ends_of (Some socket) life p = ends socket.stage life p

  module _ (greeting : List ℕ) where
    gone_lived : (k0 k : ℕ) (test : Bool) (old new : SocketFlow) (life : Life) → eqb k0 k ≡ test → socket_at new.table k ≡ cond test None (socket_at old.table k) → Orderly greeting old
        → is_conn (stage_at old.table k0) cid.0 ≡ true → IsLived (stage_at new.table k) life
    gone_lived k0 k true old new life is e o own = subst (λ s. IsLived (stage_of s) life) (sym e) tt
    gone_lived k0 k false old new life is e o own =
        same_lived (stage_at old.table k) (stage_at new.table k) life (ap stage_of e)
        (other_lived (stage_at old.table k) life (λ conn. eqb-false k0 k is (one_socket greeting old k0 k cid.0 o own conn)))

    loses_own : (k0 : ℕ) (old new : SocketFlow) (life after : Life) → after ≡ lives life (endings (socket_at old.table k0))
        → (lives life (endings (socket_at old.table k0)) ≡ life) ⊎ ((is_conn (stage_at old.table k0) cid.0 ≡ true) × (lives life (endings (socket_at old.table k0)) ≡ Over))
        → ((k : ℕ) → socket_at new.table k ≡ cond (eqb k0 k) None (socket_at old.table k)) → Orderly greeting old → IsOwn old life → Fits new after
    loses_own k0 old new life after e (inl same) gone o own =
        fits_then old new life after (e ∙ same) (λ k. put_lived k0 k (eqb k0 k) None old new life refl (gone k) (λ p. tt)) (inr own)
    loses_own k0 old new life after e (inr over) gone o own =
        subst (λ x. Fits new x) (sym (e ∙ over.1)) (inr (record { right = tt; sockets = λ k. gone_lived k0 k (eqb k0 k) old new Over refl (gone k) o over.0 }))

    loses_if : (k0 : ℕ) (old new : SocketFlow) (life after : Life) → after ≡ lives life (endings (socket_at old.table k0)) → ((k : ℕ) → socket_at new.table k ≡ cond (eqb k0 k) None (socket_at old.table k))
        → Orderly greeting old → Fits old life → Fits new after
    loses_if k0 old new life after e gone o (inl is) = inl (e ∙ (ap (λ x. lives x (endings (socket_at old.table k0))) is ∙ lives_reused (endings (socket_at old.table k0))))
    loses_if k0 old new life after e gone o (inr own) = loses_own k0 old new life after e (ends_of (socket_at old.table k0) life (own.sockets k0)) gone o own

    loses_life : (life : Life) (k0 : ℕ) (old new : SocketFlow) → Loses k0 old new → Orderly greeting old → Lives life old → Lives life new
    loses_life life k0 old new p o f =
        loses_if k0 old new (lives life old.events) (lives life new.events) (ap (λ q. lives life q) p.events ∙ lives_append life old.events (endings (socket_at old.table k0))) p.gone o f

    losing_life : (life : Life) (keys : List ℕ) (old new : SocketFlow) → Losing keys old new → Orderly greeting old → Lives life old → Lives life new
    losing_life life [] old new p o f = keeps_all life old new p f
    losing_life life (k ∷ keys) old new p o f =
        let before = keeps greeting old p.0 p.2.sockets o in
        losing_life life keys p.1 new p.4 (loses greeting k p.0 p.1 p.3 before) (loses_life life k p.0 p.1 p.3 before (keeps_all life old p.0 p.2 f))

    may_lose_life : (life : Life) (old new : SocketFlow) → MayLose old new → Orderly greeting old → Lives life old → Lives life new
    may_lose_life life old new p o f = losing_life life p.gone old new p.losing o f

    -- ---- a dial is answered

    opens_lived : (k0 k : ℕ) (test : Bool) (id : Id) (old new : SocketFlow) → eqb k0 k ≡ test → stage_at old.table k0 ≡ Some (Dialing id) → Connects k0 id old new → Orderly greeting old
        → eqb id.cid.0 cid.0 ≡ true → IsLived (stage_at new.table k) Talking
    opens_lived k0 k true id old new is was p o mine =
        subst (λ s. IsLived s Talking) (sym (subst (λ j. stage_at new.table j ≡ Some (Open id)) (eqb-true k0 k is) p.stage)) (λ same. refl)
    opens_lived k0 k false id old new is was p o mine =
        same_lived (stage_at old.table k) (stage_at new.table k) Talking (p.others k is)
        (other_lived (stage_at old.table k) Talking (λ conn. eqb-false k0 k is (one_socket greeting old k0 k cid.0 o (ap (λ s. is_conn s cid.0) was ∙ mine) conn)))

    opens_other : (k0 k : ℕ) (test : Bool) (id : Id) (old new : SocketFlow) (life : Life) → eqb k0 k ≡ test → Connects k0 id old new → eqb id.cid.0 cid.0 ≡ false → IsLived (stage_at old.table k) life → IsLived (stage_at new.table k) life
    opens_other k0 k true id old new life is p never q =
        subst (λ s. IsLived s life) (sym (subst (λ j. stage_at new.table j ≡ Some (Open id)) (eqb-true k0 k is) p.stage)) (λ same. false_true (eqb id.cid.0 cid.0) never same)
    opens_other k0 k false id old new life is p never q = same_lived (stage_at old.table k) (stage_at new.table k) life (p.others k is) q

    -- by whether it is this one
    connects_if : (test : Bool) (k0 : ℕ) (id : Id) (old new : SocketFlow) (life after : Life) → eqb id.cid.0 cid.0 ≡ test → after ≡ cond test (after_answer life true) life
        → stage_at old.table k0 ≡ Some (Dialing id) → Connects k0 id old new → Orderly greeting old → Fits old life → Fits new after
    connects_if true k0 id old new life after is e was p o (inl reused) = inl (e ∙ ap (λ x. after_answer x true) reused)
    connects_if true k0 id old new life after is e was p o (inr own) =
        let before : life ≡ Unanswered = subst (λ s. IsLived s life) was (own.sockets k0) is in
        subst (λ x. Fits new x) (sym (e ∙ ap (λ x. after_answer x true) before)) (inr (record { right = tt; sockets = λ k. opens_lived k0 k (eqb k0 k) id old new refl was p o is }))
    connects_if false k0 id old new life after is e was p o f = fits_then old new life after e (λ k. opens_other k0 k (eqb k0 k) id old new life refl p is) f

    connects_life : (life : Life) (k0 : ℕ) (id : Id) (old new : SocketFlow) → stage_at old.table k0 ≡ Some (Dialing id) → Connects k0 id old new → Orderly greeting old → Lives life old → Lives life new
    connects_life life k0 id old new was p o f =
        connects_if (eqb id.cid.0 cid.0) k0 id old new (lives life old.events) (lives life new.events) refl
        (ap (λ q. lives life q) p.events ∙ lives_append life old.events (Dialed id.cid true ∷ [])) was p o f

    dialed_life : (life : Life) (k : ℕ) (stage : Option Stage) (outcome : Outcome) (old new : SocketFlow) → stage_at old.table k ≡ stage → IsDialed stage outcome k old new → Orderly greeting old → Lives life old → Lives life new
    dialed_life life k None outcome old new is p o f = keeps_all life old new p f
    dialed_life life k (Some (Dialing id)) NotYet old new is p o f = keeps_all life old new p f
    dialed_life life k (Some (Dialing id)) Connected old new is p o f = connects_life life k id old new is p o f
    dialed_life life k (Some (Dialing id)) Failed old new is p o f = loses_life life k old new p o f
    dialed_life life k (Some (Announcing said)) outcome old new is p o f = keeps_all life old new p f
    dialed_life life k (Some (Waiting addr)) outcome old new is p o f = keeps_all life old new p f
    dialed_life life k (Some Told) outcome old new is p o f = keeps_all life old new p f
    dialed_life life k (Some (Open id)) outcome old new is p o f = keeps_all life old new p f
    dialed_life life k (Some Closing) outcome old new is p o f = keeps_all life old new p f

  -- ---- an id is used

  -- a socket is for what it was, or it is the one that begins
  record IsBegun (other : Cid) (first : Life) (stage : Option Stage) : Type 0 where
    elsewhere : (life : Life) → eqb other.0 cid.0 ≡ false → IsLived stage life
    here : IsLived stage first

  begun_lived : (other : Cid) (first life : Life) (s n : Option Stage) → (n ≡ s) ⊎ IsBegun other first n → eqb other.0 cid.0 ≡ false → IsLived s life → IsLived n life
  begun_lived other first life s n (inl same) never p = same_lived s n life same p
  begun_lived other first life s n (inr begun) never p = begun.elsewhere life never

  none_lived : (s : Option Stage) (life first : Life) → IsUnused life → IsLived s life → IsLived s first
  none_lived None life first none p = tt
  none_lived (Some (Dialing id)) life first none p = λ is. absurd (subst IsUnused (p is) none)
  none_lived (Some (Announcing said)) life first none p = tt
  none_lived (Some (Waiting addr)) life first none p = tt
  none_lived (Some Told) life first none p = tt
  none_lived (Some (Open id)) life first none p = λ is. absurd (subst IsUnused (p is) none)
  none_lived (Some Closing) life first none p = tt

  first_lived : (other : Cid) (first life : Life) (s n : Option Stage) → (n ≡ s) ⊎ IsBegun other first n → IsUnused life → IsLived s life → IsLived n first
  first_lived other first life s n (inl same) none p = same_lived s n first same (none_lived s life first none p)
  first_lived other first life s n (inr begun) none p = begun.here

  uses_own : (other : Cid) (first life after : Life) (old new : SocketFlow) → IsUnused life → IsRight first → after ≡ first → ((k : ℕ) → (stage_at new.table k ≡ stage_at old.table k) ⊎ IsBegun other first (stage_at new.table k))
      → Fits old life → Fits new after
  uses_own other first life after old new none right e begun (inl reused) = absurd (subst IsUnused reused none)
  uses_own other first life after old new none right e begun (inr own) =
      subst (λ x. Fits new x) (sym e) (inr (record { right = right; sockets = λ k. first_lived other first life (stage_at old.table k) (stage_at new.table k) (begun k) none (own.sockets k) }))

  right_of : (flow : SocketFlow) (life : Life) → Fits flow life → IsRight life
  right_of flow life (inl reused) = subst IsRight (sym reused) tt
  right_of flow life (inr own) = own.right

  uses : (life : Life) (other : Cid) (first : Life) (old new : SocketFlow) → IsRight first → new.events ≡ old.events → ((k : ℕ) → (stage_at new.table k ≡ stage_at old.table k) ⊎ IsBegun other first (stage_at new.table k))
      → Lives life old → Lives (used_as life first) new
  uses Unused other first old new right events begun f =
      let none = unused_none old.events (right_of old (lives Unused old.events) f) in
      uses_own other first (lives Unused old.events) (lives first new.events) old new (subst IsUnused (sym (none Unused)) tt) right (ap (λ q. lives first q) events ∙ none first) begun f
  uses Unanswered other first old new right events begun f = inl (lives_reused new.events)
  uses Talking other first old new right events begun f = inl (lives_reused new.events)
  uses Over other first old new right events begun f = inl (lives_reused new.events)
  uses Reused other first old new right events begun f = inl (lives_reused new.events)
  uses Wrong other first old new right events begun f = absurd (subst IsRight (lives_wrong old.events) (right_of old (lives Wrong old.events) f))

  uses_if : (test : Bool) (life : Life) (other : Cid) (first : Life) (old new : SocketFlow) → eqb other.0 cid.0 ≡ test → IsRight first → new.events ≡ old.events
      → ((k : ℕ) → (stage_at new.table k ≡ stage_at old.table k) ⊎ IsBegun other first (stage_at new.table k)) → Lives life old → Lives (cond test (used_as life first) life) new
  uses_if true life other first old new is right events begun f = uses life other first old new right events begun f
  uses_if false life other first old new is right events begun f =
      stays life old new events (λ k x p. begun_lived other first x (stage_at old.table k) (stage_at new.table k) (begun k) is p) f

  dial_begun : (s : Option Stage) (other : Cid) → IsDialingAs other s → IsBegun other Unanswered s
  dial_begun None other p = absurd p
  dial_begun (Some (Dialing id)) other p = record { elsewhere = λ life never is. false_true (eqb other.0 cid.0) never (ap (λ c. eqb c.0 cid.0) (sym p) ∙ is); here = λ is. refl }
  dial_begun (Some (Announcing said)) other p = absurd p
  dial_begun (Some (Waiting addr)) other p = absurd p
  dial_begun (Some Told) other p = absurd p
  dial_begun (Some (Open id)) other p = absurd p
  dial_begun (Some Closing) other p = absurd p

  dial_begins : (k0 k : ℕ) (test : Bool) (other : Cid) (addr : Addr) (old new : SocketFlow) → eqb k0 k ≡ test → DialsAt old new k0 other addr → (stage_at new.table k ≡ stage_at old.table k) ⊎ IsBegun other Unanswered (stage_at new.table k)
  dial_begins k0 k true other addr old new is p = inr (dial_begun (stage_at new.table k) other (subst (λ j. IsDialingAs other (stage_at new.table j)) (eqb-true k0 k is) p.stage))
  dial_begins k0 k false other addr old new is p = inl (ap stage_of (p.others k is))

  dials_life : (free : Bool) (life : Life) (k0 : ℕ) (other : Cid) (addr : Addr) (old new : SocketFlow) → MatchBool free (DialsAt old new k0 other addr) (KeepsAll old new) → Lives life old
      → Lives (after_action cid life (Dial other addr)) new
  dials_life true life k0 other addr old new p f = uses_if (eqb other.0 cid.0) life other Unanswered old new refl tt p.events (λ k. dial_begins k0 k (eqb k0 k) other addr old new refl p) f
  dials_life false life k0 other addr old new p f = uses_if (eqb other.0 cid.0) life other Unanswered old new refl tt p.events (λ k. inl (p.sockets.talk k).1) f

  admit_begun : (s : Option Socket) (n : Option Stage) (other : Cid) → IsOpenAs other s n → (n ≡ stage_of s) ⊎ IsBegun other Talking n
  admit_begun None n other p = inl p
  admit_begun (Some socket) None other p = absurd p
  admit_begun (Some socket) (Some (Dialing id)) other p = absurd p
  admit_begun (Some socket) (Some (Announcing said)) other p = absurd p
  admit_begun (Some socket) (Some (Waiting addr)) other p = absurd p
  admit_begun (Some socket) (Some Told) other p = absurd p
  admit_begun (Some socket) (Some (Open id)) other p = inr (record { elsewhere = λ life never is. false_true (eqb other.0 cid.0) never (ap (λ c. eqb c.0 cid.0) (sym p) ∙ is); here = λ is. refl })
  admit_begun (Some socket) (Some Closing) other p = absurd p

  admit_begins : (k0 k : ℕ) (test : Bool) (other : Cid) (old new : SocketFlow) → eqb k0 k ≡ test → IsOpened old new k0 other → (stage_at new.table k ≡ stage_at old.table k) ⊎ IsBegun other Talking (stage_at new.table k)
  admit_begins k0 k true other old new is p = admit_begun (socket_at old.table k) (stage_at new.table k) other (subst (λ j. IsOpenAs other (socket_at old.table j) (stage_at new.table j)) (eqb-true k0 k is) p.stage)
  admit_begins k0 k false other old new is p = inl (ap stage_of (p.others k is))

  opens_life : (c : Option ℕ) (life : Life) (other : Cid) (addr : Addr) (old new : SocketFlow) → OpensOn old new c other → Lives life old → Lives (after_action cid life (Admit other addr)) new
  opens_life None life other addr old new p f = uses_if (eqb other.0 cid.0) life other Talking old new refl tt p.events (λ k. inl (p.sockets.talk k).1) f
  opens_life (Some k0) life other addr old new p f = uses_if (eqb other.0 cid.0) life other Talking old new refl tt p.events (λ k. admit_begins k0 k (eqb k0 k) other old new refl p) f

  admits_life : (free : Bool) (life : Life) (other : Cid) (addr : Addr) (old new : SocketFlow) → MatchBool free (OpensOn old new old.caller other) (KeepsAll old new) → Lives life old
      → Lives (after_action cid life (Admit other addr)) new
  admits_life true life other addr old new p f = opens_life old.caller life other addr old new p f
  admits_life false life other addr old new p f = uses_if (eqb other.0 cid.0) life other Talking old new refl tt p.events (λ k. inl (p.sockets.talk k).1) f

  -- ---- what the node does

  sends_life : (greeting : List ℕ) (much : Bool) (life : Life) (k : ℕ) (bytes : List ℕ) (old new : SocketFlow) → MatchBool much (Loses k old new) (PutsOn old new k bytes) → Orderly greeting old → Lives life old → Lives life new
  sends_life greeting true life k bytes old new p o f = loses_life greeting life k old new p o f
  sends_life greeting false life k bytes old new p o f = stays life old new p.rest.events (λ j x. same_lived (stage_at old.table j) (stage_at new.table j) x (p.stages j)) f

  sends_on : (greeting : List ℕ) (c : Option ℕ) (life : Life) (bytes : List ℕ) (old new : SocketFlow) → SendsOn old new c bytes → Orderly greeting old → Lives life old → Lives life new
  sends_on greeting None life bytes old new p o f = keeps_all life old new p f
  sends_on greeting (Some k) life bytes old new p o f = sends_life greeting (nat_lt 67108864 (min (old.unsent + length bytes) (2 ^ 64 - 1))) life k bytes old new p o f

  closing_lived : (n : Option Stage) (x : Life) → IsClosing n → IsLived n x
  closing_lived None x p = tt
  closing_lived (Some (Dialing id)) x p = absurd p
  closing_lived (Some (Announcing said)) x p = absurd p
  closing_lived (Some (Waiting addr)) x p = absurd p
  closing_lived (Some Told) x p = absurd p
  closing_lived (Some (Open id)) x p = absurd p
  closing_lived (Some Closing) x p = tt

  closed_lived : (linked : Bool) (s n : Option Stage) (x : Life) → MatchBool linked (IsClosing n) (n ≡ s) → IsLived s x → IsLived n x
  closed_lived true s n x p q = closing_lived n x p
  closed_lived false s n x p q = same_lived s n x p q

  closes_each : (k0 k : ℕ) (test : Bool) (other : Cid) (old new : SocketFlow) (x : Life) → eqb k0 k ≡ test → ClosesAt old new k0 other → IsLived (stage_at old.table k) x → IsLived (stage_at new.table k) x
  closes_each k0 k true other old new x is p q =
      closed_lived (is_linked (stage_at old.table k)) (stage_at old.table k) (stage_at new.table k) x
      (subst (λ j. MatchBool (is_linked (stage_at old.table j)) (IsClosing (stage_at new.table j)) (stage_at new.table j ≡ stage_at old.table j)) (eqb-true k0 k is) p.stage) q
  closes_each k0 k false other old new x is p q = same_lived (stage_at old.table k) (stage_at new.table k) x (ap stage_of (p.others k is)) q

  closes_on : (c : Option ℕ) (life : Life) (other : Cid) (old new : SocketFlow) → ClosesOn old new c other → Lives life old → Lives life new
  closes_on None life other old new p f = keeps_all life old new p f
  closes_on (Some k0) life other old new p f = stays life old new p.events (λ k x. closes_each k0 k (eqb k0 k) other old new x refl p) f

  untouched : (life : Life) (old new : SocketFlow) (more : List Event) → new.table ≡ old.table → new.events ≡ old.events ++ more → IsNone more → Lives life old → Lives life new
  untouched life old new more table events none f = moves life old new more events none (λ k x. same_lived (stage_at old.table k) (stage_at new.table k) x (ap (λ t. stage_at t k) table)) f

  answers_none : (test : Bool) (event : Event) → IsNone (event ∷ []) → IsNone (cond test (event ∷ []) [])
  answers_none true event none = none
  answers_none false event none = λ life. refl

  roots_none : (roots : Roots) (job : Job) → IsNone (answers roots job)
  roots_none roots job = answers_none (nat_le job.0 (2 ^ 48)) _ (λ life. refl)

  does : (greeting : List ℕ) (action : Action) (life : Life) (old new : SocketFlow) → Does action old new → Orderly greeting old → Lives life old → Lives (after_action cid life action) new
  does greeting (Admit other addr) life old new p o f = admits_life (is_free old other.0) life other addr old new p f
  does greeting (Turnaway away) life old new p o f = may_lose_life greeting life old new p.1 o f
  does greeting (Dial other addr) life old new p o f = dials_life (is_free old other.0) life old.table.next_key other addr old new p f
  does greeting (Send other bytes) life old new p o f = sends_on greeting (key_at old.table other.0) life bytes old new p o f
  does greeting (Close other cause) life old new p o f = closes_on (key_at old.table other.0) life other old new p.2 f
  does greeting (Pause time) life old new p o f = untouched life old new [] (ap (λ x. x.table) p) (ap (λ x. x.events) p ∙ sym (append-nil old.events)) (λ x. refl) f
  does greeting (AskRoots job) life old new p o f = untouched life old new (answers old.roots job) (ap (λ x. x.table) p) (ap (λ x. x.events) p) (roots_none old.roots job) f
  does greeting (State other name) life old new p o f = untouched life old new [] (ap (λ x. x.table) p) (ap (λ x. x.events) p ∙ sym (append-nil old.events)) (λ x. refl) f
  does greeting (Peer addr note) life old new p o f = untouched life old new [] (ap (λ x. x.table) p) (ap (λ x. x.events) p ∙ sym (append-nil old.events)) (λ x. refl) f

  -- ---- what is asked for

  told_lived : (k0 k : ℕ) (test : Bool) (event : Event) (old new : SocketFlow) (p : IsNextCaller old new event) (x : Life) → eqb p.key k ≡ test → IsLived (stage_at old.table k) x → IsLived (stage_at new.table k) x
  told_lived k0 k true event old new p x is q = subst (λ s. IsLived s x) (sym (subst (λ j. stage_at new.table j ≡ Some Told) (eqb-true p.key k is) p.now_told)) tt
  told_lived k0 k false event old new p x is q = same_lived (stage_at old.table k) (stage_at new.table k) x (p.others k is) q

  gives : (event : Event) (life : Life) (old new : SocketFlow) → IsFirst old new event ⊎ IsNextCaller old new event → Lives life old → Lives (after_event cid life event) new
  gives event life old new (inl p) f =
      fits_then old new (lives life old.events) (lives (after_event cid life event) new.events) (sym (ap (λ q. lives life q) p.first))
      (λ k. same_lived (stage_at old.table k) (stage_at new.table k) (lives life old.events) (p.sockets.talk k).1) f
  gives event life old new (inr p) f =
      subst (λ x. Lives x new) (sym (ap (λ e. after_event cid life e) p.told))
      (stays life old new (p.left ∙ sym p.none) (λ k x. told_lived p.key k (eqb p.key k) event old new p x refl) f)

  asks : (ask : Ask) (life : Life) (old new : SocketFlow) → Asks old new ask → Lives life old → Lives (after_given cid life ask) new
  asks (CloseSocket k) life old new p f = keeps_all life old new p.0 f
  asks (Connect k addr) life old new p f = keeps_all life old new p.0 f
  asks (Check k) life old new p f = keeps_all life old new p.0 f
  asks (Write k) life old new p f = keeps_all life old new p.0 f
  asks Accept life old new p f = keeps_all life old new p.0 f
  asks (Read k most) life old new p f = keeps_all life old new p.0 f
  asks (Give event) life old new p f = gives event life old new p f
  asks Govern life old new p f = keeps_all life old new p.0 f
  asks (Wait time) life old new p f = keeps_all life old new p.0 f

  -- ---- bytes come and go

  heard_lived : (socket : Socket) (more : List ℕ) (heard : Heard) (x : Life) → IsLived (stage_of (introduced (record socket { stage = Announcing more }) heard)) x
  heard_lived socket more Front x = tt
  heard_lived socket more (Whole addr) x = tt
  heard_lived socket more Else x = tt

  comes_lived : (socket : Socket) (stage : Stage) (bytes : List ℕ) (x : Life) → IsLived (Some socket.stage) x → IsLived (stage_of (heard_on socket stage bytes)) x
  comes_lived socket (Dialing id) bytes x p = p
  comes_lived socket (Announcing said) bytes x p = heard_lived socket (said ++ bytes) (hearing (said ++ bytes)) x
  comes_lived socket (Waiting addr) bytes x p = p
  comes_lived socket Told bytes x p = p
  comes_lived socket (Open id) bytes x p = p
  comes_lived socket Closing bytes x p = p

  after_lived : (s : Option Socket) (bytes : List ℕ) (x : Life) → IsLived (stage_of s) x → IsLived (stage_of (after_bytes s bytes)) x
  after_lived None bytes x p = tt
  after_lived (Some socket) bytes x p = comes_lived socket socket.stage bytes x p

  over_lived : (socket : Socket) (stage : Stage) (out : List ℕ) (x : Life) → IsLived (Some socket.stage) x → IsLived (stage_of (unless_over socket stage out)) x
  over_lived socket (Dialing id) out x p = p
  over_lived socket (Announcing said) out x p = p
  over_lived socket (Waiting addr) out x p = p
  over_lived socket Told out x p = p
  over_lived socket (Open id) out x p = p
  over_lived socket Closing [] x p = tt
  over_lived socket Closing (byte ∷ out) x p = p

  going_lived : (s : Option Socket) (count : ℕ) (x : Life) → IsLived (stage_of s) x → IsLived (stage_of (after_going s count)) x
  going_lived None count x p = tt
  going_lived (Some socket) count x p = over_lived (record socket { out = gone_by socket.out count; has_taken = true; is_held = false }) socket.stage (gone_by socket.out count) x p

  blocked_lived : (socket : Socket) (stage : Stage) (x : Life) → IsLived (Some socket.stage) x → IsLived (stage_of (blocked socket stage)) x
  blocked_lived socket (Dialing id) x p = p
  blocked_lived socket (Announcing said) x p = p
  blocked_lived socket (Waiting addr) x p = p
  blocked_lived socket Told x p = p
  blocked_lived socket (Open id) x p = p
  blocked_lived socket Closing x p = tt

  full_lived : (s : Option Socket) (x : Life) → IsLived (stage_of s) x → IsLived (stage_of (after_full s)) x
  full_lived None x p = tt
  full_lived (Some socket) x p = blocked_lived socket socket.stage x p

  welcome_lived : (plain : Bool) (addr : Addr) (x : Life) → IsLived (Some (cond plain (Waiting addr) (Announcing []))) x
  welcome_lived true addr x = tt
  welcome_lived false addr x = tt

  -- bytes are told of a connection that is live
  coming_if : (test : Bool) (life : Life) → (life ≡ Reused) ⊎ (test ≡ true → life ≡ Talking) → cond test (after_coming life) life ≡ life
  coming_if true life (inl is) = ap after_coming is ∙ sym is
  coming_if true life (inr is) = ap after_coming (is refl) ∙ sym (is refl)
  coming_if false life either = refl

  came_at : (stage : Stage) (bytes : List ℕ) (life : Life) → (life ≡ Reused) ⊎ IsLived (Some stage) life → after_came cid life (told_bytes stage bytes) ≡ life
  came_at (Dialing id) bytes life p = refl
  came_at (Announcing said) bytes life p = refl
  came_at (Waiting addr) bytes life p = refl
  came_at Told bytes life p = refl
  came_at (Open id) bytes life p = coming_if (eqb id.cid.0 cid.0) life p
  came_at Closing bytes life p = refl

  came_of : (s : Option Socket) (bytes : List ℕ) (life : Life) → (life ≡ Reused) ⊎ IsLived (stage_of s) life → after_came cid life (told_of s bytes) ≡ life
  came_of None bytes life p = refl
  came_of (Some socket) bytes life p = came_at socket.stage bytes life p

  fits_at : (flow : SocketFlow) (k : ℕ) (life : Life) → Fits flow life → (life ≡ Reused) ⊎ IsLived (stage_at flow.table k) life
  fits_at flow k life (inl is) = inl is
  fits_at flow k life (inr own) = inr (own.sockets k)

  -- ---- a history

  -- where bytes may come, nothing else waits to be told
  abbrev pub IsSilent : Option (ℕ × ℕ) → SocketFlow → Type 0
  IsSilent None flow = Unit {0}
  IsSilent (Some reading) flow = flow.events ≡ []

  comes_life : (reading : Option (ℕ × ℕ)) (k : ℕ) (bytes : List ℕ) (event : Option Event) (life : Life) (old new : SocketFlow) → IsSilent reading old → IsWithin reading k bytes
      → Makes (BytesCame k bytes event) old new → Lives life old → Lives (after_came cid life event) new
  comes_life None k bytes event life old new silent within p f = absurd within
  comes_life (Some reading) k bytes event life old new silent within p f =
      let plain : Fits old life = subst (λ q. Fits old (lives life q)) silent f in
      subst (λ x. Lives x new) (sym (ap (λ e. after_came cid life e) p.0 ∙ came_of (socket_at old.table k) bytes life (fits_at old k life plain)))
      (stays life old new p.2.events (λ j x. put_lived k j (eqb k j) (after_bytes (socket_at old.table k) bytes) old new x refl (p.1 j) (after_lived (socket_at old.table k) bytes x)) f)

  news_none : (test : Bool) (event : Event) → IsNone (event ∷ []) → IsNone (cond test (event ∷ []) [])
  news_none true event none = none
  news_none false event none = λ life. refl

  pub step : (greeting : List ℕ) (call : Call) (reading : Option (ℕ × ℕ)) (life : Life) (old new : SocketFlow) → IsSilent reading old → MayCall reading call → Makes call old new → Orderly greeting old → Lives life old
      → Lives (after_call cid life call) new
  step greeting PeerWaits reading life old new silent may p o f = keeps_all life old new p f
  step greeting NobodyWaits reading life old new silent may p o f = keeps_all life old new p f
  step greeting PeerIsGone reading life old new silent may p o f = keeps_all life old new p f
  step greeting HasNoRoom reading life old new silent may p o f = keeps_all life old new p f
  step greeting (HasNoRoomToDial k addr) reading life old new silent may p o f = may_lose_life greeting life old new p o f
  step greeting (MayBeReady k writable) reading life old new silent may p o f = keeps_all life old new p f
  step greeting (RoundBegins moment) reading life old new silent may p o f =
      may_lose_life greeting life p.told new p.loses (keeps greeting old p.told p.sockets o)
      (keeps_sockets life old p.told (moments_told old.moments moment) p.last (news_none (is_news (reached old.moments moment)) _ (λ x. refl)) p.sockets f)
  step greeting (PeerCame addr k) reading life old new silent may p o f =
      stays life old new p.1 (λ j x. put_lived k j (eqb k j) (Some (newcomer old.greeting addr)) old new x refl (p.0 j) (λ q. welcome_lived (length old.greeting == 0) addr x)) f
  step greeting (DialCameTo k outcome) reading life old new silent may p o f = dialed_life greeting life k (stage_at old.table k) outcome old new refl p o f
  step greeting (BytesCame k bytes event) reading life old new silent may p o f = comes_life reading k bytes event life old new silent may p f
  step greeting (BytesWent k count bytes) reading life old new silent may p o f =
      stays life old new p.2.events (λ j x. put_lived k j (eqb k j) (after_going (socket_at old.table k) count) old new x refl (p.1 j) (going_lived (socket_at old.table k) count x)) f
  step greeting (TakesNoMore k) reading life old new silent may p o f =
      stays life old new p.1.events (λ j x. put_lived k j (eqb k j) (after_full (socket_at old.table k)) old new x refl (p.0 j) (full_lived (socket_at old.table k) x)) f
  step greeting (HasEnded k) reading life old new silent may p o f = loses_life greeting life k old new p o f
  step greeting (NodeDoes action) reading life old new silent may p o f = does greeting action life old new p o f
  step greeting (NodeAsks ask) reading life old new silent may p o f = asks ask life p.left new p.asks (may_lose_life greeting life old p.left p.loses o f)

  silent_asked : (ask : Ask) (old new : SocketFlow) → Asks old new ask → IsSilent (to_read_of ask) new
  silent_asked (CloseSocket k) old new p = tt
  silent_asked (Connect k addr) old new p = tt
  silent_asked (Check k) old new p = tt
  silent_asked (Write k) old new p = tt
  silent_asked Accept old new p = tt
  silent_asked (Read k most) old new p = p.2
  silent_asked (Give event) old new p = tt
  silent_asked Govern old new p = tt
  silent_asked (Wait time) old new p = tt

  pub silent_then : (call : Call) (old new : SocketFlow) → Makes call old new → IsSilent (to_read call) new
  silent_then PeerWaits old new p = tt
  silent_then NobodyWaits old new p = tt
  silent_then PeerIsGone old new p = tt
  silent_then HasNoRoom old new p = tt
  silent_then (HasNoRoomToDial k addr) old new p = tt
  silent_then (MayBeReady k writable) old new p = tt
  silent_then (RoundBegins moment) old new p = tt
  silent_then (PeerCame addr k) old new p = tt
  silent_then (DialCameTo k outcome) old new p = tt
  silent_then (BytesCame k bytes event) old new p = tt
  silent_then (BytesWent k count bytes) old new p = tt
  silent_then (TakesNoMore k) old new p = tt
  silent_then (HasEnded k) old new p = tt
  silent_then (NodeDoes action) old new p = tt
  silent_then (NodeAsks ask) old new p = silent_asked ask p.left new p.asks

  pub history : (greeting : List ℕ) (calls : List Call) (reading : Option (ℕ × ℕ)) (life : Life) (old last : SocketFlow) → IsSilent reading old → Runs reading calls old last → Orderly greeting old → Lives life old
      → IsRight (after_calls cid life calls)
  history greeting [] reading life old last silent runs o f = right_before life old.events (right_of old (lives life old.events) f)
  history greeting (call ∷ calls) reading life old last silent runs o f =
      history greeting calls (to_read call) (after_call cid life call) runs.1 last (silent_then call old runs.1 runs.2) runs.3 (makes greeting call old runs.1 runs.2 o)
      (step greeting call reading life old runs.1 silent runs.0 runs.2 o f)

pub at_unused : (cid : Cid) (terms : Terms) (first : SocketFlow) → Begins terms first → Lives cid Unused first
at_unused cid terms first begins =
    subst (λ q. Fits cid first (lives cid Unused q)) (sym begins.events)
    (inr (record { right = tt; sockets = λ k. subst (λ s. IsLived cid (stage_of s) Unused) (sym (begins.sockets k)) tt }))

pub lives_are_right : LivesAreRight
lives_are_right terms first last calls begins runs cid =
    history cid (greeting_by terms) calls None Unused first last tt runs (at_first terms first begins) (at_unused cid terms first begins)
