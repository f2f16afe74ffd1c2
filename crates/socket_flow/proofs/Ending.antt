-- A socket that has ended is read no more, whatever is called.
use Rattle.std.proofs.Common.{◌≡◌, ◌≢◌, ◌⊎◌, ℕ, ◌+◌, ◌-◌, ◌^◌, ◌≤◌, min, nat_lt, Bool, true, false, cond, ◌||◌, eqb, MatchBool, List, [], ◌∷◌, ◌++◌, length, Option, Some, None, refl, sym, ap, subst, ◌∙◌, append_assoc, arith, inl, inr}
use Rattle.std.proofs.lemmas.Bool.{both_ways, eqb-true, eqb-false}
use Rattle.std.proofs.lemmas.List.{append-nil}
use Rattle.net_base.specs.declared.action.Action.{Action}
use Rattle.net_base.specs.declared.action.Action.TheVariants.{Admit, Turnaway, Dial, Send, Close, Pause, AskRoots, State, Peer}
use Rattle.net_base.specs.declared.address.Addr.{Addr}
use Rattle.net_base.specs.declared.connection.Cid.{Cid}
use Rattle.net_base.specs.declared.event.Event.{Event}
use Rattle.socket_flow.specs.Acting.{IsOpenAs, IsOpened, OpensOn, DialsAt, SendsOn, PutsOn, IsClosing, ClosesAt, ClosesOn, Does, is_free}
use Rattle.socket_flow.specs.Asks.{Asks, IsFirst, IsNextCaller, MayRead}
use Rattle.socket_flow.specs.Flow.{after_bytes, after_going, after_full, newcomer}
use Rattle.socket_flow.specs.Histories.{Call, PeerWaits, NobodyWaits, PeerIsGone, HasNoRoom, HasNoRoomToDial, MayBeReady, RoundBegins, PeerCame, DialCameTo, BytesCame, BytesWent, TakesNoMore, HasEnded, NodeDoes, NodeAsks, Makes, to_read, IsWithin, MayCall, Runs, if_on, came_by, came_on, event_if_on, told_by, told_on, is_accepted_by, is_accepted, EndedIsSilent}
use Rattle.socket_flow.specs.Table.{socket_at, key_at, stage_at, stage_of, is_linked}
use Rattle.socket_flow.specs.Talk.{KeepsSockets, KeepsAll, Loses, Losing, MayLose, TakesIn, IsDialed, Begins, greeting_by}
use Rattle.socket_flow.specs.declared.ask.Ask.{Ask}
use Rattle.socket_flow.specs.declared.ask.Ask.TheVariants.{Close as CloseSocket, Connect, Check, Write, Accept, Read, Give, Govern, Wait}
use Rattle.socket_flow.specs.declared.ask.Dialed.{Dialed as Outcome}
use Rattle.socket_flow.specs.declared.ask.Dialed.TheVariants.{NotYet, Connected, Failed}
use Rattle.socket_flow.specs.declared.flow.SocketFlow.{SocketFlow}
use Rattle.socket_flow.specs.declared.socket.Socket.{Socket}
use Rattle.socket_flow.specs.declared.socket.Stage.{Stage}
use Rattle.socket_flow.specs.declared.socket.Stage.TheVariants.{Dialing, Announcing, Waiting, Told, Open, Closing}
use Rattle.socket_flow.specs.declared.terms.Terms.{Terms}
use Rattle.socket_flow.specs.Sending.{written_on, EndedIsUnwritten}
use Rattle.socket_flow.proofs.Names.{Orderly, makes as stays_orderly, at_first as orderly_first}
use Rattle.socket_flow.proofs.Written.{history as foreseen}
use Rattle.socket_flow.proofs.Telling.{Follows, IsReady, gone_stands, went, full, reads_none, step, ready_then, or_again, at_first}

-- the key was given, and has no socket any more
record IsGone (key : ℕ) (flow : SocketFlow) : Type 0 where
  none : stage_at flow.table key ≡ None
  given : flow.table.next_key ≤ key → ⊥

stays_none : (s o : Option Stage) → (s ≡ None) ⊎ (s ≡ o) → o ≡ None → s ≡ None
stays_none s o (inl gone) none = gone
stays_none s o (inr same) none = same ∙ none

opens_none : (cid : Cid) (s : Option Socket) (n : Option Stage) → IsOpenAs cid s n → stage_of s ≡ None → n ≡ None
opens_none cid None n p none = p
opens_none cid (Some socket) n p none = absurd (gone_stands (stage_of (Some socket)) socket.stage none refl)

comes_none : (s : Option Socket) (bytes : List ℕ) → stage_of s ≡ None → stage_of (after_bytes s bytes) ≡ None
comes_none None bytes none = refl
comes_none (Some socket) bytes none = absurd (gone_stands (stage_of (Some socket)) socket.stage none refl)

closes_none : (linked : Bool) (s n : Option Stage) → is_linked s ≡ linked → MatchBool linked (IsClosing n) (n ≡ s) → s ≡ None → n ≡ None
closes_none true s n is p none = absurd (both_ways false refl (subst (λ x. is_linked x ≡ true) none is))
closes_none false s n is p none = p ∙ none

module _ (key : ℕ) where
  stays : (old new : SocketFlow) → new.table.next_key ≡ old.table.next_key → (stage_at old.table key ≡ None → stage_at new.table key ≡ None) → IsGone key old → IsGone key new
  stays old new next none g = record { none = none g.none; given = λ le. g.given (subst (λ n. n ≤ key) next le) }

  keeps : (old new : SocketFlow) → KeepsSockets old new → IsGone key old → IsGone key new
  keeps old new p g = stays old new p.keys.next (λ none. (p.talk key).1 ∙ none) g

  -- a socket that is put at a key is none where there was none
  put : (k : ℕ) (test : Bool) (old new : SocketFlow) (x : Option Socket) → eqb k key ≡ test → socket_at new.table key ≡ cond test x (socket_at old.table key)
      → (stage_at old.table k ≡ None → stage_of x ≡ None) → stage_at old.table key ≡ None → stage_at new.table key ≡ None
  put k true old new x is e still none = ap stage_of e ∙ still (subst (λ j. stage_at old.table j ≡ None) (sym (eqb-true k key is)) none)
  put k false old new x is e still none = ap stage_of e ∙ none

  loses : (k : ℕ) (old new : SocketFlow) → Loses k old new → IsGone key old → IsGone key new
  loses k old new p g = stays old new p.keys.next (put k (eqb k key) old new None refl (p.gone key) (λ none. refl)) g

  losing : (keys : List ℕ) (old new : SocketFlow) → Losing keys old new → IsGone key old → IsGone key new
  losing [] old new p g = keeps old new p.sockets g
  losing (k ∷ keys) old new p g = losing keys p.1 new p.4 (loses k p.0 p.1 p.3 (keeps old p.0 p.2.sockets g))

  may_lose : (old new : SocketFlow) → MayLose old new → IsGone key old → IsGone key new
  may_lose old new p g = losing p.gone old new p.losing g

  -- a socket that was there becomes another
  changes : (k : ℕ) (test : Bool) (stage : Stage) (old new : SocketFlow) → eqb k key ≡ test → stage_at old.table k ≡ Some stage
      → (eqb k key ≡ false → stage_at new.table key ≡ stage_at old.table key) → new.table.next_key ≡ old.table.next_key → IsGone key old → IsGone key new
  changes k true stage old new is was others next g =
      absurd (gone_stands (stage_at old.table key) stage g.none (subst (λ j. stage_at old.table j ≡ Some stage) (eqb-true k key is) was))
  changes k false stage old new is was others next g = stays old new next (λ none. others is ∙ none) g

  dialed : (k : ℕ) (stage : Option Stage) (outcome : Outcome) (old new : SocketFlow) → stage_at old.table k ≡ stage → IsDialed stage outcome k old new → IsGone key old → IsGone key new
  dialed k None outcome old new is p g = keeps old new p.sockets g
  dialed k (Some (Dialing id)) NotYet old new is p g = keeps old new p.sockets g
  dialed k (Some (Dialing id)) Connected old new is p g = changes k (eqb k key) (Dialing id) old new refl is (p.others key) p.keys.next g
  dialed k (Some (Dialing id)) Failed old new is p g = loses k old new p g
  dialed k (Some (Announcing said)) outcome old new is p g = keeps old new p.sockets g
  dialed k (Some (Waiting addr)) outcome old new is p g = keeps old new p.sockets g
  dialed k (Some Told) outcome old new is p g = keeps old new p.sockets g
  dialed k (Some (Open id)) outcome old new is p g = keeps old new p.sockets g
  dialed k (Some Closing) outcome old new is p g = keeps old new p.sockets g

  taken : (k : ℕ) (test : Bool) (old new : SocketFlow) → eqb k key ≡ test → TakesIn k old new → (eqb k key ≡ false → stage_at new.table key ≡ stage_at old.table key) → IsGone key old → IsGone key new
  taken k true old new is p others g =
      let here = eqb-true k key is in
      let first : old.table.next_key ≤ key = omega (arith, here, p.was) in
      absurd (g.given first)
  taken k false old new is p others g =
      let more : new.table.next_key ≤ key → old.table.next_key ≤ key = λ le. omega (arith, p.was, p.next, le) in
      record { none = others is ∙ g.none; given = λ le. g.given (more le) }

  opens_at : (k : ℕ) (test : Bool) (cid : Cid) (old new : SocketFlow) → eqb k key ≡ test → IsOpened old new k cid → IsGone key old → IsGone key new
  opens_at k true cid old new is p g =
      let here = eqb-true k key is in
      stays old new p.next (opens_none cid (socket_at old.table key) (stage_at new.table key) (subst (λ j. IsOpenAs cid (socket_at old.table j) (stage_at new.table j)) here p.stage)) g
  opens_at k false cid old new is p g = stays old new p.next (λ none. ap stage_of (p.others key is) ∙ none) g

  opens : (o : Option ℕ) (cid : Cid) (old new : SocketFlow) → OpensOn old new o cid → IsGone key old → IsGone key new
  opens None cid old new p g = keeps old new p.sockets g
  opens (Some k) cid old new p g = opens_at k (eqb k key) cid old new refl p g

  admits : (free : Bool) (cid : Cid) (old new : SocketFlow) → MatchBool free (OpensOn old new old.caller cid) (KeepsAll old new) → IsGone key old → IsGone key new
  admits true cid old new p g = opens old.caller cid old new p g
  admits false cid old new p g = keeps old new p.sockets g

  dials : (free : Bool) (k : ℕ) (cid : Cid) (addr : Addr) (old new : SocketFlow) → MatchBool free (DialsAt old new k cid addr) (KeepsAll old new) → IsGone key old → IsGone key new
  dials true k cid addr old new p g = taken k (eqb k key) old new refl p.taken (λ apart. ap stage_of (p.others key apart)) g
  dials false k cid addr old new p g = keeps old new p.sockets g

  sends_if : (much : Bool) (k : ℕ) (bytes : List ℕ) (old new : SocketFlow) → MatchBool much (Loses k old new) (PutsOn old new k bytes) → IsGone key old → IsGone key new
  sends_if true k bytes old new p g = loses k old new p g
  sends_if false k bytes old new p g = stays old new p.rest.keys.next (λ none. p.stages key ∙ none) g

  sends : (o : Option ℕ) (bytes : List ℕ) (old new : SocketFlow) → SendsOn old new o bytes → IsGone key old → IsGone key new
  sends None bytes old new p g = keeps old new p.sockets g
  sends (Some k) bytes old new p g = sends_if (nat_lt 67108864 (min (old.unsent + length bytes) (2 ^ 64 - 1))) k bytes old new p g

  closes_at : (k : ℕ) (test : Bool) (cid : Cid) (old new : SocketFlow) → eqb k key ≡ test → ClosesAt old new k cid → IsGone key old → IsGone key new
  closes_at k true cid old new is p g =
      stays old new p.keys.next (closes_none (is_linked (stage_at old.table key)) (stage_at old.table key) (stage_at new.table key) refl
      (subst (λ j. MatchBool (is_linked (stage_at old.table j)) (IsClosing (stage_at new.table j)) (stage_at new.table j ≡ stage_at old.table j)) (eqb-true k key is) p.stage)) g
  closes_at k false cid old new is p g = stays old new p.keys.next (λ none. ap stage_of (p.others key is) ∙ none) g

  closes : (o : Option ℕ) (cid : Cid) (old new : SocketFlow) → ClosesOn old new o cid → IsGone key old → IsGone key new
  closes None cid old new p g = keeps old new p.sockets g
  closes (Some k) cid old new p g = closes_at k (eqb k key) cid old new refl p g

  untouched : (old new : SocketFlow) → new.table ≡ old.table → IsGone key old → IsGone key new
  untouched old new table g = stays old new (ap (λ x. x.next_key) table) (λ none. ap (λ x. stage_at x key) table ∙ none) g

  does : (action : Action) (old new : SocketFlow) → Does action old new → IsGone key old → IsGone key new
  does (Admit cid addr) old new p g = admits (is_free old cid.0) cid old new p g
  does (Turnaway away) old new p g = may_lose old new p.1 g
  does (Dial cid addr) old new p g = dials (is_free old cid.0) old.table.next_key cid addr old new p g
  does (Send cid bytes) old new p g = sends (key_at old.table cid.0) bytes old new p g
  does (Close cid cause) old new p g = closes (key_at old.table cid.0) cid old new p.2 g
  does (Pause time) old new p g = untouched old new (ap (λ x. x.table) p) g
  does (AskRoots job) old new p g = untouched old new (ap (λ x. x.table) p) g
  does (State cid name) old new p g = untouched old new (ap (λ x. x.table) p) g
  does (Peer addr note) old new p g = untouched old new (ap (λ x. x.table) p) g

  gives : (event : Event) (old new : SocketFlow) → IsFirst old new event ⊎ IsNextCaller old new event → IsGone key old → IsGone key new
  gives event old new (inl p) g = keeps old new p.sockets g
  gives event old new (inr p) g = changes p.key (eqb p.key key) (Waiting p.addr) old new refl p.waits (p.others key) p.next g

  asks : (ask : Ask) (old new : SocketFlow) → Asks old new ask → IsGone key old → IsGone key new
  asks (CloseSocket k) old new p g = keeps old new p.0.sockets g
  asks (Connect k addr) old new p g = keeps old new p.0.sockets g
  asks (Check k) old new p g = keeps old new p.0.sockets g
  asks (Write k) old new p g = keeps old new p.0.sockets g
  asks Accept old new p g = keeps old new p.0.sockets g
  asks (Read k most) old new p g = keeps old new p.0.sockets g
  asks (Give event) old new p g = gives event old new p g
  asks Govern old new p g = keeps old new p.0.sockets g
  asks (Wait time) old new p g = keeps old new p.0.sockets g

  makes : (call : Call) (old new : SocketFlow) → Makes call old new → IsGone key old → IsGone key new
  makes PeerWaits old new p g = keeps old new p.sockets g
  makes NobodyWaits old new p g = keeps old new p.sockets g
  makes PeerIsGone old new p g = keeps old new p.sockets g
  makes HasNoRoom old new p g = keeps old new p.sockets g
  makes (HasNoRoomToDial k addr) old new p g = may_lose old new p g
  makes (MayBeReady k writable) old new p g = keeps old new p.sockets g
  makes (RoundBegins moment) old new p g = may_lose p.told new p.loses (keeps old p.told p.sockets g)
  makes (PeerCame addr k) old new p g = taken k (eqb k key) old new refl p.3 (λ apart. ap stage_of (subst (λ test. socket_at new.table key ≡ cond test (Some (newcomer old.greeting addr)) (socket_at old.table key)) apart (p.0 key))) g
  makes (DialCameTo k outcome) old new p g = dialed k (stage_at old.table k) outcome old new refl p g
  makes (BytesCame k bytes event) old new p g =
      stays old new p.2.keys.next (put k (eqb k key) old new (after_bytes (socket_at old.table k) bytes) refl (p.1 key) (comes_none (socket_at old.table k) bytes)) g
  makes (BytesWent k count bytes) old new p g =
      stays old new p.2.keys.next (put k (eqb k key) old new (after_going (socket_at old.table k) count) refl (p.1 key)
      (stays_none (stage_of (after_going (socket_at old.table k) count)) (stage_at old.table k) (went [] key (socket_at old.table k) count))) g
  makes (TakesNoMore k) old new p g =
      stays old new p.1.keys.next (put k (eqb k key) old new (after_full (socket_at old.table k)) refl (p.0 key)
      (stays_none (stage_of (after_full (socket_at old.table k))) (stage_at old.table k) (full [] key (socket_at old.table k)))) g
  makes (HasEnded k) old new p g = loses k old new p g
  makes (NodeDoes action) old new p g = does action old new p g
  makes (NodeAsks ask) old new p g = asks ask p.left new p.asks (may_lose old p.left p.loses g)

  -- ---- a history

  no_bytes : (k : ℕ) (test : Bool) (reading : Option (ℕ × ℕ)) (bytes : List ℕ) (event : Option Event) (old : SocketFlow) → eqb k key ≡ test → IsReady [] key reading old → IsWithin reading k bytes
      → IsGone key old → (if_on test bytes ≡ []) × (event_if_on test event ≡ [])
  no_bytes k true None bytes event old is ready within g = absurd within
  no_bytes k true (Some reading) bytes event old is ready within g =
      let here : reading.0 ≡ key = sym within.0 ∙ eqb-true k key is in
      absurd (reads_none [] key (stage_at old.table key) reading.1 (subst (λ j. MayRead (stage_at old.table j) reading.1) here ready) g.none)
  no_bytes k false reading bytes event old is ready within g = (refl, refl)

  nothing_by : (call : Call) (reading : Option (ℕ × ℕ)) (old : SocketFlow) → IsReady [] key reading old → MayCall reading call → IsGone key old → (came_by key call ≡ []) × (told_by key call ≡ [])
  nothing_by PeerWaits reading old ready may g = (refl, refl)
  nothing_by NobodyWaits reading old ready may g = (refl, refl)
  nothing_by PeerIsGone reading old ready may g = (refl, refl)
  nothing_by HasNoRoom reading old ready may g = (refl, refl)
  nothing_by (HasNoRoomToDial k addr) reading old ready may g = (refl, refl)
  nothing_by (MayBeReady k writable) reading old ready may g = (refl, refl)
  nothing_by (RoundBegins moment) reading old ready may g = (refl, refl)
  nothing_by (PeerCame addr k) reading old ready may g = (refl, refl)
  nothing_by (DialCameTo k outcome) reading old ready may g = (refl, refl)
  nothing_by (BytesCame k bytes event) reading old ready may g = no_bytes k (eqb k key) reading bytes event old refl ready may g
  nothing_by (BytesWent k count bytes) reading old ready may g = (refl, refl)
  nothing_by (TakesNoMore k) reading old ready may g = (refl, refl)
  nothing_by (HasEnded k) reading old ready may g = (refl, refl)
  nothing_by (NodeDoes action) reading old ready may g = (refl, refl)
  nothing_by (NodeAsks ask) reading old ready may g = (refl, refl)

  silent : (calls : List Call) (reading : Option (ℕ × ℕ)) (old new : SocketFlow) → IsReady [] key reading old → Runs reading calls old new → IsGone key old → (came_on key calls ≡ []) × (told_on key calls ≡ [])
  silent [] reading old new ready runs g = (refl, refl)
  silent (call ∷ calls) reading old new ready runs g =
      let here = nothing_by call reading old ready runs.0 g in
      let rest = silent calls (to_read call) runs.1 new (ready_then [] key call old runs.1 runs.2) runs.3 (makes call old runs.1 runs.2 g) in
      (ap (λ x. x ++ came_on key calls) here.0 ∙ rest.0, ap (λ x. x ++ told_on key calls) here.1 ∙ rest.1)

  abbrev IsMet : Bool → List ℕ → Type 0
  IsMet acc c = (acc ≡ true) ⊎ (c ≢ [])

  met_given : (acc : Bool) (c : List ℕ) → IsMet (acc || false) (c ++ []) → acc ≡ false → c ≡ [] → ⊥
  met_given acc c (inl e) not_yet none = both_ways false refl (subst (λ x. (x || false) ≡ true) not_yet e)
  met_given acc c (inr some) not_yet none = some (append-nil c ∙ none)

  end_is_gone : (test : Bool) (s o : Option Socket) → eqb key key ≡ test → s ≡ cond test None o → stage_of s ≡ None
  end_is_gone true s o is e = ap stage_of e
  end_is_gone false s o is e = absurd (eqb-false key key is refl)

  -- the flow once the socket has ended
  record HasGone (greeting : List ℕ) (after : List Call) (last : SocketFlow) : Type 0 where
    flow : SocketFlow
    runs : Runs None after flow last
    orderly : Orderly greeting flow
    gone : IsGone key flow

  ends : (greeting : List ℕ) (before after : List Call) (reading : Option (ℕ × ℕ)) (old last : SocketFlow) (acc : Bool) (c : List ℕ) (t : List Event) → IsReady greeting key reading old
      → Runs reading (before ++ HasEnded key ∷ after) old last → Orderly greeting old → Follows greeting key old acc c t → IsMet (acc || is_accepted key before) (c ++ came_on key before) → HasGone greeting after last
  ends greeting [] after reading old last acc c t ready runs o f met = record {
    flow = runs.1;
    runs = runs.3;
    orderly = stays_orderly greeting (HasEnded key) old runs.1 runs.2 o;
    gone = record {
      none = end_is_gone (eqb key key) (socket_at runs.1.table key) (socket_at old.table key) refl (runs.2.gone key);
      given = λ le. let q = f.fresh (subst (λ n. n ≤ key) runs.2.keys.next le) in met_given acc c met q.0 q.1;
    };
  }
  ends greeting (call ∷ before) after reading old last acc c t ready runs o f met =
      ends greeting before after (to_read call) runs.1 last (acc || is_accepted_by key call) (c ++ came_by key call) (t ++ told_by key call) (ready_then greeting key call old runs.1 runs.2) runs.3
      (stays_orderly greeting call old runs.1 runs.2 o) (step greeting key call reading old runs.1 acc c t ready runs.0 runs.2 f)
      (subst (λ x. IsMet x ((c ++ came_by key call) ++ came_on key before)) (sym (or_again greeting key acc (is_accepted_by key call) (is_accepted key before)))
      (subst (λ x. IsMet (acc || is_accepted key (call ∷ before)) x) (sym (append_assoc c (came_by key call) (came_on key before))) met))

  gone_after : (terms : Terms) (first last : SocketFlow) (before after : List Call) → Begins terms first → Runs None (before ++ HasEnded key ∷ after) first last
      → (is_accepted key before ≡ true) ⊎ (came_on key before ≢ []) → HasGone (greeting_by terms) after last
  gone_after terms first last before after begins runs met =
      ends (greeting_by terms) before after None first last false [] [] tt runs (orderly_first terms first begins) (at_first terms first key begins) met

  silent_after : (greeting : List ℕ) (after : List Call) (last : SocketFlow) → HasGone greeting after last → (came_on key after ≡ []) × (told_on key after ≡ [])
  silent_after greeting after last h = silent after None h.flow last tt h.runs h.gone

  unwritten_after : (greeting : List ℕ) (after : List Call) (last : SocketFlow) → HasGone greeting after last → written_on key after ≡ []
  unwritten_after greeting after last h = ((foreseen greeting key after None h.flow last h.runs h.orderly).gone h.gone.given h.gone.none).0

pub ended_is_silent : EndedIsSilent
ended_is_silent terms first last before after key begins runs met = silent_after key (greeting_by terms) after last (gone_after key terms first last before after begins runs met)

pub ended_is_unwritten : EndedIsUnwritten
ended_is_unwritten terms first last before after key begins runs met = unwritten_after key (greeting_by terms) after last (gone_after key terms first last before after begins runs met)
