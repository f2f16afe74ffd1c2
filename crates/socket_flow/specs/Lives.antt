-- What a node is told of a connection from its beginning to its end, over whole histories.
use Rattle.std.specs.Prelude.{◌≡◌, ◌⊎◌, ℕ, Bool, true, false, eqb, List, [], ◌∷◌, if◌then◌else◌, Option, Some, None}
use Rattle.net_base.specs.declared.action.Action.{Action}
use Rattle.net_base.specs.declared.action.Action.TheVariants.{Admit, Dial}
use Rattle.net_base.specs.declared.connection.Cid.{Cid}
use Rattle.net_base.specs.declared.event.Event.{Event}
use Rattle.net_base.specs.declared.event.Event.TheVariants.{Dialed, Bytes, Closed}
use Rattle.socket_flow.specs.Histories.{Call, BytesCame, NodeDoes, NodeAsks, Runs, IsBytesOf, told_on}
use Rattle.socket_flow.specs.Talk.{Begins}
use Rattle.socket_flow.specs.declared.ask.Ask.{Ask}
use Rattle.socket_flow.specs.declared.ask.Ask.TheVariants.{Give}
use Rattle.socket_flow.specs.declared.flow.SocketFlow.{SocketFlow}
use Rattle.socket_flow.specs.declared.terms.Terms.{Terms}

-- how far the connection of an id has come, as the node knows it
pub data Life : Type 0 where
  -- nobody was dialed or let in as this
  Unused : Life
  -- its dial is to be answered, and nothing else is told of it before
  Unanswered : Life
  -- bytes may come, and its end
  Talking : Life
  -- nothing may come
  Over : Life
  -- the id was used once more: nothing is said of that
  Reused : Life
  -- the node was told what it may not be told
  Wrong : Life

abbrev pub after_answer : Life → Bool → Life
after_answer Unanswered true = Talking
after_answer Unanswered false = Over
after_answer Reused is_open = Reused
after_answer _ is_open = Wrong

abbrev pub after_coming : Life → Life
after_coming Talking = Talking
after_coming Reused = Reused
after_coming _ = Wrong

abbrev pub after_end : Life → Life
after_end Talking = Over
after_end Reused = Reused
after_end _ = Wrong

abbrev pub after_event : Cid → Life → Event → Life
after_event cid life (Dialed other is_open) = if eqb other.0 cid.0 then after_answer life is_open else life
after_event cid life (Bytes other bytes) = if eqb other.0 cid.0 then after_coming life else life
after_event cid life (Closed other) = if eqb other.0 cid.0 then after_end life else life
after_event cid life _ = life

-- the id is used
abbrev pub used_as : Life → Life → Life
used_as Unused first = first
used_as Wrong first = Wrong
used_as _ first = Reused

abbrev pub after_action : Cid → Life → Action → Life
after_action cid life (Dial other addr) = if eqb other.0 cid.0 then used_as life Unanswered else life
after_action cid life (Admit other addr) = if eqb other.0 cid.0 then used_as life Talking else life
after_action cid life _ = life

abbrev pub after_given : Cid → Life → Ask → Life
after_given cid life (Give event) = after_event cid life event
after_given cid life _ = life

abbrev pub after_came : Cid → Life → Option Event → Life
after_came cid life (Some event) = after_event cid life event
after_came cid life None = life

abbrev pub after_call : Cid → Life → Call → Life
after_call cid life (BytesCame key bytes event) = after_came cid life event
after_call cid life (NodeDoes action) = after_action cid life action
after_call cid life (NodeAsks ask) = after_given cid life ask
after_call cid life _ = life

abbrev pub after_calls : Cid → Life → List Call → Life
after_calls cid life [] = life
after_calls cid life (call ∷ calls) = after_calls cid (after_call cid life call) calls

abbrev pub IsRight : Life → Type 0
IsRight Wrong = ⊥
IsRight _ = Unit {0}

-- Of every history: what the node is told of a connection is right, from its first use on. A dial is answered once, before
-- anything else is told of it; the end is told once, and nothing behind it.
abbrev pub LivesAreRight : Type 0
LivesAreRight =
    (terms : Terms) (first last : SocketFlow) (calls : List Call) → Begins terms first → Runs None calls first last
    → (cid : Cid) → IsRight (after_calls cid Unused calls)

-- ---- one socket

-- the id was not used once more
abbrev pub IsFirstUse : Life → Type 0
IsFirstUse Reused = ⊥
IsFirstUse _ = Unit {0}

-- one of the events is bytes of this connection
abbrev pub IsToldOf : Cid → List Event → Type 0
IsToldOf cid [] = ⊥
IsToldOf cid (event ∷ events) = IsBytesOf cid event ⊎ IsToldOf cid events

-- Of every history in which no id is used once more: what is told of a connection came on one socket.
abbrev pub HasOneSocket : Type 0
HasOneSocket =
    (terms : Terms) (first last : SocketFlow) (calls : List Call) → Begins terms first → Runs None calls first last
    → (cid : Cid) → IsFirstUse (after_calls cid Unused calls)
    → (key other : ℕ) → IsToldOf cid (told_on key calls) → IsToldOf cid (told_on other calls) → key ≡ other
