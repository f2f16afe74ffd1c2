-- What is written on a socket is what was sent to its connection, over whole histories.
use Rattle.std.specs.Prelude.{◌≡◌, ◌≢◌, ◌⊎◌, ℕ, true, eqb, List, [], ◌∷◌, ◌++◌, if◌then◌else◌, Option, Some, None}
use Rattle.net_base.specs.declared.action.Action.{Action}
use Rattle.net_base.specs.declared.action.Action.TheVariants.{Admit, Dial, Send}
use Rattle.net_base.specs.declared.connection.Cid.{Cid}
use Rattle.net_base.specs.declared.event.Event.{Event}
use Rattle.socket_flow.specs.Histories.{Call, BytesWent, HasEnded, NodeDoes, Runs, if_on, came_on, told_on, is_accepted, AreBytesOf}
use Rattle.socket_flow.specs.Talk.{Begins, greeting_by}
use Rattle.socket_flow.specs.declared.flow.SocketFlow.{SocketFlow}
use Rattle.socket_flow.specs.declared.terms.Terms.{Terms}

-- ---- what is written, and what is sent

abbrev pub written_by : ℕ → Call → List ℕ
written_by key (BytesWent other count bytes) = if_on (eqb other key) bytes
written_by key _ = []

-- all that was written on a socket
abbrev pub written_on : ℕ → List Call → List ℕ
written_on key [] = []
written_on key (call ∷ calls) = written_by key call ++ written_on key calls

abbrev pub sent_in : Cid → Action → List ℕ
sent_in cid (Send other bytes) = if_on (eqb other.0 cid.0) bytes
sent_in cid _ = []

abbrev pub sent_by : Cid → Call → List ℕ
sent_by cid (NodeDoes action) = sent_in cid action
sent_by cid _ = []

-- all that the node sends to a connection
abbrev pub sent_to : Cid → List Call → List ℕ
sent_to cid [] = []
sent_to cid (call ∷ calls) = sent_by cid call ++ sent_to cid calls

-- ---- the law

-- what a connection begins with, if this begins it: the announcement where the node dials, and nothing where it lets a peer in
abbrev pub opened_with : List ℕ → Cid → Action → Option (List ℕ)
opened_with greeting cid (Dial other addr) = if eqb other.0 cid.0 then Some greeting else None
opened_with greeting cid (Admit other addr) = if eqb other.0 cid.0 then Some [] else None
opened_with greeting cid _ = None

abbrev pub begun_with : List ℕ → Cid → Call → Option (List ℕ)
begun_with greeting cid (NodeDoes action) = opened_with greeting cid action
begun_with greeting cid _ = None

abbrev pub IsFront : List ℕ → List ℕ → Type 0
IsFront front whole = (rest : List ℕ) × (whole ≡ front ++ rest)

abbrev pub IsFrontOf : List ℕ → Option (List ℕ) → List ℕ → Type 0
IsFrontOf written (Some said) sent = IsFront written (said ++ sent)
IsFrontOf written None sent = ⊥

-- There is a call that begins the connection, and what was written is a front of what it begins with and of all that is sent
-- to it from then on, in this order.
abbrev pub IsSentSince : List ℕ → Cid → List ℕ → List Call → Type 0
IsSentSince greeting cid written [] = ⊥
IsSentSince greeting cid written (call ∷ calls) = IsFrontOf written (begun_with greeting cid call) (sent_to cid calls) ⊎ IsSentSince greeting cid written calls

-- A socket is that of one connection: of this one is told what came on it, and to this one was sent what is written on it.
pub record IsOfOne (greeting : List ℕ) (calls : List Call) (written : List ℕ) (told : List Event) : Type 0 where
  pub cid : Cid
  pub told_of : AreBytesOf cid told
  pub sent : IsSentSince greeting cid written calls

-- nothing is written on a socket, and nothing is told of it
abbrev pub IsIdle : List ℕ → List Event → Type 0
IsIdle written told = (written ≡ []) × (told ≡ [])

-- of every history, on every socket
abbrev pub WhatIsWrittenWasSent : Type 0
WhatIsWrittenWasSent =
    (terms : Terms) (first last : SocketFlow) (calls : List Call) → Begins terms first → Runs None calls first last
    → (key : ℕ) → IsIdle (written_on key calls) (told_on key calls) ⊎ IsOfOne (greeting_by terms) calls (written_on key calls) (told_on key calls)

-- Nothing is written on a socket that has ended. It is one whose peer connected, or on which bytes came.
abbrev pub EndedIsUnwritten : Type 0
EndedIsUnwritten =
    (terms : Terms) (first last : SocketFlow) (before after : List Call) (key : ℕ) → Begins terms first → Runs None (before ++ HasEnded key ∷ after) first last
    → (is_accepted key before ≡ true) ⊎ (came_on key before ≢ []) → written_on key after ≡ []
