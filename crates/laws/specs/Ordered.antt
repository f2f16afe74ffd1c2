-- Whom the governor may order what for: who is one too few or one too many, and whose turn it can be.
use Rattle.std.specs.Prelude.{ℕ, ◌-◌, ◌≡◌, ◌<◌, ◌≤◌, min, Bool, true, false, not, ◌&&◌, ◌||◌, All, Option, Some, None, is_some}
use Rattle.laws.specs.Words.{agreed_sharing, is_acquirable, is_pending, Order, Ask, Forget, Promote, Release, Activate, Deactivate, Addr, Peer, Cold, Warm, Hot, is_established, is_active, known_of, established_of, active_of, is_listed, Machine, Entry, peer_at, reply_on}
use Rattle.laws.specs.AtMoves.{some_connection, number_with, members_with, known_wanted, established_wanted, active_wanted}
use Rattle.laws.specs.Laws.{is_local}

-- ---- what a connection with a peer is

abbrev pub is_any : Entry → Bool
is_any e = true

-- the peer has not answered yet when it was asked to become hot
abbrev pub is_to_answer : Entry → Bool
is_to_answer e = is_some (reply_on 2 e)

-- it has not answered yet when it was asked for addresses
abbrev pub is_to_tell : Entry → Bool
is_to_tell e = is_some (reply_on 10 e)

-- something is awaited of it
abbrev pub is_awaited : Entry → Bool
is_awaited e = is_some (reply_on 2 e) || is_some (reply_on 8 e) || is_some (reply_on 10 e)

-- in use, and peer sharing was agreed on and is awaited of nobody there
abbrev pub can_tell : Entry → Bool
can_tell e = e.facts.local && agreed_sharing e.facts.agreed && not (is_some (reply_on 10 e))

abbrev pub tells_soon : Machine → Peer → Bool
tells_soon m p = some_connection is_to_tell p.addr m

abbrev pub is_hot : Machine → Peer → Bool
is_hot m p = is_active p.temp

-- ---- one too many

-- More of its class are known than wanted, and it is cold, and not on its way. An ordinary one is no local peer, and no public
-- root: those stay until a new answer.
pub record MayBeForgotten (addr : Addr) (p : Peer) (m : Machine) : Type 0 where
  pub cold : p.temp ≡ Cold
  pub idle : some_connection (λ e. is_pending e.facts) addr m ≡ false
  pub spared : (p.big || not (is_local m.groups addr || is_listed addr m.roots.publics)) ≡ true
  pub surplus : known_wanted p.big m < known_of p.big m.peers

-- More of its class are established than wanted, and it is warm, and nothing is awaited of it. An ordinary one is no local peer.
pub record MayBeReleased (addr : Addr) (p : Peer) (m : Machine) : Type 0 where
  pub warm : p.temp ≡ Warm
  pub settled : some_connection is_awaited addr m ≡ false
  pub spared : (p.big || not (is_local m.groups addr)) ≡ true
  pub surplus : established_wanted p.big m < established_of p.big m.peers

-- It is hot, and more are hot than wanted: of its class where it is no local peer, of its group where it is one.
pub record MayBeDeactivated (addr : Addr) (p : Peer) (m : Machine) : Type 0 where
  pub hot : p.temp ≡ Hot
  pub by_target : (p.big || not (is_local m.groups addr)) ≡ true → active_wanted p.big m < active_of p.big m.peers
  pub by_valency : p.big ≡ false → All (λ group. is_listed addr group.members ≡ true → group.hot < members_with is_hot group m) m.groups

-- ---- one too few, as the moves say

-- It is cold, and not on its way, and a connection with it can be taken into use or there is none, be it closed.
pub record MayBePromoted (addr : Addr) (p : Peer) (m : Machine) : Type 0 where
  pub cold : p.temp ≡ Cold
  pub idle : some_connection (λ e. is_pending e.facts) addr m ≡ false
  pub free : (not (some_connection is_any addr m) || some_connection (λ e. is_acquirable e.facts) addr m) ≡ true

-- It is warm, and was not asked to become hot.
pub record MayBeActivated (addr : Addr) (p : Peer) (m : Machine) : Type 0 where
  pub warm : p.temp ≡ Warm
  pub unasked : some_connection is_to_answer addr m ≡ false

-- Fewer ordinary peers are known than wanted, and it is an established one that can tell and may be asked again. It is asked for
-- as many as are wanted, up to ten; and fewer are asked than may be at a time.
pub record MayBeAsked (addr : Addr) (n : ℕ) (p : Peer) (m : Machine) : Type 0 where
  pub ordinary : p.big ≡ false
  pub established : is_established p.temp ≡ true
  pub shares : some_connection can_tell addr m ≡ true
  pub again : p.share_next ≤ m.now
  pub missing : known_of false m.peers < known_wanted false m
  pub number : n ≡ min (known_wanted false m - known_of false m.peers) 10
  pub few : number_with tells_soon false m < m.settings.shares

-- ---- each order

-- there is one, and a law holds of it
abbrev pub IsOne : Option Peer → (Peer → Type 0) → Type 0
IsOne None law = ⊥
IsOne (Some p) law = law p

abbrev pub IsDueOrder : Order → Machine → Type 0
IsDueOrder (Ask addr n) m = IsOne (peer_at addr m) (λ p. MayBeAsked addr n p m)
IsDueOrder (Forget addr) m = IsOne (peer_at addr m) (λ p. MayBeForgotten addr p m)
IsDueOrder (Promote addr) m = IsOne (peer_at addr m) (λ p. MayBePromoted addr p m)
IsDueOrder (Release addr) m = IsOne (peer_at addr m) (λ p. MayBeReleased addr p m)
IsDueOrder (Activate addr) m = IsOne (peer_at addr m) (λ p. MayBeActivated addr p m)
IsDueOrder (Deactivate addr) m = IsOne (peer_at addr m) (λ p. MayBeDeactivated addr p m)
