-- What an act does by its kind: an order of the governor, what changes the book, who becomes hot and who cools, when accepting pauses, and what is set.
use Rattle.std.specs.Prelude.{ℕ, ◌+◌, ◌≡◌, Bool, true, false, not, ◌&&◌, ◌||◌, nat_lt, List, [], ◌∷◌, All, is_some, ◌==◌, if◌then◌else◌, Option, Some, None}
use Rattle.laws.specs.Words.{flat_map, pause_of, is_acquirable, is_greeting, is_live, is_live_at, same_address, Order, Ask, Forget, Promote, Release, Activate, Deactivate, Action, Pause, Addr, Peer, Temp, Cold, Warm, Hot, Item, is_negotiated, Effect, Happened, promoted, activated, Machine, Entry, counted_in, entry_at, live_entry_at, peer_at}
use Rattle.laws.specs.Acts.{Act, shows, asks_for_roots, carries, connects, stores, handles_item, is_closed, sets_targets, sets_big_targets, sets_groups, sets_roots, makes_ordinary, provides_big}
use Rattle.laws.specs.RootsAsked.{are_roots_wanted, roots_asked}
use Rattle.laws.specs.AtMoves.{is_missed, FailsWhere, OnEntry, is_known}
use Rattle.laws.specs.BackOff.{WhereBoth, has_lost}

-- An order that promotes or activates is that one move, between the record before it and the one after it.
abbrev pub IsOneMove : Happened → Machine → Effect → Type 0
IsOneMove happened before effect = effect.moves ≡ record { happened = happened; before = before; after = effect.machine } ∷ []

abbrev pub OnPeer : Option Peer → (Peer → Type 0) → Type 0
OnPeer None law = Unit {0}
OnPeer (Some p) law = law p

-- A connection that is taken into use stands as it did but for that, so its grace runs on; and its peer is warm, and has no failures.
pub record IsReused (e : Entry) (after : Machine) : Type 0 where
  pub stands : OnEntry (entry_at e.facts.cid.0 after) (λ f. f.facts ≡ record e.facts { local = true })
  pub warm : OnPeer (peer_at e.facts.addr after) (λ p. p.temp ≡ Warm)
  pub forgiven : OnPeer (peer_at e.facts.addr after) (λ p. p.failures ≡ 0)

abbrev pub Reuses : Addr → Machine → Machine → Type 0
Reuses addr before after = (e : Entry) → live_entry_at addr before ≡ Some e → is_acquirable e.facts ≡ true → IsReused e after

-- A peer that is asked on its connection in use is asked again only after a while.
abbrev pub LeavesAlone : Addr → Machine → Machine → Type 0
LeavesAlone addr before after = (e : Entry) → live_entry_at addr before ≡ Some e → e.facts.local ≡ true →
    OnPeer (peer_at addr after) (λ p. p.share_next ≡ before.now + before.settings.sharegap)

-- no connection of an address is in local use
abbrev pub IsUsedByNobody : Addr → Machine → Type 0
IsUsedByNobody addr m = All (λ e. is_live_at addr e.facts ≡ true → e.facts.local ≡ false) m.connections

-- Where this node uses a connection with the peer, that comes to such a temperature.
abbrev pub Comes : Temp → Addr → Machine → Machine → Type 0
Comes temp addr before after = (e : Entry) → live_entry_at addr before ≡ Some e → e.facts.local ≡ true → OnPeer (peer_at addr after) (λ p. p.temp ≡ temp)

-- After a release nobody uses the address, and the peer is cold; after a deactivation it is warm; and one that is forgotten is not
-- known.
abbrev pub IsCarriedOut : Order → Machine → Effect → Type 0
IsCarriedOut (Ask addr n) before effect = LeavesAlone addr before effect.machine
IsCarriedOut (Forget addr) before effect = is_known addr effect.machine ≡ false
IsCarriedOut (Promote addr) before effect = IsOneMove (promoted addr) before effect × Reuses addr before effect.machine
IsCarriedOut (Release addr) before effect = IsUsedByNobody addr effect.machine × Comes Cold addr before effect.machine
IsCarriedOut (Activate addr) before effect = IsOneMove (activated addr) before effect
IsCarriedOut (Deactivate addr) before effect = Comes Warm addr before effect.machine

abbrev pub IsDoneByOrder : Act → Machine → Effect → Type 0
IsDoneByOrder (carries order) before effect = IsCarriedOut order before effect
IsDoneByOrder other before effect = Unit {0}

abbrev pub WhereLive : Option Entry → (Entry → Type 0) → Type 0
WhereLive None law = Unit {0}
WhereLive (Some e) law = is_live e.facts ≡ true → law e

-- Who connects is no matter of the book, so a dial that is overwritten is no failure; nor is what is set, stored or asked.
-- Where the other side closes a live connection, its peer fails where it is missed.
abbrev pub TreatsBook : Act → Machine → Machine → Type 0
TreatsBook (shows t) before after = after.peers ≡ before.peers
TreatsBook asks_for_roots before after = after.peers ≡ before.peers
TreatsBook (connects addr) before after = after.peers ≡ before.peers
TreatsBook (stores entry undecoded) before after = after.peers ≡ before.peers
TreatsBook (sets_targets targets) before after = after.peers ≡ before.peers
TreatsBook (sets_big_targets targets) before after = after.peers ≡ before.peers
TreatsBook (sets_groups groups) before after = after.peers ≡ before.peers
TreatsBook (sets_roots roots) before after = after.peers ≡ before.peers
TreatsBook (is_closed cid) before after = WhereLive (entry_at cid.0 before) (λ e. FailsWhere (is_missed e.facts) e before after)
TreatsBook other before after = Unit {0}

-- ---- who stays in the book

abbrev pub is_forgotten_by : Order → Addr → Bool
is_forgotten_by (Forget addr) other = same_address addr other
is_forgotten_by order other = false

abbrev pub forgets : Act → Addr → Bool
forgets (carries order) addr = is_forgotten_by order addr
forgets other addr = false

-- Whoever is in the book stays in it, unless an order forgets it.
abbrev pub KeepsKnown : Act → Machine → Machine → Type 0
KeepsKnown act before after = (addr : Addr) → is_known addr before ≡ true → (is_known addr after || forgets act addr) ≡ true

-- ---- the class of a peer

-- a list of big ledger peers brings such ones, and all else ordinary ones
abbrev pub brings_class : Act → Bool → Bool
brings_class (provides_big addr) big = big
brings_class other big = not big

-- a member of a group becomes an ordinary peer
abbrev pub makes_one : Act → Bool
makes_one (makes_ordinary addr) = true
makes_one other = false

abbrev pub is_made_ordinary : Act → Addr → Bool
is_made_ordinary (makes_ordinary member) addr = same_address addr member
is_made_ordinary other addr = false

-- Whoever stays keeps the class, and whoever comes is of the class that is brought.
abbrev pub IsOfClass : Act → Option Peer → Option Peer → Type 0
IsOfClass act before None = Unit {0}
IsOfClass act None (Some q) = brings_class act q.big ≡ true
IsOfClass act (Some p) (Some q) = q.big ≡ p.big

pub record KeepsClass (act : Act) (before after : Machine) : Type 0 where
  pub class : (addr : Addr) → is_made_ordinary act addr ≡ false → IsOfClass act (peer_at addr before) (peer_at addr after)
  pub made : (addr : Addr) → is_made_ordinary act addr ≡ true → OnPeer (peer_at addr after) (λ p. p.big ≡ false)

-- ---- who becomes hot

abbrev pub WhereAnswered : Item → Option Entry → (Entry → Type 0) → Type 0
WhereAnswered item None law = Unit {0}
WhereAnswered item (Some e) law = is_negotiated e.facts ≡ true → (item.side == 0) ≡ false → item.id ≡ 2 → law e

-- A peer that has answered where the chains meet is hot, if its connection stands.
abbrev pub HeatsUp : Act → Machine → Machine → Type 0
HeatsUp (handles_item own item) before after =
    WhereAnswered item (entry_at own.0 before) (λ e. is_some (entry_at own.0 after) ≡ true → OnPeer (peer_at e.facts.addr after) (λ p. p.temp ≡ Hot))
HeatsUp other before after = Unit {0}

-- ---- who cools

-- One that is warm or hot becomes cold only where it may, and one that is hot becomes warm only where it may rest.
abbrev pub IsCooledBy : Bool → Bool → Temp → Temp → Type 0
IsCooledBy may may_rest Warm Cold = may ≡ true
IsCooledBy may may_rest Hot Cold = may ≡ true
IsCooledBy may may_rest Hot Warm = may_rest ≡ true
IsCooledBy may may_rest before after = Unit {0}

-- an order releases it
abbrev pub releases : Act → Addr → Bool
releases (carries (Release addr)) other = same_address other addr
releases act other = false

-- an order deactivates it
abbrev pub deactivates : Act → Addr → Bool
deactivates (carries (Deactivate addr)) other = same_address other addr
deactivates act other = false

-- Whoever is in use becomes cold only where an order releases it or its connection has gone, and one that is hot becomes warm only
-- where an order deactivates it.
abbrev pub CoolsOnly : Act → Machine → Machine → Type 0
CoolsOnly act before after = (addr : Addr) →
    WhereBoth (λ p q. IsCooledBy (releases act addr || has_lost addr before after) (deactivates act addr) p.temp q.temp) (peer_at addr before) (peer_at addr after)

-- ---- the pause

abbrev pub pauses_by : Action → List ℕ
pauses_by (Pause length) = length ∷ []
pauses_by other = []

abbrev pub pauses_in : List Action → List ℕ
pauses_in actions = flat_map pauses_by actions

-- Where an address is admitted and the soft limit is passed then, accepting pauses by how many are counted then.
abbrev pub pauses_due : Machine → Machine → List ℕ
pauses_due before after =
    if nat_lt before.next_id after.next_id && nat_lt after.settings.soft (counted_in after) then pause_of after.settings (counted_in after) ∷ [] else []

-- Nothing but a peer that connects brings a pause.
abbrev pub PausesRight : Act → Machine → Effect → Type 0
PausesRight (connects addr) before effect = pauses_in effect.actions ≡ pauses_due before effect.machine
PausesRight other before effect = pauses_in effect.actions ≡ []

-- ---- what is set

-- nothing
pub record IsUnset (before after : Machine) : Type 0 where
  pub now : after.now ≡ before.now
  pub settings : after.settings ≡ before.settings
  pub targets : after.targets ≡ before.targets
  pub big_targets : after.big_targets ≡ before.big_targets
  pub groups : after.groups ≡ before.groups
  pub roots : after.roots ≡ before.roots

-- What is set stands, and nothing else changes with it; and nothing else sets it.
abbrev pub IsSet : Act → Machine → Machine → Type 0
IsSet (shows t) before after = after ≡ record before { now = t }
IsSet (sets_targets targets) before after = after ≡ record before { targets = targets }
IsSet (sets_big_targets targets) before after = after ≡ record before { big_targets = targets }
IsSet (sets_groups groups) before after = after ≡ record before { groups = groups }
IsSet (sets_roots roots) before after = after ≡ record before { roots = roots }
IsSet asks_for_roots before after = after ≡ record before { roots = roots_asked (are_roots_wanted before) before.roots }
IsSet other before after = IsUnset before after

-- ---- a handshake that ends in use

abbrev pub WhereGreeting : Option Entry → (Entry → Type 0) → Type 0
WhereGreeting None law = Unit {0}
WhereGreeting (Some e) law = is_greeting e.facts ≡ true → law e

abbrev pub is_in_use : Option Entry → Bool
is_in_use None = false
is_in_use (Some e) = e.facts.local

-- Its peer has no failures.
abbrev pub Forgives : Act → Machine → Machine → Type 0
Forgives (handles_item own item) before after = WhereGreeting (entry_at own.0 before)
    (λ e. e.facts.local ≡ false → is_in_use (entry_at own.0 after) ≡ true → OnPeer (peer_at e.facts.addr after) (λ p. p.failures ≡ 0))
Forgives other before after = Unit {0}
