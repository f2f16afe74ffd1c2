-- What holds in every record that a run of the whole machine reaches.
use Rattle.std.specs.Prelude.{ℕ, ◌+◌, ◌≡◌, ◌<◌, ◌≤◌, true, false, not, ◌||◌, List, [], ◌∷◌, length, All, AllPairs, Option, Some, None, is_some}
use Rattle.laws.specs.Words.{AllByRecursion, same_address, Addr, Peer, members_of, Facts, Off, Warm, is_established, most_peers, agreed_sharing, is_dialing, is_duplex, is_for_local, is_for_remote, is_negotiated, is_outbound, is_pending, some_runs, Machine, Entry, live_entry_at, peer_at, reply_on, is_owed_on}
use Rattle.laws.specs.Laws.{LocalsAreOrdinary}
use Rattle.laws.specs.Sound.{IsOrderly, IsSound}

-- ---- the facts of one connection

-- nobody uses it, and it is kept for nobody
pub record IsUnused (f : Facts) : Type 0 where
  pub agreed : f.agreed ≡ None
  pub local : f.local ≡ false
  pub running : some_runs f.running ≡ false
  pub grace : f.grace ≡ Off

-- which facts go together
pub record IsShaped (f : Facts) : Type 0 where
  -- outside the negotiated phase it is unused
  pub unused : is_negotiated f ≡ false → IsUnused f
  -- only this side dials
  pub dialing : is_dialing f ≡ true → is_outbound f ≡ true
  -- while a responder runs no grace does
  pub remote : some_runs f.running ≡ true → f.grace ≡ Off
  -- it is kept for this side only while this side does not use it
  pub kept : f.local ≡ true → is_for_local f.grace ≡ false
  -- one that nobody uses is kept for one side
  pub idle : is_negotiated f ≡ true → f.local ≡ false → some_runs f.running ≡ false → (is_for_remote f.grace || is_for_local f.grace) ≡ true
  -- only where the other side may use it, it does, or it is kept for it
  pub serves_remote : (some_runs f.running || is_for_remote f.grace) ≡ true → (not (is_outbound f) || is_duplex f) ≡ true
  -- only where this side may use it, it does
  pub serves_local : f.local ≡ true → (is_outbound f || is_duplex f) ≡ true

abbrev pub AreShaped : Machine → Type 0
AreShaped m = All (λ e. IsShaped e.facts) m.connections

-- ---- what is owed on a connection

pub record IsOwing (e : Entry) : Type 0 where
  pub protocols : All (λ o. is_owed_on o.protocol ≡ true) e.owed
  -- in order of protocol, so at most one on each
  pub rises : AllPairs (λ o q. o.protocol < q.protocol) e.owed
  -- only while this side uses the connection
  pub used : e.facts.local ≡ false → e.owed ≡ []
  -- on peer-sharing only where that was agreed on
  pub shares : is_some (reply_on 10 e) ≡ true → agreed_sharing e.facts.agreed ≡ true

-- ---- peers and groups

-- no two peers have one address
abbrev pub ArePeersApart : List Peer → Type 0
ArePeersApart [] = Unit {0}
ArePeersApart (p ∷ ps) = AllByRecursion (λ q. same_address q.addr p.addr ≡ false) ps × ArePeersApart ps

-- no address is in two groups
abbrev pub AreApart : List Addr → Type 0
AreApart [] = Unit {0}
AreApart (a ∷ addrs) = AllByRecursion (λ b. same_address b a ≡ false) addrs × AreApart addrs

-- ---- a peer and the live connection of its address

pub record AreTied (now : ℕ) (p : Peer) (e : Entry) : Type 0 where
  -- the peer is established exactly where the connection is in local use
  pub established : is_established p.temp ≡ e.facts.local
  -- a peer that is used, or on its way to it, is out of its back-off
  pub in_use : e.facts.local ≡ true → p.not_before ≤ now
  pub on_its_way : is_pending e.facts ≡ true → p.not_before ≤ now
  -- a peer that was asked to become hot is warm
  pub asked : is_some (reply_on 2 e) ≡ true → p.temp ≡ Warm

-- a connection whose peer is not known is neither used nor dialed
pub record IsAlone (e : Entry) : Type 0 where
  pub unused : e.facts.local ≡ false
  pub not_dialed : is_pending e.facts ≡ false
  pub not_asked : is_some (reply_on 2 e) ≡ false

abbrev pub TiedBy : ℕ → Option Peer → Option Entry → Type 0
TiedBy now None None = Unit {0}
TiedBy now (Some p) None = is_established p.temp ≡ false
TiedBy now None (Some e) = IsAlone e
TiedBy now (Some p) (Some e) = AreTied now p e

abbrev pub IsTied : Machine → Type 0
IsTied m = (addr : Addr) → TiedBy m.now (peer_at addr m) (live_entry_at addr m)

-- ---- the record

pub record IsFormed (m : Machine) : Type 0 where
  pub shaped : AreShaped m
  pub owing : All IsOwing m.connections
  pub peers : ArePeersApart m.peers
  pub groups : AreApart (members_of m.groups)
  -- neither a peer nor a connection has the own address
  pub other_peers : AllByRecursion (λ p. same_address p.addr m.settings.own ≡ false) m.peers
  pub other_connections : All (λ e. same_address e.facts.addr m.settings.own ≡ false) m.connections
  -- the book is not too full
  pub room : length m.peers ≤ most_peers
  -- the question that is pending was numbered
  pub pending_job : (job : ℕ) → m.roots.pending ≡ Some job → job < m.roots.next_job

-- what holds at every moment of all but the ties, in the middle of an event too
pub record IsOrdered (m : Machine) : Type 0 where
  pub orderly : IsOrderly m
  pub formed : IsFormed m

pub record IsSteady (m : Machine) : Type 0 where
  pub sound : IsSound m
  pub formed : IsFormed m
  pub tied : IsTied m
  -- after each event, but not in the middle of one that sets the groups
  pub locals : LocalsAreOrdinary m

-- ---- what an event gives out

-- an id to each peer at most, and one job
pub record GivesFew (before after : Machine) : Type 0 where
  pub ids : after.next_id ≤ before.next_id + 20000
  pub jobs : after.roots.next_job ≤ before.roots.next_job + 1
