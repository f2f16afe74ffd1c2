-- A part of a step of the whole machine: what it keeps, and by how much it may raise the counted connections.
use Rattle.std.proofs.Common.{ℕ, ◌+◌, ◌<◌, ◌≤◌, ◌≡◌, Bool, true, false, not, List, [], ◌∷◌, set, All, Some, refl, sym, ◌∙◌, subst, arith}
use Rattle.laws.proofs.Words.{All-head, All-tail, All-set, All-filter}
use Rattle.laws.specs.Words.{same_address, Peer, with_entry, without_entry, Machine, Entry, counted_in, live_entry_at, Effect, for_each, turns_at, peer_at, peer_changes, note_of_coming, peer_comes, RootState, Addr, Settings, BigTargets, Targets, new_peer, entry_of, entered, Added, has_id}
use Rattle.peer_book.specs.Book.{with_peer as with_peer_in}
use Rattle.laws.specs.Laws.{is_local, LocalsAreOrdinary}
use Rattle.laws.specs.Sound.{IsOrderly}
use Rattle.laws.specs.Steady.{IsShaped, IsOwing, IsOrdered, TiedBy, IsTied}
use Rattle.laws.proofs.Counts.{counted_of, late_of, late_in}
use Rattle.laws.proofs.Entries.{TurnsInto, turned-connections, turned-orderly, gone-orderly}
use Rattle.laws.proofs.Moves.{gone-counts, turned-counts}
use Rattle.laws.proofs.Lists.{StandsAt, All-stands}
use Rattle.laws.proofs.Ordinary.{turned-classes, comes-classes}
use Rattle.laws.proofs.Ties.{changed-ties, comes-ties}
use Rattle.laws.proofs.Cases.{by_option}
use Rattle.laws.proofs.PeersApart.{IsBook, book_of, with_peer-book, entered-book}

-- From one record to another, by what may be a part of a move: both hold at every moment, no more than so many
-- connections come to be counted, and no more deadlines are late.
pub record Moves (raised : ℕ) (before after : Machine) : Type 0 where
  pub ordered : IsOrdered after
  pub settings : after.settings ≡ before.settings
  pub now : after.now ≡ before.now
  pub counted : counted_in after ≤ counted_in before + raised
  pub late : late_in after ≤ late_in before
  -- local peers stay ordinary ones
  pub classes : LocalsAreOrdinary before → LocalsAreOrdinary after

-- By a whole move: peers stay tied to their connections, too.
pub record Keeps (raised : ℕ) (before after : Machine) : Type 0 where
  pub ordered : IsOrdered after
  pub settings : after.settings ≡ before.settings
  pub now : after.now ≡ before.now
  pub counted : counted_in after ≤ counted_in before + raised
  pub late : late_in after ≤ late_in before
  pub classes : LocalsAreOrdinary before → LocalsAreOrdinary after
  pub ties : IsTied before → IsTied after

pub moves-keeps : (raised : ℕ) (m n : Machine) → Moves raised m n → (IsTied m → IsTied n) → Keeps raised m n
moves-keeps raised m n h ties = assumption

pub keeps-moves : (raised : ℕ) (m n : Machine) → Keeps raised m n → Moves raised m n
keeps-moves raised m n h = assumption

pub moves_then : (i j : ℕ) (m n o : Machine) → Moves i m n → Moves j n o → Moves (i + j) m o
moves_then i j m n o first second = record {
  ordered = second.ordered;
  settings = second.settings ∙ first.settings;
  now = second.now ∙ first.now;
  counted = omega arith;
  late = omega arith;
  classes = λ h. second.classes (first.classes h);
}

pub moves_nothing : (m : Machine) → IsOrdered m → Moves 0 m m
moves_nothing m h = record { ordered = h; settings = refl; now = refl; counted = omega arith; late = omega arith; classes = λ locals. locals }

pub keeps_nothing : (m : Machine) → IsOrdered m → Keeps 0 m m
keeps_nothing m h = moves-keeps 0 m m (moves_nothing m h) (λ ties. ties)

-- one part after another
pub keeps_then : (i j : ℕ) (m n o : Machine) → Keeps i m n → Keeps j n o → Keeps (i + j) m o
keeps_then i j m n o first second =
    moves-keeps (i + j) m o (moves_then i j m n o (keeps-moves i m n first) (keeps-moves j n o second)) (λ h. second.ties (first.ties h))

-- a connection turns into another
pub turns-moves : (raised : ℕ) (m : Machine) (old new : Entry) (k : ℕ) → IsOrdered m → StandsAt m.connections k old →
    TurnsInto old new → IsShaped new.facts → IsOwing new → counted_of new ≤ counted_of old + raised → late_of m.now new ≤ late_of m.now old →
    Moves raised m (with_entry new m)
turns-moves raised m old new k h s t shaped owes more later =
    let n : Machine = with_entry new m in
    let o : IsOrderly m = h.orderly in
    let own : Addr = m.settings.own in
    let other : same_address new.facts.addr own ≡ false = subst (λ a. same_address a own ≡ false) (sym t.same_addr)
    (All-stands (λ e. same_address e.facts.addr own ≡ false) m.connections k old s h.formed.other_connections) in
    let list : set m.connections k new ≡ n.connections = sym (turned-connections m old new k o s t) in
    let recounted = turned-counts m old new k o s t in
    let counted : counted_in n ≤ counted_in m + raised = omega (arith, recounted.counted, more) in
    let late : late_in n ≤ late_in m = omega (arith, recounted.late, later) in
    assumption (
      turned-orderly m old new k o s t,
      subst (All (λ e. IsShaped e.facts)) list (All-set (λ e. IsShaped e.facts) m.connections k new shaped h.formed.shaped),
      subst (All IsOwing) list (All-set IsOwing m.connections k new owes h.formed.owing),
      subst (All (λ e. same_address e.facts.addr own ≡ false)) list (All-set (λ e. same_address e.facts.addr own ≡ false) m.connections k new other h.formed.other_connections),
    )

-- a connection goes
pub goes-moves : (m : Machine) (e : Entry) (k : ℕ) → IsOrdered m → StandsAt m.connections k e →
    Moves 0 m (without_entry e.facts.cid.0 m)
goes-moves m e k h s =
    let n : Machine = without_entry e.facts.cid.0 m in
    let recounted = gone-counts m e k h.orderly s in
    let counted : counted_in n ≤ counted_in m + 0 = omega (arith, recounted.counted) in
    let late : late_in n ≤ late_in m = omega (arith, recounted.late) in
    assumption (
      gone-orderly m e.facts.cid.0 h.orderly,
      All-filter (λ x. not (has_id e.facts.cid.0 x.facts)) (λ x. IsShaped x.facts) m.connections h.formed.shaped,
      All-filter (λ x. not (has_id e.facts.cid.0 x.facts)) IsOwing m.connections h.formed.owing,
      All-filter (λ x. not (has_id e.facts.cid.0 x.facts)) (λ x. same_address x.facts.addr m.settings.own ≡ false) m.connections h.formed.other_connections,
    )

-- the question that is pending was numbered
abbrev pub IsNumbered : RootState → Type 0
IsNumbered roots = (job : ℕ) → roots.pending ≡ Some job → job < roots.next_job

-- what is no connection is no matter of them
pub elsewhere-moves : (targets : Targets) (big : BigTargets) (roots : RootState) (peers : List Peer) (m : Machine) →
    IsOrdered m → IsNumbered roots → IsBook m.settings.own peers → (LocalsAreOrdinary m → LocalsAreOrdinary (record m { peers = peers })) →
    Moves 0 m (record m { targets = targets; big_targets = big; roots = roots; peers = peers })
elsewhere-moves targets big roots peers m h numbered book classes = grind arith

-- what is neither a connection nor a peer is no matter of either
pub elsewhere-keeps : (targets : Targets) (big : BigTargets) (roots : RootState) (m : Machine) →
    IsOrdered m → IsNumbered roots → Keeps 0 m (record m { targets = targets; big_targets = big; roots = roots })
elsewhere-keeps targets big roots m h numbered = grind arith

pub peers-moves : (peers : List Peer) (m : Machine) → IsOrdered m → IsBook m.settings.own peers →
    (LocalsAreOrdinary m → LocalsAreOrdinary (record m { peers = peers })) → Moves 0 m (record m { peers = peers })
peers-moves peers m h book classes = elsewhere-moves m.targets m.big_targets m.roots peers m h h.formed.pending_job book classes

-- ---- peers

-- a change that keeps addresses, and makes no big ledger peer
pub changes-moves : (addr : Addr) (change : Peer → Peer) (m : Machine) → ((p : Peer) → (change p).addr ≡ p.addr) →
    ((p : Peer) → p.big ≡ false → (change p).big ≡ false) → IsOrdered m → Moves 0 m (peer_changes addr change m).machine
changes-moves addr change m same class h = by_option (peer_at addr m) (λ o. Moves 0 m (turns_at o change m).machine)
    (λ is. moves_nothing m h)
    (λ p is.
    peers-moves (with_peer_in (change p) m.peers) m h (with_peer-book m.settings.own (change p) m.peers (book_of m h.formed))
    (turned-classes addr change m same class p is))

-- which leaves the peer tied to its connection
pub changes-keeps : (addr : Addr) (change : Peer → Peer) (m : Machine) → ((p : Peer) → (change p).addr ≡ p.addr) →
    ((p : Peer) → p.big ≡ false → (change p).big ≡ false) →
    ((p : Peer) → TiedBy m.now (Some p) (live_entry_at addr m) → TiedBy m.now (Some (change p)) (live_entry_at addr m)) → IsOrdered m →
    Keeps 0 m (peer_changes addr change m).machine
changes-keeps addr change m same class step h =
    moves-keeps 0 m (peer_changes addr change m).machine (changes-moves addr change m same class h)
    (changed-ties addr change m m same refl refl (λ b other. refl) (λ none alone. alone) (λ p found tie. step p tie))

pub note-machine : (added : Added) (addr : Addr) (m : Machine) → (note_of_coming added addr m).machine ≡ m
note-machine added addr m = grind arith

-- it is not the own address, and no big ledger peer's where it is local
pub peer_comes-keeps : (big : Bool) (addr : Addr) (m : Machine) → IsOrdered m → same_address addr m.settings.own ≡ false →
    (is_local m.groups addr ≡ true → big ≡ false) → Keeps 0 m (peer_comes big addr m).machine
peer_comes-keeps big addr m h other class =
    rw (note-machine (entry_of addr m.peers) addr (record m { peers = entered (new_peer big addr) m.peers }))
    (moves-keeps 0 m (record m { peers = entered (new_peer big addr) m.peers })
    (peers-moves (entered (new_peer big addr) m.peers) m h (entered-book m.settings.own (new_peer big addr) m.peers other (book_of m h.formed)) (comes-classes big addr m class))
    (comes-ties big addr m))

-- ---- one part for each of a list

-- that may need something of each
pub for_each_that-keeps : {X : Type 0} (P : Settings → X → Type 0) (act : X → Machine → Effect) →
    ((x : X) (m : Machine) → IsOrdered m → P m.settings x → Keeps 0 m (act x m).machine) →
    (xs : List X) (m : Machine) → IsOrdered m → All (P m.settings) xs → Keeps 0 m (for_each act xs m).machine
unfolding for_each
for_each_that-keeps P act each [] m h all = keeps_nothing m h
for_each_that-keeps P act each (x ∷ xs) m h all =
    let n : Machine = (act x m).machine in
    let first : Keeps 0 m n = each x m h (All-head (P m.settings) x xs all) in
    keeps_then 0 0 m n (for_each act xs n).machine first
    (for_each_that-keeps P act each xs n first.ordered (subst (λ s. All (P s) xs) (sym first.settings) (All-tail (P m.settings) x xs all)))

pub for_each-keeps : {X : Type 0} (act : X → Machine → Effect) → ((x : X) (m : Machine) → IsOrdered m → Keeps 0 m (act x m).machine) →
    (xs : List X) (m : Machine) → IsOrdered m → Keeps 0 m (for_each act xs m).machine
for_each-keeps act each xs m h = for_each_that-keeps (λ s x. Unit {0}) act (λ x n o any. each x n o) xs m h (λ k d inside. tt)
