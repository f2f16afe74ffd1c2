-- A move at one address raises what is counted by one at most.
use Rattle.std.proofs.Common.{ℕ, zero, suc, ◌+◌, ◌≤◌, ◌≡◌, Bool, true, false, cond, ◌&&◌, if◌then◌else◌, set, List, [], ◌∷◌, ◌++◌, find, count_by, Option, Some, refl, sym, ap, ◌∙◌, subst, arith}
use Rattle.laws.proofs.Words.{both_ways, cond_both, and_parts}
use Rattle.laws.specs.Words.{list_any, AllByRecursion, option_map, same_address, Addr, Group, Peer, is_live, is_live_at, is_acquirable, has_address, is_of, with_peer, is_listed, Machine, Entry, live_entry_at, owing, turns_at, peer_at, with_entry, acquire, dial, promoted_at, promote, is_used_at, activates, activate, on_entry, peer_changes, Effect, on_used}
use Rattle.peer_book.specs.Book.{peer_at as peer_in}
use Rattle.laws.specs.AtMoves.{some_connection, number_with, members_with}
use Rattle.laws.specs.Steady.{ArePeersApart, IsOrdered}
use Rattle.laws.proofs.Addresses.{same_address-true}
use Rattle.laws.proofs.Each.{weaker, count-cons}
use Rattle.laws.proofs.Entries.{TurnsInto, turned-connections}
use Rattle.laws.proofs.Lists.{all-true, StandsAt, stands_before, FoundIn, find_some}
use Rattle.laws.proofs.PeersApart.{same_turned}
use Rattle.laws.proofs.Cases.{by_bool, by_option}

-- ---- books that differ at one address

-- a peer that stays, or stays of its class where it has the address
pub record IsSameBut (addr : Addr) (p q : Peer) : Type 0 where
  pub same_addr : q.addr ≡ p.addr
  pub same_class : q.big ≡ p.big
  pub elsewhere : same_address p.addr addr ≡ false → q ≡ p

abbrev pub AreSameBut : Addr → List Peer → List Peer → Type 0
AreSameBut addr [] [] = Unit {0}
AreSameBut addr [] (q ∷ qs) = ⊥
AreSameBut addr (p ∷ ps) [] = ⊥
AreSameBut addr (p ∷ ps) (q ∷ qs) = IsSameBut addr p q × AreSameBut addr ps qs

same_but-self : (addr : Addr) (p : Peer) → IsSameBut addr p p
same_but-self addr p = record { same_addr = refl; same_class = refl; elsewhere = λ other. refl }

pub all_same : (addr : Addr) (ps : List Peer) → AreSameBut addr ps ps
all_same addr [] = tt
all_same addr (p ∷ ps) = (same_but-self addr p, all_same addr ps)

-- one takes the place of the peer with its address
with_peer-same : (new : Peer) (ps : List Peer) → AllByRecursion (λ q. same_address q.addr new.addr ≡ false) ps → AreSameBut new.addr ps (with_peer new ps)
with_peer-same new [] others = tt
with_peer-same new (p ∷ ps) others = search (arith, same_but-self, with_peer-same new ps others.1)

pub with_peer-same_but : (new p : Peer) (ps : List Peer) → ArePeersApart ps → peer_in new.addr ps ≡ Some p → new.big ≡ p.big →
    AreSameBut new.addr ps (with_peer new ps)
with_peer-same_but new p [] apart found class = tt
with_peer-same_but new p (q ∷ ps) apart found class = by_bool (has_address new.addr q)
    (λ b. cond b (Some q) (peer_in new.addr ps) ≡ Some p → (peer_in new.addr ps ≡ Some p → AreSameBut new.addr ps (with_peer new ps)) →
    IsSameBut new.addr q (if b then new else q) × AreSameBut new.addr ps (with_peer new ps))
    (λ here found later.
    let addr : q.addr ≡ new.addr = same_address-true q.addr new.addr here in (
      record { same_addr = sym addr; same_class = grind (arith, found, class); elsewhere = λ other. absurd (both_ways (has_address new.addr q) other here) },
      with_peer-same new ps (subst (λ a. AllByRecursion (λ x. same_address x.addr a ≡ false) ps) addr apart.0),
    ))
    (λ other found later. (same_but-self new.addr q, later found)) found (λ found. with_peer-same_but new p ps apart.1 found class)

-- ---- the class of an address

abbrev pub class_at : Addr → List Peer → Option Bool
class_at addr ps = option_map (λ p. p.big) (peer_in addr ps)

-- ---- what is counted

pub one-most : (b : Bool) → cond {A = ℕ} b 1 0 ≤ 1
one-most true = omega arith
one-most false = omega arith

-- none is counted anew where whoever has the address fails
pub counted-none : (addr : Addr) (s t : Peer → Bool) (ps qs : List Peer) → AreSameBut addr ps qs → ((p : Peer) → same_address p.addr addr ≡ false → t p ≡ s p) →
    AllByRecursion (λ p. (q : Peer) → q.addr ≡ p.addr → same_address p.addr addr ≡ true → t q ≡ false) ps → count_by t qs ≤ count_by s ps
counted-none addr s t [] [] h other fails = omega arith
counted-none addr s t (p ∷ ps) (q ∷ qs) h other fails = grind (arith, h.0.elsewhere, other p, fails.0 q h.0.same_addr, counted-none addr s t ps qs h.1 other fails.1, count-cons s p ps, count-cons t q qs)
counted-none addr s t ps qs h other fails = elim h [ ]

-- at most one more, since no two peers have one address
pub counted-one : (addr : Addr) (s t : Peer → Bool) (ps qs : List Peer) → ArePeersApart ps → AreSameBut addr ps qs →
    ((p : Peer) → same_address p.addr addr ≡ false → t p ≡ s p) → count_by t qs ≤ count_by s ps + 1
counted-one addr s t [] [] apart h other = omega arith
counted-one addr s t (p ∷ ps) (q ∷ qs) apart h other =
    let none : same_address p.addr addr ≡ true → count_by t qs ≤ count_by s ps = λ at. counted-none addr s t ps qs h.1 other
    (weaker ps (λ x away y same there. absurd (both_ways (same_address x.addr addr) (subst (λ a. same_address x.addr a ≡ false) (same_address-true p.addr addr at) away) there)) apart.0) in
    grind (arith, none, h.0.elsewhere, other p, counted-one addr s t ps qs apart.1 h.1 other, count-cons s p ps, count-cons t q qs)
counted-one addr s t ps qs apart h other = elim h [ ]

-- ---- records that differ at one address

pub record ChangesAt (addr : Addr) (before after : Machine) : Type 0 where
  pub peers : AreSameBut addr before.peers after.peers
  pub connections : (test : Entry → Bool) (b : Addr) → same_address b addr ≡ false → some_connection test b after ≡ some_connection test b before

-- a test of peers that such a change leaves as it was at every other address
abbrev pub IsLocalTest : (Machine → Peer → Bool) → Type 0
IsLocalTest test = (addr : Addr) (m n : Machine) → ChangesAt addr m n → (p : Peer) → same_address p.addr addr ≡ false → test n p ≡ test m p

module _ (test : Machine → Peer → Bool) (same : IsLocalTest test) where
  -- one more of a class at most passes
  pub number-one : (big : Bool) (addr : Addr) (m n : Machine) → ArePeersApart m.peers → ChangesAt addr m n →
      number_with test big n ≤ number_with test big m + 1
  number-one big addr m n apart h =
      counted-one addr (λ p. is_of big p && test m p) (λ p. is_of big p && test n p) m.peers n.peers apart h.peers
      (λ p other. ap (λ b. is_of big p && b) (same addr m n h p other))

  -- and one more member, or none where the address is no member's
  pub members-one : (group : Group) (addr : Addr) (m n : Machine) → ArePeersApart m.peers → ChangesAt addr m n →
      members_with test group n ≤ members_with test group m + 1
  members-one group addr m n apart h =
      counted-one addr (λ p. is_of false p && (is_listed p.addr group.members && test m p)) (λ p. is_of false p && (is_listed p.addr group.members && test n p))
      m.peers n.peers apart h.peers (λ p other. ap (λ b. is_of false p && (is_listed p.addr group.members && b)) (same addr m n h p other))

  pub members-none : (group : Group) (addr : Addr) (m n : Machine) → is_listed addr group.members ≡ false → ChangesAt addr m n →
      members_with test group n ≤ members_with test group m
  members-none group addr m n unlisted h =
      counted-none addr (λ p. is_of false p && (is_listed p.addr group.members && test m p)) (λ p. is_of false p && (is_listed p.addr group.members && test n p))
      m.peers n.peers h.peers (λ p other. ap (λ b. is_of false p && (is_listed p.addr group.members && b)) (same addr m n h p other))
      (all-true _ (λ p q same at. grind (arith, unlisted, same, same_address-true p.addr addr at)) m.peers)

-- ---- what the connections of other addresses are

abbrev passes_at : (Entry → Bool) → Addr → Entry → Bool
passes_at test b e = same_address e.facts.addr b && test e

pushed-same : (test : Entry → Bool) (b : Addr) (new : Entry) (es : List Entry) → same_address new.facts.addr b ≡ false →
    list_any (passes_at test b) (es ++ new ∷ []) ≡ list_any (passes_at test b) es
pushed-same test b new [] other = grind (arith, other)
pushed-same test b new (e ∷ es) other = grind (arith, pushed-same test b new es other)

set-same : (test : Entry → Bool) (b : Addr) (new e : Entry) (es : List Entry) (k : ℕ) → StandsAt es k e → same_address e.facts.addr b ≡ false →
    same_address new.facts.addr b ≡ false → list_any (passes_at test b) (set es k new) ≡ list_any (passes_at test b) es
set-same test b new e [] k s old_other new_other = absurd (omega (arith, s.inside))
set-same test b new e (x ∷ es) zero s old_other new_other = grind (arith, s.is, old_other, new_other)
set-same test b new e (x ∷ es) (suc k) s old_other new_other = grind (arith, set-same test b new e es k (stands_before x e es k s) old_other new_other)

pub turned-same : (m : Machine) (e new : Entry) (k : ℕ) → IsOrdered m → StandsAt m.connections k e → TurnsInto e new → (test : Entry → Bool) (b : Addr) →
    same_address b e.facts.addr ≡ false → some_connection test b (with_entry new m) ≡ some_connection test b m
turned-same m e new k h s t test b other =
    let here : same_address e.facts.addr b ≡ false = same_turned b e.facts.addr other in
    ap (λ es. list_any (passes_at test b) es) (turned-connections m e new k h.orderly s t)
    ∙ set-same test b new e m.connections k s here (subst (λ a. same_address a b ≡ false) (sym t.same_addr) here)

-- no peer changes with it
pub turned-changes : (m : Machine) (e new : Entry) (k : ℕ) → IsOrdered m → StandsAt m.connections k e → TurnsInto e new → ChangesAt e.facts.addr m (with_entry new m)
turned-changes m e new k h s t = record { peers = all_same e.facts.addr m.peers; connections = turned-same m e new k h s t }

pub changed-changes : (a : Addr) (change : Peer → Peer) (m n : Machine) → ChangesAt a m n → n.peers ≡ m.peers → ArePeersApart m.peers →
    ((p : Peer) → (change p).addr ≡ p.addr) → ((p : Peer) → (change p).big ≡ p.big) → ChangesAt a m (peer_changes a change n).machine
changed-changes a change m n h same apart addr class = by_option (peer_at a n) (λ o. ChangesAt a m (turns_at o change n).machine)
    (λ is. h)
    (λ p is.
    let here : (change p).addr ≡ a = addr p ∙ same_address-true p.addr a (find_some (has_address a) n.peers p is).passes in
    assumption (
      subst (λ ps. AreSameBut a ps (with_peer (change p) n.peers)) same
          (subst (λ x. AreSameBut x n.peers (with_peer (change p) n.peers)) here
          (with_peer-same_but (change p) p n.peers (subst ArePeersApart (sym same) apart)
          (subst (λ x. peer_in x n.peers ≡ Some p) (sym here) is) (class p))),
      h,
    ))

pub nothing-changes : (a : Addr) (m : Machine) → ChangesAt a m m
nothing-changes a m = record { peers = all_same a m.peers; connections = λ test b other. refl }

-- ---- a promotion

dial-changes : (addr : Addr) (m : Machine) → ChangesAt addr m (dial addr m).machine
dial-changes addr m = search (arith, all_same, pushed-same, same_turned)

acquire-changes : (m : Machine) (e : Entry) (k : ℕ) → IsOrdered m → StandsAt m.connections k e → ChangesAt e.facts.addr m (acquire e m).machine
acquire-changes m e k h s = search (arith, changed-changes, turned-changes)

pub promote-changes : (addr : Addr) (m : Machine) → IsOrdered m → ChangesAt addr m (promote addr m).machine
promote-changes addr m h = by_option (live_entry_at addr m) (λ o. ChangesAt addr m (promoted_at o addr m).machine)
    (λ is. dial-changes addr m)
    (λ e is.
    let at : FoundIn (λ x. is_live_at addr x.facts) m.connections e = find_some (λ x. is_live_at addr x.facts) m.connections e is in
    let here : e.facts.addr ≡ addr = same_address-true e.facts.addr addr (and_parts (same_address e.facts.addr addr) (is_live e.facts) at.passes).0 in
    cond_both (is_acquirable e.facts) (acquire e m) (dial addr m) (λ effect. ChangesAt addr m effect.machine)
    (λ free. subst (λ a. ChangesAt a m (acquire e m).machine) here (acquire-changes m e at.place h at.stands)) (λ other. dial-changes addr m))

-- ---- an activation

-- what stands in use of an address has it
pub used-here : (a : Addr) (m : Machine) (e : Entry) → find (is_used_at a) m.connections ≡ Some e → e.facts.addr ≡ a
used-here a m e is =
    let at : FoundIn (is_used_at a) m.connections e = find_some (is_used_at a) m.connections e is in
    let lives = and_parts (is_live_at a e.facts) e.facts.local at.passes in
    same_address-true e.facts.addr a (and_parts (same_address e.facts.addr a) (is_live e.facts) lives.0).0

-- an order changes what the connection in use at its address changes
pub used-changes : (R : Addr → Machine → Machine → Type 0) (a : Addr) (act : Entry → Machine → Effect) (m : Machine) → R a m m →
    ((e : Entry) → FoundIn (is_used_at a) m.connections e → R e.facts.addr m (act e m).machine) → R a m (on_used a act m).machine
used-changes R a act m nothing each = by_option (find (is_used_at a) m.connections) (λ o. R a m (on_entry o act m).machine)
    (λ is. nothing)
    (λ e is. subst (λ x. R x m (act e m).machine) (used-here a m e is) (each e (find_some (is_used_at a) m.connections e is)))

pub activate-changes : (addr : Addr) (m : Machine) → IsOrdered m → ChangesAt addr m (activate addr m).machine
activate-changes addr m h = used-changes ChangesAt addr activates m (nothing-changes addr m)
    (λ e at. turned-changes m e (owing 2 0 m e) at.place h at.stands (record { same_id = refl; same_addr = refl; live = λ l. l }))
