-- An order at one address lowers what is counted by one at most, and leaves other addresses as they were.
use Rattle.std.proofs.Common.{ℕ, ◌+◌, ◌≤◌, ◌≡◌, Bool, true, false, cond, not, List, [], ◌∷◌, filter, count_by, refl, sym, ap, ◌∙◌, subst, arith}
use Rattle.laws.proofs.Words.{and_parts, sum_by-cons}
use Rattle.laws.specs.Words.{list_any, AllByRecursion, is_live_at, same_address, Addr, Cid, Peer, Cold, Warm, is_of, known_of, without_peer, with_entry, trim, release, on_used, asks_peer, deactivates, Machine, Entry, owing}
use Rattle.peer_book.specs.Book.{peer_at as peer_in}
use Rattle.laws.specs.AtMoves.{some_connection}
use Rattle.laws.specs.Steady.{ArePeersApart, IsOrdered}
use Rattle.laws.proofs.Addresses.{same_address-true}
use Rattle.laws.proofs.BackOff.{released-peers}
use Rattle.laws.proofs.Lists.{StandsAt}
use Rattle.laws.proofs.Walk.{cooled, release-machine, turned_by, is_released}
use Rattle.laws.proofs.Spending.{AreSameBut, all_same, one-most, ChangesAt, used-changes, turned-changes, changed-changes, nothing-changes}
use Rattle.laws.proofs.Trims.{lost-connections}
use Rattle.laws.proofs.Cases.{by_bool}
use Rattle.laws.proofs.ItemCases.{trim-cases}

-- ---- books that differ at one address, the other way

pub all-back : (a : Addr) (ps qs : List Peer) → AreSameBut a ps qs → AreSameBut a qs ps
all-back a [] [] h = tt
all-back a (p ∷ ps) (q ∷ qs) h = grind (arith, all-back a ps qs h.1)
all-back a ps qs h = elim h [ ]

others-same : (a b : Addr) (ps qs : List Peer) → AreSameBut a ps qs → AllByRecursion (λ x. same_address x.addr b ≡ false) ps →
    AllByRecursion (λ x. same_address x.addr b ≡ false) qs
others-same a b [] [] h all = tt
others-same a b (p ∷ ps) (q ∷ qs) h all = (subst (λ x. same_address x b ≡ false) (sym h.0.same_addr) all.0, others-same a b ps qs h.1 all.1)
others-same a b ps qs h all = elim h [ ]

pub apart-same : (a : Addr) (ps qs : List Peer) → AreSameBut a ps qs → ArePeersApart ps → ArePeersApart qs
apart-same a [] [] h apart = tt
apart-same a (p ∷ ps) (q ∷ qs) h apart = (
  subst (λ x. AllByRecursion (λ y. same_address y.addr x ≡ false) qs) (sym h.0.same_addr) (others-same a p.addr ps qs h.1 apart.0),
  apart-same a ps qs h.1 apart.1,
)
apart-same a ps qs h apart = elim h [ ]

pub found-same : (a b : Addr) (ps qs : List Peer) → same_address b a ≡ false → AreSameBut a ps qs → peer_in b qs ≡ peer_in b ps
found-same a b [] [] other h = refl
found-same a b (p ∷ ps) (q ∷ qs) other h = grind (arith, same_address-true p.addr b, found-same a b ps qs other h.1)
found-same a b ps qs other h = elim h [ ]

of-same : (big : Bool) (p q : Peer) → q.big ≡ p.big → is_of big q ≡ is_of big p
of-same true p q same = same
of-same false p q same = ap not same

pub known-same : (big : Bool) (a : Addr) (ps qs : List Peer) → AreSameBut a ps qs → known_of big qs ≡ known_of big ps
known-same big a [] [] h = refl
known-same big a (p ∷ ps) (q ∷ qs) h =
    let here : cond {A = ℕ} (is_of big q) 1 0 ≡ cond {A = ℕ} (is_of big p) 1 0 = ap (λ b. cond {A = ℕ} b 1 0) (of-same big p q h.0.same_class) in
    let rest = known-same big a ps qs h.1 in
    let before = sum_by-cons (λ x. cond {A = ℕ} (is_of big x) 1 0) p ps in
    let after = sum_by-cons (λ x. cond {A = ℕ} (is_of big x) 1 0) q qs in
    omega (arith, here, rest, before, after)
known-same big a ps qs h = elim h [ ]

pub ChangesAt-back : (a : Addr) (m n : Machine) → ChangesAt a m n → ChangesAt a n m
ChangesAt-back a m n h = grind (arith, all-back)

-- ---- a peer is forgotten

taken-none : (a : Addr) (ps : List Peer) → AllByRecursion (λ q. same_address q.addr a ≡ false) ps → without_peer a ps ≡ ps
taken-none a [] h = refl
taken-none a (p ∷ ps) h = rw h.0 (ap (λ qs. p ∷ qs) (taken-none a ps h.1))

pub taken-count : (t : Peer → Bool) (a : Addr) (ps : List Peer) → ArePeersApart ps → count_by t ps ≤ count_by t (without_peer a ps) + 1
taken-count t a [] apart = omega arith
taken-count t a (p ∷ ps) apart =
    let before : count_by t (p ∷ ps) ≡ cond {A = ℕ} (t p) 1 0 + count_by t ps = sum_by-cons (λ x. cond {A = ℕ} (t x) 1 0) p ps in
    by_bool (same_address p.addr a)
    (λ c. count_by t ps ≤ count_by t (without_peer a ps) + 1 → count_by t (p ∷ ps) ≤ count_by t (cond (not c) (p ∷ without_peer a ps) (without_peer a ps)) + 1)
    (λ at rest.
    let same : count_by t (without_peer a ps) ≡ count_by t ps =
    ap (count_by t) (taken-none a ps (subst (λ x. AllByRecursion (λ q. same_address q.addr x ≡ false) ps) (same_address-true p.addr a at) apart.0)) in
    omega (arith, before, same, one-most (t p)))
    (λ away rest.
    let after = sum_by-cons (λ x. cond {A = ℕ} (t x) 1 0) p (without_peer a ps) in
    omega (arith, before, after, rest)) (taken-count t a ps apart.1)

-- ---- a peer changes

pub ask-changes : (a : Addr) (k : ℕ) (m : Machine) → IsOrdered m → ChangesAt a m (on_used a (asks_peer k) m).machine
ask-changes a k m h = used-changes ChangesAt a (asks_peer k) m (nothing-changes a m)
    (λ e at. changed-changes e.facts.addr (λ p. record p { share_next = m.now + m.settings.sharegap }) m (with_entry (owing 10 k m e) m)
    (turned-changes m e (owing 10 k m e) at.place h at.stands (record { same_id = refl; same_addr = refl; live = λ l. l })) refl h.formed.peers (λ p. refl) (λ p. refl))

pub deactivate-changes : (a : Addr) (m : Machine) → IsOrdered m → ChangesAt a m (on_used a deactivates m).machine
deactivate-changes a m h = used-changes ChangesAt a deactivates m (nothing-changes a m)
    (λ e at. changed-changes e.facts.addr (λ p. record p { temp = Warm }) m m (nothing-changes e.facts.addr m) refl h.formed.peers (λ p. refl) (λ p. refl))

-- ---- a release

-- a connection may go elsewhere, and no peer changes there
pub record LeavesOthers (a : Addr) (m n : Machine) : Type 0 where
  pub peers : AreSameBut a m.peers n.peers
  pub connections : (test : Entry → Bool) (b : Addr) → same_address b a ≡ false → some_connection test b m ≡ false → some_connection test b n ≡ false

filter-none : (p q : Entry → Bool) (es : List Entry) → list_any p es ≡ false → list_any p (filter q es) ≡ false
filter-none p q [] none = refl
filter-none p q (e ∷ es) none = grind (arith, filter-none p q es)

trim-none : (test : Entry → Bool) (b : Addr) (moved : Cid) (m : Machine) → some_connection test b m ≡ false → some_connection test b (trim moved m).machine ≡ false
trim-none test b moved m none = grind (arith, trim-cases, lost-connections, filter-none)

releasing-leaves : (m : Machine) (e : Entry) (k : ℕ) → IsOrdered m → StandsAt m.connections k e → e.facts.local ≡ true →
    LeavesOthers e.facts.addr m (trim e.facts.cid (cooled e m)).machine
releasing-leaves m e k h s local =
    let new : Entry = turned_by is_released e m in
    let changed : ChangesAt e.facts.addr m (cooled e m) = changed-changes e.facts.addr (λ p. record p { temp = Cold }) m (with_entry new m)
    (turned-changes m e new k h s (record { same_id = refl; same_addr = refl; live = λ l. l })) refl h.formed.peers (λ p. refl) (λ p. refl) in
    record {
      peers = subst (AreSameBut e.facts.addr m.peers) (sym (released-peers m e k h s local)) changed.peers;
      connections = λ test b other none. trim-none test b e.facts.cid (cooled e m) (changed.connections test b other ∙ none);
    }

pub release-leaves : (a : Addr) (m : Machine) → IsOrdered m → LeavesOthers a m (on_used a release m).machine
release-leaves a m h = used-changes LeavesOthers a release m (record { peers = all_same a m.peers; connections = λ test b other none. none })
    (λ e at. subst (LeavesOthers e.facts.addr m) (sym (release-machine e m))
    (releasing-leaves m e at.place h at.stands (and_parts (is_live_at a e.facts) e.facts.local at.passes).1))
