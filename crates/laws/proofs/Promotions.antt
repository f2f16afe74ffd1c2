-- A connection comes: one that a peer opens, or one that this node dials where it promotes a peer that has none to take into use.
use Rattle.std.proofs.Common.{ℕ, ◌≡◌, true, false, not, ◌&&◌, ◌||◌, List, [], ◌∷◌, map, find, Option, Some, None, refl, sym, ap, ◌∙◌, subst, arith, is_some, Bool, ◌+◌, ◌≤◌, nat_le, All}
use Rattle.laws.proofs.Words.{both_ways, and_parts, list_any_none, false≢true, false_from_ne_true, All-push}
use Rattle.laws.specs.Words.{same_address, Addr, Peer, dialing, acquired, is_live, is_live_at, is_acquirable, is_negotiated, Promote, Machine, Entry, fresh_entry, live_entry_at, peer_at, acquire, dial, Effect, Move, promoted, as_move, promoted_at, list_any, Facts, accepted, is_pending, admitted}
use Rattle.laws.specs.AtMoves.{IsReady, is_up_connection, is_up, is_asked_connection, is_hot_or_asked, is_known, promotes, activates, shares, some_connection}
use Rattle.laws.specs.Steady.{IsOrdered, IsShaped, TiedBy}
use Rattle.laws.proofs.Addresses.{same_address-true, same_address-self}
use Rattle.laws.proofs.Keeping.{Keeps}
use Rattle.laws.proofs.Lawful.{Accounts, Obeys, IsAllowed, as_move-obeys, promoted-obeys}
use Rattle.laws.proofs.Lists.{StandsAt, FoundIn, find_some, find_none}
use Rattle.laws.proofs.Shapes.{dialing-shaped, can_acquire, accepted-shaped}
use Rattle.laws.proofs.Orders.{Carries}
use Rattle.laws.proofs.PeersApart.{same_turned, found-other}
use Rattle.laws.proofs.Rises.{rises_said, hot_or_asked-down, rises_nowhere, come-down}
use Rattle.laws.proofs.Ties.{live_here, come_elsewhere, come-ties}
use Rattle.laws.proofs.ToldMoves.{dials-told}
use Rattle.laws.proofs.Trims.{keeps-trimmed, Trimmed}
use Rattle.laws.proofs.WholeMoves.{negotiated-live, acquire-keeps}
use Rattle.laws.proofs.Cases.{by_bool, by_option}
use Rattle.laws.specs.OrderNeeds.{IsFree}
use Rattle.laws.specs.Ordered.{is_any}
use Rattle.laws.specs.Laws.{DifferInAddress}
use Rattle.laws.proofs.Counts.{counted_of, late_of}
use Rattle.laws.proofs.Entries.{with_new, come-orderly}
use Rattle.laws.proofs.Moves.{come-counts}
use Rattle.laws.proofs.Owing.{nothing-owing}
use Rattle.laws.proofs.Settings.{handshake-positive}

-- no live connection has its address
none_live : (new : Entry) (m : Machine) → live_entry_at new.facts.addr m ≡ None → All (λ e. DifferInAddress e new) m.connections
none_live new m none = search (arith, same_address-self, find_none)

-- where this node is on its way, the peer is out of its back-off
tied_new : (f : Facts) (now : ℕ) (o : Option Peer) → f.local ≡ false → (is_pending f ≡ true → IsReady now o) → TiedBy now o None → TiedBy now o (Some (fresh_entry f))
tied_new f now None unused ready tie = record { unused = unused; not_dialed = false_from_ne_true (is_pending f) (λ is. elim (ready is) [ ]); not_asked = refl }
tied_new f now (Some p) unused ready tie = search (arith, both_ways, false≢true)

pub comes-keeps : (raised : ℕ) (f : Facts) (m : Machine) → IsOrdered m → live_entry_at f.addr m ≡ None → f.cid.0 ≡ m.next_id → is_live f ≡ true → f.local ≡ false →
    IsShaped f → same_address f.addr m.settings.own ≡ false → (is_pending f ≡ true → IsReady m.now (peer_at f.addr m)) → counted_of (fresh_entry f) ≤ raised →
    late_of m.now (fresh_entry f) ≡ 0 → Keeps raised m (with_new (fresh_entry f) m)
comes-keeps raised f m h none id live unused shaped other ready counted late =
    let new : Entry = fresh_entry f in
    let recounted = come-counts m new in
    search (arith, come-orderly, none_live, All-push, nothing-owing, come-ties, tied_new)

-- the connection that is admitted
abbrev pub admitted_entry : Addr → Machine → Entry
admitted_entry addr m = fresh_entry (accepted m.next_id addr (m.now + m.settings.handshake))

pub admitted-keeps : (addr : Addr) (m : Machine) → IsOrdered m → live_entry_at addr m ≡ None → same_address addr m.settings.own ≡ false → Keeps 1 m (admitted addr m).machine
admitted-keeps addr m h none other =
    let positive : 1 ≤ m.settings.handshake = handshake-positive m.settings h.orderly.settings in
    let ahead : nat_le (m.now + m.settings.handshake) m.now ≡ false = grind (arith, positive) in
    comes-keeps 1 (accepted m.next_id addr (m.now + m.settings.handshake)) m h none refl refl refl
    (accepted-shaped m.next_id addr (m.now + m.settings.handshake)) other (λ pending. absurd (false≢true pending)) (omega arith) (rw ahead refl)

-- ---- a dial

dial-keeps : (addr : Addr) (m : Machine) → IsOrdered m → live_entry_at addr m ≡ None → IsReady m.now (peer_at addr m) → Keeps 0 m (dial addr m).machine
dial-keeps addr m h none ready =
    comes-keeps 0 (dialing m.next_id addr) m h none refl refl refl (dialing-shaped m.next_id addr) (known-other (peer_at addr m) refl ready) (λ pending. ready) (omega arith) refl
  where
    known-other : (o : Option Peer) → peer_at addr m ≡ o → IsReady m.now o → same_address addr m.settings.own ≡ false
    known-other None is ready = elim ready [ ]
    known-other (Some p) is ready = found-other m.settings.own addr m.peers p h.formed.other_peers is

-- ---- what a promotion tells

dial-accounts : (addr : Addr) (m : Machine) → IsOrdered m → Accounts m (as_move (promoted addr) m (dial addr m))
dial-accounts addr m h =
    let new : Entry = fresh_entry (dialing m.next_id addr) in
    let effect : Effect = dial addr m in
    record {
      promotions = rises_said is_up promotes (promoted addr) m effect
          (λ b other up. ap is_up_connection (sym (come_elsewhere m new b (same_turned addr b other))) ∙ up);
      activations = rises_nowhere is_hot_or_asked activates m (as_move (promoted addr) m effect)
          (hot_or_asked-down m effect.machine (λ b hot. hot) (come-down is_asked_connection refl m new refl));
      arrivals = rises_nowhere is_known shares m (as_move (promoted addr) m effect) (λ b known. known);
      told = dials-told m new addr h.orderly refl refl;
    }

acquire-obeys : (Law : Move → Type 0) (addr : Addr) (m : Machine) (e : Entry) (k : ℕ) → IsOrdered m → StandsAt m.connections k e → is_acquirable e.facts ≡ true →
    e.facts.addr ≡ addr → Law (record { happened = promoted addr; before = m; after = (acquire e m).machine }) → Obeys Law m (as_move (promoted addr) m (acquire e m))
acquire-obeys Law addr m e k h s free here law =
    let negotiated : is_negotiated e.facts ≡ true = (can_acquire e.facts free).negotiated in
    promoted-obeys Law (acquired e.facts) m e k addr h.orderly s refl refl here (negotiated-live e.facts.phase negotiated) negotiated law

-- ---- a promotion

-- no connection has the address, or one that can be taken into use, and its peer is out of its back-off
pub record MayPromote (m : Machine) (addr : Addr) : Type 0 where
  pub free : IsFree (live_entry_at addr m) addr m
  pub ready : IsReady m.now (peer_at addr m)

pub promotes-carried : Carries IsAllowed MayPromote Promote
promotes-carried addr m h within may = by_option (live_entry_at addr m)
    (λ o. IsFree o addr m → Trimmed IsAllowed m (as_move (promoted addr) m (promoted_at o addr m)))
    (λ none free. keeps-trimmed IsAllowed m (as_move (promoted addr) m (dial addr m)) within (dial-keeps addr m h none may.ready)
    (as_move-obeys IsAllowed (promoted addr) m (dial addr m) refl (record { back_off = may.ready; cause = tt }) (dial-accounts addr m h)))
    (λ e some free.
    let at : FoundIn (λ x. is_live_at addr x.facts) m.connections e = find_some (λ x. is_live_at addr x.facts) m.connections e some in
    let here : e.facts.addr ≡ addr = same_address-true e.facts.addr addr (and_parts (same_address e.facts.addr addr) (is_live e.facts) at.passes).0 in
    rw free (keeps-trimmed IsAllowed m (as_move (promoted addr) m (acquire e m)) within
    (acquire-keeps m e at.place h at.stands free (subst (λ a. IsReady m.now (peer_at a m)) (sym here) may.ready))
    (acquire-obeys IsAllowed addr m e at.place h at.stands free here (record { back_off = may.ready; cause = tt })))) may.free

-- ---- who may be taken into use, or dialed

-- where no connection has the address, none is found by it, and none that is live
unmet : (addr : Addr) (es : List Entry) → list_any (λ e. same_address e.facts.addr addr && is_any e) es ≡ false →
    (find (λ e. is_live_at addr e.facts) es ≡ None) × (is_some (find (λ f. same_address f.addr addr) (map (λ e. e.facts) es)) ≡ false)
unmet addr [] h = (refl, refl)
unmet addr (e ∷ es) h = let later = unmet addr es in (grind (arith, h, later), grind (arith, h, later))

-- where a connection of an address passes a test that live ones alone pass, it is the live one of the address
pub live-passes : (test : Entry → Bool) (addr : Addr) (m : Machine) → IsOrdered m → ((e : Entry) (k : ℕ) → StandsAt m.connections k e → test e ≡ true → is_live e.facts ≡ true) →
    some_connection test addr m ≡ true → (e : Entry) × (live_entry_at addr m ≡ Some e) × (test e ≡ true)
live-passes test addr m h live passes = by_find (find (λ e. same_address e.facts.addr addr && test e) m.connections) refl
  where
    by_find : (o : Option Entry) → find (λ e. same_address e.facts.addr addr && test e) m.connections ≡ o → (e : Entry) × (live_entry_at addr m ≡ Some e) × (test e ≡ true)
    by_find None is = absurd (both_ways (some_connection test addr m) (list_any_none _ m.connections (find_none _ m.connections is)) passes)
    by_find (Some e) is =
        let at : FoundIn (λ x. same_address x.facts.addr addr && test x) m.connections e = find_some (λ x. same_address x.facts.addr addr && test x) m.connections e is in
        let parts = and_parts (same_address e.facts.addr addr) (test e) at.passes in (
          e,
          subst (λ a. live_entry_at a m ≡ Some e) (same_address-true e.facts.addr addr parts.0)
              (live_here m e at.place h.orderly at.stands (live e at.place at.stands parts.1)),
          parts.1,
        )

pub free-may : (addr : Addr) (m : Machine) → IsOrdered m → (not (some_connection is_any addr m) || some_connection (λ e. is_acquirable e.facts) addr m) ≡ true →
    IsFree (live_entry_at addr m) addr m
free-may addr m h either = by_bool (some_connection is_any addr m)
    (λ b. (not b || some_connection (λ e. is_acquirable e.facts) addr m) ≡ true → IsFree (live_entry_at addr m) addr m)
    (λ any takes.
    let taken = live-passes (λ e. is_acquirable e.facts) addr m h (λ e k s free. negotiated-live e.facts.phase (can_acquire e.facts free).negotiated) takes in
    subst (λ o. IsFree o addr m) (sym taken.1) taken.2)
    (λ none free. let nobody = unmet addr m.connections none in subst (λ o. IsFree o addr m) (sym nobody.0) nobody.1) either
