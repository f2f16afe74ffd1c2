-- The laws on peers, from what ties them to connections.
use Rattle.std.proofs.Common.{ℕ, ◌≤◌, ◌≡◌, true, false, ◌&&◌, ◌||◌, Option, Some, None, refl, sym, ap, ◌∙◌, subst, arith}
use Rattle.laws.proofs.Words.{both_ways, false≢true, and_from}
use Rattle.laws.specs.Words.{Addr, Peer, is_negotiated, is_pending, is_live_at, Machine, Entry, live_entry_at, peer_at}
use Rattle.laws.specs.Laws.{is_established_peer, is_cold_peer, is_used_connection, is_pending_connection, EstablishedAreUsed, PendingAreCold, UsedAreOutOfBackOff}
use Rattle.laws.specs.Records.{LocalsAreEstablished, HotAreUsed, IsLawfulRecord}
use Rattle.laws.specs.Steady.{IsShaped, IsFormed, IsSteady, TiedBy}
use Rattle.laws.proofs.Lists.{FoundIn, find_some, All-stands, all-standing}
use Rattle.laws.proofs.Moments.{waits-ahead}
use Rattle.laws.proofs.Shapes.{local-negotiated}
use Rattle.laws.proofs.Ties.{live_here}
use Rattle.laws.proofs.WholeMoves.{pending-unnegotiated, negotiated-live}
use Rattle.laws.proofs.Cases.{by_option}

-- the live connection of an address is in shape
abbrev IsShapedBy : Option Entry → Type 0
IsShapedBy None = Unit {0}
IsShapedBy (Some e) = IsShaped e.facts

live-shaped : (addr : Addr) (m : Machine) → IsFormed m → IsShapedBy (live_entry_at addr m)
live-shaped addr m h = by_option (live_entry_at addr m) (λ o. IsShapedBy o)
    (λ is. tt)
    (λ e is.
    let at : FoundIn (λ x. is_live_at addr x.facts) m.connections e = find_some (λ x. is_live_at addr x.facts) m.connections e is in
    All-stands (λ x. IsShaped x.facts) m.connections at.place e at.stands h.shaped)

-- what is in local use is negotiated
used_is_local : (e : Entry) → IsShaped e.facts → (is_negotiated e.facts && e.facts.local) ≡ e.facts.local
used_is_local e shape = grind (arith, λ (is : is_negotiated e.facts ≡ false). (shape.unused is).local)

established-used : (now : ℕ) (p : Option Peer) (e : Option Entry) → IsShapedBy e → TiedBy now p e → is_established_peer p ≡ is_used_connection e
established-used now None None shape tie = refl
established-used now (Some p) None shape tie = tie
established-used now None (Some e) shape tie = sym tie.unused ∙ sym (used_is_local e shape)
established-used now (Some p) (Some e) shape tie = tie.established ∙ sym (used_is_local e shape)

pending-cold : (now : ℕ) (p : Option Peer) (e : Option Entry) → IsShapedBy e → TiedBy now p e → is_pending_connection e ≡ true → is_cold_peer p ≡ true
pending-cold now p None shape tie pending = absurd (false≢true pending)
pending-cold now None (Some e) shape tie pending = absurd (both_ways (is_pending e.facts) tie.not_dialed pending)
pending-cold now (Some p) (Some e) shape tie pending = grind (arith, tie.established, (shape.unused (pending-unnegotiated e.facts pending)).local)

used-rested : (now : ℕ) (p : Peer) (e : Option Entry) → TiedBy now (Some p) e → (is_used_connection e || is_pending_connection e) ≡ true → p.not_before ≤ now
used-rested now p None tie either = absurd (false≢true either)
used-rested now p (Some e) tie either = grind (arith, tie.in_use, tie.on_its_way, either)

pub steady-established : (m : Machine) → IsSteady m → EstablishedAreUsed m
steady-established m h addr = established-used m.now (peer_at addr m) (live_entry_at addr m) (live-shaped addr m h.formed) (h.tied addr)

pub steady-pending : (m : Machine) → IsSteady m → PendingAreCold m
steady-pending m h addr pending = pending-cold m.now (peer_at addr m) (live_entry_at addr m) (live-shaped addr m h.formed) (h.tied addr) pending

pub steady-back_off : (m : Machine) → IsSteady m → UsedAreOutOfBackOff m
steady-back_off m h addr p found either = search (arith, used-rested)

-- ---- the record

steady-hot : (m : Machine) → IsSteady m → HotAreUsed m
steady-hot m h addr hot =
    let established : is_established_peer (peer_at addr m) ≡ true = grind (arith, hot) in sym (steady-established m h addr) ∙ established

-- what is in local use is live, and so the live connection of its address
steady-local : (m : Machine) → IsSteady m → LocalsAreEstablished m
steady-local m h = all-standing (λ e. e.facts.local ≡ true → is_established_peer (peer_at e.facts.addr m) ≡ true) m.connections
    (λ e k s local.
    let shape : IsShaped e.facts = All-stands (λ x. IsShaped x.facts) m.connections k e s h.formed.shaped in
    let negotiated : is_negotiated e.facts ≡ true = local-negotiated e.facts shape local in
    let here : live_entry_at e.facts.addr m ≡ Some e = live_here m e k h.sound.orderly s (negotiated-live e.facts.phase negotiated) in
    steady-established m h e.facts.addr ∙ (ap is_used_connection here ∙ and_from (is_negotiated e.facts) e.facts.local negotiated local))

pub steady-lawful : (m : Machine) → IsSteady m → IsLawfulRecord m
steady-lawful m h = search (steady-hot, steady-local, steady-established, steady-pending, steady-back_off, waits-ahead)
