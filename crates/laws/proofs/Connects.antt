-- What comes of it where a peer connects, where a dial ends, and where the other side closes.
use Rattle.std.proofs.Common.{ℕ, ◌≡◌, Bool, true, false, nat_le, Some, None, eqb-true, arith}
use Rattle.laws.proofs.Words.{cond_both}
use Rattle.laws.specs.Words.{has_id, is_dialing, is_live, is_pending, same_address, Away, Overwritten, Addr, Cid, ending, vanishes, dial_opens, dial_fails, Effect, nothing_more, then_do, on_entry, turned_away, admitted, peer_connects, closes, peer_closes, dialed, dial_ends, Machine, Entry, counted_in, entry_at, live_entry_at}
use Rattle.laws.proofs.Cases.{by_option}
use Rattle.laws.proofs.Lists.{StandsAt, find_some}

-- not this node itself, and there is room
pub record HasRoom (addr : Addr) (m : Machine) : Type 0 where
  pub other : same_address addr m.settings.own ≡ false
  pub below : nat_le m.settings.hard (counted_in m) ≡ false

-- whoever connects is turned away, let in where nobody is live there, or let in where this node's own dial gives way
pub connects-cases : (addr : Addr) (m : Machine) (P : Effect → Type 0) → ((cause : Away) → P (turned_away cause m)) →
    (HasRoom addr m → live_entry_at addr m ≡ None → P (admitted addr m)) →
    (HasRoom addr m → (e : Entry) → live_entry_at addr m ≡ Some e → is_pending e.facts ≡ true → P (then_do (ending Overwritten e m) (admitted addr))) →
    P (peer_connects addr m)
connects-cases addr m P away alone crosses = grind (
  arith,
  away,
  λ (other : same_address addr m.settings.own ≡ false) (below : nat_le m.settings.hard (counted_in m) ≡ false). alone (record { other = other; below = below }),
  λ (other : same_address addr m.settings.own ≡ false) (below : nat_le m.settings.hard (counted_in m) ≡ false). crosses (record { other = other; below = below }),
)

-- a connection is there or not
pub stood-cases : (cid : Cid) (act : Entry → Machine → Effect) (m : Machine) (P : Effect → Type 0) → P (nothing_more m) →
    ((e : Entry) (k : ℕ) → StandsAt m.connections k e → e.facts.cid.0 ≡ cid.0 → P (act e m)) → P (on_entry (entry_at cid.0 m) act m)
stood-cases cid act m P none each = by_option (entry_at cid.0 m) (λ o. P (on_entry o act m)) (λ is. none)
    (λ e is. let at = find_some (λ x. has_id cid.0 x.facts) m.connections e is in each e at.place at.stands (eqb-true e.facts.cid.0 cid.0 at.passes))

-- a dial opens a connection or fails
pub dialed-cases : (cid : Cid) (opened : Bool) (m : Machine) (P : Effect → Type 0) → P (nothing_more m) →
    ((e : Entry) (k : ℕ) → StandsAt m.connections k e → is_dialing e.facts ≡ true → P (dial_opens e m)) →
    ((e : Entry) (k : ℕ) → StandsAt m.connections k e → is_dialing e.facts ≡ true → P (dial_fails e m)) → P (dial_ends cid opened m)
dialed-cases cid opened m P none opens fails = stood-cases cid (dialed opened) m P none (λ e k s own. grind (arith, none, opens e k s, fails e k s))

-- one that the other side closes goes
pub closes-cases : (cid : Cid) (m : Machine) (P : Effect → Type 0) → P (nothing_more m) →
    ((e : Entry) (k : ℕ) → StandsAt m.connections k e → e.facts.cid.0 ≡ cid.0 → P (vanishes e m)) → P (peer_closes cid m)
closes-cases cid m P none each = stood-cases cid closes m P none
    (λ e k s own. cond_both (is_live e.facts) (vanishes e m) (nothing_more m) P (λ live. each e k s own) (λ closed. none))
