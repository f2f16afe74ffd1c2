-- Who comes up in a part of a step: one is used or on its way to it, is hot or asked to become so, or is known.
use Rattle.std.proofs.Common.{ℕ, ◌≡◌, Bool, true, false, cond, ◌||◌, List, [], ◌∷◌, ◌++◌, find, Option, Some, None, is_some, refl, sym, ap, ◌∙◌, subst, arith}
use Rattle.laws.proofs.Words.{both_ways, false≢true, or_left, or_right, list_any-append}
use Rattle.laws.specs.Words.{option_map, list_any, same_address, Addr, Peer, is_live_at, without_peer, new_peer, entered, Machine, Entry, live_entry_at, Effect, Happened, then_do, as_move, peer_at, peer_changes, with_entry, without_entry}
use Rattle.peer_book.specs.Book.{peer_at as peer_in, with_new as with_new_in}
use Rattle.laws.specs.AtMoves.{is_up_connection, is_up, is_hot_peer, is_asked_connection, is_hot_or_asked, is_known}
use Rattle.laws.specs.Parts.{RisesBy}
use Rattle.laws.specs.Sound.{IsOrderly}
use Rattle.laws.proofs.Addresses.{same_address-true}
use Rattle.laws.proofs.Entries.{TurnsInto, with_new}
use Rattle.laws.proofs.Failures.{changed-found}
use Rattle.laws.proofs.Lists.{StandsAt}
use Rattle.laws.proofs.PeersApart.{same_turned, entered-cases}
use Rattle.laws.proofs.Ties.{live_here, turned_here, turned_elsewhere, turned_dead, gone_here, gone_elsewhere, gone_dead, put_in-elsewhere, put_in-here, none_there, taken-elsewhere, taken-here, turns_at-elsewhere}
use Rattle.laws.proofs.Cases.{by_bool, by_option}

-- ---- a move says so

pub rises_by_then : (is : Addr → Machine → Bool) (says : Addr → Happened → Bool) (m : Machine) (first : Effect) (next : Machine → Effect) → RisesBy is says m first →
    RisesBy is says first.machine (next first.machine) → RisesBy is says m (then_do first next)
rises_by_then is says m first next one two addr h = grind (arith, list_any-append)

pub more : (a b c : Bool) → (a || b) ≡ true → (a || (b || c)) ≡ true
more true b c is = refl
more false b c is = or_left b c is

-- more moves say more
pub rises_by_move : (is : Addr → Machine → Bool) (says : Addr → Happened → Bool) (happened : Happened) (m : Machine) (effect : Effect) → RisesBy is says m effect →
    RisesBy is says m (as_move happened m effect)
rises_by_move is says happened m effect rises addr h = grind (arith, list_any-append, more)

-- a move says of itself
said : (says : Addr → Happened → Bool) (happened : Happened) (m : Machine) (effect : Effect) (addr : Addr) → says addr happened ≡ true →
    list_any (λ move. says addr move.happened) (as_move happened m effect).moves ≡ true
said says happened m effect addr h = grind (arith, list_any-append)

-- only whom the move is of comes up
pub rises_said : (is : Addr → Machine → Bool) (says : Addr → Happened → Bool) (happened : Happened) (m : Machine) (effect : Effect) →
    ((addr : Addr) → says addr happened ≡ false → is addr effect.machine ≡ true → is addr m ≡ true) → RisesBy is says m (as_move happened m effect)
rises_said is says happened m effect others addr h = grind (arith, said)

-- ---- nobody comes up

-- Whoever is so after was so before.
abbrev pub StaysDown : (Addr → Machine → Bool) → Machine → Machine → Type 0
StaysDown is before after = (addr : Addr) → is addr after ≡ true → is addr before ≡ true

abbrev pub is_asked : Addr → Machine → Bool
is_asked addr m = is_asked_connection (live_entry_at addr m)

abbrev pub is_hot : Addr → Machine → Bool
is_hot addr m = is_hot_peer (peer_at addr m)

-- Nobody comes up by a change of the connections.
pub record NoneConnected (before after : Machine) : Type 0 where
  pub up : StaysDown is_up before after
  pub asked : StaysDown is_asked before after

pub or_each : (a b c d : Bool) → (a ≡ true → c ≡ true) → (b ≡ true → d ≡ true) → (a || b) ≡ true → (c || d) ≡ true
or_each true b c d one two h = or_left c d (one refl)
or_each false b c d one two h = or_right c d (two h)

pub hot_or_asked-down : (m n : Machine) → StaysDown is_hot m n → StaysDown is_asked m n → StaysDown is_hot_or_asked m n
hot_or_asked-down m n hot asked addr h = or_each (is_hot addr n) (is_asked addr n) (is_hot addr m) (is_asked addr m) (hot addr) (asked addr) h

pub rises_nowhere : (is : Addr → Machine → Bool) (says : Addr → Happened → Bool) (m : Machine) (effect : Effect) → StaysDown is m effect.machine → RisesBy is says m effect
rises_nowhere is says m effect down addr h = or_left (is addr m) (list_any (λ move. says addr move.happened) effect.moves) (down addr h)

-- ---- connections

-- what a test finds of the connection of an address
abbrev pub of_connection : (Option Entry → Bool) → Addr → Machine → Bool
of_connection q addr m = q (live_entry_at addr m)

pub same-connected : (m n : Machine) → n.connections ≡ m.connections → NoneConnected m n
same-connected m n same = grind arith

pub connected_then : (m n o : Machine) → NoneConnected m n → NoneConnected n o → NoneConnected m o
connected_then m n o one two = grind arith

-- the new one is up, or asked, only where the old one was
pub record IsNoHigher (old new : Entry) : Type 0 where
  pub up : is_up_connection (Some new) ≡ true → is_up_connection (Some old) ≡ true
  pub asked : is_asked_connection (Some new) ≡ true → is_asked_connection (Some old) ≡ true

pub turned-down : (q : Option Entry → Bool) → q None ≡ false → (m : Machine) (e new : Entry) (k : ℕ) → IsOrderly m → StandsAt m.connections k e → TurnsInto e new →
    (q (Some new) ≡ true → q (Some e) ≡ true) → StaysDown (of_connection q) m (with_entry new m)
turned-down q none m e new k h s t lower addr =
    grind (arith, none, lower, turned_dead m e new k h s t, turned_elsewhere m e new k h s t, turned_here m e new k h s t, live_here m e k h s, same_address-true addr e.facts.addr)

-- a connection turns
pub turned-connected : (m : Machine) (e new : Entry) (k : ℕ) → IsOrderly m → StandsAt m.connections k e → TurnsInto e new → IsNoHigher e new →
    NoneConnected m (with_entry new m)
turned-connected m e new k h s t lower = grind (arith, turned-down is_up_connection refl m e new k h s t lower.up, turned-down is_asked_connection refl m e new k h s t lower.asked)

gone-down : (q : Option Entry → Bool) → q None ≡ false → (m : Machine) (e : Entry) (k : ℕ) → IsOrderly m → StandsAt m.connections k e →
    StaysDown (of_connection q) m (without_entry e.facts.cid.0 m)
gone-down q none m e k h s addr =
    grind (arith, none, gone_dead m e k h s, gone_elsewhere m e k h s, gone_here m e k h s, live_here m e k h s, same_address-true addr e.facts.addr)

-- a connection goes
pub gone-connected : (m : Machine) (e : Entry) (k : ℕ) → IsOrderly m → StandsAt m.connections k e → NoneConnected m (without_entry e.facts.cid.0 m)
gone-connected m e k h s = grind (arith, gone-down is_up_connection refl m e k h s, gone-down is_asked_connection refl m e k h s)

pushed-down : {X : Type 0} (q : Option X → Bool) (p : X → Bool) (new : X) (xs : List X) → q None ≡ false → q (Some new) ≡ false →
    q (find p (xs ++ new ∷ [])) ≡ true → q (find p xs) ≡ true
pushed-down {X} q p new [] none lower is = by_bool (p new) (λ b. q (cond b (Some new) None) ≡ true → q None ≡ true)
    (λ here is. absurd (false≢true (sym lower ∙ is))) (λ here is. is) is
pushed-down {X} q p new (x ∷ xs) none lower is = by_bool (p x)
    (λ b. q (cond b (Some x) (find p (xs ++ new ∷ []))) ≡ true → (q (find p (xs ++ new ∷ [])) ≡ true → q (find p xs) ≡ true) → q (cond b (Some x) (find p xs)) ≡ true)
    (λ here is later. is) (λ here is later. later is) is (pushed-down q p new xs none lower)

-- a connection comes
pub come-down : (q : Option Entry → Bool) → q None ≡ false → (m : Machine) (new : Entry) → q (Some new) ≡ false → StaysDown (of_connection q) m (with_new new m)
come-down q none m new lower addr h = pushed-down q (λ e. is_live_at addr e.facts) new m.connections none lower h

-- ---- peers

-- a change that leaves the address, and makes no peer hot
pub record IsCooling (change : Peer → Peer) : Type 0 where
  pub addr : (p : Peer) → (change p).addr ≡ p.addr
  pub hot : (p : Peer) → is_hot_peer (Some (change p)) ≡ true → is_hot_peer (Some p) ≡ true

changed-down : (q : Option Peer → Bool) (a : Addr) (change : Peer → Peer) (m : Machine) → ((p : Peer) → (change p).addr ≡ p.addr) →
    ((p : Peer) → q (Some (change p)) ≡ true → q (Some p) ≡ true) → (b : Addr) → q (peer_at b (peer_changes a change m).machine) ≡ true → q (peer_at b m) ≡ true
changed-down q a change m same lower b = by_bool (same_address b a)
    (λ c. q (peer_at b (peer_changes a change m).machine) ≡ true → q (peer_at b m) ≡ true)
    (λ e. subst (λ x. q (peer_at x (peer_changes a change m).machine) ≡ true → q (peer_at x m) ≡ true) (sym (same_address-true b a e))
    (λ h. by_option (peer_at a m) (λ o. q (option_map change o) ≡ true → q o ≡ true) (λ is h. h) (λ p is h. lower p h) (ap q (sym (changed-found a change m same)) ∙ h)))
    (λ e h. ap q (sym (turns_at-elsewhere a change m same b e)) ∙ h)

pub changed-hot : (a : Addr) (change : Peer → Peer) (m : Machine) → IsCooling change → StaysDown is_hot m (peer_changes a change m).machine
changed-hot a change m cools = changed-down is_hot_peer a change m cools.addr cools.hot

pub changed-known : (a : Addr) (change : Peer → Peer) (m : Machine) → ((p : Peer) → (change p).addr ≡ p.addr) → StaysDown is_known m (peer_changes a change m).machine
changed-known a change m same = changed-down is_some a change m same (λ p known. refl)

-- an address comes into the book: at all others nothing changes, and a peer that is new there is cold
entered-down : (q : Option Peer → Bool) (new : Peer) (ps : List Peer) (b : Addr) → (same_address new.addr b ≡ true → q (Some new) ≡ false) →
    q (peer_in b (entered new ps)) ≡ true → q (peer_in b ps) ≡ true
entered-down q new ps b lower = entered-cases new ps (λ qs. q (peer_in b qs) ≡ true → q (peer_in b ps) ≡ true) (λ is. is)
    (λ none room. comes (none_there (peer_in new.addr ps) none) (same_address new.addr b) refl)
  where
    comes : peer_in new.addr ps ≡ None → (c : Bool) → same_address new.addr b ≡ c → q (peer_in b (with_new_in new ps)) ≡ true → q (peer_in b ps) ≡ true
    comes none true e is = grind (arith, same_address-true new.addr b e, put_in-here new ps none)
    comes none false e is = ap q (sym (put_in-elsewhere new b ps (same_turned new.addr b e))) ∙ is

pub entered-hot : (big : Bool) (a : Addr) (m : Machine) → StaysDown is_hot m (record m { peers = entered (new_peer big a) m.peers })
entered-hot big a m addr h = entered-down is_hot_peer (new_peer big a) m.peers addr (λ same. refl) h

-- and whoever is known afterwards is the one that came, or was known
pub entered-known : (big : Bool) (a b : Addr) (m : Machine) → same_address a b ≡ false → is_known b (record m { peers = entered (new_peer big a) m.peers }) ≡ true →
    is_known b m ≡ true
entered-known big a b m other h = entered-down is_some (new_peer big a) m.peers b (λ same. absurd (both_ways (same_address a b) other same)) h

taken-down : (q : Option Peer → Bool) → q None ≡ false → (a : Addr) (ps : List Peer) (b : Addr) → q (peer_in b (without_peer a ps)) ≡ true → q (peer_in b ps) ≡ true
taken-down q none a ps b = grind (arith, taken-here a ps, same_address-true, taken-elsewhere)

-- a peer goes
pub taken-hot : (a : Addr) (m : Machine) → StaysDown is_hot m (record m { peers = without_peer a m.peers })
taken-hot a m addr h = taken-down is_hot_peer refl a m.peers addr h

pub taken-known : (a : Addr) (m : Machine) → StaysDown is_known m (record m { peers = without_peer a m.peers })
taken-known a m addr h = taken-down is_some refl a m.peers addr h
