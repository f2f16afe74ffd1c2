-- What ties a peer to the live connection of its address, through each change of either.
use Rattle.std.proofs.Common.{ℕ, ◌≡◌, Bool, true, false, cond, ◌&&◌, if◌then◌else◌, List, [], ◌∷◌, ◌++◌, get_or, find, Option, Some, None, is_some, refl, sym, ap, ◌∙◌, subst, arith}
use Rattle.laws.proofs.Words.{both_ways, false≢true, and_from, false_from_ne_true, find-append}
use Rattle.laws.specs.Words.{same_address, Addr, Facts, Peer, is_live, is_live_at, has_address, without_peer, new_peer, entered, Machine, Entry, live_entry_at, peer_at, turns_at, peer_changes, with_entry, without_entry}
use Rattle.peer_book.specs.Book.{peer_at as peer_in, with_peer as with_peer_in, with_new as with_new_in}
use Rattle.laws.specs.Laws.{LiveAddressesDistinct}
use Rattle.laws.specs.Sound.{IsOrderly}
use Rattle.laws.specs.Steady.{TiedBy, IsTied}
use Rattle.laws.proofs.Addresses.{same_address-self, same_address-true}
use Rattle.laws.proofs.Entries.{TurnsInto, turned-connections, gone-connections, with_new}
use Rattle.laws.proofs.Finds.{find-set_other, find-set_here, find-set_gone, find-remove_other, find-remove_here}
use Rattle.laws.proofs.Lists.{StandsAt, OnePasses, find_some, find_only}
use Rattle.laws.proofs.PeersApart.{same_turned, entered-cases}
use Rattle.laws.proofs.Cases.{by_bool}

-- ---- all but one address stay

pub tied_but : (a : Addr) (m n : Machine) → n.now ≡ m.now →
    ((b : Addr) → same_address b a ≡ false → peer_at b n ≡ peer_at b m) →
    ((b : Addr) → same_address b a ≡ false → live_entry_at b n ≡ live_entry_at b m) →
    TiedBy n.now (peer_at a n) (live_entry_at a n) → IsTied m → IsTied n
tied_but a m n now peers lives here h b = by_bool (same_address b a) (λ c. TiedBy n.now (peer_at b n) (live_entry_at b n))
    (λ e. subst (λ x. TiedBy n.now (peer_at x n) (live_entry_at x n)) (sym (same_address-true b a e)) here)
    (λ e.
    subst (λ t. TiedBy t (peer_at b n) (live_entry_at b n)) (sym now)
    (subst (λ o. TiedBy m.now o (live_entry_at b n)) (sym (peers b e)) (subst (λ o. TiedBy m.now (peer_at b m) o) (sym (lives b e)) (h b))))

-- ---- the live connection of an address

-- at most one is
pub live_one : (addr : Addr) (m : Machine) → LiveAddressesDistinct m → OnePasses (λ e. is_live_at addr e.facts) m.connections
live_one addr m h i j d before inside here =
    let e : Entry = get_or m.connections i d in
    let f : Entry = get_or m.connections j d in
    grind (arith, here, h i j d before inside, same_address-true e.facts.addr addr, same_address-true f.facts.addr addr)

pub live_here : (m : Machine) (e : Entry) (k : ℕ) → IsOrderly m → StandsAt m.connections k e → is_live e.facts ≡ true → live_entry_at e.facts.addr m ≡ Some e
live_here m e k h s live = grind (arith, find_only, live_one, same_address-self)

not_at : (f : Facts) (b : Addr) → same_address b f.addr ≡ false → is_live_at b f ≡ false
not_at f b h = ap (λ x. x && is_live f) (same_turned b f.addr h)

not_live : (f : Facts) (b : Addr) → is_live f ≡ false → is_live_at b f ≡ false
not_live f b h = grind arith

-- the connection that is found there once one of that address has changed
abbrev pub live_of : Entry → Option Entry
live_of new = if is_live new.facts then Some new else None

pub turned_elsewhere : (m : Machine) (e new : Entry) (k : ℕ) → IsOrderly m → StandsAt m.connections k e → TurnsInto e new → (b : Addr) →
    same_address b e.facts.addr ≡ false → live_entry_at b (with_entry new m) ≡ live_entry_at b m
turned_elsewhere m e new k h s t b other = grind (arith, turned-connections m e new k h s t, find-set_other, not_at)

stays_dead : (e new : Entry) → TurnsInto e new → is_live e.facts ≡ false → is_live new.facts ≡ false
stays_dead e new t dead = false_from_ne_true (is_live new.facts) (λ live. both_ways (is_live e.facts) dead (t.live live))

pub turned_dead : (m : Machine) (e new : Entry) (k : ℕ) → IsOrderly m → StandsAt m.connections k e → TurnsInto e new → is_live e.facts ≡ false →
    (b : Addr) → live_entry_at b (with_entry new m) ≡ live_entry_at b m
turned_dead m e new k h s t dead b =
    ap (find (λ x. is_live_at b x.facts)) (turned-connections m e new k h s t)
    ∙ find-set_other (λ x. is_live_at b x.facts) new e m.connections k s (not_live e.facts b dead) (not_live new.facts b (stays_dead e new t dead))

pub turned_here : (m : Machine) (e new : Entry) (k : ℕ) → IsOrderly m → StandsAt m.connections k e → TurnsInto e new → is_live e.facts ≡ true →
    live_entry_at e.facts.addr (with_entry new m) ≡ live_of new
turned_here m e new k h s t live = grind (arith, same_address-self e.facts.addr, turned-connections m e new k h s t, live_one e.facts.addr m h.addresses, find-set_here, find-set_gone, not_live)

pub gone_elsewhere : (m : Machine) (e : Entry) (k : ℕ) → IsOrderly m → StandsAt m.connections k e → (b : Addr) →
    same_address b e.facts.addr ≡ false → live_entry_at b (without_entry e.facts.cid.0 m) ≡ live_entry_at b m
gone_elsewhere m e k h s b other = grind (arith, gone-connections m e k h s, find-remove_other, not_at)

pub gone_dead : (m : Machine) (e : Entry) (k : ℕ) → IsOrderly m → StandsAt m.connections k e → is_live e.facts ≡ false →
    (b : Addr) → live_entry_at b (without_entry e.facts.cid.0 m) ≡ live_entry_at b m
gone_dead m e k h s dead b = grind (arith, gone-connections m e k h s, find-remove_other (λ x. is_live_at b x.facts) e m.connections k s (not_live e.facts b dead), not_live e.facts b dead)

pub gone_here : (m : Machine) (e : Entry) (k : ℕ) → IsOrderly m → StandsAt m.connections k e → is_live e.facts ≡ true →
    live_entry_at e.facts.addr (without_entry e.facts.cid.0 m) ≡ None
gone_here m e k h s live = grind (arith, gone-connections, find-remove_here, live_one, same_address-self)

-- ---- the peer of an address

pub peer_elsewhere : (new : Peer) (b : Addr) (ps : List Peer) → same_address b new.addr ≡ false → peer_in b (with_peer_in new ps) ≡ peer_in b ps
peer_elsewhere new b [] other = refl
peer_elsewhere new b (p ∷ ps) other = grind (arith, peer_elsewhere new b ps other, same_address-true p.addr new.addr, same_turned b new.addr other)

pub peer_here : (new p : Peer) (ps : List Peer) → peer_in new.addr ps ≡ Some p → peer_in new.addr (with_peer_in new ps) ≡ Some new
peer_here new p [] found = absurd cc
peer_here new p (q ∷ ps) found = grind (arith, same_address-self new.addr, peer_here new p ps)

pub found-addr : (a : Addr) (ps : List Peer) (p : Peer) → peer_in a ps ≡ Some p → p.addr ≡ a
found-addr a ps p found = grind (arith, find_some (has_address a) ps p found, same_address-true)

-- ---- changes

-- a connection changes
pub turned-ties : (m : Machine) (e new : Entry) (k : ℕ) → IsOrderly m → StandsAt m.connections k e → TurnsInto e new →
    (is_live e.facts ≡ true → (o : Option Peer) → peer_at e.facts.addr m ≡ o → TiedBy m.now o (Some e) → TiedBy m.now o (live_of new)) → IsTied m → IsTied (with_entry new m)
turned-ties m e new k h s t step ties = by_bool (is_live e.facts) (λ b. IsTied (with_entry new m))
    (λ live.
    tied_but e.facts.addr m (with_entry new m) refl (λ b other. refl) (turned_elsewhere m e new k h s t)
    (grind (arith, turned_here m e new k h s t live, step live (peer_at e.facts.addr m) refl, live_here m e k h s live, ties e.facts.addr)) ties)
    (λ dead b. grind (arith, turned_dead m e new k h s t dead b, ties b))

-- a connection goes
pub gone-ties : (m : Machine) (e : Entry) (k : ℕ) → IsOrderly m → StandsAt m.connections k e →
    (is_live e.facts ≡ true → e.facts.local ≡ false) → IsTied m → IsTied (without_entry e.facts.cid.0 m)
gone-ties m e k h s unused ties = by_bool (is_live e.facts) (λ b. IsTied (without_entry e.facts.cid.0 m))
    (λ live.
    tied_but e.facts.addr m (without_entry e.facts.cid.0 m) refl (λ b other. refl) (gone_elsewhere m e k h s)
    (grind (arith, gone_here m e k h s live, live_here m e k h s live, unused live, ties e.facts.addr)) ties)
    (λ dead b. grind (arith, gone_dead m e k h s dead b, ties b))

-- A peer changes, from one record to another in which its connection may have changed too.
pub changed-ties : (a : Addr) (change : Peer → Peer) (m n : Machine) → ((p : Peer) → (change p).addr ≡ p.addr) → n.now ≡ m.now → n.peers ≡ m.peers →
    ((b : Addr) → same_address b a ≡ false → live_entry_at b n ≡ live_entry_at b m) →
    (peer_at a m ≡ None → TiedBy m.now None (live_entry_at a m) → TiedBy m.now None (live_entry_at a n)) →
    ((p : Peer) → peer_at a m ≡ Some p → TiedBy m.now (Some p) (live_entry_at a m) → TiedBy m.now (Some (change p)) (live_entry_at a n)) →
    IsTied m → IsTied (peer_changes a change n).machine
changed-ties a change m n same now peers lives alone step ties = by_peer (peer_at a n) refl
  where
    book : (b : Addr) → peer_at b n ≡ peer_at b m
    book b = ap (peer_in b) peers

    was : (o : Option Peer) → peer_at a n ≡ o → TiedBy m.now o (live_entry_at a m)
    was o is = subst (λ x. TiedBy m.now x (live_entry_at a m)) (sym (book a) ∙ is) (ties a)

    by_peer : (o : Option Peer) → peer_at a n ≡ o → IsTied (turns_at o change n).machine
    by_peer None is =
        tied_but a m n now (λ b other. book b) lives
        (subst (λ t. TiedBy t (peer_at a n) (live_entry_at a n)) (sym now) (subst (λ o. TiedBy m.now o (live_entry_at a n)) (sym is) (alone (sym (book a) ∙ is) (was None is)))) ties
    by_peer (Some p) is =
        let new : Peer = change p in
        let here : new.addr ≡ a = same p ∙ found-addr a n.peers p is in
        let o : Machine = (turns_at (Some p) change n).machine in
        let found : peer_at a o ≡ Some new =
        subst (λ x. peer_in x (with_peer_in new n.peers) ≡ Some new) here (peer_here new p n.peers (subst (λ x. peer_in x n.peers ≡ Some p) (sym here) is)) in
        tied_but a m o now
        (λ b other. peer_elsewhere new b n.peers (subst (λ x. same_address b x ≡ false) (sym here) other) ∙ book b) lives
        (subst (λ t. TiedBy t (peer_at a o) (live_entry_at a o)) (sym now)
        (subst (λ q. TiedBy m.now q (live_entry_at a n)) (sym found) (step p (sym (book a) ∙ is) (was (Some p) is)))) ties

-- ---- a peer comes, and one goes

pub put_in-elsewhere : (new : Peer) (b : Addr) (ps : List Peer) → same_address b new.addr ≡ false → peer_in b (with_new_in new ps) ≡ peer_in b ps
put_in-elsewhere new b [] other = rw (same_turned b new.addr other) refl
put_in-elsewhere new b (p ∷ ps) other = grind (arith, same_turned b new.addr other, put_in-elsewhere new b ps other)

pub put_in-here : (new : Peer) (ps : List Peer) → peer_in new.addr ps ≡ None → peer_in new.addr (with_new_in new ps) ≡ Some new
put_in-here new [] none = rw (same_address-self new.addr) refl
put_in-here new (p ∷ ps) none = grind (arith, put_in-here new ps, same_address-self new.addr)

pub none_there : (o : Option Peer) → is_some o ≡ false → o ≡ None
none_there None h = refl
none_there (Some p) h = absurd (false≢true (sym h))

-- a cold one, which is not asked anything
new-tied : (big : Bool) (addr : Addr) (now : ℕ) (o : Option Entry) → TiedBy now None o → TiedBy now (Some (new_peer big addr)) o
new-tied big addr now o tie = grind arith

pub comes-ties : (big : Bool) (addr : Addr) (m : Machine) → IsTied m → IsTied (record m { peers = entered (new_peer big addr) m.peers })
comes-ties big addr m ties = entered-cases (new_peer big addr) m.peers (λ ps. IsTied (record m { peers = ps })) ties
    (λ none room.
    let unknown : peer_in addr m.peers ≡ None = none_there (peer_in addr m.peers) none in
    tied_but addr m (record m { peers = with_new_in (new_peer big addr) m.peers }) refl (λ b other. put_in-elsewhere (new_peer big addr) b m.peers other) (λ b other. refl)
    (grind (arith, put_in-here (new_peer big addr) m.peers unknown, new-tied big addr m.now (live_entry_at addr m), unknown, ties addr)) ties)

pub taken-elsewhere : (addr b : Addr) (ps : List Peer) → same_address b addr ≡ false → peer_in b (without_peer addr ps) ≡ peer_in b ps
taken-elsewhere addr b [] other = refl
taken-elsewhere addr b (p ∷ ps) other = grind (arith, taken-elsewhere addr b ps other, same_address-true p.addr addr, same_turned b addr other)

pub taken-here : (addr : Addr) (ps : List Peer) → peer_in addr (without_peer addr ps) ≡ None
taken-here addr [] = refl
taken-here addr (p ∷ ps) = grind (arith, taken-here addr ps)

pub taken-ties : (addr : Addr) (m : Machine) → TiedBy m.now None (live_entry_at addr m) → IsTied m → IsTied (record m { peers = without_peer addr m.peers })
taken-ties addr m alone ties =
    tied_but addr m (record m { peers = without_peer addr m.peers }) refl (λ b other. taken-elsewhere addr b m.peers other) (λ b other. refl)
    (subst (λ o. TiedBy m.now o (live_entry_at addr m)) (sym (taken-here addr m.peers)) alone) ties

-- ---- a connection comes

pub find-push_other : {X : Type 0} (p : X → Bool) (new : X) (xs : List X) → p new ≡ false → find p (xs ++ new ∷ []) ≡ find p xs
find-push_other p new [] h = rw h refl
find-push_other p new (x ∷ xs) h = ap (λ o. cond (p x) (Some x) o) (find-push_other p new xs h)

pub find-push_here : {X : Type 0} (p : X → Bool) (new : X) (xs : List X) → find p xs ≡ None → p new ≡ true → find p (xs ++ new ∷ []) ≡ Some new
find-push_here p new xs none h = grind (arith, find-append)

pub come_elsewhere : (m : Machine) (new : Entry) (b : Addr) → same_address b new.facts.addr ≡ false → live_entry_at b (with_new new m) ≡ live_entry_at b m
come_elsewhere m new b other = find-push_other (λ e. is_live_at b e.facts) new m.connections (not_at new.facts b other)

pub come-ties : (m : Machine) (new : Entry) → is_live new.facts ≡ true → live_entry_at new.facts.addr m ≡ None →
    (TiedBy m.now (peer_at new.facts.addr m) None → TiedBy m.now (peer_at new.facts.addr m) (Some new)) → IsTied m → IsTied (with_new new m)
come-ties m new live none step ties =
    let a : Addr = new.facts.addr in
    let here = find-push_here (λ e. is_live_at a e.facts) new m.connections none (and_from (same_address a a) (is_live new.facts) (same_address-self a) live) in
    tied_but a m (with_new new m) refl (λ b other. refl) (λ b other. come_elsewhere m new b other) (grind (arith, here, step, none, ties a)) ties

-- a change at one address leaves the peers of all others
pub turns_at-elsewhere : (a : Addr) (change : Peer → Peer) (m : Machine) → ((p : Peer) → (change p).addr ≡ p.addr) → (b : Addr) → same_address b a ≡ false →
    peer_at b (peer_changes a change m).machine ≡ peer_at b m
turns_at-elsewhere a change m same b other = grind (arith, found-addr a m.peers, same, other, peer_elsewhere)
