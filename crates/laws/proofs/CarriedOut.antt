-- Each order does what it says, the book changes only where it is to, and accepting pauses where it must.
use Rattle.std.proofs.Common.{ℕ, ◌≡◌, Bool, true, false, ◌&&◌, nat_lt, if◌then◌else◌, [], ◌∷◌, find, set, Option, Some, None, is_some, refl, sym, ap, ◌∙◌, subst, arith}
use Rattle.laws.proofs.Words.{cond_both, and_parts, and_from}
use Rattle.laws.specs.Words.{Effect, option_map, pause_of, acquired, has_id, is_live, is_live_at, Order, Ask, Forget, Promote, Release, Activate, Deactivate, Addr, Peer, Cold, Warm, same_address, Cid, Facts, Pause, Overwritten, may_ask, with_entry, without_entry, lost, ending, acquire, trim, release, on_entry, admitted, closes, promote, is_used_at, on_used, deactivates, carries_out, Machine, Entry, counted_in, entry_at, live_entry_at, peer_at, turns_at, peer_changes}
use Rattle.laws.specs.AtMoves.{is_missed, FailsWhere, OnEntry}
use Rattle.laws.specs.CarriedOut.{WhereLive, OnPeer, Reuses, IsUsedByNobody, Comes, IsCarriedOut, TreatsBook, pauses_by, pauses_in, pauses_due, PausesRight}
use Rattle.laws.specs.Sound.{IsOrderly}
use Rattle.laws.specs.Acts.{Act, shows, asks_for_roots, connects, stores, is_closed, sets_targets, sets_big_targets, sets_groups, sets_roots, does}
use Rattle.laws.specs.Parts.{IsNext}
use Rattle.laws.proofs.Addresses.{same_address-true}
use Rattle.laws.proofs.Due.{promote-move, activate-move}
use Rattle.laws.proofs.Entries.{TurnsInto, turned-connections, turned-orderly}
use Rattle.laws.proofs.Failures.{changed-found, vanishes-failed}
use Rattle.laws.proofs.Finds.{find-set_gone}
use Rattle.laws.proofs.Lawful.{stands-found}
use Rattle.laws.proofs.Moments.{turned-found}
use Rattle.laws.proofs.Lists.{StandsAt, OnePasses, FoundIn, stands-set, find_some, find_only, find_none, not_below}
use Rattle.laws.proofs.Walk.{Finds, taken, release-machine, cooled, turned_by, is_released}
use Rattle.laws.proofs.Orders.{unused_at}
use Rattle.laws.proofs.Silent.{pauses-deaf, part-silent, asks-silent}
use Rattle.laws.proofs.Ties.{live_one, taken-here, turns_at-elsewhere}
use Rattle.laws.proofs.ToldMoves.{turns_at-connections}
use Rattle.laws.proofs.Trims.{trim-used}
use Rattle.laws.proofs.Cases.{by_option}
use Rattle.laws.proofs.Connects.{connects-cases}
use Rattle.laws.proofs.ItemCases.{trim-cases}

-- at most one connection of an address is in local use
pub used_one : (addr : Addr) (m : Machine) → IsOrderly m → OnePasses (is_used_at addr) m.connections
used_one addr m h i j d before inside here = search (arith, live_one, and_parts)

-- a change of a peer leaves the connections in order
pub changed-orderly : (o : Option Peer) (change : Peer → Peer) (m : Machine) → IsOrderly m → IsOrderly (turns_at o change m).machine
changed-orderly None change m h = h
changed-orderly (Some p) change m h = assumption

release-none : (addr : Addr) (m : Machine) → IsOrderly m → find (is_used_at addr) (on_used addr release m).machine.connections ≡ None
release-none addr m h = by_option (find (is_used_at addr) m.connections)
    (λ o. find (is_used_at addr) (on_entry o release m).machine.connections ≡ None)
    (λ is. is)
    (λ e is.
    let at : FoundIn (is_used_at addr) m.connections e = find_some (is_used_at addr) m.connections e is in
    let new : Entry = turned_by is_released e m in
    let t : TurnsInto e new = record { same_id = refl; same_addr = refl; live = λ l. l } in
    let cold : Peer → Peer = λ p. record p { temp = Cold } in
    let n : Machine = with_entry new m in
    let list : (cooled e m).connections ≡ set m.connections at.place new = turns_at-connections (peer_at e.facts.addr n) cold n ∙ turned-connections m e new at.place h at.stands t in
    let stands : StandsAt (cooled e m).connections at.place new = subst (λ es. StandsAt es at.place new) (sym list) (stands-set m.connections at.place new e at.stands) in
    ap (λ w. find (is_used_at addr) w.connections) (release-machine e m)
    ∙ (trim-used (is_used_at addr) (unused_at addr) e.facts.cid (cooled e m) new at.place
    (changed-orderly (peer_at e.facts.addr n) cold n (turned-orderly m e new at.place h at.stands t)) stands refl refl
    ∙ (ap (find (is_used_at addr)) list ∙ find-set_gone (is_used_at addr) new e m.connections at.place (used_one addr m h) at.stands at.passes (unused_at addr new refl))))

-- where none is found, no live one of the address is in local use
none-used : (addr : Addr) (m : Machine) → find (is_used_at addr) m.connections ≡ None → IsUsedByNobody addr m
none-used addr m none = search (arith, find_none)

-- ---- a peer that changes

-- what is found at its address is what it turned into
pub changed-here : (a : Addr) (change : Peer → Peer) (m : Machine) → ((p : Peer) → (change p).addr ≡ p.addr) → (law : Peer → Type 0) →
    ((p : Peer) → law (change p)) → OnPeer (peer_at a (peer_changes a change m).machine) law
changed-here a change m same law each = search (arith, changed-found)

-- ---- a connection that is taken into use

-- what a connection turns into is found in its place
pub turned-here : (m : Machine) (e new : Entry) (k : ℕ) → IsOrderly m → StandsAt m.connections k e → new.facts.cid ≡ e.facts.cid → entry_at e.facts.cid.0 (with_entry new m) ≡ Some new
turned-here m e new k h s same = turned-found e new m same ∙ ap (option_map (λ x. new)) (stands-found m e k h s)

reuses : (addr : Addr) (m : Machine) → IsOrderly m → Reuses addr m (promote addr m).machine
reuses addr m h e live free =
    let at = find_some (λ x. is_live_at addr x.facts) m.connections e live in
    let n : Machine = with_entry (taken (acquired e.facts) e m) m in
    let warm : Peer → Peer = λ p. record p { temp = Warm; failures = 0 } in
    let found : entry_at e.facts.cid.0 (acquire e m).machine ≡ Some (taken (acquired e.facts) e m) =
    ap (find (λ x. has_id e.facts.cid.0 x.facts)) (turns_at-connections (peer_at e.facts.addr n) warm n) ∙ turned-here m e (taken (acquired e.facts) e m) at.place h at.stands refl in
    rw (live, free) (record {
      stands = subst (λ o. OnEntry o (λ f. f.facts ≡ record e.facts { local = true })) (sym found) refl;
      warm = changed-here e.facts.addr warm n (λ p. refl) (λ p. p.temp ≡ Warm) (λ p. refl);
      forgiven = changed-here e.facts.addr warm n (λ p. refl) (λ p. p.failures ≡ 0) (λ p. refl);
    })

-- ---- a peer that an order finds in use

-- the live connection that is in use is the one that an order finds
pub used-here : (addr : Addr) (m : Machine) (e : Entry) → IsOrderly m → live_entry_at addr m ≡ Some e → e.facts.local ≡ true → find (is_used_at addr) m.connections ≡ Some e
used-here addr m e h live local =
    let at = find_some (λ x. is_live_at addr x.facts) m.connections e live in
    find_only (is_used_at addr) e m.connections at.place (used_one addr m h) at.stands (and_from (is_live_at addr e.facts) e.facts.local at.passes local)

address-here : (addr : Addr) (m : Machine) (e : Entry) → live_entry_at addr m ≡ Some e → e.facts.addr ≡ addr
address-here addr m e live =
    same_address-true e.facts.addr addr (and_parts (same_address e.facts.addr addr) (is_live e.facts) (find_some (λ x. is_live_at addr x.facts) m.connections e live).passes).0

-- what an order leaves of the peer of each connection holds at its own address
used-leaves : (addr : Addr) (act : Entry → Machine → Effect) (m : Machine) (law : Peer → Type 0) → IsOrderly m → ((e : Entry) → OnPeer (peer_at e.facts.addr (act e m).machine) law) →
    (e : Entry) → live_entry_at addr m ≡ Some e → e.facts.local ≡ true → OnPeer (peer_at addr (on_used addr act m).machine) law
used-leaves addr act m law h each e live local =
    subst (λ o. OnPeer (peer_at addr (on_entry o act m).machine) law) (sym (used-here addr m e h live local))
    (subst (λ a. OnPeer (peer_at a (act e m).machine) law) (address-here addr m e live) (each e))

-- ---- a peer that is released

-- one that is cold stays so when a connection is pruned
lost-cold : (a : Addr) (f : Facts) (m : Machine) → OnPeer (peer_at a m) (λ p. p.temp ≡ Cold) → OnPeer (peer_at a (lost f m).machine) (λ p. p.temp ≡ Cold)
lost-cold a f m cold = search (arith, changed-here, turns_at-elsewhere)

trim-cold : (a : Addr) (moved : Cid) (m : Machine) → OnPeer (peer_at a m) (λ p. p.temp ≡ Cold) → OnPeer (peer_at a (trim moved m).machine) (λ p. p.temp ≡ Cold)
trim-cold a moved m cold =
    trim-cases moved m (λ effect. OnPeer (peer_at a effect.machine) (λ p. p.temp ≡ Cold)) cold (λ e is. lost-cold a e.facts (without_entry e.facts.cid.0 m) cold)

releases-cools : (addr : Addr) (m : Machine) → IsOrderly m → Comes Cold addr m (carries_out (Release addr) m).machine
releases-cools addr m h = search (arith, used-leaves, release-machine, trim-cold, changed-here, is_released)

-- ---- the book

closed-book : (o : Option Entry) (m : Machine) → WhereLive o (λ e. FailsWhere (is_missed e.facts) e m (on_entry o closes m).machine)
closed-book None m = tt
closed-book (Some e) m = λ live. rw live (vanishes-failed e m)

pub treats-book : (act : Act) (m : Machine) → TreatsBook act m (does act m).machine
treats-book (shows t) m = refl
treats-book asks_for_roots m = cond_both (may_ask m.now m.targets.root m.roots) _ _ (λ (effect : Effect). effect.machine.peers ≡ m.peers) (λ too_few. refl) (λ enough. refl)
treats-book (connects addr) m = connects-cases addr m (λ effect. effect.machine.peers ≡ m.peers) (λ cause. refl) (λ room alone. refl) (λ room e is pending. refl)
treats-book (stores entry undecoded) m = refl
treats-book (is_closed cid) m = closed-book (entry_at cid.0 m) m
treats-book (sets_targets targets) m = refl
treats-book (sets_big_targets targets) m = refl
treats-book (sets_groups groups) m = refl
treats-book (sets_roots roots) m = refl
treats-book other m = tt

-- ---- the pause

notice-pauses : (b : Bool) (length : ℕ) → pauses_in (if b then Pause length ∷ [] else []) ≡ (if b then length ∷ [] else [])
notice-pauses true length = refl
notice-pauses false length = refl

admitted-pauses : (addr : Addr) (m : Machine) → pauses_in (admitted addr m).actions ≡ pauses_due m (admitted addr m).machine
admitted-pauses addr m = search (arith, notice-pauses)

nobody-pauses : (m : Machine) → [] ≡ pauses_due m m
nobody-pauses m = ap (λ b. if b && nat_lt m.settings.soft (counted_in m) then pause_of m.settings (counted_in m) ∷ [] else []) (sym (not_below m.next_id))

pub pauses-right : (act : Act) (m : Machine) → IsNext act m → Finds act m → PausesRight act m (does act m)
pauses-right (connects addr) m next found = connects-cases addr m (λ effect. pauses_in effect.actions ≡ pauses_due m effect.machine) (λ cause. nobody-pauses m)
    (λ room alone. admitted-pauses addr m) (λ room e is pending. admitted-pauses addr (ending Overwritten e m).machine)
pauses-right asks_for_roots m next found = asks-silent pauses_by (λ job. refl) m
pauses-right other m next found = part-silent pauses_by pauses-deaf (λ cid bytes. refl) other m tt next found

-- ---- each order

pub carried-out : (order : Order) (m : Machine) → IsOrderly m → IsCarriedOut order m (carries_out order m)
carried-out (Ask addr n) m h = search (arith, used-leaves, changed-here)
carried-out (Forget addr) m h = ap is_some (taken-here addr m.peers)
carried-out (Promote addr) m h = (promote-move addr m, reuses addr m h)
carried-out (Release addr) m h = (none-used addr (carries_out (Release addr) m).machine (release-none addr m h), releases-cools addr m h)
carried-out (Activate addr) m h = activate-move addr m
carried-out (Deactivate addr) m h = search (arith, used-leaves, changed-here)
