-- A connection whose handshake is done: whatever comes in, the connections stay in order and within the limit.
use Rattle.std.proofs.Common.{ℕ, ◌+◌, [], ◌∷◌, is_some, ◌≤◌, ◌≡◌, Bool, true, false, ◌||◌, ◌==◌, if◌then◌else◌, List, find, Option, Some, None, Result, Ok, Err, refl, sym, ap, ◌∙◌, subst, arith, eqb-true}
use Rattle.laws.proofs.Words.{cond_both, or_right}
use Rattle.laws.specs.Words.{same_address, Fault, FaultKind, Protocol, UnknownId, Addr, Facts, Responders, Peer, Hot, awakened, idled, effective_of, has_responder, is_live, agreed_sharing, has_id, is_negotiated, runs, some_runs, Item, watched, seen_by_number, chain_sync_seen, block_fetch_seen, tx_submission_seen, keep_alive_seen, peer_sharing_seen, Reply, Seen, item_number_of, alive_of, share_of, Share, Machine, Entry, Owed, counted_in, entry_at, live_entry_at, Effect, shared, nothing_more, then_do, on_entry, on_connection, peer_at, peer_becomes, peer_comes, with_entry, entry_turns, ending, trim, awake, idle, replies, stops_if, serves, begins, takes_requests, shares_address, taken_of, takes_addresses, brings, talks, reply_on, without_reply, paid, Cid}
use Rattle.laws.specs.Words.reply
use Rattle.laws.proofs.Effects.{counted-running}
use Rattle.laws.proofs.Entries.{TurnsInto, turned-connections}
use Rattle.laws.specs.AtMoves.{IsLawful, is_up, is_asked_connection, is_hot_or_asked, is_known, promotes, activates, shares}
use Rattle.laws.proofs.KnownWanted.{takes-within}
use Rattle.laws.proofs.Lawful.{Accounts, IsQuiet, quiet-lawful, quiet-obeys, tells-quiet, comes-providing, shared-accounts, turns-obeys, IsAllowed, Within, allowed_within, as_move-obeys, stands-found}
use Rattle.laws.proofs.Keeping.{Keeps, keeps_nothing, moves_then, moves-keeps, keeps-moves, changes-moves, peer_comes-keeps}
use Rattle.laws.proofs.Lists.{StandsAt, stands-set, find_some}
use Rattle.laws.specs.Steady.{IsOrdered}
use Rattle.laws.proofs.Addresses.{same_address-true}
use Rattle.laws.proofs.Owing.{paid-some}
use Rattle.laws.proofs.Rises.{is_asked, is_hot, NoneConnected, rises_nowhere, same-connected, connected_then, IsNoHigher, turned-connected, changed-known}
use Rattle.laws.proofs.Telling.{told_then}
use Rattle.laws.proofs.ToldMoves.{turned-told, changes-told, turns_at-moves, turns_at-connections}
use Rattle.laws.proofs.Ties.{changed-ties, turned_here, turned_elsewhere, live_here, turns_at-elsewhere}
use Rattle.laws.proofs.Trims.{Trimmed, HasMoved, keeps-trimmed, ending-trimmed, nothing-trimmed, trimmed_both, trimmed_then, trimmed-within, raised_then_trimmed, trim-trims, for_each_that-trimmed}
use Rattle.laws.proofs.WholeMoves.{negotiated-live, awakes-keeps, idles-keeps, pays-keeps}
use Rattle.laws.proofs.OwnAddress.{IsOther, taken-other}
use Rattle.laws.proofs.Remains.{woken-runs as protocol-runs}
use Rattle.laws.proofs.Walk.{replies-machine, trim-found}
use Rattle.laws.proofs.Cases.{by_option, some_same}
use Rattle.laws.proofs.ItemCases.{talks-cases}

-- ---- only known protocols are answered

known_of : {X E : Type 0} (p u : E) (x : X) (r2 r3 r4 r8 r10 : Result X E) (z a b c d e : Bool) →
    (if z then Err p else if a then r2 else if b then r3 else if c then r4 else if d then r8 else if e then r10 else Err u) ≡ Ok x →
    (a || b || c || d || e) ≡ true
known_of p u x r2 r3 r4 r8 r10 true a b c d e h = absurd cc
known_of p u x r2 r3 r4 r8 r10 false false false false false false h = absurd cc
known_of p u x r2 r3 r4 r8 r10 z a b c d e h = refl

pub seen-known : (id : ℕ) (sharing : Bool) (item : List ℕ) (seen : Seen) → watched id sharing item ≡ Ok seen → has_responder id ≡ true
seen-known id sharing item seen h =
    known_of Protocol UnknownId seen (seen_by_number chain_sync_seen (item_number_of item)) (seen_by_number block_fetch_seen (item_number_of item))
    (seen_by_number tx_submission_seen (item_number_of item)) (keep_alive_seen (alive_of item))
    (if sharing then peer_sharing_seen (share_of item) else Err UnknownId) (id == 0) (id == 2) (id == 3) (id == 4) (id == 8) (id == 10) h

-- ---- a responder that starts runs

any_true : (x : Bool) → (x || true) ≡ true
any_true x = or_right x true refl

runs-some_by : (r : Responders) (a b c d e : Bool) →
    (if a then r.chain_sync else if b then r.block_fetch else if c then r.tx_submission else if d then r.keep_alive else if e then r.peer_sharing else false) ≡ true →
    some_runs r ≡ true
runs-some_by r a b c d e h = grind (arith, h)

pub runs-some : (protocol : ℕ) (r : Responders) → runs protocol r ≡ true → some_runs r ≡ true
runs-some protocol r h = runs-some_by r (protocol == 2) (protocol == 3) (protocol == 4) (protocol == 8) (protocol == 10) h

pub woken-runs : (protocol : ℕ) (f : Facts) → has_responder protocol ≡ true → some_runs (awakened protocol f).running ≡ true
woken-runs protocol f known = runs-some protocol (awakened protocol f).running (protocol-runs protocol f known)

-- ---- the other side asks

-- a negotiated connection that stands in a record within the limit
pub record Talking (m : Machine) (e : Entry) (k : ℕ) : Type 0 where
  pub ordered : IsOrdered m
  pub within : counted_in m ≤ m.settings.hard
  pub stands : StandsAt m.connections k e
  pub negotiated : is_negotiated e.facts ≡ true

ends : (kind : FaultKind) (m : Machine) (e : Entry) (k : ℕ) → Talking m e k → Trimmed IsLawful m (ending (Fault kind) e m)
ends kind m e k t =
    ending-trimmed (Fault kind) refl m e k t.ordered t.within t.stands (negotiated-live e.facts.phase t.negotiated) (λ negotiated. tt) tt

-- the record after a responder has started, and what is found in it
record Begun (cid : ℕ) (before : Machine) (effect : Effect) : Type 0 where
  trimmed : Trimmed IsLawful before effect
  runs : (x : Entry) → entry_at cid effect.machine ≡ Some x → some_runs x.facts.running ≡ true

found_is : (m : Machine) (e x : Entry) (k : ℕ) → IsOrdered m → StandsAt m.connections k e → entry_at e.facts.cid.0 m ≡ Some x → x ≡ e
found_is m e x k h s found = some_same x e (sym found ∙ stands-found m e k h.orderly s)

awake-begun : (protocol : ℕ) (m : Machine) (e : Entry) (k : ℕ) → Talking m e k → takes_requests e ≡ true → has_responder protocol ≡ true →
    Begun e.facts.cid.0 m (awake protocol e m)
awake-begun protocol m e k t serves known =
    let new : Entry = record e { facts = awakened protocol e.facts } in
    let n : Machine = with_entry new m in
    let turns : TurnsInto e new = record { same_id = refl; same_addr = refl; live = λ l. l } in
    let runs : some_runs new.facts.running ≡ true = woken-runs protocol e.facts known in
    let raised : Keeps 1 m n = awakes-keeps protocol m e k t.ordered t.stands t.negotiated serves runs in
    let here : StandsAt n.connections k new = subst (λ es. StandsAt es k new) (sym (turned-connections m e new k t.ordered.orderly t.stands turns)) (stands-set m.connections k new e t.stands) in
    let moved : HasMoved e.facts.cid n = record { entry = new; place = k; stands = here; same = refl; counted = counted-running new.facts t.negotiated runs } in
    record {
      trimmed = raised_then_trimmed IsLawful m (entry_turns e new m) (trim e.facts.cid) raised
          (turns-obeys IsLawful m e new k t.ordered.orderly t.stands turns (grind arith) (omega arith))
          (trim-trims e.facts.cid n raised.ordered (omega (arith, raised.counted, t.within)) (λ over. moved));
      runs = λ x found. grind (arith, runs, found_is n new x k raised.ordered here (trim-found e.facts.cid e.facts.cid.0 x n found));
    }

begins-begun : (protocol : ℕ) (m : Machine) (e : Entry) (k : ℕ) → Talking m e k → takes_requests e ≡ true → has_responder protocol ≡ true →
    Begun e.facts.cid.0 m (begins protocol e m)
begins-begun protocol m e k t takes known = cond_both (runs protocol e.facts.running) _ _ (Begun e.facts.cid.0 m)
    (λ running. record {
      trimmed = nothing-trimmed IsLawful m t.within t.ordered;
      runs = λ x found. ap (λ y. some_runs y.facts.running) (found_is m e x k t.ordered t.stands found) ∙ runs-some protocol e.facts.running running;
    })
    (λ silent. awake-begun protocol m e k t takes known)

-- what is told is no matter of the connections either
pub replies-quiet : (r : Reply) (protocol : ℕ) (e : Entry) (m : Machine) → IsQuiet m (replies r protocol e m)
replies-quiet reply.Nothing protocol e m = tells-quiet (replies reply.Nothing protocol e m).actions m refl
replies-quiet other protocol e m = tells-quiet (replies other protocol e m).actions m refl

stops_if-trimmed : (done : Bool) (protocol : ℕ) (m : Machine) (e : Entry) (k : ℕ) → IsOrdered m → counted_in m ≤ m.settings.hard →
    StandsAt m.connections k e → some_runs e.facts.running ≡ true → Trimmed IsLawful m (stops_if done protocol e m)
stops_if-trimmed false protocol m e k h within s running = nothing-trimmed IsLawful m within h
stops_if-trimmed true protocol m e k h within s running =
    keeps-trimmed IsLawful m (idle protocol e m) within (idles-keeps protocol m e k h s running)
    (turns-obeys IsLawful m e (record e { facts = idled protocol (m.now + m.settings.idle) e.facts }) k h.orderly s
    (record { same_id = refl; same_addr = refl; live = λ l. l }) (record { up = λ up. up; asked = λ asked. asked }) (omega arith))

serves-trimmed : (seen : Seen) (protocol : ℕ) (cid : Cid) (m : Machine) → IsOrdered m → counted_in m ≤ m.settings.hard →
    ((x : Entry) → entry_at cid.0 m ≡ Some x → some_runs x.facts.running ≡ true) →
    Trimmed IsLawful m (on_connection cid (serves seen protocol) m)
serves-trimmed seen protocol cid m h within running = by_option (entry_at cid.0 m) (λ o. Trimmed IsLawful m (on_entry o (serves seen protocol) m))
    (λ is. nothing-trimmed IsLawful m within h)
    (λ e is.
    let at = find_some (λ y. has_id cid.0 y.facts) m.connections e is in
    let first : Effect = replies seen.reply protocol e m in
    let same = replies-machine seen.reply protocol e m in
    trimmed_then IsLawful m first (stops_if seen.done protocol e)
    (keeps-trimmed IsLawful m first within (grind (arith, same, keeps_nothing m h)) (quiet-obeys IsLawful m first (replies-quiet seen.reply protocol e m)))
    (grind (arith, same, stops_if-trimmed seen.done protocol m e at.place h within at.stands (running e is))))

asked-trimmed : (item : Item) (seen : Seen) (m : Machine) (e : Entry) (k : ℕ) → watched item.id (agreed_sharing e.facts.agreed) item.body ≡ Ok seen → takes_requests e ≡ true →
    Talking m e k → Trimmed IsLawful m (then_do (begins item.id e m) (on_connection e.facts.cid (serves seen item.id)))
asked-trimmed item seen m e k is takes t =
    let first : Effect = begins item.id e m in
    let begun : Begun e.facts.cid.0 m first = begins-begun item.id m e k t takes (seen-known item.id (agreed_sharing e.facts.agreed) item.body seen is) in
    trimmed_then IsLawful m first (on_connection e.facts.cid (serves seen item.id)) begun.trimmed
    (serves-trimmed seen item.id e.facts.cid first.machine begun.trimmed.ordered (trimmed-within IsLawful m first begun.trimmed) begun.runs)

-- ---- the other side answers

shared-trimmed : (addr : Addr) (m : Machine) → IsOrdered m → counted_in m ≤ m.settings.hard → IsOther m.settings addr →
    Trimmed IsAllowed m (shares_address addr m)
shared-trimmed addr m h within other =
    keeps-trimmed IsAllowed m (shares_address addr m) within (peer_comes-keeps false addr m h other (λ local. refl))
    (as_move-obeys IsAllowed (shared addr) m (peer_comes false addr m) (comes-providing false addr m).moves (record { back_off = tt; cause = tt })
    (shared-accounts false addr m))

takes-trimmed : (o : Option Share) (m : Machine) → IsOrdered m → counted_in m ≤ m.settings.hard → Trimmed IsLawful m (takes_addresses o m)
takes-trimmed o m h within =
    let each = λ (told : List Addr). for_each_that-trimmed IsAllowed IsOther shares_address (shared-trimmed) (taken_of told m) m h within
    (taken-other m.settings (effective_of m.targets m.now).known m.peers told) in
    trimmed_both IsAllowed Within IsLawful (allowed_within) m (takes_addresses o m) (grind (arith, each, nothing-trimmed IsAllowed m within h)) (takes-within o m)

-- what is asked of a peer is answered: it is hot
paid-none : (owed : List Owed) → is_some (find (λ o. o.protocol == 2) (without_reply 2 owed)) ≡ false
paid-none [] = refl
paid-none (o ∷ owed) = grind (arith, paid-none owed)

hot-keeps : (m : Machine) (e : Entry) (k : ℕ) → IsOrdered m → StandsAt m.connections k e → is_live e.facts ≡ true → is_some (reply_on 2 e) ≡ true →
    Keeps 0 m (peer_becomes Hot e.facts.addr (with_entry (paid 2 e) m)).machine
hot-keeps m e k h s live asked =
    let new : Entry = paid 2 e in
    let n : Machine = with_entry new m in
    let hot : Peer → Peer = λ p. record p { temp = Hot } in
    let turns : TurnsInto e new = record { same_id = refl; same_addr = refl; live = λ l. l } in
    let pays_it : Keeps 0 m n = pays-keeps 2 m e k h s in
    let here : live_entry_at e.facts.addr n ≡ Some new =
    turned_here m e new k h.orderly s turns live ∙ ap (λ b. if b then Some new else None) live in
    let was : live_entry_at e.facts.addr m ≡ Some e = live_here m e k h.orderly s live in
    moves-keeps 0 m (peer_becomes Hot e.facts.addr n).machine
    (moves_then 0 0 m n (peer_becomes Hot e.facts.addr n).machine (keeps-moves 0 m n pays_it) (changes-moves e.facts.addr hot n (λ p. refl) (λ p ordinary. ordinary) pays_it.ordered))
    (changed-ties e.facts.addr hot m n (λ p. refl) refl refl (turned_elsewhere m e new k h.orderly s turns)
    (λ none alone. grind (arith, was, alone, asked)) (λ p found tie. grind (arith, here, was, tie, asked, paid-none e.owed)))

paid-lower : (protocol : ℕ) (e : Entry) → IsNoHigher e (paid protocol e)
paid-lower protocol e = record { up = λ up. up; asked = paid-some (λ o. o.protocol == 2) protocol e.owed }

-- whoever becomes hot was asked to
hot-accounts : (m : Machine) (e : Entry) (k : ℕ) → IsOrdered m → StandsAt m.connections k e → is_live e.facts ≡ true → is_some (reply_on 2 e) ≡ true →
    Accounts m (then_do (entry_turns e (paid 2 e) m) (peer_becomes Hot e.facts.addr))
hot-accounts m e k h s live asked =
    let new : Entry = paid 2 e in
    let n : Machine = with_entry new m in
    let hot : Peer → Peer = λ p. record p { temp = Hot } in
    let last : Machine → Effect = peer_becomes Hot e.facts.addr in
    let effect : Effect = then_do (entry_turns e new m) last in
    let turns : TurnsInto e new = record { same_id = refl; same_addr = refl; live = λ l. l } in
    let same : (last n).machine.connections ≡ n.connections = turns_at-connections (peer_at e.facts.addr n) hot n in
    let connected : NoneConnected m effect.machine =
    connected_then m n effect.machine (turned-connected m e new k h.orderly s turns (paid-lower 2 e)) (same-connected n effect.machine same) in
    record {
      promotions = rises_nowhere is_up promotes m effect connected.up;
      activations = rises_nowhere is_hot_or_asked activates m effect (λ b. by_address b effect.machine
          (λ other. turns_at-elsewhere e.facts.addr hot n (λ p. refl) b other) connected (same_address b e.facts.addr) refl);
      arrivals = rises_nowhere is_known shares m effect (changed-known e.facts.addr hot n (λ p. refl));
      told = told_then m (entry_turns e new m) last (turned-told m e new k h.orderly s turns (omega arith)) (changes-told e.facts.addr hot n (λ p. refl));
    }
  where
    here : is_hot_or_asked e.facts.addr m ≡ true
    here = or_right (is_hot e.facts.addr m) (is_asked e.facts.addr m) (ap is_asked_connection (live_here m e k h.orderly s live) ∙ asked)

    by_address : (b : Addr) (o : Machine) → (same_address b e.facts.addr ≡ false → peer_at b o ≡ peer_at b m) → NoneConnected m o →
        (c : Bool) → same_address b e.facts.addr ≡ c → is_hot_or_asked b o ≡ true → is_hot_or_asked b m ≡ true
    by_address b o elsewhere connected true is rises = subst (λ a. is_hot_or_asked a m ≡ true) (sym (same_address-true b e.facts.addr is)) here
    by_address b o elsewhere connected false other rises = grind arith

answered_as-trimmed : (owed : Owed) (item : Item) (m : Machine) (e : Entry) (k : ℕ) → reply_on item.id e ≡ Some owed → Talking m e k →
    Trimmed IsLawful m (then_do (entry_turns e (paid item.id e) m) (brings item.id item.body e))
answered_as-trimmed owed item m e k is t = by_protocol (item.id == 2) refl
  where
    hot : item.id ≡ 2 → Trimmed IsLawful m (then_do (entry_turns e (paid item.id e) m) (peer_becomes Hot e.facts.addr))
    hot id =
        let asked : is_some (reply_on 2 e) ≡ true = ap is_some (subst (λ i. reply_on i e ≡ Some owed) id is) in
        let n : Machine = with_entry (paid 2 e) m in
        subst (λ i. Trimmed IsLawful m (then_do (entry_turns e (paid i e) m) (peer_becomes Hot e.facts.addr))) (sym id)
        (keeps-trimmed IsLawful m (then_do (entry_turns e (paid 2 e) m) (peer_becomes Hot e.facts.addr)) t.within
        (hot-keeps m e k t.ordered t.stands (negotiated-live e.facts.phase t.negotiated) asked)
        (record {
          lawful = quiet-lawful IsLawful (peer_becomes Hot e.facts.addr n) (turns_at-moves (peer_at e.facts.addr n) (λ p. record p { temp = Hot }) n);
          accounted = hot-accounts m e k t.ordered t.stands (negotiated-live e.facts.phase t.negotiated) asked;
        }))

    by_protocol : (b : Bool) → (item.id == 2) ≡ b →
        Trimmed IsLawful m (then_do (entry_turns e (paid item.id e) m)
        (λ n. if b then peer_becomes Hot e.facts.addr n else if item.id == 8 then nothing_more n else takes_addresses (share_of item.body) n))
    by_protocol true on_2 = hot (eqb-true item.id 2 on_2)
    by_protocol false not_2 =
        let first : Effect = entry_turns e (paid item.id e) m in
        let one : Trimmed IsLawful m first =
        keeps-trimmed IsLawful m first t.within (pays-keeps item.id m e k t.ordered t.stands)
        (turns-obeys IsLawful m e (paid item.id e) k t.ordered.orderly t.stands (record { same_id = refl; same_addr = refl; live = λ l. l }) (paid-lower item.id e) (omega arith)) in
        trimmed_then IsLawful m first (λ n. if item.id == 8 then nothing_more n else takes_addresses (share_of item.body) n) one
        (cond_both (item.id == 8) _ _ (Trimmed IsLawful first.machine) (λ on_8. nothing-trimmed IsLawful first.machine (trimmed-within IsLawful m first one) one.ordered)
        (λ not_8. takes-trimmed (share_of item.body) first.machine one.ordered (trimmed-within IsLawful m first one)))

-- an item comes in
pub talks-trimmed : (item : Item) (m : Machine) (e : Entry) (k : ℕ) → Talking m e k →
    Trimmed IsLawful m (talks item e m)
talks-trimmed item m e k t = talks-cases item e m (Trimmed IsLawful m) (λ fault. ends fault m e k t)
    (λ first seen was takes. asked-trimmed item seen m e k was takes t) (λ second owed is. answered_as-trimmed owed item m e k is t)
