-- The governor's orders, one by one: the connections stay in order and within the limit, and peers tied to them.
use Rattle.std.proofs.Common.{ℕ, ◌+◌, ◌≤◌, ◌≡◌, true, false, ◌&&◌, not, ◌||◌, ◌==◌, if◌then◌else◌, find, set, Option, Some, None, is_some, refl, sym, ap, ◌∙◌, subst, arith}
use Rattle.laws.proofs.Words.{both_ways, false≢true, false_from_ne_true, and_parts, or_right}
use Rattle.laws.specs.Words.{same_address, Addr, Facts, Peer, Cold, Warm, is_counted, released, agreed_sharing, is_live, is_live_at, is_pending, Order, Ask, Forget, Release, Activate, Deactivate, is_established, Machine, Entry, counted_in, live_entry_at, Effect, Move, activated, nothing_more, then_do, as_move, on_entry, peer_at, peer_becomes, peer_was_asked, peer_goes, sends_as_initiator, owing, reply_on, chain_sync_done, find_intersect, with_entry, entry_turns, says_done, trim, release, is_used_at, on_used, asks_peer, activates, deactivates, carries_out, written_request}
use Rattle.laws.specs.AtMoves.{IsReady, IsLawful, is_up_connection, is_up, is_hot_peer, is_asked_connection, is_hot_or_asked, is_known, promotes, activates as activation, shares}
use Rattle.laws.specs.Steady.{AreTied, TiedBy, IsTied, IsOrdered}
use Rattle.laws.proofs.Addresses.{same_address-true}
use Rattle.laws.proofs.Chain.{then_assoc}
use Rattle.laws.proofs.Counts.{counted_of}
use Rattle.laws.proofs.Effects.{one_if-not_counted}
use Rattle.laws.proofs.Entries.{TurnsInto, turned-connections}
use Rattle.laws.proofs.Keeping.{Moves, Keeps, keeps_nothing, keeps_then, moves_then, moves-keeps, peers-moves, changes-moves, changes-keeps}
use Rattle.laws.proofs.Lawful.{Accounts, Obeys, obeys_then, IsQuiet, quiet-obeys, tells-quiet, quiet_then, changes-quiet, turned_then-obeys, IsAllowed}
use Rattle.laws.proofs.Moves.{turned-counts}
use Rattle.laws.proofs.Lists.{StandsAt, FoundIn, stands-set, find_some}
use Rattle.laws.proofs.Ordinary.{taken-classes}
use Rattle.laws.proofs.Owing.{OwesNothing, with_reply-some}
use Rattle.laws.proofs.PeersApart.{same_turned, book_of, filter-book}
use Rattle.laws.proofs.Rises.{rises_said, rises_nowhere, turned-down, taken-hot, taken-known}
use Rattle.laws.proofs.Telling.{told_then, told_move}
use Rattle.laws.proofs.ToldMoves.{turned-told, peer_goes-told, turns_at-connections}
use Rattle.laws.proofs.Ties.{live_here, turned_here, turned_elsewhere, changed-ties, taken-ties}
use Rattle.laws.proofs.Trims.{Trimmed, tied-trimmed, keeps-trimmed, nothing-trimmed, trimmed_then, as_move-trimmed, raised_then_trimmed, trim-trims}
use Rattle.laws.proofs.WholeMoves.{owes-keeps, IsWarm, asks_warm-keeps, releases-moves}
use Rattle.laws.proofs.Walk.{says_done-machine}
use Rattle.laws.proofs.Cases.{by_bool, by_option}

-- ---- one order after the other

-- an order is carried out for whom it may be
abbrev pub Carries : (Move → Type 0) → (Machine → Addr → Type 0) → (Addr → Order) → Type 0
Carries Law May order = (addr : Addr) (m : Machine) → IsOrdered m → counted_in m ≤ m.settings.hard → May m addr → Trimmed Law m (carries_out (order addr) m)

-- where nothing is asked of whom an order is for
abbrev pub Always : Machine → Addr → Type 0
Always m addr = Unit {0}

-- ---- on the connection in use

-- the connection in use of an address
record Used (m : Machine) (addr : Addr) (e : Entry) (k : ℕ) : Type 0 where
  ordered : IsOrdered m
  within : counted_in m ≤ m.settings.hard
  stands : StandsAt m.connections k e
  live : is_live e.facts ≡ true
  local : e.facts.local ≡ true
  here : e.facts.addr ≡ addr
  found : find (is_used_at addr) m.connections ≡ Some e

-- what is done on it may be a part of something
on_used_by-carried : (Law : Move → Type 0) (addr : Addr) (whole : Effect → Effect) (act : Entry → Machine → Effect) (m : Machine) →
    IsOrdered m → counted_in m ≤ m.settings.hard → Trimmed Law m (whole (nothing_more m)) →
    ((e : Entry) (k : ℕ) → Used m addr e k → Trimmed Law m (whole (act e m))) → Trimmed Law m (whole (on_used addr act m))
on_used_by-carried Law addr whole act m h within none each = by_option (find (is_used_at addr) m.connections)
    (λ o. Trimmed Law m (whole (on_entry o act m)))
    (λ is. none)
    (λ e is.
    let at : FoundIn (is_used_at addr) m.connections e = find_some (is_used_at addr) m.connections e is in
    let parts = and_parts (is_live_at addr e.facts) e.facts.local at.passes in
    let lives = and_parts (same_address e.facts.addr addr) (is_live e.facts) parts.0 in
    let here : e.facts.addr ≡ addr = same_address-true e.facts.addr addr lives.0 in
    each e at.place assumption)

on_used-carried : (Law : Move → Type 0) (addr : Addr) (act : Entry → Machine → Effect) (m : Machine) → IsOrdered m →
    counted_in m ≤ m.settings.hard → ((e : Entry) (k : ℕ) → Used m addr e k → Trimmed Law m (act e m)) → Trimmed Law m (on_used addr act m)
on_used-carried Law addr act m h within each = on_used_by-carried Law addr (λ effect. effect) act m h within (nothing-trimmed Law m within h) each

-- ---- a peer is asked for addresses

asked-obeys : (Law : Move → Type 0) (n : ℕ) (m : Machine) (e : Entry) (k : ℕ) → IsOrdered m → StandsAt m.connections k e → Obeys Law m (asks_peer n e m)
asked-obeys Law n m e k h s =
    let request : Effect = sends_as_initiator e.facts.cid 10 (written_request n) m in
    let new : Entry = owing 10 n m e in
    let asked : Machine → Effect = λ o. peer_was_asked (o.now + o.settings.sharegap) e.facts.addr o in
    obeys_then Law m request (λ o. then_do (entry_turns e (owing 10 n o e) o) asked) (quiet-obeys Law m request (tells-quiet request.actions m refl))
    (turned_then-obeys Law m e new k asked h.orderly s (record { same_id = refl; same_addr = refl; live = λ l. l })
    (record {
      up = λ up. up;
      asked = with_reply-some (λ o. o.protocol == 2) (record { protocol = 10; until = m.now + m.settings.reply; asked = n }) e.owed refl;
    })
    (omega arith)
    (changes-quiet e.facts.addr (λ p. record p { share_next = m.now + m.settings.sharegap }) (with_entry new m) (record { addr = λ p. refl; hot = λ p hot. hot })))

-- the connection in use has agreed on peer sharing
abbrev pub MayAsk : Machine → Addr → Type 0
MayAsk m addr = (e : Entry) → find (is_used_at addr) m.connections ≡ Some e → agreed_sharing e.facts.agreed ≡ true

pub ask-carried : (Law : Move → Type 0) (n : ℕ) → Carries Law MayAsk (λ addr. Ask addr n)
ask-carried Law n addr m h within may = on_used-carried Law addr (asks_peer n) m h within (λ e k u.
    let o : Machine = with_entry (owing 10 n m e) m in
    let owes : Keeps 0 m o =
    owes-keeps 10 n m e k u.ordered u.stands (record { known = refl; local = u.local; sharing = λ on_10. may e u.found }) refl in
    let next : ℕ = m.now + m.settings.sharegap in
    keeps-trimmed Law m (asks_peer n e m) u.within
    (keeps_then 0 0 m o (peer_was_asked next e.facts.addr o).machine owes
    (changes-keeps e.facts.addr (λ p. record p { share_next = next }) o (λ p. refl) (λ p ordinary. ordinary)
    (λ p tie. same_peer next o.now p (live_entry_at e.facts.addr o) tie) owes.ordered))
    (asked-obeys Law n m e k u.ordered u.stands))
  where
    same_peer : (next now : ℕ) (p : Peer) (x : Option Entry) → TiedBy now (Some p) x → TiedBy now (Some (record p { share_next = next })) x
    same_peer next now p None tie = tie
    same_peer next now p (Some x) tie = record { established = tie.established; in_use = tie.in_use; on_its_way = tie.on_its_way; asked = tie.asked }

-- ---- a warm peer is to become hot

abbrev pub MayActivate : Machine → Addr → Type 0
MayActivate m addr = IsWarm (peer_at addr m)

-- a peer that is in use is out of its back-off
warm-ready : (now : ℕ) (o : Option Peer) (x : Option Entry) → IsWarm o → TiedBy now o x → IsReady now o
warm-ready now None x warm tie = elim warm [ ]
warm-ready now (Some p) None warm tie = absurd (both_ways (is_established p.temp) tie (ap is_established warm))
warm-ready now (Some p) (Some e) warm tie = tie.in_use (sym tie.established ∙ ap is_established warm)

activated-allowed : (addr : Addr) (m after : Machine) → MayActivate m addr → IsTied m →
    IsAllowed (record { happened = activated addr; before = m; after = after })
activated-allowed addr m after may ties = record { back_off = warm-ready m.now (peer_at addr m) (live_entry_at addr m) may (ties addr); cause = tt }

-- only whom the move is of is asked
activates-accounts : (addr : Addr) (m : Machine) (e : Entry) (k : ℕ) → Used m addr e k → Accounts m (as_move (activated addr) m (activates e m))
activates-accounts addr m e k u =
    let new : Entry = owing 2 0 m e in
    let effect : Effect = activates e m in
    let request : Effect = sends_as_initiator e.facts.cid 2 find_intersect m in
    let turns : TurnsInto e new = record { same_id = refl; same_addr = refl; live = λ l. l } in
    record {
      promotions = rises_nowhere is_up promotes m (as_move (activated addr) m effect)
          (turned-down is_up_connection refl m e new k u.ordered.orderly u.stands turns (λ up. up));
      activations = rises_said is_hot_or_asked activation (activated addr) m effect
          (λ b other h. subst (λ o. (is_hot_peer (peer_at b m) || is_asked_connection o) ≡ true)
          (turned_elsewhere m e new k u.ordered.orderly u.stands turns b (same_turned e.facts.addr b (subst (λ x. same_address x b ≡ false) (sym u.here) other))) h);
      arrivals = rises_nowhere is_known shares m (as_move (activated addr) m effect) (λ b known. known);
      told = told_move (activated addr) m effect refl refl
          (told_then m request (λ n. entry_turns e (owing 2 0 n e) n) (tells-quiet request.actions m refl).told
          (turned-told m e new k u.ordered.orderly u.stands turns (omega arith)));
    }

pub activate-carried : Carries IsAllowed MayActivate Activate
activate-carried addr m h within may = on_used_by-carried IsAllowed addr (as_move (activated addr) m) activates m h within
    (as_move-trimmed IsAllowed (activated addr) m (nothing_more m) refl refl (nothing-trimmed IsAllowed m within h)
    (λ ties. activated-allowed addr m m may ties))
    (λ e k u. tied-trimmed IsAllowed m (as_move (activated addr) m (activates e m)) u.within
    (asks_warm-keeps 0 m e k u.ordered u.stands u.local (subst (λ a. IsWarm (peer_at a m)) (sym u.here) may))
    (λ ties. (activated-allowed addr m (activates e m).machine may ties, tt)) (activates-accounts addr m e k u))

-- ---- a hot peer is to become warm

deactivated-carried : (Law : Move → Type 0) (addr : Addr) (m : Machine) (e : Entry) (k : ℕ) → Used m addr e k → Trimmed Law m (deactivates e m)
deactivated-carried Law addr m e k u =
    let notice : Effect = sends_as_initiator e.facts.cid 2 chain_sync_done m in
    let was : live_entry_at e.facts.addr m ≡ Some e = live_here m e k u.ordered.orderly u.stands u.live in
    keeps-trimmed Law m (deactivates e m) u.within
    (changes-keeps e.facts.addr (λ p. record p { temp = Warm }) m (λ p. refl) (λ p ordinary. ordinary)
    (λ p tie. subst (λ o. TiedBy m.now (Some (record p { temp = Warm })) o) (sym was)
    (warm p (subst (λ o. TiedBy m.now (Some p) o) was tie))) u.ordered)
    (quiet-obeys Law m (deactivates e m) (quiet_then m notice (peer_becomes Warm e.facts.addr) (tells-quiet notice.actions m refl)
    (changes-quiet e.facts.addr (λ p. record p { temp = Warm }) m (record { addr = λ p. refl; hot = λ p hot. absurd (false≢true hot) }))))
  where
    warm : (p : Peer) → AreTied m.now p e → AreTied m.now (record p { temp = Warm }) e
    warm p tie = record { established = sym u.local; in_use = tie.in_use; on_its_way = tie.on_its_way; asked = λ asked. refl }

pub deactivate-carried : (Law : Move → Type 0) → Carries Law Always Deactivate
deactivate-carried Law addr m h within may = on_used-carried Law addr deactivates m h within (deactivated-carried Law addr m)

-- ---- a peer is forgotten

abbrev pub IsCold : Option Peer → Type 0
IsCold None = ⊥
IsCold (Some p) = p.temp ≡ Cold

-- it is cold, and not on its way
pub record MayForget (m : Machine) (addr : Addr) : Type 0 where
  pub cold : IsCold (peer_at addr m)
  pub idle : (e : Entry) → live_entry_at addr m ≡ Some e → is_pending e.facts ≡ false

cold-alone : (now : ℕ) (p : Option Peer) (o : Option Entry) → IsCold p → ((e : Entry) → o ≡ Some e → is_pending e.facts ≡ false) → TiedBy now p o → TiedBy now None o
cold-alone now None o cold idle tie = elim cold [ ]
cold-alone now (Some p) None cold idle tie = tt
cold-alone now (Some p) (Some e) cold idle tie = search (arith, false_from_ne_true)

cold-there : (o : Option Peer) → IsCold o → is_some o ≡ true
cold-there None cold = elim cold [ ]
cold-there (Some p) cold = refl

pub forget-carried : (Law : Move → Type 0) → Carries Law MayForget Forget
forget-carried Law addr m h within may =
    let n : Machine = (peer_goes addr m).machine in
    keeps-trimmed Law m (peer_goes addr m) within
    (moves-keeps 0 m n (peers-moves n.peers m h (filter-book m.settings.own (λ p. not (same_address p.addr addr)) m.peers (book_of m h.formed))
    (taken-classes addr m))
    (λ ties. taken-ties addr m (cold-alone m.now (peer_at addr m) (live_entry_at addr m) may.cold may.idle (ties addr)) ties))
    (quiet-obeys Law m (peer_goes addr m) (record {
      moves = refl;
      connections = refl;
      hot = taken-hot addr m;
      known = taken-known addr m;
      told = peer_goes-told addr m (cold-there (peer_at addr m) may.cold);
    }))

-- ---- a release

-- nothing is owed on the connection in use
abbrev pub MayRelease : Machine → Addr → Type 0
MayRelease m addr = (e : Entry) → find (is_used_at addr) m.connections ≡ Some e → OwesNothing e

pub says_done-quiet : (f : Facts) (m : Machine) → IsQuiet m (says_done f m)
says_done-quiet f m = search (arith, quiet_then, tells-quiet)

abbrev releasing : Entry → Machine → Effect
releasing e m = then_do (entry_turns e (record e { facts = released (m.now + m.settings.idle) e.facts }) m)
    (λ m. then_do (peer_becomes Cold e.facts.addr m) (trim e.facts.cid))

pub unused_at : (b : Addr) (x : Entry) → x.facts.local ≡ false → is_used_at b x ≡ false
unused_at b x unused = by_bool (is_live_at b x.facts) (λ c. (c && x.facts.local) ≡ false)
    (λ is. unused) (λ is. refl)

-- whoever is on its way afterwards was so before
released-down : (until : ℕ) (e : Entry) → is_up_connection (Some (record e { facts = released until e.facts })) ≡ true → is_up_connection (Some e) ≡ true
released-down until e up = search (arith, or_right)

releasing-carried : (addr : Addr) (m : Machine) (e : Entry) (k : ℕ) → Used m addr e k → MayRelease m addr → Trimmed IsLawful m (releasing e m)
releasing-carried addr m e k u may =
    let h : IsOrdered m = u.ordered in
    let s = u.stands in
    let new : Entry = record e { facts = released (m.now + m.settings.idle) e.facts } in
    let cold : Peer → Peer = λ p. record p { temp = Cold } in
    let n : Machine = with_entry new m in
    let o : Machine = (peer_becomes Cold e.facts.addr n).machine in
    let t : TurnsInto e new = record { same_id = refl; same_addr = refl; live = λ l. l } in
    let turned : Moves 1 m n = releases-moves m e k h s u.local (may e u.found) in
    let here : live_entry_at e.facts.addr n ≡ Some new =
    turned_here m e new k h.orderly s t u.live ∙ ap (λ b. if b then Some new else None) u.live in
    let was : live_entry_at e.facts.addr m ≡ Some e = live_here m e k h.orderly s u.live in
    let raised : Keeps 1 m o =
    moves-keeps 1 m o (moves_then 1 0 m n o turned (changes-moves e.facts.addr cold n (λ p. refl) (λ p ordinary. ordinary) turned.ordered))
    (changed-ties e.facts.addr cold m n (λ p. refl) refl refl (turned_elsewhere m e new k h.orderly s t)
    (λ none alone. absurd (both_ways e.facts.local (subst (λ x. TiedBy m.now None x) was alone).unused u.local))
    (λ p found tie. subst (λ x. TiedBy m.now (Some (cold p)) x) (sym here) (is_cold new refl refl refl p (subst (λ x. TiedBy m.now (Some p) x) was tie)))) in
    let list : n.connections ≡ set m.connections k new = turned-connections m e new k h.orderly s t in
    let same : o.connections ≡ set m.connections k new = turns_at-connections (peer_at e.facts.addr n) cold n ∙ list in
    let stands : StandsAt o.connections k new = subst (λ es. StandsAt es k new) (sym same) (stands-set m.connections k new e s) in
    let alike : counted_in o ≡ counted_in n = ap (λ es. counted_in (record n { connections = es })) (turns_at-connections (peer_at e.facts.addr n) cold n) in
    let counts = turned-counts m e new k h.orderly s t in
    let within = u.within in
    let limit : o.settings.hard ≡ m.settings.hard = ap (λ x. x.hard) raised.settings in
    let trimmed : Trimmed IsLawful o (trim e.facts.cid o) =
    trim-trims e.facts.cid o raised.ordered (omega (arith, raised.counted, limit, within)) (λ over. record {
      entry = new;
      place = k;
      stands = stands;
      same = refl;
      counted = by_bool (is_counted new.facts) (λ b. (b ≡ false → b ≡ true) → b ≡ true)
          (λ is gives. refl) (λ is gives. gives refl)
          (λ none. let zero : counted_of new ≡ 0 = one_if-not_counted new.facts none in
          absurd (omega (arith, over, alike, counts.counted, limit, within, zero)));
    }) in
    subst (Trimmed IsLawful m) (then_assoc (entry_turns e new m) (peer_becomes Cold e.facts.addr) (trim e.facts.cid))
    (raised_then_trimmed IsLawful m (then_do (entry_turns e new m) (peer_becomes Cold e.facts.addr)) (trim e.facts.cid) raised
    (turned_then-obeys IsLawful m e new k (peer_becomes Cold e.facts.addr) h.orderly s t (record { up = released-down (m.now + m.settings.idle) e; asked = λ asked. asked }) (omega arith)
    (changes-quiet e.facts.addr cold n (record { addr = λ p. refl; hot = λ p hot. absurd (false≢true hot) }))) trimmed)
  where
    is_cold : (new : Entry) → new.facts.local ≡ false → is_pending new.facts ≡ is_pending e.facts → reply_on 2 new ≡ reply_on 2 e →
        (p : Peer) → AreTied m.now p e → AreTied m.now (record p { temp = Cold }) new
    is_cold new unused pending owed p tie = record {
      established = sym unused;
      in_use = λ local. absurd (both_ways new.facts.local unused local);
      on_its_way = λ way. tie.on_its_way (sym pending ∙ way);
      asked = λ asked. absurd (both_ways (is_some (reply_on 2 e)) (may e u.found).on_2 (ap is_some (sym owed) ∙ asked));
    }

pub release-carried : Carries IsLawful MayRelease Release
release-carried addr m h within may = on_used-carried IsLawful addr release m h within (λ e k u.
    let first : Effect = says_done e.facts m in
    let same : m ≡ first.machine = sym (says_done-machine e.facts m) in
    trimmed_then IsLawful m first (releasing e)
    (keeps-trimmed IsLawful m first u.within (subst (Keeps 0 m) same (keeps_nothing m u.ordered))
    (quiet-obeys IsLawful m first (says_done-quiet e.facts m)))
    (subst (λ n. Trimmed IsLawful n (releasing e n)) same (releasing-carried addr m e k u may)))
