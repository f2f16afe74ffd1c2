-- What each part of an event is made of: a connection turns, comes or goes, a peer does, and something is sent. A relation between
-- what stood before and what came of it that holds of each of these, and of one after the other, holds of the part.
use Rattle.laws.proofs.ToldMoves.{turns_at-connections}
use Rattle.laws.proofs.Finds.{replaced, gone-found}
use Rattle.std.proofs.Common.{ℕ, ◌+◌, ◌%◌, ◌≡◌, Bool, true, false, ◌==◌, List, [], ◌∷◌, find, Option, Some, None, refl, sym, ap, ◌∙◌, subst, eqb-true, eq-eqb, arith}
use Rattle.laws.proofs.Words.{cond_both, and_parts}
use Rattle.laws.specs.Words.{connected, agreed_inbound, agreed_outbound, acquired, released, awakened, idled, expired, has_id, is_acquirable, is_dialing, is_live, is_live_at, runs, agreed_sharing, Order, Forget, Promote, verdict_of, answer_of, proposal_of, Verdict, kind_of, frame_of, CutFault, Item, same_address, Undecoded, Close, Send, Away, CloseCause, Unused, Pruned, Overwritten, Refused, Query, Fault, Protocol, HandshakeWait, ReplyWait, Addr, Agreed, Cid, Facts, Phase, Greeting, Negotiated, Peer, Cold, Warm, Hot, Kind, Reply, Seen, written_alive, written_request, Done, with_entry, entry_turns, entry_goes, ending, vanishes, closing_entry, is_used, acquire, trim, says_done, release, awake, dial, dial_opens, fires_as, Effect, Happened, shared, unused, gone, nothing_more, tells, then_do, as_move, on_entry, on_connection, turned_away, admitted, peer_connects, dialed, promoted_at, is_used_at, on_used, asks_peer, activates, deactivates, carries_out, role_of, sends_answer, judged, greets, Machine, Entry, entry_at, live_entry_at, own_info, peer_changes, peer_succeeds, peer_becomes, peer_was_asked, peer_comes, peer_goes, is_wanted_big, comes_big, owing, paid, sends_as_initiator, find_intersect, chain_sync_done, peer_sharing_done, handled_in, faulted, replies, stops_if, serves, begins, brings, talks, peer_is_ordinary, peer_at, without_entry}
use Rattle.laws.specs.Words.verdict
use Rattle.laws.specs.Words.kind
use Rattle.laws.specs.Words.reply
use Rattle.warm_messages.specs.declared.alive.Alive.TheVariants.{Ask as AskAlive}
use Rattle.laws.specs.Acts.{Act, shows, fires_one, asks_for_roots, carries, connects, ends_dial, stores, handles_item, ends_stream, is_closed, sets_targets, sets_big_targets, sets_groups, sets_roots, makes_ordinary, provides, provides_big, does}
use Rattle.laws.specs.CarriedOut.{forgets, brings_class, makes_one}
use Rattle.laws.specs.InActions.{ended_by}
use Rattle.laws.specs.OpenEnds.{is_open_entry, is_open_at, goes_by_itself}
use Rattle.laws.specs.Parts.{IsNext}
use Rattle.laws.specs.Sound.{IsOrderly}
use Rattle.laws.specs.Steady.{IsOrdered}
use Rattle.laws.specs.Untouched.{address_of, is_with, is_about, has_bytes, may_close}
use Rattle.laws.specs.Waits.{until_at}
use Rattle.laws.proofs.Lawful.{lost-quiet, stands-found}
use Rattle.laws.proofs.Lists.{find_some}
use Rattle.laws.proofs.Cases.{by_option}
use Rattle.laws.proofs.Connects.{connects-cases}
use Rattle.laws.proofs.ItemCases.{greets-cases, talks-cases, brings-cases, trim-cases}

-- ---- what a connection turns into

pub data Turn : Type 0 where
  opens : Turn
  agrees_inbound : Agreed → Turn
  agrees_outbound : Agreed → Turn
  is_acquired : Turn
  is_released : Turn
  awakes : ℕ → Turn
  idles : ℕ → Turn
  expires : Turn
  owes : ℕ → ℕ → Turn
  is_paid : ℕ → Turn

-- one that comes into use owes a reply on 8
abbrev pub taken : Facts → Entry → Machine → Entry
taken f e m = owing 8 (f.cid.0 % 65536) m (record e { facts = f })

abbrev pub turned_by : Turn → Entry → Machine → Entry
turned_by opens e m = record e { facts = connected (m.now + m.settings.handshake) e.facts }
turned_by (agrees_inbound agreed) e m = record e { facts = agreed_inbound agreed (m.now + m.settings.idle) e.facts }
turned_by (agrees_outbound agreed) e m = taken (agreed_outbound agreed (m.now + m.settings.idle) e.facts) e m
turned_by is_acquired e m = taken (acquired e.facts) e m
turned_by is_released e m = record e { facts = released (m.now + m.settings.idle) e.facts }
turned_by (awakes protocol) e m = record e { facts = awakened protocol e.facts }
turned_by (idles protocol) e m = record e { facts = idled protocol (m.now + m.settings.idle) e.facts }
turned_by expires e m = record e { facts = expired e.facts }
turned_by (owes protocol asked) e m = owing protocol asked m e
turned_by (is_paid protocol) e m = paid protocol e

-- it keeps its id, and what is not decoded
pub turned-cid : (turn : Turn) (e : Entry) (m : Machine) → (turned_by turn e m).facts.cid ≡ e.facts.cid
turned-cid opens e m = refl
turned-cid other e m = refl

pub turned-undecoded : (turn : Turn) (e : Entry) (m : Machine) → (turned_by turn e m).undecoded ≡ e.undecoded
turned-undecoded opens e m = refl
turned-undecoded other e m = refl

-- and is live still where it was
pub turned-live : (turn : Turn) (e : Entry) (m : Machine) → is_live e.facts ≡ true → is_live (turned_by turn e m).facts ≡ true
turned-live turn e m live = grind arith

-- one that nobody uses is closed
abbrev pub shuts : Entry → Machine → Effect
shuts e m = as_move (unused e.facts.cid.0) m (then_do (tells (Close e.facts.cid Unused ∷ []) m) (entry_turns e (closing_entry m e)))

-- ---- what is only sent

pub answer-machine : (o : Option (List ℕ)) (cid : Cid) (m : Machine) → (sends_answer o cid m).machine ≡ m
answer-machine None cid m = refl
answer-machine (Some bytes) cid m = refl

pub says_done-machine : (f : Facts) (m : Machine) → (says_done f m).machine ≡ m
says_done-machine f m = grind arith

-- one that is released stands so before one too many is pruned
abbrev pub cooled : Entry → Machine → Machine
cooled e m = (peer_becomes Cold e.facts.addr (with_entry (turned_by is_released e m) m)).machine

pub release-machine : (e : Entry) (m : Machine) → (release e m).machine ≡ (trim e.facts.cid (cooled e m)).machine
release-machine e m = ap (λ n. (trim e.facts.cid (cooled e n)).machine) (says_done-machine e.facts m)

-- what is said, what the connection turns into, its peer that is cold, and one too many
pub release-parts : (R : Machine → Effect → Type 0) →
    ((m : Machine) (first : Effect) (next : Machine → Effect) → R m first → R first.machine (next first.machine) → R m (then_do first next)) →
    (e : Entry) (m : Machine) → R m (says_done e.facts m) → R m (entry_turns e (turned_by is_released e m) m) →
    R (with_entry (turned_by is_released e m) m) (peer_becomes Cold e.facts.addr (with_entry (turned_by is_released e m) m)) → R (cooled e m) (trim e.facts.cid (cooled e m)) →
    R m (release e m)
release-parts R both e m says turns cold trims =
    let cools : Machine → Effect = λ w. then_do (peer_becomes Cold e.facts.addr w) (trim e.facts.cid) in
    let rest : Machine → Effect = λ w. then_do (entry_turns e (turned_by is_released e w) w) cools in
    let n : Machine = with_entry (turned_by is_released e m) m in
    both m (says_done e.facts m) rest says (subst (λ w. R w (rest w)) (sym (says_done-machine e.facts m))
    (both m (entry_turns e (turned_by is_released e m) m) cools turns (both n (peer_becomes Cold e.facts.addr n) (trim e.facts.cid) cold trims)))

pub replies-machine : (r : Reply) (protocol : ℕ) (e : Entry) (m : Machine) → (replies r protocol e m).machine ≡ m
replies-machine reply.Nothing protocol e m = refl
replies-machine other protocol e m = refl

-- ---- what a part may do

pub record Scope : Type 0 where
  -- which connections it is about, and on which of them bytes may have come in
  pub own : ℕ → Bool
  pub comes : ℕ → Bool
  -- whether it may close one that nobody uses, and which may go by themselves
  pub drops : Bool
  pub goes : ℕ → Bool
  -- whether its deadline is known to be over
  pub timely : Bool
  -- whether it may send, dial, and let in or turn away
  pub sends : Bool
  pub dials : Bool
  pub lets_in : Bool
  -- which peers it may forget, which class of peers it may bring, and whether it may make one ordinary
  pub forgets : Addr → Bool
  pub brings : Bool → Bool
  pub makes : Bool

-- about some connections, and nothing more than to send
abbrev pub on_those : (ℕ → Bool) → Scope
on_those own = record { own = own; comes = λ cid. false; drops = false; goes = λ cid. false; timely = false; sends = true; dials = false; lets_in = false; forgets = λ addr. false; brings = λ big. true; makes = false }

-- a connection that is found by its own id, and is one that the part is about
pub record Stands (scope : Scope) (e : Entry) (m : Machine) : Type 0 where
  pub found : entry_at e.facts.cid.0 m ≡ Some e
  pub own : scope.own e.facts.cid.0 ≡ true

pub found-stands : (scope : Scope) (cid : ℕ) (m : Machine) (e : Entry) → entry_at cid m ≡ Some e → scope.own cid ≡ true → Stands scope e m
found-stands scope cid m e is own = grind (arith, find_some (λ x. has_id cid x.facts) m.connections e is)

-- that stands open, so that it may be spoken to
pub record StandsOpen (scope : Scope) (e : Entry) (m : Machine) : Type 0 where
  pub may : scope.sends ≡ true
  pub found : entry_at e.facts.cid.0 m ≡ Some e
  pub own : scope.own e.facts.cid.0 ≡ true
  pub live : is_live e.facts ≡ true

-- that turns into one that is open only where it is itself
pub record Turns (scope : Scope) (turn : Turn) (e : Entry) (m : Machine) : Type 0 where
  pub found : entry_at e.facts.cid.0 m ≡ Some e
  pub own : scope.own e.facts.cid.0 ≡ true
  pub back : is_live (turned_by turn e m).facts ≡ true → is_live e.facts ≡ true

-- what is said is said to one that is open
pub record MaySend (scope : Scope) (cid : ℕ) (m : Machine) : Type 0 where
  pub may : scope.sends ≡ true
  pub open_ : is_open_at cid m ≡ true

may_send-open : (scope : Scope) (e : Entry) (m : Machine) → StandsOpen scope e m → MaySend scope e.facts.cid.0 m
may_send-open scope e m s = record { may = s.may; open_ = ap is_open_entry s.found ∙ s.live }

-- one that turns is open still
turned-open : (e new : Entry) (m : Machine) → entry_at e.facts.cid.0 m ≡ Some e → new.facts.cid ≡ e.facts.cid → is_live new.facts ≡ true → is_open_at e.facts.cid.0 (with_entry new m) ≡ true
turned-open e new m found same live = grind (arith, found, same, live, replaced e.facts.cid.0 new m.connections)

-- whoever is found after a trim was found before
pub trim-found : (moved : Cid) (cid : ℕ) (x : Entry) (m : Machine) → entry_at cid (trim moved m).machine ≡ Some x → entry_at cid m ≡ Some x
trim-found moved cid x m = trim-cases moved m (λ effect. entry_at cid effect.machine ≡ Some x → entry_at cid m ≡ Some x) (λ found. found)
    (λ e is found.
    let n : Machine = without_entry e.facts.cid.0 m in
    let same : entry_at cid n ≡ Some x = ap (find (λ y. has_id cid y.facts)) (sym (lost-quiet e.facts n).connections) ∙ found in
    grind (arith, same, gone-found cid e.facts.cid.0 m.connections))

-- and one on which a protocol begins is open, where it is there still
begun-open : (protocol : ℕ) (e x : Entry) (m : Machine) → entry_at e.facts.cid.0 m ≡ Some e → is_live e.facts ≡ true →
    entry_at e.facts.cid.0 (begins protocol e m).machine ≡ Some x → is_live x.facts ≡ true
begun-open protocol e x m found live is =
    let new : Entry = turned_by (awakes protocol) e m in
    grind (arith, found, live, is, trim-found e.facts.cid e.facts.cid.0 x (with_entry new m), replaced e.facts.cid.0 new m.connections)

-- whoever is found is the one that its id finds, and what has an address is the part's own
pub record FindsOwn (scope : Scope) (addr : Addr) (m : Machine) : Type 0 where
  pub found : (q : Entry → Bool) (e : Entry) → find q m.connections ≡ Some e → entry_at e.facts.cid.0 m ≡ Some e
  pub own : (e : Entry) → entry_at e.facts.cid.0 m ≡ Some e → same_address e.facts.addr addr ≡ true → scope.own e.facts.cid.0 ≡ true

-- what the scope is to allow for an order
abbrev pub Allows : Scope → Order → Type 0
Allows scope (Forget addr) = scope.forgets addr ≡ true
Allows scope (Promote addr) = scope.dials ≡ true
Allows scope other = Unit {0}

-- ---- a relation that each change keeps

pub record Kept (scope : Scope) (R : Machine → Effect → Type 0) : Type 0 where
  pub when_nothing : (m : Machine) → R m (nothing_more m)
  pub when_both : (m : Machine) (first : Effect) (next : Machine → Effect) → R m first → R first.machine (next first.machine) → R m (then_do first next)
  -- a move that ends nothing
  pub when_moved : (happened : Happened) (m : Machine) (effect : Effect) → ended_by happened ≡ [] → R m effect → R m (as_move happened m effect)
  pub when_sent : (cid : Cid) (bytes : List ℕ) (m : Machine) → MaySend scope cid.0 m → R m (tells (Send cid bytes ∷ []) m)
  -- a connection turns, or keeps other bytes
  pub when_turned : (turn : Turn) (e : Entry) (m : Machine) → Turns scope turn e m → R m (entry_turns e (turned_by turn e m) m)
  pub when_stored : (undecoded : Undecoded) (e : Entry) (m : Machine) → Stands scope e m → scope.comes e.facts.cid.0 ≡ true →
      R m (entry_turns e (record e { undecoded = undecoded }) m)
  -- it is closed or ended, goes by itself, or its time-wait is over
  pub when_shut : (e : Entry) (m : Machine) → Stands scope e m → scope.drops ≡ true → R m (shuts e m)
  pub when_ended : (cause : CloseCause) (e : Entry) (m : Machine) → R m (ending cause e m)
  pub when_gone : (e : Entry) (m : Machine) → scope.goes e.facts.cid.0 ≡ true → R m (vanishes e m)
  pub when_over : (e : Entry) (m : Machine) → Stands scope e m → scope.drops ≡ true → (scope.timely ≡ true → is_live e.facts ≡ false) → R m (entry_goes e m)
  -- one comes, or is turned away
  pub when_dialed : (addr : Addr) (m : Machine) → scope.dials ≡ true → R m (dial addr m)
  pub when_admitted : (addr : Addr) (m : Machine) → scope.lets_in ≡ true → R m (admitted addr m)
  pub when_turned_away : (away : Away) (m : Machine) → scope.lets_in ≡ true → R m (turned_away away m)
  -- a peer changes, comes or goes
  pub when_changed : (addr : Addr) (change : Peer → Peer) (m : Machine) → ((p : Peer) → ((change p).addr ≡ p.addr) × ((change p).big ≡ p.big)) → R m (peer_changes addr change m)
  pub when_made : (addr : Addr) (m : Machine) → scope.makes ≡ true → R m (peer_is_ordinary addr m)
  pub when_known : (big : Bool) (addr : Addr) (m : Machine) → scope.brings big ≡ true → R m (peer_comes big addr m)
  pub when_forgotten : (addr : Addr) (m : Machine) → scope.forgets addr ≡ true → R m (peer_goes addr m)

module _ (scope : Scope) (R : Machine → Effect → Type 0) (kept : Kept scope R) where
  -- ---- what is sent

  says-walk : (cid : Cid) (protocol : ℕ) (message : List ℕ) (m : Machine) → MaySend scope cid.0 m → R m (sends_as_initiator cid protocol message m)
  says-walk cid protocol message m may = kept.when_sent cid (frame_of 0 protocol m.now message) m may

  answers-walk : (o : Option (List ℕ)) (cid : Cid) (m : Machine) → MaySend scope cid.0 m → R m (sends_answer o cid m)
  answers-walk None cid m may = kept.when_nothing m
  answers-walk (Some bytes) cid m may = kept.when_sent cid (frame_of 1 0 m.now bytes) m may

  replies-walk : (r : Reply) (protocol : ℕ) (e : Entry) (m : Machine) → MaySend scope e.facts.cid.0 m → R m (replies r protocol e m)
  replies-walk reply.Nothing protocol e m may = kept.when_nothing m
  replies-walk other protocol e m may = kept.when_sent e.facts.cid _ m may

  -- ---- a connection that is found

  pub on_found : (cid : ℕ) (act : Entry → Machine → Effect) (m : Machine) → ((e : Entry) → entry_at cid m ≡ Some e → R m (act e m)) → R m (on_entry (entry_at cid m) act m)
  on_found cid act m each = grind arith

  pub trim-walk : (moved : Cid) (m : Machine) → R m (trim moved m)
  trim-walk moved m = trim-cases moved m (R m) (kept.when_nothing m) (λ e is. kept.when_ended Pruned e m)

  -- ---- a deadline

  pub fires-walk : (sort : Kind) (e : Entry) (m : Machine) → scope.drops ≡ true → Stands scope e m → (sort ≡ kind.TimeWait → scope.timely ≡ true → is_live e.facts ≡ false) → R m (fires_as sort e m)
  fires-walk kind.Handshake e m drops stands over = kept.when_ended (Fault HandshakeWait) e m
  fires-walk kind.Grace e m drops stands over = cond_both e.facts.local (entry_turns e (turned_by expires e m) m) (shuts e m) (R m)
      (λ local. kept.when_turned expires e m assumption) (λ other. kept.when_shut e m stands drops)
  fires-walk kind.TimeWait e m drops stands over = kept.when_moved (gone e.facts.cid.0) m (entry_goes e m) refl (kept.when_over e m stands drops (over refl))
  fires-walk rest e m drops stands over = kept.when_ended (Fault ReplyWait) e m

  -- ---- the governor

  uses-walk : (f : Facts) (e : Entry) (m : Machine) → StandsOpen scope e m → f.cid ≡ e.facts.cid → is_live f ≡ true → R m (entry_turns e (taken f e m) m) → R m (is_used f e m)
  uses-walk f e m s same live turned =
      let n : Machine = with_entry (taken f e m) m in
      let alive : Machine → Effect = sends_as_initiator f.cid 8 (written_alive (AskAlive (f.cid.0 % 65536))) in
      let warm : Peer → Peer = λ p. record p { temp = Warm; failures = 0 } in
      let open_ : is_open_at f.cid.0 n ≡ true = subst (λ c. is_open_at c.0 n ≡ true) (sym same) (turned-open e (taken f e m) m s.found same live) in
      kept.when_both m (entry_turns e (taken f e m) m) (λ x. then_do (peer_succeeds f.addr x) alive) turned
      (kept.when_both n (peer_succeeds f.addr n) alive (kept.when_changed f.addr warm n (λ p. (refl, refl)))
      (says-walk f.cid 8 (written_alive (AskAlive (f.cid.0 % 65536))) (peer_succeeds f.addr n).machine
      (record { may = s.may; open_ = subst (λ es. is_open_entry (find (λ x. has_id f.cid.0 x.facts) es) ≡ true) (sym (turns_at-connections (peer_at f.addr n) warm n)) open_ })))

  pub acquire-walk : (e : Entry) (m : Machine) → StandsOpen scope e m → R m (acquire e m)
  acquire-walk e m s = uses-walk (acquired e.facts) e m s refl s.live (kept.when_turned is_acquired e m assumption)

  says_done-walk : (e : Entry) (m : Machine) → StandsOpen scope e m → R m (says_done e.facts m)
  says_done-walk e m s =
      let may : MaySend scope e.facts.cid.0 m = may_send-open scope e m s in
      let sharing : Effect = sends_as_initiator e.facts.cid 10 peer_sharing_done m in
      let alive : Machine → Effect = sends_as_initiator e.facts.cid 8 (written_alive Done) in
      cond_both (agreed_sharing e.facts.agreed) sharing (nothing_more m) (λ first. R m (then_do first alive))
      (λ agreed. kept.when_both m sharing alive (says-walk e.facts.cid 10 peer_sharing_done m may) (says-walk e.facts.cid 8 (written_alive Done) m may))
      (λ other. kept.when_both m (nothing_more m) alive (kept.when_nothing m) (says-walk e.facts.cid 8 (written_alive Done) m may))

  pub release-walk : (e : Entry) (m : Machine) → StandsOpen scope e m → R m (release e m)
  release-walk e m s = release-parts R kept.when_both e m (says_done-walk e m s) (kept.when_turned is_released e m assumption)
      (kept.when_changed e.facts.addr (λ p. record p { temp = Cold }) (with_entry (turned_by is_released e m) m) (λ p. (refl, refl))) (trim-walk e.facts.cid (cooled e m))

  pub asks_peer-walk : (number : ℕ) (e : Entry) (m : Machine) → StandsOpen scope e m → R m (asks_peer number e m)
  asks_peer-walk number e m s =
      let n : Machine = with_entry (owing 10 number m e) m in
      let alone : Machine → Effect = λ w. peer_was_asked (w.now + w.settings.sharegap) e.facts.addr w in
      kept.when_both m (sends_as_initiator e.facts.cid 10 (written_request number) m) (λ w. then_do (entry_turns e (owing 10 number w e) w) alone)
      (says-walk e.facts.cid 10 (written_request number) m (may_send-open scope e m s))
      (kept.when_both m (entry_turns e (owing 10 number m e) m) alone (kept.when_turned (owes 10 number) e m assumption)
      (kept.when_changed e.facts.addr (λ p. record p { share_next = n.now + n.settings.sharegap }) n (λ p. (refl, refl))))

  pub activates-walk : (e : Entry) (m : Machine) → StandsOpen scope e m → R m (activates e m)
  activates-walk e m s =
      kept.when_both m (sends_as_initiator e.facts.cid 2 find_intersect m) (λ w. entry_turns e (owing 2 0 w e) w)
      (says-walk e.facts.cid 2 find_intersect m (may_send-open scope e m s)) (kept.when_turned (owes 2 0) e m assumption)

  deactivates-walk : (e : Entry) (m : Machine) → StandsOpen scope e m → R m (deactivates e m)
  deactivates-walk e m s =
      kept.when_both m (sends_as_initiator e.facts.cid 2 chain_sync_done m) (peer_becomes Warm e.facts.addr)
      (says-walk e.facts.cid 2 chain_sync_done m (may_send-open scope e m s)) (kept.when_changed e.facts.addr (λ p. record p { temp = Warm }) m (λ p. (refl, refl)))

  -- the live one that an order finds
  stands-own : (addr : Addr) (m : Machine) (q : Entry → Bool) (e : Entry) → scope.sends ≡ true → FindsOwn scope addr m → find q m.connections ≡ Some e → is_live_at addr e.facts ≡ true →
      StandsOpen scope e m
  stands-own addr m q e may finds is at =
      let parts = and_parts (same_address e.facts.addr addr) (is_live e.facts) at in
      let found = finds.found q e is in
      record { may = may; found = found; own = finds.own e found parts.0; live = parts.1 }

  on_used-walk : (addr : Addr) (act : Entry → Machine → Effect) (m : Machine) → scope.sends ≡ true → FindsOwn scope addr m → ((e : Entry) → StandsOpen scope e m → R m (act e m)) → R m (on_used addr act m)
  on_used-walk addr act m may finds each = by_option (find (is_used_at addr) m.connections) (λ o. R m (on_entry o act m))
      (λ is. kept.when_nothing m)
      (λ e is. each e (stands-own addr m (is_used_at addr) e may finds is (and_parts (is_live_at addr e.facts) e.facts.local (find_some (is_used_at addr) m.connections e is).passes).0))

  promoted_at-walk : (addr : Addr) (m : Machine) → scope.sends ≡ true → scope.dials ≡ true → FindsOwn scope addr m → R m (promoted_at (live_entry_at addr m) addr m)
  promoted_at-walk addr m may allows finds = by_option (live_entry_at addr m) (λ o. R m (promoted_at o addr m))
      (λ is. kept.when_dialed addr m allows)
      (λ e is. cond_both (is_acquirable e.facts) (acquire e m) (dial addr m) (R m)
      (λ free. acquire-walk e m (stands-own addr m (λ x. is_live_at addr x.facts) e may finds is (find_some (λ x. is_live_at addr x.facts) m.connections e is).passes))
      (λ other. kept.when_dialed addr m allows))

  pub orders-walk : (order : Order) (m : Machine) → scope.sends ≡ true → Allows scope order → FindsOwn scope (address_of order) m → R m (carries_out order m)
  orders-walk order m may allows own = grind (arith, on_used-walk, asks_peer-walk, promoted_at-walk, release-walk, activates-walk, deactivates-walk)

  -- ---- a peer connects, a dial ends, or the other side closes

  pub connects-walk : (addr : Addr) (m : Machine) → scope.lets_in ≡ true → R m (peer_connects addr m)
  connects-walk addr m may = connects-cases addr m (R m) (λ cause. kept.when_turned_away cause m may) (λ room alone. kept.when_admitted addr m may)
      (λ room e is pending. kept.when_both m (ending Overwritten e m) (admitted addr) (kept.when_ended Overwritten e m)
      (kept.when_admitted addr (ending Overwritten e m).machine may))

  opens-walk : (e : Entry) (m : Machine) → StandsOpen scope e m → R m (dial_opens e m)
  opens-walk e m s =
      kept.when_both m (entry_turns e (turned_by opens e m) m) (λ w. sends_as_initiator e.facts.cid 0 (proposal_of (own_info m.settings)) w) (kept.when_turned opens e m assumption)
      (says-walk e.facts.cid 0 (proposal_of (own_info m.settings)) (with_entry (turned_by opens e m) m)
      (record { may = s.may; open_ = turned-open e (turned_by opens e m) m s.found refl refl }))

  -- it goes by itself where the dial has failed
  pub dialed-walk : (opened : Bool) (e : Entry) (m : Machine) → scope.sends ≡ true → Stands scope e m →
      (is_dialing e.facts ≡ true → opened ≡ false → scope.goes e.facts.cid.0 ≡ true) → R m (dialed opened e m)
  dialed-walk opened e m may stands itself =
      let opens : is_dialing e.facts ≡ true → R m (dial_opens e m) = λ dials. opens-walk e m (record { may = may; found = stands.found; own = stands.own; live = grind (arith, dials) }) in
      grind (arith, opens, kept.when_moved (gone e.facts.cid.0) m (vanishes e m) refl, kept.when_gone e m, itself, kept.when_nothing m)

  -- ---- an item in the handshake

  judged-walk : (v : Verdict) (e : Entry) (m : Machine) → StandsOpen scope e m → R m (judged v e m)
  judged-walk (verdict.Accept agreed) e m s = kept.when_turned (agrees_inbound agreed) e m assumption
  judged-walk verdict.Query e m s = kept.when_ended Query e m
  judged-walk (verdict.Agree agreed) e m s =
      uses-walk (agreed_outbound agreed (m.now + m.settings.idle) e.facts) e m s refl refl (kept.when_turned (agrees_outbound agreed) e m assumption)
  judged-walk verdict.Wrong e m s = kept.when_ended (Fault Protocol) e m
  judged-walk other e m s = kept.when_ended Refused e m

  greets-walk : (item : Item) (e : Entry) (m : Machine) → StandsOpen scope e m → R m (greets item e m)
  greets-walk item e m s = greets-cases item e m (R m) (λ fault. kept.when_ended (Fault fault) e m)
      (λ msg is.
      let v : Verdict = verdict_of (role_of e.facts.provenance) (own_info m.settings) msg in
      let answer : Option (List ℕ) = answer_of v (own_info m.settings) in
      kept.when_both m (sends_answer answer e.facts.cid m) (judged v e) (answers-walk answer e.facts.cid m (may_send-open scope e m s))
      (subst (λ w. R w (judged v e w)) (sym (answer-machine answer e.facts.cid m)) (judged-walk v e m s)))

  -- ---- an item once the handshake is done

  stops-walk : (done : Bool) (protocol : ℕ) (e : Entry) (m : Machine) → StandsOpen scope e m → R m (stops_if done protocol e m)
  stops-walk true protocol e m s = kept.when_turned (idles protocol) e m assumption
  stops-walk false protocol e m s = kept.when_nothing m

  serves-walk : (seen : Seen) (protocol : ℕ) (e : Entry) (m : Machine) → StandsOpen scope e m → R m (serves seen protocol e m)
  serves-walk seen protocol e m s =
      kept.when_both m (replies seen.reply protocol e m) (stops_if seen.done protocol e) (replies-walk seen.reply protocol e m (may_send-open scope e m s))
      (subst (λ w. R w (stops_if seen.done protocol e w)) (sym (replies-machine seen.reply protocol e m)) (stops-walk seen.done protocol e m s))

  pub begins-walk : (protocol : ℕ) (e : Entry) (m : Machine) → Stands scope e m → R m (begins protocol e m)
  begins-walk protocol e m stands = cond_both (runs protocol e.facts.running) (nothing_more m) (awake protocol e m) (R m) (λ running. kept.when_nothing m)
      (λ silent. kept.when_both m (entry_turns e (turned_by (awakes protocol) e m) m) (trim e.facts.cid) (kept.when_turned (awakes protocol) e m assumption)
      (trim-walk e.facts.cid (with_entry (turned_by (awakes protocol) e m) m)))

  comes-walk : (big : Bool) (addr : Addr) (m : Machine) → scope.brings big ≡ true → R m (as_move (shared addr) m (peer_comes big addr m))
  comes-walk big addr m may = kept.when_moved (shared addr) m (peer_comes big addr m) refl (kept.when_known big addr m may)

  pub brings-walk : (protocol : ℕ) (body : List ℕ) (e : Entry) (m : Machine) → scope.brings false ≡ true → R m (brings protocol body e m)
  brings-walk protocol body e m may = brings-cases R kept.when_nothing kept.when_both (λ addr n. comes-walk false addr n may)
      (λ addr n. kept.when_changed addr (λ p. record p { temp = Hot }) n (λ p. (refl, refl))) protocol body e m

  talks-walk : (item : Item) (e : Entry) (m : Machine) → scope.brings false ≡ true → StandsOpen scope e m → R m (talks item e m)
  talks-walk item e m may_bring s =
      let n : Machine = (begins item.id e m).machine in
      talks-cases item e m (R m) (λ fault. kept.when_ended (Fault fault) e m)
      (λ first seen was takes. kept.when_both m (begins item.id e m) (on_connection e.facts.cid (serves seen item.id)) (begins-walk item.id e m assumption)
      (on_found e.facts.cid.0 (serves seen item.id) n (λ f here.
      let stands : Stands scope f n = found-stands scope e.facts.cid.0 n f here s.own in
      serves-walk seen item.id f n (record { may = s.may; found = stands.found; own = stands.own; live = begun-open item.id e f m s.found s.live here }))))
      (λ second owed is. kept.when_both m (entry_turns e (paid item.id e) m) (brings item.id item.body e) (kept.when_turned (is_paid item.id) e m assumption)
      (brings-walk item.id item.body e (with_entry (paid item.id e) m) may_bring))

  -- by how far it has come
  pub handled-walk : (p : Phase) (item : Item) (e : Entry) (m : Machine) → e.facts.phase ≡ p → scope.sends ≡ true → scope.brings false ≡ true → Stands scope e m →
      R m (handled_in p item e m)
  handled-walk (Greeting until) item e m at may may_bring stands = grind (arith, greets-walk)
  handled-walk Negotiated item e m at may may_bring stands = grind (arith, talks-walk)
  handled-walk other item e m at may may_bring stands = kept.when_nothing m

  pub faulted-walk : (fault : Option CutFault) (e : Entry) (m : Machine) → R m (faulted fault e m)
  faulted-walk None e m = kept.when_nothing m
  faulted-walk (Some fault) e m = kept.when_ended (Fault (kind_of fault)) e m

  pub big-walk : (addr : Addr) (m : Machine) → scope.brings true ≡ true → R m (comes_big addr m)
  big-walk addr m may = cond_both (is_wanted_big addr m) (as_move (shared addr) m (peer_comes true addr m)) (nothing_more m) (R m)
      (λ wanted. comes-walk true addr m may) (λ other. kept.when_nothing m)

-- ---- each act

-- what is stored is of a connection that stands; and the record is in order where a part finds a connection otherwise, or where
-- what it does hangs on how the facts of one go together
abbrev pub Finds : Act → Machine → Type 0
Finds (stores entry undecoded) m = entry_at entry.facts.cid.0 m ≡ Some entry
Finds (fires_one d) m = IsOrdered m
Finds (carries order) m = IsOrdered m
Finds (handles_item cid item) m = IsOrdered m
Finds (connects addr) m = IsOrderly m
Finds other m = Unit {0}

-- it changes connections and peers, and sets nothing
abbrev pub IsChange : Act → Type 0
IsChange (shows t) = ⊥
IsChange asks_for_roots = ⊥
IsChange (sets_targets targets) = ⊥
IsChange (sets_big_targets targets) = ⊥
IsChange (sets_groups groups) = ⊥
IsChange (sets_roots roots) = ⊥
IsChange other = Unit {0}

abbrev pub may_send : Act → Bool
may_send (carries order) = true
may_send (ends_dial cid opened) = true
may_send (handles_item cid item) = true
may_send other = false

abbrev pub may_dial : Act → Bool
may_dial (carries order) = true
may_dial other = false

abbrev pub may_let_in : Act → Bool
may_let_in (connects addr) = true
may_let_in other = false

-- what each act may do
abbrev pub scope_of : Act → Machine → Scope
scope_of act m = record {
  own = is_about act m;
  comes = has_bytes act;
  drops = may_close act;
  goes = goes_by_itself act m;
  timely = true;
  sends = may_send act;
  dials = may_dial act;
  lets_in = may_let_in act;
  forgets = forgets act;
  brings = brings_class act;
  makes = makes_one act;
}

-- what waits its time is live no more
waiting-closed : (cid at : ℕ) (m : Machine) (e : Entry) → entry_at cid m ≡ Some e → until_at kind.TimeWait cid m ≡ Some at → is_live e.facts ≡ false
waiting-closed cid at m e is waits = grind arith

pub orderly-finds : (order : Order) (m : Machine) → IsOrderly m → FindsOwn (scope_of (carries order) m) (address_of order) m
orderly-finds order m h = record {
  found = λ q e is. let at = find_some q m.connections e is in stands-found m e at.place h at.stands;
  own = λ e is at. subst (λ o. is_with (address_of order) o ≡ true) (sym is) at;
}

pub allows-order : (order : Order) (m : Machine) → Allows (scope_of (carries order) m) order
allows-order order m = grind arith

pub own_id : (cid : ℕ) → (cid == cid) ≡ true
own_id cid = eq-eqb cid cid refl

module _ (act : Act) (m : Machine) (R : Machine → Effect → Type 0) (kept : Kept (scope_of act m) R) where
  -- the connection that an act names
  named-walk : (cid : ℕ) (does_it : Entry → Machine → Effect) → is_about act m cid ≡ true →
      ((e : Entry) → entry_at cid m ≡ Some e → cid ≡ e.facts.cid.0 → Stands (scope_of act m) e m → R m (does_it e m)) → R m (on_entry (entry_at cid m) does_it m)
  named-walk cid does_it own each =
      on_found (scope_of act m) R kept cid does_it m
      (λ e is. each e is (sym (eqb-true e.facts.cid.0 cid (find_some (λ x. has_id cid x.facts) m.connections e is).passes)) (found-stands (scope_of act m) cid m e is own))

-- Whatever each change keeps holds of each part that sets nothing.
pub walk : (act : Act) (m : Machine) (R : Machine → Effect → Type 0) → IsChange act → IsNext act m → Finds act m → Kept (scope_of act m) R → R m (does act m)
walk (fires_one d) m R change next found kept = grind (arith, own_id, named-walk, fires-walk, waiting-closed)
walk (carries order) m R change next found kept = orders-walk (scope_of (carries order) m) R kept order m refl (allows-order order m) (orderly-finds order m found.orderly)
walk (connects addr) m R change next found kept = connects-walk (scope_of (connects addr) m) R kept addr m refl
walk (ends_dial cid opened) m R change next found kept = grind (arith, own_id, named-walk, dialed-walk)
walk (stores e undecoded) m R change next found kept = grind (arith, own_id)
walk (handles_item cid item) m R change next found kept = grind (arith, own_id, named-walk, handled-walk)
walk (ends_stream cid fault) m R change next found kept = grind (arith, own_id, named-walk, faulted-walk)
walk (is_closed cid) m R change next found kept = grind (arith, own_id, named-walk)
walk (makes_ordinary addr) m R change next found kept = kept.when_made addr m refl
walk (provides addr) m R change next found kept = kept.when_known false addr m refl
walk (provides_big addr) m R change next found kept = big-walk (scope_of (provides_big addr) m) R kept addr m refl
walk other m R sets next found kept = elim sets [ ]
