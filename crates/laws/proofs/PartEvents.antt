-- The parts of each event are lawful.
use Rattle.std.proofs.Common.{ℕ, zero, suc, ◌≤◌, ◌≡◌, Bool, true, false, ◌||◌, if◌then◌else◌, List, [], ◌∷◌, ◌++◌, map, Option, refl, sym, ap, subst, arith, ◌+◌, nat_lt, Some}
use Rattle.laws.proofs.Words.{or_left, or_right, false≢true, All-from_recursion, cond_both, both_ways, and_from}
use Rattle.laws.specs.Words.{AllByRecursion, has_id, is_live, is_greeting, is_negotiated, Order, FedBy, CutFault, Item, step, same_address, Addr, Cid, Event, Now, Govern, Accepted, Dialed, Bytes, Closed, Aims, Locals, Roots, BigAims, Bigs, Group, RootAnswer, Found, Failed, is_listed, awaits, publics_of, found, with_entry, entry_turns, due, fires, for_each, carries_out, asks_roots, ordinary_rules, big_rules, rules, Machine, Entry, counted_in, entry_at, peer_is_ordinary, comes_ordinary, comes_big, handles, connected, is_live_at, is_dialing, is_dialing_phase, Admit, Pause, pause_of, Phase, Negotiated, Closing, Overwritten, proposal_of, Effect, Move, shared, gone, nothing_more, tells, as_move, own_info, peer_comes, sends_as_initiator, without_entry, entry_goes, entry_comes, lost, ending, vanishes, dial_fails, turned_away, pause_notice, admitted, peer_connects, peer_closes, dial_ends, is_wanted_big}
use Rattle.laws.specs.Acts.{Act, fires_one, carries, handles_item, ends_stream, sets_targets, sets_big_targets, sets_roots, makes_ordinary, provides, provides_big, does, fired_from, fired, orders_of, acts_fed, acts_of_bytes, acts_of_answer, acts, parts_of}
use Rattle.laws.specs.AtMoves.{IsLawful, is_known, is_provided_by, fed_on, is_missed, FailsWhere, is_up_connection}
use Rattle.laws.specs.Parts.{IsAccounted, IsLawfulEvent, IsLawfulPart}
use Rattle.laws.specs.Sends.{Speaks}
use Rattle.laws.specs.Steady.{IsSteady, IsOrdered, IsTied}
use Rattle.laws.proofs.Addresses.{same_address-self, same_address-true}
use Rattle.laws.proofs.CarriedOut.{carried-out}
use Rattle.laws.proofs.Chain.{orders-chain, parts-chain}
use Rattle.laws.proofs.Each.{weaker}
use Rattle.laws.proofs.Clock.{fires-obeys}
use Rattle.laws.proofs.Events.{at_moment-orderly}
use Rattle.laws.proofs.Least.{least-due}
use Rattle.laws.proofs.Arrivals.{cleaned-listed, publics-listed, comes-known}
use Rattle.laws.proofs.Governing.{Governs, governs}
use Rattle.laws.proofs.Keeping.{Keeps}
use Rattle.laws.proofs.Lawful.{quiet-obeys, elsewhere-quiet, changes-quiet, comes-providing, stands-found, turns-obeys, accounts_come, accounts_gone, Obeys, obeys_then, obeys_nothing, IsQuiet, quiet-lawful, tells-quiet, lost-quiet, shared-accounts, ending-obeys, on_stands, turned_then-obeys, as_move-obeys}
use Rattle.laws.proofs.Lists.{StandsAt, find_some}
use Rattle.laws.proofs.Ordering.{AreRight}
use Rattle.laws.proofs.PartMoves.{obeys-part, trimmed-part, providing-part, Tells, fits, EachFits, fits_more, AreLawful, are-lawful, accounted_by}
use Rattle.laws.proofs.Streams.{handles-trimmed, faulted-trimmed, open-live}
use Rattle.laws.proofs.Telling.{are_mute, told_then, told_move}
use Rattle.laws.proofs.Trims.{Trimmed, trimmed-within}
use Rattle.laws.proofs.WholeEvents.{ordered_of, formed_at_moment, fires-keeps}
use Rattle.laws.proofs.WholeMoves.{decodes-keeps, stands-shaped, dialing-live, dialing-opening, pending-unnegotiated, overwritten-keeps}
use Rattle.laws.proofs.Cases.{by_bool, by_option}
use Rattle.laws.proofs.Items.{IsOpen, turned-open, handles-open}
use Rattle.laws.specs.Sound.{IsOrderly}
use Rattle.laws.specs.Stages.{stage_of_phase}
use Rattle.laws.specs.Telling.{IsTold}
use Rattle.laws.proofs.Admitted.{pending-live}
use Rattle.laws.proofs.KnownWanted.{comes-wanted}
use Rattle.laws.proofs.Failures.{vanishes-failed}
use Rattle.laws.proofs.Promotions.{admitted_entry}
use Rattle.laws.proofs.Shapes.{dialing-unnegotiated}
use Rattle.laws.proofs.ToldMoves.{goes-told, admits-told}
use Rattle.laws.proofs.Connects.{connects-cases, dialed-cases, closes-cases}

-- ---- a big ledger peer that is set

pub comes_big-obeys : (addr : Addr) (m : Machine) → Obeys IsLawful m (comes_big addr m)
comes_big-obeys addr m = cond_both (is_wanted_big addr m) (as_move (shared addr) m (peer_comes true addr m)) (nothing_more m) (Obeys IsLawful m)
    (λ wanted. as_move-obeys IsLawful (shared addr) m (peer_comes true addr m) (comes-providing true addr m).moves
    (record { back_off = tt; targets = comes-wanted true addr m (grind (arith, wanted)); cause = tt }) (shared-accounts true addr m))
    (λ other. obeys_nothing IsLawful m)

-- ---- dials

dialing-up : (m : Machine) (e : Entry) (k : ℕ) → IsOrdered m → StandsAt m.connections k e → is_dialing e.facts ≡ true → is_up_connection (Some e) ≡ true
dialing-up m e k h s dials = search (arith, or_right, and_from, stands-shaped, dialing-opening)

dialing-stage : (p : Phase) → is_dialing_phase p ≡ true → stage_of_phase p ≤ 2
dialing-stage Negotiated dials = absurd (false≢true dials)
dialing-stage (Closing until) dials = absurd (false≢true dials)
dialing-stage other dials = omega arith

-- a connection goes, and its peer fails where it is missed
vanishes-told : (m : Machine) (e : Entry) (k : ℕ) → IsOrdered m → StandsAt m.connections k e → IsTold m (vanishes e m)
vanishes-told m e k h s =
    told_then m (entry_goes e m) (lost e.facts) (goes-told m e k h.orderly s) (lost-quiet e.facts (without_entry e.facts.cid.0 m)).told

fails-obeys : (m : Machine) (e : Entry) (k : ℕ) → IsOrdered m → StandsAt m.connections k e → is_dialing e.facts ≡ true →
    Obeys IsLawful m (dial_fails e m)
fails-obeys m e k h s dials =
    let unnegotiated : is_negotiated e.facts ≡ false = dialing-unnegotiated e.facts.phase dials in
    let lost : IsQuiet (without_entry e.facts.cid.0 m) (lost e.facts (without_entry e.facts.cid.0 m)) = lost-quiet e.facts (without_entry e.facts.cid.0 m) in
    as_move-obeys IsLawful (gone e.facts.cid.0) m (vanishes e m) lost.moves
    (record { back_off = tt; targets = tt; cause = on_stands (λ x. (is_negotiated x.facts ≡ false) × FailsWhere (is_missed x.facts) x m (vanishes e m).machine) m e k h.orderly s (unnegotiated, vanishes-failed e m) })
    (accounts_gone m e k (dial_fails e m) h.orderly s lost.connections lost.hot lost.known
    (told_move (gone e.facts.cid.0) m (vanishes e m) refl refl (vanishes-told m e k h s)))

pub dial_ends-obeys : (cid : Cid) (opened : Bool) (m : Machine) → IsOrdered m → Obeys IsLawful m (dial_ends cid opened m)
dial_ends-obeys cid opened m h = dialed-cases cid opened m (Obeys IsLawful m) (obeys_nothing IsLawful m)
    (λ e k s dials.
    let new : Entry = record e { facts = connected (m.now + m.settings.handshake) e.facts } in
    let proposal : Machine → Effect = λ n. sends_as_initiator e.facts.cid 0 (proposal_of (own_info n.settings)) n in
    turned_then-obeys IsLawful m e new k proposal h.orderly s
    (record { same_id = refl; same_addr = refl; live = λ l. dialing-live e.facts.phase dials })
    (record { up = λ up. dialing-up m e k h s dials; asked = λ asked. asked })
    (dialing-stage e.facts.phase dials)
    (tells-quiet (proposal (with_entry new m)).actions (with_entry new m) refl))
    (λ e k s dials. fails-obeys m e k h s dials)

-- ---- a peer connects

-- accepting pauses or not
pause-quiet : (m : Machine) → IsQuiet m (tells (pause_notice m) m)
pause-quiet m = search (arith, tells-quiet)

admitted-told : (addr : Addr) (m : Machine) → IsOrderly m → IsTold m (admitted addr m)
admitted-told addr m h =
    let first : Effect = entry_comes (Admit (record { 0 = m.next_id }) addr ∷ []) (admitted_entry addr m) m in
    told_then m first (λ n. tells (pause_notice n) n) (admits-told m (admitted_entry addr m) addr h refl refl) (pause-quiet first.machine).told

admitted-obeys : (Law : Move → Type 0) (addr : Addr) (m : Machine) → IsOrderly m → Obeys Law m (admitted addr m)
admitted-obeys Law addr m h = record {
  lawful = tt;
  accounted = accounts_come m (admitted_entry addr m) (admitted addr m) refl refl refl (admitted-told addr m h);
}

pub connects-obeys : (addr : Addr) (m : Machine) → IsOrdered m → Obeys IsLawful m (peer_connects addr m)
connects-obeys addr m h = connects-cases addr m (Obeys IsLawful m)
    (λ cause. quiet-obeys IsLawful m (turned_away cause m) (tells-quiet (turned_away cause m).actions m refl))
    (λ room alone. admitted-obeys IsLawful addr m h.orderly)
    (λ room e is pending.
    let at = find_some (λ y. is_live_at addr y.facts) m.connections e is in
    obeys_then IsLawful m (ending Overwritten e m) (admitted addr)
    (ending-obeys Overwritten m e at.place h.orderly at.stands (pending-live e.facts pending)
    (λ negotiated. absurd (both_ways (is_negotiated e.facts) (pending-unnegotiated e.facts pending) negotiated)) tt)
    (admitted-obeys IsLawful addr (ending Overwritten e m).machine (overwritten-keeps m e at.place h at.stands pending).ordered.orderly))

-- ---- the other side closes

pub closes-obeys : (cid : Cid) (m : Machine) → IsOrdered m → Obeys IsLawful m (peer_closes cid m)
closes-obeys cid m h = closes-cases cid m (Obeys IsLawful m) (obeys_nothing IsLawful m)
    (λ e k s own.
    let lost : IsQuiet (without_entry e.facts.cid.0 m) (lost e.facts (without_entry e.facts.cid.0 m)) = lost-quiet e.facts (without_entry e.facts.cid.0 m) in
    record {
      lawful = quiet-lawful IsLawful (vanishes e m) lost.moves;
      accounted = accounts_gone m e k (vanishes e m) h.orderly s lost.connections lost.hot lost.known (vanishes-told m e k h s);
    })

-- ---- the clock

fired-parts : (event : Event) (n : ℕ) (m : Machine) → IsOrdered m → EachFits event (map fires_one (fired n m)) m
unfolding fired
fired-parts event zero m h = tt
fired-parts event (suc n) m h = by_option (due m)
    (λ o. ((w : Machine) → IsOrdered w → EachFits event (map fires_one (fired n w)) w) → EachFits event (map fires_one (fired_from o (fired n) m)) m)
    (λ is later. tt)
    (λ d is later. (fits tt (least-due m d h is) tt h (obeys-part (fires-obeys d m h is)), later (fires d m).machine (fires-keeps d m h is).ordered)) (fired-parts event n)

-- what is neither a connection nor a peer is set
set-part : {event : Event} (act : Act) (m : Machine) → (does act m).moves ≡ [] → (does act m).machine.connections ≡ m.connections →
    (does act m).machine.peers ≡ m.peers → (does act m).machine.next_id ≡ m.next_id → (does act m).actions ≡ [] → Tells event m (does act m)
set-part act m none connections peers next_id silent = search (arith, obeys-part, quiet-obeys, elsewhere-quiet)

clock-parts : (t : ℕ) (m : Machine) → IsOrdered m → EachFits (Now t) (acts m (Now t)) m
clock-parts t m h = search (arith, at_moment-orderly, formed_at_moment, fits, set-part, fired-parts)

-- ---- the governor

orders-parts : (event : Event) (orders : List Order) (m : Machine) → IsTied m → AreRight orders m → EachFits event (map carries orders) m
orders-parts event [] m tied h = tt
orders-parts event (o ∷ orders) m tied h =
    let rest = orders-parts event orders (carries_out o m).machine (h.0.trimmed.ties tied) h.1 in
    (fits tt h.0.due (carried-out o m h.0.ordered.orderly) h.0.ordered (trimmed-part tied h.0.trimmed), rest)

govern-parts : (word : ℕ) (m : Machine) → IsOrdered m → counted_in m ≤ m.settings.hard → IsTied m → EachFits (Govern word) (acts m (Govern word)) m
govern-parts word m h within tied =
    let g : Governs word m = governs word m h within in
    let n : Machine = (asks_roots m).machine in
    let o : Machine = (for_each rules (ordinary_rules word) n).machine in
    let ordinary : List Order = orders_of (ordinary_rules word) n in
    let big : List Order = orders_of (big_rules word) o in
    let rest : EachFits (Govern word) (map carries ordinary ++ map carries big) n = fits_more (Govern word) (map carries ordinary) (map carries big) n
    (orders-parts (Govern word) ordinary n (g.asked.ties tied) g.ordinary) (subst (λ effect. EachFits (Govern word) (map carries big) effect.machine)
    (orders-chain (ordinary_rules word) n) (orders-parts (Govern word) big o (g.ruled.ties (g.asked.ties tied)) g.big)) in
    (fits tt tt tt tt (trimmed-part tied g.asked), rest)

-- ---- bytes

record Feeding (cid : Cid) (m : Machine) : Type 0 where
  ordered : IsOrdered m
  within : counted_in m ≤ m.settings.hard
  tied : IsTied m
  open_ : IsOpen cid.0 m

items-parts : (event : Event) (cid : Cid) (fault : Option CutFault) (items : List Item) (m : Machine) → Feeding cid m →
    EachFits event (map (handles_item cid) items ++ ends_stream cid fault ∷ []) m
items-parts event cid fault [] m f = (fits tt tt tt tt (trimmed-part f.tied (faulted-trimmed cid fault m f.ordered f.within f.open_)), tt)
items-parts event cid fault (item ∷ items) m f =
    let t : Trimmed IsLawful m (handles cid item m) = handles-trimmed cid item m f.ordered f.within in
    let rest = items-parts event cid fault items (handles cid item m).machine (record {
      ordered = t.ordered;
      within = trimmed-within IsLawful m (handles cid item m) t;
      tied = t.ties f.tied;
      open_ = handles-open cid item m f.ordered f.open_;
    }) in
    (fits tt tt f.tied f.ordered (trimmed-part f.tied t), rest)

fed-parts : (event : Event) (fed : FedBy) (m : Machine) (e : Entry) (k : ℕ) → IsOrdered m → counted_in m ≤ m.settings.hard → IsTied m → StandsAt m.connections k e →
    is_live e.facts ≡ true → EachFits event (acts_fed fed e) m
fed-parts event fed m e k h within tied s live =
    let new : Entry = record e { undecoded = fed.state.undecoded } in
    let keeps : Keeps 0 m (with_entry new m) = decodes-keeps fed.state.undecoded m e k h s in
    let hard : (with_entry new m).settings.hard ≡ m.settings.hard = ap (λ x. x.hard) keeps.settings in
    let turns : Obeys IsLawful m (entry_turns e new m) = turns-obeys IsLawful m e new k h.orderly s (record { same_id = refl; same_addr = refl; live = λ l. l })
    (record { up = λ up. up; asked = λ asked. asked }) (omega arith) in
    let rest = items-parts event e.facts.cid fed.state.fault fed.items (with_entry new m)
    (record { ordered = keeps.ordered; within = omega (arith, keeps.counted, hard, within); tied = keeps.ties tied; open_ = turned-open new m live }) in
    (fits tt tt tt (stands-found m e k h.orderly s) (obeys-part turns), rest)

bytes-parts : (cid : Cid) (bytes : List ℕ) (m : Machine) → IsOrdered m → counted_in m ≤ m.settings.hard → IsTied m → EachFits (Bytes cid bytes) (acts m (Bytes cid bytes)) m
bytes-parts cid bytes m h within tied = by_option (entry_at cid.0 m) (λ o. EachFits (Bytes cid bytes) (acts_of_bytes o bytes) m)
    (λ is. tt)
    (λ e is.
    let at = find_some (λ y. has_id cid.0 y.facts) m.connections e is in
    by_bool (is_greeting e.facts || is_negotiated e.facts) (λ b. EachFits (Bytes cid bytes) (if b then acts_fed (fed_on e bytes) e else []) m)
    (λ open_. fed-parts (Bytes cid bytes) (fed_on e bytes) m e at.place h within tied at.stands (open-live e.facts.phase open_)) (λ other. tt))

-- ---- what is set and provided

ordinary-parts : (event : Event) (addrs : List Addr) (m : Machine) → EachFits event (map makes_ordinary addrs) m
ordinary-parts event [] m = tt
ordinary-parts event (a ∷ addrs) m = search (arith, changes-quiet, fits, obeys-part, quiet-obeys, ordinary-parts event addrs (peer_is_ordinary a m).machine)

provided-parts : (event : Event) (addrs : List Addr) (m : Machine) → AllByRecursion (λ a. is_provided_by a event ≡ true) addrs → EachFits event (map provides addrs) m
provided-parts event [] m named = tt
provided-parts event (a ∷ addrs) m named = (fits tt tt tt tt (providing-part (comes-providing false a m) one), provided-parts event addrs (comes_ordinary a m).machine named.1)
  where
    one : (b : Addr) → is_known b (comes_ordinary a m).machine ≡ true → (is_known b m || is_provided_by b event) ≡ true
    one b known = by_known (is_known b m) (same_address b a) refl (comes-known a b m known)
      where
        by_known : (before same : Bool) → same_address b a ≡ same → (before || same) ≡ true → (before || is_provided_by b event) ≡ true
        by_known true same is h = refl
        by_known false true is h = subst (λ x. is_provided_by x event ≡ true) (sym (same_address-true b a is)) named.0
        by_known false false is h = absurd (false≢true h)

all-listed : (whole addrs : List Addr) → ((a : Addr) → is_listed a addrs ≡ true → is_listed a whole ≡ true) → AllByRecursion (λ a. is_listed a whole ≡ true) addrs
all-listed whole [] among = tt
all-listed whole (a ∷ addrs) among = search (arith, or_left, same_address-self, or_right, all-listed whole addrs (λ b later. among b (or_right (same_address b a) (is_listed b addrs) later)))

locals-parts : (groups : List Group) (m : Machine) → EachFits (Locals groups) (acts m (Locals groups)) m
locals-parts groups m = search (arith, fits_more, ordinary-parts, provided-parts, all-listed, cleaned-listed, fits, set-part)

roots-parts : (event : Event) (answer : RootAnswer) (m : Machine) → ((a : Addr) (ttl : ℕ) (addrs : List Addr) → answer ≡ Found ttl addrs → is_listed a addrs ≡ true → is_provided_by a event ≡ true) →
    EachFits event (acts_of_answer answer m) m
roots-parts event (Found ttl addrs) m named =
    let publics : List Addr = publics_of m.settings.own m.targets.root addrs in
    let rest = provided-parts event publics (record m { roots = found m.now ttl publics m.roots })
    (weaker publics (λ a. named a ttl addrs refl) (all-listed addrs publics (λ a. publics-listed a m.settings.own m.targets.root addrs))) in
    (fits tt tt tt tt (set-part (sets_roots (found m.now ttl publics m.roots)) m refl refl refl refl refl), rest)
roots-parts event Failed m named = (fits tt tt tt tt (set-part (sets_roots _) m refl refl refl refl refl), tt)

bigs-parts : (event : Event) (addrs : List Addr) (m : Machine) → EachFits event (map provides_big addrs) m
bigs-parts event [] m = tt
bigs-parts event (a ∷ addrs) m = (fits tt tt tt tt (obeys-part (comes_big-obeys a m)), bigs-parts event addrs (comes_big a m).machine)

-- ---- each event

parts-fit : (m : Machine) (event : Event) → IsSteady m → EachFits event (acts m event) m
parts-fit m (Now t) h = clock-parts t m (ordered_of m h)
parts-fit m (Govern word) h = govern-parts word m (ordered_of m h) h.sound.counted h.tied
parts-fit m (Accepted addr) h = (fits tt tt tt (ordered_of m h).orderly (obeys-part (connects-obeys addr m (ordered_of m h))), tt)
parts-fit m (Dialed cid opened) h = (fits tt tt tt tt (obeys-part (dial_ends-obeys cid opened m (ordered_of m h))), tt)
parts-fit m (Bytes cid bytes) h = bytes-parts cid bytes m (ordered_of m h) h.sound.counted h.tied
parts-fit m (Closed cid) h = (fits (λ id is. is) tt tt tt (obeys-part (closes-obeys cid m (ordered_of m h))), tt)
parts-fit m (Aims targets) h = (fits tt tt tt tt (set-part (sets_targets targets) m refl refl refl refl refl), tt)
parts-fit m (Locals groups) h = locals-parts groups m
parts-fit m (Roots job answer) h = search (arith, roots-parts)
parts-fit m (BigAims targets) h = (fits tt tt tt tt (set-part (sets_big_targets targets) m refl refl refl refl refl), tt)
parts-fit m (Bigs addrs) h = bigs-parts (Bigs addrs) addrs m

pub event-lawful : (m : Machine) (event : Event) → IsSteady m → IsLawfulEvent m event
event-lawful m event h =
    let all : AreLawful event (acts m event) m = are-lawful event (acts m event) m (parts-fit m event h) in
    let chain = sym (parts-chain m event) in
    record {
      parts = parts-chain m event;
      each = All-from_recursion (IsLawfulPart event) (parts_of m event) all.each;
      accounted = subst (IsAccounted event m) chain (accounted_by event m (for_each does (acts m event) m) all.tells all.ends);
      speaks = subst (Speaks m) chain all.speaks;
      moves = All-from_recursion IsLawful (step m event).moves (subst (λ effect. AllByRecursion IsLawful effect.moves) chain all.tells.lawful);
    }
