-- The moves of a part of a step: each keeps a law, no connection whose handshake is done is gone without one, and nobody
-- comes up without one.
use Rattle.std.proofs.Common.{ℕ, ◌%◌, ◌≡◌, ◌≤◌, Bool, true, false, nat_lt, arith, List, [], Some, refl, sym, ap, ◌∙◌, subst}
use Rattle.laws.proofs.Words.{false≢true}
use Rattle.laws.specs.Words.{AllByRecursion, same_address, Action, CloseCause, Unused, Overwritten, Facts, Phase, Negotiated, Closing, Peer, has_id, is_live, live_phase, is_negotiated, is_negotiated_phase, Machine, Entry, entry_at, Effect, Happened, Move, promoted, shared, ended, nothing_more, tells, then_do, as_move, peer_at, peer_changes, peer_succeeds, note_of_coming, peer_comes, Addr, new_peer, entry_of, entered, Added, New, owing, sends_as_initiator, with_entry, without_entry, entry_turns, entry_goes, lost, lost_by, ending, is_used, Warm, written_alive}
use Rattle.warm_messages.specs.declared.alive.Alive.TheVariants.{Ask}
use Rattle.laws.specs.AtMoves.{OutOfBackOff, WithinTargets, IsPrunedRightly, is_failure, FailsWhere, OnEntry, ForCause, IsLawful, is_up_connection, is_up, is_asked_connection, is_hot_or_asked, is_known, promotes, activates, shares}
use Rattle.laws.specs.Parts.{RisesBy}
use Rattle.laws.specs.Sound.{IsOrderly}
use Rattle.laws.specs.Stages.{stage_of_phase, stage_of, stage_at, stage_ended, IsLateCause}
use Rattle.laws.specs.Telling.{IsTold}
use Rattle.laws.specs.InActions.{ended_by, promoted_by_dial}
use Rattle.laws.proofs.Entries.{TurnsInto, one_has_id, has_own_id, with_new}
use Rattle.laws.proofs.Failures.{ending-failed}
use Rattle.laws.proofs.Keeping.{note-machine}
use Rattle.laws.proofs.Lists.{StandsAt, find_only, all-appended, not_below}
use Rattle.laws.proofs.Owing.{with_reply-some}
use Rattle.laws.proofs.PeersApart.{same_turned}
use Rattle.laws.proofs.Rises.{rises_by_then, rises_by_move, rises_said, StaysDown, is_hot, NoneConnected, hot_or_asked-down, rises_nowhere, same-connected, connected_then, IsNoHigher, turned-down, turned-connected, gone-connected, come-down, IsCooling, changed-hot, changed-known, entered-hot, entered-known}
use Rattle.laws.proofs.Telling.{are_mute, mute, told_unchanged, told_then, told_move}
use Rattle.laws.proofs.Ties.{turned_elsewhere}
use Rattle.laws.proofs.ToldMoves.{turned-told, goes-told, goes-stage, ended-told, changes-told, turns_at-next, peer_comes-told, turns_at-moves, turns_at-connections}

-- ---- nobody comes up without a move

pub record Accounts (before : Machine) (effect : Effect) : Type 0 where
  pub promotions : RisesBy is_up promotes before effect
  pub activations : RisesBy is_hot_or_asked activates before effect
  pub arrivals : RisesBy is_known shares before effect
  pub told : IsTold before effect

pub accounts_then : (m : Machine) (first : Effect) (next : Machine → Effect) → Accounts m first → Accounts first.machine (next first.machine) → Accounts m (then_do first next)
accounts_then m first next one two = record {
  promotions = rises_by_then is_up promotes m first next one.promotions two.promotions;
  activations = rises_by_then is_hot_or_asked activates m first next one.activations two.activations;
  arrivals = rises_by_then is_known shares m first next one.arrivals two.arrivals;
  told = told_then m first next one.told two.told;
}

-- more moves account for more, where they are neither ends nor dials
pub accounts_move : (happened : Happened) (m : Machine) (effect : Effect) → ended_by happened ≡ [] → promoted_by_dial happened m.next_id effect.machine.next_id ≡ [] →
    Accounts m effect → Accounts m (as_move happened m effect)
accounts_move happened m effect no_end no_dial h = record {
  promotions = rises_by_move is_up promotes happened m effect h.promotions;
  activations = rises_by_move is_hot_or_asked activates happened m effect h.activations;
  arrivals = rises_by_move is_known shares happened m effect h.arrivals;
  told = told_move happened m effect no_end no_dial h.told;
}

-- nobody comes up
accounts_none : (m : Machine) (effect : Effect) → NoneConnected m effect.machine → StaysDown is_hot m effect.machine → StaysDown is_known m effect.machine →
    IsTold m effect → Accounts m effect
accounts_none m effect connected hot known told = grind arith

-- a connection turns
pub accounts_turned : (m : Machine) (e new : Entry) (k : ℕ) (effect : Effect) → IsOrderly m → StandsAt m.connections k e → TurnsInto e new → IsNoHigher e new →
    effect.machine ≡ with_entry new m → IsTold m effect → Accounts m effect
accounts_turned m e new k effect h s t lower same told =
    accounts_none m effect (subst (NoneConnected m) (sym same) (turned-connected m e new k h s t lower))
    (subst (StaysDown is_hot m) (sym same) (λ addr hot. hot)) (subst (StaysDown is_known m) (sym same) (λ addr known. known)) told

-- a connection goes, and nobody comes up by what follows
pub accounts_gone : (m : Machine) (e : Entry) (k : ℕ) (effect : Effect) → IsOrderly m → StandsAt m.connections k e →
    effect.machine.connections ≡ (without_entry e.facts.cid.0 m).connections → StaysDown is_hot m effect.machine → StaysDown is_known m effect.machine →
    IsTold m effect → Accounts m effect
accounts_gone m e k effect h s same hot known told = grind (arith, accounts_none, connected_then, gone-connected, same-connected)

-- a connection comes that is neither up nor asked
pub accounts_come : (m : Machine) (new : Entry) (effect : Effect) → is_up_connection (Some new) ≡ false → is_asked_connection (Some new) ≡ false →
    effect.machine ≡ with_new new m → IsTold m effect → Accounts m effect
accounts_come m new effect up asked same told =
    accounts_none m effect (grind (arith, same, come-down is_up_connection refl m new up, come-down is_asked_connection refl m new asked)) (grind (arith, same)) (grind (arith, same)) told

-- ---- each move keeps a law

pub record Obeys (Law : Move → Type 0) (before : Machine) (effect : Effect) : Type 0 where
  pub lawful : AllByRecursion Law effect.moves
  pub accounted : Accounts before effect

pub obeys_then : (Law : Move → Type 0) (m : Machine) (first : Effect) (next : Machine → Effect) → Obeys Law m first → Obeys Law first.machine (next first.machine) →
    Obeys Law m (then_do first next)
obeys_then Law m first next one two = grind (arith, all-appended Law first.moves (next first.machine).moves one.lawful two.lawful, accounts_then m first next one.accounted two.accounted)

-- what makes no move, leaves the connections, and lets nobody come up
pub record IsQuiet (before : Machine) (effect : Effect) : Type 0 where
  pub moves : effect.moves ≡ []
  pub connections : effect.machine.connections ≡ before.connections
  pub hot : StaysDown is_hot before effect.machine
  pub known : StaysDown is_known before effect.machine
  pub told : IsTold before effect

pub quiet-lawful : (Law : Move → Type 0) (effect : Effect) → effect.moves ≡ [] → AllByRecursion Law effect.moves
quiet-lawful Law effect none = subst (AllByRecursion Law) (sym none) tt

pub quiet-obeys : (Law : Move → Type 0) (m : Machine) (effect : Effect) → IsQuiet m effect → Obeys Law m effect
quiet-obeys Law m effect q = record { lawful = quiet-lawful Law effect q.moves; accounted = accounts_none m effect (same-connected m effect.machine q.connections) q.hot q.known q.told }

-- what is neither a connection nor a peer is no matter of either
pub elsewhere-quiet : (m : Machine) (effect : Effect) → effect.moves ≡ [] → effect.machine.connections ≡ m.connections → effect.machine.peers ≡ m.peers →
    effect.machine.next_id ≡ m.next_id → are_mute effect.actions ≡ true → IsQuiet m effect
elsewhere-quiet m effect none connections peers next_id silent =
    grind (arith, told_unchanged m effect (mute effect.actions silent) none (record { connections = connections; peers = peers; next_id = next_id }), mute effect.actions silent)

-- what is only sent
pub tells-quiet : (actions : List Action) (m : Machine) → are_mute actions ≡ true → IsQuiet m (tells actions m)
tells-quiet actions m silent = elsewhere-quiet m (tells actions m) refl refl refl refl silent

pub obeys_nothing : (Law : Move → Type 0) (m : Machine) → Obeys Law m (nothing_more m)
obeys_nothing Law m = quiet-obeys Law m (nothing_more m) (tells-quiet [] m refl)

pub quiet_then : (m : Machine) (first : Effect) (next : Machine → Effect) → IsQuiet m first → IsQuiet first.machine (next first.machine) → IsQuiet m (then_do first next)
quiet_then m first next one two = grind (arith, told_then m first next one.told two.told)

-- a peer changes, and does not become hot
pub changes-quiet : (a : Addr) (change : Peer → Peer) (m : Machine) → IsCooling change → IsQuiet m (peer_changes a change m)
changes-quiet a change m cools = grind (arith, turns_at-moves, turns_at-connections, changed-hot, changed-known, changes-told)

pub lost-quiet : (f : Facts) (m : Machine) → IsQuiet m (lost f m)
lost-quiet f m = grind (arith, tells-quiet [] m refl, changes-quiet)

pub lost_by-quiet : (cause : CloseCause) (f : Facts) (m : Machine) → IsQuiet m (lost_by cause f m)
lost_by-quiet Overwritten f m = tells-quiet [] m refl
lost_by-quiet other f m = lost-quiet f m

-- ---- an address comes into the book

-- what makes no move, leaves the connections, and makes no peer hot
pub record IsProviding (before : Machine) (effect : Effect) : Type 0 where
  pub moves : effect.moves ≡ []
  pub connections : effect.machine.connections ≡ before.connections
  pub hot : StaysDown is_hot before effect.machine
  pub told : IsTold before effect

note-moves : (added : Added) (addr : Addr) (m : Machine) → (note_of_coming added addr m).moves ≡ []
note-moves New addr m = refl
note-moves other addr m = refl

pub comes-machine : (big : Bool) (addr : Addr) (m : Machine) → (peer_comes big addr m).machine ≡ record m { peers = entered (new_peer big addr) m.peers }
comes-machine big addr m = note-machine (entry_of addr m.peers) addr (record m { peers = entered (new_peer big addr) m.peers })

pub comes-providing : (big : Bool) (addr : Addr) (m : Machine) → IsProviding m (peer_comes big addr m)
comes-providing big addr m = grind (arith, comes-machine, is_hot, entered-hot, peer_comes-told, note-moves)

-- as a move
pub shared-accounts : (big : Bool) (addr : Addr) (m : Machine) → Accounts m (as_move (shared addr) m (peer_comes big addr m))
shared-accounts big addr m = grind (arith, comes-providing, comes-machine, same-connected, rises_nowhere, hot_or_asked-down, rises_said, entered-known, told_move)

-- ---- a connection turns or goes

-- what stands is found by its id
pub stands-found : (m : Machine) (e : Entry) (k : ℕ) → IsOrderly m → StandsAt m.connections k e → entry_at e.facts.cid.0 m ≡ Some e
stands-found m e k h s = find_only (λ x. has_id e.facts.cid.0 x.facts) e m.connections k (one_has_id e.facts.cid.0 m.connections h.ids_rise) s (has_own_id e)

pub on_stands : (law : Entry → Type 0) (m : Machine) (e : Entry) (k : ℕ) → IsOrderly m → StandsAt m.connections k e → law e → OnEntry (entry_at e.facts.cid.0 m) law
on_stands law m e k h s holds = subst (λ o. OnEntry o law) (sym (stands-found m e k h s)) holds

pub live_stage : (p : Phase) → live_phase p ≡ true → stage_of_phase p ≤ 3
live_stage (Closing until) live = absurd (false≢true live)
live_stage other live = omega arith

negotiated_stage : (p : Phase) → stage_of_phase p ≡ 3 → is_negotiated_phase p ≡ true
negotiated_stage Negotiated is = refl
negotiated_stage other is = absurd (omega (arith, is))

ended-most : (cause : CloseCause) → stage_ended cause ≤ 5
ended-most Unused = omega arith
ended-most other = omega arith

-- the stage of one that stands
pub stands-stage : (m : Machine) (e : Entry) (k : ℕ) → IsOrderly m → StandsAt m.connections k e → stage_at e.facts.cid.0 m ≡ stage_of_phase e.facts.phase
stands-stage m e k h s = ap (λ o. stage_of o (nat_lt e.facts.cid.0 m.next_id)) (stands-found m e k h s)

ending-told : (cause : CloseCause) (m : Machine) (e : Entry) (k : ℕ) → IsOrderly m → StandsAt m.connections k e → is_live e.facts ≡ true →
    (is_negotiated e.facts ≡ true → IsLateCause cause) → IsTold m (ending cause e m)
ending-told cause m e k h s live may =
    let n : Machine = without_entry e.facts.cid.0 m in
    let q : IsQuiet n (lost_by cause e.facts n) = lost_by-quiet cause e.facts n in
    let inner : Effect = then_do (entry_goes e m) (lost_by cause e.facts) in
    let stage : stage_at e.facts.cid.0 m ≡ stage_of_phase e.facts.phase = stands-stage m e k h s in
    let early : stage_of_phase e.facts.phase ≤ 3 = live_stage e.facts.phase live in
    let gone : stage_at e.facts.cid.0 n ≡ 5 = goes-stage m e k h s in
    let over : stage_at e.facts.cid.0 n ≤ stage_at e.facts.cid.0 inner.machine = (q.told.connections e.facts.cid.0).forward in
    ended-told (ended e.facts.cid.0 cause) e.facts.cid cause m inner refl refl (told_then m (entry_goes e m) (lost_by cause e.facts) (goes-told m e k h s) q.told) q.moves
    (omega (arith, stage, early)) (omega (arith, gone, over, ended-most cause)) (λ open_. may (negotiated_stage e.facts.phase (sym stage ∙ open_)))

pub ending-obeys : (cause : CloseCause) (m : Machine) (e : Entry) (k : ℕ) → IsOrderly m → StandsAt m.connections k e → is_live e.facts ≡ true →
    (is_negotiated e.facts ≡ true → IsLateCause cause) → IsPrunedRightly cause e m → Obeys IsLawful m (ending cause e m)
ending-obeys cause m e k h s live may crowded =
    let n : Machine = without_entry e.facts.cid.0 m in
    let q : IsQuiet n (lost_by cause e.facts n) = lost_by-quiet cause e.facts n in
    let right = on_stands (λ x. (is_negotiated x.facts ≡ true → IsLateCause cause) × IsPrunedRightly cause x m × FailsWhere (is_failure cause x.facts) x m (ending cause e m).machine) m e k h s
    (may, crowded, ending-failed cause e m) in
    record {
      lawful = grind (arith, q.moves, right);
      accounted = accounts_gone m e k (ending cause e m) h s q.connections q.hot q.known (ending-told cause m e k h s live may);
    }

-- a connection turns
pub turns-obeys : (Law : Move → Type 0) (m : Machine) (e new : Entry) (k : ℕ) → IsOrderly m → StandsAt m.connections k e → TurnsInto e new → IsNoHigher e new →
    stage_of_phase e.facts.phase ≤ stage_of_phase new.facts.phase → Obeys Law m (entry_turns e new m)
turns-obeys Law m e new k h s t lower forward =
    record { lawful = tt; accounted = accounts_turned m e new k (entry_turns e new m) h s t lower refl (turned-told m e new k h s t forward) }

-- and then something that is quiet
pub turned_then-obeys : (Law : Move → Type 0) (m : Machine) (e new : Entry) (k : ℕ) (next : Machine → Effect) → IsOrderly m → StandsAt m.connections k e → TurnsInto e new →
    IsNoHigher e new → stage_of_phase e.facts.phase ≤ stage_of_phase new.facts.phase → IsQuiet (with_entry new m) (next (with_entry new m)) →
    Obeys Law m (then_do (entry_turns e new m) next)
turned_then-obeys Law m e new k next h s t lower forward quiet =
    obeys_then Law m (entry_turns e new m) next (turns-obeys Law m e new k h s t lower forward) (quiet-obeys Law (with_entry new m) (next (with_entry new m)) quiet)

-- ---- a connection comes into use

-- what follows on the connection
succeeds-quiet : (f : Facts) (m : Machine) → IsQuiet m (then_do (peer_succeeds f.addr m) (sends_as_initiator f.cid 8 (written_alive (Ask (f.cid.0 % 65536)))))
succeeds-quiet f m = grind (arith, quiet_then, changes-quiet, tells-quiet)

asked-before : (m : Machine) (e : Entry) (f : Facts) → is_asked_connection (Some (owing 8 (f.cid.0 % 65536) m (record e { facts = f }))) ≡ true → is_asked_connection (Some e) ≡ true
asked-before m e f = grind (arith, with_reply-some)

pub negotiated-forward : (p q : Phase) → live_phase p ≡ true → is_negotiated_phase q ≡ true → stage_of_phase p ≤ stage_of_phase q
negotiated-forward p Negotiated live negotiated = live_stage p live
negotiated-forward p other live negotiated = absurd (false≢true negotiated)

-- one that was on its way
pub used-obeys : (Law : Move → Type 0) (f : Facts) (m : Machine) (e : Entry) (k : ℕ) → IsOrderly m → StandsAt m.connections k e → f.cid ≡ e.facts.cid → f.addr ≡ e.facts.addr →
    is_live e.facts ≡ true → is_negotiated f ≡ true → is_up_connection (Some e) ≡ true → Obeys Law m (is_used f e m)
used-obeys Law f m e k h s cid addr live negotiated up =
    let new : Entry = owing 8 (f.cid.0 % 65536) m (record e { facts = f }) in
    turned_then-obeys Law m e new k (λ m. then_do (peer_succeeds f.addr m) (sends_as_initiator f.cid 8 (written_alive (Ask (f.cid.0 % 65536))))) h s
    (record { same_id = cid; same_addr = addr; live = λ l. live }) (record { up = λ rises. up; asked = asked-before m e f })
    (negotiated-forward e.facts.phase f.phase live negotiated) (succeeds-quiet f (with_entry new m))

-- ---- targets aside

-- a law on moves but for targets and valencies
pub record IsAllowed (move : Move) : Type 0 where
  pub back_off : OutOfBackOff move.happened move.before
  pub cause : ForCause move.happened move.before move.after

abbrev pub Within : Move → Type 0
Within move = WithinTargets move.happened move.before move.after

pub allowed_within : (move : Move) → IsAllowed move → Within move → IsLawful move
allowed_within move allowed within = record { back_off = allowed.back_off; targets = within; cause = allowed.cause }

-- the part as a whole is a move, where it is quiet by itself
pub as_move-obeys : (Law : Move → Type 0) (happened : Happened) (m : Machine) (effect : Effect) → effect.moves ≡ [] →
    Law (record { happened = happened; before = m; after = effect.machine }) → Accounts m (as_move happened m effect) → Obeys Law m (as_move happened m effect)
as_move-obeys Law happened m effect none law accounted = grind arith

-- a promotion that gives out no id is no dial
reuse-told : (a : Addr) (m : Machine) (effect : Effect) → effect.machine.next_id ≡ m.next_id → IsTold m effect → IsTold m (as_move (promoted a) m effect)
reuse-told a m effect same h =
    told_move (promoted a) m effect refl (grind (arith, same, not_below m.next_id)) h

-- a connection that stood comes into use, as a promotion of its address
pub promoted-obeys : (Law : Move → Type 0) (f : Facts) (m : Machine) (e : Entry) (k : ℕ) (a : Addr) → IsOrderly m → StandsAt m.connections k e → f.cid ≡ e.facts.cid → f.addr ≡ e.facts.addr →
    e.facts.addr ≡ a → is_live e.facts ≡ true → is_negotiated f ≡ true →
    Law (record { happened = promoted a; before = m; after = (is_used f e m).machine }) → Obeys Law m (as_move (promoted a) m (is_used f e m))
promoted-obeys Law f m e k a h s cid addr here live negotiated law =
    let new : Entry = owing 8 (f.cid.0 % 65536) m (record e { facts = f }) in
    let n : Machine = with_entry new m in
    let next : Machine → Effect = λ m. then_do (peer_succeeds f.addr m) (sends_as_initiator f.cid 8 (written_alive (Ask (f.cid.0 % 65536)))) in
    let effect : Effect = is_used f e m in
    let quiet : IsQuiet n (next n) = succeeds-quiet f n in
    let turns : TurnsInto e new = record { same_id = cid; same_addr = addr; live = λ l. live } in
    let after : NoneConnected n effect.machine = same-connected n effect.machine quiet.connections in
    as_move-obeys Law (promoted a) m effect quiet.moves law (record {
      promotions = rises_said is_up promotes (promoted a) m effect
          (λ b other up. ap is_up_connection (sym (turned_elsewhere m e new k h s turns b
          (same_turned e.facts.addr b (subst (λ x. same_address x b ≡ false) (sym here) other)))) ∙ after.up b up);
      activations = rises_nowhere is_hot_or_asked activates m (as_move (promoted a) m effect)
          (hot_or_asked-down m effect.machine quiet.hot
          (λ b asked. turned-down is_asked_connection refl m e new k h s turns (asked-before m e f) b (after.asked b asked)));
      arrivals = rises_nowhere is_known shares m (as_move (promoted a) m effect) quiet.known;
      told = reuse-told a m effect (turns_at-next (peer_at f.addr n) (λ p. record p { temp = Warm; failures = 0 }) n)
          (told_then m (entry_turns e new m) next (turned-told m e new k h s turns (negotiated-forward e.facts.phase f.phase live negotiated)) quiet.told);
    })
