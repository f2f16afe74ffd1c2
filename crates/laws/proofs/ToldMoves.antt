-- What each change of a connection or a peer tells.
use Rattle.std.proofs.Common.{ℕ, ◌+◌, ◌≡◌, ◌≤◌, Bool, true, false, not, ◌==◌, nat_lt, if◌then◌else◌, List, [], ◌∷◌, ◌++◌, find, get_or, remove, flat_map, Option, Some, None, is_some, refl, sym, ap, ◌∙◌, subst, arith, eqb-true, eq-eqb, ne_eqb}
use Rattle.laws.proofs.Words.{both_ways, All-weaker}
use Rattle.laws.specs.Words.{option_map, name_of, name_place, same_name, has_id, same_address, Action, Admit, Dial, Close, State, CloseCause, PeerNote, StateName, ReservedOutbound, UnnegotiatedInbound, UnnegotiatedOutbound, Duplex, OutboundUni, OutboundDupTicking, OutboundDupExpired, Inbound, InboundIdle, OutboundIdle, Terminating, Terminated, Addr, Cid, Facts, Peer, Temp, Cold, new_peer, entered_by, same_temp, Added, New, Present, Full, with_entry, without_entry, entry_turns, entry_comes, entry_goes, Effect, Happened, Move, promoted, as_move, Machine, Entry, entry_at, peer_at, note_of, turns_at, peer_changes, note_of_coming, peer_comes, peer_goes}
use Rattle.net_base.specs.declared.action.Action.TheVariants.{Peer as TellPeer}
use Rattle.laws.specs.Words.note
use Rattle.laws.specs.Sound.{HasGivenId, IsOrderly}
use Rattle.laws.specs.Stages.{stage_of_phase, stage_of, stage_at, stage_ended, causes_by, IsLateCause, IsOneEnd}
use Rattle.laws.specs.Telling.{GoesOn, IsTold}
use Rattle.laws.specs.InActions.{End, closes_in, ended_by, ends_in, dials_in, promoted_by_dial, dial_promotions_in, given_in, LeadTo, temp_of, temp_at, notes_in, noted, is_change, names_in, is_other_name, same_state}
use Rattle.laws.proofs.Addresses.{same_address-self, same_address-true}
use Rattle.laws.proofs.Entries.{TurnsInto, one_has_id, has_own_id, turned-connections, gone-connections, with_new}
use Rattle.laws.proofs.Failures.{changed-found}
use Rattle.laws.proofs.Finds.{find-none_passes, find-set_other, find-set_here, find-remove_other, find-remove_here}
use Rattle.laws.proofs.Lists.{StandsAt, OnePasses, All-stands, find_only}
use Rattle.laws.proofs.PeersApart.{same_turned}
use Rattle.laws.proofs.Telling.{open_stage, told_unchanged, mute-none, went_on, went_untold}
use Rattle.laws.proofs.Ties.{found-addr, put_in-here, put_in-elsewhere, none_there, taken-here, taken-elsewhere, find-push_other, turns_at-elsewhere, find-push_here}
use Rattle.laws.proofs.Cases.{by_bool}

-- ---- names

abbrev all_names : List StateName
all_names = ReservedOutbound ∷ UnnegotiatedInbound ∷ UnnegotiatedOutbound ∷ Duplex ∷ OutboundUni ∷ OutboundDupTicking ∷ OutboundDupExpired ∷ Inbound ∷ InboundIdle ∷ OutboundIdle ∷ Terminating ∷ Terminated ∷ []

placed : (a : StateName) → get_or all_names (name_place a) Terminated ≡ a
placed ReservedOutbound = refl
placed other = refl

same_name-true : (a b : StateName) → same_name a b ≡ true → a ≡ b
same_name-true a b h = grind arith

-- no entry is called terminated
stands-named : (f : Facts) → same_name (name_of f) Terminated ≡ false
stands-named f = grind arith

named-stands : (f : Facts) → same_name Terminated (name_of f) ≡ false
named-stands f = ne_eqb 11 (name_place (name_of f)) (λ same. both_ways (same_name (name_of f) Terminated) (stands-named f) (eq-eqb (name_place (name_of f)) 11 (sym same)))

-- one notice, where it names the connection
one_name : (cid : ℕ) (other : Cid) (before name : StateName) → (other.0 == cid) ≡ true → same_name before name ≡ false →
    LeadTo is_other_name same_state before (names_in cid (State other name ∷ [])) name
one_name cid other before name own differs = grind arith

no_name : (cid : ℕ) (other : Cid) (name : StateName) → (other.0 == cid) ≡ false → names_in cid (State other name ∷ []) ≡ []
no_name cid other name apart = ap (λ c. (if c then name ∷ [] else []) ++ []) apart

-- ---- what tells of no end, and of nobody who comes

record IsPlain (actions : List Action) : Type 0 where
  closes : closes_in actions ≡ []
  dials : dials_in actions ≡ []
  given : given_in actions ≡ []

plain-told : (m : Machine) (effect : Effect) → IsPlain effect.actions → effect.moves ≡ [] → effect.machine.next_id ≡ m.next_id →
    ((addr : Addr) → LeadTo is_change noted (temp_at addr m) (notes_in addr effect.actions) (temp_at addr effect.machine)) → ((cid : ℕ) → GoesOn cid m effect) → IsTold m effect
plain-told m effect plain none next_id peers each = grind (arith, plain, none, next_id, peers, each)

-- ---- a connection turns

pub turned-told : (m : Machine) (e new : Entry) (k : ℕ) → IsOrderly m → StandsAt m.connections k e → TurnsInto e new →
    stage_of_phase e.facts.phase ≤ stage_of_phase new.facts.phase → IsTold m (entry_turns e new m)
turned-told m e new k h s t forward =
    let list = turned-connections m e new k h s t in
    plain-told m (entry_turns e new m) (grind arith) refl refl (λ addr. grind arith)
    (λ cid.
    by_bool (has_id cid e.facts) (λ b. GoesOn cid m (entry_turns e new m))
    (λ own.
    let one : OnePasses (λ x. has_id cid x.facts) m.connections = one_has_id cid m.connections h.ids_rise in
    went_on cid m (entry_turns e new m) (Some e) (Some new) (find_only (λ x. has_id cid x.facts) e m.connections k one s own)
    (ap (find (λ x. has_id cid x.facts)) list ∙ find-set_here (λ x. has_id cid x.facts) new e m.connections k one s own (ap (λ c. c.0 == cid) t.same_id ∙ own)) refl t.same_addr
    (grind (arith, same_name-true (name_of e.facts) (name_of new.facts), one_name cid e.facts.cid (name_of e.facts) (name_of new.facts) own)) forward)
    (λ other.
    went_untold cid m (entry_turns e new m)
    (ap (find (λ x. has_id cid x.facts)) list ∙ find-set_other (λ x. has_id cid x.facts) new e m.connections k s other (ap (λ c. c.0 == cid) t.same_id ∙ other)) refl
    (grind (arith, no_name cid e.facts.cid (name_of new.facts) other)) (omega arith)))

pub turned-stage : (m : Machine) (e new : Entry) (k : ℕ) → IsOrderly m → StandsAt m.connections k e → TurnsInto e new →
    stage_at e.facts.cid.0 (with_entry new m) ≡ stage_of_phase new.facts.phase
turned-stage m e new k h s t =
    let found : entry_at e.facts.cid.0 (with_entry new m) ≡ Some new =
    ap (find (λ x. has_id e.facts.cid.0 x.facts)) (turned-connections m e new k h s t)
    ∙ find-set_here (λ x. has_id e.facts.cid.0 x.facts) new e m.connections k (one_has_id e.facts.cid.0 m.connections h.ids_rise) s (has_own_id e)
    (ap (λ c. c.0 == e.facts.cid.0) t.same_id ∙ has_own_id e) in
    ap (λ o. stage_of o (nat_lt e.facts.cid.0 m.next_id)) found

-- ---- a connection goes

is_given : (m : Machine) (e : Entry) (k : ℕ) (cid : ℕ) → IsOrderly m → StandsAt m.connections k e → has_id cid e.facts ≡ true → nat_lt cid m.next_id ≡ true
is_given m e k cid h s own =
    let given : HasGivenId m.next_id e = All-stands (HasGivenId m.next_id) m.connections k e s h.ids_given in
    let same : e.facts.cid.0 ≡ cid = eqb-true e.facts.cid.0 cid own in
    let below = given.1 in
    grind (arith, same, below)

pub goes-told : (m : Machine) (e : Entry) (k : ℕ) → IsOrderly m → StandsAt m.connections k e → IsTold m (entry_goes e m)
goes-told m e k h s =
    plain-told m (entry_goes e m) (record { closes = refl; dials = refl; given = refl }) refl refl (λ addr. refl) (λ cid. by_id cid (has_id cid e.facts) refl)
  where
    list : (without_entry e.facts.cid.0 m).connections ≡ remove m.connections k
    list = gone-connections m e k h s

    by_id : (cid : ℕ) (b : Bool) → has_id cid e.facts ≡ b → GoesOn cid m (entry_goes e m)
    by_id cid true own = grind (arith, one_has_id, is_given, open_stage, one_name, stands-named, went_on, find_only, list, find-remove_here)
    by_id cid false other = grind (arith, went_untold, find-remove_other, no_name, list)

pub goes-stage : (m : Machine) (e : Entry) (k : ℕ) → IsOrderly m → StandsAt m.connections k e → stage_at e.facts.cid.0 (without_entry e.facts.cid.0 m) ≡ 5
goes-stage m e k h s = grind (arith, has_own_id, gone-connections, one_has_id, find-remove_here, is_given)

-- ---- a connection is ended

-- One that stands open is closed, and goes or is kept closed.
pub ended-told : (happened : Happened) (cid : Cid) (cause : CloseCause) (m : Machine) (inner : Effect) → ended_by happened ≡ record { cid = cid.0; cause = cause } ∷ [] →
    promoted_by_dial happened m.next_id inner.machine.next_id ≡ [] → IsTold m inner → inner.moves ≡ [] →
    stage_at cid.0 m ≤ 3 → stage_ended cause ≤ stage_at cid.0 inner.machine → (stage_at cid.0 m ≡ 3 → IsLateCause cause) →
    IsTold m (as_move happened m (record { machine = inner.machine; actions = Close cid cause ∷ inner.actions; moves = inner.moves }))
ended-told happened cid cause m inner is_end no_dial h none early late may =
    let move : Move = record { happened = happened; before = m; after = inner.machine } in
    let end : End = record { cid = cid.0; cause = cause } in
    let ends : ends_in (inner.moves ++ move ∷ []) ≡ end ∷ [] =
    ap (λ ms. ends_in (ms ++ move ∷ [])) none ∙ ap (λ l. l ++ []) is_end in
    let one : (id : ℕ) → IsOneEnd (flat_map (causes_by id) (end ∷ [])) (stage_at id m) (stage_at id inner.machine) =
    λ id. by_bool (cid.0 == id) (λ b. IsOneEnd ((if b then cause ∷ [] else []) ++ []) (stage_at id m) (stage_at id inner.machine)) (λ own. let is = eqb-true cid.0 id own in grind (arith, is, early, late, may)) (λ other. tt) in
    record {
      closes = ap (λ l. end ∷ l) (h.closes ∙ ap ends_in none) ∙ sym ends;
      dials = h.dials
          ∙ (ap dial_promotions_in none ∙ sym (ap (λ ms. dial_promotions_in (ms ++ move ∷ [])) none ∙ ap (λ l. l ++ []) no_dial));
      given = h.given;
      addresses = h.addresses;
      peers = h.peers;
      connections = λ id. record {
        names = (h.connections id).names;
        address = (h.connections id).address;
        forward = (h.connections id).forward;
        ends = subst (λ es. IsOneEnd (flat_map (causes_by id) es) (stage_at id m) (stage_at id inner.machine)) (sym ends) (one id);
      };
    }

-- ---- a connection comes

given_later : (o : Option Entry) (cid next : ℕ) → stage_of o (nat_lt cid next) ≤ stage_of o (nat_lt cid (next + 1))
given_later o cid next = grind arith

-- its id is nobody's yet
none-yet : (m : Machine) → IsOrderly m → entry_at m.next_id m ≡ None
none-yet m h = find-none_passes (λ x. has_id m.next_id x.facts) m.connections (All-weaker (HasGivenId m.next_id) (λ e. has_id m.next_id e.facts ≡ false)
    (λ e given. ne_eqb e.facts.cid.0 m.next_id (λ is. let below = given.1 in omega (arith, below, is))) m.connections h.ids_given)

pub new-found : (m : Machine) (new : Entry) → IsOrderly m → new.facts.cid.0 ≡ m.next_id → entry_at m.next_id (with_new new m) ≡ Some new
new-found m new h id = find-push_here (λ x. has_id m.next_id x.facts) new m.connections (none-yet m h) (eq-eqb new.facts.cid.0 m.next_id id)

-- what is told of it before its name is that it is admitted, or the dial
pub came-goes_on : (m : Machine) (new : Entry) (effect : Effect) (cid : ℕ) → IsOrderly m → new.facts.cid.0 ≡ m.next_id → effect.machine ≡ with_new new m →
    effect.moves ≡ [] → names_in cid effect.actions ≡ names_in cid (State new.facts.cid (name_of new.facts) ∷ []) → GoesOn cid m effect
came-goes_on m new effect cid h id same none named = by_bool (has_id cid new.facts) (λ b. GoesOn cid m effect)
    (λ own.
    let here : m.next_id ≡ cid = sym id ∙ eqb-true new.facts.cid.0 cid own in
    let none_before : entry_at cid m ≡ None = subst (λ c. entry_at c m ≡ None) here (none-yet m h) in
    let not_given : nat_lt cid m.next_id ≡ false = grind (arith, here) in
    let named_so = one_name cid new.facts.cid Terminated (name_of new.facts) own (named-stands new.facts) in
    went_on cid m effect None (Some new) none_before
    (ap (entry_at cid) same ∙ find-push_here (λ x. has_id cid x.facts) new m.connections none_before own) none tt (rw named named_so) (rw not_given (omega arith)))
    (λ other.
    went_untold cid m effect (ap (entry_at cid) same ∙ find-push_other (λ x. has_id cid x.facts) new m.connections other) none
    (named ∙ no_name cid new.facts.cid (name_of new.facts) other) (rw same (given_later (entry_at cid m) cid m.next_id)))

-- it is admitted
pub admits-told : (m : Machine) (new : Entry) (addr : Addr) → IsOrderly m → new.facts.cid.0 ≡ m.next_id → new.facts.addr ≡ addr →
    IsTold m (entry_comes (Admit (record { 0 = m.next_id }) addr ∷ []) new m)
admits-told m new addr h id here =
    let goes = λ (cid : ℕ). came-goes_on m new (entry_comes (Admit (record { 0 = m.next_id }) addr ∷ []) new m) cid h id refl refl refl in
    grind (arith, goes, new-found m new h id, here)

-- it is dialed, as a promotion
pub dials-told : (m : Machine) (new : Entry) (addr : Addr) → IsOrderly m → new.facts.cid.0 ≡ m.next_id → new.facts.addr ≡ addr →
    IsTold m (as_move (promoted addr) m (entry_comes (Dial (record { 0 = m.next_id }) addr ∷ []) new m))
dials-told m new addr h id here =
    let goes = λ (cid : ℕ). came-goes_on m new (entry_comes (Dial (record { 0 = m.next_id }) addr ∷ []) new m) cid h id refl refl refl in
    let found = new-found m new h id in
    grind (arith, goes, found, here)

-- ---- a peer changes

pub is_temp : (t u : Temp) → same_temp t u ≡ true → t ≡ u
is_temp t u h = grind arith

noted_temp : (t : Temp) → noted (note_of t) ≡ Some t
noted_temp Cold = refl
noted_temp other = refl

changes_temp : (t u : Temp) → same_temp t u ≡ false → is_change (Some t) (note_of u) ≡ true
changes_temp t Cold h = ap not h
changes_temp t other h = ap not h

one_note : (a other : Addr) (before after : Option Temp) (note : PeerNote) → same_address other a ≡ true → is_change before note ≡ true → noted note ≡ after →
    LeadTo is_change noted before (notes_in a (TellPeer other note ∷ [])) after
one_note a other before after note own changes says = grind arith

no_note : (a other : Addr) (note : PeerNote) → same_address other a ≡ false → notes_in a (TellPeer other note ∷ []) ≡ []
no_note a other note apart = ap (λ c. (if c then note ∷ [] else []) ++ []) apart

-- Of peers only the one at an address is told of, and no other changes.
noting-told : (a : Addr) (m : Machine) (effect : Effect) → IsPlain effect.actions → ((cid : ℕ) → names_in cid effect.actions ≡ []) → effect.moves ≡ [] →
    effect.machine.connections ≡ m.connections → effect.machine.next_id ≡ m.next_id → LeadTo is_change noted (temp_at a m) (notes_in a effect.actions) (temp_at a effect.machine) →
    ((b : Addr) → same_address b a ≡ false → notes_in b effect.actions ≡ []) → ((b : Addr) → same_address b a ≡ false → peer_at b effect.machine ≡ peer_at b m) → IsTold m effect
noting-told a m effect plain names none connections next_id here untold same =
    plain-told m effect plain none next_id (λ b. grind (arith, same_address-true b a, here, untold b, same b))
    (λ cid. went_untold cid m effect (ap (find (λ e. has_id cid e.facts)) connections) none (names cid) (grind (arith, next_id)))

pub turns_at-moves : (o : Option Peer) (change : Peer → Peer) (m : Machine) → (turns_at o change m).moves ≡ []
turns_at-moves None change m = refl
turns_at-moves (Some p) change m = refl

pub turns_at-connections : (o : Option Peer) (change : Peer → Peer) (m : Machine) → (turns_at o change m).machine.connections ≡ m.connections
turns_at-connections None change m = refl
turns_at-connections (Some p) change m = refl

pub turns_at-next : (o : Option Peer) (change : Peer → Peer) (m : Machine) → (turns_at o change m).machine.next_id ≡ m.next_id
turns_at-next None change m = refl
turns_at-next (Some p) change m = refl

-- a change that leaves the address
pub changes-told : (a : Addr) (change : Peer → Peer) (m : Machine) → ((p : Peer) → (change p).addr ≡ p.addr) → IsTold m (peer_changes a change m)
changes-told a change m same =
    let goes : LeadTo is_change noted (temp_at a m) (notes_in a (peer_changes a change m).actions) (temp_of (option_map change (peer_at a m))) =
    grind (arith, found-addr a m.peers, same_address-self a, noted_temp, is_temp, one_note, changes_temp) in
    noting-told a m (peer_changes a change m) (grind arith) (λ cid. grind arith) (turns_at-moves (peer_at a m) change m) (turns_at-connections (peer_at a m) change m)
    (turns_at-next (peer_at a m) change m) (grind (arith, changed-found a change m same, goes)) (λ b other. grind (arith, found-addr a m.peers, same_turned b a other, no_note)) (turns_at-elsewhere a change m same)

-- ---- a peer comes and goes

pub peer_comes-told : (big : Bool) (a : Addr) (m : Machine) → IsTold m (peer_comes big a m)
peer_comes-told big a m =
    let new : Peer = new_peer big a in
    let came : Added → Effect = λ added. note_of_coming added a (record m { peers = entered_by added new m.peers }) in
    let comes : peer_at a m ≡ None → IsTold m (came New) =
    λ none.
    noting-told a m (came New) (record { closes = refl; dials = refl; given = refl }) (λ cid. refl) refl refl refl
    (grind (arith, put_in-here new m.peers none, none, one_note a a None (Some Cold) note.Known (same_address-self a) refl refl))
    (λ b other. no_note b a note.Known (same_turned b a other)) (λ b other. put_in-elsewhere new b m.peers other) in
    grind (arith, comes, none_there (peer_at a m), told_unchanged m (came Present) mute-none, told_unchanged m (came Full) mute-none)

-- of a peer that is there
pub peer_goes-told : (a : Addr) (m : Machine) → is_some (peer_at a m) ≡ true → IsTold m (peer_goes a m)
peer_goes-told a m there =
    noting-told a m (peer_goes a m) (record { closes = refl; dials = refl; given = refl }) (λ cid. refl) refl refl refl
    (grind (arith, there, taken-here, one_note, same_address-self)) (λ b other. no_note b a note.Forgotten (same_turned b a other)) (λ b other. taken-elsewhere a b m.peers other)
