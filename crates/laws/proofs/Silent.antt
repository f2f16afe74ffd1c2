-- What is told of a sort by no part but those that are to.
use Rattle.std.proofs.Common.{ℕ, ◌≡◌, Bool, true, false, List, [], ◌∷◌, ◌++◌, flat_map, Option, Some, None, refl, ap, ◌∙◌, arith}
use Rattle.laws.proofs.Words.{cond_both, false≢true, flat_map-append}
use Rattle.laws.specs.Words.{dialing, name_of, same_name, runs, Item, Action, Admit, Turnaway, Dial, Send, Close, Pause, AskRoots, State, Away, CloseCause, Unused, Overwritten, Fault, Protocol, PeerNote, StateName, Terminated, Addr, Cid, Job, Peer, with_entry, without_entry, entry_turns, lost, ending, vanishes, closing_entry, trim, awake, Effect, nothing_more, then_do, admitted, peer_connects, asks_roots, Machine, Entry, Owed, next_cid, peer_at, turns_at, peer_comes, paid, stops_if, begins, pays, brings, answered_as}
use Rattle.net_base.specs.declared.action.Action.TheVariants.{Peer as TellPeer}
use Rattle.laws.specs.Words.note
use Rattle.laws.specs.Acts.{Act, shows, asks_for_roots, connects, sets_targets, sets_big_targets, sets_groups, sets_roots, does}
use Rattle.laws.specs.Admitted.{admitted_by, turned_away_by}
use Rattle.laws.specs.CarriedOut.{pauses_by}
use Rattle.laws.specs.RootsAsked.{asked_by}
use Rattle.laws.specs.Served.{sent_by}
use Rattle.laws.specs.Parts.{IsNext}
use Rattle.laws.proofs.Walk.{Scope, on_those, turned_by, idles, awakes, Kept, trim-walk, brings-walk, connects-walk, Finds, may_send, may_let_in, scope_of, walk}
use Rattle.laws.proofs.Goes.{lost-silent}

-- what tells of the changes of connections and peers is no matter of it
pub record Deaf {X : Type 0} (by : Action → List X) : Type 0 where
  pub close : (cid : Cid) (cause : CloseCause) → by (Close cid cause) ≡ []
  pub state : (cid : Cid) (name : StateName) → by (State cid name) ≡ []
  pub peer : (addr : Addr) (said : PeerNote) → by (TellPeer addr said) ≡ []
  pub dial : (cid : Cid) (addr : Addr) → by (Dial cid addr) ≡ []

-- what is sent, who is let in and who is turned away, for how long accepting pauses, and what is asked for
pub sent-deaf : Deaf sent_by
sent-deaf = record { close = λ cid cause. refl; state = λ cid name. refl; peer = λ addr said. refl; dial = λ cid addr. refl }

pub admitted-deaf : Deaf admitted_by
admitted-deaf = record { close = λ cid cause. refl; state = λ cid name. refl; peer = λ addr said. refl; dial = λ cid addr. refl }

pub turned_away-deaf : Deaf turned_away_by
turned_away-deaf = record { close = λ cid cause. refl; state = λ cid name. refl; peer = λ addr said. refl; dial = λ cid addr. refl }

pub pauses-deaf : Deaf pauses_by
pauses-deaf = record { close = λ cid cause. refl; state = λ cid name. refl; peer = λ addr said. refl; dial = λ cid addr. refl }

pub asked-deaf : Deaf asked_by
asked-deaf = record { close = λ cid cause. refl; state = λ cid name. refl; peer = λ addr said. refl; dial = λ cid addr. refl }

module _ {X : Type 0} (by : Action → List X) (deaf : Deaf by) where
  one-silent : (action : Action) → by action ≡ [] → flat_map by (action ∷ []) ≡ []
  one-silent action none = ap (λ xs. xs ++ []) none

  more-silent : (action : Action) (actions : List Action) → by action ≡ [] → flat_map by actions ≡ [] → flat_map by (action ∷ actions) ≡ []
  more-silent action actions none rest i = none i ++ rest i

  pub both-silent : (first : Effect) (next : Machine → Effect) → flat_map by first.actions ≡ [] → flat_map by (next first.machine).actions ≡ [] → flat_map by (then_do first next).actions ≡ []
  both-silent first next one two = flat_map-append by first.actions (next first.machine).actions ∙ (λ i. one i ++ two i)

  -- ---- changes of connections and peers

  pub turns-silent : (old new : Entry) (m : Machine) → flat_map by (entry_turns old new m).actions ≡ []
  turns-silent old new m = cond_both (same_name (name_of old.facts) (name_of new.facts)) [] (State old.facts.cid (name_of new.facts) ∷ []) (λ actions. flat_map by actions ≡ [])
      (λ same. refl) (λ other. one-silent (State old.facts.cid (name_of new.facts)) (deaf.state old.facts.cid (name_of new.facts)))

  pub changed-silent : (o : Option Peer) (change : Peer → Peer) (m : Machine) → flat_map by (turns_at o change m).actions ≡ []
  changed-silent o change m = grind (arith, one-silent)

  pub comes-silent : (big : Bool) (addr : Addr) (m : Machine) → flat_map by (peer_comes big addr m).actions ≡ []
  comes-silent big addr m = grind (arith, one-silent)

  ended-silent : (cause : CloseCause) (e : Entry) (actions : List Action) → flat_map by actions ≡ [] → flat_map by (Close e.facts.cid cause ∷ State e.facts.cid Terminated ∷ actions) ≡ []
  ended-silent cause e actions rest = grind (arith, more-silent)

  pub ending-silent : (cause : CloseCause) (e : Entry) (m : Machine) → flat_map by (ending cause e m).actions ≡ []
  ending-silent Overwritten e m = ended-silent Overwritten e [] refl
  ending-silent other e m = ended-silent other e (lost e.facts (without_entry e.facts.cid.0 m)).actions (lost-silent by (λ addr. deaf.peer addr note.Cold) e.facts (without_entry e.facts.cid.0 m))

  pub vanishes-silent : (e : Entry) (m : Machine) → flat_map by (vanishes e m).actions ≡ []
  vanishes-silent e m = more-silent (State e.facts.cid Terminated) (lost e.facts (without_entry e.facts.cid.0 m)).actions (deaf.state e.facts.cid Terminated) (lost-silent by (λ addr. deaf.peer addr note.Cold) e.facts (without_entry e.facts.cid.0 m))

  -- a connection that comes is told of, and its name
  coming-silent : (first : Action) (cid : Cid) (name : StateName) (rest : List Action) → by first ≡ [] → flat_map by rest ≡ [] → flat_map by (first ∷ State cid name ∷ rest) ≡ []
  coming-silent first cid name rest none more = grind arith

  admitted-silent : ((cid : Cid) (addr : Addr) → by (Admit cid addr) ≡ []) → ((length : ℕ) → by (Pause length) ≡ []) → (addr : Addr) (m : Machine) →
      flat_map by (admitted addr m).actions ≡ []
  admitted-silent admits pauses addr m = grind (arith, admits (next_cid m) addr, coming-silent, one-silent)

  -- nor is what else a part may tell
  pub record Mutes (scope : Scope) : Type 0 where
    pub sends : scope.sends ≡ true → (cid : Cid) (bytes : List ℕ) → by (Send cid bytes) ≡ []
    pub admits : scope.lets_in ≡ true → (cid : Cid) (addr : Addr) → by (Admit cid addr) ≡ []
    pub turns_away : scope.lets_in ≡ true → (away : Away) → by (Turnaway away) ≡ []
    pub pauses : scope.lets_in ≡ true → (length : ℕ) → by (Pause length) ≡ []

  abbrev Says : Machine → Effect → Type 0
  Says m effect = flat_map by effect.actions ≡ []

  silent-kept : (scope : Scope) → Mutes scope → Kept scope Says
  silent-kept scope mutes = record {
    when_nothing = λ m. refl;
    when_both = λ m first next one two. both-silent first next one two;
    when_moved = λ happened m effect none h. h;
    when_sent = λ cid bytes m may. one-silent (Send cid bytes) (mutes.sends may.may cid bytes);
    when_turned = λ turn e m stands. turns-silent e (turned_by turn e m) m;
    when_stored = λ undecoded e m stands came. turns-silent e (record e { undecoded = undecoded }) m;
    when_shut = λ e m stands drops. more-silent (Close e.facts.cid Unused) (entry_turns e (closing_entry m e) m).actions (deaf.close e.facts.cid Unused)
        (turns-silent e (closing_entry m e) m);
    when_ended = λ cause e m. ending-silent cause e m;
    when_gone = λ e m itself. vanishes-silent e m;
    when_over = λ e m stands drops closed. one-silent (State e.facts.cid Terminated) (deaf.state e.facts.cid Terminated);
    when_dialed = λ addr m may. coming-silent (Dial (next_cid m) addr) (next_cid m) (name_of (dialing m.next_id addr)) [] (deaf.dial (next_cid m) addr) refl;
    when_admitted = λ addr m may. admitted-silent (mutes.admits may) (mutes.pauses may) addr m;
    when_turned_away = λ away m may. one-silent (Turnaway away) (mutes.turns_away may away);
    when_changed = λ addr change m same. changed-silent (peer_at addr m) change m;
    when_made = λ addr m may. changed-silent (peer_at addr m) (λ p. record p { big = false }) m;
    when_known = λ big addr m may. comes-silent big addr m;
    when_forgotten = λ addr m may. one-silent (TellPeer addr note.Forgotten) (deaf.peer addr note.Forgotten);
  }

  -- ---- what tells nothing else by itself

  abbrev still : Scope
  still = record (on_those (λ cid. true)) { sends = false }

  still-mutes : Mutes still
  still-mutes = record { sends = λ may. absurd (false≢true may); admits = λ may. absurd (false≢true may); turns_away = λ may. absurd (false≢true may); pauses = λ may. absurd (false≢true may) }

  pub trim-silent : (moved : Cid) (m : Machine) → flat_map by (trim moved m).actions ≡ []
  trim-silent moved m = trim-walk still Says (silent-kept still still-mutes) moved m

  pub stops-silent : (done : Bool) (protocol : ℕ) (e : Entry) (m : Machine) → flat_map by (stops_if done protocol e m).actions ≡ []
  stops-silent true protocol e m = turns-silent e (turned_by (idles protocol) e m) m
  stops-silent false protocol e m = refl

  pub begins-silent : (protocol : ℕ) (e : Entry) (m : Machine) → flat_map by (begins protocol e m).actions ≡ []
  begins-silent protocol e m = cond_both (runs protocol e.facts.running) (nothing_more m) (awake protocol e m) (λ effect. flat_map by effect.actions ≡ []) (λ running. refl)
      (λ silent. let new : Entry = turned_by (awakes protocol) e m in
      both-silent (entry_turns e new m) (trim e.facts.cid) (turns-silent e new m) (trim-silent e.facts.cid (with_entry new m)))

  pub answered-silent : (o : Option Owed) (item : Item) (e : Entry) (m : Machine) → flat_map by (answered_as o item e m).actions ≡ []
  answered-silent None item e m = ending-silent (Fault Protocol) e m
  answered-silent (Some owed) item e m =
      cond_both (pays owed item.body) _ _ (λ (effect : Effect). flat_map by effect.actions ≡ [])
      (λ paid_. both-silent (entry_turns e (paid item.id e) m) (brings item.id item.body e) (turns-silent e (paid item.id e) m)
      (brings-walk still Says (silent-kept still still-mutes) item.id item.body e (with_entry (paid item.id e) m) refl))
      (λ other. ending-silent (Fault Protocol) e m)

  -- who is let in or turned away, and when accepting pauses, is no matter of it either
  pub connects-silent : ((cid : Cid) (addr : Addr) → by (Admit cid addr) ≡ []) → ((away : Away) → by (Turnaway away) ≡ []) → ((length : ℕ) → by (Pause length) ≡ []) →
      (addr : Addr) (m : Machine) → flat_map by (peer_connects addr m).actions ≡ []
  connects-silent admits turns pauses addr m = grind (arith, connects-walk, silent-kept)

-- neither does a peer connect nor are roots asked for
abbrev pub IsOther : Act → Type 0
IsOther (connects addr) = ⊥
IsOther asks_for_roots = ⊥
IsOther other = Unit {0}

lets_nobody_in : (act : Act) → IsOther act → may_let_in act ≡ false
lets_nobody_in (connects addr) other = elim other [ ]
lets_nobody_in act other = refl

module _ {X : Type 0} (by : Action → List X) (deaf : Deaf by) where
  mute_parts : (act : Act) → IsOther act → (may_send act ≡ true → (cid : Cid) (bytes : List ℕ) → by (Send cid bytes) ≡ []) → (m : Machine) → Mutes by deaf (scope_of act m)
  mute_parts act other mute m = grind (arith, lets_nobody_in)

  -- where what is sent is no matter of it, if anything is
  pub quiet-silent : (act : Act) (m : Machine) → IsOther act → (may_send act ≡ true → (cid : Cid) (bytes : List ℕ) → by (Send cid bytes) ≡ []) → IsNext act m → Finds act m →
      flat_map by (does act m).actions ≡ []
  quiet-silent (shows t) m other mute next found = refl
  quiet-silent asks_for_roots m other mute next found = elim other [ ]
  quiet-silent (connects addr) m other mute next found = elim other [ ]
  quiet-silent (sets_targets targets) m other mute next found = refl
  quiet-silent (sets_big_targets targets) m other mute next found = refl
  quiet-silent (sets_groups groups) m other mute next found = refl
  quiet-silent (sets_roots roots) m other mute next found = refl
  quiet-silent act m other mute next found = walk act m (Says by deaf) tt next found (silent-kept by deaf (scope_of act m) (mute_parts act tt mute m))

  pub part-silent : ((cid : Cid) (bytes : List ℕ) → by (Send cid bytes) ≡ []) → (act : Act) (m : Machine) → IsOther act → IsNext act m → Finds act m →
      flat_map by (does act m).actions ≡ []
  part-silent mute act m other next found = quiet-silent act m other (λ may. mute) next found

-- where roots are asked for, that alone is told
pub asks-silent : {X : Type 0} (by : Action → List X) → ((job : Job) → by (AskRoots job) ≡ []) → (m : Machine) → flat_map by (asks_roots m).actions ≡ []
asks-silent by unasked m = grind arith
