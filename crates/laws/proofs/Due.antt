-- Whom each part of an event ends: whom it must, and nobody else but by pruning; and whom it prunes.
use Rattle.std.proofs.Common.{ℕ, ◌≡◌, Bool, false, ◌&&◌, if◌then◌else◌, List, [], ◌∷◌, ◌++◌, map, filter, find, Option, Some, None, Result, Ok, Err, refl, ap, ◌∙◌, arith}
use Rattle.laws.proofs.Words.{flat_map-append, filter-append}
use Rattle.laws.specs.Words.{AllByRecursion, unwrap_or, choice_of, is_pending, agreed_sharing, Order, Release, answer_of, Verdict, CutFault, Item, address_below, CloseCause, OwnAddr, FaultKind, Malformed, Protocol, HandshakeWait, ReplyWait, awakened, Addr, Cid, Phase, Greeting, Negotiated, Cold, Hot, Kind, Handshake, TimeWait, watched, Seen, kind_of, with_entry, without_entry, entry_turns, ending, candidates_in, trim, says_done, release, fires_as, Effect, Happened, promoted, activated, shared, on_entry, on_connection, nothing_more, then_do, as_move, turned_away, accepted_beside, peer_connects, promoted_at, promote, is_used_at, on_used, activates, activate, carries_out, sends_answer, judged, greets, Machine, Entry, Owed, entry_at, live_entry_at, own_info, peer_at, peer_becomes, peer_is_ordinary, peer_comes, comes_ordinary, reply_on, paid, handled_in, handled, faulted, serves, begins, takes_requests, asked_as, pays, brings, answered_as, talks}
use Rattle.laws.specs.Words.cut
use Rattle.laws.specs.Words.cause
use Rattle.net_base.specs.declared.action.Away.TheVariants.{Full, Present}
use Rattle.net_base.specs.declared.timer.Kind.TheVariants.{Grace}
use Rattle.laws.specs.Acts.{Act, fires_one, asks_for_roots, carries, connects, ends_dial, handles_item, ends_stream, is_closed, makes_ordinary, provides, provides_big, does}
use Rattle.laws.specs.Ends.{protocol_fault, causes_of_verdict, causes_of_message, causes_of_greeting, fault_of_request, is_answer, fault_of_answer, fault_of, causes_of_fault, causes_of_item, kind_of_cut, causes_of_cut, causes_of_kind, causes_of_crossing, ends_on, ends_due, is_pruned, but_pruned, pruned_in}
use Rattle.laws.specs.CarriedOut.{IsOneMove}
use Rattle.laws.specs.InActions.{End, ended_by, ends_in}
use Rattle.laws.proofs.ToldMoves.{turns_at-moves}
use Rattle.laws.proofs.Lawful.{lost_by-quiet, comes-providing}
use Rattle.laws.proofs.ItemCases.{greets-due, brings-cases}
use Rattle.laws.proofs.Handshakes.{answer-quiet}
use Rattle.laws.proofs.Lists.{all-appended}
use Rattle.laws.proofs.Walk.{is_released, turned_by, cooled, release-parts}
use Rattle.laws.proofs.Orders.{says_done-quiet}
use Rattle.laws.proofs.Talks.{replies-quiet}
use Rattle.laws.proofs.Cases.{by_bool}

abbrev pub end_of : Entry → CloseCause → End
end_of e cause = record { cid = e.facts.cid.0; cause = cause }

-- ---- whom an effect ends

-- whoever is chosen where one has moved
abbrev pub Chosen : (End → Type 0) → Cid → Machine → Type 0
Chosen P moved m = (e : Entry) → entry_at (unwrap_or (choice_of (candidates_in m)) moved).0 m ≡ Some e → P (end_of e cause.Pruned)

-- where a protocol begins
abbrev pub woken : ℕ → Entry → Machine → Machine
woken protocol e m = with_entry (record e { facts = awakened protocol e.facts }) m

-- What pays a reply.
pays-same : (owed : Owed) (body : List ℕ) → pays owed body ≡ is_answer owed body
pays-same owed body = grind arith

-- what a cutter's fault is
kind-same : (f : CutFault) → kind_of f ≡ kind_of_cut f
kind-same cut.Bad = refl
kind-same other = refl

-- neither what a promotion does nor what an activation does is a move by itself
pub promoted_at-moves : (o : Option Entry) (addr : Addr) (m : Machine) → (promoted_at o addr m).moves ≡ []
promoted_at-moves o addr m = grind (arith, turns_at-moves)

pub on_used-moves : (addr : Addr) (m : Machine) → (on_used addr activates m).moves ≡ []
on_used-moves addr m = grind arith

-- so they are one move each
pub promote-move : (addr : Addr) (m : Machine) → IsOneMove (promoted addr) m (promote addr m)
promote-move addr m = grind arith

pub activate-move : (addr : Addr) (m : Machine) → IsOneMove (activated addr) m (activate addr m)
activate-move addr m = ap (λ ms. ms ++ record { happened = activated addr; before = m; after = (activate addr m).machine } ∷ []) (on_used-moves addr m)

module _ (P : End → Type 0) where
  -- those are ended but by pruning, and each that is pruned passes
  pub record EndsAs (effect : Effect) (due : List End) : Type 0 where
    pub others : but_pruned (ends_in effect.moves) ≡ due
    pub pruned : AllByRecursion P (pruned_in effect.moves)

  ends_as : (effect : Effect) (ends due : List End) → ends_in effect.moves ≡ ends → but_pruned ends ≡ due → AllByRecursion P (filter (λ end. is_pruned end.cause) ends) → EndsAs effect due
  ends_as effect ends due is others pruned = grind arith

  ends_nobody : (effect : Effect) → ends_in effect.moves ≡ [] → EndsAs effect []
  ends_nobody effect none = ends_as effect [] [] none refl tt

  moves_nothing : (effect : Effect) → effect.moves ≡ [] → EndsAs effect []
  moves_nothing effect none = ends_nobody effect (ap ends_in none)

  moved-ends : (happened : Happened) (m : Machine) (effect : Effect) → ended_by happened ≡ [] → effect.moves ≡ [] → EndsAs (as_move happened m effect) []
  moved-ends happened m effect ends none = grind (arith, ends_nobody)

  ends_both : (first : Effect) (next : Machine → Effect) (xs ys : List End) → EndsAs first xs → EndsAs (next first.machine) ys → EndsAs (then_do first next) (xs ++ ys)
  ends_both first next xs ys one two = grind (arith, flat_map-append, filter-append, all-appended)

  ends_then : (first : Effect) (next : Machine → Effect) (ys : List End) → EndsAs first [] → EndsAs (next first.machine) ys → EndsAs (then_do first next) ys
  ends_then first next ys one two = ends_both first next [] ys one two

  -- ---- a connection

  ended_is : (c : CloseCause) (e : Entry) (m : Machine) → ends_in (ending c e m).moves ≡ end_of e c ∷ []
  ended_is c e m = grind (arith, lost_by-quiet c e.facts (without_entry e.facts.cid.0 m))

  -- for whatever cause but pruning
  ending-ends : (c : CloseCause) (e : Entry) (m : Machine) → is_pruned c ≡ false → EndsAs (ending c e m) (end_of e c ∷ [])
  ending-ends c e m other = grind (arith, ended_is, ends_as)

  trim-ends : (moved : Cid) (m : Machine) → Chosen P moved m → EndsAs (trim moved m) []
  trim-ends moved m chosen = grind arith

  -- ---- an item

  judged-ends : (v : Verdict) (e : Entry) (m : Machine) → EndsAs (judged v e m) (map (end_of e) (causes_of_verdict v))
  judged-ends v e m = grind (arith, turns_at-moves, ending-ends, ends_nobody, moves_nothing)

  greets-ends : (item : Item) (e : Entry) (m : Machine) → EndsAs (greets item e m) (map (end_of e) (causes_of_greeting item e.facts m))
  greets-ends item e m = greets-due causes_of_message protocol_fault causes_of_verdict item e m (λ effect causes. EndsAs effect (map (end_of e) causes))
      (λ causes. ending-ends (cause.Fault Malformed) e m refl) (ending-ends (cause.Fault Protocol) e m refl) (λ effect msg causes h. h) (λ v.
      let first : Effect = sends_answer (answer_of v (own_info m.settings)) e.facts.cid m in
      ends_then first (judged v e) (map (end_of e) (causes_of_verdict v))
      (moves_nothing first (answer-quiet (answer_of v (own_info m.settings)) e.facts.cid m).moves) (judged-ends v e first.machine))

  serves-ends : (o : Option Entry) (seen : Seen) (protocol : ℕ) (m : Machine) → EndsAs (on_entry o (serves seen protocol) m) []
  serves-ends o seen protocol m = grind (arith, ends_nobody (nothing_more m) refl, ends_then, moves_nothing, replies-quiet, ends_nobody)

  begins-ends : (protocol : ℕ) (e : Entry) (m : Machine) → Chosen P e.facts.cid (woken protocol e m) → EndsAs (begins protocol e m) []
  begins-ends protocol e m chosen = grind (arith, ends_nobody (nothing_more m) refl, trim-ends e.facts.cid (woken protocol e m) chosen, ends_then, ends_nobody)

  asked_as-ends : (r : Result Seen FaultKind) (protocol : ℕ) (e : Entry) (m : Machine) → Chosen P e.facts.cid (woken protocol e m) →
      EndsAs (asked_as r protocol e m) (map (end_of e) (causes_of_fault (fault_of_request r e.facts)))
  asked_as-ends (Err kind) protocol e m chosen = ending-ends (cause.Fault kind) e m refl
  asked_as-ends (Ok seen) protocol e m chosen = by_bool (takes_requests e)
      (λ b. EndsAs (if b then then_do (begins protocol e m) (on_connection e.facts.cid (serves seen protocol)) else ending (cause.Fault Protocol) e m)
      (map (end_of e) (causes_of_fault (if b then None else Some Protocol))))
      (λ is.
      let first : Effect = begins protocol e m in
      ends_then first (on_connection e.facts.cid (serves seen protocol)) [] (begins-ends protocol e m chosen) (serves-ends (entry_at e.facts.cid.0 first.machine) seen protocol first.machine))
      (λ is. ending-ends (cause.Fault Protocol) e m refl)

  comes-ends : (big : Bool) (a : Addr) (m : Machine) → EndsAs (as_move (shared a) m (peer_comes big a m)) []
  comes-ends big a m = moved-ends (shared a) m (peer_comes big a m) refl (comes-providing big a m).moves

  brings-ends : (protocol : ℕ) (body : List ℕ) (e : Entry) (m : Machine) → EndsAs (brings protocol body e m) []
  brings-ends = brings-cases (λ m effect. EndsAs effect []) (λ m. ends_nobody (nothing_more m) refl) (λ m first next one two. ends_then first next [] one two) (comes-ends false)
      (λ addr m. moves_nothing (peer_becomes Hot addr m) (turns_at-moves (peer_at addr m) (λ p. record p { temp = Hot }) m))

  answered_as-ends : (o : Option Owed) (item : Item) (e : Entry) (m : Machine) → EndsAs (answered_as o item e m) (map (end_of e) (causes_of_fault (fault_of_answer o item.body)))
  answered_as-ends None item e m = ending-ends (cause.Fault Protocol) e m refl
  answered_as-ends (Some owed) item e m =
      grind (arith, pays-same owed item.body, ends_nobody (entry_turns e (paid item.id e) m) refl, brings-ends item.id item.body e (with_entry (paid item.id e) m), ending-ends (cause.Fault Protocol) e m refl, ends_then)

  talks-ends : (item : Item) (e : Entry) (m : Machine) → Chosen P e.facts.cid (woken item.id e m) → EndsAs (talks item e m) (map (end_of e) (causes_of_fault (fault_of item e)))
  talks-ends item e m chosen =
      let seen : Result Seen FaultKind = watched item.id (agreed_sharing e.facts.agreed) item.body in
      grind (arith, asked_as-ends seen item.id e m chosen, answered_as-ends (reply_on item.id e) item e m)

  handled_in-ends : (p : Phase) (item : Item) (e : Entry) (m : Machine) → Chosen P e.facts.cid (woken item.id e m) → EndsAs (handled_in p item e m) (map (end_of e) (causes_of_item p item e m))
  handled_in-ends (Greeting until) item e m chosen = greets-ends item e m
  handled_in-ends Negotiated item e m chosen = talks-ends item e m chosen
  handled_in-ends other item e m chosen = ends_nobody (nothing_more m) refl

  -- on a connection, where it is there
  on_ends : (o : Option Entry) (act : Entry → Machine → Effect) (m : Machine) (causes : Entry → List CloseCause) →
      ((e : Entry) → o ≡ Some e → EndsAs (act e m) (map (end_of e) (causes e))) → EndsAs (on_entry o act m) (ends_on o causes)
  on_ends None act m causes each = ends_nobody (nothing_more m) refl
  on_ends (Some e) act m causes each = each e refl

  faulted-ends : (fault : Option CutFault) (e : Entry) (m : Machine) → EndsAs (faulted fault e m) (map (end_of e) (causes_of_cut fault))
  faulted-ends fault e m = grind (arith, ends_nobody, kind-same, ending-ends)

  -- ---- a deadline

  fires_as-ends : (kind : Kind) (e : Entry) (m : Machine) → EndsAs (fires_as kind e m) (map (end_of e) (causes_of_kind kind e))
  fires_as-ends Handshake e m = ending-ends (cause.Fault HandshakeWait) e m refl
  fires_as-ends Grace e m = grind arith
  fires_as-ends TimeWait e m = ends_nobody (fires_as TimeWait e m) refl
  fires_as-ends other e m = ending-ends (cause.Fault ReplyWait) e m refl

  -- ---- a peer connects

  beside-ends : (o : Option Entry) (addr : Addr) (m : Machine) →
      EndsAs (accepted_beside o addr m) (ends_on o (λ e. if is_pending e.facts && address_below addr m.settings.own then cause.Overwritten ∷ [] else []))
  beside-ends o addr m = grind (arith, ends_nobody (turned_away Present m) refl, ends_nobody, ends_both, ending-ends)

  connects-ends : (addr : Addr) (m : Machine) → EndsAs (peer_connects addr m) (ends_on (live_entry_at addr m) (causes_of_crossing addr m))
  connects-ends addr m = grind (arith, ends_nobody (turned_away OwnAddr m) refl, ends_nobody (turned_away Full m) refl, beside-ends (live_entry_at addr m) addr m)

  -- ---- the governor

  release-ends : (e : Entry) (m : Machine) → Chosen P e.facts.cid (cooled e m) → EndsAs (release e m) []
  release-ends e m chosen =
      let n : Machine = with_entry (turned_by is_released e m) m in
      release-parts (λ w effect. EndsAs effect []) (λ w first next one two. ends_then first next [] one two) e m (moves_nothing (says_done e.facts m) (says_done-quiet e.facts m).moves)
      (ends_nobody (entry_turns e (turned_by is_released e m) m) refl)
      (moves_nothing (peer_becomes Cold e.facts.addr n) (turns_at-moves (peer_at e.facts.addr n) (λ p. record p { temp = Cold }) n)) (trim-ends e.facts.cid (cooled e m) chosen)

  on_used-ends : (addr : Addr) (act : Entry → Machine → Effect) (m : Machine) → ((e : Entry) → find (is_used_at addr) m.connections ≡ Some e → EndsAs (act e m) []) → EndsAs (on_used addr act m) []
  on_used-ends addr act m each = grind arith

  one_move-ends : (happened : Happened) (m : Machine) (effect : Effect) → ended_by happened ≡ [] → IsOneMove happened m effect → EndsAs effect []
  one_move-ends happened m effect none one = ends_nobody effect (ap ends_in one ∙ ap (λ ends. ends ++ []) none)

  -- whom a release may prune
  abbrev pub ChosenByOrder : Order → Machine → Type 0
  ChosenByOrder (Release addr) m = (e : Entry) → find (is_used_at addr) m.connections ≡ Some e → Chosen P e.facts.cid (cooled e m)
  ChosenByOrder other m = Unit {0}

  carries-ends : (order : Order) (m : Machine) → ChosenByOrder order m → EndsAs (carries_out order m) []
  carries-ends order m chosen = grind (arith, on_used-ends, moves_nothing, turns_at-moves, ends_nobody, one_move-ends, promote-move, release-ends, activate-move)

  -- ---- each act

  -- whom an item may prune, and a release
  abbrev pub ChosenBy : Act → Machine → Type 0
  ChosenBy (handles_item cid item) m = (e : Entry) → entry_at cid.0 m ≡ Some e → Chosen P e.facts.cid (woken item.id e m)
  ChosenBy (carries order) m = ChosenByOrder order m
  ChosenBy other m = Unit {0}

  pub part-ends : (act : Act) (m : Machine) → ChosenBy act m → EndsAs (does act m) (ends_due act m)
  part-ends (fires_one d) m chosen = on_ends (entry_at d.cid.0 m) (fires_as d.kind) m (causes_of_kind d.kind) (λ e is. fires_as-ends d.kind e m)
  part-ends asks_for_roots m chosen = grind arith
  part-ends (carries order) m chosen = carries-ends order m chosen
  part-ends (connects addr) m chosen = connects-ends addr m
  part-ends (ends_dial cid opened) m chosen = grind arith
  part-ends (handles_item cid item) m chosen = on_ends (entry_at cid.0 m) (handled item) m (λ e. causes_of_item e.facts.phase item e m) (λ e is. handled_in-ends e.facts.phase item e m (chosen e is))
  part-ends (ends_stream cid fault) m chosen = on_ends (entry_at cid.0 m) (faulted fault) m (λ e. causes_of_cut fault) (λ e is. faulted-ends fault e m)
  part-ends (is_closed cid) m chosen = grind arith
  part-ends (makes_ordinary addr) m chosen = moves_nothing (peer_is_ordinary addr m) (turns_at-moves (peer_at addr m) (λ p. record p { big = false }) m)
  part-ends (provides addr) m chosen = moves_nothing (comes_ordinary addr m) (comes-providing false addr m).moves
  part-ends (provides_big addr) m chosen = grind arith
  part-ends other m chosen = ends_nobody (does other m) refl
