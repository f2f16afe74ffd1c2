-- What the actions of a part tell: one part after another, and what tells nothing.
use Rattle.std.proofs.Common.{ℕ, nat_lt, find, Option, Some, None, ◌+◌, ◌≡◌, ◌≤◌, Bool, true, false, ◌&&◌, List, [], ◌∷◌, ◌++◌, flat_map, refl, sym, ap, ◌∙◌, subst, arith}
use Rattle.laws.proofs.Words.{and_parts, false≢true, flat_map-append, append-nil}
use Rattle.laws.specs.Words.{Action, Turnaway, Send, Pause, AskRoots, CloseCause, Unused, Addr, Phase, Dialing, has_id, Effect, Happened, Move, then_do, as_move, Machine, Entry, entry_at}
use Rattle.peer_book.specs.Book.{peer_at as peer_in}
use Rattle.laws.specs.Stages.{stage_of_phase, stage_of, stage_at, stage_ended, causes_by, causes_in, IsOneEnd}
use Rattle.laws.specs.Telling.{KeepsAddress, GoesOn, IsTold}
use Rattle.laws.specs.InActions.{End, Given, closes_in, ended_by, ends_in, dials_in, promoted_by_dial, dial_promotions_in, given_in, CountUp, HasAddress, AreAt, LeadTo, temp_of, temp_at, notes_in, noted, is_change, names_in, is_other_name, same_state, state_of}

-- ---- one after the other

pub leads_on : {S N : Type 0} (changes : S → N → Bool) (says : N → S) (s t u : S) (ns ms : List N) → LeadTo changes says s ns t → LeadTo changes says t ms u →
    LeadTo changes says s (ns ++ ms) u
leads_on changes says s t u [] ms one two = subst (λ x. LeadTo changes says x ms u) (sym one) two
leads_on changes says s t u (n ∷ ns) ms one two = (one.0, leads_on changes says (says n) t u ns ms one.1 two)

counts_on : (a b c : ℕ) (ns ms : List Given) → CountUp a ns b → CountUp b ms c → CountUp a (ns ++ ms) c
counts_on a b c [] ms one two = subst (λ x. CountUp x ms c) (sym one) two
counts_on a b c (n ∷ ns) ms one two = (one.0, counts_on (a + 1) b c ns ms one.1 two)

counted_to : (a b : ℕ) (gs : List Given) → CountUp a gs b → a ≤ b
counted_to a b [] h = omega (arith, h)
counted_to a b (g ∷ gs) h = let rest = counted_to (a + 1) b gs h.1 in omega (arith, rest)

-- ---- addresses

pub open_stage : (p : Phase) → stage_of_phase p ≤ 4
open_stage Dialing = omega arith
open_stage other = omega arith

some_stage : (p : Phase) → 1 ≤ stage_of_phase p
some_stage Dialing = omega arith
some_stage other = omega arith

keeps_then : (o p q : Option Entry) (a b c : Bool) → stage_of o a ≤ stage_of p b → stage_of p b ≤ stage_of q c → KeepsAddress o p → KeepsAddress p q → KeepsAddress o q
keeps_then (Some e) None (Some g) a b c early late one two = absurd (grind (arith, early, late, open_stage g.facts.phase, some_stage e.facts.phase))
keeps_then (Some e) (Some f) (Some g) a b c early late one two = two ∙ one
keeps_then None p q a b c early late one two = tt
keeps_then o p None a b c early late one two = tt

pub keeps_itself : (o : Option Entry) → KeepsAddress o o
keeps_itself None = tt
keeps_itself (Some e) = refl

still_at : (addr : Addr) (o p : Option Entry) (b : Bool) → stage_of o true ≤ stage_of p b → KeepsAddress o p → HasAddress addr o → HasAddress addr p
still_at addr None (Some f) b late keeps has = absurd (grind (arith, late, open_stage f.facts.phase))
still_at addr (Some e) (Some f) b late keeps has = keeps ∙ has
still_at addr o None b late keeps has = tt

-- those that came in the first part are where they were told in the second one, if they still are
all_still_at : (next : ℕ) (gs : List Given) (m n : Machine) → CountUp next gs m.next_id → ((cid : ℕ) → stage_at cid m ≤ stage_at cid n) →
    ((cid : ℕ) → KeepsAddress (entry_at cid m) (entry_at cid n)) → AreAt gs m → AreAt gs n
all_still_at next [] m n counts forward keeps h = tt
all_still_at next (g ∷ gs) m n counts forward keeps h =
    let given : nat_lt g.cid m.next_id ≡ true = grind (arith, counted_to (next + 1) m.next_id gs counts.1, counts.0) in (
      still_at g.addr (entry_at g.cid m) (entry_at g.cid n) (nat_lt g.cid n.next_id) (rw given at (forward g.cid)) (keeps g.cid) h.0,
      all_still_at (next + 1) gs m n counts.1 forward keeps h.1,
    )

all_at : (xs ys : List Given) (m : Machine) → AreAt xs m → AreAt ys m → AreAt (xs ++ ys) m
all_at [] ys m one two = two
all_at (x ∷ xs) ys m one two = (one.0, all_at xs ys m one.1 two)

both_joined : {A B C : Type 0} (f : A → List C) (g : B → List C) (xs ys : List A) (ms ns : List B) → flat_map f xs ≡ flat_map g ms → flat_map f ys ≡ flat_map g ns →
    flat_map f (xs ++ ys) ≡ flat_map g (ms ++ ns)
both_joined f g xs ys ms ns one two = search (arith, flat_map-append)

abbrev ends_of_move : Move → List End
ends_of_move move = ended_by move.happened

causes-append : (cid : ℕ) (ms ns : List Move) → causes_in cid (ms ++ ns) ≡ causes_in cid ms ++ causes_in cid ns
causes-append cid ms ns = ap (flat_map (causes_by cid)) (flat_map-append ends_of_move ms ns) ∙ flat_map-append (causes_by cid) (ends_in ms) (ends_in ns)

pub ended-over : (cause : CloseCause) → 4 ≤ stage_ended cause
ended-over Unused = omega arith
ended-over other = omega arith

one_end_on : (cs ds : List CloseCause) (a b c : ℕ) → a ≤ b → b ≤ c → IsOneEnd cs a b → IsOneEnd ds b c → IsOneEnd (cs ++ ds) a c
one_end_on [] [] a b c early late one two = tt
one_end_on [] (d ∷ []) a b c early late one two = (omega (arith, early, two.0), two.1, λ open_. two.2 (let start = two.0 in omega (arith, early, open_, start)))
one_end_on (x ∷ []) [] a b c early late one two = (one.0, (let over = one.1 in omega (arith, over, late)), one.2)
one_end_on (x ∷ []) (d ∷ []) a b c early late one two = absurd (let over = one.1 in let start = two.0 in let late = ended-over x in omega (arith, over, start, late))
one_end_on (x ∷ y ∷ cs) ds a b c early late one two = elim one [ ]
one_end_on cs (d ∷ e ∷ ds) a b c early late one two = elim two [ ]

pub goes_on_then : (cid : ℕ) (m : Machine) (first : Effect) (next : Machine → Effect) → GoesOn cid m first → GoesOn cid first.machine (next first.machine) →
    GoesOn cid m (then_do first next)
goes_on_then cid m first next one two = search (arith, flat_map-append, leads_on, keeps_then, causes-append, one_end_on)

pub told_then : (m : Machine) (first : Effect) (next : Machine → Effect) → IsTold m first → IsTold first.machine (next first.machine) → IsTold m (then_do first next)
told_then m first next one two = search (arith, both_joined, flat_map-append, counts_on, all_at, all_still_at, leads_on, goes_on_then)

-- ---- what tells nothing

-- actions that tell of no connection and no peer
pub record IsMute (actions : List Action) : Type 0 where
  pub closes : closes_in actions ≡ []
  pub dials : dials_in actions ≡ []
  pub given : given_in actions ≡ []
  pub notes : (addr : Addr) → notes_in addr actions ≡ []
  pub names : (cid : ℕ) → names_in cid actions ≡ []

-- nor is there anything to tell
pub record IsUnchanged (before after : Machine) : Type 0 where
  pub connections : after.connections ≡ before.connections
  pub peers : after.peers ≡ before.peers
  pub next_id : after.next_id ≡ before.next_id

-- a connection, as it was and as it is, and what is told of it
pub went_on : (cid : ℕ) (m : Machine) (effect : Effect) (o p : Option Entry) → entry_at cid m ≡ o → entry_at cid effect.machine ≡ p → effect.moves ≡ [] →
    KeepsAddress o p → LeadTo is_other_name same_state (state_of o) (names_in cid effect.actions) (state_of p) →
    stage_of o (nat_lt cid m.next_id) ≤ stage_of p (nat_lt cid effect.machine.next_id) → GoesOn cid m effect
went_on cid m effect o p was now none address names forward = search arith

-- one of which nothing is told, as it was
pub went_untold : (cid : ℕ) (m : Machine) (effect : Effect) → entry_at cid effect.machine ≡ entry_at cid m → effect.moves ≡ [] → names_in cid effect.actions ≡ [] →
    stage_at cid m ≤ stage_of (entry_at cid m) (nat_lt cid effect.machine.next_id) → GoesOn cid m effect
went_untold cid m effect same none untold forward = search (arith, went_on, keeps_itself)

pub told_unchanged : (m : Machine) (effect : Effect) → IsMute effect.actions → effect.moves ≡ [] → IsUnchanged m effect.machine → IsTold m effect
told_unchanged m effect mute none same = record {
  closes = mute.closes ∙ sym (ap ends_in none);
  dials = mute.dials ∙ sym (ap dial_promotions_in none);
  given = subst (λ ns. CountUp m.next_id ns effect.machine.next_id) (sym mute.given) (sym same.next_id);
  addresses = subst (λ gs. AreAt gs effect.machine) (sym mute.given) tt;
  peers = λ addr. subst (λ ns. LeadTo is_change noted (temp_at addr m) ns (temp_at addr effect.machine)) (sym (mute.notes addr))
      (ap (λ ps. temp_of (peer_in addr ps)) (sym same.peers));
  connections = λ cid. went_untold cid m effect (ap (find (λ e. has_id cid e.facts)) same.connections) none (mute.names cid)
      (subst (λ next. stage_at cid m ≤ stage_of (entry_at cid m) (nat_lt cid next)) (sym same.next_id) (omega arith));
}

pub mute-none : IsMute []
mute-none = record { closes = refl; dials = refl; given = refl; notes = λ addr. refl; names = λ cid. refl }

-- ---- the part as a whole is a move

-- a move that is neither an end nor a dial
pub told_move : (happened : Happened) (m : Machine) (effect : Effect) → ended_by happened ≡ [] → promoted_by_dial happened m.next_id effect.machine.next_id ≡ [] →
    IsTold m effect → IsTold m (as_move happened m effect)
told_move happened m effect no_end no_dial h = search (arith, flat_map-append, append-nil)

-- ---- what is sent, put off, or asked of others

abbrev pub is_mute : Action → Bool
is_mute (Send cid payload) = true
is_mute (Turnaway away) = true
is_mute (Pause delay) = true
is_mute (AskRoots job) = true
is_mute other = false

abbrev pub are_mute : List Action → Bool
are_mute [] = true
are_mute (a ∷ actions) = is_mute a && are_mute actions

mute_first : (a : Action) (actions : List Action) → is_mute a ≡ true → IsMute actions → IsMute (a ∷ actions)
mute_first (Turnaway away) actions is rest = assumption
mute_first (Send cid payload) actions is rest = assumption
mute_first (Pause delay) actions is rest = assumption
mute_first (AskRoots job) actions is rest = assumption
mute_first other actions is rest = absurd (false≢true is)

pub mute : (actions : List Action) → are_mute actions ≡ true → IsMute actions
mute [] h = mute-none
mute (a ∷ actions) h =
    let parts = and_parts (is_mute a) (are_mute actions) h in
    mute_first a actions parts.0 (mute actions parts.1)
