-- How many ids and jobs an event gives out.
use Rattle.std.proofs.Common.{ℕ, ◌≡◌, ◌≤◌, Bool, true, false, ◌||◌, nat_le, List, [], ◌∷◌, map, Option, Some, None, refl, sym, subst, arith}
use Rattle.laws.proofs.Words.{cond_both, false≢true}
use Rattle.laws.specs.Words.{AllByRecursion, is_greeting, is_negotiated, Overwritten, RootAnswer, Found, Failed, cleaned, members_of, awaits, Machine, Entry, entry_at, Effect, on_entry, for_each, peer_at, ending, fires_as, dialed, comes_ordinary, roots_say, handled, faulted, Event, Now, Govern, Accepted, Dialed, Bytes, Closed, Aims, Locals, Roots, BigAims, Bigs, step}
use Rattle.laws.proofs.Walk.{Scope, Stands, found-stands, Kept, on_found, fires-walk, dialed-walk, big-walk, handled-walk, faulted-walk}
use Rattle.laws.proofs.Numbers.{GivesNone, GivesOne, ending-none, for_each-none, gains_then, none_then, numbers_of, one_more, peer_comes-none, turns_at-none, unchanged, vanishes-none, Gains, govern-few}
use Rattle.laws.specs.Acts.{Act, fires_one, asks_for_roots, carries, connects, ends_dial, handles_item, ends_stream, is_closed, sets_roots, makes_ordinary, provides, provides_big, does, acts_at_moment, acts_fed, acts_of_bytes, acts}
use Rattle.laws.specs.AtMoves.{fed_on}
use Rattle.laws.proofs.Chain.{parts-chain}
use Rattle.laws.proofs.Lists.{all-appended}
use Rattle.laws.proofs.Connects.{connects-cases, closes-cases}
use Rattle.laws.specs.Steady.{IsFormed, GivesFew}

-- ---- a part that dials nobody, and lets nobody in

abbrev anything : Scope
anything = record { own = λ cid. true; comes = λ cid. true; drops = true; goes = λ cid. true; timely = false; sends = true; dials = false; lets_in = false; forgets = λ addr. true; brings = λ big. true; makes = true }

abbrev Given : Machine → Effect → Type 0
Given m effect = GivesNone m effect.machine

same-none : (m n : Machine) → numbers_of n ≡ numbers_of m → GivesNone m n
same-none m n = unchanged

never : (m n : Machine) → false ≡ true → GivesNone m n
never m n wrong = absurd (false≢true wrong)

none-kept : Kept anything Given
none-kept = search (same-none, none_then, ending-none, vanishes-none, turns_at-none, peer_comes-none, never)

found-none : (cid : ℕ) (act : Entry → Machine → Effect) (m : Machine) → ((e : Entry) → Stands anything e m → Given m (act e m)) → Given m (on_entry (entry_at cid m) act m)
found-none cid act m each = on_found anything Given none-kept cid act m (λ e is. each e (found-stands anything cid m e is refl))

-- ---- each act

-- it asks for no public roots, orders nothing, lets nobody in, and sets no question
abbrev is_still : Act → Bool
is_still asks_for_roots = false
is_still (carries order) = false
is_still (connects addr) = false
is_still (sets_roots roots) = false
is_still other = true

abbrev AreStill : List Act → Type 0
AreStill = AllByRecursion (λ act. is_still act ≡ true)

act-none : (act : Act) (m : Machine) → is_still act ≡ true → Given m (does act m)
act-none asks_for_roots m still = absurd (false≢true still)
act-none (carries order) m still = absurd (false≢true still)
act-none (connects addr) m still = absurd (false≢true still)
act-none (sets_roots roots) m still = absurd (false≢true still)
act-none (fires_one d) m still =
    found-none d.cid.0 (fires_as d.kind) m (λ e stands. fires-walk anything Given none-kept d.kind e m refl stands (λ sort timely. absurd (false≢true timely)))
act-none (ends_dial cid opened) m still =
    found-none cid.0 (dialed opened) m (λ e stands. dialed-walk anything Given none-kept opened e m refl stands (λ dials failed. refl))
act-none (handles_item cid item) m still =
    found-none cid.0 (handled item) m (λ e stands. handled-walk anything Given none-kept e.facts.phase item e m refl refl refl stands)
act-none (ends_stream cid fault) m still = found-none cid.0 (faulted fault) m (λ e stands. faulted-walk anything Given none-kept fault e m)
act-none (is_closed cid) m still = closes-cases cid m (Given m) (unchanged refl) (λ e k s own. vanishes-none e m)
act-none (makes_ordinary addr) m still = turns_at-none (peer_at addr m) (λ p. record p { big = false }) m
act-none (provides addr) m still = peer_comes-none false addr m
act-none (provides_big addr) m still = big-walk anything Given none-kept addr m refl
act-none other m still = unchanged refl

acts-none : (acts : List Act) (m : Machine) → AreStill acts → GivesNone m (for_each does acts m).machine
unfolding for_each
acts-none [] m all = unchanged refl
acts-none (act ∷ acts) m all = none_then (act-none act m all.0) (acts-none acts (does act m).machine all.1)

mapped-still : {X : Type 0} (name : X → Act) → ((x : X) → is_still (name x) ≡ true) → (xs : List X) → AreStill (map name xs)
mapped-still name still [] = tt
mapped-still name still (x ∷ xs) = (still x, mapped-still name still xs)

bytes-still : (o : Option Entry) (bytes : List ℕ) → AreStill (acts_of_bytes o bytes)
bytes-still None bytes = tt
bytes-still (Some e) bytes = cond_both (is_greeting e.facts || is_negotiated e.facts) (acts_fed (fed_on e bytes) e) [] AreStill
    (λ open_. (refl, all-appended _ (map (handles_item e.facts.cid) (fed_on e bytes).items) _ (mapped-still (handles_item e.facts.cid) (λ item. refl) _) (refl, tt))) (λ other. tt)

-- ---- public roots

roots-none : (answer : RootAnswer) (m : Machine) → GivesNone m (roots_say answer m).machine
roots-none (Found ttl addrs) m = for_each-none comes_ordinary (λ addr o. peer_comes-none false addr o) _ _
roots-none Failed m = unchanged refl

-- ---- each event

few : {ids : ℕ} {m n : Machine} → ids ≤ 20000 → Gains ids (numbers_of m) (numbers_of n) → GivesFew m n
few less h = record { ids = omega (arith, less, h.id); jobs = omega (arith, h.job) }

still-few : (m : Machine) (event : Event) → AreStill (acts m event) → GivesFew m (step m event).machine
still-few m event still = subst (λ effect. GivesFew m effect.machine) (sym (parts-chain m event)) (few {ids = 0} (omega arith) (acts-none (acts m event) m still))

pub step-few : (m : Machine) (event : Event) → IsFormed m → GivesFew m (step m event).machine
step-few m (Now t) h = still-few m (Now t) (cond_both (nat_le t m.now) [] (acts_at_moment t m) AreStill (λ past. tt) (λ later. (refl, mapped-still fires_one (λ d. refl) _)))
step-few m (Govern word) h = govern-few word m h
step-few m (Accepted addr) h = few {ids = 1} (omega arith) (connects-cases addr m (λ effect. GivesOne m effect.machine) (λ cause. unchanged refl)
    (λ room alone. one_more (numbers_of m)) (λ room e is pending. gains_then 0 1 (ending-none Overwritten e m) (one_more (numbers_of (ending Overwritten e m).machine))))
step-few m (Dialed cid opened) h = still-few m (Dialed cid opened) (refl, tt)
step-few m (Bytes cid bytes) h = still-few m (Bytes cid bytes) (bytes-still (entry_at cid.0 m) bytes)
step-few m (Closed cid) h = still-few m (Closed cid) (refl, tt)
step-few m (Aims targets) h = still-few m (Aims targets) (refl, tt)
step-few m (Locals groups) h = still-few m (Locals groups) (
  refl,
  all-appended _ (map makes_ordinary (members_of (cleaned m.settings.own groups))) _
      (mapped-still makes_ordinary (λ a. refl) _) (mapped-still provides (λ a. refl) _),
)
step-few m (Roots job answer) h = few {ids = 0} (omega arith) (cond_both (awaits job.0 m.roots) _ _ (λ (effect : Effect). GivesNone m effect.machine)
    (λ awaited. roots-none answer m) (λ other. unchanged refl))
step-few m (BigAims targets) h = still-few m (BigAims targets) (refl, tt)
step-few m (Bigs addrs) h = still-few m (Bigs addrs) (mapped-still provides_big (λ a. refl) addrs)
