-- An event is its parts, one after the other.
use Rattle.std.proofs.Common.{ℕ, zero, suc, ◌≡◌, Bool, nat_le, if◌then◌else◌, List, [], ◌∷◌, ◌++◌, map, Option, Some, None, refl, sym, ◌∙◌, arith}
use Rattle.laws.proofs.Words.{append-nil, append_assoc}
use Rattle.laws.specs.Words.{Order, FedBy, Action, Cid, Event, Now, Govern, Accepted, Dialed, Bytes, Closed, Aims, Locals, Roots, BigAims, Bigs, Group, RootAnswer, Found, Failed, cleaned, members_of, awaits, fires, fire_due, Effect, Move, nothing_more, on_entry, then_do, for_each, clock_shows, carries_out, asks_roots, ordinary_rules, big_rules, rules, govern, Machine, Entry, entry_at, peer_is_ordinary, comes_ordinary, comes_big, roots_say, handles, fed_with, comes_in, step}
use Rattle.laws.specs.Acts.{Act, carries, connects, ends_dial, stores, handles_item, ends_stream, is_closed, sets_targets, sets_big_targets, provides_big, does, fired, orders_of, acts_at_moment, acts_fed, acts_of_bytes, acts_of_groups, acts_of_answer, acts}
use Rattle.laws.specs.AtMoves.{fed_on}

-- ---- one after the other

abbrev with_actions : List Action → List Move → Machine → Effect
with_actions actions moves m = record { machine = m; actions = actions; moves = moves }

then_nothing : (effect : Effect) → then_do effect nothing_more ≡ effect
then_nothing effect = search (arith, append-nil)

pub then_assoc : (effect : Effect) (f g : Machine → Effect) → then_do (then_do effect f) g ≡ then_do effect (λ m. then_do (f m) g)
then_assoc effect f g = search (arith, append_assoc)

-- what follows is the same
then_same : (effect : Effect) (f g : Machine → Effect) → f effect.machine ≡ g effect.machine → then_do effect f ≡ then_do effect g
then_same effect f g same = cc

pub each_appended : {X : Type 0} (act : X → Machine → Effect) (xs ys : List X) (m : Machine) →
    for_each act (xs ++ ys) m ≡ then_do (for_each act xs m) (for_each act ys)
unfolding for_each
each_appended act [] ys m = refl
each_appended act (x ∷ xs) ys m = cc (each_appended act xs ys (act x m).machine, then_assoc (act x m) (for_each act xs) (for_each act ys))

-- an act for each
pub each_mapped : {X : Type 0} (name : X → Act) (act : X → Machine → Effect) → ((x : X) (m : Machine) → does (name x) m ≡ act x m) → (xs : List X) (m : Machine) →
    for_each does (map name xs) m ≡ for_each act xs m
unfolding for_each
each_mapped name act same [] m = refl
each_mapped name act same (x ∷ xs) m = cc (same x m, each_mapped name act same xs (act x m).machine)

alone : (act : Act) (m : Machine) → does act m ≡ for_each does (act ∷ []) m
unfolding for_each
alone act m = sym (then_nothing (does act m))

no_act : (m : Machine) → nothing_more m ≡ for_each does [] m
unfolding for_each
no_act m = refl

-- ---- the clock

fired-chain : (n : ℕ) (m : Machine) → fire_due n m ≡ for_each fires (fired n m) m
unfolding fire_due fired for_each
fired-chain zero m = refl
fired-chain (suc n) m = search (arith, then_same, fired-chain n)

clock-chain : (t : ℕ) (m : Machine) → clock_shows t m ≡ for_each does (if nat_le t m.now then [] else acts_at_moment t m) m
unfolding for_each
clock-chain t m = search (arith, fired-chain, each_mapped)

-- ---- the governor

pub rules-chain : (each : List (Machine → List Order)) (m : Machine) → for_each rules each m ≡ for_each carries_out (orders_of each m) m
unfolding for_each orders_of
rules-chain [] m = refl
rules-chain (r ∷ each) m = cc (rules-chain each (rules r m).machine, each_appended carries_out (r m) (orders_of each (rules r m).machine) m)

pub orders-chain : (each : List (Machine → List Order)) (m : Machine) → for_each rules each m ≡ for_each does (map carries (orders_of each m)) m
orders-chain each m = rules-chain each m ∙ sym (each_mapped carries carries_out (λ o w. refl) (orders_of each m) m)

govern-chain : (word : ℕ) (m : Machine) → govern word m ≡ for_each does (acts m (Govern word)) m
unfolding for_each
govern-chain word m =
    let n : Machine = (asks_roots m).machine in
    let o : Machine = (for_each rules (ordinary_rules word) n).machine in
    let ordinary : List Act = map carries (orders_of (ordinary_rules word) n) in
    let big : List Act = map carries (orders_of (big_rules word) o) in
    then_same (asks_roots m) (λ w. then_do (for_each rules (ordinary_rules word) w) (for_each rules (big_rules word))) (for_each does (ordinary ++ big))
    (cc (orders-chain (ordinary_rules word) n, orders-chain (big_rules word) o, each_appended does ordinary big n))

-- ---- bytes

fed-chain : (fed : FedBy) (e : Entry) (m : Machine) → fed_with fed e m ≡ for_each does (acts_fed fed e) m
unfolding for_each
fed-chain fed e m =
    let cid : Cid = e.facts.cid in
    let first : Effect = does (stores e fed.state.undecoded) m in
    let n : Machine = first.machine in
    let items : List Act = map (handles_item cid) fed.items in
    let last : Act = ends_stream cid fed.state.fault in
    let second : Effect = for_each (handles cid) fed.items n in
    cc (alone last second.machine, each_mapped (handles_item cid) (handles cid) (λ item w. refl) fed.items n, each_appended does items (last ∷ []) n)

comes-chain : (o : Option Entry) (bytes : List ℕ) (m : Machine) → on_entry o (comes_in bytes) m ≡ for_each does (acts_of_bytes o bytes) m
comes-chain None bytes m = no_act m
comes-chain (Some e) bytes m = grind (arith, fed-chain (fed_on e bytes) e m, no_act m)

-- ---- what is set and provided

locals-chain : (kept : List Group) (m : Machine) →
    then_do (for_each peer_is_ordinary (members_of kept) (record m { groups = kept })) (for_each comes_ordinary (members_of kept))
    ≡ for_each does (acts_of_groups kept) m
unfolding for_each
locals-chain kept m = search (arith, each_mapped, each_appended)

answer-chain : (answer : RootAnswer) (m : Machine) → roots_say answer m ≡ for_each does (acts_of_answer answer m) m
unfolding for_each
answer-chain (Found ttl addrs) m = search (arith, each_mapped)
answer-chain Failed m = refl

roots-chain : (b : Bool) (answer : RootAnswer) (m : Machine) →
    (if b then roots_say answer m else nothing_more m) ≡ for_each does (if b then acts_of_answer answer m else []) m
roots-chain b answer m = grind (arith, answer-chain answer m, no_act m)

-- ---- each event

pub parts-chain : (m : Machine) (event : Event) → step m event ≡ for_each does (acts m event) m
parts-chain m (Now t) = clock-chain t m
parts-chain m (Govern word) = govern-chain word m
parts-chain m (Accepted addr) = alone (connects addr) m
parts-chain m (Dialed cid opened) = alone (ends_dial cid opened) m
parts-chain m (Bytes cid bytes) = comes-chain (entry_at cid.0 m) bytes m
parts-chain m (Closed cid) = alone (is_closed cid) m
parts-chain m (Aims targets) = alone (sets_targets targets) m
parts-chain m (Locals groups) = locals-chain (cleaned m.settings.own groups) m
parts-chain m (Roots job answer) = roots-chain (awaits job.0 m.roots) answer m
parts-chain m (BigAims targets) = alone (sets_big_targets targets) m
parts-chain m (Bigs addrs) = sym (each_mapped provides_big comes_big (λ a w. refl) addrs m)
