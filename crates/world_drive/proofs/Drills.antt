-- What one action more, and one event more, make of a drill.
use Rattle.std.proofs.Common.{◌≡◌, ℕ, zero, ◌+◌, ◌<◌, Bool, cond, List, [], ◌∷◌, ◌++◌, length, take, get_or, refl, sym, ap, ◌∙◌, arith, add-one, length-append}
use Rattle.std.specs.List.{count_by}
use Rattle.std.proofs.lemmas.List.{take_more}
use Rattle.std.proofs.lemmas.List.Sums.{sum_by-append}
use Rattle.machine.specs.Machine.{Machine, start_of}
use Rattle.machine.specs.Step.{step}
use Rattle.net_base.specs.declared.action.Action.{Action}
use Rattle.net_base.specs.declared.event.Event.{Event}
use Rattle.node_world.specs.Town.{Town, new_town, next_of, act_of}
use Rattle.world_drive.specs.Drill.{Drilled, town_settings, acted, turned, drilled, is_admit, is_turnaway, is_dial, is_close, counts_of, tallies}
use Rattle.world_drive.specs.DrillCourse.{StandsAt, counts_joined}
use Rattle.node_engine.specs.Tally.{tally_of}
use Rattle.world_drive.specs.declared.tallies.Counts.{Counts}
use Rattle.world_drive.specs.declared.tallies.Tallies.{Tallies}

-- ---- what was counted

counts_same : (a b c d e a' b' c' d' e' : ℕ) → a ≡ a' → b ≡ b' → c ≡ c' → d ≡ d' → e ≡ e' → (left right : Counts) →
    left ≡ record { actions = a; admitted = b; turned = c; dials = d; closes = e } →
    right ≡ record { actions = a'; admitted = b'; turned = c'; dials = d'; closes = e' } → left ≡ right
counts_same a b c d e a' b' c' d' e' ea eb ec ed ee left right l r = rw (l, r, ea, eb, ec, ed, ee) refl

count-append : (p : Action → Bool) (xs ys : List Action) → count_by p (xs ++ ys) ≡ count_by p xs + count_by p ys
count-append p xs ys = sum_by-append (λ x. cond (p x) 1 0) xs ys

pub counts_of-append : (xs ys : List Action) → counts_of (xs ++ ys) ≡ counts_joined (counts_of xs) (counts_of ys)
counts_of-append xs ys =
    counts_same _ _ _ _ _ _ _ _ _ _
    (length-append xs ys) (count-append is_admit xs ys) (count-append is_turnaway xs ys) (count-append is_dial xs ys) (count-append is_close xs ys)
    (counts_of (xs ++ ys)) (counts_joined (counts_of xs) (counts_of ys)) refl refl

pub joined-none : (c : Counts) → c ≡ counts_joined c (counts_of [])
joined-none c =
    counts_same _ _ _ _ _ _ _ _ _ _ (omega arith) (omega arith) (omega arith) (omega arith) (omega arith)
    c (counts_joined c (counts_of [])) refl refl

pub joined-joined : (a b c : Counts) → counts_joined (counts_joined a b) c ≡ counts_joined a (counts_joined b c)
joined-joined a b c =
    counts_same _ _ _ _ _ _ _ _ _ _ (omega arith) (omega arith) (omega arith) (omega arith) (omega arith)
    (counts_joined (counts_joined a b) c) (counts_joined a (counts_joined b c)) refl refl

take-one_more : (xs : List Action) (i : ℕ) (item : Action) → i < length xs → item ≡ get_or xs i item → take (i + 1) xs ≡ take i xs ++ item ∷ []
take-one_more xs i item inside is = take_more xs i item inside ∙ ap (λ x. take i xs ++ x ∷ []) (sym is)

-- one action more is counted
pub counted-more : (before so_far now : Counts) (xs : List Action) (i : ℕ) (item : Action) → i < length xs → item ≡ get_or xs i item →
    so_far ≡ counts_joined before (counts_of (take i xs)) → now ≡ counts_joined so_far (counts_of (item ∷ [])) →
    now ≡ counts_joined before (counts_of (take (i + 1) xs))
counted-more before so_far now xs i item inside is s n =
    n ∙ ap (λ k. counts_joined k (counts_of (item ∷ []))) s
    ∙ joined-joined before (counts_of (take i xs)) (counts_of (item ∷ []))
    ∙ ap (λ k. counts_joined before k) (sym (counts_of-append (take i xs) (item ∷ [])))
    ∙ ap (λ acts. counts_joined before (counts_of acts)) (sym (take-one_more xs i item inside is))

-- ---- the town

pub acted-none : (town : Town) → town ≡ acted town []
unfolding acted
acted-none town = refl

acted-append : (town : Town) (xs ys : List Action) → acted town (xs ++ ys) ≡ acted (acted town xs) ys
unfolding acted
acted-append town [] ys = refl
acted-append town (action ∷ xs) ys = acted-append (act_of town action) xs ys

acted-one : (town : Town) (action : Action) → acted town (action ∷ []) ≡ act_of town action
unfolding acted
acted-one town action = refl

-- the town is handed one action more
pub acted-more : (before so_far now : Town) (xs : List Action) (i : ℕ) (item : Action) → i < length xs → item ≡ get_or xs i item →
    so_far ≡ acted before (take i xs) → now ≡ act_of so_far item → now ≡ acted before (take (i + 1) xs)
acted-more before so_far now xs i item inside is s n =
    n ∙ ap (λ t. act_of t item) s
    ∙ sym (acted-one (acted before (take i xs)) item)
    ∙ sym (acted-append before (take i xs) (item ∷ []))
    ∙ ap (λ acts. acted before acts) (sym (take-one_more xs i item inside is))

-- ---- the run

-- before any event
pub StandsAt-none : (seed : ℕ) (town : Town) (machine : Machine) (counts : Counts) →
    town ≡ new_town seed → machine ≡ start_of town_settings → counts ≡ counts_of [] → StandsAt town machine counts (drilled seed zero)
unfolding drilled
StandsAt-none seed town machine counts t m c = record { town_is = t; machine_is = m; counts_are = c }

-- one event more: the town gives it, the machine takes it, and the town is handed the actions
pub StandsAt-turned : (town given later : Town) (machine next : Machine) (event : Event) (actions : List Action) (counts more : Counts) (d : Drilled) →
    StandsAt town machine counts d → event ≡ (next_of town).0 → given ≡ (next_of town).1 →
    next ≡ (step machine event).machine → actions ≡ (step machine event).actions →
    later ≡ acted given actions → more ≡ counts_joined counts (counts_of actions) → StandsAt later next more (turned d)
unfolding turned
StandsAt-turned town given later machine next event actions counts more d stands e g n a l m =
    let event_is : event ≡ (next_of d.town).0 = e ∙ ap (λ t. (next_of t).0) stands.town_is in
    let stepped : step machine event ≡ step d.machine (next_of d.town).0 =
    ap (λ k. step k event) stands.machine_is ∙ ap (λ happening. step d.machine happening) event_is in
    let actions_are : actions ≡ (step d.machine (next_of d.town).0).actions = a ∙ ap (λ r. r.actions) stepped in
    record {
      town_is = l ∙ ap (λ t. acted t actions) (g ∙ ap (λ t. (next_of t).1) stands.town_is) ∙ ap (λ acts. acted (next_of d.town).1 acts) actions_are;
      machine_is = n ∙ ap (λ r. r.machine) stepped;
      counts_are = m ∙ ap (λ k. counts_joined k (counts_of actions)) stands.counts_are
          ∙ sym (counts_of-append d.actions actions) ∙ ap (λ acts. counts_of (d.actions ++ acts)) actions_are;
    }

pub drilled-more : (seed count : ℕ) → turned (drilled seed count) ≡ drilled seed (count + 1)
unfolding drilled
drilled-more seed count = ap (λ n. drilled seed n) (sym (add-one count))

-- what is counted where it ends
pub tallies-at : (seed count events : ℕ) (town : Town) (machine : Machine) (counts : Counts) (t : Tallies) → StandsAt town machine counts (drilled seed count) → events ≡ count →
    t ≡ record { events = events; counts = counts; established = (tally_of machine).established; active = (tally_of machine).active } → t ≡ tallies seed count
tallies-at seed count events town machine counts t stands e is = is ∙ rw (e, stands.machine_is, stands.counts_are) refl
