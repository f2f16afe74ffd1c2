-- Where more connections are counted than the hard limit, one of them goes.
use Rattle.std.proofs.Common.{ℕ, ◌+◌, ◌≤◌, ◌<◌, ◌≡◌, Bool, true, false, nat_le, if◌then◌else◌, List, [], ◌∷◌, ◌++◌, map, filter_map, find, Option, Some, None, refl, sym, ap, ◌∙◌, subst, arith, eq-eqb, leb-true, leb-false, All}
use Rattle.laws.proofs.Words.{cond_both, All-head, All-tail, All-from_recursion, recursion_from_All, first_to_go-law}
use Rattle.laws.specs.Words.{AllByRecursion, cons_option, option_map, unwrap_or, Settings, CloseCause, Pruned, Cid, Facts, IsFirstToGo, is_candidate, rank_of_candidate, goes_before, first_of, first_to_go, Candidate, is_counted, has_id, is_live, is_negotiated, Machine, Entry, counted_in, entry_at, Effect, Happened, Move, nothing_more, then_do, as_move, for_each, on_entry, without_entry, lost, ending, candidate_of, candidates_in, trim}
use Rattle.laws.specs.AtMoves.{as_candidate, IsDueToGo, IsPrunedRightly, IsLawful}
use Rattle.laws.specs.Laws.{LocalsAreOrdinary}
use Rattle.laws.specs.Sound.{IsOrderly}
use Rattle.laws.specs.Stages.{IsLateCause}
use Rattle.laws.specs.InActions.{ended_by, promoted_by_dial}
use Rattle.laws.specs.Steady.{IsTied, IsOrdered}
use Rattle.laws.proofs.Counts.{counted_of, late_in}
use Rattle.laws.proofs.Effects.{one_if-counted}
use Rattle.laws.proofs.Entries.{gone-connections, one_has_id}
use Rattle.laws.proofs.Finds.{find-remove_other}
use Rattle.laws.proofs.Keeping.{Keeps, keeps_nothing}
use Rattle.laws.proofs.Lawful.{Accounts, accounts_then, accounts_move, Obeys, obeys_nothing, ending-obeys, lost-quiet}
use Rattle.laws.proofs.Moves.{gone-counts}
use Rattle.laws.proofs.Lists.{StandsAt, stands_next, find_only, all-weaker, all-appended, all-both}
use Rattle.laws.proofs.WholeMoves.{IsLost, ending-keeps}
use Rattle.laws.proofs.Cases.{by_bool, by_option}

-- ---- whoever is chosen is counted

-- what its facts are where it may go
pub record IsCandidateAs (f : Facts) (c : Candidate) : Type 0 where
  pub same : f.cid ≡ c.cid
  pub counted : is_counted f ≡ true
  pub unused : f.local ≡ false
  pub may : is_candidate f ≡ true
  pub ranked : record { cid = f.cid; rank = rank_of_candidate f } ≡ c

pub record Goes (es : List Entry) (c : Candidate) : Type 0 where
  pub entry : Entry
  pub place : ℕ
  pub stands : StandsAt es place entry
  pub facts : IsCandidateAs entry.facts c

goes_next : (e : Entry) (es : List Entry) (c : Candidate) → Goes es c → Goes (e ∷ es) c
goes_next e es c g = grind (arith, stands_next e g.entry es g.place g.stands)

abbrev candidates_among : List Entry → List Candidate
candidates_among es = filter_map candidate_of (map (λ e. e.facts) es)

candidate-counted : (f : Facts) (c : Candidate) → candidate_of f ≡ Some c → IsCandidateAs f c
candidate-counted f c e = grind (arith, e)

pub goes_among : (es : List Entry) (c : Candidate) → first_to_go (candidates_among es) ≡ Some c → Goes es c
unfolding first_to_go
goes_among [] c e = absurd cc
goes_among (x ∷ es) c e = by_option (candidate_of x.facts)
    (λ o. ((a : Candidate) → first_to_go (candidates_among es) ≡ Some a → Goes es a) → first_to_go (cons_option o (candidates_among es)) ≡ Some c → Goes (x ∷ es) c)
    (λ is later same. goes_next x es c (later c same))
    (λ d is later same. by_rest d (first_to_go (candidates_among es)) is later same) (goes_among es) e
  where
    here : (d : Candidate) → candidate_of x.facts ≡ Some d → d ≡ c → Goes (x ∷ es) c
    here d is same = grind (arith, candidate-counted x.facts d is)

    by_rest : (d : Candidate) (o : Option Candidate) → candidate_of x.facts ≡ Some d →
        ((a : Candidate) → o ≡ Some a → Goes es a) → Some (first_of d o) ≡ Some c → Goes (x ∷ es) c
    by_rest d None is later same = here d is (let s : d ≡ c = cc in s)
    by_rest d (Some a) is later same =
        let s : (if goes_before a d then a else d) ≡ c = cc in
        by_bool (goes_before a d) (λ b. (if b then a else d) ≡ c → Goes (x ∷ es) c)
        (λ before t. goes_next x es c (later c (ap Some t))) (λ after t. here d is t) s

-- ---- whoever is chosen goes first

-- what holds of each candidate holds of each connection that may go
may_go-all : (P : Candidate → Type 0) (es : List Entry) → AllByRecursion P (candidates_among es) → AllByRecursion (λ f. is_candidate f.facts ≡ true → P (as_candidate f)) es
may_go-all P [] h = tt
may_go-all P (f ∷ es) h = grind (arith, may_go-all P es)

choice_law : (m : Machine) (o : Option Candidate) → first_to_go (candidates_in m) ≡ o → IsFirstToGo o (candidates_in m)
choice_law m o is = subst (λ c. IsFirstToGo c (candidates_in m)) is (first_to_go-law (candidates_in m))

abbrev GoesAfter : Entry → Candidate → Type 0
GoesAfter e d = (is_candidate e.facts ≡ true) × (goes_before d (as_candidate e) ≡ false)

-- it is due where each candidate is one after which it goes
due-after : (e : Entry) (m : Machine) → is_counted e.facts ≡ true → counted_in m ≡ m.settings.hard + 1 → AllByRecursion (GoesAfter e) (candidates_in m) → IsDueToGo e m
due-after e m counted most each = record {
  crowded = most;
  counted = counted;
  first = All-from_recursion (λ f. is_candidate f.facts ≡ true → GoesAfter e (as_candidate f)) m.connections (may_go-all (GoesAfter e) m.connections each);
}

-- ---- one less is counted

pub lost-connections : (f : Facts) (m : Machine) → (lost f m).machine.connections ≡ m.connections
lost-connections f m = (lost-quiet f m).connections

-- no more are counted than the hard limit says, the rest is kept, and each move keeps a law
pub record Trimmed (Law : Move → Type 0) (before : Machine) (effect : Effect) : Type 0 where
  pub ordered : IsOrdered effect.machine
  pub settings : effect.machine.settings ≡ before.settings
  pub now : effect.machine.now ≡ before.now
  pub counted : counted_in effect.machine ≤ before.settings.hard
  pub late : late_in effect.machine ≤ late_in before
  -- local peers stay ordinary ones, and peers tied to their connections
  pub classes : LocalsAreOrdinary before → LocalsAreOrdinary effect.machine
  pub ties : IsTied before → IsTied effect.machine
  pub lawful : IsTied before → AllByRecursion Law effect.moves
  pub accounted : Accounts before effect

-- where each move keeps it while peers are tied to their connections
pub tied-trimmed : (Law : Move → Type 0) (m : Machine) (effect : Effect) → counted_in m ≤ m.settings.hard → Keeps 0 m effect.machine →
    (IsTied m → AllByRecursion Law effect.moves) → Accounts m effect → Trimmed Law m effect
tied-trimmed Law m effect within h lawful accounted = let few : counted_in effect.machine ≤ m.settings.hard = omega (arith, h.counted, within) in assumption

pub keeps-trimmed : (Law : Move → Type 0) (m : Machine) (effect : Effect) → counted_in m ≤ m.settings.hard → Keeps 0 m effect.machine → Obeys Law m effect →
    Trimmed Law m effect
keeps-trimmed Law m effect within h obeys = tied-trimmed Law m effect within h (λ ties. obeys.lawful) obeys.accounted

-- a connection is ended
pub ending-trimmed : (cause : CloseCause) → IsLost cause → (m : Machine) (e : Entry) (k : ℕ) → IsOrdered m → counted_in m ≤ m.settings.hard →
    StandsAt m.connections k e → is_live e.facts ≡ true → (is_negotiated e.facts ≡ true → IsLateCause cause) → IsPrunedRightly cause e m → Trimmed IsLawful m (ending cause e m)
ending-trimmed cause loses m e k h within s live may crowded =
    keeps-trimmed IsLawful m (ending cause e m) within (ending-keeps cause loses m e k h s) (ending-obeys cause m e k h.orderly s live may crowded)

pub nothing-trimmed : (Law : Move → Type 0) (m : Machine) → counted_in m ≤ m.settings.hard → IsOrdered m → Trimmed Law m (nothing_more m)
nothing-trimmed Law m within h = keeps-trimmed Law m (nothing_more m) within (keeps_nothing m h) (obeys_nothing Law m)

-- what is counted stands open
counted-live : (f : Facts) → is_counted f ≡ true → is_live f ≡ true
counted-live f h = grind arith

pruned-trims : (m : Machine) (e : Entry) (k : ℕ) → IsOrdered m → StandsAt m.connections k e → IsDueToGo e m → Trimmed IsLawful m (ending Pruned e m)
pruned-trims m e k h s due =
    let most = due.crowded in
    let counted = due.counted in
    let keeps : Keeps 0 m (ending Pruned e m).machine = ending-keeps Pruned refl m e k h s in
    let obeys : Obeys IsLawful m (ending Pruned e m) =
    ending-obeys Pruned m e k h.orderly s (counted-live e.facts counted) (λ negotiated. tt) due in
    let counts = gone-counts m e k h.orderly s in
    let lost_ = ap (λ es. counted_in (record m { connections = es })) (lost-connections e.facts (without_entry e.facts.cid.0 m)) in
    let one : counted_of e ≡ 1 = one_if-counted e.facts counted in
    let few : counted_in (ending Pruned e m).machine ≤ m.settings.hard = omega (arith, counts.counted, lost_, one, most) in
    assumption (keeps, obeys)

-- the connection that moved stands, and is counted
pub record HasMoved (moved : Cid) (m : Machine) : Type 0 where
  pub entry : Entry
  pub place : ℕ
  pub stands : StandsAt m.connections place entry
  pub same : entry.facts.cid ≡ moved
  pub counted : is_counted entry.facts ≡ true

pub found_by_id : (m : Machine) (e : Entry) (k : ℕ) (cid : Cid) → IsOrderly m → StandsAt m.connections k e → e.facts.cid ≡ cid →
    entry_at cid.0 m ≡ Some e
found_by_id m e k cid h s same =
    find_only (λ x. has_id cid.0 x.facts) e m.connections k (one_has_id cid.0 m.connections h.ids_rise) s
    (eq-eqb e.facts.cid.0 cid.0 (ap (λ c. c.0) same))

pub trim-trims : (moved : Cid) (m : Machine) → IsOrdered m → counted_in m ≤ m.settings.hard + 1 →
    (m.settings.hard < counted_in m → HasMoved moved m) → Trimmed IsLawful m (trim moved m)
trim-trims moved m h most over = cond_both (nat_le (counted_in m) m.settings.hard) _ _ (λ (effect : Effect). Trimmed IsLawful m effect)
    (λ within. nothing-trimmed IsLawful m (leb-true (counted_in m) m.settings.hard within) h)
    (λ above. let more : m.settings.hard < counted_in m = leb-false (counted_in m) m.settings.hard above in
    by_choice (omega (arith, most, more)) (first_to_go (candidates_in m)) refl (over more))
  where
    by_choice : counted_in m ≡ m.settings.hard + 1 → (o : Option Candidate) → first_to_go (candidates_in m) ≡ o → HasMoved moved m →
        Trimmed IsLawful m (on_entry (entry_at (unwrap_or (option_map (λ c. c.cid) (first_to_go (candidates_in m))) moved).0 m) (ending Pruned) m)
    by_choice one_more None none own =
        rw (none, found_by_id m own.entry own.place moved h.orderly own.stands own.same)
        (pruned-trims m own.entry own.place h own.stands
        -- where nobody may go, whoever does is first
        (due-after own.entry m own.counted one_more (subst (AllByRecursion (GoesAfter own.entry)) (sym (choice_law m None none)) tt)))
    by_choice one_more (Some c) some own =
        let goes : Goes m.connections c = goes_among m.connections c some in
        rw (some, found_by_id m goes.entry goes.place c.cid h.orderly goes.stands goes.facts.same)
        (pruned-trims m goes.entry goes.place h goes.stands
        (due-after goes.entry m goes.facts.counted one_more (all-weaker (λ d. goes_before d c ≡ false) (GoesAfter goes.entry)
        (λ d after. (goes.facts.may, subst (λ x. goes_before d x ≡ false) (sym goes.facts.ranked) after)) (candidates_in m)
        (recursion_from_All (λ d. goes_before d c ≡ false) (candidates_in m) (choice_law m (Some c) some).1))))

-- ---- who is in local use stays

pruned-used : (q : Entry → Bool) → ((x : Entry) → x.facts.local ≡ false → q x ≡ false) → (m : Machine) (e : Entry) (k : ℕ) → IsOrderly m →
    StandsAt m.connections k e → e.facts.local ≡ false → find q (ending Pruned e m).machine.connections ≡ find q m.connections
pruned-used q only m e k h s unused = grind (arith, lost-connections e.facts (without_entry e.facts.cid.0 m), gone-connections m e k h s, find-remove_other q e m.connections k s (only e unused))

pub trim-used : (q : Entry → Bool) → ((x : Entry) → x.facts.local ≡ false → q x ≡ false) → (moved : Cid) (m : Machine) (e : Entry) (k : ℕ) → IsOrderly m →
    StandsAt m.connections k e → e.facts.cid ≡ moved → e.facts.local ≡ false → find q (trim moved m).machine.connections ≡ find q m.connections
trim-used q only moved m e k h s same unused = cond_both (nat_le (counted_in m) m.settings.hard) _ _ (λ (effect : Effect). find q effect.machine.connections ≡ find q m.connections)
    (λ within. refl) (λ above. by_option (first_to_go (candidates_in m))
    (λ o. find q (on_entry (entry_at (unwrap_or (option_map (λ c. c.cid) (first_to_go (candidates_in m))) moved).0 m) (ending Pruned) m).machine.connections ≡ find q m.connections)
    (λ none. rw (none, found_by_id m e k moved h s same) (pruned-used q only m e k h s unused))
    (λ c some.
    let goes : Goes m.connections c = goes_among m.connections c some in
    rw (some, found_by_id m goes.entry goes.place c.cid h goes.stands goes.facts.same) (pruned-used q only m goes.entry goes.place h goes.stands goes.facts.unused)))

-- ---- one part after another

-- the limit stands after it as before it
pub trimmed-within : (Law : Move → Type 0) (m : Machine) (effect : Effect) → Trimmed Law m effect → counted_in effect.machine ≤ effect.machine.settings.hard
trimmed-within Law m effect h = subst (λ s. counted_in effect.machine ≤ s.hard) (sym h.settings) h.counted

-- what keeps the rest, and what is trimmed after it
keeps_then_trimmed : (raised : ℕ) (Law : Move → Type 0) (m : Machine) (first : Effect) (next : Machine → Effect) → Keeps raised m first.machine →
    (IsTied m → AllByRecursion Law first.moves) → Accounts m first → Trimmed Law first.machine (next first.machine) → Trimmed Law m (then_do first next)
keeps_then_trimmed raised Law m first next kept lawful accounted trimmed =
    let second : Effect = next first.machine in
    record {
      ordered = trimmed.ordered;
      settings = trimmed.settings ∙ kept.settings;
      now = trimmed.now ∙ kept.now;
      counted = subst (λ s. counted_in second.machine ≤ s.hard) kept.settings trimmed.counted;
      late = omega (arith, trimmed.late, kept.late);
      classes = λ h. trimmed.classes (kept.classes h);
      ties = λ h. trimmed.ties (kept.ties h);
      lawful = λ h. all-appended Law first.moves second.moves (lawful h) (trimmed.lawful (kept.ties h));
      accounted = accounts_then m first next accounted trimmed.accounted;
    }

pub trimmed_then : (Law : Move → Type 0) (m : Machine) (first : Effect) (next : Machine → Effect) → Trimmed Law m first →
    Trimmed Law first.machine (next first.machine) → Trimmed Law m (then_do first next)
trimmed_then Law m first next one two =
    let few : counted_in first.machine ≤ counted_in m + m.settings.hard = omega (arith, one.counted) in
    keeps_then_trimmed m.settings.hard Law m first next (assumption) one.lawful one.accounted two

-- one more may be counted, and is trimmed
pub raised_then_trimmed : (Law : Move → Type 0) (m : Machine) (first : Effect) (next : Machine → Effect) → Keeps 1 m first.machine → Obeys Law m first →
    Trimmed Law first.machine (next first.machine) → Trimmed Law m (then_do first next)
raised_then_trimmed Law m first next raised obeys trimmed = keeps_then_trimmed 1 Law m first next raised (λ ties. obeys.lawful) obeys.accounted trimmed

-- the part as a whole is a move
pub as_move-trimmed : (Law : Move → Type 0) (happened : Happened) (m : Machine) (effect : Effect) → ended_by happened ≡ [] →
    promoted_by_dial happened m.next_id effect.machine.next_id ≡ [] → Trimmed Law m effect →
    (IsTied m → Law (record { happened = happened; before = m; after = effect.machine })) → Trimmed Law m (as_move happened m effect)
as_move-trimmed Law happened m effect no_end no_dial h law =
    let move : Move = record { happened = happened; before = m; after = effect.machine } in
    let lawful : IsTied m → AllByRecursion Law (effect.moves ++ move ∷ []) = λ ties. all-appended Law effect.moves (move ∷ []) (h.lawful ties) (law ties, tt) in
    let accounted : Accounts m (as_move happened m effect) = accounts_move happened m effect no_end no_dial h.accounted in
    assumption

-- one part for each of a list, which may need something of each
pub for_each_that-trimmed : {X : Type 0} (Law : Move → Type 0) (P : Settings → X → Type 0) (act : X → Machine → Effect) →
    ((x : X) (m : Machine) → IsOrdered m → counted_in m ≤ m.settings.hard → P m.settings x → Trimmed Law m (act x m)) →
    (xs : List X) (m : Machine) → IsOrdered m → counted_in m ≤ m.settings.hard → All (P m.settings) xs → Trimmed Law m (for_each act xs m)
unfolding for_each
for_each_that-trimmed Law P act each [] m h within all = nothing-trimmed Law m within h
for_each_that-trimmed Law P act each (x ∷ xs) m h within all =
    let first : Trimmed Law m (act x m) = each x m h within (All-head (P m.settings) x xs all) in
    trimmed_then Law m (act x m) (for_each act xs) first
    (for_each_that-trimmed Law P act each xs (act x m).machine first.ordered (trimmed-within Law m (act x m) first)
    (subst (λ s. All (P s) xs) (sym first.settings) (All-tail (P m.settings) x xs all)))

-- every move keeps another law that the first one and a second one give
pub trimmed_both : (P Q R : Move → Type 0) → ((move : Move) → P move → Q move → R move) → (m : Machine) (effect : Effect) → Trimmed P m effect →
    AllByRecursion Q effect.moves → Trimmed R m effect
trimmed_both P Q R gives m effect h also = grind (arith, all-both)
