-- The deadlines that are due fire, and none is left.
use Rattle.std.proofs.Common.{ℕ, zero, suc, ◌≤◌, ◌≡◌, true, false, List, [], ◌∷◌, ◌++◌, length, map, filter, flat_map, count_by, Some, None, All, Contains, refl, sym, ap, ◌∙◌, subst, ⊎_elim, arith, eq-eqb}
use Rattle.laws.proofs.Words.{cond_both, nil_from_length, All-nil, All-cons, All-append, All-map, All-filter, All-contains, All-contains_itself, filter_passes, Contains-append_cases, Contains-append_right, length-filter, get_or-le-sum_by, count_by-le-length}
use Rattle.laws.specs.Words.{Grace, ForRemote, ForLocal, Phase, Greeting, Closing, Fault, HandshakeWait, ReplyWait, Deadline, Kind, Handshake, TimeWait, Reply2, Reply8, Reply10, deadline_before, is_live, has_id, Machine, Entry, entry_at, deadlines, deadlines_of, phase_deadlines, grace_deadlines, reply_kind, reply_deadline, due, fires_as, fires, fires_some, fire_due, fire_all, timer, earlier, least, on_entry}
use Rattle.net_base.specs.declared.timer.Kind.TheVariants.{Grace as GraceKind}
use Rattle.laws.specs.Sound.{IsOrderly}
use Rattle.laws.proofs.Lists.{StandsAt, stands_next, find_some, find_only}
use Rattle.laws.proofs.Entries.{one_has_id}
use Rattle.laws.proofs.Counts.{is_late, late_of, late_in, grace_late_of}
use Rattle.laws.proofs.Moves.{Lowers, lowers_nothing, lowers_then, lowers_less, ending-lowers, grace_over-lowers, wait_over-lowers}
use Rattle.laws.proofs.Cases.{by_option}

-- how many late deadlines of a connection are gone once one of a kind has fired
abbrev pub fired_of : Kind → ℕ → Entry → ℕ
fired_of GraceKind = grace_late_of
fired_of other = late_of

pub fires_as-lowers : (kind : Kind) (m : Machine) (e : Entry) (k : ℕ) → IsOrderly m → StandsAt m.connections k e →
    Lowers (fired_of kind m.now e) m (fires_as kind e m).machine
fires_as-lowers Handshake = ending-lowers (Fault HandshakeWait)
fires_as-lowers GraceKind = grace_over-lowers
fires_as-lowers TimeWait = wait_over-lowers
fires_as-lowers other = ending-lowers (Fault ReplyWait)

-- whatever deadline fires
pub fires-lowers : (d : Deadline) (m : Machine) → IsOrderly m → Lowers 0 m (fires d m).machine
fires-lowers d m h =
    let each = λ (entry : Entry) (e : entry_at d.cid.0 m ≡ Some entry).
    (let found = find_some (λ x. has_id d.cid.0 x.facts) m.connections entry e in
    lowers_less 0 (fired_of d.kind m.now entry) m (fires_as d.kind entry m).machine (omega arith) (fires_as-lowers d.kind m entry found.place h found.stands)) in
    grind (arith, lowers_nothing m h, each)

pub fire_due-lowers : (n : ℕ) (m : Machine) → IsOrderly m → Lowers 0 m (fire_due n m).machine
unfolding fire_due
fire_due-lowers zero m h = lowers_nothing m h
fire_due-lowers (suc n) m h = by_option (due m)
    (λ o. ((w : Machine) → IsOrderly w → Lowers 0 w (fire_due n w).machine) → Lowers 0 m (fires_some o (fire_due n) m).machine)
    (λ is later. lowers_nothing m h)
    (λ d is later.
    let first : Lowers 0 m (fires d m).machine = fires-lowers d m h in
    lowers_then 0 0 m (fires d m).machine (fire_due n (fires d m).machine).machine first
    (later (fires d m).machine first.orderly)) (fire_due-lowers n)

-- The deadline that fires is one of the record, and late.

pub contains_first : {X : Type 0} (x : X) (xs : List X) → Contains (x ∷ xs) x
contains_first x xs = (0, omega arith, refl)

least-contains : (ds : List Deadline) (d : Deadline) → least ds ≡ Some d → Contains ds d
least-contains [] d e = absurd cc
least-contains (x ∷ xs) d e = by_option (least xs)
    (λ o. ((y : Deadline) → o ≡ Some y → Contains xs y) → Some (earlier x o) ≡ Some d → Contains (x ∷ xs) d)
    (λ is later same. subst (Contains (x ∷ xs)) (let is : x ≡ d = cc in is) (contains_first x xs))
    (λ y is later same.
    let is : earlier x (Some y) ≡ d = cc in
    subst (Contains (x ∷ xs)) is
    (cond_both (deadline_before y x) y x (Contains (x ∷ xs)) (λ before. Contains-append_right (x ∷ []) xs y (later y refl))
    (λ after. contains_first x xs))) (least-contains xs) e

pub least-none : (ds : List Deadline) → least ds ≡ None → ds ≡ []
least-none [] e = refl
least-none (x ∷ xs) e = absurd cc

-- a deadline that one of the connections has
record Has (es : List Entry) (d : Deadline) : Type 0 where
  owner : Entry
  place : ℕ
  stands : StandsAt es place owner
  among : Contains (deadlines_of owner) d

has-contains : (es : List Entry) (d : Deadline) → Contains (flat_map deadlines_of es) d → Has es d
has-contains [] d c = absurd (omega (arith, c.1))
has-contains (e ∷ es) d c = ⊎_elim
    (λ among. record { owner = e; place = 0; stands = record { inside = omega arith; is = refl }; among = among })
    (λ later. let h : Has es d = has-contains es d later in
    record { owner = h.owner; place = suc h.place; stands = stands_next e h.owner es h.place h.stands; among = h.among })
    (Contains-append_cases (deadlines_of e) (flat_map deadlines_of es) d c)

pub all_one : {X : Type 0} (P : X → Type 0) (x : X) → P x → All P (x ∷ [])
all_one P x h = All-cons P x [] h (All-nil P)

-- what every deadline of a connection has, by what it waits for
pub deadlines-by : (P : Deadline → Type 0) (e : Entry) → ((until : ℕ) → e.facts.phase ≡ Greeting until → P (timer e.facts.cid Handshake until)) →
    ((until : ℕ) → e.facts.phase ≡ Closing until → P (timer e.facts.cid TimeWait until)) →
    ((until : ℕ) → e.facts.grace ≡ ForRemote until → P (timer e.facts.cid GraceKind until)) →
    ((until : ℕ) → e.facts.grace ≡ ForLocal until → P (timer e.facts.cid GraceKind until)) →
    All (λ owed. P (reply_deadline e.facts.cid owed)) e.owed → All P (deadlines_of e)
deadlines-by P e greets closes for_remote for_local owed =
    let opening = phase_deadlines e.facts.cid e.facts.phase in
    let unused = grace_deadlines e.facts.cid e.facts.grace in
    All-append P (opening ++ unused) (map (reply_deadline e.facts.cid) e.owed) (All-append P opening unused (by_phase e.facts.phase refl) (by_grace e.facts.grace refl))
    (All-map P (reply_deadline e.facts.cid) e.owed owed)
  where
    by_phase : (p : Phase) → e.facts.phase ≡ p → All P (phase_deadlines e.facts.cid p)
    by_phase p is = grind arith

    by_grace : (g : Grace) → e.facts.grace ≡ g → All P (grace_deadlines e.facts.cid g)
    by_grace g is = grind arith

-- one that is owed waits for a reply
pub reply_kind-cases : (P : Kind → Type 0) → P Reply2 → P Reply8 → P Reply10 → (protocol : ℕ) → P (reply_kind protocol)
reply_kind-cases P on_2 on_8 on_10 protocol = grind arith

-- Only a grace has a deadline of its kind.
pub grace-among : (e : Entry) (d : Deadline) → Contains (deadlines_of e) d → d.kind ≡ GraceKind →
    Contains (grace_deadlines e.facts.cid e.facts.grace) d
grace-among e d among = All-contains OfGrace (deadlines_of e) d (deadlines-by OfGrace e (λ until is same. absurd cc) (λ until is same. absurd cc)
    (λ until is same. grind (arith, is, contains_first (timer e.facts.cid GraceKind until) []))
    (λ until is same. grind (arith, is, contains_first (timer e.facts.cid GraceKind until) []))
    (λ k owed inside. grind (arith, reply_kind))) among
  where
    OfGrace : Deadline → Type 0
    OfGrace x = x.kind ≡ GraceKind → Contains (grace_deadlines e.facts.cid e.facts.grace) x

-- a late one among some is counted
late-counted : (now : ℕ) (ds : List Deadline) (d : Deadline) → Contains ds d → is_late now d ≡ true →
    1 ≤ count_by (is_late now) ds
late-counted now ds d c late = grind (arith, is_late, get_or-le-sum_by)

-- a late deadline of a connection is gone once it has fired
fired_of-positive : (now : ℕ) (e : Entry) (d : Deadline) → Contains (deadlines_of e) d → is_late now d ≡ true →
    1 ≤ fired_of d.kind now e
fired_of-positive now e d c late =
    grind (arith, late-counted now (deadlines_of e) d c late, grace-among e d c, late-counted now (grace_deadlines e.facts.cid e.facts.grace) d)

-- the deadline that fires next is late, and stands among those of the record
pub due-contains : (m : Machine) (d : Deadline) → due m ≡ Some d → Contains (deadlines m) d × (is_late m.now d ≡ true)
due-contains m d e =
    let late : List Deadline = filter (is_late m.now) (deadlines m) in
    let among : Contains late d = least-contains late d e in (
      All-contains (Contains (deadlines m)) late d
          (All-filter (is_late m.now) (Contains (deadlines m)) (deadlines m) (All-contains_itself (deadlines m))) among,
      All-contains (λ x. is_late m.now x ≡ true) late d (filter_passes (is_late m.now) (deadlines m)) among,
    )

-- the connection whose deadline fires next
pub record Due (m : Machine) (d : Deadline) : Type 0 where
  pub owner : Entry
  pub place : ℕ
  pub stands : StandsAt m.connections place owner
  pub found : entry_at d.cid.0 m ≡ Some owner
  pub waits : d.kind ≡ TimeWait → is_live owner.facts ≡ false
  pub among : Contains (deadlines_of owner) d
  pub late : is_late m.now d ≡ true

pub due_of : (m : Machine) (d : Deadline) → IsOrderly m → due m ≡ Some d → Due m d
due_of m d h e =
    let known = due-contains m d e in
    let has : Has m.connections d = has-contains m.connections d known.0 in
    let owner : Entry = has.owner in
    let id : d.cid ≡ owner.facts.cid =
    All-contains (λ x. x.cid ≡ owner.facts.cid) (deadlines_of owner) d
    (deadlines-by (λ x. x.cid ≡ owner.facts.cid) owner (λ until is. refl) (λ until is. refl) (λ until is. refl) (λ until is. refl) (λ k x inside. refl)) has.among in
    record {
      among = has.among;
      late = known.1;
      owner = owner;
      place = has.place;
      stands = has.stands;
      found = find_only (λ x. has_id d.cid.0 x.facts) owner m.connections has.place
          (one_has_id d.cid.0 m.connections h.ids_rise) has.stands
          (eq-eqb owner.facts.cid.0 d.cid.0 (sym (ap (λ cid. cid.0) id)));
      -- only a connection that this side has closed has a time-wait
      waits = All-contains (λ x. x.kind ≡ TimeWait → is_live owner.facts ≡ false) (deadlines_of owner) d
          (deadlines-by (λ x. x.kind ≡ TimeWait → is_live owner.facts ≡ false) owner (λ until is. grind arith) (λ until is. grind arith)
          (λ until is. grind arith) (λ until is. grind arith) (λ k x inside. grind (arith, reply_kind))) has.among;
    }

-- The deadline that fires next leaves fewer that are late.
pub due-lowers : (m : Machine) (d : Deadline) → IsOrderly m → due m ≡ Some d → Lowers 1 m (fires d m).machine
due-lowers m d h e =
    let next : Due m d = due_of m d h e in
    subst (λ o. Lowers 1 m (on_entry o (fires_as d.kind) m).machine) (sym next.found)
    (lowers_less 1 (fired_of d.kind m.now next.owner) m (fires_as d.kind next.owner m).machine
    (fired_of-positive m.now next.owner d next.among next.late)
    (fires_as-lowers d.kind m next.owner next.place h next.stands))

-- So many may fire as are late, and then none is.
pub fire_due-all : (n : ℕ) (m : Machine) → IsOrderly m → late_in m ≤ n → late_in (fire_due n m).machine ≡ 0
unfolding fire_due
fire_due-all zero m h enough = omega arith
fire_due-all (suc n) m h enough = by_option (due m)
    (λ o. ((w : Machine) → IsOrderly w → late_in w ≤ n → late_in (fire_due n w).machine ≡ 0) → late_in (fires_some o (fire_due n) m).machine ≡ 0)
    -- where no deadline is to fire, none is late
    (λ e later. sym (length-filter (is_late m.now) (deadlines m)) ∙ ap length (least-none (filter (is_late m.now) (deadlines m)) e))
    (λ d e later.
    let first : Lowers 1 m (fires d m).machine = due-lowers m d h e in
    later (fires d m).machine first.orderly (omega arith)) (fire_due-all n)

-- The number of deadlines suffices.
pub fire_all-none_late : (m : Machine) → IsOrderly m → late_in (fire_all m).machine ≡ 0
fire_all-none_late m h = fire_due-all (length (deadlines m)) m h (count_by-le-length (is_late m.now) (deadlines m))

pub fire_all-none_due : (m : Machine) → IsOrderly m → due (fire_all m).machine ≡ None
fire_all-none_due m h =
    let n : Machine = (fire_all m).machine in
    ap least (nil_from_length (filter (is_late n.now) (deadlines n)) (length-filter (is_late n.now) (deadlines n) ∙ fire_all-none_late m h))

pub fire_all-lowers : (m : Machine) → IsOrderly m → Lowers 0 m (fire_all m).machine
fire_all-lowers m = fire_due-lowers (length (deadlines m)) m
