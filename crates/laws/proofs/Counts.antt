-- What a connection adds to the counts of the record: whether the limits count it, and how many of its deadlines
-- are late.
use Rattle.std.proofs.Common.{ℕ, ◌+◌, ◌≤◌, ◌≡◌, Bool, true, false, cond, map, sum_by, count_by, nat_le, arith}
use Rattle.laws.proofs.Words.{lt-leb, sum_by-append}
use Rattle.laws.specs.Words.{Facts, Deadline, is_counted, expired, closing, Machine, Entry, counted_in, closing_entry, deadlines, deadlines_of, phase_deadlines, grace_deadlines, reply_deadline}
use Rattle.laws.proofs.Lists.{sum_by-map, sum_by-flat_map}

-- 1 where the limits count it
abbrev pub one_if_counted : Facts → ℕ
one_if_counted f = cond (is_counted f) 1 0

abbrev pub counted_of : Entry → ℕ
counted_of e = one_if_counted e.facts

pub counted_in-sum : (m : Machine) → counted_in m ≡ sum_by counted_of m.connections
counted_in-sum m = sum_by-map one_if_counted (λ e. e.facts) m.connections

-- at most a moment
abbrev pub is_late : ℕ → Deadline → Bool
is_late now d = nat_le d.at now

abbrev pub late_of : ℕ → Entry → ℕ
late_of now e = count_by (is_late now) (deadlines_of e)

-- how many deadlines of the record are at most its moment
abbrev pub late_in : Machine → ℕ
late_in m = count_by (is_late m.now) (deadlines m)

pub late_in-sum : (m : Machine) → late_in m ≡ sum_by (late_of m.now) m.connections
late_in-sum m = sum_by-flat_map (λ d. cond (is_late m.now d) 1 0) deadlines_of m.connections

pub late_of-parts : (now : ℕ) (e : Entry) → late_of now e ≡
    count_by (is_late now) (phase_deadlines e.facts.cid e.facts.phase)
    + count_by (is_late now) (grace_deadlines e.facts.cid e.facts.grace)
    + count_by (is_late now) (map (reply_deadline e.facts.cid) e.owed)
late_of-parts now e = grind (arith, sum_by-append)

-- A grace that is over makes no difference to a connection in local use.
pub counted-expired : (f : Facts) → f.local ≡ true → is_counted (expired f) ≡ is_counted f
counted-expired f in_use = grind (arith, in_use)

-- A connection that this side has closed isn't counted.
pub counted-closing : (until : ℕ) (f : Facts) → is_counted (closing until f) ≡ false
counted-closing until f = grind arith

abbrev pub grace_late_of : ℕ → Entry → ℕ
grace_late_of now e = count_by (is_late now) (grace_deadlines e.facts.cid e.facts.grace)

-- the deadlines of a grace that is over are gone
pub late-expired : (now : ℕ) (e : Entry) →
    late_of now (record e { facts = expired e.facts }) + grace_late_of now e ≡ late_of now e
late-expired now e =
    let after = late_of-parts now (record e { facts = expired e.facts }) in
    let before = late_of-parts now e in
    omega (arith, after, before)

-- the time-wait of a connection that this side closes is yet to come
pub late-closing : (m : Machine) (e : Entry) → 1 ≤ m.settings.timewait →
    late_of m.now (closing_entry m e) + grace_late_of m.now e ≤ late_of m.now e
late-closing m e positive = grind (arith, late_of-parts m.now (closing_entry m e), late_of-parts m.now e, lt-leb)
