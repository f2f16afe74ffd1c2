-- What each move adds to the counts of the record: counted connections and late deadlines.
use Rattle.std.proofs.Common.{ℕ, ◌+◌, ◌≤◌, ◌≡◌, Bool, true, false, cond, not, ◌==◌, nat_le, nat_lt, List, [], ◌∷◌, ◌++◌, map, filter, count_by, refl, arith}
use Rattle.laws.proofs.Words.{lt-leb, map-append, sum_by-append, sum_by-cons}
use Rattle.laws.specs.Words.{Agreed, Cid, Facts, ForRemote, ForLocal, Greeting, is_counted, connected, agreed_outbound, acquired, is_outbound, is_greeting, is_negotiated, some_runs, phase_deadlines, grace_deadlines, reply_deadline, Entry, Owed, with_reply, without_reply}
use Rattle.laws.proofs.Counts.{one_if_counted, is_late, late_of, late_of-parts, grace_late_of}

-- ---- counted connections

pub at_most_one : (f : Facts) → one_if_counted f ≤ 1
at_most_one f = grind arith

pub one_if-counted : (f : Facts) → is_counted f ≡ true → one_if_counted f ≡ 1
one_if-counted f h = rw h refl

pub one_if-not_counted : (f : Facts) → is_counted f ≡ false → one_if_counted f ≡ 0
one_if-not_counted f h = rw h refl

pub counted-connected : (until : ℕ) (f : Facts) → is_outbound f ≡ true → is_counted (connected until f) ≡ false
counted-connected until f outbound = rw outbound refl

pub counted-greeting : (f : Facts) → is_greeting f ≡ true → is_outbound f ≡ false → is_counted f ≡ true
counted-greeting f greets inbound = rw (greets, inbound) refl

pub counted-agreed_outbound : (agreed : Agreed) (until : ℕ) (f : Facts) → is_outbound f ≡ true → some_runs f.running ≡ false →
    is_counted (agreed_outbound agreed until f) ≡ false
counted-agreed_outbound agreed until f outbound none = rw (outbound, none) refl

pub counted-acquired : (f : Facts) → is_counted (acquired f) ≡ true → is_counted f ≡ true
counted-acquired f h = grind (arith, h)

pub fewer-acquired : (f : Facts) → one_if_counted (acquired f) ≤ one_if_counted f
fewer-acquired f = grind (arith, counted-acquired f)

pub counted-running : (f : Facts) → is_negotiated f ≡ true → some_runs f.running ≡ true → is_counted f ≡ true
counted-running f negotiated runs = grind (arith, negotiated, runs)

-- ---- late deadlines

abbrev pub phase_late_of : ℕ → Entry → ℕ
phase_late_of now e = count_by (is_late now) (phase_deadlines e.facts.cid e.facts.phase)

abbrev pub owed_late : ℕ → Cid → List Owed → ℕ
owed_late now cid owed = count_by (is_late now) (map (reply_deadline cid) owed)

-- none is late more than before, where that is so of each part
pub late-fewer : (now : ℕ) (old new : Entry) → phase_late_of now new ≤ phase_late_of now old →
    grace_late_of now new ≤ grace_late_of now old → owed_late now new.facts.cid new.owed ≤ owed_late now old.facts.cid old.owed →
    late_of now new ≤ late_of now old
late-fewer now old new phase grace owed = grind (arith, late_of-parts now new, late_of-parts now old)

pub ahead : (now wait : ℕ) → 1 ≤ wait → nat_le (now + wait) now ≡ false
ahead now wait some = lt-leb (now + wait) now (omega arith)

pub phase-ahead : (now until : ℕ) (cid : Cid) → nat_le until now ≡ false → count_by (is_late now) (phase_deadlines cid (Greeting until)) ≡ 0
phase-ahead now until cid h = rw h refl

pub remote-ahead : (now until : ℕ) (cid : Cid) → nat_le until now ≡ false → count_by (is_late now) (grace_deadlines cid (ForRemote until)) ≡ 0
remote-ahead now until cid h = rw h refl

pub local-ahead : (now until : ℕ) (cid : Cid) → nat_le until now ≡ false → count_by (is_late now) (grace_deadlines cid (ForLocal until)) ≡ 0
local-ahead now until cid h = rw h refl

-- of two kinds of replies that exclude each other no more are late than of all
abbrev one_late : ℕ → Cid → Owed → ℕ
one_late now cid o = cond (is_late now (reply_deadline cid o)) 1 0

owed-cons : (now : ℕ) (cid : Cid) (o : Owed) (owed : List Owed) → owed_late now cid (o ∷ owed) ≡ one_late now cid o + owed_late now cid owed
owed-cons now cid o owed = sum_by-cons (λ d. cond (is_late now d) 1 0) (reply_deadline cid o) (map (reply_deadline cid) owed)

filters-fewer : (now : ℕ) (cid : Cid) (f g : Owed → Bool) → ((o : Owed) → f o ≡ true → g o ≡ false) → (owed : List Owed) →
    owed_late now cid (filter f owed) + owed_late now cid (filter g owed) ≤ owed_late now cid owed
filters-fewer now cid f g apart [] = omega arith
filters-fewer now cid f g apart (o ∷ owed) = grind (arith, owed-cons now cid o owed, owed-cons now cid o (filter f owed), owed-cons now cid o (filter g owed), filters-fewer now cid f g apart owed)

pub paid-fewer : (now protocol : ℕ) (cid : Cid) (owed : List Owed) → owed_late now cid (without_reply protocol owed) ≤ owed_late now cid owed
paid-fewer now protocol cid owed =
    let both = filters-fewer now cid (λ o. not (o.protocol == protocol)) (λ o. false) (λ o h. refl) owed in omega (arith, both)

owed-append : (now : ℕ) (cid : Cid) (xs ys : List Owed) → owed_late now cid (xs ++ ys) ≡ owed_late now cid xs + owed_late now cid ys
owed-append now cid xs ys = grind (arith, is_late, map-append, sum_by-append)

-- a reply that is owed from now on is not late
pub owing-fewer : (now : ℕ) (cid : Cid) (new : Owed) (owed : List Owed) → nat_le new.until now ≡ false →
    owed_late now cid (with_reply new owed) ≤ owed_late now cid owed
owing-fewer now cid new owed later =
    let before : List Owed = filter (λ o. nat_lt o.protocol new.protocol) owed in
    let behind : List Owed = filter (λ o. nat_lt new.protocol o.protocol) owed in
    let apart = filters-fewer now cid (λ o. nat_lt o.protocol new.protocol) (λ o. nat_lt new.protocol o.protocol)
    (λ o h. grind (arith, h)) owed in
    let split : owed_late now cid (before ++ new ∷ behind) ≡ owed_late now cid before + owed_late now cid (new ∷ behind) =
    owed-append now cid before (new ∷ behind) in
    let first = owed-cons now cid new behind in
    let none : one_late now cid new ≡ 0 = rw later refl in
    omega (arith, apart, split, first, none)
