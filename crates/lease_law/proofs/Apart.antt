-- Leases that are apart stay so after each call.
use Rattle.std.proofs.Common.{◌≡◌, ℕ, ◌+◌, ◌==◌, not, Bool, true, false, List, [], ◌∷◌, ◌++◌, Option, Some, None, IsSomeAnd, refl, sym, subst, ap, ◌∙◌, inl, inr, ◌⊎◌, arith}
use Rattle.std.specs.List.{AllByRecursion}
use Rattle.std.specs.Option.{option_map}
use Rattle.std.proofs.lemmas.Bool.{cases_Bool, true≢false, false≢true, and_parts}
use Rattle.std.proofs.lemmas.Bool.Decides.{nat_tests}
use Rattle.net_base.specs.declared.address.Addr.{Addr}
use Rattle.net_base.specs.declared.connection.Agreed.{Agreed}
use Rattle.net_base.specs.declared.connection.Facts.{Facts}
use Rattle.net_base.specs.declared.connection.Phase.{Phase}
use Rattle.net_base.specs.declared.connection.Phase.TheVariants as phase
use Rattle.net_base.specs.declared.settings.Settings.{Settings}
use Rattle.conn_state.specs.Moves.{accepted, dialing, acquired}
use Rattle.conn_table.specs.Choices.{negotiated}
use Rattle.conn_state.specs.Use.{has_id, facts_at, live_at, is_acquirable, is_outbound, is_negotiated, is_negotiated_phase, is_dialing_phase, is_greeting_phase, is_dialing, is_greeting}
use Rattle.conn_table.specs.Answers.{acquire_of, acquire_answer, after_acquire, lease_of}
use Rattle.conn_table.specs.Calls.{lease_at}
use Rattle.conn_table.specs.Conditions.{after_step}
use Rattle.conn_table.specs.Table.{IdsRise, moved_at, without_at, with_moved, without}
use Rattle.conn_table.specs.declared.step.Step.{Step}
use Rattle.conn_table.specs.declared.step.Step.TheVariants as step
use Rattle.conn_table.proofs.IdPlaces.{IdsRise-push, IdsRise-moved, IdsRise-filter, found_id}
use Rattle.conn_table.proofs.StateFacts.{some_with, step_keeps}
use Rattle.lease_law.specs.Leases.{Held, Call, at_first, Admit, Dial, Connect, Negotiate, AcquireAt, Release, Awake, Idle, GraceOver, DropConn, DropLeased, Forget, CanCall, CanRun, after_call, after_run, TableAsks, GivesHeld, with_lease, lease_given, given_back, AreDistinct, AreApart}
use Rattle.lease_law.proofs.Found.{turned, found-moved, found-without, found-gone, found-push, found_in_push, live_by_id}

-- in words of the list alone
abbrev IsUsed : List Facts → ℕ → Type 0
IsUsed fs lease = IsSomeAnd (facts_at lease fs) (λ f. f.local ≡ true)

-- local use begins when the handshake is over
abbrev LocalWhenOpen : List Facts → Type 0
LocalWhenOpen fs = (cid : ℕ) (f : Facts) → facts_at cid fs ≡ Some f → f.local ≡ true → is_negotiated f ≡ true

pub record Inv (h : Held) : Type 0 where
  pub rises : IdsRise 0 h.table.given h.table.facts
  pub opened : LocalWhenOpen h.table.facts
  pub apart : AreApart h

same_number : (m n : ℕ) → (m == n) ≡ true → m ≡ n
same_number m n h = grind (arith, nat_tests)

-- ---- one connection

keeps_id : (s : Step) (f : Facts) → (after_step s f).cid ≡ f.cid
keeps_id s f = ap (λ p. p.cid) (step_keeps s f)

abbrev ends_use : Step → Bool
ends_use (step.Connected until) = false
ends_use (step.Negotiated agreed until) = false
ends_use step.Acquire = false
ends_use (step.Release until) = true
ends_use (step.Awake protocol) = false
ends_use (step.Idle protocol until) = false
ends_use (step.GraceOver until) = false

-- every move but the release leaves local use as it is, where it is
stays_used : (s : Step) (f : Facts) → ends_use s ≡ false → f.local ≡ true → (after_step s f).local ≡ true
stays_used (step.Connected until) f e used = used
stays_used (step.Negotiated agreed until) f e used = elim (cases_Bool (is_outbound f)) [ inl out ↦ rw out refl | inr inbound ↦ rw inbound used ]
stays_used step.Acquire f e used = refl
stays_used (step.Release until) f e used = absurd (true≢false e)
stays_used (step.Awake protocol) f e used = used
stays_used (step.Idle protocol until) f e used = used
stays_used (step.GraceOver until) f e used = rw used refl

-- what two of the moves need
abbrev IsReady : Step → Facts → Type 0
IsReady (step.Connected until) f = is_dialing f ≡ true
IsReady (step.Negotiated agreed until) f = Unit {0}
IsReady step.Acquire f = is_negotiated f ≡ true
IsReady (step.Release until) f = Unit {0}
IsReady (step.Awake protocol) f = Unit {0}
IsReady (step.Idle protocol until) f = Unit {0}
IsReady (step.GraceOver until) f = Unit {0}

not_both : (p : Phase) → is_dialing_phase p ≡ true → is_negotiated_phase p ≡ true → ⊥
not_both phase.Dialing h k = false≢true k
not_both (phase.Greeting until) h k = false≢true h
not_both phase.Negotiated h k = false≢true h
not_both (phase.Closing until) h k = false≢true h

not_greeting : (p : Phase) → is_greeting_phase p ≡ true → is_negotiated_phase p ≡ true → ⊥
not_greeting phase.Dialing h k = false≢true h
not_greeting (phase.Greeting until) h k = false≢true k
not_greeting phase.Negotiated h k = false≢true h
not_greeting (phase.Closing until) h k = false≢true h

stays_open : (s : Step) (f : Facts) → IsReady s f → (f.local ≡ true → is_negotiated f ≡ true) → (after_step s f).local ≡ true → is_negotiated (after_step s f) ≡ true
stays_open (step.Connected until) f ready opened used = absurd (not_both f.phase ready (opened used))
stays_open (step.Negotiated agreed until) f ready opened used = elim (cases_Bool (is_outbound f)) [ inl out ↦ rw out refl | inr inbound ↦ rw inbound refl ]
stays_open step.Acquire f ready opened used = ready
stays_open (step.Release until) f ready opened used = absurd (false≢true used)
stays_open (step.Awake protocol) f ready opened used = opened used
stays_open (step.Idle protocol until) f ready opened used = opened used
stays_open (step.GraceOver until) f ready opened used = elim (cases_Bool f.local) [
  | inl here ↦ rw here (opened here)
  | inr none ↦ absurd (false≢true (rw none at used))
]

-- ---- a move among the others

is_found : (g f : Facts) → Some g ≡ Some f → g ≡ f
is_found g f e = cc

one_id : (c cid : ℕ) (f : Facts) → f.cid.0 ≡ c → has_id cid f ≡ true → c ≡ cid
one_id c cid f h k = grind (arith, nat_tests)

opened-moved : (s : Step) (cid : ℕ) (fs : List Facts) → ((f : Facts) → facts_at cid fs ≡ Some f → IsReady s f) → LocalWhenOpen fs →
    LocalWhenOpen (moved_at cid (after_step s) fs)
opened-moved s cid fs ready opened c g found used =
    at (facts_at c fs) refl (sym (found-moved c cid (after_step s) fs (keeps_id s)) ∙ found)
  where
    which : (f : Facts) → facts_at c fs ≡ Some f → turned cid (after_step s) f ≡ g → (has_id cid f ≡ true) ⊎ (has_id cid f ≡ false) → is_negotiated g ≡ true
    which f e is (inl here) =
        let after : after_step s f ≡ g = rw here at is in
        let one : c ≡ cid = one_id c cid f (found_id c fs f e) here in
        subst (λ x. is_negotiated x ≡ true) after
        (stays_open s f (ready f (subst (λ n. facts_at n fs ≡ Some f) one e)) (opened c f e) (ap (λ x. x.local) after ∙ used))
    which f e is (inr other) =
        let after : f ≡ g = rw other at is in
        subst (λ x. is_negotiated x ≡ true) after (opened c f e (ap (λ x. x.local) after ∙ used))

    at : (o : Option Facts) → facts_at c fs ≡ o → option_map (turned cid (after_step s)) o ≡ Some g → is_negotiated g ≡ true
    at None e h = cc
    at (Some f) e h = which f e (is_found (turned cid (after_step s) f) g h) (cases_Bool (has_id cid f))

abbrev IsLocal : Facts → Type 0
IsLocal f = f.local ≡ true

used-mapped : (turn : Facts → Facts) (o : Option Facts) → ((f : Facts) → o ≡ Some f → IsLocal f → IsLocal (turn f)) → IsSomeAnd o IsLocal → IsSomeAnd (option_map turn o) IsLocal
used-mapped turn None keeps h = absurd h
used-mapped turn (Some f) keeps h = keeps f refl h

turned_local : (s : Step) (cid : ℕ) (f : Facts) → ends_use s ≡ false → IsLocal f → IsLocal (turned cid (after_step s) f)
turned_local s cid f e h = elim (cases_Bool (has_id cid f)) [ inl here ↦ rw here (stays_used s f e h) | inr other ↦ rw other h ]

used-moved : (s : Step) (cid lease : ℕ) (fs : List Facts) → ends_use s ≡ false → IsUsed fs lease → IsUsed (moved_at cid (after_step s) fs) lease
used-moved s cid lease fs e h =
    subst (λ o. IsSomeAnd o IsLocal) (sym (found-moved lease cid (after_step s) fs (keeps_id s)))
    (used-mapped (turned cid (after_step s)) (facts_at lease fs) (λ f found local. turned_local s cid f e local) h)

not_id : (lease cid : ℕ) (f : Facts) → f.cid.0 ≡ lease → (cid == lease) ≡ false → has_id cid f ≡ false
not_id lease cid f h k = grind (arith, nat_tests)

used-others : (s : Step) (cid lease : ℕ) (fs : List Facts) → (cid == lease) ≡ false → IsUsed fs lease → IsUsed (moved_at cid (after_step s) fs) lease
used-others s cid lease fs apart h =
    subst (λ o. IsSomeAnd o IsLocal) (sym (found-moved lease cid (after_step s) fs (keeps_id s)))
    (used-mapped (turned cid (after_step s)) (facts_at lease fs) (λ f found local. rw (not_id lease cid f (found_id lease fs f found) apart) local) h)

-- ---- all leases

all_from : {P Q : ℕ → Type 0} (leases : List ℕ) → ((lease : ℕ) → P lease → Q lease) → AllByRecursion P leases → AllByRecursion Q leases
all_from [] step h = tt
all_from (lease ∷ leases) step h = (step lease h.0, all_from leases step h.1)

all_both : {P Q R : ℕ → Type 0} (leases : List ℕ) → ((lease : ℕ) → P lease → Q lease → R lease) → AllByRecursion P leases → AllByRecursion Q leases → AllByRecursion R leases
all_both [] step h k = tt
all_both (lease ∷ leases) step h k = (step lease h.0 k.0, all_both leases step h.1 k.1)

all_back : (P : ℕ → Type 0) (lease : ℕ) (leases : List ℕ) → AllByRecursion P leases → AllByRecursion P (given_back lease leases)
all_back P lease [] h = tt
all_back P lease (other ∷ leases) h = elim (cases_Bool (lease == other)) [
  | inl same ↦ rw same h.1
  | inr apart ↦ rw apart (h.0, all_back P lease leases h.1)
]

distinct_back : (lease : ℕ) (leases : List ℕ) → AreDistinct leases → AreDistinct (given_back lease leases)
distinct_back lease [] h = tt
distinct_back lease (other ∷ leases) h = elim (cases_Bool (lease == other)) [
  | inl same ↦ rw same h.1
  | inr apart ↦ rw apart (all_back _ lease leases h.0, distinct_back lease leases h.1)
]

-- a lease that was given back is not out any more
others_left : (lease : ℕ) (leases : List ℕ) → AreDistinct leases → AllByRecursion (λ other. (lease == other) ≡ false) (given_back lease leases)
others_left lease [] h = tt
others_left lease (other ∷ leases) h = elim (cases_Bool (lease == other)) [
  | inl same ↦ rw same (subst (λ n. AllByRecursion (λ d. (n == d) ≡ false) leases) (sym (same_number lease other same)) h.0)
  | inr apart ↦ rw apart (apart, others_left lease leases h.1)
]

-- what isn't in local use has no lease
fresh : (lease : ℕ) (fs : List Facts) (f : Facts) (leases : List ℕ) → facts_at lease fs ≡ Some f → f.local ≡ false → AllByRecursion (IsUsed fs) leases →
    AllByRecursion (λ other. (lease == other) ≡ false) leases
fresh lease fs f [] found unused h = tt
fresh lease fs f (other ∷ leases) found unused h = (new_one (cases_Bool (lease == other)), fresh lease fs f leases found unused h.1)
  where
    used_here : lease ≡ other → IsLocal f
    used_here same = subst (λ o. IsSomeAnd o IsLocal) (subst (λ n. facts_at n fs ≡ Some f) same found) h.0

    new_one : ((lease == other) ≡ true) ⊎ ((lease == other) ≡ false) → (lease == other) ≡ false
    new_one (inr apart) = apart
    new_one (inl same) = absurd (true≢false (sym (used_here (same_number lease other same)) ∙ unused))

-- ---- the calls

moved : (s : Step) (cid : ℕ) (h : Held) → ends_use s ≡ false → ((f : Facts) → facts_at cid h.table.facts ≡ Some f → IsReady s f) → Inv h →
    Inv (record h { table = with_moved cid (after_step s) h.table })
moved s cid h e ready inv = record {
  rises = IdsRise-moved cid 0 h.table.given (after_step s) h.table.facts (keeps_id s) inv.rises;
  opened = opened-moved s cid h.table.facts ready inv.opened;
  apart = record {
    distinct = inv.apart.distinct;
    used = all_from h.leases (λ lease used. used-moved s cid lease h.table.facts e used) inv.apart.used;
  };
}

released_one : (until lease : ℕ) (h : Held) → Inv h →
    Inv (record { table = with_moved lease (after_step (step.Release until)) h.table; leases = given_back lease h.leases })
released_one until lease h inv = record {
  rises = IdsRise-moved lease 0 h.table.given (after_step (step.Release until)) h.table.facts (keeps_id (step.Release until)) inv.rises;
  opened = opened-moved (step.Release until) lease h.table.facts (λ f found. tt) inv.opened;
  apart = record {
    distinct = distinct_back lease h.leases inv.apart.distinct;
    used = all_both (given_back lease h.leases) (λ other apart used. used-others (step.Release until) lease other h.table.facts apart used)
        (others_left lease h.leases inv.apart.distinct) (all_back _ lease h.leases inv.apart.used);
  };
}

forgotten : (lease : ℕ) (h : Held) → Inv h → Inv (record h { leases = given_back lease h.leases })
forgotten lease h inv = record {
  rises = inv.rises;
  opened = inv.opened;
  apart = record { distinct = distinct_back lease h.leases inv.apart.distinct; used = all_back _ lease h.leases inv.apart.used };
}

opened-without : (cid : ℕ) (fs : List Facts) → LocalWhenOpen fs → LocalWhenOpen (without_at cid fs)
opened-without cid fs opened c f found used = at (cases_Bool (cid == c))
  where
    nothing : None ≡ Some f → ⊥
    nothing h = cc

    at : ((cid == c) ≡ true) ⊎ ((cid == c) ≡ false) → is_negotiated f ≡ true
    at (inl same) = absurd (nothing (sym (subst (λ n. facts_at n (without_at cid fs) ≡ None) (same_number cid c same) (found-gone cid fs)) ∙ found))
    at (inr apart) = opened c f (sym (found-without c cid fs apart) ∙ found) used

used-without : (cid lease : ℕ) (fs : List Facts) → (cid == lease) ≡ false → IsUsed fs lease → IsUsed (without_at cid fs) lease
used-without cid lease fs apart used = subst (λ o. IsSomeAnd o IsLocal) (sym (found-without lease cid fs apart)) used

gone : (cid : ℕ) (h : Held) (leases : List ℕ) → AreDistinct leases → AllByRecursion (λ other. (cid == other) ≡ false) leases → AllByRecursion (IsUsed h.table.facts) leases → Inv h →
    Inv (record { table = without cid h.table; leases = leases })
gone cid h leases distinct others used inv = record {
  rises = IdsRise-filter _ 0 h.table.given h.table.facts inv.rises;
  opened = opened-without cid h.table.facts inv.opened;
  apart = record {
    distinct = distinct;
    used = all_both leases (λ other apart u. used-without cid other h.table.facts apart u) others used;
  };
}

entered : (h : Held) (new : Facts) → new.cid.0 ≡ h.table.given + 1 → new.local ≡ false → Inv h →
    Inv (record h { table = record h.table { facts = h.table.facts ++ new ∷ []; given = h.table.given + 1 } })
entered h new next unused inv = record {
  rises = IdsRise-push 0 h.table.given h.table.facts new inv.rises next;
  opened = λ cid f found used. old_or_new cid f used (found_in_push cid h.table.facts new f found);
  apart = record {
    distinct = inv.apart.distinct;
    used = all_from h.leases used_still inv.apart.used;
  };
}
  where
    old_or_new : (cid : ℕ) (f : Facts) → f.local ≡ true → (facts_at cid h.table.facts ≡ Some f) ⊎ (new ≡ f) → is_negotiated f ≡ true
    old_or_new cid f used (inl old) = inv.opened cid f old used
    old_or_new cid f used (inr e) = absurd (true≢false (sym (ap (λ x. x.local) e ∙ used) ∙ unused))

    used_still : (lease : ℕ) → IsUsed h.table.facts lease → IsUsed (h.table.facts ++ new ∷ []) lease
    used_still lease used =
        let found = some_with IsLocal (facts_at lease h.table.facts) used in
        subst (λ o. IsSomeAnd o IsLocal) (sym (found-push lease h.table.facts new found.0 found.1)) found.2

-- a lease that comes, of one that has come into local use
leased : (lease : ℕ) (h : Held) → IsUsed h.table.facts lease → AllByRecursion (λ other. (lease == other) ≡ false) h.leases → Inv h →
    Inv (record h { leases = lease ∷ h.leases })
leased lease h used new inv = record {
  rises = inv.rises;
  opened = inv.opened;
  apart = record { distinct = (new, inv.apart.distinct); used = (used, inv.apart.used) };
}

-- the one that moved is found as the move makes it
used_now : (s : Step) (cid : ℕ) (fs : List Facts) (f : Facts) → facts_at cid fs ≡ Some f → IsLocal (after_step s f) → IsUsed (moved_at cid (after_step s) fs) cid
used_now s cid fs f found local =
    subst (λ o. IsSomeAnd o IsLocal) (sym (found-moved cid cid (after_step s) fs (keeps_id s) ∙ ap (option_map (turned cid (after_step s))) found))
    (rw (itself (found_id cid fs f found)) local)
  where
    itself : f.cid.0 ≡ cid → has_id cid f ≡ true
    itself h = grind (arith, nat_tests)

negotiated_one : (cid : ℕ) (agreed : Agreed) (until : ℕ) (h : Held) → IsSomeAnd (facts_at cid h.table.facts) (λ f. is_greeting f ≡ true) → Inv h →
    Inv (record { table = with_moved cid (negotiated agreed until) h.table; leases = with_lease (lease_at (facts_at cid h.table.facts)) h.leases })
negotiated_one cid agreed until h can inv =
    let s : Step = step.Negotiated agreed until in
    let found = some_with (λ f. is_greeting f ≡ true) (facts_at cid h.table.facts) can in
    let after : Inv (record h { table = with_moved cid (after_step s) h.table }) = moved s cid h refl (λ f e. tt) inv in
    let unused : found.0.local ≡ false = not_used found.0 found.1 found.2 (cases_Bool found.0.local) in
    subst (λ o. Inv (record { table = with_moved cid (after_step s) h.table; leases = with_lease (lease_at o) h.leases })) (sym found.1)
    (by_side found.0 found.1 unused after (cases_Bool (is_outbound found.0)))
  where
    not_used : (f : Facts) → facts_at cid h.table.facts ≡ Some f → is_greeting f ≡ true → (f.local ≡ true) ⊎ (f.local ≡ false) → f.local ≡ false
    not_used f e greets (inr none) = none
    not_used f e greets (inl used) = absurd (not_greeting f.phase greets (inv.opened cid f e used))

    by_side : (f : Facts) → facts_at cid h.table.facts ≡ Some f → f.local ≡ false → Inv (record h { table = with_moved cid (negotiated agreed until) h.table }) →
        (is_outbound f ≡ true) ⊎ (is_outbound f ≡ false) → Inv (record { table = with_moved cid (negotiated agreed until) h.table; leases = with_lease (lease_of f) h.leases })
    by_side f e unused after (inr inbound) = rw inbound after
    by_side f e unused after (inl out) =
        let mine : f.cid.0 ≡ cid = found_id cid h.table.facts f e in
        let local : IsLocal (negotiated agreed until f) = rw out refl in
        rw out (subst (λ n. Inv (record { table = with_moved cid (negotiated agreed until) h.table; leases = n ∷ h.leases })) (sym mine)
        (leased cid (record h { table = with_moved cid (negotiated agreed until) h.table })
        (used_now (step.Negotiated agreed until) cid h.table.facts f e local)
        (fresh cid h.table.facts f h.leases e unused inv.apart.used) after))

acquired_one : (addr : Addr) (h : Held) → Inv h →
    Inv (record { table = after_acquire (acquire_of addr h.table.facts) h.table; leases = with_lease (lease_given (acquire_of addr h.table.facts)) h.leases })
acquired_one addr h inv = by_live (live_at addr h.table.facts) refl
  where
    by_able : (f : Facts) → live_at addr h.table.facts ≡ Some f → (is_acquirable f ≡ true) ⊎ (is_acquirable f ≡ false) →
        Inv (record { table = after_acquire (acquire_answer (Some f)) h.table; leases = with_lease (lease_given (acquire_answer (Some f))) h.leases })
    by_able f e (inr unable) = rw unable inv
    by_able f e (inl able) =
        let found : facts_at f.cid.0 h.table.facts ≡ Some f = live_by_id addr 0 h.table.given h.table.facts f inv.rises e in
        let opened : is_negotiated f ≡ true = (and_parts _ _ (and_parts _ _ (and_parts _ _ able).0).0).0 in
        let unused : f.local ≡ false = off _ (and_parts _ _ (and_parts _ _ able).0).1 in
        rw able (leased f.cid.0 (record h { table = with_moved f.cid.0 acquired h.table })
        (used_now step.Acquire f.cid.0 h.table.facts f found refl)
        (fresh f.cid.0 h.table.facts f h.leases found unused inv.apart.used)
        (moved step.Acquire f.cid.0 h refl (λ g e. subst (λ x. is_negotiated x ≡ true) (is_found f g (sym found ∙ e)) opened) inv))
      where
        off : (b : Bool) → not b ≡ true → b ≡ false
        off true h = absurd (false≢true h)
        off false h = refl

    by_live : (o : Option Facts) → live_at addr h.table.facts ≡ o →
        Inv (record { table = after_acquire (acquire_answer o) h.table; leases = with_lease (lease_given (acquire_answer o)) h.leases })
    by_live None e = inv
    by_live (Some f) e = by_able f e (cases_Bool (is_acquirable f))

pub Inv-call : (call : Call) (h : Held) → CanCall call h → Inv h → Inv (after_call call h)
Inv-call (Admit addr now) h can inv = entered h (accepted (h.table.given + 1) addr (now + h.table.settings.handshake)) refl refl inv
Inv-call (Dial addr) h can inv = entered h (dialing (h.table.given + 1) addr) refl refl inv
Inv-call (Connect cid now) h can inv = moved (step.Connected (now + h.table.settings.handshake)) cid h refl (λ f e. subst (λ o. IsSomeAnd o (λ f. is_dialing f ≡ true)) e can) inv
Inv-call (Negotiate cid agreed now) h can inv = negotiated_one cid agreed (now + h.table.settings.idle) h can inv
Inv-call (AcquireAt addr) h can inv = acquired_one addr h inv
Inv-call (Release lease now) h can inv = released_one (now + h.table.settings.idle) lease h inv
Inv-call (Awake cid protocol) h can inv = moved (step.Awake protocol) cid h refl (λ f e. tt) inv
Inv-call (Idle cid protocol now) h can inv = moved (step.Idle protocol (now + h.table.settings.idle)) cid h refl (λ f e. tt) inv
Inv-call (GraceOver cid now) h can inv = moved (step.GraceOver (now + h.table.settings.timewait)) cid h refl (λ f e. tt) inv
Inv-call (DropConn cid) h can inv =
    let found = some_with (λ f. f.local ≡ false) (facts_at cid h.table.facts) can in
    gone cid h h.leases inv.apart.distinct (fresh cid h.table.facts found.0 h.leases found.1 found.2 inv.apart.used) inv.apart.used inv
Inv-call (DropLeased lease) h can inv =
    gone lease h (given_back lease h.leases) (distinct_back lease h.leases inv.apart.distinct)
    (others_left lease h.leases inv.apart.distinct) (all_back _ lease h.leases inv.apart.used) inv
Inv-call (Forget lease) h can inv = forgotten lease h inv

pub Inv-run : (calls : List Call) (h : Held) → CanRun calls h → Inv h → Inv (after_run calls h)
Inv-run [] h can inv = inv
Inv-run (call ∷ calls) h can inv = Inv-run calls (after_call call h) can.1 (Inv-call call h can.0 inv)

pub Inv-first : (settings : Settings) → Inv (at_first settings)
Inv-first settings = record {
  rises = omega arith;
  opened = λ cid f found used. cc;
  apart = record { distinct = tt; used = tt };
}

-- what the table asks for, and that only what is held is given, is enough
pub asks-enough : (call : Call) (h : Held) → TableAsks call h.table → GivesHeld call h.leases → CanCall call h
asks-enough (Admit addr now) h asks gives = asks.not_live
asks-enough (Dial addr) h asks gives = asks.unknown
asks-enough (Connect cid now) h asks gives = asks.dialed
asks-enough (Negotiate cid agreed now) h asks gives = asks.greeted
asks-enough (AcquireAt addr) h asks gives = tt
asks-enough (Release lease now) h asks gives = gives
asks-enough (Awake cid protocol) h asks gives = tt
asks-enough (Idle cid protocol now) h asks gives = tt
asks-enough (GraceOver cid now) h asks gives = tt
asks-enough (DropConn cid) h asks gives = asks
asks-enough (DropLeased lease) h asks gives = gives
asks-enough (Forget lease) h asks gives = gives
