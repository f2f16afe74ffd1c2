-- The test of each call passes exactly where what the table's own call asks for holds.
use Rattle.std.proofs.Common.{◌≡◌, ℕ, ◌<◌, ◌≤◌, ◌^◌, Bool, true, false, ◌&&◌, not, nat_le, nat_lt, Option, Some, None, is_some, is_none, IsSomeAnd, refl, inl, inr, ◌⊎◌, arith}
use Rattle.std.proofs.lemmas.Bool.{cases_Bool, false≢true, and_parts}
use Rattle.std.proofs.lemmas.Bool.Decides.{nat_tests}
use Rattle.net_base.specs.declared.connection.Facts.{Facts}
use Rattle.conn_state.specs.Counted.{counted}
use Rattle.conn_state.specs.Protocols.{has_responder}
use Rattle.conn_state.specs.Use.{facts_at, live_at, is_dialing, is_greeting, is_outbound, runs}
use Rattle.conn_table.specs.Answers.{any_at, is_due}
use Rattle.conn_table.specs.Calls.{IsMoment}
use Rattle.conn_table.specs.Conditions.{CanAwake}
use Rattle.conn_table.specs.Table.{Table}
use Rattle.shared_table.specs.Asks.{OutAsks, InAsks, Asks, Tells}
use Rattle.shared_table.specs.Calls.{is_moment, passes, is_greeting_out, is_greeting_in, is_used, may_awake, is_met, out_is_met, in_is_met}
use Rattle.shared_table.specs.declared.call.InCall.{InCall}
use Rattle.shared_table.specs.declared.call.InCall.TheVariants as ins
use Rattle.shared_table.specs.declared.call.OutCall.{OutCall}
use Rattle.shared_table.specs.declared.call.OutCall.TheVariants as outs
use Rattle.shared_table.specs.declared.call.TableCall.{TableCall}
use Rattle.shared_table.specs.declared.call.TableCall.TheVariants.{Out, In}

-- ---- tests

below-tells : (m n : ℕ) → Tells (nat_lt m n) (m < n)
below-tells m n = record { passed = λ h. below h; holds = λ h. test h }
  where
    below : nat_lt m n ≡ true → m < n
    below h = grind (arith, nat_tests)

    test : m < n → nat_lt m n ≡ true
    test h = grind (arith, nat_tests)

within-tells : (m n : ℕ) → Tells (nat_le m n) (m ≤ n)
within-tells m n = record { passed = λ h. within h; holds = λ h. test h }
  where
    within : nat_le m n ≡ true → m ≤ n
    within h = grind (arith, nat_tests)

    test : m ≤ n → nat_le m n ≡ true
    test h = grind (arith, nat_tests)

both_pass : (a b : Bool) → a ≡ true → b ≡ true → (a && b) ≡ true
both_pass a b h k = rw (h, k) refl

both-tell : {P Q : Type 0} → (a b : Bool) → Tells a P → Tells b Q → Tells (a && b) (P × Q)
both-tell a b first second = record {
  passed = λ h. (first.passed (and_parts a b h).0, second.passed (and_parts a b h).1);
  holds = λ h. both_pass a b (first.holds h.0) (second.holds h.1);
}

-- the same, said otherwise
said : {P Q : Type 0} → (test : Bool) → Tells test P → (P → Q) → (Q → P) → Tells test Q
said test tells to from = record { passed = λ h. to (tells.passed h); holds = λ h. tells.holds (from h) }

off : (b : Bool) → not b ≡ true → b ≡ false
off true h = absurd (false≢true h)
off false h = refl

off-tells : (b : Bool) → Tells (not b) (b ≡ false)
off-tells b = record { passed = λ h. off b h; holds = λ h. rw h refl }

none-tells : (o : Option Facts) → Tells (is_none o) (o ≡ None)
none-tells None = record { passed = λ h. refl; holds = λ h. refl }
none-tells (Some f) = record { passed = λ h. absurd (false≢true h); holds = λ h. absurd (nothing h) }
  where
    nothing : Some f ≡ None → ⊥
    nothing h = cc

passes-tells : (test : Facts → Bool) (o : Option Facts) → Tells (passes test o) (IsSomeAnd o (λ f. test f ≡ true))
passes-tells test None = record { passed = λ h. absurd (false≢true h); holds = λ h. absurd h }
passes-tells test (Some f) = record { passed = λ h. h; holds = λ h. h }

-- ---- one connection

out-tells : (o : Option Facts) → Tells (passes is_greeting_out o) (IsSomeAnd o (λ f. is_greeting f ≡ true) × IsSomeAnd o (λ f. is_outbound f ≡ true))
out-tells None = record { passed = λ h. absurd (false≢true h); holds = λ h. absurd h.0 }
out-tells (Some f) = record { passed = λ h. and_parts _ _ h; holds = λ h. both_pass _ _ h.0 h.1 }

in-tells : (o : Option Facts) → Tells (passes is_greeting_in o) (IsSomeAnd o (λ f. is_greeting f ≡ true) × IsSomeAnd o (λ f. is_outbound f ≡ false))
in-tells None = record { passed = λ h. absurd (false≢true h); holds = λ h. absurd h.0 }
in-tells (Some f) = record {
  passed = λ h. ((and_parts _ _ h).0, off _ (and_parts _ _ h).1);
  holds = λ h. both_pass _ _ h.0 ((off-tells (is_outbound f)).holds h.1);
}

awake-tells : (protocol : ℕ) (o : Option Facts) → Tells (passes (may_awake protocol) o) ((has_responder protocol ≡ true) × IsSomeAnd o (CanAwake protocol))
awake-tells protocol None = record { passed = λ h. absurd (false≢true h); holds = λ h. absurd h.1 }
awake-tells protocol (Some f) = record {
  passed = λ h. (
    (and_parts _ _ (and_parts _ _ (and_parts _ _ h).0).0).0,
    record {
      negotiated = (and_parts _ _ (and_parts _ _ (and_parts _ _ h).0).0).1;
      serves = (and_parts _ _ (and_parts _ _ h).0).1;
      silent = off _ (and_parts _ _ h).1;
    },
  );
  holds = λ h. both_pass _ _ (both_pass _ _ (both_pass _ _ h.0 h.1.negotiated) h.1.serves) ((off-tells (runs protocol f.running)).holds h.1.silent);
}

drop-tells : (o : Option Facts) → Tells (is_some o) (IsSomeAnd o (λ f. f.local ≡ false) ⊎ IsSomeAnd o (λ f. f.local ≡ true))
drop-tells None = record { passed = λ h. absurd (false≢true h); holds = λ h. absurd (neither h) }
  where
    neither : ⊥ ⊎ ⊥ → ⊥
    neither (inl h) = h
    neither (inr h) = h
drop-tells (Some f) = record { passed = λ h. which (cases_Bool f.local); holds = λ h. refl }
  where
    which : (f.local ≡ true) ⊎ (f.local ≡ false) → (f.local ≡ false) ⊎ (f.local ≡ true)
    which (inl used) = inr used
    which (inr none) = inl none

-- ---- each call

timed : {P : Type 0} → (now : ℕ) (test : Bool) → Tells test P → Tells (is_moment now && test) (IsMoment now × P)
timed now test tells = both-tell (is_moment now) test (within-tells now (2 ^ 48)) tells

out_is_met-tells : (call : OutCall) (t : Table) → Tells (out_is_met call t) (OutAsks call t)
out_is_met-tells (outs.Dial addr) t =
    said _ (both-tell _ _ (below-tells t.given (2 ^ 48)) (off-tells (any_at addr t.facts)))
    (λ h. record { unknown = h.1; few_given = h.0 }) (λ h. (h.few_given, h.unknown))
out_is_met-tells (outs.Connected cid now) t =
    said _ (timed now _ (passes-tells is_dialing (facts_at cid.0 t.facts)))
    (λ h. record { dialed = h.1; moment = h.0 }) (λ h. (h.moment, h.dialed))
out_is_met-tells (outs.Agreed cid agreed now) t =
    said _ (timed now _ (out-tells (facts_at cid.0 t.facts)))
    (λ h. (record { greeted = h.1.0; moment = h.0 }, h.1.1)) (λ h. (h.0.moment, (h.0.greeted, h.1)))
out_is_met-tells (outs.Acquire addr) t = record { passed = λ h. tt; holds = λ h. refl }
out_is_met-tells (outs.Release cid now) t =
    said _ (timed now _ (passes-tells is_used (facts_at cid.0 t.facts)))
    (λ h. record { in_use = h.1; moment = h.0 }) (λ h. (h.moment, h.in_use))
out_is_met-tells (outs.DropOut cid) t = drop-tells (facts_at cid.0 t.facts)

in_is_met-tells : (call : InCall) (t : Table) → Tells (in_is_met call t) (InAsks call t)
in_is_met-tells (ins.Admit addr now) t =
    said _ (timed now _ (both-tell _ _ (both-tell _ _ (below-tells t.given (2 ^ 48)) (below-tells (counted t.facts) t.settings.hard)) (none-tells (live_at addr t.facts))))
    (λ h. record { not_live = h.1.1; below_hard = h.1.0.1; few_given = h.1.0.0; moment = h.0 }) (λ h. (h.moment, ((h.few_given, h.below_hard), h.not_live)))
in_is_met-tells (ins.Agreed cid agreed now) t =
    said _ (timed now _ (in-tells (facts_at cid.0 t.facts)))
    (λ h. (record { greeted = h.1.0; moment = h.0 }, h.1.1)) (λ h. (h.0.moment, (h.0.greeted, h.1)))
in_is_met-tells (ins.Awake cid protocol) t =
    said _ (awake-tells protocol (facts_at cid.0 t.facts))
    (λ h. record { known = h.0; able = h.1 }) (λ h. (h.known, h.able))
in_is_met-tells (ins.Idle cid protocol now) t =
    said _ (timed now _ (passes-tells (λ f. runs protocol f.running) (facts_at cid.0 t.facts)))
    (λ h. record { running = h.1; moment = h.0 }) (λ h. (h.moment, h.running))
in_is_met-tells (ins.GraceOver cid now) t =
    said _ (timed now _ (passes-tells (λ f. is_due now f.grace) (facts_at cid.0 t.facts)))
    (λ h. record { due = h.1; moment = h.0 }) (λ h. (h.moment, h.due))
in_is_met-tells (ins.DropIn cid) t = drop-tells (facts_at cid.0 t.facts)

pub is_met-tells : (call : TableCall) (t : Table) → Tells (is_met call t) (Asks call t)
is_met-tells (Out call) t = out_is_met-tells call t
is_met-tells (In call) t = in_is_met-tells call t
