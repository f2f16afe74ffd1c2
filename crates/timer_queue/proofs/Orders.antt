-- The two orders: of ids, and of timers. Each is strict, and tells any two things apart.
use Rattle.std.proofs.Common.{◌≡◌, Bool, true, false, ◌==◌, refl, sym, ap, ◌∙◌, arith, rules}
use Rattle.std.specs.Ordering.{is_lt, is_eq}
use Rattle.std.specs.Cmp.{tied_itself}
use Rattle.std.proofs.lemmas.Bool.{false≢true, and_parts}
use Rattle.std.proofs.lemmas.Bool.Decides.{nat_tests}
use Rattle.net_base.proofs.AddressOrder.{less, greater_back, same_number}
use Rattle.net_base.specs.Timer.{deadline_before}
use Rattle.net_base.specs.declared.connection.Cid.{Cid}
use Rattle.net_base.specs.declared.timer.Deadline.{Deadline}
use Rattle.net_base.specs.declared.timer.Kind.{Kind}
use Rattle.net_base.specs.declared.timer.Kind.TheVariants.{Handshake, Grace, TimeWait, Reply2, Reply8, Reply10}
use Rattle.net_base.specs.contracts.timer.DeadlineOrd.TheImpl.{ghosts}
use Rattle.net_base.specs.contracts.timer.DeadlineOrd.TheImpl.Laws.{total-law}
use Rattle.timer_queue.specs.Timers.{same_cid, cid_below, same_kind, same_timer}

-- a strict order, and a test that tells things apart
pub record IsOrder {K : Type 0} (below same : K → K → Bool) : Type 0 where
  pub irreflexive : (a : K) → below a a ≡ false
  pub transitive : (a b c : K) → below a b ≡ true → below b c ≡ true → below a c ≡ true
  pub connected : (a b : K) → same a b ≡ false → below a b ≡ false → below b a ≡ true
  pub same_is : (a b : K) → same a b ≡ true → a ≡ b
  pub same_itself : (a : K) → same a a ≡ true

-- ---- ids

pub same_cid-is : (a b : Cid) → same_cid a b ≡ true → a ≡ b
same_cid-is a b h = λ i. record { 0 = same_number a.0 b.0 h i }

pub cid_order : IsOrder cid_below same_cid
cid_order = record {
  irreflexive = λ a. grind (arith, nat_tests);
  transitive = λ a b c h k. grind (arith, nat_tests);
  connected = λ a b h k. grind (arith, nat_tests);
  same_is = same_cid-is;
  same_itself = λ a. grind (arith, nat_tests);
}

pub same_cid-turned : (a b : Cid) → same_cid a b ≡ same_cid b a
same_cid-turned a b = grind (arith, nat_tests)

-- ---- timers

before_is : (a b : Deadline) → is_lt (ghosts.cmp a b) ≡ deadline_before a b
before_is a b = search rules

same_is : (a b : Deadline) → is_eq (ghosts.cmp a b) ≡ same_timer a b
same_is a b = search rules

before-transitive : (a b c : Deadline) → deadline_before a b ≡ true → deadline_before b c ≡ true → deadline_before a c ≡ true
before-transitive a b c h k =
    sym (before_is a c) ∙ ap is_lt (total-law.trans a b c (less _ (before_is a b ∙ h)) (less _ (before_is b c ∙ k)))

before-connected : (a b : Deadline) → same_timer a b ≡ false → deadline_before a b ≡ false → deadline_before b a ≡ true
before-connected a b h k =
    sym (before_is b a) ∙ (ap is_lt (total-law.antisymm b a) ∙ greater_back (ghosts.cmp a b) (same_is a b ∙ h) (before_is a b ∙ k))

pub same_kind-is : (a b : Kind) → same_kind a b ≡ true → a ≡ b
same_kind-is Handshake Handshake h = refl
same_kind-is Grace Grace h = refl
same_kind-is TimeWait TimeWait h = refl
same_kind-is Reply2 Reply2 h = refl
same_kind-is Reply8 Reply8 h = refl
same_kind-is Reply10 Reply10 h = refl
same_kind-is a b h = absurd (false≢true h)

pub same_kind-itself : (a : Kind) → same_kind a a ≡ true
same_kind-itself a = grind (arith, nat_tests)

pub same_kind-turned : (a b : Kind) → same_kind a b ≡ same_kind b a
same_kind-turned a b = grind (arith, nat_tests)

pub same_timer-is : (a b : Deadline) → same_timer a b ≡ true → a ≡ b
same_timer-is a b h =
    let first = and_parts (a.at == b.at) _ h in
    let rest = and_parts (same_cid a.cid b.cid) (same_kind a.kind b.kind) first.1 in
    λ i. record { at = same_number a.at b.at first.0 i; cid = same_cid-is a.cid b.cid rest.0 i; kind = same_kind-is a.kind b.kind rest.1 i }

pub timer_order : IsOrder deadline_before same_timer
timer_order = record {
  irreflexive = λ a. sym (before_is a a) ∙ ap is_lt (tied_itself total-law a);
  transitive = before-transitive;
  connected = before-connected;
  same_is = same_timer-is;
  same_itself = λ a. sym (same_is a a) ∙ ap is_eq (tied_itself total-law a);
}
