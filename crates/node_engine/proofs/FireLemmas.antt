-- Deadlines fire one after another: what is left of the definition's firing after some turns.
use Rattle.std.proofs.Common.{◌≡◌, ℕ, zero, suc, ◌+◌, ◌-◌, ◌≤◌, List, ◌++◌, length, Some, None, append_assoc, append-nil, refl, sym, ap, subst, ◌∙◌, arith}
use Rattle.std.proofs.lemmas.List.Sums.{count_by-le-length}
use Rattle.net_base.specs.declared.action.Action.{Action}
use Rattle.net_base.specs.declared.timer.Deadline.{Deadline}
use Rattle.laws.specs.Sound.{IsOrderly}
use Rattle.laws.proofs.Counts.{is_late, late_in}
use Rattle.laws.proofs.Firing.{due-lowers}
use Rattle.machine.specs.Deadlines.{deadlines, due, fires, fires_some, fire_due, fire_all}
use Rattle.machine.specs.Effect.{then_do, nothing_more}
use Rattle.machine.specs.Machine.{Machine}
use Rattle.node_engine.specs.State.{Does}

-- Some deadlines of a machine have fired. What is left to fire leads where all of them lead, and the turns that are left suffice.
pub record IsFiring (first : Machine) (before : List Action) (m : Machine) (after : List Action) : Type 0 where
  pub turns : ℕ
  pub enough : late_in m ≤ turns
  pub machine_left : (fire_all first).machine ≡ (fire_due turns m).machine
  pub actions_left : before ++ (fire_all first).actions ≡ after ++ (fire_due turns m).actions

pub IsFiring-none : (m : Machine) (before : List Action) → IsFiring m before m before
IsFiring-none m before = record {
  turns = length (deadlines m);
  enough = count_by-le-length (is_late m.now) (deadlines m);
  machine_left = refl;
  actions_left = refl;
}

fire_due-suc : (turns : ℕ) (m : Machine) (d : Deadline) → due m ≡ Some d →
    fire_due (suc turns) m ≡ then_do (fires d m) (fire_due turns)
unfolding fire_due
fire_due-suc turns m d h = ap (λ o. fires_some o (fire_due turns) m) h

-- one that fires leaves fewer that are late
pub fires-fewer : (m : Machine) (after : List Action) (d : Deadline) (new : Machine) (told : List Action) → IsOrderly m → due m ≡ Some d →
    Does (fires d m) after new told → late_in new + 1 ≤ late_in m
fires-fewer m after d new told orderly next does =
    subst (λ n. late_in n + 1 ≤ late_in m) (sym does.machine_is) (due-lowers m d orderly next).late

pub IsFiring-more : (first : Machine) (before : List Action) (m : Machine) (after : List Action) (d : Deadline) (new : Machine) (told : List Action) →
    IsOrderly m → IsFiring first before m after → due m ≡ Some d → Does (fires d m) after new told → IsFiring first before new told
IsFiring-more first before m after d new told orderly h next does =
    let fewer : late_in new + 1 ≤ late_in m = fires-fewer m after d new told orderly next does in
    let one_more : h.turns ≡ suc (h.turns - 1) = omega (arith, fewer, h.enough) in
    let one : fire_due h.turns m ≡ then_do (fires d m) (fire_due (h.turns - 1)) =
    ap (λ k. fire_due k m) one_more ∙ fire_due-suc (h.turns - 1) m d next in
    record {
      turns = h.turns - 1;
      enough = omega (arith, fewer, h.enough);
      machine_left = h.machine_left ∙ (ap (λ e. e.machine) one ∙ ap (λ n. (fire_due (h.turns - 1) n).machine) (sym does.machine_is));
      actions_left = h.actions_left ∙ (ap (λ e. after ++ e.actions) one ∙ rw (does.actions_are, does.machine_is, append_assoc));
    }

fire_due-none : (turns : ℕ) (m : Machine) → due m ≡ None → fire_due turns m ≡ nothing_more m
unfolding fire_due
fire_due-none zero m h = refl
fire_due-none (suc turns) m h = ap (λ o. fires_some o (fire_due turns) m) h

pub Does-when_none : (first : Machine) (before : List Action) (m : Machine) (after : List Action) →
    IsFiring first before m after → due m ≡ None → Does (fire_all first) before m after
Does-when_none first before m after h none =
    let rest = fire_due-none h.turns m none in
    record {
      machine_is = sym (h.machine_left ∙ ap (λ e. e.machine) rest);
      actions_are = sym (h.actions_left ∙ (ap (λ e. after ++ e.actions) rest ∙ append-nil after));
    }
