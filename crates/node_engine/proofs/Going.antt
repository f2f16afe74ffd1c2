-- One part after another for each of a list: what is left of it after some of them.
use Rattle.std.proofs.Common.{◌≡◌, List, [], ◌∷◌, ◌++◌, append_assoc, append-nil, refl, sym, ap, subst, ◌∙◌}
use Rattle.net_base.specs.declared.action.Action.{Action}
use Rattle.govern_rules.specs.declared.order.Order.{Order}
use Rattle.machine.specs.Effect.{Effect, for_each, then_do}
use Rattle.machine.specs.Govern.{carries_out}
use Rattle.machine.specs.Machine.{Machine}
use Rattle.laws.specs.OrderNeeds.{MayCarry, MayAll}
use Rattle.node_engine.specs.State.{Does}

-- The rest leads where all of them lead.
pub record IsGoing {X : Type 0} (act : X → Machine → Effect) (all rest : List X) (first : Machine) (before : List Action) (m : Machine) (after : List Action) : Type 0 where
  pub machine_left : (for_each act all first).machine ≡ (for_each act rest m).machine
  pub actions_left : before ++ (for_each act all first).actions ≡ after ++ (for_each act rest m).actions

pub going-none : {X : Type 0} (act : X → Machine → Effect) (all : List X) (m : Machine) (before : List Action) → IsGoing act all all m before m before
going-none act all m before = record { machine_left = refl; actions_left = refl }

pub going-more : {X : Type 0} (act : X → Machine → Effect) (all rest more : List X) (x : X) (first : Machine) (before : List Action)
    (m : Machine) (after : List Action) (n : Machine) (told : List Action) → rest ≡ x ∷ more → IsGoing act all rest first before m after →
    Does (act x m) after n told → IsGoing act all more first before n told
unfolding for_each
going-more {X} act all rest more x first before m after n told next h does =
    let k : IsGoing act all (x ∷ more) first before m after = subst (λ (xs : List X). IsGoing act all xs first before m after) next h in
    record {
      machine_left = k.machine_left ∙ ap (λ o. (for_each act more o).machine) (sym does.machine_is);
      actions_left = k.actions_left ∙ rw (does.actions_are, does.machine_is, append_assoc) refl;
    }

-- several at once
pub going-on : {X : Type 0} (act : X → Machine → Effect) (all rest more : List X) (effect : Effect) (first : Machine) (before : List Action)
    (m : Machine) (after : List Action) (n : Machine) (told : List Action) → for_each act rest m ≡ then_do effect (for_each act more) →
    IsGoing act all rest first before m after → Does effect after n told → IsGoing act all more first before n told
going-on act all rest more effect first before m after n told same k does = record {
  machine_left = k.machine_left ∙ (ap (λ e. e.machine) same ∙ ap (λ o. (for_each act more o).machine) (sym does.machine_is));
  actions_left = k.actions_left ∙ (ap (λ e. after ++ e.actions) same ∙ rw (does.actions_are, does.machine_is, append_assoc) refl);
}

pub going-all : {X : Type 0} (act : X → Machine → Effect) (all rest : List X) (first : Machine) (before : List Action) (m : Machine) (after : List Action) →
    rest ≡ [] → IsGoing act all rest first before m after → Does (for_each act all first) before m after
unfolding for_each
going-all {X} act all rest first before m after done h =
    let k : IsGoing act all [] first before m after = subst (λ (xs : List X). IsGoing act all xs first before m after) done h in
    record { machine_is = sym k.machine_left; actions_are = sym (k.actions_left ∙ append-nil after) }

-- ---- orders that may be carried out

pub may-first : (rest more : List Order) (order : Order) (m : Machine) → rest ≡ order ∷ more → MayAll rest m → MayCarry order m
unfolding MayAll
may-first rest more order m next may =
    let h : MayAll (order ∷ more) m = subst (λ os. MayAll os m) next may in h.0

pub may-more : (rest more : List Order) (order : Order) (m n : Machine) (after told : List Action) → rest ≡ order ∷ more → MayAll rest m →
    Does (carries_out order m) after n told → MayAll more n
unfolding MayAll
may-more rest more order m n after told next may does =
    let h : MayAll (order ∷ more) m = subst (λ os. MayAll os m) next may in
    subst (MayAll more) (sym does.machine_is) h.1
