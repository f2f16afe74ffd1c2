-- One rule after another.
use Rattle.std.proofs.Common.{◌≡◌, ℕ, List, [], ◌∷◌, map, refl, sym, ap, subst, ◌∙◌}
use Rattle.net_base.specs.declared.action.Action.{Action}
use Rattle.govern_rules.specs.declared.order.Order.{Order}
use Rattle.machine.specs.Effect.{for_each, then_do}
use Rattle.machine.specs.Govern.{asks_roots, carries_out, ordinary_rules, big_rules, rules}
use Rattle.machine.specs.Machine.{Machine}
use Rattle.laws.specs.OrderNeeds.{MayAll, MayFollow, MayGovern}
use Rattle.node_engine.specs.Rules.{AreFirst}
use Rattle.node_engine.specs.State.{Does}
use Rattle.peers.specs.declared.rule.Rule.{Rule}

-- ---- rules that give no orders are passed

-- The rest leads where all of them lead, and may be followed.
pub record ArePassed (each : Rule → Machine → List Order) (all rest : List Rule) (m : Machine) : Type 0 where
  pub same : for_each rules (map each all) m ≡ for_each rules (map each rest) m
  pub may : MayFollow (map each rest) m

pub passed-none : (each : Rule → Machine → List Order) (all : List Rule) (m : Machine) → MayFollow (map each all) m → ArePassed each all all m
passed-none each all m may = record { same = refl; may = may }

pub passed-more : (each : Rule → Machine → List Order) (all rest more : List Rule) (rule : Rule) (m : Machine) → rest ≡ rule ∷ more → each rule m ≡ [] →
    ArePassed each all rest m → ArePassed each all more m
unfolding for_each MayFollow
passed-more each all rest more rule m next none passed =
    let k : ArePassed each all (rule ∷ more) m = subst (λ rest. ArePassed each all rest m) next passed in
    let skips : for_each rules (map each (rule ∷ more)) m ≡ for_each rules (map each more) m =
    ap (λ orders. then_do (for_each carries_out orders m) (for_each rules (map each more))) none in
    record {
      same = k.same ∙ skips;
      may = subst (λ orders. MayFollow (map each more) (for_each carries_out orders m).machine) none k.may.1;
    }

-- one gives some
pub first-gives : (each : Rule → Machine → List Order) (all rest more : List Rule) (rule : Rule) (orders : List Order) (m : Machine) → rest ≡ rule ∷ more →
    orders ≡ each rule m → ArePassed each all rest m → AreFirst each all orders more m
unfolding for_each MayFollow
first-gives each all rest more rule orders m next is passed =
    let k : ArePassed each all (rule ∷ more) m = subst (λ rest. ArePassed each all rest m) next passed in
    subst (λ orders. AreFirst each all orders more m) (sym is) (record { same = k.same; may = k.may.0; may_after = k.may.1 })

-- none does
pub none-gives : (each : Rule → Machine → List Order) (all rest : List Rule) (m : Machine) → rest ≡ [] → ArePassed each all rest m →
    AreFirst each all [] rest m
unfolding for_each MayAll MayFollow
none-gives each all rest m over passed =
    let k : ArePassed each all [] m = subst (λ rest. ArePassed each all rest m) over passed in
    subst (λ rest. AreFirst each all [] rest m) (sym over) (record { same = k.same; may = tt; may_after = tt })

pub after-may : (each : Rule → Machine → List Order) (all more : List Rule) (orders : List Order) (m n : Machine) (after told : List Action) →
    AreFirst each all orders more m → Does (for_each carries_out orders m) after n told → MayFollow (map each more) n
after-may each all more orders m n after told first does = subst (MayFollow (map each more)) (sym does.machine_is) first.may_after

-- ---- what the governor needs

pub ordinary-may : (word : ℕ) (m n : Machine) (before after : List Action) → MayGovern word m → Does (asks_roots m) before n after →
    MayFollow (ordinary_rules word) n
ordinary-may word m n before after may asked = subst (MayFollow (ordinary_rules word)) (sym asked.machine_is) may.ordinary

pub big-may : (word : ℕ) (m n o : Machine) (before middle after : List Action) → MayGovern word m → Does (asks_roots m) before n middle →
    Does (for_each rules (ordinary_rules word) n) middle o after → MayFollow (big_rules word) o
big-may word m n o before middle after may asked followed =
    subst (MayFollow (big_rules word))
    (ap (λ x. (for_each rules (ordinary_rules word) x).machine) (sym asked.machine_is) ∙ sym followed.machine_is) may.big
