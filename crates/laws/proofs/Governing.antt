-- The governor as a whole: each rule, and all of them.
use Rattle.std.proofs.Common.{ℕ, ◌≤◌, ◌≡◌, List, [], ◌∷◌, ◌++◌, refl, arith}
use Rattle.laws.specs.Words.{AllByRecursion, AskRoots, asked, Order, Machine, counted_in, Effect, tells, then_do, for_each, carries_out, asks_roots, ordinary_rules, big_rules, rules, govern}
use Rattle.laws.specs.Acts.{orders_of}
use Rattle.laws.specs.AtMoves.{IsLawful}
use Rattle.laws.specs.Steady.{IsOrdered}
use Rattle.laws.proofs.Keeping.{Keeps, keeps_nothing, elsewhere-keeps}
use Rattle.laws.proofs.Lawful.{IsQuiet, quiet-obeys, elsewhere-quiet, tells-quiet}
use Rattle.laws.proofs.Ordering.{AreRight, ordinary-due, big-due, Done, DoesRight}
use Rattle.laws.proofs.Trims.{Trimmed, keeps-trimmed, nothing-trimmed, trimmed_then, trimmed-within}

-- ---- all rules

right_more : (xs ys : List Order) (m : Machine) → AreRight xs m → AreRight ys (for_each carries_out xs m).machine → AreRight (xs ++ ys) m
unfolding for_each
right_more [] ys m one two = two
right_more (x ∷ xs) ys m one two = (one.0, right_more xs ys (carries_out x m).machine one.1 two)

-- the rules were followed one after the other
record Governed (each : List (Machine → List Order)) (m : Machine) : Type 0 where
  trimmed : Trimmed IsLawful m (for_each rules each m)
  right : AreRight (orders_of each m) m

all-rules : (each : List (Machine → List Order)) → AllByRecursion (λ orders. DoesRight orders) each → (m : Machine) → IsOrdered m →
    counted_in m ≤ m.settings.hard → Governed each m
unfolding for_each orders_of
all-rules [] due m o within = record { trimmed = nothing-trimmed IsLawful m within o; right = tt }
all-rules (r ∷ rs) due m o within =
    let effect : Effect = rules r m in
    let first : Done (r m) m = due.0 m o within in
    let rest : Governed rs effect.machine = all-rules rs due.1 effect.machine first.trimmed.ordered (trimmed-within IsLawful m effect first.trimmed) in
    record {
      trimmed = trimmed_then IsLawful m effect (for_each rules rs) first.trimmed rest.trimmed;
      right = right_more (r m) (orders_of rs effect.machine) m first.right rest.right;
    }

pub asks_roots-keeps : (m : Machine) → IsOrdered m → Keeps 0 m (asks_roots m).machine
asks_roots-keeps m h =
    grind (arith, keeps_nothing m h, elsewhere-keeps m.targets m.big_targets (asked m.roots) m h (λ job same. let is : m.roots.next_job ≡ job = cc in omega (arith, is)))

asks_roots-quiet : (m : Machine) → IsQuiet m (asks_roots m)
asks_roots-quiet m =
    grind (arith, elsewhere-quiet m (tells (AskRoots (record { 0 = m.roots.next_job }) ∷ []) (record m { roots = asked m.roots })) refl refl refl refl refl, tells-quiet [] m refl)

-- what the governor does, and each of its orders
pub record Governs (word : ℕ) (m : Machine) : Type 0 where
  pub trimmed : Trimmed IsLawful m (govern word m)
  pub asked : Trimmed IsLawful m (asks_roots m)
  pub ruled : Trimmed IsLawful (asks_roots m).machine (for_each rules (ordinary_rules word) (asks_roots m).machine)
  pub ordinary : AreRight (orders_of (ordinary_rules word) (asks_roots m).machine) (asks_roots m).machine
  pub big : AreRight (orders_of (big_rules word) (for_each rules (ordinary_rules word) (asks_roots m).machine).machine)
      (for_each rules (ordinary_rules word) (asks_roots m).machine).machine

pub governs : (word : ℕ) (m : Machine) → IsOrdered m → counted_in m ≤ m.settings.hard → Governs word m
governs word m h within =
    let first : Effect = asks_roots m in
    let one : Trimmed IsLawful m first =
    keeps-trimmed IsLawful m first within (asks_roots-keeps m h) (quiet-obeys IsLawful m first (asks_roots-quiet m)) in
    let second : Effect = for_each rules (ordinary_rules word) first.machine in
    let two : Governed (ordinary_rules word) first.machine =
    all-rules (ordinary_rules word) (ordinary-due word) first.machine one.ordered (trimmed-within IsLawful m first one) in
    let three : Governed (big_rules word) second.machine =
    all-rules (big_rules word) (big-due word) second.machine two.trimmed.ordered (trimmed-within IsLawful first.machine second two.trimmed) in
    assumption (trimmed_then IsLawful m first (λ m. then_do (for_each rules (ordinary_rules word) m) (for_each rules (big_rules word))) one
    (trimmed_then IsLawful first.machine second (for_each rules (big_rules word)) two.trimmed three.trimmed))

pub govern-trimmed : (word : ℕ) (m : Machine) → IsOrdered m → counted_in m ≤ m.settings.hard → Trimmed IsLawful m (govern word m)
govern-trimmed word m h within = (governs word m h within).trimmed
