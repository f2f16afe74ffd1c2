-- What always holds of the leaves and of the tree over them.
use Rattle.std.specs.Prelude.{◌≡◌, ℕ, ◌-◌, ◌^◌, ◌<◌, ◌≤◌, List, ◌++◌, length, replicate}
use Rattle.std.specs.List.{AllByRecursion}
use Rattle.net_base.specs.declared.connection.Cid.{Cid}
use Rattle.least_tree.specs.Numbers.{none}
use Rattle.prune_order.specs.Numbers.{numbers_in}
use Rattle.prune_order.specs.declared.leaf.Leaf.{Leaf}
use Rattle.prune_order.specs.declared.leaf.Standing.{Standing}
use Rattle.prune_order.specs.declared.leaf.Standing.TheVariants.{Gone, Kept, MayGo}
use Rattle.timer_queue.specs.Order.{IsRising}
use Rattle.timer_queue.specs.Timers.{cid_below}

abbrev pub AreRising : List Leaf → Type 0
AreRising leaves = IsRising cid_below (λ l. l.cid) leaves

-- ids that are at most one
abbrev pub AreUpTo : Cid → List Leaf → Type 0
AreUpTo last leaves = AllByRecursion (λ l. l.cid.0 ≤ last.0) leaves

abbrev pub IsWord : Standing → Type 0
IsWord Gone = Unit {0}
IsWord Kept = Unit {0}
IsWord (MayGo rank) = rank < 2 ^ 8

-- its rank is a word
abbrev pub IsOfWord : Leaf → Type 0
IsOfWord leaf = IsWord leaf.standing

abbrev pub AreOfWord : List Leaf → Type 0
AreOfWord leaves = AllByRecursion IsOfWord leaves

-- their ranks, and room for more
abbrev pub IsOver : List Leaf → List ℕ → Type 0
IsOver leaves ranks = ranks ≡ numbers_in leaves ++ replicate (length ranks - length leaves) none

pub record IsKept (leaves : List Leaf) (ranks : List ℕ) (last : Cid) (capacity : ℕ) : Type 0 where
  pub rise : AreRising leaves
  pub up_to : AreUpTo last leaves
  pub words : AreOfWord leaves
  pub fit : length leaves ≤ length ranks
  pub memory : length ranks ≤ capacity
  pub over : IsOver leaves ranks
