-- What the governor's orders need where they are carried out.
use Rattle.std.specs.Prelude.{ℕ, ◌≡◌, ◌≤◌, ◌^◌, true, false, List, [], ◌∷◌, find, Option, Some, None, is_some, IsSomeAnd}
use Rattle.laws.specs.Words.{same_address, Addr, Cold, is_acquirable, Order, Ask, Forget, Promote, Release, Activate, Deactivate, for_each, carries_out, asks_roots, ordinary_rules, big_rules, rules, Machine, Entry, facts_of, live_entry_at, peer_at}

-- the live connection of an address may be taken into use, or the address has no connection, be it a closed one
abbrev pub IsFree : Option Entry → Addr → Machine → Type 0
IsFree None addr m = is_some (find (λ f. same_address f.addr addr) (facts_of m)) ≡ false
IsFree (Some e) addr m = is_acquirable e.facts ≡ true

-- and there are ids left
pub record CanPromote (addr : Addr) (m : Machine) : Type 0 where
  pub free : IsFree (live_entry_at addr m) addr m
  pub few_ids : m.next_id ≤ 2 ^ 48

abbrev pub MayCarry : Order → Machine → Type 0
MayCarry (Ask addr n) m = Unit {0}
MayCarry (Forget addr) m = IsSomeAnd (peer_at addr m) (λ p. p.temp ≡ Cold)
MayCarry (Promote addr) m = CanPromote addr m
MayCarry (Release addr) m = Unit {0}
MayCarry (Activate addr) m = Unit {0}
MayCarry (Deactivate addr) m = Unit {0}

-- each order, where those before it have been carried out
unfoldable pub MayAll : List Order → Machine → Type 0
MayAll [] m = Unit {0}
MayAll (order ∷ orders) m = MayCarry order m × MayAll orders (carries_out order m).machine

-- the orders of each rule, where those before it have been followed
unfoldable pub MayFollow : List (Machine → List Order) → Machine → Type 0
MayFollow [] m = Unit {0}
MayFollow (orders ∷ each) m = MayAll (orders m) m × MayFollow each (rules orders m).machine

-- all orders of the governor
pub record MayGovern (word : ℕ) (m : Machine) : Type 0 where
  pub ordinary : MayFollow (ordinary_rules word) (asks_roots m).machine
  pub big : MayFollow (big_rules word) (for_each rules (ordinary_rules word) (asks_roots m).machine).machine
