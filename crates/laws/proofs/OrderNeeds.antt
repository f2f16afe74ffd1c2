-- The orders of each rule may be carried out, one after the other: each is due, and there are ids left, since all of them together
-- give out few.
use Rattle.std.proofs.Common.{ℕ, ◌+◌, ◌^◌, ◌≤◌, ◌≡◌, List, [], ◌∷◌, ◌++◌, IsSomeAnd, sym, subst, arith, ap}
use Rattle.laws.specs.Words.{Cold, Order, Ask, Forget, Promote, Release, Machine, counted_in, for_each, peer_at, carries_out, asks_roots, ordinary_rules, big_rules, rules}
use Rattle.laws.specs.Acts.{orders_of}
use Rattle.laws.specs.OrderNeeds.{MayGovern, MayCarry, MayAll, MayFollow}
use Rattle.laws.specs.Ordered.{MayBeForgotten, IsOne, IsDueOrder}
use Rattle.laws.specs.Steady.{IsOrdered}
use Rattle.laws.proofs.Cases.{by_option}
use Rattle.laws.proofs.Chain.{rules-chain}
use Rattle.laws.proofs.Governing.{Governs, governs, asks_roots-keeps}
use Rattle.laws.proofs.Numbers.{rules-give}
use Rattle.laws.proofs.Ordering.{AreRight}
use Rattle.laws.proofs.Promotions.{free-may}
use Rattle.laws.proofs.WaitsOfParts.{order-waits}
use Rattle.laws.proofs.RootsAsked.{roots-set}

-- ---- what an order needs

due-may : (order : Order) (m : Machine) → IsOrdered m → m.next_id ≤ 2 ^ 48 → IsDueOrder order m → MayCarry order m
due-may (Ask addr n) m h few due = tt
due-may (Forget addr) m h few due = search arith
due-may (Promote addr) m h few due = search (arith, free-may)
due-may (Release addr) m h few due = tt
due-may other m h few due = tt

-- ---- one order after the other

rises : (orders : List Order) (m : Machine) → AreRight orders m → m.next_id ≤ (for_each carries_out orders m).machine.next_id
unfolding for_each
rises [] m h = omega arith
rises (o ∷ orders) m h = search (arith, order-waits, rises orders (carries_out o m).machine h.1)

all-may : (orders : List Order) (m : Machine) → AreRight orders m → (for_each carries_out orders m).machine.next_id ≤ 2 ^ 48 → MayAll orders m
unfolding MayAll for_each
all-may [] m h few = tt
all-may (o ∷ orders) m h few = search (arith, order-waits, rises, due-may, all-may orders (carries_out o m).machine h.1 few)

both-may : (xs ys : List Order) (m : Machine) → MayAll (xs ++ ys) m → MayAll xs m × MayAll ys (for_each carries_out xs m).machine
unfolding MayAll for_each
both-may [] ys m h = (tt, h)
both-may (x ∷ xs) ys m h = let rest = both-may xs ys (carries_out x m).machine h.1 in ((h.0, rest.0), rest.1)

follow : (each : List (Machine → List Order)) (m : Machine) → MayAll (orders_of each m) m → MayFollow each m
unfolding MayFollow orders_of
follow [] m h = tt
follow (r ∷ each) m h =
    let parts = both-may (r m) (orders_of each (rules r m).machine) m h in (
      parts.0,
      follow each (rules r m).machine parts.1,
    )

all-follow : (each : List (Machine → List Order)) (m : Machine) → AreRight (orders_of each m) m →
    (for_each rules each m).machine.next_id ≤ 2 ^ 48 → MayFollow each m
all-follow each m h few = follow each m (all-may (orders_of each m) m h (subst (λ effect. effect.machine.next_id ≤ 2 ^ 48) (rules-chain each m) few))

-- ---- the governor

-- In order and within the limit, with ids left, all orders may be carried out.
pub govern-may : (word : ℕ) (m : Machine) → IsOrdered m → counted_in m ≤ m.settings.hard → m.next_id + 60000 ≤ 2 ^ 48 → MayGovern word m
govern-may word m h within room =
    let n : Machine = (asks_roots m).machine in
    let o : Machine = (for_each rules (ordinary_rules word) n).machine in
    let g : Governs word m = governs word m h within in
    let formed = (asks_roots-keeps m h).ordered.formed in
    let same : n.next_id ≡ m.next_id = ap (λ x. x.next_id) (roots-set m) in
    let given = (rules-give word n formed.peers formed.groups).id in
    let most : (for_each rules (big_rules word) o).machine.next_id ≤ 2 ^ 48 = omega (arith, given, formed.room, same, room) in
    let later : o.next_id ≤ (for_each rules (big_rules word) o).machine.next_id =
    subst (λ effect. o.next_id ≤ effect.machine.next_id) (sym (rules-chain (big_rules word) o)) (rises (orders_of (big_rules word) o) o g.big) in
    record {
      ordinary = all-follow (ordinary_rules word) n g.ordinary (omega (arith, later, most));
      big = all-follow (big_rules word) o g.big most;
    }
