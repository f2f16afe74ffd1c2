-- What users of the book need of its order.
use Rattle.std.proofs.Common.{◌≡◌, false, List, [], ◌∷◌, map}
use Rattle.std.specs.List.{AllByRecursion, IsDistinct}
use Rattle.net_base.specs.Address.{same_address}
use Rattle.net_base.specs.declared.address.Addr.{Addr}
use Rattle.peer_book.specs.Order.{IsRising}
use Rattle.net_base.proofs.AddressOrder.{other_when_below}
use Rattle.peer_book.proofs.Rising.{AllAbove}

others : {X : Type 0} (key : X → Addr) (a : Addr) (xs : List X) → AllAbove key a xs →
    AllByRecursion (λ b. same_address a b ≡ false) (map key xs)
others key a [] h = tt
others key a (x ∷ xs) h = (other_when_below a (key x) h.0, others key a xs h.1)

-- things in address order have distinct addresses
pub IsDistinct-rising : {X : Type 0} (key : X → Addr) (xs : List X) → IsRising key xs → IsDistinct same_address (map key xs)
unfolding IsDistinct
IsDistinct-rising key [] h = tt
IsDistinct-rising key (x ∷ xs) h = (others key (key x) xs h.0, IsDistinct-rising key xs h.1)
