-- That a record is steady has one proof at most, so a struct may keep it.
use Rattle.std.specs.Prelude.{ℕ, List, [], ◌∷◌, Option, Some, None}
use Rattle.laws.specs.Words.{×_prop, Unit-prop, Addr, Peer, Machine, Entry}
use Rattle.std.proofs.Props.{props}
use Rattle.laws.specs.Steady.{ArePeersApart, AreApart, TiedBy, IsSteady}

ArePeersApart-prop : (peers : List Peer) → IsProp (ArePeersApart peers)
ArePeersApart-prop [] = Unit-prop
ArePeersApart-prop (p ∷ peers) = ×_prop (hlevel props) (ArePeersApart-prop peers)

AreApart-prop : (addrs : List Addr) → IsProp (AreApart addrs)
AreApart-prop [] = Unit-prop
AreApart-prop (a ∷ addrs) = ×_prop (hlevel props) (AreApart-prop addrs)

TiedBy-prop : (now : ℕ) (o : Option Peer) (e : Option Entry) → IsProp (TiedBy now o e)
TiedBy-prop now None None = Unit-prop
TiedBy-prop now (Some p) None = hlevel props
TiedBy-prop now None (Some e) = hlevel props
TiedBy-prop now (Some p) (Some e) = hlevel props

pub IsSteady-prop : (m : Machine) → IsProp (IsSteady m)
IsSteady-prop m = hlevel (props, ArePeersApart-prop, AreApart-prop, TiedBy-prop)
