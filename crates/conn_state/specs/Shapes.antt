-- What the type of a connection's state says of its facts.
use Rattle.std.specs.Prelude.{◌≡◌, ◌||◌, not, Bool, true, false, None, IsSome}
use Rattle.net_base.specs.declared.connection.Facts.{Facts}
use Rattle.net_base.specs.declared.connection.Grace.TheVariants.{Off}
use Rattle.conn_state.specs.Use.{is_dialing, is_greeting, is_negotiated, is_live, is_outbound, is_duplex, is_for_remote, is_for_local, some_runs}

-- nothing is agreed, nobody uses it, and it is kept for nobody
pub record IsUnused (f : Facts) : Type 0 where
  pub agreed : f.agreed ≡ None
  pub local : f.local ≡ false
  pub remote : some_runs f.running ≡ false
  pub grace : f.grace ≡ Off

-- the handshake is over, and this side uses it or not, the other side uses it or not
pub record IsInUse (by_this by_other : Bool) (f : Facts) : Type 0 where
  pub negotiated : is_negotiated f ≡ true
  pub agreed : IsSome f.agreed
  pub local : f.local ≡ by_this
  pub remote : some_runs f.running ≡ by_other

-- the other side may run protocols on it
abbrev pub serves_remote : Facts → Bool
serves_remote f = not (is_outbound f) || is_duplex f

-- this side may run protocols on it
abbrev pub serves_local : Facts → Bool
serves_local f = is_outbound f || is_duplex f

pub record IsReservedOutbound (f : Facts) : Type 0 where
  pub unused : IsUnused f
  pub dialing : is_dialing f ≡ true
  pub outbound : is_outbound f ≡ true

pub record IsUnnegotiated (f : Facts) : Type 0 where
  pub unused : IsUnused f
  pub greeting : is_greeting f ≡ true

pub record IsOutboundUni (f : Facts) : Type 0 where
  pub used : IsInUse true false f
  pub outbound : is_outbound f ≡ true
  pub unidirectional : is_duplex f ≡ false
  pub grace : f.grace ≡ Off

-- ticking where it is kept for the other side too, and else expired
pub record IsOutboundDup (f : Facts) : Type 0 where
  pub used : IsInUse true false f
  pub duplex : is_duplex f ≡ true
  pub grace : is_for_local f.grace ≡ false

pub record IsInboundIdle (f : Facts) : Type 0 where
  pub used : IsInUse false false f
  pub serves : serves_remote f ≡ true
  pub grace : is_for_remote f.grace ≡ true

pub record IsInbound (f : Facts) : Type 0 where
  pub used : IsInUse false true f
  pub serves : serves_remote f ≡ true
  pub grace : f.grace ≡ Off

pub record IsDuplex (f : Facts) : Type 0 where
  pub used : IsInUse true true f
  pub duplex : is_duplex f ≡ true
  pub grace : f.grace ≡ Off

pub record IsOutboundIdle (f : Facts) : Type 0 where
  pub used : IsInUse false false f
  pub serves : serves_local f ≡ true
  pub grace : is_for_local f.grace ≡ true

pub record IsTerminating (f : Facts) : Type 0 where
  pub unused : IsUnused f
  pub closed : is_live f ≡ false
