-- What an operator counts on in every record that a run reaches.
use Rattle.std.specs.Prelude.{◌≡◌, true, All}
use Rattle.laws.specs.Words.{Addr, Machine, live_entry_at, peer_at}
use Rattle.laws.specs.AtMoves.{is_hot_peer}
use Rattle.laws.specs.Laws.{LiveAddressesDistinct, WithinHardLimit, DeadlinesAhead, EstablishedAreUsed, PendingAreCold, UsedAreOutOfBackOff, LocalsAreOrdinary, is_established_peer, is_used_connection}
use Rattle.laws.specs.Moments.{WaitsAhead}
use Rattle.laws.specs.Steady.{IsSteady}

-- Each connection in local use, whatever its phase, has a peer that is warm or hot.
abbrev pub LocalsAreEstablished : Machine → Type 0
LocalsAreEstablished m = All (λ e. e.facts.local ≡ true → is_established_peer (peer_at e.facts.addr m) ≡ true) m.connections

-- Each hot peer has a connection in local use whose handshake is done.
abbrev pub HotAreUsed : Machine → Type 0
HotAreUsed m = (addr : Addr) → is_hot_peer (peer_at addr m) ≡ true → is_used_connection (live_entry_at addr m) ≡ true

pub record IsLawfulRecord (m : Machine) : Type 0 where
  pub steady : IsSteady m
  pub distinct : LiveAddressesDistinct m
  pub hot : HotAreUsed m
  pub local : LocalsAreEstablished m
  pub established : EstablishedAreUsed m
  pub pending : PendingAreCold m
  pub back_off : UsedAreOutOfBackOff m
  pub limit : WithinHardLimit m
  pub deadlines : DeadlinesAhead m
  pub ordinary : LocalsAreOrdinary m
  pub waits : WaitsAhead m
