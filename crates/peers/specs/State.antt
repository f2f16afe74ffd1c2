-- What is known of peers, and what is wanted of them.
use Rattle.std.specs.Prelude.{List, []}
use Rattle.net_base.specs.Shared.{RootState, first_roots}
use Rattle.net_base.specs.declared.event.Group.{Group}
use Rattle.net_base.specs.declared.peer.Peer.{Peer}
use Rattle.net_base.specs.declared.targets.BigTargets.{BigTargets}
use Rattle.net_base.specs.declared.targets.Targets.{Targets}

pub record PeerState : Type 0 where
  pub targets : Targets
  pub big_targets : BigTargets
  pub groups : List Group
  pub roots : RootState
  -- in order of address
  pub peers : List Peer

-- nobody is known, and nobody is wanted
abbrev pub nobody : PeerState
nobody = record {
  targets = record { root = 0; known = 0; established = 0; active = 0 };
  big_targets = record { known = 0; established = 0; active = 0 };
  groups = [];
  roots = first_roots;
  peers = [];
}
