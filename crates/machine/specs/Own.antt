-- What a node says of itself in the handshake.
use Rattle.std.specs.Prelude.{false, ◌==◌}
use Rattle.hs_message.specs.declared.info.VersionInfo.{VersionInfo}
use Rattle.net_base.specs.declared.settings.Settings.{Settings}

-- it never asks what the other side offers
abbrev pub own_info : Settings → VersionInfo
own_info s = record {
  magic = s.magic;
  initiator_only = s.initiator_only == 1;
  sharing = s.sharing == 1;
  query = false;
}
