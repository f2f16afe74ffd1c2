-- How far the other side uses a connection.
use Rattle.std.specs.Prelude.{if◌then◌else◌}
use Rattle.conn_state.specs.Use.{is_negotiated, some_hot_runs, some_runs}
use Rattle.net_base.specs.declared.connection.Facts.{Facts}
use Rattle.remote_watch.specs.declared.temperature.RemoteTemp.{RemoteTemp}
use Rattle.remote_watch.specs.declared.temperature.RemoteTemp.TheVariants.{Cold, Idle, Warm, Hot}

abbrev pub remote_temp_of : Facts → RemoteTemp
remote_temp_of f =
    if some_hot_runs f.running then Hot
    else if some_runs f.running then Warm
    else if is_negotiated f then Idle
    else Cold
