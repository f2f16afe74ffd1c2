use Rattle.std.proofs.Common.{sym}
use Rattle.mux_segment.specs.Protocols.{node_limits}
use Rattle.mux_segment.proofs.Feeds.{fed_ended}
use Rattle.mux_segment.proofs.cutter.Cutter.feed_into.Goals as goal

pub returns-then-is_some : goal.returns-then-is_some
returns-then-is_some c =
    rw (← c.self.view_is) (fed_ended node_limits _ c.args.bytes.now c.args.items.now (sym c.if-is_some.ensures))
