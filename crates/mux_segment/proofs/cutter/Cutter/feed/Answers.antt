use Rattle.std.proofs.Common.{refl}
use Rattle.mux_segment.proofs.Feeds.{put_given}
use Rattle.mux_segment.proofs.cutter.Cutter.feed.Goals as goal

pub returns : goal.returns
returns c = put_given _ _ _ _ _ _ c.in_ok-cutter.ensures c.new-packed.ensures c.in_ok-items.ensures refl
