use Rattle.std.proofs.Common.{◌≡◌, IfSome, sym, subst}
use Rattle.mux_segment.specs.Protocols.{node_limits}
use Rattle.mux_segment.specs.Stream.{CutterState, fed_by}
use Rattle.net_base.specs.Shared.{nothing_undecoded}
use Rattle.connections.proofs.TalkFeeds.{nothing_left}
use Rattle.connections.proofs.talk.feed_cutter.Goals as goal

pub next_cutter-cutter-requires-clause-empty : goal.next_cutter-cutter-requires-clause-empty
next_cutter-cutter-requires-clause-empty c =
    subst (λ o. IfSome o (λ f. c.in_ok-cutter.cutter.undecoded ≡ nothing_undecoded)) (sym c.in_ok-cutter.ensures.fault)
    (subst (λ (s : CutterState). IfSome (fed_by node_limits c.args.cutter c.args.bytes.now).state.fault (λ f. s.undecoded ≡ nothing_undecoded))
    (sym c.in_ok-cutter.ensures.state) (nothing_left node_limits c.args.cutter c.args.bytes.now c.requires))
