use Rattle.std.proofs.Common.{◌≡◌, ◌++◌, ℕ, List, Option, refl, false, sym, ap, subst, ◌∙◌}
use Rattle.std.specs.Prelude.{is_some}
use Rattle.net_base.specs.declared.memory.OutOfMemory.{OutOfMemory}
use Rattle.mux_segment.specs.declared.fault.CutFault.{CutFault}
use Rattle.mux_segment.specs.Segment.{cut_of}
use Rattle.mux_segment.specs.Protocols.{node_limits}
use Rattle.mux_segment.specs.Stream.{decoded, CutterState}
use Rattle.mux_segment.specs.Kept.{AreKept}
use Rattle.mux_segment.proofs.Keeps.{kept_decoded}
use Rattle.mux_segment.proofs.Feeds.{fed_read, fed_stopped}
use Rattle.mux_segment.proofs.Takes.{adds_told}
use Rattle.mux_segment.proofs.cutter.Cutter.read_on.Goals as goal

pub invariant_of-result : goal.invariant_of-result
invariant_of-result c =
    let inside = c.self.inside in
    let segments = (cut_of (inside.rest ++ c.args.bytes.now)).segments in
    subst (AreKept node_limits) (sym c.in-Ok.ensures.parts) (kept_decoded node_limits segments inside.parts c.self.invariant c.in-Ok.ensures.items.0)

pub returns-in-Ok : goal.returns-in-Ok
returns-in-Ok c =
    let inside = c.self.inside in
    let state : CutterState = record { undecoded = record { rest = inside.rest; parts = inside.parts }; fault = inside.fault } in
    let open' : is_some inside.fault ≡ false = ap (λ (o : Option CutFault). is_some o) (ap (λ (s : CutterState). s.fault) c.self.view_is ∙ c.requires) in
    let stream = inside.rest ++ c.args.bytes.now in
    let adds = c.in-Ok.ensures.items in
    rw (← c.self.view_is) (fed_read node_limits state c.args.bytes.now stream open' refl c.args.items.now c.in-Ok.rest c.take_stream.new.parts
    c.take_stream.new.items adds.0 c.in-Ok.ensures.rest c.in-Ok.ensures.parts adds.1)

pub returns-in_ok-fault-in-Err : goal.returns-in_ok-fault-in-Err
returns-in_ok-fault-in-Err c =
    let inside = c.self.inside in
    let state : CutterState = record { undecoded = record { rest = inside.rest; parts = inside.parts }; fault = inside.fault } in
    let open' : is_some inside.fault ≡ false = ap (λ (o : Option CutFault). is_some o) (ap (λ (s : CutterState). s.fault) c.self.view_is ∙ c.requires) in
    let stream = inside.rest ++ c.args.bytes.now in
    let decoded' = decoded node_limits inside.parts (cut_of stream).segments in
    let adds = adds_told (List ℕ) OutOfMemory c.in-Err.stopped c.in_ok-fault-in-Err.field-0 c.args.items.now c.take_stream.new.items decoded'.items decoded'.fault
    c.in_ok-fault-in-Err.ensures c.in-Err.ensures.items in
    rw (← c.self.view_is) (fed_stopped node_limits state c.args.bytes.now stream open' refl c.args.items.now c.in_ok-fault-in-Err.field-0 c.take_stream.new.items
    c.ended.result.0 c.ended.result.1 adds.0 adds.1 c.ended.ensures.cutter c.ended.ensures.told)
