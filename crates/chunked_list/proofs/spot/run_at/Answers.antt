use Rattle.std.proofs.Common.{ap, ◌∙◌, drop, arith}
use Rattle.chunked_list.proofs.Runs.{run_is}
use Rattle.chunked_list.proofs.spot.run_at.Goals as goal

pub returns-clause-front : goal.returns-clause-front
returns-clause-front g c =
    let cs = c.args.chunks.now in
    let i = c.args.spot.chunk in
    let at = c.args.spot.at in
    let d = c.index-chunks-spot.result in
    run_is cs i at d c.requires.chunk (omega (arith, c.requires.at d)) c.split_at.result.1.now
    (c.split_at.ensures.back ∙ ap (drop at) c.deref.ensures.value)
