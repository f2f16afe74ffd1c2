use Rattle.pair_net.proofs.Hears.{heard_is}
use Rattle.pair_net.proofs.hearing.hear.Goals as goal

pub returns-clause-heard : goal.returns-clause-heard
returns-clause-heard c =
    heard_is c.args.role c.args.near.now.info c.args.near.now.stream c.replace-stream.result c.in_ok-stream.stream c.args.bytes.now c.in_ok-stream.fed c.as_slice.result.now c.hear_first.result
    c.replace-stream.ensures.value c.in_ok-stream.ensures c.as_slice.ensures c.hear_first.ensures.heard
