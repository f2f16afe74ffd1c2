use Rattle.pair_net.proofs.Led.{lawful_after}
use Rattle.pair_net.proofs.law.led_pairs_are_lawful.Goals as goal

pub returns : goal.returns
returns c = lawful_after
