-- A pair that agrees across networks, which is refused.
use Rattle.pair_net.specs.Law.{AgreeRightly}
use Rattle.pair_net.specs.Pair.{PairState}
use Rattle.pair_net.specs.Steps.{Machine, Turn, stepped}

-- the right end speaks and hears as if it were of the left one's network
abbrev pub of_one_network : PairState → PairState
of_one_network p = record p { right = record p.right { info = record p.right.info { magic = p.left.info.magic } } }

-- it says of itself what it said before
abbrev pub named_again : PairState → Turn → Turn
named_again p turn = record turn { pair = record turn.pair { right = record turn.pair.right { info = p.right.info } } }

abbrev pub agrees_across_networks : Machine
agrees_across_networks step p = named_again p (stepped step (of_one_network p))

abbrev pub AgreesWrongly : Type 0
AgreesWrongly = AgreeRightly agrees_across_networks → ⊥
