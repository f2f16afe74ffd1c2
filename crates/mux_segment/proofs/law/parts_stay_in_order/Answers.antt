use Rattle.mux_segment.proofs.Orders.{stay_in_order}
use Rattle.mux_segment.proofs.law.parts_stay_in_order.Goals as goal

pub returns : goal.returns
returns c = stay_in_order
