use Rattle.socket_flow.proofs.Order.{keeps_order}
use Rattle.socket_flow.proofs.law.writing_keeps_order.Goals as goal

pub returns : goal.returns
returns c = keeps_order
