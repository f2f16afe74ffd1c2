use Rattle.socket_flow.proofs.Single.{has_one_socket}
use Rattle.socket_flow.proofs.law.has_one_socket.Goals as goal

pub returns : goal.returns
returns c = has_one_socket
