use Rattle.warm_messages.proofs.Written.{alive_written, request_written, peers_written}
use Rattle.warm_messages.proofs.law.writing_is_spelling.Goals as goal

pub returns : goal.returns
returns c = record { alive = alive_written; request = request_written; peers = peers_written }
