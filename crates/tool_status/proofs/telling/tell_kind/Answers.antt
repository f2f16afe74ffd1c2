use Rattle.tool_status.proofs.telling.tell_kind.Goals as goal

pub returns : goal.returns
returns g c = rw c.format.ensures.text at c.put_pieces.ensures
