use Rattle.tool_status.proofs.telling.tell_file_fault.Goals as goal

pub returns : goal.returns
returns g c = rw c.name.ensures at c.put_pieces.ensures
