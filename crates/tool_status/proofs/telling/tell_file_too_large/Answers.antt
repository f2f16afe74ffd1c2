use Rattle.tool_status.proofs.telling.tell_file_too_large.Goals as goal

pub returns : goal.returns
returns g c = rw (c.name.ensures, c.format.ensures.text) at c.put_pieces.ensures
