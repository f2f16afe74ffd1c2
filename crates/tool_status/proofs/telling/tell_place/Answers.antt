use Rattle.tool_status.proofs.telling.tell_place.Goals as goal

pub returns : goal.returns
returns g c = rw (c.format.ensures.text, c.format-2.ensures.text) at c.put_pieces.ensures
