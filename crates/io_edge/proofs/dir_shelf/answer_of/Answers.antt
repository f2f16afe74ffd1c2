use Rattle.io_edge.proofs.dir_shelf.answer_of.Goals as goal

pub returns-in-Err : goal.returns-in-Err
returns-in-Err g c = c.refusal_of.ensures.reading c.args.limit
