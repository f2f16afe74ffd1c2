use Rattle.io_edge.proofs.ToldLemmas.{TakesFront-whole, TakesFront-part}
use Rattle.trace_meaning.proofs.putting.put_pending.Goals as goal

pub returns-in-Ok-clause-whole : goal.returns-in-Ok-clause-whole
returns-in-Ok-clause-whole g c = TakesFront-whole _ _ _ _ c.put.ensures.front c.in-Ok.ensures.whole

pub returns-in-Err-clause-part : goal.returns-in-Err-clause-part
returns-in-Err-clause-part g c = TakesFront-part _ _ _ _ c.put.ensures.front c.in-Err.ensures.part
