use Rattle.std.proofs.Common.{sym, subst}
use Rattle.hs_decide.specs.Answers.{CanAnswer}
use Rattle.hs_receive.proofs.Answerable.{verdict-answers}
use Rattle.hs_receive.proofs.receiving.receive_message.Goals as goal

pub returns-then-fits_side-clause-answerable : goal.returns-then-fits_side-clause-answerable
returns-then-fits_side-clause-answerable c = subst CanAnswer (sym c.decide.ensures) (verdict-answers c.args.role c.args.own.now c.args.message.now)
