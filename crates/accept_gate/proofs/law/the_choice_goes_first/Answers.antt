use Rattle.accept_gate.proofs.Choices.{first_to_go-law}
use Rattle.accept_gate.proofs.law.the_choice_goes_first.Goals as goal

pub returns : goal.returns
returns c = first_to_go-law
