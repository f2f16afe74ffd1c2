use Rattle.local_clients.specs.Replay.{line_means as client_line_means, nobody}
use Rattle.pair_net.specs.Replay.{line_means as pair_line_means, pair_start}
use Rattle.command_run.specs.Lined.{PairIsLawful, ClientsAreLawful}
use Rattle.command_run.proofs.CheckLemmas.{checked-comes}
use Rattle.command_run.proofs.CommandLemmas.{causes}
use Rattle.command_run.proofs.DrillLemmas.{drilled-comes}
use Rattle.command_run.proofs.LineLemmas.{led-comes}
use Rattle.command_run.proofs.ReplayLemmas.{replayed-comes}
use Rattle.command_run.proofs.law.commands_answer_as_due.Goals as goal

pub returns-clause-replay : goal.returns-clause-replay
returns-clause-replay c = λ before after status r. replayed-comes before after status r

pub returns-clause-check : goal.returns-clause-check
returns-clause-check c = λ before after status r. checked-comes before after status r c.outputs_agree.ensures

pub returns-clause-pair : goal.returns-clause-pair
returns-clause-pair c = λ before after status p. led-comes pair_line_means pair_start PairIsLawful before after status p

pub returns-clause-clients : goal.returns-clause-clients
returns-clause-clients c = λ rules before after status p. led-comes client_line_means (nobody rules) (ClientsAreLawful rules) before after status p

pub returns-clause-drill : goal.returns-clause-drill
returns-clause-drill c = λ seed count before after status r. drilled-comes seed count before after status r (c.drills_are_lawful.ensures.counted seed count)

pub returns-clause-causes : goal.returns-clause-causes
returns-clause-causes c = λ command before after status d. causes before after status command d
