use Rattle.local_clients.specs.Replay.{line_means as client_line_means, nobody}
use Rattle.pair_net.specs.Replay.{line_means as pair_line_means, pair_start}
use Rattle.command_run.specs.Lined.{PairIsLawful, ClientsAreLawful}
use Rattle.command_run.proofs.CheckLemmas.{checked-read_on}
use Rattle.command_run.proofs.LineLemmas.{led-read_on}
use Rattle.command_run.proofs.ReplayLemmas.{replayed-read_on}
use Rattle.command_run.proofs.law.readings_come_last.Goals as goal

pub returns-clause-replay : goal.returns-clause-replay
returns-clause-replay c = λ before after status r failed. replayed-read_on before after status r failed

pub returns-clause-check : goal.returns-clause-check
returns-clause-check c = λ before after status r failed. checked-read_on before after status r failed

pub returns-clause-pair : goal.returns-clause-pair
returns-clause-pair c = λ before after status p failed. led-read_on pair_line_means pair_start PairIsLawful before after status p failed

pub returns-clause-clients : goal.returns-clause-clients
returns-clause-clients c = λ rules before after status p failed. led-read_on client_line_means (nobody rules) (ClientsAreLawful rules) before after status p failed
