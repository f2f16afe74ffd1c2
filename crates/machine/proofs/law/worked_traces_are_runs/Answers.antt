use Rattle.machine.proofs.Worked.{all_run}
use Rattle.machine.proofs.law.worked_traces_are_runs.Goals as goal

pub returns-clause-handshakes : goal.returns-clause-handshakes
returns-clause-handshakes c = all_run.handshakes

pub returns-clause-responders : goal.returns-clause-responders
returns-clause-responders c = all_run.responders

pub returns-clause-outbound : goal.returns-clause-outbound
returns-clause-outbound c = all_run.outbound

pub returns-clause-crossings : goal.returns-clause-crossings
returns-clause-crossings c = all_run.crossings

pub returns-clause-limits : goal.returns-clause-limits
returns-clause-limits c = all_run.limits

pub returns-clause-governor : goal.returns-clause-governor
returns-clause-governor c = all_run.governor

pub returns-clause-sharing : goal.returns-clause-sharing
returns-clause-sharing c = all_run.sharing

pub returns-clause-big_peers : goal.returns-clause-big_peers
returns-clause-big_peers c = all_run.big_peers

pub returns-clause-distinct : goal.returns-clause-distinct
returns-clause-distinct c = all_run.distinct

pub returns-clause-distinct_peers : goal.returns-clause-distinct_peers
returns-clause-distinct_peers c = all_run.distinct_peers

pub returns-clause-lasting : goal.returns-clause-lasting
returns-clause-lasting c = all_run.lasting

pub returns-clause-laws : goal.returns-clause-laws
returns-clause-laws c = all_run.laws
