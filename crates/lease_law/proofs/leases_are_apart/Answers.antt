use Rattle.lease_law.specs.Leases.{at_first}
use Rattle.lease_law.proofs.Apart.{Inv-run, Inv-first, asks-enough}
use Rattle.lease_law.proofs.leases_are_apart.Goals as goal

pub returns-clause-asked : goal.returns-clause-asked
returns-clause-asked c call held asks gives = asks-enough call held asks gives

pub returns-clause-apart : goal.returns-clause-apart
returns-clause-apart c settings calls can = (Inv-run calls (at_first settings) can (Inv-first settings)).apart
