use Rattle.connection_tests.proofs.tests.shared.two_governors_at_once.Given as goal

abbrev pub ghosts-at_once-L-Ledger : goal.ghosts-at_once-L-Ledger
ghosts-at_once-L-Ledger g a = record { name = a.outs.name; parts = a.outs.parts }

abbrev pub ghosts-at_once-M-Ledger : goal.ghosts-at_once-M-Ledger
ghosts-at_once-M-Ledger g a = record { name = a.ins.name; parts = a.ins.parts }
