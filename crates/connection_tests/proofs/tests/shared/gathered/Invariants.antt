use Rattle.connection_tests.proofs.tests.shared.gathered.Given as goal

abbrev pub ghosts-gathered_after-L-Ledger : goal.ghosts-gathered_after-L-Ledger
ghosts-gathered_after-L-Ledger g a = record { name = a.outs.name; parts = a.outs.parts }

abbrev pub ghosts-gathered_after-M-Ledger : goal.ghosts-gathered_after-M-Ledger
ghosts-gathered_after-M-Ledger g a = record { name = a.ins.name; parts = a.ins.parts }
