use Rattle.std.proofs.Common.{◌≡◌, ◌≤◌, length}
use Rattle.shared_table.specs.Seats.{IsAt}
use Rattle.connection_tests.proofs.tests.shared.ask_all.Given as goal

abbrev pub invariant-loop-entry : goal.invariant-loop-entry
invariant-loop-entry g l = record {
  out_here : IsAt g.L.Ledger.parts l.fn.table l.out;
  in_here : IsAt g.M.Ledger.parts l.fn.table l.inn;
  few_out : length l.out.noted ≤ l.entry-index;
  few_in : length l.inn.noted ≤ l.entry-index;
}
