use Rattle.std.proofs.Common.{ℕ, ◌≤◌, take, map}
use Rattle.shared_table.specs.Ends.{GrewBy}
use Rattle.shared_table.specs.Seats.{IsAt}
use Rattle.shared_table.specs.declared.call.TableCall.TheVariants as made
use Rattle.shared_table.proofs.work.work_out.Given as goal

abbrev pub invariant-loop-place : goal.invariant-loop-place
invariant-loop-place g l = record {
  here : IsAt g.L.Ledger.parts l.fn.table l.seat;
  grew : GrewBy (take l.place (map (λ call. made.Out call) l.call-items)) l.fn.seat.noted l.seat.noted;
  later : (n : ℕ) → g.G.Gate.noes l.fn.gate n ≤ g.G.Gate.noes l.gate n;
}
