use Rattle.std.proofs.Common.{◌≡◌, ap, sym, subst, ◌∙◌, arith}
use Rattle.machine.specs.Machine.{Machine, start_of}
use Rattle.laws.specs.Records.{IsLawfulRecord}
use Rattle.laws.specs.Steady.{IsSteady}
use Rattle.laws.proofs.PeerLaws.{steady-lawful}
use Rattle.laws.proofs.WholeRuns.{start-steady}
use Rattle.node_engine.proofs.engine.Engine.new.Goals as goal

pub invariant_of-result : goal.invariant_of-result
invariant_of-result g c =
    let is : c.in-Ok.machine ≡ start_of c.args.settings = c.in-Ok.ensures ∙ c.new.ensures in
    record {
      few_ids = omega (arith, ap (λ (m : Machine). m.next_id) is);
      few_jobs = omega (arith, ap (λ (m : Machine). m.roots.next_job) is);
      steady = subst IsSteady (sym is) (start-steady c.args.settings (sym c.in_default.ensures));
    }

pub returns-clause-record : goal.returns-clause-record
returns-clause-record g c =
    let is : c.in-Ok.machine ≡ start_of c.args.settings = c.in-Ok.ensures ∙ c.new.ensures in
    subst IsLawfulRecord (sym is) (steady-lawful (start_of c.args.settings) (start-steady c.args.settings (sym c.in_default.ensures)))
