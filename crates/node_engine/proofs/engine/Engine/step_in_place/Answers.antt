use Rattle.std.proofs.Common.{ap, sym, subst, arith}
use Rattle.machine.specs.Machine.{Machine}
use Rattle.machine.specs.Step.{step}
use Rattle.laws.specs.Records.{IsLawfulRecord}
use Rattle.laws.specs.Steady.{IsSteady, GivesFew}
use Rattle.laws.proofs.Ids.{step-few}
use Rattle.laws.proofs.PartEvents.{event-lawful}
use Rattle.laws.proofs.PeerLaws.{steady-lawful}
use Rattle.laws.proofs.WholeEvents.{step-steady}
use Rattle.node_engine.proofs.engine.Engine.step_in_place.Goals as goal

-- each event keeps what is steady
pub invariant_of-self : goal.invariant_of-self
invariant_of-self g c =
    let m : Machine = c.args.self.now.machine in
    let few : GivesFew m (step m c.args.event.now).machine = step-few m c.args.event.now c.args.self.now.steady.formed in
    record {
      few_ids = omega (arith, c.args.self.now.few_ids, few.ids, ap (λ (n : Machine). n.next_id) c.in-Ok.ensures.machine);
      few_jobs = omega (arith, c.args.self.now.few_jobs, few.jobs, ap (λ (n : Machine). n.roots.next_job) c.in-Ok.ensures.machine);
      steady = subst IsSteady (sym c.in-Ok.ensures.machine) (step-steady m c.args.event.now c.args.self.now.steady).steady;
    }

pub returns-in-Ok-clause-numbers : goal.returns-in-Ok-clause-numbers
returns-in-Ok-clause-numbers g c =
    subst (GivesFew c.args.self.now.machine) (sym c.in-Ok.ensures.machine) (step-few c.args.self.now.machine c.args.event.now c.args.self.now.steady.formed)

pub returns-in-Ok-clause-record : goal.returns-in-Ok-clause-record
returns-in-Ok-clause-record g c =
    subst IsLawfulRecord (sym c.in-Ok.ensures.machine)
    (steady-lawful (step c.args.self.now.machine c.args.event.now).machine (step-steady c.args.self.now.machine c.args.event.now c.args.self.now.steady).steady)

pub returns-in-Ok-clause-event : goal.returns-in-Ok-clause-event
returns-in-Ok-clause-event g c = event-lawful c.args.self.now.machine c.args.event.now c.args.self.now.steady
