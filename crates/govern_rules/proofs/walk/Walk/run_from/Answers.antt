use Rattle.std.proofs.Common.{◌≡◌, ◌+◌, List, drop, sym, subst, arith, rules}
use Rattle.govern_rules.specs.Walks.{IsRunFrom}
use Rattle.govern_rules.specs.declared.link.Link.{Link}
use Rattle.govern_rules.proofs.Walking.{run-later}
use Rattle.govern_rules.proofs.walk.Walk.run_from.Goals as goal

pub returns-in-Some-clause-front : goal.returns-in-Some-clause-front
returns-in-Some-clause-front c =
    let links : List Link = c.self.inside.links.now in
    let place = c.self.inside.place in
    let at : place + c.in-Some.passed ≡ c.args.place = search rules in
    let later = run-later links c.self.inside.run.now place c.in-Some.passed c.self.invariant.front (omega arith) in
    let here = subst (λ n. IsRunFrom n links (drop c.in-Some.passed c.self.inside.run.now)) at later in
    let back = subst (λ run. IsRunFrom c.args.place links run) (sym c.split_at.ensures.back) here in
    subst (λ l. IsRunFrom c.args.place l c.split_at.result.1.now) c.self.view_is back
