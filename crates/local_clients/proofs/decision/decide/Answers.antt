use Rattle.std.proofs.Common.{◌≡◌, Some, sym, ap, subst, ◌∙◌}
use Rattle.local_clients.specs.Agreement.{decides_offer, CanAnswer}
use Rattle.local_clients.proofs.Answerable.{decision_answers}
use Rattle.local_clients.proofs.decision.decide.Goals as goal

pub returns-in-Some-clause-answerable : goal.returns-in-Some-clause-answerable
returns-in-Some-clause-answerable c =
    let is : c.decide_info.result ≡ decides_offer c.args.magic (Some c.in-Some.offer) = c.decide_info.ensures in
    subst CanAnswer (sym (is ∙ ap (decides_offer c.args.magic) (sym c.in-Some.is ∙ c.common_in.ensures))) (decision_answers c.args.magic c.args.table.now)
