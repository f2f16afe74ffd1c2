use Rattle.std.proofs.Common.{rules}
use Rattle.std.proofs.lemmas.Fn.{filter_same}
use Rattle.prune_order.proofs.grow.drop_gone.Goals as goal

pub returns-clause-leaves : goal.returns-clause-leaves
returns-clause-leaves c = filter_same _ _ _ (λ x b f' k. search rules) _ _ c.retain.ensures.filtered
