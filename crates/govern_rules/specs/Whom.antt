-- Which addresses a rule is about, and how its peers are picked.
use Rattle.std.specs.Prelude.{Bool}
use Rattle.net_base.specs.declared.address.Addr.{Addr}
use Rattle.govern_rules.specs.BigRules.{everybody}
use Rattle.govern_rules.specs.Rules.{is_not_local, may_be_dropped}
use Rattle.govern_rules.specs.declared.whom.Whom.{Whom}
use Rattle.govern_rules.specs.declared.whom.Whom.TheVariants.{Everybody, NotLocal, Droppable}

abbrev pub is_meant : Whom → Addr → Bool
is_meant Everybody = everybody
is_meant (NotLocal groups) = is_not_local groups.now
is_meant (Droppable groups roots) = may_be_dropped groups.now roots.now.publics
