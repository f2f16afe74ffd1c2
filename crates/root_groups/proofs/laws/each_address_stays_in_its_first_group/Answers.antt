use Rattle.root_groups.proofs.Apart.{distinct_with_own}
use Rattle.root_groups.proofs.FirstGroups.{group_of-cleaned, without_members-cleaned}
use Rattle.root_groups.proofs.laws.each_address_stays_in_its_first_group.Goals as goal

pub returns-clause-distinct : goal.returns-clause-distinct
returns-clause-distinct c = distinct_with_own

pub returns-clause-first : goal.returns-clause-first
returns-clause-first c = group_of-cleaned

pub returns-clause-valencies : goal.returns-clause-valencies
returns-clause-valencies c = without_members-cleaned
