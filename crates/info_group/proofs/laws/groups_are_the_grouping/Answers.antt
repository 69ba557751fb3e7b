use Rattle.info_group.proofs.GroupingLemmas.{IsGrouping-groups_of, no_other_grouping}
use Rattle.info_group.proofs.laws.groups_are_the_grouping.Goals as goal

pub returns-clause-grouping : goal.returns-clause-grouping
returns-clause-grouping c = IsGrouping-groups_of

pub returns-clause-no_other : goal.returns-clause-no_other
returns-clause-no_other c = no_other_grouping
