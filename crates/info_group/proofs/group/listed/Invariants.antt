use Rattle.std.proofs.Common.{◌≡◌, ◌++◌, map}
use Rattle.info_group.specs.Tally.{by_name, group_from}
use Rattle.info_group.proofs.TallyLemmas.{named}
use Rattle.info_group.proofs.group.listed.Given as goal

abbrev pub invariant-loop-name : goal.invariant-loop-name
invariant-loop-name l = l.groups.items ++ map group_from (map named l.name-iterator) ≡ map group_from (by_name l.fn.sums)
