use Rattle.std.proofs.Common.{take}
use Rattle.std.specs.List.{flat_map}
use Rattle.allocinfo.proofs.PrefixLemmas.{err_through}
use Rattle.info_group.specs.Text.{group_text}
use Rattle.info_group.proofs.print.print_groups.Goals as goal

pub returns-in_err-write_group-clause-err : goal.returns-in_err-write_group-clause-err
returns-in_err-write_group-clause-err c =
    err_through c.from_residual.result c.args.out.now.items (flat_map group_text (take c.loop-group.group-index c.args.groups.now))
    c.loop-group.out.items c.write_group.new.out.items c.loop-group.invariant c.in_err-write_group.ensures.err
