use Rattle.std.proofs.Common.{take, ◌∙◌}
use Rattle.std.specs.List.{flat_map}
use Rattle.allocinfo.specs.Text.{row_text}
use Rattle.allocinfo.proofs.PrefixLemmas.{err_appended}
use Rattle.allocinfo.proofs.print.write_rows.Goals as goal

pub returns-in_err-write_line-clause-err : goal.returns-in_err-write_line-clause-err
returns-in_err-write_line-clause-err c =
    let lines = flat_map (row_text c.args.sections.now) (take c.loop-row.row-index c.args.rows.now) in
    err_appended c.from_residual.result c.args.out.now.items lines c.write_line.new.out.items
    (c.in_err-write_line.ensures.err ∙ c.loop-row.invariant)
