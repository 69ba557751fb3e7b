use Rattle.std.proofs.Common.{◌≤◌, length, subst, arith}
use Rattle.std.proofs.lemmas.List.{take_all}
use Rattle.std.proofs.lemmas.List.Elements.{All-more}
use Rattle.info_read.specs.Grammar.{IsInfoRow}
use Rattle.info_read.specs.ReadBack.{info_row, AreInfoRows}
use Rattle.info_read.proofs.laws.are_info_rows.Goals as goal

pub loop-row-preserved : goal.loop-row-preserved
loop-row-preserved c =
    All-more (λ row. IsInfoRow (info_row c.args.sections.now row)) c.args.rows.now c.loop-row.row-index _ (omega arith) c.loop-row.invariant c.is_info_row.ensures

pub returns : goal.returns
returns c =
    let rows = c.args.rows.now in
    let all : length rows ≤ c.loop-row.row-index = omega arith in
    subst (AreInfoRows c.args.sections.now) (take_all c.loop-row.row-index rows all) c.loop-row.invariant
