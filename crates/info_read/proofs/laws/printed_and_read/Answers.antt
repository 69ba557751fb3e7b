use Rattle.std.proofs.Common.{◌++◌, ap, ◌∙◌}
use Rattle.allocinfo.specs.Text.{rows_text}
use Rattle.info_read.proofs.BackLemmas.{reads_back, reads_only}
use Rattle.info_read.proofs.laws.printed_and_read.Goals as goal

pub returns-clause-ok : goal.returns-clause-ok
returns-clause-ok c =
    let printed = rows_text c.args.sections.now c.args.rows.now in
    let text = c.deref.ensures.value ∙ c.in_ok-print_rows.ensures.ok ∙ ap (λ front. front ++ printed) c.new-text.ensures.items in
    reads_back c.args.sections.now c.args.rows.now c.deref.result.now c.read_info.result text c.requires.rows c.are_info_rows.ensures c.read_info.ensures.rows

pub returns-clause-err : goal.returns-clause-err
returns-clause-err c =
    let printed = rows_text c.args.sections.now c.args.rows.now in
    let text = c.deref.ensures.value ∙ c.in_ok-print_rows.ensures.ok ∙ ap (λ front. front ++ printed) c.new-text.ensures.items in
    reads_only c.args.sections.now c.args.rows.now c.deref.result.now c.read_info.result text c.requires.rows c.are_info_rows.ensures c.read_info.ensures.rows
