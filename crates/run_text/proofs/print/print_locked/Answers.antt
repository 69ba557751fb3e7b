use Rattle.std.proofs.Common.{◌∙◌, List, sym, subst}
use Rattle.allocinfo.specs.Text.{AreRows}
use Rattle.allocinfo.specs.declared.rows.Row.{Row}
use Rattle.tag_section.specs.Section.{Section}
use Rattle.run_text.specs.Rows.{quiet_rows}
use Rattle.run_text.proofs.PlaceLemmas.{rows_fit}
use Rattle.run_text.proofs.print.print_locked.Goals as goal

pub print_some-requires : goal.print_some-requires
print_some-requires c =
    let l = c.args.locked.now in
    let rows = quiet_rows c.args.kept l c.args.cpus.now in
    subst (λ (rs : List Row). AreRows c.sections.result.now rs) (sym (c.as_slice.ensures.value ∙ c.in_ok-rows.ensures.rows))
    (subst (λ (s : List Section). AreRows s rows) (sym c.sections.ensures.value) (rows_fit c.args.kept l c.args.cpus.now c.sections.ensures.holds c.requires.modules))
