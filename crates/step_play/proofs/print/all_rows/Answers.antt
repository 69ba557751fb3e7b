use Rattle.std.proofs.Common.{◌≡◌, ◌++◌, List, ap, ◌∙◌}
use Rattle.std.specs.List.{flat_map}
use Rattle.allocinfo.specs.declared.rows.Row.{Row}
use Rattle.step_play.specs.Printed.{module_rows, section_rows}
use Rattle.step_play.specs.Playing.{own_setting}
use Rattle.step_play.proofs.print.all_rows.Goals as goal

pub returns-clause-rows : goal.returns-clause-rows
returns-clause-rows c = λ text p shows.
    let s = own_setting c.args.core.now in
    let len : c.len_of.result ≡ _ = rw c.sections.ensures at c.len_of.ensures.value in
    c.in_ok-push_modules.ensures.rows s text p shows
    ∙ ap (λ (rows : List Row). rows ++ flat_map (module_rows s p.moves) c.args.core.now.modules.list.area.entries)
    (c.in_ok-push_rows.ensures.rows s text p shows ∙ ap (λ (rows : List Row). rows ++ section_rows s p.moves 0 0 c.len_of.result) c.new-rows.ensures.items ∙ ap (section_rows s p.moves 0 0) len)
