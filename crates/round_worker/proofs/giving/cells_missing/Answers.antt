use Rattle.std.proofs.Common.{Bor, is_some, ap, sym, ◌∙◌}
use Rattle.std.specs.Prelude.{option_map}
use Rattle.std.proofs.lemmas.Bool.{cond-true, cond-false}
use Rattle.tag_rule.specs.Shown.{CellShown}
use Rattle.slab_cache.specs.Storage.{has_cell}
use Rattle.slab_cache.specs.Shown.{storage_of}
use Rattle.round_worker.proofs.Given.{cell_there}
use Rattle.round_worker.proofs.giving.cells_missing.Goals as goal

pub returns-in-Some-clause-value : goal.returns-in-Some-clause-value
returns-in-Some-clause-value c =
    let stored = c.args.obj.now.stored in
    sym (cond-true (has_cell (storage_of stored)) 0 1 (cell_there stored ∙ ap is_some (sym c.cell.ensures ∙ ap (option_map (λ (cell : Bor CellShown). cell.now)) c.in-Some.is)))

pub returns-in-None-clause-value : goal.returns-in-None-clause-value
returns-in-None-clause-value c =
    let stored = c.args.obj.now.stored in
    sym (cond-false (has_cell (storage_of stored)) 0 1 (cell_there stored ∙ ap is_some (sym c.cell.ensures ∙ ap (option_map (λ (cell : Bor CellShown). cell.now)) c.in-None.is)))
