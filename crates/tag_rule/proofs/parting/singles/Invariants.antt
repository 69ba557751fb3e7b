use Rattle.std.proofs.Common.{◌≡◌, ◌<◌, ◌++◌}
use Rattle.tag_model.specs.declared.state.Held.TheVariants as held
use Rattle.tag_rule.specs.Singles.{single_cells}
use Rattle.tag_rule.proofs.parting.singles.Given as goal

-- the cells so far, and those of what is left, are all
abbrev pub invariant-loop-rest : goal.invariant-loop-rest
invariant-loop-rest l = record {
  all : l.cells.items ++ single_cells l.rest ≡ single_cells l.fn.run;
  table : l.rest.board ≡ l.cpu.board;
  none : l.rest.held ≡ held.None;
  some : 0 < l.rest.count;
}

abbrev pub decreases-loop-rest : goal.decreases-loop-rest
decreases-loop-rest l = l.rest.count
