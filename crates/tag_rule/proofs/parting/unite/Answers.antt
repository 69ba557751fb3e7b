use Rattle.std.proofs.Common.{◌≡◌, ◌||◌, true, ◌==◌, ap, subst, sym, rules, ◌∙◌}
use Rattle.std.specs.Arc.{arc_value}
use Rattle.std.specs.List.{list_any}
use Rattle.tag_model.specs.WordState.{in_range}
use Rattle.tag_rule.specs.Seated.{cells_in}
use Rattle.tag_rule.specs.Shown.{CellShown, has}
use Rattle.tag_rule.specs.Tokens.{cell_shown}
use Rattle.tag_rule.proofs.Keeps.{same_moves}
use Rattle.tag_rule.proofs.Pools.{stand_apart, united, united_holds, united_has, united_apart, pool_after}
use Rattle.tag_rule.proofs.parting.unite.Goals as goal

pub turn-requires-clause-moves : goal.turn-requires-clause-moves
turn-requires-clause-moves c = same_moves _ _

pub turn-requires-clause-tells : goal.turn-requires-clause-tells
turn-requires-clause-tells c = stand_apart _ _

pub invariant_of-pool : goal.invariant_of-pool
invariant_of-pool c =
    let is = united (arc_value c.pool.inside.words) c.pool.inside.seat.me.0 c.cell.inside.seat.me.0 c.unite_seat.new.seat.me.0 (cell_shown c.cell.inside) c.args.pool.now (ap (λ m. m.0) c.pool.invariant.me) c.pool.view_is c.pool.invariant.holds (ap (λ m. m.0) c.cell.invariant.me)
    c.cell.invariant.holds (ap (λ (x : CellShown). x.board) c.cell.view_is ∙ c.requires.table) (ap (λ (x : CellShown). x.held) c.cell.view_is ∙ c.requires.none) (ap (λ m. m.0) c.unite_seat.ensures.seat.1) c.turn.ensures.seat.2 in
    pool_after _ _ _ (search rules) (c.turn.ensures.seat.1 ∙ (λ i. (is i, ap (λ m. m.1) c.unite_seat.ensures.seat.1 i))) (ap (λ m. m.1) c.pool.invariant.me)
    (united_holds (arc_value c.pool.inside.words) c.pool.inside.seat.me.0 c.cell.inside.seat.me.0 c.unite_seat.new.seat.me.0 (cell_shown c.cell.inside) c.args.pool.now (ap (λ m. m.0) c.pool.invariant.me) c.pool.view_is c.pool.invariant.holds (ap (λ m. m.0) c.cell.invariant.me)
    c.cell.invariant.holds (ap (λ (x : CellShown). x.board) c.cell.view_is ∙ c.requires.table) (ap (λ (x : CellShown). x.held) c.cell.view_is ∙ c.requires.none) (ap (λ m. m.0) c.unite_seat.ensures.seat.1) c.turn.ensures.seat.2)

pub returns-clause-pool : goal.returns-clause-pool
returns-clause-pool c = (
  search rules,
  λ n.
      let has_now = united_has (arc_value c.pool.inside.words) c.pool.inside.seat.me.0 c.cell.inside.seat.me.0 c.unite_seat.new.seat.me.0 (cell_shown c.cell.inside) c.args.pool.now (ap (λ m. m.0) c.pool.invariant.me) c.pool.view_is c.pool.invariant.holds (ap (λ m. m.0) c.cell.invariant.me)
      c.cell.invariant.holds (ap (λ (x : CellShown). x.board) c.cell.view_is ∙ c.requires.table) (ap (λ (x : CellShown). x.held) c.cell.view_is ∙ c.requires.none) (ap (λ m. m.0) c.unite_seat.ensures.seat.1) c.turn.ensures.seat.2 n in
      ap (λ m. list_any (λ x. x == n) (cells_in m.0.parts)) c.turn.ensures.seat.1 ∙ subst (λ (x : CellShown). list_any (λ y. y == n) (cells_in c.unite_seat.new.seat.me.0.parts) ≡ (has c.args.pool.now n || in_range x.first x.count n)) c.cell.view_is has_now,
)

pub returns-clause-apart : goal.returns-clause-apart
returns-clause-apart c n inside =
    united_apart (arc_value c.pool.inside.words) c.pool.inside.seat.me.0 c.cell.inside.seat.me.0 c.unite_seat.new.seat.me.0 (cell_shown c.cell.inside) c.args.pool.now (ap (λ m. m.0) c.pool.invariant.me) c.pool.view_is c.pool.invariant.holds (ap (λ m. m.0) c.cell.invariant.me)
    c.cell.invariant.holds (ap (λ (x : CellShown). x.board) c.cell.view_is ∙ c.requires.table) (ap (λ (x : CellShown). x.held) c.cell.view_is ∙ c.requires.none) (ap (λ m. m.0) c.unite_seat.ensures.seat.1) c.turn.ensures.seat.2 n
    (subst (λ (x : CellShown). in_range x.first x.count n ≡ true) (sym c.cell.view_is) inside)
