use Rattle.std.proofs.Common.{ℕ, ◌≡◌, ◌^◌, ◌+◌, ◌≤◌, IsTrue, sym, ap, ◌∙◌, subst, arith}
use Rattle.tag_model.specs.Index.{page_index}
use Rattle.tag_model.specs.RefMoves.{reference_to}
use Rattle.tag_model.specs.WordState.{in_range}
use Rattle.tag_rule.specs.Shown.{Board, CellShown}
use Rattle.buddy.proofs.Orders.{shifted}
use Rattle.buddy.proofs.FrameLemmas.{all_within}
use Rattle.page_ext.specs.Blocks.{page_bytes}
use Rattle.page_ext.specs.Shown.{NodeShown, BlockShown, IsNode}
use Rattle.page_ext.specs.Paging.{GivesBlock}
use Rattle.page_ext.proofs.Cells.{free_cells, node_taken}
use Rattle.page_ext.proofs.Gives.{gives_block}
use Rattle.page_ext.proofs.alloc.alloc_pages.Goals as goal

pub part-cell-requires-clause-there : goal.part-cell-requires-clause-there
part-cell-requires-clause-there c =
    let first = c.page_cell-first.ensures.index ∙ ap (λ k. page_index k c.node.inside.cpu c.in-Some.start) c.shape.ensures in
    λ n inside.
    free_cells c.node.inside.cpu c.in-Some.start c.args.order c.page_cell-first.result n c.node.inside.zone c.node.inside.pool c.node.invariant c.in-Some.ensures.least.is.free first
    (subst (λ count. IsTrue (in_range c.page_cell-first.result count n)) (shifted c.args.order c.requires.small) inside)

board_is : (c : goal.After-count_block) → c.node.inside.pool.board ≡ c.args.cpu.now.board
board_is c = ap (λ n. n.board) c.node.view_is ∙ c.requires.table

first_is : (c : goal.After-count_block) → c.page_cell-first.result ≡ page_index c.node.inside.pool.board.shape c.node.inside.cpu c.in-Some.start
first_is c = c.page_cell-first.ensures.index ∙ ap (λ k. page_index k c.node.inside.cpu c.in-Some.start) c.shape.ensures

start_within : (c : goal.After-count_block) → c.in-Some.start + 2 ^ c.args.order ≤ c.node.inside.pool.board.shape.frames
start_within c =
    let few = c.node.invariant.few in
    omega (arith, all_within _ c.node.inside.zone c.in-Some.start c.args.order c.in-Some.ensures.least.is.free)

pub invariant_of-result : goal.invariant_of-result
invariant_of-result c =
    let shape = ap (λ (b : Board). b.shape.frames) (board_is c) in
    let few = c.tell.ensures.checked.few_frames in
    record { small = c.requires.small; aligned = c.in-Some.ensures.least.is.aligned; within = omega (arith, start_within c) }

pub invariant_of-node-in-Some : goal.invariant_of-node-in-Some
invariant_of-node-in-Some c =
    subst (λ frames. IsNode c.node.inside.cpu frames c.part-cell.new.pool) (sym c.in-Some.ensures.taken)
    (node_taken c.node.inside.cpu c.in-Some.start c.args.order c.page_cell-first.result _ c.node.inside.zone c.node.inside.pool c.part-cell.new.pool c.node.invariant c.in-Some.ensures.least.is.free (first_is c)
    (shifted c.args.order c.requires.small) c.part-cell.ensures.pool.0 c.part-cell.ensures.pool.1)

cell_is : (c : goal.After-count_block) → c.count_block.new.cell ≡ record { board = c.node.inside.pool.board; first = c.page_cell-first.result; count = 2 ^ c.args.order; held = reference_to c.args.task.now.current (page_bytes c.args.order) }
cell_is c =
    let counted : CellShown → CellShown = λ cell. record cell { held = reference_to c.args.task.now.current (page_bytes c.args.order) } in
    let with_count : ℕ → CellShown = λ n. record { board = c.node.inside.pool.board; first = c.page_cell-first.result; count = n; held = reference_to c.args.task.now.current (page_bytes c.args.order) } in
    c.count_block.ensures.cell ∙ ap counted c.part-cell.ensures.cell ∙ ap with_count (shifted c.args.order c.requires.small)

pub returns-in-Some-clause-gives : goal.returns-in-Some-clause-gives
returns-in-Some-clause-gives c =
    let after : NodeShown = record { board = c.part-cell.new.pool.board; node = record { cpu = c.node.inside.cpu; frames = c.take.new.self } } in
    let block : BlockShown = record { home = c.node.inside.cpu; frame = c.in-Some.start; order = c.args.order; cell = c.count_block.new.cell } in
    let P : NodeShown → Type 0 = λ node. GivesBlock c.args.task.now.current c.args.order node after c.args.cpu.now c.count_block.new.cpu block in
    subst P c.node.view_is
    (gives_block c.args.task.now.current c.args.order c.in-Some.start c.page_cell-first.result c.node.inside.cpu c.node.inside.pool.board c.part-cell.new.pool.board
    c.node.inside.zone c.take.new.self c.count_block.new.cell c.args.cpu.now c.count_block.new.cpu
    (sym c.in-Some.ensures.value) (cell_is c) (first_is c) (board_is c) c.node.invariant.one (start_within c) c.in-Some.ensures.taken c.part-cell.ensures.pool.0 c.count_block.ensures.cpu)
