use Rattle.std.proofs.Common.{◌≡◌, ◌<◌, ◌≤◌, All, None, length, ap, sym, ◌∙◌, subst, arith}
use Rattle.tag_model.specs.declared.shape.Shape.{Shape}
use Rattle.tag_rule.specs.declared.making.Seats.{Seats}
use Rattle.tag_rule.specs.Made.{AreFresh}
use Rattle.tag_rule.specs.Shown.{Board, CellShown, CpuShown}
use Rattle.tag_rule.proofs.OneByOne.{singles_there}
use Rattle.tag_rule.proofs.NewTable.{cpu_at, cpus_long, list_there, pages_long, pool_has, run_there}
use Rattle.percpu_words.proofs.tests.desk.new_plant.Goals as goal

kernel_there : (k : Shape) (s : Seats) (f : AreFresh k s) → 3 < k.kernel_tags → k.kernel_tags ≤ k.tags → (3 < s.list.board.shape.kernel_tags) × (3 < s.list.board.shape.tags)
kernel_there k s f some few =
    let same : s.list.board.shape ≡ k = ap (λ (b : Board). b.shape) (list_there k s f) ∙ f.shape in
    subst (λ (shape : Shape). (3 < shape.kernel_tags) × (3 < shape.tags)) (sym same) (some, omega (arith, some, few))

cpus_there : (k : Shape) (s : Seats) (f : AreFresh k s) → All (λ (c : CpuShown). (c.board ≡ s.list.board) × (c.part.hand ≡ None)) s.cpus.items
cpus_there k s f i d low =
    let is = cpu_at k s f i d low in
    (ap (λ (c : CpuShown). c.board) is ∙ sym (list_there k s f), ap (λ (c : CpuShown). c.part.hand) is)

pub part-run-requires-clause-there : goal.part-run-requires-clause-there
part-run-requires-clause-there c n h =
    pool_has c.args.shape c.in_ok-cpus.field-0 c.in_ok-cpus.ensures c.index_mut.result.now c.page_cell.result c.args.count n c.requires.checked.some_cpu c.index_mut.ensures.value c.page_cell.ensures.index c.requires.few h

pub index_mut-requires : goal.index_mut-requires
index_mut-requires c = let long = pages_long c.args.shape c.in_ok-cpus.field-0 c.in_ok-cpus.ensures in
    let low : 0 < c.in_ok-cpus.field-0.pages.len = omega (arith, long, c.in_ok-cpus.field-0.pages.ok.0, c.requires.checked.some_cpu) in
    low

pub index-requires : goal.index-requires
index-requires c = let long = cpus_long c.args.shape c.in_ok-cpus.field-0 c.in_ok-cpus.ensures in
    let low : 0 < c.in_ok-cpus.field-0.cpus.len = omega (arith, long, c.in_ok-cpus.field-0.cpus.ok.0, c.requires.checked.some_cpu) in
    low

pub singles-requires-clause-table : goal.singles-requires-clause-table
singles-requires-clause-table c =
    let long : length c.in_ok-cpus.field-0.cpus.items ≡ c.args.shape.cpus = cpus_long c.args.shape c.in_ok-cpus.field-0 c.in_ok-cpus.ensures in
    run_there c.args.shape c.in_ok-cpus.field-0 c.in_ok-cpus.ensures c.index_mut.result.now c.part-run.result c.requires.checked.some_cpu c.index_mut.ensures.value (ap (λ (cell : CellShown). cell.board) c.part-run.ensures.cell)
    ∙ list_there c.args.shape c.in_ok-cpus.field-0 c.in_ok-cpus.ensures
    ∙ sym (ap (λ (cpu : CpuShown). cpu.board) (c.index.ensures ∙ cpu_at c.args.shape c.in_ok-cpus.field-0 c.in_ok-cpus.ensures 0 c.index.result.now (omega (arith, long, c.requires.checked.some_cpu))))

pub singles-requires-clause-none : goal.singles-requires-clause-none
singles-requires-clause-none c = ap (λ (cell : CellShown). cell.held) c.part-run.ensures.cell

pub invariant_of-result : goal.invariant_of-result
invariant_of-result c =
    let k = c.args.shape in
    let s = c.in_ok-cpus.field-0 in
    let f = c.in_ok-cpus.ensures in
    let run = run_there k s f c.index_mut.result.now c.part-run.result c.requires.checked.some_cpu c.index_mut.ensures.value (ap (λ (cell : CellShown). cell.board) c.part-run.ensures.cell) in
    record {
      kernel = kernel_there k s f c.requires.kernel c.requires.checked.few_kernel_tags;
      cpus_there = cpus_there k s f;
      cells_there = singles_there s.list.board c.part-run.result c.in_ok-cells.cells.items c.in_ok-cells.ensures run;
    }
