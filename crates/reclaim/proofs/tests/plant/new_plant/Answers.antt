use Rattle.std.proofs.Common.{◌≡◌, ℕ, ◌<◌, All, List, [], ◌∷◌, length, map, refl, ap, sym, ◌∙◌, subst, arith}
use Rattle.std.specs.List.{range_with_len}
use Rattle.tag_model.specs.declared.shape.Shape.{Shape}
use Rattle.tag_rule.specs.declared.making.Seats.{Seats}
use Rattle.tag_rule.specs.Fresh.{fresh_cpu}
use Rattle.tag_rule.specs.Made.{AreFresh}
use Rattle.tag_rule.specs.Shown.{Board, CellShown, CpuShown, PassShown}
use Rattle.tag_rule.proofs.OneByOne.{singles_there}
use Rattle.tag_rule.proofs.NewTable.{cpu_at, cpus_long, list_there, pages_long, pool_has, run_there}
use Rattle.reclaim.specs.State.{LockedShown}
use Rattle.reclaim.proofs.tests.plant.new_plant.Goals as goal

cpus_there : (k : Shape) (s : Seats) (f : AreFresh k s) → All (λ (c : CpuShown). c.board ≡ s.list.board) s.cpus.items
cpus_there k s f i d low = ap (λ (c : CpuShown). c.board) (cpu_at k s f i d low) ∙ sym (list_there k s f)

-- the CPUs are numbered from 0 on
numbers : (b : Board) (ns : List ℕ) → map (λ (c : CpuShown). c.part.number) (map (λ n. let c : CpuShown = record { board = b; part = fresh_cpu b.shape n } in c) ns) ≡ ns
numbers b [] = refl
numbers b (n ∷ ns) = ap (λ xs. n ∷ xs) (numbers b ns)

cpus_all : (k : Shape) (s : Seats) (f : AreFresh k s) → map (λ (c : CpuShown). c.part.number) s.cpus.items ≡ range_with_len 0 s.list.board.shape.cpus
cpus_all k s f =
    ap (map (λ (c : CpuShown). c.part.number)) f.cpus ∙ (numbers f.board (range_with_len 0 f.board.shape.cpus) ∙ ap (λ (b : Board). range_with_len 0 b.shape.cpus) (sym (list_there k s f)))

abbrev shape_of : ℕ → Shape
shape_of cpus = record { cpus = cpus; tags = 5; kernel_tags = 1; frames = 512; vectors = 0 }

pub part-run-requires-clause-there : goal.part-run-requires-clause-there
part-run-requires-clause-there c n h =
    pool_has (shape_of c.args.cpus) c.in_ok-seats.seats c.in_ok-seats.ensures c.index_mut.result.now c.page_cell.result c.args.cells n c.requires.cpus.0 c.index_mut.ensures.value c.page_cell.ensures.index c.requires.cells.1 h

pub index_mut-requires : goal.index_mut-requires
index_mut-requires c = let long = pages_long (shape_of c.args.cpus) c.in_ok-seats.seats c.in_ok-seats.ensures in
    let low : 0 < c.in_ok-seats.seats.pages.len = omega (arith, long, c.in_ok-seats.seats.pages.ok.0, c.requires.cpus.0) in
    low

pub index-requires : goal.index-requires
index-requires c = let long = cpus_long (shape_of c.args.cpus) c.in_ok-seats.seats c.in_ok-seats.ensures in
    let low : 0 < c.in_ok-seats.seats.cpus.len = omega (arith, long, c.in_ok-seats.seats.cpus.ok.0, c.requires.cpus.0) in
    low

pub singles-requires-clause-table : goal.singles-requires-clause-table
singles-requires-clause-table c =
    let long : length c.in_ok-seats.seats.cpus.items ≡ c.args.cpus = cpus_long (shape_of c.args.cpus) c.in_ok-seats.seats c.in_ok-seats.ensures in
    run_there (shape_of c.args.cpus) c.in_ok-seats.seats c.in_ok-seats.ensures c.index_mut.result.now c.part-run.result c.requires.cpus.0 c.index_mut.ensures.value (ap (λ (cell : CellShown). cell.board) c.part-run.ensures.cell)
    ∙ list_there (shape_of c.args.cpus) c.in_ok-seats.seats c.in_ok-seats.ensures
    ∙ sym (ap (λ (cpu : CpuShown). cpu.board) (c.index.ensures ∙ cpu_at (shape_of c.args.cpus) c.in_ok-seats.seats c.in_ok-seats.ensures 0 c.index.result.now (omega (arith, long, c.requires.cpus.0))))

pub singles-requires-clause-none : goal.singles-requires-clause-none
singles-requires-clause-none c = ap (λ (cell : CellShown). cell.held) c.part-run.ensures.cell

pub invariant_of-result : goal.invariant_of-result
invariant_of-result c =
    let k = shape_of c.args.cpus in
    let s = c.in_ok-seats.seats in
    let f = c.in_ok-seats.ensures in
    let run = run_there k s f c.index_mut.result.now c.part-run.result c.requires.cpus.0 c.index_mut.ensures.value (ap (λ (cell : CellShown). cell.board) c.part-run.ensures.cell) in
    let board : c.new-locked.result.board ≡ s.list.board = ap (λ (l : LockedShown). l.board) c.new-locked.ensures in
    record {
      loads_there = ap (λ (p : PassShown). p.board) f.loads ∙ (sym (list_there k s f) ∙ sym board);
      cpus_there = subst (λ (b : Board). All (λ (x : CpuShown). x.board ≡ b) s.cpus.items) (sym board) (cpus_there k s f);
      cpus_all = cpus_all k s f ∙ ap (λ (b : Board). range_with_len 0 b.shape.cpus) (sym board);
      cells_there = singles_there c.new-locked.result.board c.part-run.result c.in_ok-cells.cells.items c.in_ok-cells.ensures (run ∙ sym board);
    }
