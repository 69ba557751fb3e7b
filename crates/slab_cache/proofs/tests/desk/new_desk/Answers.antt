use Rattle.std.proofs.Common.{ℕ, ◌≡◌, ◌+◌, ◌<◌, IsTrue, List, Some, length, slice_get, sym, ap, ◌∙◌, subst, arith}
use Rattle.std.proofs.lemmas.Bool.{and_from, le-leb, lt-ltb}
use Rattle.tag_model.specs.declared.shape.Shape.{Shape}
use Rattle.tag_model.specs.Index.{page_index}
use Rattle.tag_rule.specs.Made.{pages_of}
use Rattle.tag_rule.specs.Shown.{Board, PoolShown, has}
use Rattle.tag_rule.proofs.Runs.{has_range}
use Rattle.page_ext.specs.Shown.{NodeShown}
use Rattle.slab_ext.specs.Vectors.{IsWhole, VectorsShown}
use Rattle.slab_ext.proofs.Made.{count_vectors, inside_first, made_whole, of_board}
use Rattle.slab_cache.proofs.tests.desk.new_desk.Goals as goal

has_frame : (b : Board) (cpu frame : ℕ) → frame < b.shape.frames → IsTrue (has (pages_of b cpu) (page_index b.shape cpu frame))
has_frame b cpu frame below =
    let first = page_index b.shape cpu 0 in
    let cell = page_index b.shape cpu frame in
    has_range cell first b.shape.frames ∙ and_from _ _ (le-leb first cell (omega arith)) (lt-ltb cell (first + b.shape.frames) (omega (arith, below)))

pub new-requires-clause-cells : goal.new-requires-clause-cells
new-requires-clause-cells c frame below =
    let low : frame < c.args.cpu.board.shape.frames = subst (λ (k : Shape). frame < k.frames) c.shape-shape.ensures below in
    subst (λ (n : ℕ). IsTrue (has c.args.pages (page_index c.args.pages.board.shape n frame))) (sym c.cpu-2.ensures)
    (subst (λ (p : PoolShown). IsTrue (has p (page_index p.board.shape c.args.cpu.part.number frame))) (sym c.requires.pages) (has_frame c.args.cpu.board c.args.cpu.part.number frame low))

pub new-requires-2-clause-enough : goal.new-requires-2-clause-enough
new-requires-2-clause-enough c =
    let many : length c.args.pools.items ≡ c.args.cpu.board.shape.vectors = ap (λ (ps : List PoolShown). length ps) c.requires.pools ∙ count_vectors c.args.cpu.board c.args.cpu.part.number in
    let asked : c.shape-shape.result.vectors ≡ c.args.cpu.board.shape.vectors = ap (λ (k : Shape). k.vectors) c.shape-shape.ensures in
    omega (arith, many, asked, c.args.pools.ok.0)

pub new-requires-2-clause-whole : goal.new-requires-2-clause-whole
new-requires-2-clause-whole c number pool below is =
    subst (λ (n : ℕ). IsWhole n number pool) (sym c.cpu-3.ensures)
    (made_whole c.args.cpu.board c.args.cpu.part.number number pool c.tell.ensures.holds.number (subst (λ (ps : List PoolShown). slice_get ps number ≡ Some pool) c.requires.pools is))

pub new-requires-3-clause-table : goal.new-requires-3-clause-table
new-requires-3-clause-table c number pool is =
    let inside = inside_first c.shape-shape.result.vectors c.args.pools.items number pool (subst (λ (v : VectorsShown). slice_get v.pools number ≡ Some (Some pool)) c.in_ok-vectors.ensures is) in
    of_board c.args.cpu.board c.args.cpu.part.number number pool (subst (λ (ps : List PoolShown). slice_get ps number ≡ Some pool) c.requires.pools inside)
    ∙ sym (ap (λ (n : NodeShown). n.board) c.in_ok-node.ensures ∙ ap (λ (p : PoolShown). p.board) c.requires.pages)
