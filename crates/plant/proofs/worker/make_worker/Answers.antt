use Rattle.std.proofs.Common.{◌≡◌, List, [], Some, ap, arith, length, replicate, sym, subst, None, ◌∙◌}
use Rattle.std.specs.Bool.{IsTrue}
use Rattle.std.specs.Prelude.{slice_get}
use Rattle.tag_model.specs.Index.{page_index}
use Rattle.tag_rule.specs.Shown.{PoolShown, has}
use Rattle.page_ext.specs.Shown.{NodeShown}
use Rattle.slab_ext.specs.Vectors.{VectorsShown}
use Rattle.slab_cache.specs.Shown.{SlabNodeShown}
use Rattle.round_worker.specs.Working.{shown}
use Rattle.slab_ext.proofs.Made.{inside_first, made_whole, of_board}
use Rattle.plant.proofs.PoolLemmas.{enough, has_page}
use Rattle.plant.proofs.WorkerLemmas.{is_fresh, made, on_ok}
use Rattle.plant.proofs.worker.make_worker.Goals as goal

pub new-requires-clause-cells : goal.new-requires-clause-cells
new-requires-clause-cells c frame below =
    subst (λ (p : PoolShown). IsTrue (has p (page_index c.args.pages.board.shape c.args.cpu frame))) (sym c.requires.pages)
    (has_page c.args.pages.board c.args.cpu c.args.frames frame c.requires.frames below)

pub new-requires-2-clause-enough : goal.new-requires-2-clause-enough
new-requires-2-clause-enough c =
    let few = enough c.args.pages.board c.args.cpu c.args.vectors c.args.pools.items c.requires.vectors c.requires.pools in
    omega (arith, few, c.args.pools.ok.0)

pub new-requires-2-clause-whole : goal.new-requires-2-clause-whole
new-requires-2-clause-whole c number pool below is =
    made_whole c.args.pages.board c.args.cpu number pool c.requires.one
    (subst (λ (ps : List PoolShown). slice_get ps number ≡ Some pool) c.requires.pools is)

pub new-requires-3-clause-table : goal.new-requires-3-clause-table
new-requires-3-clause-table c number pool is =
    let inside = inside_first c.args.vectors c.args.pools.items number pool (subst (λ (v : VectorsShown). slice_get v.pools number ≡ Some (Some pool)) c.in_ok-vectors.ensures is) in
    of_board c.args.pages.board c.args.cpu number pool (subst (λ (ps : List PoolShown). slice_get ps number ≡ Some pool) c.requires.pools inside)
    ∙ sym (ap (λ (n : NodeShown). n.board) c.in_ok-node.ensures)

pub returns : goal.returns
returns c =
    let node = c.in_ok-node.ensures in
    let vectors = c.in_ok-vectors.ensures in
    let all : c.in_ok-new.field-0 ≡ made c.args.pages.board c.args.cpu c.args.frames c.args.vectors c.args.pools.items =
    c.in_ok-new.ensures.made ∙ (λ i. record { node = node i; vectors = vectors i; slabs = replicate (length (node i).node.frames) None }) in
    let enough_in = enough c.args.pages.board c.args.cpu c.args.vectors c.args.pools.items c.requires.vectors c.requires.pools in
    on_ok c.new-4.result
    (λ worker is. is ∙ ap (λ (s : SlabNodeShown). shown s [] [] [] [] 0 0) all ∙ is_fresh c.args.pages.board c.args.cpu c.args.frames c.args.vectors c.args.pools.items enough_in)
    c.new-4.ensures
