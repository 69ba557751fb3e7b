use Rattle.std.proofs.Common.{◌≡◌, All, List, sym, ap, subst, ◌∙◌}
use Rattle.std.specs.Option.{option_or}
use Rattle.trace_play.specs.Left.{word_at}
use Rattle.round_keys.specs.Stored.{key_cells}
use Rattle.round_worker.specs.Shown.{WorkerShown}
use Rattle.round_worker.proofs.CellLemmas.{kept_checked, more_found}
use Rattle.plant.specs.Table.{slab_cells_of}
use Rattle.plant.proofs.left.Left.word_at.Goals as goal

pub word_at-requires : goal.word_at-requires
word_at-requires c = record { checked = λ key kept found. kept_checked c.args.self.now.locked.board kept c.requires.checked (c.requires.keys key kept found) }

pub returns-in-Some : goal.returns-in-Some
returns-in-Some c =
    let left = c.args.self.now in
    let board = left.locked.board in
    ap (λ w. option_or w (word_at board.shape c.args.cell (slab_cells_of left.workers.items))) (sym c.in-Some.is ∙ c.word_at.ensures board c.requires.keys)
    ∙ sym (more_found board.shape c.args.cell (key_cells left.keys) (slab_cells_of left.workers.items))

pub returns-in-None : goal.returns-in-None
returns-in-None c =
    let left = c.args.self.now in
    let board = left.locked.board in
    c.slab_word_at.ensures board (subst (λ (ws : List WorkerShown). All (λ (w : WorkerShown). w.board ≡ board) ws) (sym c.deref.ensures.value) c.requires.workers)
    ∙ ap (λ (ws : List WorkerShown). word_at board.shape c.args.cell (slab_cells_of ws)) c.deref.ensures.value
    ∙ ap (λ w. option_or w (word_at board.shape c.args.cell (slab_cells_of left.workers.items))) (sym c.in-None.is ∙ c.word_at.ensures board c.requires.keys)
    ∙ sym (more_found board.shape c.args.cell (key_cells left.keys) (slab_cells_of left.workers.items))
