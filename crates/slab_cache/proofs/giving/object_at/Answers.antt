use Rattle.std.proofs.Common.{◌≡◌, sym, subst}
use Rattle.tag_model.specs.Shape.{IsChecked}
use Rattle.tag_model.specs.declared.state.Held.TheVariants as held
use Rattle.tag_rule.specs.Shown.{Board}
use Rattle.slab_cache.specs.Bits.{class_at}
use Rattle.slab_cache.specs.Shown.{IsOfTable, SlabShown, cell_of, with_reference}
use Rattle.slab_cache.specs.Slabs.{free_place}
use Rattle.slab_cache.specs.declared.object.Stored.TheVariants.{InSlab}
use Rattle.slab_cache.proofs.GivenLemmas.{closed_place, gives_place, table_of_place}
use Rattle.slab_cache.proofs.giving.object_at.Goals as goal

pub take_place-place-requires-clause-checked : goal.take_place-place-requires-clause-checked
take_place-place-requires-clause-checked c = subst (λ (b : Board). IsChecked b.shape) (sym c.requires.at_home.table) c.tell.ensures.checked

pub count_place-requires-clause-table : goal.count_place-requires-clause-table
count_place-requires-clause-table c =
    let takes = c.take_place-place.ensures in
    let slab : SlabShown = record { board = c.args.node.now.node.board; home = c.args.node.now.vectors.cpu; frame = c.args.frame; slab = takes.slab } in
    subst (λ p. IsOfTable c.args.cpu.now.board (cell_of (InSlab p))) (sym takes.given) (table_of_place c.args.cpu.now.board slab (free_place takes.slab) c.requires.at_home.table)

pub count_place-requires-clause-none : goal.count_place-requires-clause-none
count_place-requires-clause-none c =
    let takes = c.take_place-place.ensures in
    let slab : SlabShown = record { board = c.args.node.now.node.board; home = c.args.node.now.vectors.cpu; frame = c.args.frame; slab = takes.slab } in
    subst (λ p. with_reference held.None p ≡ p) (sym takes.given) (closed_place slab (free_place takes.slab))

pub returns : goal.returns
returns c =
    gives_place c.args.task.now.current (class_at c.args.class.index) c.args.frame c.args.node.now c.take_place-place.new.node c.args.cpu.now c.count_place.new.cpu c.take_place-place.result c.count_place.new.place c.requires.at_home.table c.requires.at_home.own
    c.requires.at_home.stands c.take_place-place.ensures c.count_place.ensures.place c.count_place.ensures.cpu
