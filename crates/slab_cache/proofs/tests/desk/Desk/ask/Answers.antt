use Rattle.std.proofs.Common.{ℕ, ◌≡◌, Option, Some, None, option_map, subst, sym, ap}
use Rattle.std.specs.Prelude.{⊤}
use Rattle.std.proofs.lemmas.Option.{none-some, same_Some}
use Rattle.std.proofs.lemmas.Result.{IfOk-weaker}
use Rattle.tag_model.specs.declared.state.Held.{Held}
use Rattle.tag_model.specs.declared.state.Held.TheVariants as held
use Rattle.tag_model.specs.declared.state.Tag.{Tag}
use Rattle.tag_model.specs.RefMoves.{reference_to}
use Rattle.tag_rule.specs.Shown.{Board, CpuShown}
use Rattle.page_ext.specs.Blocks.{page_bytes}
use Rattle.slab_cache.specs.Calls.{Gives}
use Rattle.slab_cache.specs.Classes.{class_of, order_of, slab_order}
use Rattle.slab_cache.specs.Giving.{Given, block_from, given_object, object_from, object_from_new, object_or_block, slab_or_new, start_in, with_new_slab}
use Rattle.slab_cache.specs.Shown.{IsLive, IsOfTable, Suits, cell_of, in_slab, state_of, storage_of}
use Rattle.slab_cache.specs.Slabs.{NodeState, Slab, free_place, lowest_vector, new_slab, open_frame, slab_at}
use Rattle.slab_cache.specs.Storage as storage
use Rattle.slab_cache.specs.Storage.{Storage, object_at}
use Rattle.slab_cache.specs.declared.object.Obj.{Obj}
use Rattle.slab_cache.specs.declared.object.Stored.{Stored}
use Rattle.slab_cache.specs.declared.object.Stored.TheVariants.{Pages, InSlab}
use Rattle.slab_cache.specs.declared.place.PlaceCell.{PlaceCell}
use Rattle.slab_cache.proofs.tests.desk.Desk.ask.Goals as goal

-- its cell, where there is one, isn't free
abbrev Holds : Storage → Type 0
Holds (storage.Pages block) = block.holds ≡ held.None → ⊥
Holds (storage.Object home frame place vector holds) = holds ≡ held.None → ⊥
Holds (storage.Uncounted home frame place) = ⊤

some_reference : (tag : Option Tag) (size : ℕ) → reference_to tag size ≡ held.None → ⊥
some_reference None size e = cc
some_reference (Some tag) size e = cc

cell_holds : (home frame place : ℕ) (cell : Option PlaceCell) → Holds (in_slab home frame place cell) → IsLive (option_map (λ (c : PlaceCell). c.seat) cell)
cell_holds home frame place None h = tt
cell_holds home frame place (Some cell) h = h

live_of : (stored : Stored) → Holds (storage_of stored) → IsLive (cell_of stored)
live_of (Pages block) h = h
live_of (InSlab place) h = cell_holds place.home place.frame place.place place.cell h

object_holds : (home frame place : ℕ) (vector : Option ℕ) (h : Held) → (h ≡ held.None → ⊥) → Holds (object_at home frame place vector h)
object_holds home frame place None h some = tt
object_holds home frame place (Some vector) h some = some

from_map : {X : Type 0} (f : X → Given) (o : Option X) (given : Given) → ((x : X) → Holds (f x).storage) → option_map f o ≡ Some given → Holds given.storage
from_map f None given all is = absurd (none-some given is)
from_map f (Some x) given all is = subst (λ (g : Given). Holds g.storage) (same_Some (f x) given is) (all x)

slab_holds : (tag : Option Tag) (class : ℕ) (node : NodeState) (open_at : Option ℕ) (given : Given) → slab_or_new tag class node open_at ≡ Some given → Holds given.storage
slab_holds tag class node (Some frame) given is =
    from_map (object_from tag class frame node) (slab_at frame node) given
    (λ (slab : Slab). object_holds node.node.cpu frame (free_place slab) slab.vector (reference_to tag class) (some_reference tag class)) is
slab_holds tag class node None given is =
    from_map (object_from_new tag class node) (start_in (slab_order class) node) given
    (λ start. object_holds (with_new_slab class start node).node.cpu start (free_place (new_slab class (lowest_vector node))) (lowest_vector node) (reference_to tag class) (some_reference tag class)) is

given_holds : (tag : Option Tag) (size : ℕ) (node : NodeState) (class : Option ℕ) (given : Given) → object_or_block tag size node class ≡ Some given → Holds given.storage
given_holds tag size node (Some class) given is = slab_holds tag class node (open_frame class node) given is
given_holds tag size node None given is =
    from_map (block_from tag (order_of size) node) (start_in (order_of size) node) given (λ start. some_reference tag (page_bytes (order_of size))) is

pub returns-clause-good : goal.returns-clause-good
returns-clause-good c =
    let tag = c.task_of-task.result.current in
    let node = c.self.inside.node in
    let cpu = c.self.inside.cpu in
    let after = c.kmalloc.new.cpu in
    IfOk-weaker c.kmalloc.result (Gives (given_object tag c.args.size (state_of node)) node c.kmalloc.new.node cpu after)
    (λ (obj : Obj). Suits obj.stored × IsLive (cell_of obj.stored) × IsOfTable after.board (cell_of obj.stored))
    (λ obj g. (
      g.suits,
      live_of obj.stored (subst Holds (sym g.object) (given_holds tag c.args.size (state_of node) (class_of c.args.size) g.given g.is)),
      subst (λ (b : Board). IsOfTable b (cell_of obj.stored)) (sym (ap (λ (x : CpuShown). x.board) g.moves)) g.table,
    ))
    c.kmalloc.ensures.gives
