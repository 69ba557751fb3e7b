-- What is given is what the meaning gives.
use Rattle.std.proofs.Common.{ℕ, ◌≡◌, ◌+◌, ◌^◌, ◌<◌, ◌≤◌, ◌==◌, ◌↔◌, ◌++◌, replicate, Bool, true, false, not, IfSome, List, length, get_or, slice_get, slice_set, position, Option, Some, None, option_map, refl, sym, ap, ◌∙◌, subst, arith}
use Rattle.std.specs.List.{list_any}
use Rattle.std.proofs.lemmas.List.{get_or-replicate, get_or-set_same, length-map, length-replicate}
use Rattle.std.proofs.lemmas.List.Folds.{list_any_at}
use Rattle.std.proofs.lemmas.List.Quantifiers.{position-Some}
use Rattle.std.proofs.lemmas.Bool.{and_parts, eqb-true, false≢true}
use Rattle.std.proofs.lemmas.List.Sums.{fold-append}
use Rattle.std.proofs.lemmas.Nat.{pow_pos}
use Rattle.std.proofs.lemmas.Option.{none-some, same_Some, slice_get_within}
use Rattle.tag_model.specs.declared.state.Tag.{Tag}
use Rattle.tag_model.specs.declared.state.Held.{Held}
use Rattle.tag_model.specs.declared.state.Held.TheVariants as held
use Rattle.tag_model.specs.Moves.{Move}
use Rattle.tag_model.specs.Shape.{IsChecked}
use Rattle.tag_model.specs.RefMoves.{open_moves, reference_to, words_after_move}
use Rattle.tag_rule.specs.Shown.{Board, CpuShown}
use Rattle.tag_ref.specs.Refs.{moved_by}
use Rattle.buddy.specs.Frames.{least_start}
use Rattle.buddy.proofs.FrameLemmas.{all_within, least_told, length-marked}
use Rattle.page_ext.specs.Blocks.{Block, page_bytes, with_frames}
use Rattle.page_ext.specs.Paging.{GivesBlock}
use Rattle.page_ext.specs.Shown.{BlockShown, NodeShown}
use Rattle.slab_ext.specs.Vectors.{VectorShown, VectorsShown}
use Rattle.slab_cache.specs.Calls.{Gives, IsOpenIn, IsSlabBlock, MakesSlab, TakesPlaceOf, with_made_slab}
use Rattle.slab_cache.specs.Classes.{objects_in, slab_order}
use Rattle.slab_cache.specs.Giving.{Given, block_from, given_block, object_from, object_from_new, start_in, with_new_slab}
use Rattle.slab_cache.specs.Shown.{IsNow, IsOfTable, SlabNodeShown, SlabShown, Stands, Suits, cell_of, state_of, storage_of, with_reference}
use Rattle.slab_cache.specs.Slabs.{NodeState, Slab, free_place, is_open, lowest_vector, new_slab, open_frame, with_pages, slab_at, slab_held, slab_tag, with_place, with_slab, with_vector}
use Rattle.slab_cache.specs.Storage as storage
use Rattle.slab_cache.specs.Storage.{held_of, object_at}
use Rattle.slab_cache.specs.Tables.{AreSlabs, IsOpenAt, IsSlabAt, TakesPlace, is_open_slab, place_in, slab_in, with_slab_state}
use Rattle.slab_cache.specs.declared.object.Obj.{Obj}
use Rattle.slab_cache.specs.declared.object.Stored.TheVariants.{Pages, InSlab}
use Rattle.slab_cache.specs.declared.place.Place.{Place}
use Rattle.slab_cache.specs.declared.place.PlaceCell.{PlaceCell}
use Rattle.slab_cache.proofs.TableLemmas.{position_of_map}
use Rattle.slab_cache.proofs.SlabLemmas.{cell_at}
use Rattle.slab_cache.proofs.NodeLemmas.{VectorTaken, are_set, find_slab, length-with_out, number_in, same_lowest, shown, slab_state, slab_whole, stands_set, state_out, still_in, with_out}

-- ---- a slab changes: its class, its block and its vector stay, or it goes

pub record Same (old s : SlabShown) : Type 0 where
  pub board : s.board ≡ old.board
  pub home : s.home ≡ old.home
  pub frame : s.frame ≡ old.frame
  pub class : s.slab.class ≡ old.slab.class
  pub vector : s.slab.vector ≡ old.slab.vector

pub record Changed (node : SlabNodeShown) (frame : ℕ) (x : Option SlabShown) : Type 0 where
  pub becomes : IsNow (with_slab frame (slab_in x) (state_of node)) node (shown node.node node.vectors (slice_set node.slabs frame x))
  pub are : AreSlabs node.vectors (slice_set node.slabs frame x)

pub changed : (node : SlabNodeShown) (frame : ℕ) (old : SlabShown) (x : Option SlabShown) → Stands node → AreSlabs node.vectors node.slabs → slice_get node.slabs frame ≡ Some (Some old) → ((s : SlabShown) → x ≡ Some s → Same old s) → Changed node frame x
changed node frame old x stands are here same = record {
  becomes = record {
    is = state_out node frame None x;
    board = refl;
    cpu = refl;
    stands = stands_set node node.vectors frame x stands refl stands.vector_cells (λ s is. (same s is).board ∙ stands.slab_cells frame old here);
  };
  are = are_set node.vectors node.vectors node.slabs frame x refl refl are (λ s is.
      let at = are frame old here in
      let k = same s is in
      record {
        home = k.home ∙ at.home;
        begins = k.frame ∙ at.begins;
        within = subst (λ c. frame + 2 ^ slab_order c ≤ length node.slabs) (sym k.class) at.within;
        vector = λ n has. at.vector n (sym k.vector ∙ has);
      });
}

-- ---- an open slab, and its lowest free place

pub open_at_frame : (node : SlabNodeShown) (class frame : ℕ) → Stands node → IsChecked node.node.board.shape → IsOpenIn class frame (state_of node) → IsOpenAt frame node.slabs
open_at_frame node class frame stands checked has_free =
    let found = find_slab node frame has_free.slab has_free.here in
    record {
      slab = found.whole;
      here = found.here;
      checked = subst (λ (b : Board). IsChecked b.shape) (sym (stands.slab_cells frame found.whole found.here)) checked;
      has_free = subst (λ (s : Slab). list_any not s.places ≡ true) (sym found.is) has_free.has_free;
    }

pub place_taken : (node : SlabNodeShown) (frame : ℕ) (after : List (Option SlabShown)) (place : Place) → Stands node → AreSlabs node.vectors node.slabs → TakesPlace frame node.slabs after place → TakesPlaceOf frame node (shown node.node node.vectors after) place
place_taken node frame after place stands are takes =
    let left = with_slab_state (with_place true (free_place takes.slab.slab) takes.slab.slab) takes.slab in
    let moved = changed node frame takes.slab (Some left) stands are takes.here (λ s is. subst (Same takes.slab) (same_Some left s is) (record { board = refl; home = refl; frame = refl; class = refl; vector = refl })) in
    record {
      slab = takes.slab.slab;
      here = slab_state node frame takes.slab takes.here;
      given = takes.given ∙ ap (λ (s : SlabShown). place_in s (free_place takes.slab.slab)) (slab_whole node frame takes.slab stands are takes.here);
      becomes = subst (λ ss. IsNow (with_slab frame (Some (with_place true (free_place takes.slab.slab) takes.slab.slab)) (state_of node)) node (shown node.node node.vectors ss)) (sym takes.now) moved.becomes;
    }

pub place_are : (node : SlabNodeShown) (frame : ℕ) (after : List (Option SlabShown)) (place : Place) → Stands node → AreSlabs node.vectors node.slabs → TakesPlace frame node.slabs after place → AreSlabs node.vectors after
place_are node frame after place stands are takes =
    let left = with_slab_state (with_place true (free_place takes.slab.slab) takes.slab.slab) takes.slab in
    let moved = changed node frame takes.slab (Some left) stands are takes.here (λ s is. subst (Same takes.slab) (same_Some left s is) (record { board = refl; home = refl; frame = refl; class = refl; vector = refl })) in
    subst (λ ss. AreSlabs node.vectors ss) (sym takes.now) moved.are

-- ---- the place of a slab, and its cell

abbrev with_cell : ℕ → ℕ → ℕ → Option PlaceCell → Place
with_cell home frame place cell = record { home = home; frame = frame; place = place; cell = cell }

pub closed_place : (s : SlabShown) (place : ℕ) → with_reference held.None (place_in s place) ≡ place_in s place
closed_place s place = ap (with_cell s.home s.frame place) (same s.slab.vector)
  where
    same : (vector : Option ℕ) → option_map (λ (c : PlaceCell). record c { seat = record c.seat { held = held.None } }) (option_map (cell_at s.board s.home place) vector) ≡ option_map (cell_at s.board s.home place) vector
    same None = refl
    same (Some v) = refl

pub table_of_place : (board : Board) (s : SlabShown) (place : ℕ) → s.board ≡ board → IsOfTable board (cell_of (InSlab (place_in s place)))
table_of_place board s place is = by_vector s.slab.vector
  where
    by_vector : (vector : Option ℕ) → IsOfTable board (option_map (λ (c : PlaceCell). c.seat) (option_map (cell_at s.board s.home place) vector))
    by_vector None = tt
    by_vector (Some v) = is

pub record Counted (board : Board) (s : SlabShown) (place : ℕ) (h : Held) : Type 0 where
  pub object : storage_of (InSlab (with_reference h (place_in s place))) ≡ object_at s.home s.frame place s.slab.vector h
  pub suits : Suits (InSlab (with_reference h (place_in s place)))
  pub table : IsOfTable board (cell_of (InSlab (with_reference h (place_in s place))))

pub counted : (board : Board) (s : SlabShown) (place : ℕ) (h : Held) → s.board ≡ board → Counted board s place h
counted board s place h is = by_vector s.slab.vector
  where
    by_vector : (vector : Option ℕ) → Counted board (with_slab_state (record s.slab { vector = vector }) s) place h
    by_vector None = record { object = refl; suits = tt; table = tt }
    by_vector (Some v) = record { object = refl; suits = record { first = refl; count = refl }; table = is }

pub gives_place : (tag : Option Tag) (class frame : ℕ) (node after : SlabNodeShown) (cpu cpu_after : CpuShown) (place counted_place : Place) → node.node.board ≡ cpu.board → node.vectors.cpu ≡ cpu.part.number → Stands node
    → TakesPlaceOf frame node after place → counted_place ≡ with_reference (reference_to tag class) place → cpu_after ≡ moved_by (open_moves cpu.part.number (held_of (storage_of (InSlab counted_place)))) cpu
    → Gives (option_map (object_from tag class frame (state_of node)) (slab_at frame (state_of node))) node after cpu cpu_after (record { stored = InSlab counted_place })
gives_place tag class frame node after cpu cpu_after place counted_place table own stands takes is moves =
    let s : SlabShown = record { board = node.node.board; home = node.vectors.cpu; frame = frame; slab = takes.slab } in
    let at = free_place takes.slab in
    let h = reference_to tag class in
    let c = counted cpu.board s at h table in
    let same : counted_place ≡ with_reference h (place_in s at) = is ∙ ap (with_reference h) takes.given in
    let object : storage_of (InSlab counted_place) ≡ object_at node.node.node.cpu frame at takes.slab.vector h = ap (λ p. storage_of (InSlab p)) same ∙ c.object ∙ ap (λ home. object_at home frame at takes.slab.vector h) (sym stands.own) in
    record {
      given = object_from tag class frame (state_of node) takes.slab;
      is = ap (option_map (object_from tag class frame (state_of node))) takes.here;
      object = object;
      suits = subst (λ p. Suits (InSlab p)) (sym same) c.suits;
      table = subst (λ p. IsOfTable cpu.board (cell_of (InSlab p))) (sym same) c.table;
      becomes = takes.becomes;
      moves = moves ∙ ap (λ o. moved_by (open_moves cpu.part.number (held_of o)) cpu) object ∙ ap (λ n. moved_by (open_moves n (held_of (object_at node.node.node.cpu frame at takes.slab.vector h))) cpu) (sym (stands.own ∙ own));
    }

-- ---- a slab is made

pub put_is : (class : ℕ) (node : SlabNodeShown) (block : BlockShown) (after : VectorsShown) (vector : Option VectorShown) (new : SlabShown) (slabs : List (Option SlabShown)) → Stands node → IsSlabBlock class node block → VectorTaken node.vectors after vector
    → new ≡ record { board = block.cell.board; home = block.home; frame = block.frame; slab = new_slab class (number_in vector) } → slabs ≡ slice_set node.slabs block.frame (Some new)
    → IsNow (with_made_slab class block.frame (state_of node)) node (shown node.node after slabs)
put_is class node block after vector new slabs stands own taken is put =
    let made : SlabShown = record { board = block.cell.board; home = block.home; frame = block.frame; slab = new_slab class (number_in vector) } in
    let number = number_in vector in
    let now : VectorsShown = record { cpu = node.vectors.cpu; pools = with_out number node.vectors.pools } in
    let placed : slabs ≡ slice_set node.slabs block.frame (Some made) = put ∙ ap (λ n. slice_set node.slabs block.frame (Some n)) is in
    subst (λ ss. IsNow (with_made_slab class block.frame (state_of node)) node (shown node.node after ss)) (sym placed)
    (subst (λ vs. IsNow (with_made_slab class block.frame (state_of node)) node (shown node.node vs (slice_set node.slabs block.frame (Some made)))) (sym taken.now)
    (record {
      is = state_out node block.frame number (Some made) ∙ ap (λ n. with_slab block.frame (Some (new_slab class n)) (with_vector true n (state_of node))) (taken.number ∙ sym (same_lowest node));
      board = refl;
      cpu = refl;
      stands = stands_set node now block.frame (Some made) stands refl (λ k pool here. stands.vector_cells k pool (still_in number node.vectors.pools k pool here)) (λ s e. sym (ap (λ (t : SlabShown). t.board) (same_Some made s e)) ∙ own.board);
    }))

pub put_are : (class : ℕ) (node : SlabNodeShown) (block : BlockShown) (after : VectorsShown) (vector : Option VectorShown) (new : SlabShown) (slabs : List (Option SlabShown)) → AreSlabs node.vectors node.slabs → IsSlabBlock class node block → VectorTaken node.vectors after vector
    → new ≡ record { board = block.cell.board; home = block.home; frame = block.frame; slab = new_slab class (number_in vector) } → slabs ≡ slice_set node.slabs block.frame (Some new)
    → AreSlabs after slabs
put_are class node block after vector new slabs are own taken is put =
    let made : SlabShown = record { board = block.cell.board; home = block.home; frame = block.frame; slab = new_slab class (number_in vector) } in
    let placed : slabs ≡ slice_set node.slabs block.frame (Some made) = put ∙ ap (λ n. slice_set node.slabs block.frame (Some n)) is in
    subst (λ ss. AreSlabs after ss) (sym placed)
    (are_set node.vectors after node.slabs block.frame (Some made) (ap (λ (v : VectorsShown). v.cpu) taken.now) (ap (λ (v : VectorsShown). length v.pools) taken.now ∙ length-with_out (number_in vector) node.vectors.pools) are
    (λ s e. subst (λ t. IsSlabAt node.vectors.cpu (length node.slabs) (length node.vectors.pools) block.frame t) (same_Some made s e) (record { home = own.home; begins = refl; within = own.within; vector = λ n has. in_pools vector taken.own n has })))
  where
    in_pools : (v : Option VectorShown) → IfSome v (λ w. slice_get node.vectors.pools w.number ≡ Some (Some w.pool)) → (n : ℕ) → number_in v ≡ Some n → n < length node.vectors.pools
    in_pools None has n e = absurd (none-some n e)
    in_pools (Some w) has n e = subst (λ k. k < length node.vectors.pools) (same_Some w.number n e) (slice_get_within node.vectors.pools w.number (Some w.pool) has)

-- ---- frames are taken

pub within_frames : (frames : List Bool) (order start : ℕ) → least_start frames order ≡ Some start → start + 2 ^ order ≤ length frames
within_frames frames order start is = all_within false frames start order (least_told frames order start is).is.free

pub stands_pages : (taken : Bool) (start order : ℕ) (node : SlabNodeShown) (pages : NodeShown) → Stands node → start + 2 ^ order ≤ length node.node.node.frames → pages ≡ record node.node { node = with_frames taken start order node.node.node } → Stands (shown pages node.vectors node.slabs)
stands_pages taken start order node pages stands within is = subst (λ n. Stands (shown n node.vectors node.slabs)) (sym is) (record {
  own = stands.own;
  frames = length-marked taken start order node.node.node.frames within ∙ stands.frames;
  slab_cells = stands.slab_cells;
  vector_cells = stands.vector_cells;
})

pub slab_block_of : (class order : ℕ) (node : SlabNodeShown) (pages : NodeShown) (cpu cpu_after : CpuShown) (block : BlockShown) → Stands node → node.node.board ≡ cpu.board → order ≡ slab_order class → GivesBlock (Some slab_tag) order node.node pages cpu cpu_after block
    → IsSlabBlock class (shown pages node.vectors node.slabs) block
slab_block_of class order node pages cpu cpu_after block stands table is gives = record {
  board = gives.table ∙ sym table ∙ sym (ap (λ (n : NodeShown). n.board) gives.taken);
  home = ap (λ (b : Block). b.home) gives.given ∙ stands.own;
  order = ap (λ (b : Block). b.order) gives.given ∙ is;
  holds = ap (λ (b : Block). b.holds) gives.given ∙ ap (λ o. reference_to (Some slab_tag) (page_bytes o)) is;
  fits = gives.fits;
  within = subst (λ o. block.frame + 2 ^ o ≤ length node.slabs) is (subst (λ n. block.frame + 2 ^ order ≤ n) stands.frames (within_frames node.node.node.frames order block.frame gives.start));
}

-- ---- a block

pub gives_block : (tag : Option Tag) (order meant : ℕ) (node : SlabNodeShown) (pages : NodeShown) (cpu cpu_after : CpuShown) (block : BlockShown) → Stands node → node.vectors.cpu ≡ cpu.part.number → order ≡ meant → GivesBlock tag order node.node pages cpu cpu_after block
    → Gives (given_block tag meant (state_of node)) node (shown pages node.vectors node.slabs) cpu cpu_after (record { stored = Pages block })
gives_block tag order meant node pages cpu cpu_after block stands own is gives =
    subst (λ o. Gives (given_block tag o (state_of node)) node (shown pages node.vectors node.slabs) cpu cpu_after (record { stored = Pages block })) is
    (record {
      given = block_from tag order (state_of node) block.frame;
      is = ap (option_map (block_from tag order (state_of node))) gives.start;
      object = ap (λ b. storage.Pages b) gives.given;
      suits = gives.fits;
      table = gives.table;
      becomes = record {
        is = ap (λ n. state_of (shown n node.vectors node.slabs)) gives.taken;
        board = ap (λ (n : NodeShown). n.board) gives.taken;
        cpu = refl;
        stands = stands_pages true block.frame order node pages stands (within_frames node.node.node.frames order block.frame gives.start) gives.taken;
      };
      moves = gives.moves ∙ ap (λ n. moved_by (open_moves n (reference_to tag (page_bytes order))) cpu) (sym (stands.own ∙ own));
    })

-- ---- a new slab is open

pub slabs_of_vector : (out : Bool) (n : Option ℕ) (node : NodeState) → (with_vector out n node).slabs ≡ node.slabs
slabs_of_vector out None node = refl
slabs_of_vector out (Some n) node = refl

pub new_here : (class frame : ℕ) (node : NodeState) → frame < length node.slabs → slab_at frame (with_new_slab class frame node) ≡ Some (new_slab class (lowest_vector node))
new_here class frame node within =
    let pages = with_pages true frame (slab_order class) node in
    ap (λ ss. get_or (slice_set ss frame (Some (new_slab class (lowest_vector node)))) frame None) (slabs_of_vector true (lowest_vector node) pages)
    ∙ get_or-set_same node.slabs frame (Some (new_slab class (lowest_vector node))) None within

pub new_open : (class frame : ℕ) (node : NodeState) → 0 < objects_in class → frame < length node.slabs → IsOpenIn class frame (with_new_slab class frame node)
new_open class frame node some within = record {
  slab = new_slab class (lowest_vector node);
  here = new_here class frame node within;
  is_class = refl;
  has_free = list_any_at not (replicate (objects_in class) false) 0 true (omega (arith, some, length-replicate (objects_in class) false)) (ap not (get_or-replicate (objects_in class) 0 false true some));
}

pub frame_within : (class : ℕ) (node : SlabNodeShown) (frame : ℕ) → Stands node → start_in (slab_order class) (state_of node) ≡ Some frame → frame < length (state_of node).slabs
frame_within class node frame stands start =
    let some = pow_pos (slab_order class) in
    omega (arith, within_frames node.node.node.frames (slab_order class) frame start, stands.frames, length-map node.slabs slab_in, some)

pub moved_twice : (first second : List Move) (cpu : CpuShown) → moved_by second (moved_by first cpu) ≡ moved_by (first ++ second) cpu
moved_twice first second cpu =
    let with_words : List ℕ → CpuShown = λ ws. record cpu { part = record cpu.part { words = ws } } in
    ap with_words (sym (fold-append (words_after_move cpu.part.number) cpu.part.words first second))

pub gives_new : (tag : Option Tag) (class frame : ℕ) (node middle after : SlabNodeShown) (cpu cpu_middle cpu_after : CpuShown) (obj : Obj) → node.vectors.cpu ≡ cpu.part.number → Stands node → MakesSlab class node middle cpu cpu_middle frame
    → Gives (option_map (object_from tag class frame (state_of middle)) (slab_at frame (state_of middle))) middle after cpu_middle cpu_after obj
    → Gives (option_map (object_from_new tag class (state_of node)) (start_in (slab_order class) (state_of node))) node after cpu cpu_after obj
gives_new tag class frame node middle after cpu cpu_middle cpu_after obj own stands makes gives =
    let state = state_of node in
    let made = with_new_slab class frame state in
    let slab = new_slab class (lowest_vector state) in
    let here : slab_at frame made ≡ Some slab = new_here class frame state (frame_within class node frame stands makes.start) in
    let same : object_from tag class frame made slab ≡ gives.given =
    same_Some _ _ (sym (ap (option_map (object_from tag class frame made)) here) ∙ ap (λ st. option_map (object_from tag class frame st) (slab_at frame st)) (sym makes.becomes.is) ∙ gives.is) in
    record {
      given = object_from_new tag class state frame;
      is = ap (option_map (object_from_new tag class state)) makes.start;
      object = gives.object ∙ ap (λ (g : Given). g.storage) (sym same);
      suits = gives.suits;
      table = subst (λ (c : CpuShown). IsOfTable c.board (cell_of obj.stored)) makes.moves gives.table;
      becomes = record {
        is = gives.becomes.is ∙ ap (λ (g : Given). g.node) (sym same);
        board = gives.becomes.board ∙ makes.becomes.board;
        cpu = gives.becomes.cpu ∙ makes.becomes.cpu;
        stands = gives.becomes.stands;
      };
      moves = gives.moves ∙ ap (λ (g : Given). moved_by g.moves cpu_middle) (sym same) ∙ ap (moved_by (object_from tag class frame made slab).moves) makes.moves
          ∙ moved_twice (open_moves cpu.part.number (slab_held class)) (object_from tag class frame made slab).moves cpu
          ∙ ap (λ n. moved_by (open_moves n (slab_held class) ++ (object_from tag class frame made slab).moves) cpu) (sym (stands.own ∙ own));
    }

-- ---- the lowest open slab

pub same_open : (class : ℕ) (node : SlabNodeShown) → open_frame class (state_of node) ≡ position (is_open_slab class) node.slabs
same_open class node = position_of_map (is_open class) slab_in node.slabs

pub open_here : (class frame : ℕ) (node : SlabNodeShown) → position (is_open_slab class) node.slabs ≡ Some frame → IsOpenIn class frame (state_of node)
open_here class frame node first =
    let at = position-Some (is_open class) (state_of node).slabs frame None (same_open class node ∙ first) in
    by_slab (slab_at frame (state_of node)) refl at.1
  where
    by_slab : (o : Option Slab) → slab_at frame (state_of node) ≡ o → is_open class o ≡ true → IsOpenIn class frame (state_of node)
    by_slab None here no_slab = absurd (false≢true no_slab)
    by_slab (Some slab) here is = (let parts = and_parts (slab.class == class) (list_any not slab.places) is in record { slab = slab; here = here; is_class = eqb-true slab.class class parts.0; has_free = parts.1 })

-- ---- none is given

pub none_of_map : {X Y : Type 0} (f : X → Y) (o : Option X) → (option_map f o ≡ None) ↔ (o ≡ None)
none_of_map f None = (λ e. refl, λ e. refl)
none_of_map f (Some x) = (λ e. absurd (none-some (f x) (sym e)), λ e. absurd (none-some x (sym e)))

pub not_none : {X : Type 0} (o : Option X) (x : X) → o ≡ Some x → (false ≡ true) ↔ (o ≡ None)
not_none o x is = (λ e. absurd (false≢true e), λ e. absurd (none-some x (sym e ∙ is)))
