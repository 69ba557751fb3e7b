-- What comes home is what the meaning takes home.
use Rattle.std.proofs.Common.{ℕ, ◌≡◌, ◌+◌, ◌^◌, ◌≤◌, ◌++◌, Bool, true, false, cond, is_none, List, [], length, map, slice_get, slice_set, Option, Some, None, option_map, refl, sym, ap, ◌∙◌, subst, inl, inr}
use Rattle.std.proofs.lemmas.List.{length-set, map-set}
use Rattle.std.proofs.lemmas.Option.{none-some, same_Some}
use Rattle.tag_model.specs.declared.state.Held.{Held}
use Rattle.tag_model.specs.declared.state.Held.TheVariants as held
use Rattle.tag_model.specs.Index.{object_index}
use Rattle.tag_model.specs.RefMoves.{close_moves}
use Rattle.tag_rule.specs.Shown.{Board, CpuShown, PoolShown}
use Rattle.tag_ref.specs.Refs.{moved_by}
use Rattle.page_ext.specs.Blocks.{with_frames}
use Rattle.page_ext.specs.Shown.{NodeShown}
use Rattle.slab_ext.specs.Vectors.{VectorShown, VectorsShown}
use Rattle.slab_ext.proofs.Slots.{slice_get-set}
use Rattle.slab_cache.specs.Calls.{ComesHome, IsOf, IsPlace, ReturnsPlace}
use Rattle.slab_cache.specs.Classes.{slab_order}
use Rattle.slab_cache.specs.Homing.{Taken, come_home, place_home, without_slab}
use Rattle.slab_cache.specs.Shown.{IsNow, IsOfTable, SlabNodeShown, SlabShown, Stands, Suits, cell_of, state_of, storage_of, with_reference}
use Rattle.slab_cache.specs.Slabs.{NodeState, Slab, is_used, slab_at, slab_held, with_pages, with_place, with_slab, with_vector}
use Rattle.slab_cache.specs.Tables.{AreSlabs, HasPlace, IsSlabAt, LosesPlace, place_in, slab_in, slab_without, with_back, with_slab_state}
use Rattle.slab_cache.specs.declared.object.Stored.TheVariants.{InSlab}
use Rattle.slab_cache.specs.declared.place.Place.{Place}
use Rattle.slab_cache.specs.declared.place.PlaceCell.{PlaceCell}
use Rattle.slab_cache.proofs.GivenLemmas.{Changed, Same, changed, stands_pages}
use Rattle.slab_cache.proofs.SlabLemmas.{cell_at}
use Rattle.slab_cache.proofs.NodeLemmas.{find_slab, number_in, shown, slab_state, slab_whole}

abbrev place_of : ℕ → ℕ → ℕ → Option PlaceCell → Place
place_of home frame at cell = record { home = home; frame = frame; place = at; cell = cell }

-- ---- the place is one of a slab of the node

has_place_by : (node : SlabNodeShown) (frame at : ℕ) (cell : Option PlaceCell) (vector : Option ℕ) → Stands node → AreSlabs node.vectors node.slabs → IsPlace frame at vector (state_of node) → cell ≡ option_map (cell_at node.node.board node.vectors.cpu at) vector
    → HasPlace node.slabs (place_of node.vectors.cpu frame at cell)
has_place_by node frame at cell vector stands are here own =
    let found = find_slab node frame here.slab here.here in
    let whole = slab_whole node frame found.whole stands are found.here in
    let same : vector ≡ found.whole.slab.vector = sym here.has ∙ sym (ap (λ (s : Slab). s.vector) found.is) in
    record {
      slab = found.whole;
      here = found.here;
      own = ap (place_of node.vectors.cpu frame at) (own ∙ ap (option_map (cell_at node.node.board node.vectors.cpu at)) same) ∙ sym (ap (λ s. place_in s at) whole);
      taken = ap (λ (s : Slab). slice_get s.places at) found.is ∙ here.taken;
    }

pub has_place : (node : SlabNodeShown) (home frame at : ℕ) (cell : Option PlaceCell) → Stands node → AreSlabs node.vectors node.slabs → IsOfTable node.node.board (cell_of (InSlab (place_of home frame at cell))) → with_reference held.None (place_of home frame at cell) ≡ place_of home frame at cell
    → Suits (InSlab (place_of home frame at cell)) → home ≡ node.vectors.cpu → IsOf (state_of node) (storage_of (InSlab (place_of home frame at cell))) → HasPlace node.slabs (place_of home frame at cell)
has_place node home frame at None stands are table closed suits own here =
    subst (λ h. HasPlace node.slabs (place_of h frame at None)) (sym own) (has_place_by node frame at None None stands are here refl)
has_place node home frame at (Some c) stands are table closed suits own here =
    subst (λ h. HasPlace node.slabs (place_of h frame at (Some c))) (sym own)
    (has_place_by node frame at (Some c) (Some c.vector) stands are here (ap (λ d. Some d) is))
  where
    none : c.seat.held ≡ held.None
    none = sym (ap (λ (d : PlaceCell). d.seat.held) (same_Some _ _ (ap (λ (p : Place). p.cell) closed)))

    with_seat : Board → ℕ → ℕ → Held → PlaceCell
    with_seat b first count h = record { vector = c.vector; seat = record { board = b; first = first; count = count; held = h } }

    is : c ≡ cell_at node.node.board node.vectors.cpu at c.vector
    is = ap (λ f. with_seat c.seat.board f c.seat.count c.seat.held) suits.first ∙ ap (λ b. with_seat b (object_index b.shape home c.vector at) c.seat.count c.seat.held) table
        ∙ ap (λ n. with_seat node.node.board (object_index node.node.board.shape home c.vector at) n c.seat.held) suits.count ∙ ap (λ h. with_seat node.node.board (object_index node.node.board.shape home c.vector at) 1 h) none
        ∙ ap (λ h. with_seat node.node.board (object_index node.node.board.shape h c.vector at) 1 held.None) own

-- ---- the place is free again

abbrev kept_if : Bool → SlabShown → Option SlabShown
kept_if used s = cond used (Some s) None

kept_same : (used : Bool) (left s : SlabShown) → kept_if used left ≡ Some s → left ≡ s
kept_same true left s is = same_Some left s is
kept_same false left s is = absurd (none-some s is)

kept_slab : (used : Bool) (left : SlabShown) → slab_in (kept_if used left) ≡ cond used (Some left.slab) None
kept_slab true left = refl
kept_slab false left = refl

pub returned : (node : SlabNodeShown) (place : Place) (after : List (Option SlabShown)) (emptied : Option SlabShown) → Stands node → AreSlabs node.vectors node.slabs → LosesPlace node.slabs place after emptied → ReturnsPlace place node (shown node.node node.vectors after) emptied
returned node place after emptied stands are loses =
    let at = place.place in
    let left = slab_without at loses.slab in
    let used = is_used left.slab in
    let moved = return_changed node place after emptied stands are loses in
    let whole = slab_whole node place.frame loses.slab stands are loses.here in
    let here = are place.frame loses.slab loses.here in
    record {
      slab = loses.slab.slab;
      here = slab_state node place.frame loses.slab loses.here;
      becomes = subst (λ ss. IsNow (with_slab place.frame (cond used (Some left.slab) None) (state_of node)) node (shown node.node node.vectors ss)) (sym loses.now)
          (subst (λ x. IsNow (with_slab place.frame x (state_of node)) node (shown node.node node.vectors (slice_set node.slabs place.frame (kept_if used left)))) (kept_slab used left) moved.becomes);
      goes = loses.gone ∙ ap (λ s. cond used None (Some (with_slab_state left.slab s))) whole;
      at = record { home = refl; begins = refl; within = here.within; vector = here.vector };
      many = (ap (λ (ss : List (Option SlabShown)). length ss) loses.now ∙ length-set node.slabs place.frame (kept_if used left), refl);
    }
  where
    return_changed : (node : SlabNodeShown) (place : Place) (after : List (Option SlabShown)) (emptied : Option SlabShown) → Stands node → AreSlabs node.vectors node.slabs → (loses : LosesPlace node.slabs place after emptied)
        → Changed node place.frame (kept_if (is_used (slab_without place.place loses.slab).slab) (slab_without place.place loses.slab))
    return_changed node place after emptied stands are loses =
        let left = slab_without place.place loses.slab in
        changed node place.frame loses.slab (kept_if (is_used left.slab) left) stands are loses.here
        (λ s is. subst (Same loses.slab) (kept_same (is_used left.slab) left s is) (record { board = refl; home = refl; frame = refl; class = refl; vector = refl }))

pub returned_are : (node : SlabNodeShown) (place : Place) (after : List (Option SlabShown)) (emptied : Option SlabShown) → Stands node → AreSlabs node.vectors node.slabs → LosesPlace node.slabs place after emptied → AreSlabs node.vectors after
returned_are node place after emptied stands are loses =
    let left = slab_without place.place loses.slab in
    subst (λ ss. AreSlabs node.vectors ss) (sym loses.now)
    (changed node place.frame loses.slab (kept_if (is_used left.slab) left) stands are loses.here
    (λ s is. subst (Same loses.slab) (kept_same (is_used left.slab) left s is) (record { board = refl; home = refl; frame = refl; class = refl; vector = refl }))).are

-- ---- a slab is given up

state_back : (node : SlabNodeShown) (pages : NodeShown) (vector : Option VectorShown)
    → state_of (shown pages (record node.vectors { pools = with_back vector node.vectors.pools }) node.slabs) ≡ with_vector false (number_in vector) (record (state_of node) { node = pages.node })
state_back node pages None = refl
state_back node pages (Some v) =
    let with_vectors : List Bool → NodeState = λ vs. record { node = pages.node; slabs = map slab_in node.slabs; vectors = vs } in
    ap with_vectors (map-set is_none node.vectors.pools v.number (Some v.pool))

length-with_back : (vector : Option VectorShown) (pools : List (Option PoolShown)) → length (with_back vector pools) ≡ length pools
length-with_back None pools = refl
length-with_back (Some v) pools = length-set pools v.number (Some v.pool)

back_cells : (board : Board) (vector : Option VectorShown) (pools : List (Option PoolShown)) → ((k : ℕ) (pool : PoolShown) → slice_get pools k ≡ Some (Some pool) → pool.board ≡ board) → ((v : VectorShown) → vector ≡ Some v → v.pool.board ≡ board)
    → (k : ℕ) (pool : PoolShown) → slice_get (with_back vector pools) k ≡ Some (Some pool) → pool.board ≡ board
back_cells board None pools all own k pool here = all k pool here
back_cells board (Some v) pools all own k pool here = elim (slice_get-set pools v.number k (Some v.pool) (Some pool) here) [
  | inl at ↦ sym (ap (λ (p : PoolShown). p.board) (same_Some v.pool pool at.1)) ∙ own v refl
  | inr was ↦ all k pool was
]

pub given_up : (node : SlabNodeShown) (pages : NodeShown) (vectors : VectorsShown) (vector : Option VectorShown) (number : Option ℕ) (frame order : ℕ) → Stands node → frame + 2 ^ order ≤ length node.node.node.frames
    → pages ≡ record node.node { node = with_frames false frame order node.node.node } → vectors ≡ record node.vectors { pools = with_back vector node.vectors.pools } → number_in vector ≡ number → ((v : VectorShown) → vector ≡ Some v → v.pool.board ≡ node.node.board)
    → IsNow (with_vector false number (with_pages false frame order (state_of node))) node (shown pages vectors node.slabs)
given_up node pages vectors vector number frame order stands within is back has own =
    let freed : NodeShown = record node.node { node = with_frames false frame order node.node.node } in
    let now : VectorsShown = record node.vectors { pools = with_back vector node.vectors.pools } in
    let standing = stands_pages false frame order node freed stands within refl in
    subst (λ n. IsNow (with_vector false number (with_pages false frame order (state_of node))) node (shown n vectors node.slabs)) (sym is)
    (subst (λ vs. IsNow (with_vector false number (with_pages false frame order (state_of node))) node (shown freed vs node.slabs)) (sym back)
    (record {
      is = state_back node freed vector ∙ ap (λ n. with_vector false n (with_pages false frame order (state_of node))) has;
      board = refl;
      cpu = refl;
      stands = record { own = standing.own; frames = standing.frames; slab_cells = standing.slab_cells; vector_cells = back_cells node.node.board vector node.vectors.pools stands.vector_cells own };
    }))

pub given_up_are : (vectors after : VectorsShown) (slabs : List (Option SlabShown)) (vector : Option VectorShown) → AreSlabs vectors slabs → after ≡ record vectors { pools = with_back vector vectors.pools } → AreSlabs after slabs
given_up_are vectors after slabs vector are is =
    subst (λ vs. AreSlabs vs slabs) (sym is) (λ frame slab here. subst (λ n. IsSlabAt vectors.cpu (length slabs) n frame slab) (sym (length-with_back vector vectors.pools)) (are frame slab here))

-- ---- the meaning

home_is : (home frame at : ℕ) (cell : Option PlaceCell) (state : NodeState) → come_home (storage_of (InSlab (place_of home frame at cell))) state ≡ place_home frame at state (slab_at frame state)
home_is home frame at None state = refl
home_is home frame at (Some c) state = refl

pub home_given_up : (place : Place) (node middle after : SlabNodeShown) (emptied : Option SlabShown) (cpu cpu_after : CpuShown) (returns : ReturnsPlace place node middle emptied) → is_used (with_place false place.place returns.slab) ≡ false → Stands node → node.vectors.cpu ≡ cpu.part.number
    → IsNow (with_vector false returns.slab.vector (with_pages false place.frame (slab_order returns.slab.class) (state_of middle))) middle after → cpu_after ≡ moved_by (close_moves cpu.part.number (slab_held returns.slab.class)) cpu
    → ComesHome (storage_of (InSlab place)) [] node after cpu cpu_after
home_given_up place node middle after emptied cpu cpu_after returns unused stands own now moves =
    let left = with_place false place.place returns.slab in
    let home = home_is place.home place.frame place.place place.cell (state_of node) ∙ ap (place_home place.frame place.place (state_of node)) returns.here
    ∙ ap (λ b. cond b (record { node = with_slab place.frame (Some left) (state_of node); moves = [] })
    (record { node = without_slab place.frame left (state_of node); moves = close_moves (state_of node).node.cpu (slab_held left.class) })) unused in
    let middle_is : state_of middle ≡ with_slab place.frame None (state_of node) = returns.becomes.is ∙ ap (λ b. with_slab place.frame (cond b (Some left) None) (state_of node)) unused in
    record {
      becomes = subst (λ (t : Taken). IsNow t.node node after) (sym home) (record {
        is = now.is ∙ ap (λ st. with_vector false returns.slab.vector (with_pages false place.frame (slab_order returns.slab.class) st)) middle_is;
        board = now.board ∙ returns.becomes.board;
        cpu = now.cpu ∙ returns.becomes.cpu;
        stands = now.stands;
      });
      moves = subst (λ (t : Taken). cpu_after ≡ moved_by ([] ++ t.moves) cpu) (sym home) (moves ∙ ap (λ n. moved_by (close_moves n (slab_held returns.slab.class)) cpu) (sym (stands.own ∙ own)));
    }

-- what came out of the node is that slab, and no object is in it
pub out_is : (used : Bool) (left slab : SlabShown) (r : Option SlabShown) → r ≡ cond used None (Some left) → r ≡ Some slab → (used ≡ false) × (left ≡ slab)
out_is true left slab r is has = absurd (none-some slab (sym is ∙ has))
out_is false left slab r is has = (refl, same_Some left slab (sym is ∙ has))
