-- How many slabs a node has, and how many frames.
use Rattle.std.proofs.Common.{◌≡◌, ℕ, ◌+◌, ◌<◌, Bool, true, false, cond, List, [], ◌∷◌, length, take, get_or, Option, Some, None, is_some, count_by, refl, sym, ap, ◌∙◌, arith}
use Rattle.std.specs.Prelude.{map, option_map}
use Rattle.std.specs.List.{enumerate_from, flat_map}
use Rattle.std.proofs.lemmas.List.{length-append, length-map}
use Rattle.std.proofs.lemmas.List.Sums.{count_by_more_no, count_by_more_yes, sum_by-cons}
use Rattle.page_ext.specs.Shown.{BlockShown}
use Rattle.slab_cache.specs.Shown.{IsNow, SlabNodeShown, SlabShown, slab_block, state_of}
use Rattle.slab_cache.specs.Slabs.{NodeState, Slab}
use Rattle.trace_play.specs.Machine.{slab_cell, slab_cells}

-- what a node shows is as long as what it is
pub long_now : (state : NodeState) (node after : SlabNodeShown) → IsNow state node after → length state.slabs ≡ length (state_of node).slabs → length after.slabs ≡ length node.slabs
long_now state node after now same =
    let slab : Option SlabShown → Option Slab = option_map (λ (s : SlabShown). s.slab) in
    sym (length-map after.slabs slab) ∙ ap (λ (n : NodeState). length n.slabs) now.is ∙ same ∙ length-map node.slabs slab

-- ---- how many slabs

one_cell : (cpu frame : ℕ) (slab : Option SlabShown) → length (slab_cell cpu frame (option_map (λ (s : SlabShown). s.slab) slab)) ≡ cond {A = ℕ} (is_some slab) 1 0
one_cell cpu frame None = refl
one_cell cpu frame (Some slab) = refl

cells_from : (cpu from : ℕ) (slabs : List (Option SlabShown))
    → length (flat_map (λ (entry : ℕ × Option Slab). slab_cell cpu entry.0 entry.1) (enumerate_from from (map (option_map (λ (s : SlabShown). s.slab)) slabs))) ≡ count_by is_some slabs
cells_from cpu from [] = refl
cells_from cpu from (slab ∷ slabs) =
    let rest = cells_from cpu (from + 1) slabs in
    let one = one_cell cpu from slab in
    let head = sum_by-cons (λ (s : Option SlabShown). cond {A = ℕ} (is_some s) 1 0) slab slabs in
    length-append (slab_cell cpu from (option_map (λ (s : SlabShown). s.slab) slab)) _ ∙ (omega arith)

pub slabs_counted : (node : SlabNodeShown) → length (slab_cells (state_of node)) ≡ count_by is_some node.slabs
slabs_counted node = cells_from node.node.node.cpu 0 node.slabs

-- of one frame more
pub one_frame_more : (slabs : List (Option SlabShown)) (frame : ℕ) (there : Bool) → frame < length slabs → is_some (get_or slabs frame None) ≡ there
    → count_by is_some (take (frame + 1) slabs) ≡ count_by is_some (take frame slabs) + cond {A = ℕ} there 1 0
one_frame_more slabs frame true low is = count_by_more_yes is_some slabs frame None low is
one_frame_more slabs frame false low is = let more = count_by_more_no is_some slabs frame None low is in omega arith

still_some : {X Y : Type 0} (f : X → Y) (o : Option X) → is_some (option_map f o) ≡ is_some o
still_some f None = refl
still_some f (Some x) = refl

-- a slab is there where its block is
pub slab_there : {B : Type 0} (now : B → BlockShown) (block : Option B) (slab : Option SlabShown) → option_map now block ≡ option_map slab_block slab → is_some slab ≡ is_some block
slab_there now block slab same = sym (still_some slab_block slab) ∙ sym (ap is_some same) ∙ still_some now block
