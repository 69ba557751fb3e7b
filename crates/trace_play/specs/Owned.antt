-- Whose the frames, the places and the cells of a node are: each is a block's, a slab's or an object's, or nobody's.
use Rattle.std.specs.Prelude.{ℕ, ◌≡◌, ◌+◌, ◌^◌, ◌≤◌, ◌==◌, ◌&&◌, Bool, true, false, nat_le, nat_lt, Option, Some, None, List, [], ◌∷◌, length, slice_index_or, if◌then◌else◌}
use Rattle.slab_cache.specs.Classes.{slab_order}
use Rattle.slab_cache.specs.Slabs.{Slab, NodeState, slab_at}
use Rattle.slab_cache.specs.Storage.{Storage, Pages, Object, Uncounted}

abbrev pub one_if : Bool → ℕ
one_if so = if so then 1 else 0

-- ---- storage

-- whether a frame is one of the 2 ^ order from a start on
abbrev pub is_in : ℕ → ℕ → ℕ → Bool
is_in frame start order = nat_le start frame && nat_lt frame (start + 2 ^ order)

-- a block of the home that has the frame
abbrev pub has_frame : ℕ → ℕ → Storage → ℕ
has_frame home frame (Pages block) = one_if ((block.home == home) && is_in frame block.frame block.order)
has_frame home frame (Object h f p v holds) = 0
has_frame home frame (Uncounted h f p) = 0

abbrev pub same_vector : Option ℕ → Option ℕ → Bool
same_vector None None = true
same_vector None (Some b) = false
same_vector (Some a) None = false
same_vector (Some a) (Some b) = a == b

-- an object at the place of the slab at a frame, with a cell of the vector, or without one
abbrev pub is_object_at : ℕ → ℕ → ℕ → Option ℕ → Storage → ℕ
is_object_at home frame place vector (Pages block) = 0
is_object_at home frame place vector (Object h f p v holds) = one_if ((h == home) && ((f == frame) && ((p == place) && same_vector vector (Some v))))
is_object_at home frame place vector (Uncounted h f p) = one_if ((h == home) && ((f == frame) && ((p == place) && same_vector vector None)))

-- an object whose cell is that of the vector and the place
abbrev pub has_cell_of : ℕ → ℕ → ℕ → Storage → ℕ
has_cell_of home vector place (Pages block) = 0
has_cell_of home vector place (Object h f p v holds) = one_if ((h == home) && ((p == place) && (vector == v)))
has_cell_of home vector place (Uncounted h f p) = 0

-- ---- slabs

abbrev pub is_taken : ℕ → Slab → Bool
is_taken place slab = slice_index_or slab.places place false

-- a slab from the start on that has the frame
abbrev pub slab_has_frame : ℕ → ℕ → Option Slab → ℕ
slab_has_frame frame start None = 0
slab_has_frame frame start (Some slab) = one_if (is_in frame start (slab_order slab.class))

abbrev pub slab_has_vector : ℕ → ℕ → Option Slab → ℕ
slab_has_vector vector start None = 0
slab_has_vector vector start (Some slab) = one_if (same_vector (Some vector) slab.vector)

-- a slab with the vector, or without one, at whose place an object is
abbrev pub is_taken_at : Option ℕ → ℕ → Option Slab → ℕ
is_taken_at vector place None = 0
is_taken_at vector place (Some slab) = one_if (is_taken place slab && same_vector vector slab.vector)

abbrev pub slab_has_cell : ℕ → ℕ → ℕ → Option Slab → ℕ
slab_has_cell vector place start slab = is_taken_at (Some vector) place slab

abbrev pub places_of : Option Slab → ℕ
places_of None = 0
places_of (Some slab) = length slab.places

-- the sum over the slabs from a frame on
abbrev pub slabs_sum : (ℕ → Option Slab → ℕ) → ℕ → List (Option Slab) → ℕ
slabs_sum weight start [] = 0
slabs_sum weight start (slab ∷ slabs) = weight start slab + slabs_sum weight (start + 1) slabs

-- ---- a node

-- of all storage that is given, by its sums: a frame that is taken is one block's or one slab's, and a free one nobody's;
-- a place that is taken has one object, which has a cell where the slab has a vector; a vector that is out is one slab's
pub record NodeSound (node : NodeState) (all : (Storage → ℕ) → ℕ) : Type 0 where
  pub long : length node.slabs ≡ length node.node.frames
  pub frames : (frame : ℕ) → all (has_frame node.node.cpu frame) + slabs_sum (slab_has_frame frame) 0 node.slabs ≡ one_if (slice_index_or node.node.frames frame false)
  pub objects : (frame place : ℕ) (vector : Option ℕ) → all (is_object_at node.node.cpu frame place vector) ≡ is_taken_at vector place (slab_at frame node)
  pub vectors : (vector : ℕ) → slabs_sum (slab_has_vector vector) 0 node.slabs ≡ one_if (slice_index_or node.vectors vector false)
  pub cells : (vector place : ℕ) → all (has_cell_of node.node.cpu vector place) ≡ slabs_sum (slab_has_cell vector place) 0 node.slabs
  pub few : (frame : ℕ) → places_of (slab_at frame node) ≤ 64
