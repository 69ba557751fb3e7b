-- Whose the moves are that a CPU's ops make: the CPU's own.
use Rattle.std.proofs.Common.{◌≡◌, ℕ, ◌+◌, ◌-◌, ◌*◌, Bool, true, false, cond, List, [], ◌∷◌, ◌++◌, Option, Some, None, refl, sym, ap, ◌∙◌, subst}
use Rattle.std.specs.Prelude.{◌&&◌}
use Rattle.std.specs.Bool.{⊤}
use Rattle.std.specs.List.{list_all}
use Rattle.std.specs.Option.{option_map}
use Rattle.std.proofs.lemmas.List.Folds.{list_all-append}
use Rattle.tag_model.specs.declared.state.Tag.{Tag}
use Rattle.tag_model.specs.declared.state.Held.{Held}
use Rattle.tag_model.specs.declared.state.Held.TheVariants as held
use Rattle.tag_model.specs.Moves.{Move}
use Rattle.tag_model.specs.RefMoves.{open_moves, close_moves, split_moves, trim_moves}
use Rattle.module_area.specs.declared.entry.Entry.{Entry}
use Rattle.slab_cache.specs.Classes.{class_of, slab_order}
use Rattle.slab_cache.specs.Classes as classes
use Rattle.slab_cache.specs.Slabs.{Slab, NodeState, slab_at, with_slab, with_pages, lowest_vector, open_frame, with_place, is_used, slab_held}
use Rattle.slab_cache.specs.Storage.{Storage, Pages, Object, Uncounted}
use Rattle.slab_cache.specs.Giving.{Given, given_block, given_object, block_from, object_from, with_new_slab, object_from_new, slab_or_new, object_or_block, start_in}
use Rattle.slab_cache.specs.Homing.{Taken, come_home, place_home, without_slab}
use Rattle.trace.specs.declared.traces.Item.TheVariants as item
use Rattle.trace.specs.declared.traces.TraceOp.{TraceOp}
use Rattle.trace.specs.declared.traces.TraceOp.TheVariants as op
use Rattle.trace_play.specs.Live.{Content, Nothing, Stored, put, content_at, held_of, without}
use Rattle.trace_play.specs.Worker.{WorkerState, cpu_of, current_tag, with_moves, with_node, with_live, one_given, allocated, is_home, given_back, with_taken, sent_home, done, all_done}
use Rattle.trace_play.proofs.NodeLemmas.{cpu_of_vector}

-- ---- moves of CPUs that pass a test

module _ (is_one : ℕ → Bool) where
  abbrev is_of : Move → Bool
  is_of move = is_one move.cpu

  abbrev pub AreOf : List Move → Type 0
  AreOf moves = list_all is_of moves ≡ true

  pub of_both : (one two : List Move) → AreOf one → AreOf two → AreOf (one ++ two)
  of_both one two p q = list_all-append is_of one two ∙ (λ i. p i && q i)

  module _ (cpu : ℕ) (so : is_one cpu ≡ true) where
    of_open : (h : Held) → AreOf (open_moves cpu h)
    of_open held.None = refl
    of_open held.Empty = refl
    of_open (held.Counted tag size) = λ i. so i && (so i && true)

    of_close : (h : Held) → AreOf (close_moves cpu h)
    of_close held.None = refl
    of_close held.Empty = refl
    of_close (held.Counted tag size) = λ i. so i && (so i && true)

    of_split : (parts : ℕ) (h : Held) → AreOf (split_moves cpu parts h)
    of_split parts held.None = refl
    of_split parts held.Empty = refl
    of_split parts (held.Counted tag size) = λ i. so i && true

    of_trim : (bytes : ℕ) (h : Held) → AreOf (trim_moves cpu bytes h)
    of_trim bytes held.None = refl
    of_trim bytes held.Empty = refl
    of_trim bytes (held.Counted tag size) = λ i. so i && true

  -- ---- a node

  abbrev MaybeOf : Option Given → Type 0
  MaybeOf None = ⊤
  MaybeOf (Some given) = AreOf given.moves

  block_of : (tag : Option Tag) (order : ℕ) (node : NodeState) → is_one node.node.cpu ≡ true → MaybeOf (given_block tag order node)
  block_of tag order node low = by (start_in order node)
    where
      by : (start : Option ℕ) → MaybeOf (option_map (block_from tag order node) start)
      by None = tt
      by (Some start) = of_open node.node.cpu low _

  object_of : (tag : Option Tag) (size : ℕ) (node : NodeState) → is_one node.node.cpu ≡ true → MaybeOf (given_object tag size node)
  object_of tag size node low = by (class_of size)
    where
      by_start : (class : ℕ) (start : Option ℕ) → MaybeOf (option_map (object_from_new tag class node) start)
      by_start class None = tt
      by_start class (Some start) =
          let same = cpu_of_vector true (lowest_vector node) (with_pages true start (slab_order class) node) in
          of_both (open_moves node.node.cpu (slab_held class)) _ (of_open node.node.cpu low (slab_held class)) (of_open (with_new_slab class start node).node.cpu (subst (λ n. is_one n ≡ true) (sym same) low) _)

      by_slab : (class frame : ℕ) (slab : Option Slab) → MaybeOf (option_map (object_from tag class frame node) slab)
      by_slab class frame None = tt
      by_slab class frame (Some slab) = of_open node.node.cpu low _

      by_frame : (class : ℕ) (frame : Option ℕ) → MaybeOf (slab_or_new tag class node frame)
      by_frame class None = by_start class (start_in (slab_order class) node)
      by_frame class (Some frame) = by_slab class frame (slab_at frame node)

      by : (class : Option ℕ) → MaybeOf (object_or_block tag size node class)
      by None = block_of tag (classes.order_of size) node low
      by (Some class) = by_frame class (open_frame class node)

  place_of : (frame place : ℕ) (node : NodeState) → is_one node.node.cpu ≡ true → (o : Option Slab) → AreOf (place_home frame place node o).moves
  place_of frame place node low None = refl
  place_of frame place node low (Some slab) = by (is_used (with_place false place slab))
    where
      by : (b : Bool) → AreOf (cond {A = Taken} b (record { node = with_slab frame (Some (with_place false place slab)) node; moves = [] }) (record { node = without_slab frame (with_place false place slab) node; moves = close_moves node.node.cpu (slab_held slab.class) })).moves
      by true = refl
      by false = of_close node.node.cpu low (slab_held slab.class)

  pub home_moves_of : (given : Storage) (node : NodeState) → is_one node.node.cpu ≡ true → AreOf (come_home given node).moves
  home_moves_of (Pages block) node low = refl
  home_moves_of (Object home frame place vector holds) node low = place_of frame place node low (slab_at frame node)
  home_moves_of (Uncounted home frame place) node low = place_of frame place node low (slab_at frame node)

  -- ---- an op

  one_given_of : (given : Storage) (w : WorkerState) → AreOf w.tally.moves → AreOf (one_given given w).tally.moves
  one_given_of (Pages block) w a = a
  one_given_of (Object home frame place vector holds) w a = a
  one_given_of (Uncounted home frame place) w a = a

  allocated_of : (key order : ℕ) (given : Option Given) (w : WorkerState) → MaybeOf given → AreOf w.tally.moves → AreOf (allocated key order given w).tally.moves
  allocated_of key order None w is a = a
  allocated_of key order (Some given) w is a =
      one_given_of given.storage (with_moves given.moves (with_node given.node (with_live (put key (Stored given.storage) w.live) w))) (of_both w.tally.moves given.moves a is)

  back_of : (content : Content) (w : WorkerState) → is_one (cpu_of w) ≡ true → AreOf w.tally.moves → AreOf (given_back content w).tally.moves
  back_of (Nothing order) w low a = a
  back_of (Stored given) w low a = by (is_home given w)
    where
      by : (b : Bool) → AreOf (cond {A = WorkerState} b (with_taken (come_home given w.seat.node) w) (sent_home given w)).tally.moves
      by true = of_both w.tally.moves (come_home given w.seat.node).moves a (home_moves_of given w.seat.node low)
      by false = a

  step_of : (entries : List Entry) (what : TraceOp) (w : WorkerState) → is_one (cpu_of w) ≡ true → AreOf w.tally.moves → AreOf (done entries what w).tally.moves
  step_of entries (op.Page key order) w low a = allocated_of key order (given_block (current_tag w) order w.seat.node) w (block_of (current_tag w) order w.seat.node low) a
  step_of entries (op.Kmalloc key size) w low a = allocated_of key 0 (given_object (current_tag w) size w.seat.node) w (object_of (current_tag w) size w.seat.node low) a
  step_of entries (op.Free key) w low a =
      let moves = close_moves (cpu_of w) (held_of (content_at key w.live)) in
      back_of (content_at key w.live) (with_moves moves (with_live (without key w.live) w)) low (of_both w.tally.moves moves a (of_close (cpu_of w) low (held_of (content_at key w.live))))
  step_of entries (op.Split key order first) w low a = of_both w.tally.moves _ a (of_split (cpu_of w) low _ (held_of (content_at key w.live)))
  step_of entries (op.Swap one two) w low a = a
  step_of entries (op.Trim key pages) w low a = of_both w.tally.moves _ a (of_trim (cpu_of w) low (pages * 4096) (held_of (content_at key w.live)))
  step_of entries (op.Hook section index) w low a = a
  step_of entries op.Unhook w low a = a
  step_of entries (op.Enter section) w low a = a
  step_of entries (op.Leave section) w low a = a
  step_of entries (op.Unload section) w low a = a

-- ---- a CPU's seat stays its own

abbrev SameCpu : ℕ → Option Given → Type 0
SameCpu cpu None = ⊤
SameCpu cpu (Some given) = given.node.node.cpu ≡ cpu

block_cpu : (tag : Option Tag) (order : ℕ) (node : NodeState) → SameCpu node.node.cpu (given_block tag order node)
block_cpu tag order node = by (start_in order node)
  where
    by : (start : Option ℕ) → SameCpu node.node.cpu (option_map (block_from tag order node) start)
    by None = tt
    by (Some start) = refl

object_cpu : (tag : Option Tag) (size : ℕ) (node : NodeState) → SameCpu node.node.cpu (given_object tag size node)
object_cpu tag size node = by (class_of size)
  where
    by_start : (class : ℕ) (start : Option ℕ) → SameCpu node.node.cpu (option_map (object_from_new tag class node) start)
    by_start class None = tt
    by_start class (Some start) = cpu_of_vector true (lowest_vector node) (with_pages true start (slab_order class) node)

    by_slab : (class frame : ℕ) (slab : Option Slab) → SameCpu node.node.cpu (option_map (object_from tag class frame node) slab)
    by_slab class frame None = tt
    by_slab class frame (Some slab) = refl

    by_frame : (class : ℕ) (frame : Option ℕ) → SameCpu node.node.cpu (slab_or_new tag class node frame)
    by_frame class None = by_start class (start_in (slab_order class) node)
    by_frame class (Some frame) = by_slab class frame (slab_at frame node)

    by : (class : Option ℕ) → SameCpu node.node.cpu (object_or_block tag size node class)
    by None = block_cpu tag (classes.order_of size) node
    by (Some class) = by_frame class (open_frame class node)

home_cpu : (given : Storage) (node : NodeState) → (come_home given node).node.node.cpu ≡ node.node.cpu
home_cpu given node = by given
  where
    place_cpu : (frame place : ℕ) (o : Option Slab) → (place_home frame place node o).node.node.cpu ≡ node.node.cpu
    place_cpu frame place None = refl
    place_cpu frame place (Some slab) = by_use (is_used (with_place false place slab))
      where
        by_use : (b : Bool) → (cond {A = Taken} b (record { node = with_slab frame (Some (with_place false place slab)) node; moves = [] }) (record { node = without_slab frame (with_place false place slab) node; moves = close_moves node.node.cpu (slab_held slab.class) })).node.node.cpu ≡ node.node.cpu
        by_use true = refl
        by_use false = cpu_of_vector false slab.vector (with_pages false frame (slab_order slab.class) (with_slab frame None node))

    by : (given : Storage) → (come_home given node).node.node.cpu ≡ node.node.cpu
    by (Pages block) = refl
    by (Object home frame place vector holds) = place_cpu frame place (slab_at frame node)
    by (Uncounted home frame place) = place_cpu frame place (slab_at frame node)

one_given_cpu : (given : Storage) (w : WorkerState) → cpu_of (one_given given w) ≡ cpu_of w
one_given_cpu (Pages block) w = refl
one_given_cpu (Object home frame place vector holds) w = refl
one_given_cpu (Uncounted home frame place) w = refl

allocated_cpu : (key order : ℕ) (given : Option Given) (w : WorkerState) → SameCpu (cpu_of w) given → cpu_of (allocated key order given w) ≡ cpu_of w
allocated_cpu key order None w same = refl
allocated_cpu key order (Some given) w same = one_given_cpu given.storage (with_moves given.moves (with_node given.node (with_live (put key (Stored given.storage) w.live) w))) ∙ same

back_cpu : (content : Content) (w : WorkerState) → cpu_of (given_back content w) ≡ cpu_of w
back_cpu (Nothing order) w = refl
back_cpu (Stored given) w = by (is_home given w)
  where
    by : (b : Bool) → cpu_of (cond {A = WorkerState} b (with_taken (come_home given w.seat.node) w) (sent_home given w)) ≡ cpu_of w
    by true = home_cpu given w.seat.node
    by false = refl

pub step_cpu : (entries : List Entry) (what : TraceOp) (w : WorkerState) → cpu_of (done entries what w) ≡ cpu_of w
step_cpu entries (op.Page key order) w = allocated_cpu key order _ w (block_cpu (current_tag w) order w.seat.node)
step_cpu entries (op.Kmalloc key size) w = allocated_cpu key 0 _ w (object_cpu (current_tag w) size w.seat.node)
step_cpu entries (op.Free key) w = back_cpu (content_at key w.live) (with_moves (close_moves (cpu_of w) (held_of (content_at key w.live))) (with_live (without key w.live) w))
step_cpu entries (op.Split key order first) w = refl
step_cpu entries (op.Swap one two) w = refl
step_cpu entries (op.Trim key pages) w = refl
step_cpu entries (op.Hook section index) w = refl
step_cpu entries op.Unhook w = refl
step_cpu entries (op.Enter section) w = refl
step_cpu entries (op.Leave section) w = refl
step_cpu entries (op.Unload section) w = refl

-- ---- all ops of a CPU

pub all_of : (is_one : ℕ → Bool) (entries : List Entry) (ops : List TraceOp) (w : WorkerState) → is_one (cpu_of w) ≡ true → AreOf is_one w.tally.moves → AreOf is_one (all_done entries ops w).tally.moves
all_of is_one entries [] w so a = a
all_of is_one entries (what ∷ ops) w so a = all_of is_one entries ops (done entries what w) (ap is_one (step_cpu entries what w) ∙ so) (step_of is_one entries what w so a)
