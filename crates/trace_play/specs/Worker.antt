-- What the ops of one CPU do in a round, one after the other.
use Rattle.std.specs.Prelude.{ℕ, ◌+◌, ◌*◌, ◌==◌, Bool, Option, Some, None, List, [], ◌∷◌, ◌++◌, drop, fold, slice_get, if◌then◌else◌}
use Rattle.std.specs.List.{find}
use Rattle.tag_model.specs.declared.state.Tag.{Tag}
use Rattle.tag_model.specs.declared.state.Held.TheVariants as held
use Rattle.tag_model.specs.Moves.{Move}
use Rattle.tag_model.specs.RefMoves.{close_moves, split_moves, trim_moves}
use Rattle.module_area.specs.declared.entry.Entry.{Entry}
use Rattle.module_area.specs.Entries.{is_loaded_as}
use Rattle.split_swap.specs.Parts.{parts_in}
use Rattle.slab_cache.specs.Slabs.{NodeState}
use Rattle.slab_cache.specs.Storage.{Storage, Pages, Object, Uncounted, home_of, has_cell}
use Rattle.slab_cache.specs.Giving.{Given, given_block, given_object}
use Rattle.slab_cache.specs.Homing.{Taken, come_home}
use Rattle.trace.specs.declared.traces.TraceOp.{TraceOp}
use Rattle.trace.specs.declared.traces.TraceOp.TheVariants as op
use Rattle.trace_play.specs.Live.{Content, Nothing, Stored, Live, content_at, put, without, held_of, order_of, split_live, swap_live, trim_live}

-- what is a CPU's own: its node; the tags of the hooks that are out, the last one first; storage of other nodes that it freed
pub record Seat : Type 0 where
  pub node : NodeState
  pub hooks : List Tag
  pub returning : List Storage

-- what was done: the moves of words, allocations that found no frames, and objects without a cell
pub record Tally : Type 0 where
  pub moves : List Move
  pub failed : ℕ
  pub uncounted : ℕ

pub record WorkerState : Type 0 where
  pub seat : Seat
  pub live : Live
  pub tally : Tally

abbrev pub cpu_of : WorkerState → ℕ
cpu_of w = w.seat.node.node.cpu

-- the tag under which is allocated, if a hook is out
abbrev pub current_tag : WorkerState → Option Tag
current_tag w = slice_get w.seat.hooks 0

abbrev pub with_moves : List Move → WorkerState → WorkerState
with_moves moves w = record w { tally = record w.tally { moves = w.tally.moves ++ moves } }

abbrev pub with_node : NodeState → WorkerState → WorkerState
with_node node w = record w { seat = record w.seat { node = node } }

abbrev pub with_hooks : List Tag → WorkerState → WorkerState
with_hooks hooks w = record w { seat = record w.seat { hooks = hooks } }

abbrev pub with_live : Live → WorkerState → WorkerState
with_live live w = record w { live = live }

-- ---- an allocation

abbrev pub one_failed : WorkerState → WorkerState
one_failed w = record w { tally = record w.tally { failed = w.tally.failed + 1 } }

abbrev pub one_given : Storage → WorkerState → WorkerState
one_given given w = if has_cell given then w else record w { tally = record w.tally { uncounted = w.tally.uncounted + 1 } }

-- the key has what was given, or nothing of the order
abbrev pub allocated : ℕ → ℕ → Option Given → WorkerState → WorkerState
allocated key order None w = one_failed (with_live (put key (Nothing order) w.live) w)
allocated key order (Some given) w =
    one_given given.storage (with_moves given.moves (with_node given.node (with_live (put key (Stored given.storage) w.live) w)))

-- ---- a free

abbrev pub is_home : Storage → WorkerState → Bool
is_home given w = home_of given == cpu_of w

abbrev pub with_taken : Taken → WorkerState → WorkerState
with_taken taken w = with_moves taken.moves (with_node taken.node w)

-- storage whose reference is closed
abbrev pub closed : Storage → Storage
closed (Pages block) = Pages (record block { holds = held.None })
closed (Object home frame place vector holds) = Object home frame place vector held.None
closed (Uncounted home frame place) = Uncounted home frame place

abbrev pub sent_home : Storage → WorkerState → WorkerState
sent_home given w = record w { seat = record w.seat { returning = w.seat.returning ++ closed given ∷ [] } }

-- storage of this CPU's node comes home at once, and that of others at the barrier
abbrev pub given_back : Content → WorkerState → WorkerState
given_back (Nothing order) w = w
given_back (Stored given) w = if is_home given w then with_taken (come_home given w.seat.node) w else sent_home given w

abbrev pub freed : ℕ → WorkerState → WorkerState
freed key w =
    let content = content_at key w.live in
    given_back content (with_moves (close_moves (cpu_of w) (held_of content)) (with_live (without key w.live) w))

-- ---- the other ops

abbrev pub split : ℕ → ℕ → ℕ → WorkerState → WorkerState
split key order first w =
    let content = content_at key w.live in
    with_moves (split_moves (cpu_of w) (parts_in order (order_of content)) (held_of content)) (with_live (split_live key order first w.live) w)

abbrev pub trim : ℕ → ℕ → WorkerState → WorkerState
trim key bytes w = with_moves (trim_moves (cpu_of w) bytes (held_of (content_at key w.live))) (with_live (trim_live key bytes w.live) w)

-- a tag by its index in the kernel's section, or in that of a loaded module
abbrev pub tag_from : ℕ → Option Entry → Tag
tag_from index None = record { number = index; «module» = 0 }
tag_from index (Some entry) = record { number = entry.start + index; «module» = entry.id }

abbrev pub tag_in : List Entry → ℕ → ℕ → Tag
tag_in entries section index = tag_from index (if section == 0 then None else find (is_loaded_as section) entries)

-- one op, with the modules as the round begins; `enter`, `leave` and `unload` concern no storage
abbrev pub done : List Entry → TraceOp → WorkerState → WorkerState
done entries (op.Page key order) w = allocated key order (given_block (current_tag w) order w.seat.node) w
done entries (op.Kmalloc key size) w = allocated key 0 (given_object (current_tag w) size w.seat.node) w
done entries (op.Free key) w = freed key w
done entries (op.Split key order first) w = split key order first w
done entries (op.Swap one two) w = with_live (swap_live one two w.live) w
done entries (op.Trim key pages) w = trim key (pages * 4096) w
done entries (op.Hook section index) w = with_hooks (tag_in entries section index ∷ w.seat.hooks) w
done entries op.Unhook w = with_hooks (drop 1 w.seat.hooks) w
done entries (op.Enter section) w = w
done entries (op.Leave section) w = w
done entries (op.Unload section) w = w

abbrev pub all_done : List Entry → List TraceOp → WorkerState → WorkerState
all_done entries ops w = fold (λ worker one. done entries one worker) w ops
